-- Document 01, "Task record, queues, holders": the codes of the bands, and their slices.
use Rattle.std.specs.Prelude.{ℕ, ◌<◌, ◌≡◌, List, [], ◌∷◌, get_or, Option, Some, None}
use Rattle.records.specs.declared.band.QoSClass.{QoSClass}
use Rattle.records.specs.declared.band.QoSClass.TheVariants.{UserInteractive, RealTimeIO, Background}

-- "band 1 (0 UserInteractive, 1 RealTimeIO, 2 Background)"
abbrev pub band_code : QoSClass → ℕ
band_code UserInteractive = 0
band_code RealTimeIO = 1
band_code Background = 2

-- the same, read from a byte
abbrev pub bands : List (Option QoSClass)
bands = Some UserInteractive ∷ Some RealTimeIO ∷ Some Background ∷ []

abbrev pub coded_band : ℕ → Option QoSClass
coded_band n = get_or bands n None

-- r is the band's code, and so a place among three queues
pub record IsBandCode (q : QoSClass) (r : ℕ) : Type 0 where
  pub is : r ≡ band_code q
  pub small : r < 3

-- "Slices by band: 2,000, 5,000, 20,000."
abbrev pub slice : QoSClass → ℕ
slice UserInteractive = 2000
slice RealTimeIO = 5000
slice Background = 20000
