-- A block is fed to the stream in as many goes as its answers need.
use Rattle.std.specs.Prelude.{Bool, true, false, ◌≡◌, ℕ, length}
use mathlib.Core.List.{List, [], ◌∷◌, ◌++◌, map, flatten}
use Rattle.frames.specs.declared.stream.Stream.{Stream}
use Rattle.claims.specs.TextClaim.{Feeding, Feedings, stream_after, used_by, Finished}
use Rattle.calls.specs.declared.Progress.{Progress}

-- The feedings are those of the block and of whatever follows it; nothing follows the last. The stream is what they hand back. Where all answers were
-- written, all of the block is used, and the last block is fed to its end.
pub record FeedsBlock (last : Bool) (stream : Stream) (block : List ℕ) (r : Progress) : Type 0 where
  pub feedings : List Feeding
  pub in_order : (more : List ℕ) → (last ≡ true → more ≡ []) → Feedings stream (block ++ more) feedings
  pub stream_is : stream_after stream feedings ≡ r.stream
  pub all_used : r.is_written ≡ true → used_by feedings ≡ length block
  pub finished : r.is_written ≡ true → last ≡ true → Finished feedings

-- a block that was read, and what came of it
pub record BlockFed : Type 0 where
  pub block : List ℕ
  pub got : Progress

-- one block after the other, each fed to the stream that the one before left, and then the end of the input; all answers could be written
unfoldable pub FeedsAll : Stream → List BlockFed → Progress → Type 0
FeedsAll stream [] end = FeedsBlock true stream [] end × (end.is_written ≡ true)
FeedsAll stream (b ∷ rest) end = FeedsBlock false stream b.block b.got × ((b.got.is_written ≡ true) × FeedsAll b.got.stream rest end)

-- all that was read
abbrev pub input_of : List BlockFed → List ℕ
input_of bs = flatten (map (λ (b : BlockFed). b.block) bs)
