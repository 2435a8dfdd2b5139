-- A line of text of at most 1,024 bytes, and what is put behind it. What has no room is left out.
use Rattle.std.specs.Prelude.{◌≡◌, ℕ, List, ◌++◌, take}

abbrev pub line_room : ℕ
line_room = 1024

-- the text before and then these bytes, as far as there is room
abbrev pub Puts : List ℕ → List ℕ → List ℕ → Type 0
Puts bytes before after = after ≡ take line_room (before ++ bytes)
