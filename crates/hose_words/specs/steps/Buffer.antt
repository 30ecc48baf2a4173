-- What a buffer of a reader holds, and what its calls do to that.
use Rattle.std.specs.Prelude.{◌≡◌, ◌<◌, ℕ, Bool, true, false, List, length}
use Rattle.std.specs.List.{position_or_len, before_first, after_first}
use Rattle.hose_words.specs.Lines.{is_line_feed}

-- the line that was cut off last, the bytes that are pending, and how many more fit after them
pub record LineBuffer : Type 0 where
  pub line : List ℕ
  pub pending : List ℕ
  pub room : ℕ

-- The first line was cut off, where it was pending whole. Otherwise all is still pending.
abbrev pub CutsLine : Bool → List ℕ → List ℕ → List ℕ → Type 0
CutsLine true pending line rest = (position_or_len is_line_feed pending < length pending)
    × (line ≡ before_first is_line_feed pending) × (rest ≡ after_first is_line_feed pending)
CutsLine false pending line rest =
    (position_or_len is_line_feed pending ≡ length pending) × (rest ≡ pending)
