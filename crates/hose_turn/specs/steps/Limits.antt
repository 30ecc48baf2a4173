-- The number of shares, which definitions cite in place of the code's constant.
use Rattle.std.specs.Prelude.{ℕ}

-- how many shares all passes of one lock have together
abbrev pub all_shares : ℕ
all_shares = 1000000
