-- The limit of workers, which definitions cite in place of the code's constant.
use Rattle.std.specs.Prelude.{ℕ}

-- the greatest number of workers
abbrev pub most_workers : ℕ
most_workers = 16
