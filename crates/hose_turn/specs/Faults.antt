-- Counts of faults, which stand still at the end of their type, and the numbers of faults that
-- passes have met.
use Rattle.std.specs.Prelude.{ℕ, ◌-◌, ◌^◌}

-- where a count stands that cannot rise
abbrev pub end_of_count : ℕ
end_of_count = 2 ^ 64 - 1
