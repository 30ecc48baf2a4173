-- What the replies of a script come to together, and the line that tells it.
use Rattle.std.specs.Prelude.{ℕ, List, ◌++◌, codes, decimal, sum_by}
use Rattle.hose_graph.specs.declared.command.Reply.{Reply}
use Rattle.hose_graph.specs.declared.command.Reply.TheVariants.{Admitted, Refused, Released}
use Rattle.hose_offline.specs.declared.tally.Tally.{Tally}

-- 1 for a reply that tells an admission
abbrev pub one_if_admitted : Reply → ℕ
one_if_admitted (Admitted id cost at amounts) = 1
one_if_admitted _ = 0

-- 1 for a reply that tells a refusal
abbrev pub one_if_refused : Reply → ℕ
one_if_refused (Refused at side) = 1
one_if_refused _ = 0

-- 1 for a reply that tells a release
abbrev pub one_if_released : Reply → ℕ
one_if_released (Released id at) = 1
one_if_released _ = 0

-- the cost that a reply tells which tells an admission
abbrev pub admitted_cost : Reply → ℕ
admitted_cost (Admitted id cost at amounts) = cost
admitted_cost _ = 0

-- replies, and the epoch after the last one: how many tell an admission, a refusal and a release,
-- and the sum of what the admitted cost
abbrev pub tally_of : List Reply → ℕ → Tally
tally_of replies epoch = record {
  admitted = sum_by one_if_admitted replies;
  refused = sum_by one_if_refused replies;
  released = sum_by one_if_released replies;
  epoch = epoch;
  cost = sum_by admitted_cost replies;
}

-- a number after its word
abbrev pub told : List ℕ → ℕ → List ℕ
told word number = word ++ decimal number

-- the line that tells a seed, how many hoses there were, and the tally of their script
abbrev pub tally_line : ℕ → ℕ → Tally → List ℕ
tally_line seed hoses tally =
    told (codes "gen ") seed ++ told (codes " hoses ") hoses
    ++ told (codes " admitted ") tally.admitted ++ told (codes " refused ") tally.refused
    ++ told (codes " released ") tally.released ++ told (codes " epoch ") tally.epoch
    ++ told (codes " cost ") tally.cost ++ codes "\n"
