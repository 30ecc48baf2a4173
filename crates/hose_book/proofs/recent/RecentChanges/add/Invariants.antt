use Rattle.std.proofs.Common.{◌≡◌, ◌+◌, ◌++◌, take, vec_capacity}
use Rattle.hose_graph.specs.Ascending.{firsts}
use Rattle.hose_law.specs.steps.Tracks.{changes_of}
use Rattle.hose_book.proofs.recent.RecentChanges.add.Given as goal

abbrev pub invariant-loop-link : goal.invariant-loop-link
invariant-loop-link l = (l.self-inside.changes.items ≡ l.initial.self-inside.changes.items ++ changes_of (l.epoch + 1) (firsts (take l.link-index l.amounts)))
    × (vec_capacity l.self-inside.changes ≡ vec_capacity l.initial.self-inside.changes)
    × (l.self-inside.floor ≡ l.initial.self-inside.floor)
