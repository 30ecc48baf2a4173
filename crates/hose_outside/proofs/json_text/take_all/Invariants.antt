-- What was taken is in hand, is not too long, and no call failed.
use Rattle.std.proofs.Common.{◌≡◌, ◌-◌, ◌≤◌, length}
use Rattle.hose_io.specs.steps.Calls.{HasGone}
use Rattle.hose_io.specs.Stream.{Gives}
use Rattle.hose_outside.specs.declared.json_text.TheConstants.{JSON_LIMIT}
use Rattle.hose_outside.proofs.json_text.take_all.Given as goal

abbrev pub invariant-loop-count : goal.invariant-loop-count
invariant-loop-count g l = record {
  gives : Gives (g.S.Source.content l.fn.source) (g.S.Source.content l.source) l.bytes.items;
  short : length l.bytes.items ≤ JSON_LIMIT;
  held : g.S.Source.frame l.source ≡ g.S.Source.frame l.fn.source;
  gone : HasGone g.S.Source l.fn.source l.source;
}

-- how many bytes may still come
abbrev pub decreases-loop-count : goal.decreases-loop-count
decreases-loop-count g l = JSON_LIMIT - length l.bytes.items
