use Rattle.hose_disk.proofs.Items.{NoneBefore}
use Rattle.hose_disk.proofs.named.place_of.Given as goal

abbrev pub invariant-loop-place : goal.invariant-loop-place
invariant-loop-place g l = NoneBefore l.name l.items l.place
