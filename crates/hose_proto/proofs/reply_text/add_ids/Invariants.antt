use Rattle.std.proofs.Common.{ℕ, ◌++◌, codes, decimal, take}
use Rattle.std.specs.List.{flat_map}
use Rattle.hose_io.specs.steps.Gather.{IsAdded}
use Rattle.hose_proto.proofs.reply_text.add_ids.Given as goal

abbrev pub invariant-loop-id : goal.invariant-loop-id
invariant-loop-id g l = IsAdded g.S.Sink l.fn.gather l.fn.sink l.gather l.sink (flat_map (λ (id : ℕ). codes " " ++ decimal id) (take l.id-index l.ids))
