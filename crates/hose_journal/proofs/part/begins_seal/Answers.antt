use Rattle.std.proofs.Common.{◌∙◌, sym, arith}
use Rattle.std.proofs.lemmas.List.{length-take-le}
use Rattle.hose_journal.proofs.Parts.{seal_begins, seal_taken}
use Rattle.hose_journal.proofs.part.begins_seal.Goals as goal

pub slice_bounds-is_same-end : goal.slice_bounds-is_same-end
slice_bounds-is_same-end c = omega (arith, length-take-le 38 c.args.bytes.now (omega arith))

pub returns : goal.returns
returns c = (
  λ same. seal_taken c.args.bytes.now c.args.value.now (omega arith) (c.is_same.ensures.0 same ∙ c.sealing.ensures),
  λ begins. c.is_same.ensures.1 ((seal_begins c.args.bytes.now c.args.value.now c.told-value begins).1 ∙ sym c.sealing.ensures),
)
