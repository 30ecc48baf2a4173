use Rattle.std.proofs.Common.{arith, ap, length, ◌∙◌, drop}
use Rattle.std.proofs.lemmas.List.{take_rest, length-drop}
use Rattle.hose_io.specs.Count.{one_more}
use Rattle.hose_io.proofs.Pieces.{short_of_piece, whole_piece}
use Rattle.hose_io.proofs.Streams.{Grows-take}
use Rattle.hose_io.proofs.gather.write_all.Goals as goal

pub loop-written-preserved : goal.loop-written-preserved
loop-written-preserved g c =
    let put = c.in_ok-written.ensures in
    let before = c.loop-written.invariant in
    let left = before.no_piece c.loop-written-test.true in
    let pieces = rw take_rest at put.pieces in
    let count = length-drop c.loop-written.written c.args.bytes.now in
    let k = c.in_ok-written.field-0 in
    let n = length (drop c.loop-written.written c.args.bytes.now) in
    record {
      within = omega (arith, rw take_rest at put.room, count, before.within);
      grows = Grows-take _ _ _ _ _ _ before.grows (rw take_rest at put.appended);
      frame = put.met.ok ∙ before.frame;
      untouched = λ none. absurd (omega (arith, put.some));
      no_piece = λ short. short_of_piece k n _ _ pieces (omega (arith, count, short)) ∙ left;
      one_piece = λ whole some. whole_piece k n _ _ pieces (omega (arith, count, whole)) ∙ ap one_more left;
    }

pub returns-clause-calls_none : goal.returns-clause-calls_none
returns-clause-calls_none g c = λ empty. c.loop-written.invariant.untouched (omega (arith, ap length empty))
