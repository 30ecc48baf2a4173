use Rattle.std.proofs.Common.{◌∙◌, ◌++◌, ◌∷◌, [], ℕ, List, ap, map, sym, arith}
use Rattle.std.specs.List.{range_with_len}
use Rattle.std.proofs.lemmas.List.FromFn.{map-range_with_len_more}
use Rattle.hose_tree.specs.steps.Side.{paired}
use Rattle.hose_tree.proofs.pairing.heaviest_row.Goals as goal

pub loop-j-preserved : goal.loop-j-preserved
loop-j-preserved c =
    let f : ℕ → ℕ = paired c.args.hose.now c.args.marks.now c.args.i in
    c.in_ok-push.ensures.items
    ∙ ap (λ (row : List ℕ). row ++ c.paired_rate.result ∷ []) c.loop-j.invariant
    ∙ ap (λ (n : ℕ). map f (range_with_len 0 c.loop-j.j) ++ n ∷ []) c.paired_rate.ensures
    ∙ sym (map-range_with_len_more f 0 c.loop-j.j c.loop-j.j (omega arith))
