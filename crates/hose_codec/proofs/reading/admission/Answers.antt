use Rattle.std.proofs.Common.{◌≡◌, ◌≢◌, [], refl}
use Rattle.std.proofs.lemmas.Result.{err_from_is_err_and}
use Rattle.hose_codec.specs.declared.limits.CodecFault.TheVariants.{Bad}
use Rattle.hose_codec.proofs.Entries.{no_ends, no_amounts, no_admission_end, admission_spelled}
use Rattle.hose_codec.proofs.reading.admission.Goals as goal

pub returns-in_err-ends : goal.returns-in_err-ends
returns-in_err-ends c =
    let p = err_from_is_err_and c.from_residual.result c.from_residual.ensures.1 in
    rw (p.1, p.2, c.in_err-ends.ensures.0) (no_ends _ _ _ c.in-Some.ensures c.in_err-ends.ensures.1)

pub returns-in_err-amounts : goal.returns-in_err-amounts
returns-in_err-amounts c =
    let p = err_from_is_err_and c.from_residual-in_err-amounts.result c.from_residual-in_err-amounts.ensures.1 in
    rw (p.1, p.2, c.in_err-amounts.ensures.0)
    (no_amounts _ _ _ _ _ c.in-Some.ensures c.in_ok-ends.ensures c.in_err-amounts.ensures.1)

pub returns-in_err-end : goal.returns-in_err-end
returns-in_err-end c =
    let p = err_from_is_err_and c.from_residual-in_err-end.result c.from_residual-in_err-end.ensures.1 in
    let bad : c.in_err-end.field-0.0 ≡ Bad = let same = c.in_err-end.ensures.bad in cc in
    let some : c.amounts.new.self ≢ [] = λ nothing. let ended = c.in_err-end.ensures.ok.1 nothing in absurd cc in
    rw (p.1, p.2, bad)
    (no_admission_end _ _ _ _ _ _ _ c.in-Some.ensures c.in_ok-ends.ensures c.in_ok-amounts.ensures some)

pub returns-in_err-pairs_of : goal.returns-in_err-pairs_of
returns-in_err-pairs_of c =
    let p = err_from_is_err_and c.from_residual-in_err-pairs_of.result c.from_residual-in_err-pairs_of.ensures.1 in
    rw (p.1, p.2)
    (_, admission_spelled _ _ _ _ _ _ _ c.in-Some.ensures c.in_ok-ends.ensures c.in_ok-amounts.ensures (c.in_ok-end.ensures.ok.0 refl))

pub returns-in_err-pairs_of-2 : goal.returns-in_err-pairs_of-2
returns-in_err-pairs_of-2 c =
    let p = err_from_is_err_and c.from_residual-in_err-pairs_of-2.result c.from_residual-in_err-pairs_of-2.ensures.1 in
    rw (p.1, p.2)
    (_, admission_spelled _ _ _ _ _ _ _ c.in-Some.ensures c.in_ok-ends.ensures c.in_ok-amounts.ensures (c.in_ok-end.ensures.ok.0 refl))
