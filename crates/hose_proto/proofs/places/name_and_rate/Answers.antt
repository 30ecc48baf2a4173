use Rattle.std.proofs.Common.{◌≡◌, ◌∙◌, Bool, true, false, IfNone, IfSome, ltb, refl, sym, subst, arith}
use Rattle.std.specs.Bool.{then_some}
use Rattle.std.proofs.lemmas.Bool.{ltb-false, false≢true}
use Rattle.hose_graph.specs.Name.{IsName}
use Rattle.hose_words.proofs.DecimalLemmas.{decimal_told, told_decimal}
use Rattle.hose_proto.proofs.Colons.{named_parts, named_told, no_colon}
use Rattle.hose_proto.proofs.places.name_and_rate.Goals as goal

pub returns-in_err-name-2-clause-none : goal.returns-in_err-name-2-clause-none
returns-in_err-name-2-clause-none c =
    rw c.from_residual-in_err-name-2.ensures (λ is.
    let parts = named_parts c.args.word.now c.in_ok-name.name.now c.in_ok-name.rate.now is.0 is.1 c.in_ok-name.ensures.spelled c.in_ok-name.ensures.first is.2 (no_colon is.0 is.3) in
    false≢true (c.in_err-name-2.ensures.is_name.1 (subst IsName (sym parts.0) is.3)))

pub returns-in_err-rate-clause-none : goal.returns-in_err-rate-clause-none
returns-in_err-rate-clause-none c =
    rw c.from_residual-in_err-rate.ensures (λ is.
    let parts = named_parts c.args.word.now c.in_ok-name.name.now c.in_ok-name.rate.now is.0 is.1 c.in_ok-name.ensures.spelled c.in_ok-name.ensures.first is.2 (no_colon is.0 is.3) in
    c.in_err-rate.ensures.none is.1 is.4.1 (decimal_told c.in_ok-name.rate.now is.1 parts.1 (omega (arith, is.4.1))))

-- what holds where a test passes holds of what it gives
at_some : {A : Type 0} (test : Bool) (end : A) (P : A → Type 0) → P end → IfSome (then_some test end) P
at_some true end P holds = holds
at_some false end P holds = tt

pub returns-clause-spelled : goal.returns-clause-spelled
returns-clause-spelled c =
    let rate = c.in_ok-rate.rate in
    let told = told_decimal c.in_ok-name.rate.now rate c.in_ok-rate.ensures.value.0 (omega (arith, c.in_ok-rate.ensures.value.1)) in
    rw c.then_some.ensures (at_some (ltb 0 rate) (c.in_ok-name-2.name, rate) _
    (named_told c.args.word.now c.in_ok-name.name.now c.in_ok-name.rate.now c.in_ok-name-2.name rate c.in_ok-name.ensures.spelled (sym c.in_ok-name-2.ensures.same) told))

-- what holds where a test fails holds where it gives nothing
at_none : {A : Type 0} (test : Bool) (end : A) (P : Type 0) → (test ≡ false → P) → IfNone (then_some test end) P
at_none true end P fails = tt
at_none false end P fails = fails refl

pub returns-clause-none : goal.returns-clause-none
returns-clause-none c =
    let rate = c.in_ok-rate.rate in
    rw c.then_some.ensures (at_none (ltb 0 rate) (c.in_ok-name-2.name, rate) _ (λ zero is.
    let parts = named_parts c.args.word.now c.in_ok-name.name.now c.in_ok-name.rate.now is.0 is.1 c.in_ok-name.ensures.spelled c.in_ok-name.ensures.first is.2 (no_colon is.0 is.3) in
    let same : rate ≡ is.1 = sym c.in_ok-rate.ensures.value.0.value ∙ (decimal_told c.in_ok-name.rate.now is.1 parts.1 (omega (arith, is.4.1))).value in
    omega (arith, ltb-false 0 rate zero, is.4.0)))
