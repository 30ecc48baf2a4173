use Rattle.std.proofs.Common.{◌≡◌, ◌∙◌, ℕ, List, false, get_or, length, sym, subst, ap, arith}
use Rattle.std.proofs.lemmas.Bool.{false≢true}
use Rattle.std.proofs.lemmas.List.{take_all}
use Rattle.std.proofs.lemmas.List.Elements.{All-more}
use Rattle.hose_law.specs.Walk.{IsIn}
use Rattle.hose_book.proofs.Judging.{first_out}
use Rattle.hose_book.specs.steps.Refusal.{AreInService, IsLowestOut}
use Rattle.hose_book.proofs.checking.first_link_out.Goals as goal

pub returns-then-not-has-clause-some : goal.returns-then-not-has-clause-some
returns-then-not-has-clause-some c =
    let amounts = c.args.amounts.now in
    let service = c.args.service.now in
    let i = c.loop-link.link-index in
    let same = c.pairs-link-items.ensures.value in
    let link = ap (λ (ps : List (ℕ × ℕ)). (get_or ps i (0, 0)).0) same in
    let no : get_or service (get_or amounts i (0, 0)).0 false ≡ false =
    ap (λ (n : ℕ). get_or service n false) (sym link) ∙ sym c.has.ensures ∙ c.if-not-has.true in
    subst (IsLowestOut service amounts) (sym link)
    (first_out service amounts i c.pairs-link-items.ensures.ascending (omega (arith, c.loop-link-test.true, ap length same)) c.loop-link.invariant (λ is. false≢true (sym no ∙ is)))

pub loop-link-preserved : goal.loop-link-preserved
loop-link-preserved c =
    let amounts = c.args.amounts.now in
    let i = c.loop-link.link-index in
    let same = c.pairs-link-items.ensures.value in
    let P : ℕ × ℕ → Type 0 = λ pair. IsIn c.args.service.now pair.0 in
    All-more P amounts i (0, 0) (omega (arith, c.loop-link-test.true, ap length same)) c.loop-link.invariant
    (subst (λ (ps : List (ℕ × ℕ)). P (get_or ps i (0, 0))) same (sym c.has.ensures ∙ c.if-not-has.false))

pub returns-clause-none : goal.returns-clause-none
returns-clause-none c =
    let amounts = c.args.amounts.now in
    subst (AreInService c.args.service.now) (take_all c.loop-link.link-index amounts (omega (arith, c.loop-link-test.false, ap length c.pairs-link-items.ensures.value))) c.loop-link.invariant
