use Rattle.std.proofs.Common.{◌≤◌, ℕ, List, get_or, length, subst, sym, ap, arith}
use Rattle.std.proofs.lemmas.List.{take_all}
use Rattle.std.proofs.lemmas.List.Elements.{All-more}
use Rattle.hose_law.specs.Decision.{Fits}
use Rattle.hose_law.specs.Room.{free_rates}
use Rattle.hose_book.proofs.Judging.{first_full}
use Rattle.hose_book.specs.steps.Refusal.{IsAbove, IsLowestFull}
use Rattle.hose_book.proofs.checking.first_full_link.Goals as goal

pub returns-then-amount-free_rate-clause-some : goal.returns-then-amount-free_rate-clause-some
returns-then-amount-free_rate-clause-some c =
    let amounts = c.args.amounts.now in
    let free = free_rates c.args.top.now c.args.loads.now in
    let i = c.loop-link.link-index in
    let same = c.pairs-link-items.ensures.value in
    let link = ap (λ (ps : List (ℕ × ℕ)). (get_or ps i (0, 0)).0) same in
    let above : IsAbove free (get_or amounts i (0, 0)) =
    subst (λ (ps : List (ℕ × ℕ)). IsAbove free (get_or ps i (0, 0))) same (omega (arith, c.free_rate.ensures, c.if-amount-free_rate.true)) in
    subst (IsLowestFull free amounts) (sym link) (first_full free amounts i c.pairs-link-items.ensures.ascending (omega (arith, c.loop-link-test.true, ap length same)) c.loop-link.invariant above)

pub loop-link-preserved : goal.loop-link-preserved
loop-link-preserved c =
    let amounts = c.args.amounts.now in
    let free = free_rates c.args.top.now c.args.loads.now in
    let i = c.loop-link.link-index in
    let same = c.pairs-link-items.ensures.value in
    let P : ℕ × ℕ → Type 0 = λ pair. pair.1 ≤ get_or free pair.0 0 in
    All-more P amounts i (0, 0) (omega (arith, c.loop-link-test.true, ap length same)) c.loop-link.invariant
    (subst (λ (ps : List (ℕ × ℕ)). P (get_or ps i (0, 0))) same (omega (arith, c.free_rate.ensures, c.if-amount-free_rate.false)))

pub returns-clause-none : goal.returns-clause-none
returns-clause-none c =
    let amounts = c.args.amounts.now in
    subst (Fits (free_rates c.args.top.now c.args.loads.now)) (take_all c.loop-link.link-index amounts (omega (arith, c.loop-link-test.false, ap length c.pairs-link-items.ensures.value))) c.loop-link.invariant
