use Rattle.std.proofs.Common.{◌∙◌, ◌+◌, ℕ, ap, arith, inl, refl, sym}
use Rattle.std.proofs.lemmas.Bool.{false≢true}
use Rattle.hose_book.specs.Ledger.{Ledger}
use Rattle.hose_follow.proofs.offering.offer.Goals as goal

pub returns-then-epoch-own_epoch : goal.returns-then-epoch-own_epoch
returns-then-epoch-own_epoch g c =
    let here = c.epoch-own_epoch.ensures.value ∙ ap (λ (l : Ledger). l.book.epoch) c.book.ensures in
    inl (record { past = omega (arith, here); own = here; same = refl })

pub returns-then-epoch-own_epoch-2 : goal.returns-then-epoch-own_epoch-2
returns-then-epoch-own_epoch-2 g c =
    let here = c.epoch-own_epoch.ensures.value ∙ ap (λ (l : Ledger). l.book.epoch) c.book.ensures in
    (omega (arith, here), ap (λ (n : ℕ). n + 1) here, refl)

pub returns-then-not-is_same : goal.returns-then-not-is_same
returns-then-not-is_same g c =
    let here = c.epoch-own_epoch.ensures.value ∙ ap (λ (l : Ledger). l.book.epoch) c.book.ensures in (
      record {
        epoch = omega (arith, here);
        at = here;
        own = c.chain-own.ensures;
        given = refl;
        differs = λ same. false≢true (sym c.if-not-is_same.true ∙ c.is_same.ensures.1 (sym same));
      },
      refl,
    )

pub enter-requires : goal.enter-requires
enter-requires g c =
    let here = c.epoch-own_epoch.ensures.value ∙ ap (λ (l : Ledger). l.book.epoch) c.book.ensures in
    omega (arith, here)

pub returns : goal.returns
returns g c =
    let same = c.is_same.ensures.0 c.if-not-is_same.false in
    c.enter.ensures c.args.chain (λ history doubt has. sym same ∙ c.chain-own.ensures history doubt has)
