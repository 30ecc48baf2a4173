use Rattle.std.proofs.Common.{length, subst, sym}
use Rattle.hose_turn.proofs.Places.{no_places}
use Rattle.hose_shared.specs.steps.Sharing.{IsPassOf}
use Rattle.hose_shared.proofs.shared.Shared.split.Goals as goal

pub returns-clause-both : goal.returns-clause-both
returns-clause-both g c =
    let of = c.requires.of in
    let pass = c.args.pass.now in (
      subst (IsPassOf c.args.self.now) (sym c.split.ensures.kept) (record { turn = of.turn; network = of.network; places = of.places }),
      subst (IsPassOf c.args.self.now) (sym c.split.ensures.given) (record { turn = of.turn; network = of.network; places = no_places (length pass.origin.since) (length pass.seen) }),
    )
