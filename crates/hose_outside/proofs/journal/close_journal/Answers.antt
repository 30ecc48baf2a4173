use Rattle.std.proofs.Common.{ap, refl}
use Rattle.hose_disk.specs.Cabinet.{CabinetFrame}
use Rattle.hose_outside.proofs.journal.close_journal.Goals as goal

pub returns-clause-closes : goal.returns-clause-closes
returns-clause-closes g c =
    let closed = c.close-closing in
    let back = c.back.ensures in
    record {
      left = closed.result.1;
      closes = closed.ensures.closes;
      call = closed.ensures.call;
      back = record { held = back.held; never_falls = back.never_falls; call = back.call };
      keeps = record {
        none_out = ap (λ (f : CabinetFrame). f.out) back.call;
        stays = record { never_falls = back.never_falls; number = refl; loan = refl };
      };
      absent = ap (λ (f : CabinetFrame). f.absent) back.call;
    }
