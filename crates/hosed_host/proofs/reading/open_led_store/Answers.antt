use Rattle.std.proofs.Common.{Err, subst, sym}
use Rattle.hose_store.proofs.OneMeaning.{recovered_once}
use Rattle.hose_outside.specs.steps.Unopened.{IsNotOpened}
use Rattle.hose_outside.specs.declared.fault.Fault.{Fault}
use Rattle.hose_outside.proofs.Journals.{not_opened}
use Rattle.hosed_host.proofs.LedOpenings.{just_opened}
use Rattle.hosed_host.proofs.reading.open_led_store.Goals as goal

pub returns-in-Ok-clause-opens : goal.returns-in-Ok-clause-opens
returns-in-Ok-clause-opens g c =
    just_opened g.D.Disk c.args.disk c.args.topology g.P.Premises.kind (record { counts_now = g.met.D.Disk.counts_now; only_now = g.met.D.Disk.only_now; untold = g.met.D.Disk.untold }) c.in-Ok.led c.in-Ok.ensures

pub returns-in-Err-clause-refused : goal.returns-in-Err-clause-refused
returns-in-Err-clause-refused g c =
    let left = c.in-Err.refused.1 in
    subst (λ (why : Fault). IsNotOpened g.D.Disk c.args.disk left c.args.topology (Err why)) (sym c.from.ensures)
    (not_opened g.D.Disk c.args.topology c.args.disk left c.in-Err.refused.0 (recovered_once c.args.topology) c.in-Err.ensures.opened.run c.in-Err.ensures.refused)
