use Rattle.std.proofs.Common.{Err, refl, sym, subst, le_refl}
use Rattle.std.specs.Prelude.{⊤}
use Rattle.hose_store.proofs.OneMeaning.{recovered_once}
use Rattle.hose_store.proofs.Standing.{closed_left, opened_stands, run_stands}
use Rattle.hose_outside.specs.OnDisk.{opening_of}
use Rattle.hose_outside.specs.steps.Unopened.{IsNotOpened}
use Rattle.hose_outside.specs.declared.fault.Fault.{Fault}
use Rattle.hose_outside.proofs.Journals.{left_unused, not_opened}
use Rattle.hose_outside.proofs.journal.open_store.Goals as goal

pub returns-in-Ok-clause-opens : goal.returns-in-Ok-clause-opens
returns-in-Ok-clause-opens g c =
    let old = c.args.disk in
    let store = c.in-Ok.store in
    let found = c.in-Ok.ensures in
    let since = found.opened.history in
    let begins = opening_of g.D.Disk c.args.topology since old in
    let counts = g.met.D.Disk.counts_now in
    let stands = opened_stands g.D.Disk g.P.Premises.kind (g.D.Disk.may_leave old) begins old store found.opened refl found.any_moment found.keeps.tells refl (counts old) (g.met.D.Disk.untold store.journal.disk) (le_refl _) (g.met.D.Disk.only_now old) in
    record {
      lawful = record { counts_now = counts; only_now = g.met.D.Disk.only_now; untold = g.met.D.Disk.untold };
      opened = found.opened;
      images = found.any_moment;
      count = found.count;
      stands = stands;
      unused = λ left closing closes. left_unused g.D.Disk c.args.topology old left store closing counts found.opened found.any_moment closes;
      leaves = λ history last left closing goes closes. closed_left g.D.Disk g.P.Premises.kind (g.D.Disk.may_leave old) begins ⊤ last left history closing (counts left)
          (run_stands g.D.Disk g.P.Premises.kind (g.D.Disk.may_leave old) begins since store history last stands goes) closes;
    }

pub returns-in-Err-clause-refused : goal.returns-in-Err-clause-refused
returns-in-Err-clause-refused g c =
    let left = c.in-Err.refused.1 in
    subst (λ (why : Fault). IsNotOpened g.D.Disk c.args.disk left c.args.topology (Err why)) (sym c.from.ensures)
    (not_opened g.D.Disk c.args.topology c.args.disk left c.in-Err.refused.0 (recovered_once c.args.topology) c.in-Err.ensures.any_moment c.in-Err.ensures.refused)
