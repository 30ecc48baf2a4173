use Rattle.std.proofs.Common.{◌≢◌, rules, refl, arith, None}
use Rattle.hose_journal.specs.steps.Gates.{IsDoubtful}
use Rattle.hose_journal.specs.Entries.{entered}
use Rattle.hose_journal.specs.steps.Journal.{Account, IsListAmid, Stands}
use Rattle.hose_journal.specs.Moments.{LeavesOnly}
use Rattle.hose_journal.specs.declared.layout.TheConstants.{CLOSED, OPEN}
use Rattle.hose_journal.proofs.Accounts.{closed_here, here, in_doubt, revoked, stands_on, stands_kept}
use Rattle.hose_journal.proofs.Gates.{shut_gate}
use Rattle.hose_journal.proofs.Runs.{now_too, on_err_of}
use Rattle.hose_journal.proofs.journal.Journal.settle.Goals.{After-set_gate}
use Rattle.hose_journal.proofs.journal.Journal.settle.Goals as goal

pub set_gate-requires-clause-staged : goal.set_gate-requires-clause-staged
set_gate-requires-clause-staged g c =
    let account = c.requires.0 in
    let stands = c.requires.1 in
    let doubt = in_doubt g.D.Disk c.args.self.now account stands (search rules) in
    (here g.D.Disk c.args.self.now account stands, closed_here g.D.Disk c.args.self.now account stands (entered doubt.0), stands.place, doubt.3)

-- up to the write of the gate
closed : (g : _) (c : After-set_gate g) (account : Account) → Stands g.D.Disk c.args.self.now account → LeavesOnly g.D.Disk c.args.self.now.disk c.set_gate.new.disk (IsListAmid account None)
closed g c account stands =
    let doubt = in_doubt g.D.Disk c.args.self.now account stands (search rules) in
    let run = c.set_gate.ensures.any_moment (here g.D.Disk c.args.self.now account stands) (closed_here g.D.Disk c.args.self.now account stands (entered doubt.0)) stands.place doubt.3 in
    revoked g.D.Disk c.args.self.now account stands c.args.self.now.disk c.set_gate.new.disk doubt.0 doubt.1 doubt.2 run

pub returns-in_err-set_gate-clause-any_moment : goal.returns-in_err-set_gate-clause-any_moment
returns-in_err-set_gate-clause-any_moment g c = closed g (goal.at.returns-in_err-set_gate-clause-any_moment g c).After-set_gate

pub returns-in_ok-set_gate-clause-any_moment : goal.returns-in_ok-set_gate-clause-any_moment
returns-in_ok-set_gate-clause-any_moment g c = closed g (goal.at.returns-in_ok-set_gate-clause-any_moment g c).After-set_gate

pub returns-in_err-set_gate-clause-failed : goal.returns-in_err-set_gate-clause-failed
returns-in_err-set_gate-clause-failed g c = on_err_of c.from_residual.result _ (λ account stands.
    let doubt = in_doubt g.D.Disk c.args.self.now account stands (search rules) in
    let before = here g.D.Disk c.args.self.now account stands in
    let bytes = closed_here g.D.Disk c.args.self.now account stands (entered doubt.0) in
    let run = c.set_gate.ensures.any_moment before bytes stands.place doubt.3 in
    stands_kept g.D.Disk c.args.self.now account stands _ doubt.0 doubt.1 refl refl refl refl stands.room
    (now_too g.D.Disk c.args.self.now.disk c.set_gate.new.disk (IsDoubtful before bytes) (g.met.D.Disk.counts_now c.set_gate.new.disk) run))

pub returns-in_ok-set_gate-clause-settled : goal.returns-in_ok-set_gate-clause-settled
returns-in_ok-set_gate-clause-settled g c = λ account stands.
    let doubt = in_doubt g.D.Disk c.args.self.now account stands (search rules) in
    let before = here g.D.Disk c.args.self.now account stands in
    let bytes = closed_here g.D.Disk c.args.self.now account stands (entered doubt.0) in
    let set = c.in_ok-set_gate.ensures.set before bytes stands.place doubt.3 in
    let shut : CLOSED ≢ OPEN = omega arith in
    stands_on g.D.Disk c.args.self.now account stands _ None refl refl refl refl stands.room tt
    (λ image is_image. shut_gate before bytes image CLOSED shut (set image is_image))
