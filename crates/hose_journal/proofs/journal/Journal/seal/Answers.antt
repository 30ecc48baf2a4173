use Rattle.std.proofs.Common.{◌∙◌, ◌+◌, length, ℕ, refl, sym, ap, arith}
use Rattle.hose_journal.specs.steps.Entries.{IsListOf}
use Rattle.hose_journal.specs.steps.Journal.{Account, Stands}
use Rattle.hose_journal.specs.Moments.{LeavesOnly}
use Rattle.hose_journal.proofs.Accounts.{closed_sure, gate_low, here, seal_length, sealing, stands_sealed}
use Rattle.hose_journal.proofs.Appends.{opened_as, sealing_opened, sealing_staged}
use Rattle.hose_journal.proofs.journal.Journal.seal.Goals.{After-set_gate}
use Rattle.hose_journal.proofs.journal.Journal.seal.Goals as goal

pub stage-requires-clause-small : goal.stage-requires-clause-small
stage-requires-clause-small g c =
    let account = c.requires.stands.0 in
    let stands = c.requires.stands.1 in
    let old = c.args.self.now in
    let is = sealing g.D.Disk old account stands c.deref.result.now (c.deref.ensures.value ∙ c.fill_seal.ensures.bytes) in
    omega (arith, gate_low g.D.Disk old account stands (omega (arith, c.requires.stands.2)), ap length is, seal_length g.D.Disk old account stands)

pub stage-requires-clause-closed : goal.stage-requires-clause-closed
stage-requires-clause-closed g c =
    let account = c.requires.stands.0 in
    let stands = c.requires.stands.1 in
    let old = c.args.self.now in
    (here g.D.Disk old account stands, stands.place, closed_sure g.D.Disk old account stands c.requires.sure)

pub returns-in_err-stage-clause-any_moment : goal.returns-in_err-stage-clause-any_moment
returns-in_err-stage-clause-any_moment g c = λ account stands few.
    let old = c.args.self.now in
    sealing_staged g.D.Disk old account stands c.stage.new.disk (c.stage.ensures.any_moment _ stands.place (closed_sure g.D.Disk old account stands c.requires.sure))

pub set_gate-requires-clause-staged : goal.set_gate-requires-clause-staged
set_gate-requires-clause-staged g c =
    let account = c.requires.stands.0 in
    let stands = c.requires.stands.1 in
    let old = c.args.self.now in
    (here g.D.Disk old account stands, c.deref.result.now, stands.place, c.in_ok-stage.ensures.staged _ stands.place (closed_sure g.D.Disk old account stands c.requires.sure))

-- up to the write of the gate
opened : (g : _) (c : After-set_gate g) (account : Account) → Stands g.D.Disk c.args.self.now account → LeavesOnly g.D.Disk c.args.self.now.disk c.set_gate.new.disk (IsListOf account.digest account.entries)
opened g c account stands =
    let old = c.args.self.now in
    let closed = closed_sure g.D.Disk old account stands c.requires.sure in
    let is = sealing g.D.Disk old account stands c.deref.result.now (c.deref.ensures.value ∙ c.fill_seal.ensures.bytes) in
    sealing_opened g.D.Disk old account stands c.stage.new.disk c.set_gate.new.disk c.deref.result.now c.requires.plain is (c.stage.ensures.any_moment _ stands.place closed)
    (c.set_gate.ensures.any_moment (here g.D.Disk old account stands) c.deref.result.now stands.place (c.in_ok-stage.ensures.staged _ stands.place closed))

pub returns-in_err-set_gate-clause-any_moment : goal.returns-in_err-set_gate-clause-any_moment
returns-in_err-set_gate-clause-any_moment g c = λ account stands few. opened g (goal.at.returns-in_err-set_gate-clause-any_moment g c).After-set_gate account stands

pub returns-clause-any_moment : goal.returns-clause-any_moment
returns-clause-any_moment g c = λ account stands few. opened g (goal.at.returns-clause-any_moment g c).After-set_gate account stands

pub returns-clause-stands : goal.returns-clause-stands
returns-clause-stands g c = λ account stands few.
    let old = c.args.self.now in
    let closed = closed_sure g.D.Disk old account stands c.requires.sure in
    let is = sealing g.D.Disk old account stands c.deref.result.now (c.deref.ensures.value ∙ c.fill_seal.ensures.bytes) in
    let set = c.in_ok-set_gate.ensures.set (here g.D.Disk old account stands) c.deref.result.now stands.place (c.in_ok-stage.ensures.staged _ stands.place closed) in
    let images = opened_as g.D.Disk c.set_gate.new.disk (here g.D.Disk old account stands) _ _ is set in
    let long = c.len.ensures ∙ sym c.deref.ensures.len ∙ ap length is in
    stands_sealed g.D.Disk old account stands _ c.requires.sure few c.requires.plain (ap (λ (n : ℕ). old.gate + n) long) refl refl refl c.fill_seal.ensures.room images
