use Rattle.std.proofs.Common.{◌≡◌, ◌∙◌, ◌+◌, inl, inr, length, List, ℕ, None, Some, refl, sym, subst, ap, arith}
use Rattle.hose_graph.specs.declared.entry.Entry.{Entry}
use Rattle.hose_codec.specs.Spelling.{IsEntry}
use Rattle.hose_codec.proofs.Entries.{length-spelling}
use Rattle.hose_journal.specs.steps.Gates.{IsDoubtful}
use Rattle.hose_journal.specs.Image.{IsClosed}
use Rattle.hose_journal.specs.steps.Journal.{Account, IsListAmid, IsReady, Stands, with_doubt}
use Rattle.hose_journal.specs.Moments.{LeavesOnly}
use Rattle.hose_journal.proofs.Accounts.{closed_length, gate_low, opened_lists, stands_added, stands_on}
use Rattle.hose_journal.proofs.Appends.{before_entry, closed_entry, opened_as, record_is, record_of, until_opened, until_staged}
use Rattle.hose_journal.proofs.Runs.{now_too, on_err_of}
use Rattle.hose_journal.proofs.journal.Journal.add_entry.Goals.{After-deref-3, After-set_gate}
use Rattle.hose_journal.proofs.journal.Journal.add_entry.Goals as goal

-- the bytes that are written are the record of the entry
written : (g : _) (c : After-deref-3 g) (account : Account) (entry : Entry) (after : Stands g.D.Disk c.args.self.now (with_doubt account None)) → IsReady entry c.args.ready.now → c.deref-3.result.now ≡ record_of g.D.Disk account c.args.self.now after entry
written g c account entry after is_ready =
    record_is g.D.Disk account c.args.self.now after entry (c.deref-3.ensures.value ∙ c.fill_record.ensures.bytes) c.requires.sealed (c.deref-2.ensures.value ∙ is_ready.bytes) (c.deref.ensures.value ∙ is_ready.bytes) c.chain_after-value.ensures

-- up to the write of the gate
opened : (g : _) (c : After-set_gate g) (account : Account) (entry : Entry) (after : Stands g.D.Disk c.args.self.now (with_doubt account None)) → IsEntry entry → c.deref-3.result.now ≡ record_of g.D.Disk account c.args.self.now after entry
    → LeavesOnly g.D.Disk c.args.self.now.disk c.set_gate.new.disk (IsListAmid (with_doubt account None) (Some entry))
opened g c account entry after is_entry is =
    let old = c.args.self.now in
    let closed = closed_entry g.D.Disk account old after in
    until_opened g.D.Disk account old after c.stage.new.disk c.set_gate.new.disk c.deref-3.result.now entry is_entry is
    (c.stage.ensures.any_moment _ after.place closed) (c.set_gate.ensures.any_moment (before_entry g.D.Disk account old after) c.deref-3.result.now after.place (c.in_ok-stage.ensures.staged _ after.place closed))

pub fill_record-requires-clause-short : goal.fill_record-requires-clause-short
fill_record-requires-clause-short g c =
    omega (arith, ap length (c.deref-2.ensures.value ∙ c.requires.stands.3.bytes), length-spelling c.requires.stands.1 c.requires.stands.3.is_entry)

pub stage-requires-clause-small : goal.stage-requires-clause-small
stage-requires-clause-small g c =
    let account = c.requires.stands.0 in
    let entry = c.requires.stands.1 in
    let is_ready = c.requires.stands.3 in
    let after = c.requires.stands.2 in
    let old = c.args.self.now in
    let is = written g (goal.at.stage-requires-clause-small g c).After-deref-3 account entry after is_ready in
    let left = with_doubt account None in
    omega (arith, gate_low g.D.Disk old left after (omega (arith, c.requires.stands.4)), ap length is, closed_length g.D.Disk old left after entry is_ready.is_entry)

pub stage-requires-clause-closed : goal.stage-requires-clause-closed
stage-requires-clause-closed g c =
    let account = c.requires.stands.0 in
    let old = c.args.self.now in
    let after = c.requires.stands.2 in
    (before_entry g.D.Disk account old after, after.place, closed_entry g.D.Disk account old after)

pub returns-in_err-stage-clause-any_moment : goal.returns-in_err-stage-clause-any_moment
returns-in_err-stage-clause-any_moment g c = λ account entry after is_ready few.
    let old = c.args.self.now in
    until_staged g.D.Disk account old after c.stage.new.disk entry (c.stage.ensures.any_moment _ after.place (closed_entry g.D.Disk account old after))

pub returns-in_err-stage-clause-failed : goal.returns-in_err-stage-clause-failed
returns-in_err-stage-clause-failed g c = on_err_of c.from_residual.result _ (λ account entry after is_ready few.
    let old = c.args.self.now in
    let run = c.stage.ensures.any_moment _ after.place (closed_entry g.D.Disk account old after) in
    inl (stands_on g.D.Disk old (with_doubt account None) after _ None refl after.doubt refl refl c.fill_record.ensures.room tt
    (now_too g.D.Disk old.disk c.stage.new.disk (IsClosed (before_entry g.D.Disk account old after)) (g.met.D.Disk.counts_now c.stage.new.disk) run)))

pub set_gate-requires-clause-staged : goal.set_gate-requires-clause-staged
set_gate-requires-clause-staged g c =
    let account = c.requires.stands.0 in
    let old = c.args.self.now in
    let after = c.requires.stands.2 in
    (before_entry g.D.Disk account old after, c.deref-3.result.now, after.place, c.in_ok-stage.ensures.staged _ after.place (closed_entry g.D.Disk account old after))

pub returns-in_err-set_gate-clause-any_moment : goal.returns-in_err-set_gate-clause-any_moment
returns-in_err-set_gate-clause-any_moment g c = λ account entry after is_ready few.
    let at = goal.at.returns-in_err-set_gate-clause-any_moment g c in
    opened g at.After-set_gate account entry after is_ready.is_entry (written g at.After-deref-3 account entry after is_ready)

pub returns-clause-any_moment : goal.returns-clause-any_moment
returns-clause-any_moment g c = λ account entry after is_ready few.
    let at = goal.at.returns-clause-any_moment g c in
    opened g at.After-set_gate account entry after is_ready.is_entry (written g at.After-deref-3 account entry after is_ready)

pub returns-in_err-set_gate-clause-failed : goal.returns-in_err-set_gate-clause-failed
returns-in_err-set_gate-clause-failed g c = on_err_of c.from_residual-in_err-set_gate.result _ (λ account entry after is_ready few.
    let old = c.args.self.now in
    let is = written g (goal.at.returns-in_err-set_gate-clause-failed g c).After-deref-3 account entry after is_ready in
    let staged = c.in_ok-stage.ensures.staged _ after.place (closed_entry g.D.Disk account old after) in
    let before = before_entry g.D.Disk account old after in
    let kept = now_too g.D.Disk c.stage.new.disk c.set_gate.new.disk (IsDoubtful before c.deref-3.result.now) (g.met.D.Disk.counts_now c.set_gate.new.disk) (c.set_gate.ensures.any_moment before c.deref-3.result.now after.place staged) in
    inr (stands_on g.D.Disk old (with_doubt account None) after _ (Some entry) refl refl refl refl c.fill_record.ensures.room is_ready.is_entry
    (λ image is_image. subst (λ (l : List ℕ). IsDoubtful before l image) is (kept image is_image))))

pub returns-clause-added : goal.returns-clause-added
returns-clause-added g c = λ account entry after is_ready few.
    let old = c.args.self.now in
    let is = written g (goal.at.returns-clause-added g c).After-deref-3 account entry after is_ready in
    let staged = c.in_ok-stage.ensures.staged _ after.place (closed_entry g.D.Disk account old after) in
    let images = opened_as g.D.Disk c.set_gate.new.disk (before_entry g.D.Disk account old after) _ _ is (c.in_ok-set_gate.ensures.set (before_entry g.D.Disk account old after) c.deref-3.result.now after.place staged) in
    let value = c.chain_after-value.ensures account.digest account.entries entry after.chain (c.deref.ensures.value ∙ is_ready.bytes) in
    let long = c.len.ensures ∙ sym c.deref-3.ensures.len ∙ ap length is in
    stands_added g.D.Disk old (with_doubt account None) after _ entry is_ready.is_entry few (ap (λ (n : ℕ). old.gate + n) long) refl refl value c.fill_record.ensures.room images

pub returns-clause-durable : goal.returns-clause-durable
returns-clause-durable g c = λ account entry after is_ready few.
    let old = c.args.self.now in
    let is = written g (goal.at.returns-clause-durable g c).After-deref-3 account entry after is_ready in
    let staged = c.in_ok-stage.ensures.staged _ after.place (closed_entry g.D.Disk account old after) in
    let images = opened_as g.D.Disk c.set_gate.new.disk (before_entry g.D.Disk account old after) _ _ is (c.in_ok-set_gate.ensures.set (before_entry g.D.Disk account old after) c.deref-3.result.now after.place staged) in
    opened_lists g.D.Disk old (with_doubt account None) after c.set_gate.new.disk entry is_ready.is_entry images
