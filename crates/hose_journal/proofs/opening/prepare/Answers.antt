use Rattle.std.proofs.Common.{◌≡◌, ◌∙◌, inr, rules, length, subst, sym, arith, List, Option, ℕ, [], IfSome, IsTrue}
use Rattle.std.specs.Prelude.{Err}
use Rattle.hose_journal.specs.declared.layout.TheConstants.{CHAINED, DIGEST_BYTES}
use Rattle.hose_journal.specs.Image.{IsClosed, IsUnbegun, front_of}
use Rattle.hose_journal.specs.Moments.{LeavesOnly}
use Rattle.hose_journal.specs.steps.Moments.{ReadsItsImages}
use Rattle.hose_journal.specs.Opening.{AddsNoRecord}
use Rattle.hose_journal.specs.steps.Opening.{HasHead, IsHeadOf, IsOpened}
use Rattle.hose_journal.proofs.Openings.{adds_none, adds_still, unbegun_told, head_refused, reads_kept, unbegun_images, open_begun, begun_told, open_new, list_new, short_new, until_begun, until_reloaded}
use Rattle.hose_journal.proofs.Runs.{only_content}
use Rattle.hose_journal.proofs.opening.prepare.Goals.{After-is_unbegun, After-load_front, After-load_front-2}
use Rattle.hose_journal.proofs.opening.prepare.Goals as goal

-- what is read after the sync is what a stop may leave
reads : (g : _) (c : After-load_front g) → ReadsItsImages g.D.Disk c.load_front.new.disk
reads g c =
    let synced = c.sync.new.self in
    reads_kept g.D.Disk synced c.load_front.new.disk c.load_front.ensures.only
    (only_content g.D.Disk c.args.disk.now synced (g.met.D.Disk.counts_now synced) (g.met.D.Disk.untold synced) c.sync.ensures.same c.in_ok-sync.ensures.durable)

-- no journal was begun where the front of the disk says so
unbegun : (g : _) (c : After-is_unbegun g) → IsTrue c.is_unbegun.result → IfSome (g.D.Disk.content c.load_front.new.disk) IsUnbegun
unbegun g c is =
    unbegun_told g.D.Disk c.load_front.new.disk c.load_front.new.piece c.in_ok-end.end c.in_ok-end.ensures.front (subst IsUnbegun c.rest.ensures (c.is_unbegun.ensures.0 is))

-- from before the sync up to the read after the writes that begin a journal
reloaded : (g : _) (c : After-load_front-2 g) → LeavesOnly g.D.Disk c.args.disk.now c.load_front-2.new.disk (IsOpened g.D.Disk c.args.disk.now c.args.digest.now)
reloaded g c =
    until_reloaded g.D.Disk c.args.disk.now c.sync.new.self c.load_front.new.disk c.begin.new.disk c.load_front.new.piece c.in_ok-end.end c.args.digest.now (g.met.D.Disk.only_now c.args.disk.now) c.sync.ensures.time c.sync.ensures.images c.sync.ensures.same
    c.load_front.ensures.only c.in_ok-end.ensures.front (subst IsUnbegun c.rest.ensures (c.is_unbegun.ensures.0 c.if-not-is_unbegun.false)) c.begin.ensures.any_moment
    c.load_front-2.new.disk (g.met.D.Disk.counts_now c.begin.new.disk) c.load_front-2.ensures.only

-- what the disk tells of a journal that begins
begun : (g : _) (c : After-load_front-2 g) → IfSome (g.D.Disk.content c.begin.new.disk) (IsClosed (front_of CHAINED c.args.digest.now []))
begun g c = begun_told g.D.Disk c.begin.new.disk c.args.digest.now (g.met.D.Disk.reads_an_image c.begin.new.disk) c.in_ok-begin.ensures.begun

-- what is read after the writes that begin a journal
reloaded_adds : (g : _) (c : After-load_front-2 g) → AddsNoRecord (g.D.Disk.content c.args.disk.now) (g.D.Disk.content c.load_front-2.new.disk) c.args.digest.now
reloaded_adds g c =
    adds_still g.D.Disk c.args.disk.now c.begin.new.disk c.load_front-2.new.disk c.args.digest.now c.load_front-2.ensures.only
    (adds_none g.D.Disk c.args.disk.now c.load_front.new.disk c.begin.new.disk c.args.digest.now (c.load_front.ensures.only.same ∙ c.sync.ensures.same)
    (unbegun_told g.D.Disk c.load_front.new.disk c.load_front.new.piece c.in_ok-end.end c.in_ok-end.ensures.front (subst IsUnbegun c.rest.ensures (c.is_unbegun.ensures.0 c.if-not-is_unbegun.false)))
    c.begin.ensures.any_moment (g.met.D.Disk.counts_now c.begin.new.disk) (g.met.D.Disk.reads_an_image c.begin.new.disk))

pub returns-in_err-begin-clause-adds : goal.returns-in_err-begin-clause-adds
returns-in_err-begin-clause-adds g c =
    adds_none g.D.Disk c.args.disk.now c.load_front.new.disk c.begin.new.disk c.args.digest.now (c.load_front.ensures.only.same ∙ c.sync.ensures.same)
    (unbegun_told g.D.Disk c.load_front.new.disk c.load_front.new.piece c.in_ok-end.end c.in_ok-end.ensures.front (subst IsUnbegun c.rest.ensures (c.is_unbegun.ensures.0 c.if-not-is_unbegun.false)))
    c.begin.ensures.any_moment (g.met.D.Disk.counts_now c.begin.new.disk) (g.met.D.Disk.reads_an_image c.begin.new.disk)

pub returns-in_err-end-2-clause-adds : goal.returns-in_err-end-2-clause-adds
returns-in_err-end-2-clause-adds g c = reloaded_adds g (goal.at.returns-in_err-end-2-clause-adds g c).After-load_front-2

pub returns-then-end-clause-adds : goal.returns-then-end-clause-adds
returns-then-end-clause-adds g c = reloaded_adds g (goal.at.returns-then-end-clause-adds g c).After-load_front-2

pub returns-clause-adds : goal.returns-clause-adds
returns-clause-adds g c = reloaded_adds g (goal.at.returns-clause-adds g c).After-load_front-2

pub returns-in-Ok-clause-open : goal.returns-in-Ok-clause-open
returns-in-Ok-clause-open g c =
    let size : length c.args.digest.now ≡ DIGEST_BYTES = search rules in
    open_begun g.D.Disk c.load_front.new.disk c.load_front.new.piece c.in_ok-end.end c.in-Ok.chained c.args.digest.now size (reads g (goal.at.returns-in-Ok-clause-open g c).After-load_front) c.in_ok-end.ensures.front
    (subst (λ (held : List ℕ). IsHeadOf c.args.digest.now held c.in-Ok.chained) c.rest-then-not-is_unbegun.ensures c.in-Ok.ensures)

pub returns-in-Err-clause-refused : goal.returns-in-Err-clause-refused
returns-in-Err-clause-refused g c =
    head_refused g.D.Disk c.args.disk.now c.load_front.new.disk c.load_front.new.piece c.in_ok-end.end c.args.digest.now c.in-Err.fault (c.load_front.ensures.only.same ∙ c.sync.ensures.same) c.in_ok-end.ensures.front
    (subst (λ (held : List ℕ). HasHead held c.args.digest.now (Err c.in-Err.fault)) c.rest-then-not-is_unbegun.ensures c.in-Err.ensures)

pub begin-requires : goal.begin-requires
begin-requires g c =
    let at = goal.at.begin-requires g c in
    unbegun_images g.D.Disk c.load_front.new.disk (reads g at.After-load_front) (unbegun g at.After-is_unbegun c.if-not-is_unbegun.false)

pub returns-in_err-begin-clause-any_moment : goal.returns-in_err-begin-clause-any_moment
returns-in_err-begin-clause-any_moment g c =
    until_begun g.D.Disk c.args.disk.now c.sync.new.self c.load_front.new.disk c.begin.new.disk c.load_front.new.piece c.in_ok-end.end c.args.digest.now (g.met.D.Disk.only_now c.args.disk.now) c.sync.ensures.time c.sync.ensures.images c.sync.ensures.same
    c.load_front.ensures.only c.in_ok-end.ensures.front (subst IsUnbegun c.rest.ensures (c.is_unbegun.ensures.0 c.if-not-is_unbegun.false)) c.begin.ensures.any_moment

pub returns-in_err-end-2-clause-any_moment : goal.returns-in_err-end-2-clause-any_moment
returns-in_err-end-2-clause-any_moment g c = reloaded g (goal.at.returns-in_err-end-2-clause-any_moment g c).After-load_front-2

pub returns-then-end-clause-any_moment : goal.returns-then-end-clause-any_moment
returns-then-end-clause-any_moment g c = reloaded g (goal.at.returns-then-end-clause-any_moment g c).After-load_front-2

pub returns-clause-any_moment : goal.returns-clause-any_moment
returns-clause-any_moment g c = reloaded g (goal.at.returns-clause-any_moment g c).After-load_front-2

pub returns-then-end-clause-refused : goal.returns-then-end-clause-refused
returns-then-end-clause-refused g c =
    let size : length c.args.digest.now ≡ DIGEST_BYTES = search rules in
    short_new g.D.Disk c.args.disk.now c.load_front.new.disk c.begin.new.disk c.load_front-2.new.disk c.load_front-2.new.piece c.in_ok-end-2.end c.args.digest.now _ size (omega arith) (c.load_front.ensures.only.same ∙ c.sync.ensures.same)
    c.begin.ensures.tells c.load_front-2.ensures.only c.in_ok-end-2.ensures.front (begun g (goal.at.returns-then-end-clause-refused g c).After-load_front-2)

pub returns-clause-open : goal.returns-clause-open
returns-clause-open g c =
    let size : length c.args.digest.now ≡ DIGEST_BYTES = search rules in
    open_new g.D.Disk c.begin.new.disk c.load_front-2.new.disk c.load_front-2.new.piece c.in_ok-end-2.end c.args.digest.now size (omega arith) c.in_ok-begin.ensures.durable c.load_front-2.ensures.only c.in_ok-end-2.ensures.front
    (begun g (goal.at.returns-clause-open g c).After-load_front-2)

pub returns-clause-list : goal.returns-clause-list
returns-clause-list g c =
    let at = goal.at.returns-clause-list g c in
    list_new g.D.Disk c.args.disk.now c.load_front.new.disk c.begin.new.disk c.load_front-2.new.disk c.args.digest.now (c.load_front.ensures.only.same ∙ c.sync.ensures.same) c.load_front-2.ensures.only
    (unbegun g at.After-is_unbegun c.if-not-is_unbegun.false) (begun g at.After-load_front-2)

pub returns-clause-version : goal.returns-clause-version
returns-clause-version g c = inr (subst (λ (content : Option (List ℕ)). IfSome content (IsClosed (front_of CHAINED c.args.digest.now []))) (sym c.load_front-2.ensures.only.same)
    (begun g (goal.at.returns-clause-version g c).After-load_front-2))
