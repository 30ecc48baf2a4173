use Rattle.std.proofs.Common.{◌≡◌, refl, subst, sym}
use Rattle.hose_turn.specs.Known.{Known}
use Rattle.hose_shared.specs.steps.Providing.{CanProvide, Provides}
use Rattle.hose_shared.specs.steps.Sharing.{SharedBook}
use Rattle.hose_shared.proofs.Provided.{can_again, provides_changing, provides_keeping}
use Rattle.hose_shared.proofs.seat.Seat.step.Goals.{in-Admit, in-AdmitAfter, in-Quote, in-Take, in-Release, in-Show, in-Vpns, in-Link, in-Down, in-Up}
use Rattle.hose_shared.proofs.seat.Seat.step.Goals as goal

pub returns-clause-provides : goal.returns-clause-provides
returns-clause-provides g c =
    let was = c.args.self.now in
    let customer = c.args.customer.now in
    let done = c.match-command in
    let provides : Provides was.shared.now.network (record { pass = c.replace-pass.result; quotes = was.quotes }) (record { pass = done.reply.1; quotes = done.self.quotes }) customer c.args.command done.reply.0 = elim done.branch [
      | in-Admit w ↦ rw (w.reply-is, w.self-is, w.in-Admit.is) (provides_keeping _ was.quotes (λ changes. changes) w.admit_bound.ensures)
      | in-AdmitAfter w ↦ rw (w.reply-is, w.self-is, w.in-AdmitAfter.is) (provides_keeping _ was.quotes (λ changes. changes) w.admit_bound-in-AdmitAfter.ensures)
      | in-Quote w ↦ rw (w.reply-is, w.self-is, w.in-Quote.is) (provides_changing _ was.quotes w.quote.new.quotes (w.quote.ensures.steps customer) w.quote.ensures.names (λ number seen now is stale. absurd (cc is)))
      | in-Take w ↦ rw (w.reply-is, w.self-is, w.in-Take.is) (provides_changing _ was.quotes w.take.new.quotes w.take.ensures.steps w.take.ensures.names (λ number seen now is stale. w.take.ensures.stale seen now stale))
      | in-Release w ↦ rw (w.reply-is, w.self-is, w.in-Release.is) (provides_keeping _ was.quotes (λ changes. changes) w.release.ensures)
      | in-Show w ↦ rw (w.reply-is, w.self-is, w.in-Show.is) (provides_keeping _ was.quotes (λ changes. changes) w.show.ensures)
      | in-Vpns w ↦ rw (w.reply-is, w.self-is, w.in-Vpns.is) (provides_keeping _ was.quotes (λ changes. changes) w.vpns.ensures)
      | in-Link w ↦ rw (w.reply-is, w.self-is, w.in-Link.is) (provides_keeping _ was.quotes (λ changes. changes) (w.link.ensures customer))
      | in-Down w ↦ rw (w.reply-is, w.self-is, w.in-Down.is) (provides_keeping _ was.quotes (λ changes. changes) w.operate.ensures)
      | in-Up w ↦ rw (w.reply-is, w.self-is, w.in-Up.is) (provides_keeping _ was.quotes (λ changes. changes) w.operate-in-Up.ensures)
    ] in
    subst (λ (k : Known). Provides was.shared.now.network (record { pass = k; quotes = was.quotes }) (record { pass = done.reply.1; quotes = done.self.quotes }) customer c.args.command done.reply.0) c.replace-pass.ensures.value provides

pub returns-clause-can : goal.returns-clause-can
returns-clause-can g c =
    let was = c.args.self.now in
    let done = c.match-command in
    let same : done.self.shared.now ≡ was.shared.now = elim done.branch [
      | in-Admit w ↦ rw w.self-is refl
      | in-AdmitAfter w ↦ rw w.self-is refl
      | in-Quote w ↦ rw w.self-is refl
      | in-Take w ↦ rw w.self-is refl
      | in-Release w ↦ rw w.self-is refl
      | in-Show w ↦ rw w.self-is refl
      | in-Vpns w ↦ rw w.self-is refl
      | in-Link w ↦ rw w.self-is refl
      | in-Down w ↦ rw w.self-is refl
      | in-Up w ↦ rw w.self-is refl
    ] in
    subst (λ (shared : SharedBook). CanProvide shared done.self.quotes done.reply.1) (sym same) (can_again was.shared.now _ _ _ _ _ c.requires.can (returns-clause-provides g c))
