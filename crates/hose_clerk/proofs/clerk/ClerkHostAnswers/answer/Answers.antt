use Rattle.std.proofs.Common.{◌≡◌, ◌∙◌, ◌∷◌, ◌++◌, [], Bool, ap, arith, rules, subst, sym}
use Rattle.hose_net.specs.Story.{link_answered}
use Rattle.hose_clerk.specs.HostLines.{SaysBy, rule_at}
use Rattle.hose_clerk.specs.declared.doors.DoorRule.{DoorRule}
use Rattle.hose_clerk.specs.Hosting.{ends_host}
use Rattle.hose_clerk.specs.Tally.{tally_with}
use Rattle.hose_clerk.specs.declared.sessions.Session.TheVariants.{Over}
use Rattle.hose_clerk.specs.declared.tally.Tally.{Tally}
use Rattle.hose_clerk.specs.steps.Answering.{HasHosted}
use Rattle.hose_clerk.specs.steps.Linking.{is_required, link_state, needed_of}
use Rattle.hose_clerk.specs.steps.Sessions.{is_new_at, is_over_at, session_at}
use Rattle.hose_clerk.proofs.Hosted.{Answered, hosted_more, kept_put}
use Rattle.hose_clerk.proofs.Marks.{needed_rises}
use Rattle.hose_clerk.proofs.Placed.{put_then}
use Rattle.hose_clerk.proofs.clerk.ClerkHostAnswers.answer.Goals as goal

pub returns-clause-fits : goal.returns-clause-fits
returns-clause-fits g c =
    let sessions = c.args.self.now.sessions.items in
    let after = c.put.new.sessions.items in
    let left = c.reply_to-reply.result.1 in
    let answers = c.reply_to-reply.ensures.answers.answers in
    let put = put_then sessions c.take-session.new.sessions.items after c.args.place Over left c.take-session.ensures.left c.put.ensures in
    (kept_put (g.K.Books.ledger c.args.self.now.desk.core.books) (g.K.Books.ledger c.reply_to-reply.new.self.core.books) c.args.place left sessions after answers.goes c.requires.fits.0 put answers.kept, c.requires.fits.1)

pub returns-clause-answers : goal.returns-clause-answers
returns-clause-answers g c = λ from link before bytes shows has.
    let required = is_required from.1.awaited in
    let at_link = link_state c.args.self.now.awaited c.args.self.now.standby c.args.self.now.fence in
    let is_of = g.K.History.is_of in
    let old = c.args.self.now.desk.core.books in
    let new = c.reply_to-reply.new.self.core.books in
    let sessions = c.args.self.now.sessions.items in
    let after = c.put.new.sessions.items in
    let one = c.take-session.result in
    let left = c.reply_to-reply.result.1 in
    let answered = c.reply_to-reply.ensures.answers in
    let at : session_at sessions c.args.place ≡ one = sym c.take-session.ensures.session in
    let network = (g.K.Books.ledger old).network in
    let rule : c.rule_of-rule.result ≡ rule_at c.args.self.now.doors.items c.args.door = search rules in
    let counted = c.count.ensures.tally ∙ ap (tally_with c.reply_to-reply.result.0) c.reply_to-reply.ensures.tally in
    let x : Answered = record {
      place = c.args.place;
      door = c.args.door;
      first = is_new_at (session_at sessions c.args.place);
      line = bytes;
      said = answered.said;
      reply = c.reply_to-reply.result.0;
      needs = needed_of at_link.required c.count.new.self.tally.lines (g.K.Books.ledger new).book.epoch;
    } in
    let says = subst (λ (b : Bool). SaysBy network (rule_at c.args.self.now.doors.items c.args.door) b bytes answered.said) (ap is_new_at (sym at))
    (subst (λ (r : DoorRule). SaysBy network r (is_new_at one) bytes answered.said) rule (answered.says bytes shows)) in
    let put = put_then sessions c.take-session.new.sessions.items after c.args.place Over left c.take-session.ensures.left c.put.ensures in
    let was = subst (λ (e : Bool). HasHosted g.K.Books is_of required from.0 from.1.desk.core.books old sessions e c.args.self.now.desk.figures.tally at_link before link) c.requires.goes_on has in
    let needs = ap (λ (t : Tally). needed_of at_link.required t.lines (g.K.Books.ledger new).book.epoch) counted in
    let more = hosted_more g.K.Books is_of required from.0 from.1.desk.core.books old new before sessions c.args.self.now.desk.figures.tally at_link link was x one left after at (sym (ap is_over_at at) ∙ c.requires.open) put (ap is_new_at at) answered.answers needs c.requires.fits.1 in
    let tallied = subst (λ (t : Tally). HasHosted g.K.Books is_of required from.0 from.1.desk.core.books new after (ends_host x.reply) t at_link (before ++ x ∷ []) (link_answered link)) (sym counted) more in
    (answered.said, says, subst (λ (e : Bool). HasHosted g.K.Books is_of required from.0 from.1.desk.core.books new after e c.count.new.self.tally at_link (before ++ x ∷ []) (link_answered link)) (sym c.ends-self.ensures) tallied)

pub returns-clause-others : goal.returns-clause-others
returns-clause-others g c = λ other apart.
    let put = put_then c.args.self.now.sessions.items c.take-session.new.sessions.items c.put.new.sessions.items c.args.place Over c.reply_to-reply.result.1 c.take-session.ensures.left c.put.ensures in
    (ap is_new_at (put.others other apart), ap is_over_at (put.others other apart))

pub returns-clause-rises : goal.returns-clause-rises
returns-clause-rises g c =
    let tally = c.args.self.now.desk.figures.tally in
    let kept = ap (λ (t : Tally). t.lines) c.reply_to-reply.ensures.tally in
    needed_rises (is_required c.args.self.now.awaited) tally.lines c.count.new.self.tally.lines (g.K.Books.ledger c.args.self.now.desk.core.books) (g.K.Books.ledger c.reply_to-reply.new.self.core.books) (omega (arith, kept, c.count.ensures.rises)) c.reply_to-reply.ensures.answers.answers.goes
