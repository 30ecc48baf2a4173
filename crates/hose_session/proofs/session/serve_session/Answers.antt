use Rattle.std.proofs.Common.{◌≡◌, ◌≢◌, [], List, Option, refl, rules, subst, sym}
use Rattle.hose_proto.specs.ReplyText.{line_of, reply_text}
use Rattle.hose_greeting.specs.SessionLines.{SaysAfter}
use Rattle.hose_talk.proofs.Inputs.{talks_by_input}
use Rattle.hose_graph.specs.Network.{Network}
use Rattle.hose_core.specs.declared.quotes.Quote.{Quote}
use Rattle.hose_turn.specs.Known.{Known}
use Rattle.hose_shared.proofs.Passes.{more_same}
use Rattle.hose_session.specs.steps.Ending.{over_at}
use Rattle.hose_session.specs.steps.Exchanges.{ComesAlong}
use Rattle.hose_session.specs.steps.Session.{ServesSession}
use Rattle.hose_session.specs.declared.ending.SessionEnd.{SessionEnd}
use Rattle.hose_session.specs.declared.ending.SessionEnd.TheVariants as session_end
use Rattle.hose_session.specs.declared.phase.Phase.TheVariants.{Waiting}
use Rattle.hose_session.proofs.Completing.{session_complete}
use Rattle.hose_session.proofs.Conversing.{Talks, comes_none, reading_held, serves_so, talks_there, writing_held}
use Rattle.hose_session.proofs.session.serve_session.Goals as goal
use Rattle.hose_session.proofs.session.serve_session.Goals.{After-into_end}

-- what the talk came to
talked : (g : _) (c : After-into_end g) → Talks c.args.session.shared.now.network g.S.Source g.O.Sink c.args.source.now c.source-1.given.0 c.args.sink.now c.converse-ended.new.output c.args.pass c.converse-ended.new.answers.seat.pass c.converse-ended.new.answers.seat.quotes c.converse-ended.new.answers.phase c.converse-ended.result
talked g c =
    let done = c.converse-ended in
    let last = done.new.answers in
    let pass = c.args.pass in
    let network = c.args.session.shared.now.network in
    let begins = subst (λ (q : List (Option Quote)). ComesAlong network pass (record { pass = pass; phase = Waiting; quotes = q }) [] []) (sym c.new-quotes.ensures) (comes_none network pass (more_same pass c.requires.places).same) in
    let none : c.new-lines.result.pending ≡ [] = search rules in
    let begun : c.new-lines.result.source.now ≡ c.args.source.now = search rules in
    let ended : done.new.lines.source.now ≡ c.source-1.given.0 = search rules in
    talks_there c.args.session.shared.now.network g.S.Source g.O.Sink c.args.source.now c.source-1.given.0 c.args.sink.now c.converse-ended.new.output c.args.pass c.converse-ended.new.answers.seat.pass c.converse-ended.new.answers.seat.quotes last last _ (λ talk. over_at talk.phase) last.phase network refl
    (λ lines replies comes. subst (λ (n : Network). ComesAlong n pass (record { pass = last.seat.pass; phase = last.phase; quotes = last.seat.quotes }) lines replies) done.ensures.about comes)
    refl done.result (talks_by_input g.S.Source g.O.Sink (SaysAfter network) (λ reply. line_of (reply_text network reply)) last
    (λ lines replies talk. ComesAlong talk.seat.shared.now.network pass (record { pass = talk.seat.pass; phase = talk.phase; quotes = talk.seat.quotes }) lines replies) (λ talk. over_at talk.phase)
    c.args.sink.now done.new.output c.new-lines.result done.new.lines c.args.source.now c.source-1.given.0 none begun ended last done.result (done.ensures.talks pass begins))

pub returns-clause-session : goal.returns-clause-session
returns-clause-session g c =
    let at = (goal.at.returns-clause-session g c).After-into_end in
    let ends = c.into_end.ensures in
    subst (λ (z : SessionEnd × Known). ServesSession g.S.Source g.O.Sink c.args.session.shared.now.network c.args.source.now c.source-1.given.0 c.args.sink.now c.converse-ended.new.output c.args.pass z.1 z.0) (λ i. (sym ends.end i, sym ends.pass i))
    (serves_so c.args.session.shared.now.network g.S.Source g.O.Sink c.args.source.now c.source-1.given.0 c.args.sink.now c.converse-ended.new.output c.args.pass c.converse-ended.new.answers.seat.pass c.converse-ended.new.answers.seat.quotes c.converse-ended.new.answers.phase c.converse-ended.result (talked g at))

pub returns-clause-takes : goal.returns-clause-takes
returns-clause-takes g c =
    search rules

pub returns-clause-reading : goal.returns-clause-reading
returns-clause-reading g c =
    let at = (goal.at.returns-clause-reading g c).After-into_end in
    subst (λ (e : SessionEnd). e ≢ session_end.Read → g.S.Source.frame c.source-1.given.0 ≡ g.S.Source.frame c.args.source.now) (sym c.into_end.ensures.end)
    (reading_held c.args.session.shared.now.network g.S.Source g.O.Sink c.args.source.now c.source-1.given.0 c.args.sink.now c.converse-ended.new.output c.args.pass c.converse-ended.new.answers.seat.pass c.converse-ended.new.answers.seat.quotes c.converse-ended.new.answers.phase c.converse-ended.result (talked g at))

pub returns-clause-writing : goal.returns-clause-writing
returns-clause-writing g c =
    let at = (goal.at.returns-clause-writing g c).After-into_end in
    subst (λ (e : SessionEnd). e ≢ session_end.Write → g.O.Sink.frame c.converse-ended.new.output ≡ g.O.Sink.frame c.args.sink.now) (sym c.into_end.ensures.end)
    (writing_held c.args.session.shared.now.network g.S.Source g.O.Sink c.args.source.now c.source-1.given.0 c.args.sink.now c.converse-ended.new.output c.args.pass c.converse-ended.new.answers.seat.pass c.converse-ended.new.answers.seat.quotes c.converse-ended.new.answers.phase c.converse-ended.result (talked g at))

pub returns-clause-complete : goal.returns-clause-complete
returns-clause-complete g c =
    let takes = returns-clause-takes g c in
    session_complete c.args.session.shared.now.network (g.S.Source.content c.args.source.now) (g.S.Source.content c.source-1.given.0) _ takes.0 (g.O.Sink.content c.args.sink.now) (g.O.Sink.content c.converse-ended.new.output) _ _ c.args.pass c.into_end.result.1 c.into_end.result.0
    takes.1 takes.3.0 (returns-clause-session g c)
