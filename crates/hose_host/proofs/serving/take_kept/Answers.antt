use Rattle.std.proofs.Common.{[], List, ℕ, drop, subst}
use Rattle.hose_host.specs.steps.Keeping.{Keeps, at}
use Rattle.hose_host.specs.steps.Seats.{Calm, Freed}
use Rattle.hose_host.proofs.Keepings.{keeps_back, keeps_freed, keeps_out, keeps_then}
use Rattle.hose_host.proofs.serving.take_kept.Goals as goal

pub returns-clause-keeps : goal.returns-clause-keeps
returns-clause-keeps g c =
    let heard = c.args.heard in
    let was = c.args.seat.now in
    let out = c.take_kept-piece.new.self in
    let told = c.take_some-looked.new.seat in
    let by_now = c.take_some-looked.new.answers in
    let now = c.keep_rest.new.self in
    let rest = drop c.take_some-looked.result c.take_kept-piece.result.0.items in
    let first = at c.args.network.now c.args.answers.now was was.kept in
    keeps_freed g.N.Connections g.A.HostAnswers heard (Calm heard was.kept) rest c.args.place first c.args.network.now by_now now
    (keeps_then g.N.Connections g.A.HostAnswers heard (Calm heard was.kept) (Freed heard []) (Freed heard rest) c.args.place first (at c.args.network.now by_now told rest) (at c.args.network.now by_now now rest)
    (keeps_then g.N.Connections g.A.HostAnswers heard (Calm heard was.kept) (Freed heard []) (Freed heard []) c.args.place first (at c.args.network.now c.args.answers.now out was.kept) (at c.args.network.now by_now told rest)
    (keeps_out g.N.Connections g.A.HostAnswers heard c.args.place c.args.network.now c.args.answers.now was out c.take_kept-piece.ensures.rest)
    (subst (λ (bytes : List ℕ). Keeps g.N.Connections g.A.HostAnswers (Freed heard []) (Freed heard []) c.args.place heard (at c.args.network.now c.args.answers.now out bytes) (at c.args.network.now by_now told rest)) c.take_kept-piece.ensures.kept
    (subst (λ (piece : List ℕ). Keeps g.N.Connections g.A.HostAnswers (Freed heard []) (Freed heard []) c.args.place heard (at c.args.network.now c.args.answers.now out (drop c.take_kept-piece.result.1 piece)) (at c.args.network.now by_now told (drop c.take_some-looked.result piece))) c.deref.ensures.value c.take_some-looked.ensures.keeps)))
    (keeps_back g.N.Connections g.A.HostAnswers heard c.args.place c.args.network.now by_now told now rest c.keep_rest.ensures))
