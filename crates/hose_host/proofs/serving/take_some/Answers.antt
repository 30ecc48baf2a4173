use Rattle.std.proofs.Common.{[], List, ℕ, arith, drop, subst, ◌+◌}
use Rattle.std.proofs.lemmas.List.{drop-drop, take_rest}
use Rattle.hose_host.specs.steps.Keeping.{Keeps, at}
use Rattle.hose_host.specs.steps.Seats.{Freed}
use Rattle.hose_host.proofs.Keepings.{keeps_then}
use Rattle.hose_host.proofs.serving.take_some.Goals as goal

pub loop-preserved : goal.loop-preserved
loop-preserved g c =
    let heard = c.args.heard in
    let piece = c.args.piece.now in
    let now = c.loop.now in
    let count = c.take_line-now.result in
    let step = at c.args.network.now c.loop.answers c.loop.seat (drop now piece) in
    let seat = c.take_line-now.new.seat in
    let by_now = c.take_line-now.new.answers in
    record {
      keeps = keeps_then g.N.Connections g.A.HostAnswers heard (Freed heard []) (Freed heard []) (Freed heard []) c.args.place (at c.args.network.now c.args.answers.now c.args.seat.now (drop c.args.looked piece)) step (at c.args.network.now by_now seat (drop (now + count) piece)) c.loop.invariant.keeps
          (subst (λ (left : List ℕ). Keeps g.N.Connections g.A.HostAnswers (Freed heard []) (Freed heard []) c.args.place heard step (at c.args.network.now by_now seat left)) (drop-drop count now piece)
          (subst (λ (from : List ℕ). Keeps g.N.Connections g.A.HostAnswers (Freed heard []) (Freed heard []) c.args.place heard (at c.args.network.now c.loop.answers c.loop.seat from) (at c.args.network.now by_now seat (drop count from))) (take_rest piece now) c.take_line-now.ensures.keeps));
      bound = search (arith, c.take_line-now.ensures.bound, c.loop.invariant.bound);
      ends = λ _. c.loop.invariant.ends (c.takes_lines.ensures c.if-not-takes_lines.false).1;
      fits = c.take_line-now.ensures.fits;
    }
