use Rattle.std.proofs.Common.{◌≡◌, ◌+◌, ◌++◌, ◌∷◌, [], List, ℕ, sym, subst, take, drop, arith}
use Rattle.std.proofs.lemmas.List.{take-append-drop}
use Rattle.hose_host.specs.steps.Keeping.{Keeps, at}
use Rattle.hose_host.specs.steps.Seats.{Freed}
use Rattle.hose_host.proofs.Keepings.{keeps_taken, keeps_then}
use Rattle.hose_host.proofs.serving.take_line.Goals as goal

pub returns-clause-keeps : goal.returns-clause-keeps
returns-clause-keeps g c =
    let heard = c.args.heard in
    let bytes = c.args.bytes.now in
    let len = c.len_before_feed-len.result in
    let more = drop (len + 1) bytes in
    let was = c.args.seat.now in
    let now = c.take_in.new.self in
    let is : bytes ≡ take len bytes ++ 10 ∷ more = c.len_before_feed-len.ensures.feed (omega (arith, c.len_before_feed-len.ensures.bound, c.if-len-bytes.false)) in
    let taken = keeps_taken g.N.Connections g.A.HostAnswers heard [] c.args.place c.args.network.now c.args.answers.now was now (take len bytes) (10 ∷ more) c.len_before_feed-len.ensures.plain c.take_in.ensures.holds c.take_in.ensures.lost c.take_in.ensures.output c.take_in.ensures.later c.take_in.ensures.door c.take_in.ensures.kept in
    keeps_then g.N.Connections g.A.HostAnswers heard (Freed heard []) (Freed heard []) (Freed heard []) c.args.place (at c.args.network.now c.args.answers.now was bytes) (at c.args.network.now c.args.answers.now now (10 ∷ more)) (at c.args.network.now c.answer_line.new.answers c.answer_line.new.seat more)
    (subst (λ (from : List ℕ). Keeps g.N.Connections g.A.HostAnswers (Freed heard []) (Freed heard []) c.args.place heard (at c.args.network.now c.args.answers.now was from) (at c.args.network.now c.args.answers.now now (10 ∷ more))) (sym is) taken)
    (c.answer_line.ensures.keeps more)

pub returns-then-len-bytes-clause-keeps : goal.returns-then-len-bytes-clause-keeps
returns-then-len-bytes-clause-keeps g c =
    let heard = c.args.heard in
    let bytes = c.args.bytes.now in
    let len = c.len_before_feed-len.result in
    let was = c.args.seat.now in
    let now = c.take_in.new.self in
    let rest = drop len bytes in
    let is : take len bytes ++ rest ≡ bytes = take-append-drop len bytes in
    subst (λ (from : List ℕ). Keeps g.N.Connections g.A.HostAnswers (Freed heard []) (Freed heard []) c.args.place heard (at c.args.network.now c.args.answers.now was from) (at c.args.network.now c.args.answers.now now rest)) is
    (keeps_taken g.N.Connections g.A.HostAnswers heard [] c.args.place c.args.network.now c.args.answers.now was now (take len bytes) rest c.len_before_feed-len.ensures.plain c.take_in.ensures.holds c.take_in.ensures.lost c.take_in.ensures.output c.take_in.ensures.later c.take_in.ensures.door c.take_in.ensures.kept)
