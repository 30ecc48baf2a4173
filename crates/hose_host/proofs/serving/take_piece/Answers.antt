use Rattle.std.proofs.Common.{[], List, ℕ, ap, drop, ◌∙◌}
use Rattle.std.proofs.lemmas.List.{take_rest}
use Rattle.hose_host.specs.steps.Keeping.{at}
use Rattle.hose_host.specs.steps.Seats.{Freed}
use Rattle.hose_host.proofs.Keepings.{keeps_freed, keeps_in, keeps_then}
use Rattle.hose_host.proofs.serving.take_piece.Goals as goal

pub returns-clause-keeps : goal.returns-clause-keeps
returns-clause-keeps g c =
    let heard = c.args.heard in
    let piece = c.args.piece.now in
    let rest = drop c.take_some-looked.result piece in
    let was = at c.args.network.now c.args.answers.now c.args.seat.now piece in
    let mid = at c.args.network.now c.take_some-looked.new.answers c.take_some-looked.new.seat rest in
    keeps_freed g.N.Connections g.A.HostAnswers heard (Freed heard []) rest c.args.place was c.args.network.now c.take_some-looked.new.answers c.keep.new.self
    (keeps_then g.N.Connections g.A.HostAnswers heard (Freed heard []) (Freed heard []) (Freed heard rest) c.args.place was mid (at c.args.network.now c.take_some-looked.new.answers c.keep.new.self rest)
    c.take_some-looked.ensures.keeps (keeps_in g.N.Connections g.A.HostAnswers heard c.args.place c.args.network.now c.take_some-looked.new.answers c.take_some-looked.new.seat c.keep.new.self rest (λ kept. c.keep.ensures kept ∙ ap (λ (bytes : List ℕ). record c.take_some-looked.new.seat { kept = bytes }) (take_rest piece c.take_some-looked.result))))
