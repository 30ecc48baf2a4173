use Rattle.std.proofs.Common.{◌≡◌, ◌∙◌, Err, List, ℕ, rules, ap, arith, refl, subst}
use Rattle.std.proofs.lemmas.Result.{IfErr-at_err}
use Rattle.hose_words.specs.steps.Cursor.{Position}
use Rattle.hose_words.specs.Words.{IsChoice, IsFirst, words_of}
use Rattle.hose_words.specs.Shapes.{IsFirstWrong}
use Rattle.hose_words.specs.steps.Lines.{Shows}
use Rattle.hose_words.specs.declared.lines.Line.{Line}
use Rattle.hose_graph.specs.Network.{Network}
use Rattle.hose_graph.specs.declared.command.Reply.TheVariants.{Long, Memory}
use Rattle.hose_law.specs.Transcript.SessionLine.{Asks, IsBad, IsLong, Unread}
use Rattle.hose_law.specs.Transcript.Stage.{Serving}
use Rattle.hose_proto.specs.steps.Reading.{IsFaultIn}
use Rattle.hose_proto.specs.Command.{IsCommand, TakesMemory, command_shape, verb_word}
use Rattle.hose_shared.proofs.Passes.{more_same}
use Rattle.hose_greeting.specs.SessionLines.{IsBye}
use Rattle.hose_session.proofs.Exchanging.{bad_exchange, bye_exchange, in_phase, left_at, long_exchange, memory_exchange, provided_exchange, served_at}
use Rattle.hose_greeting.proofs.Shown.{text_is}
use Rattle.hose_session.proofs.conversation.Conversation.serve.Goals as goal

pub returns-in_default-clause-answers : goal.returns-in_default-clause-answers
returns-in_default-clause-answers g c = λ held are.
    let seat = c.args.self.now.seat in
    let network = seat.shared.now.network in
    let pass = seat.pass in
    let name = c.args.name.now in
    in_phase network pass pass seat.quotes (Serving name held) c.args.line Long c.args.self.now.phase name c.requires.phase
    (served_at network pass pass c.args.line _ seat.quotes name held IsLong (λ bytes shows. subst (λ (l : Line). Shows l bytes) c.in_default.is shows)
    (long_exchange network pass (more_same pass c.requires.of.places).same name seat.quotes held are))

pub returns-in-Ok-clause-answers : goal.returns-in-Ok-clause-answers
returns-in-Ok-clause-answers g c = λ held are.
    let seat = c.args.self.now.seat in
    let network = seat.shared.now.network in
    let pass = seat.pass in
    let name = c.args.name.now in
    let now = c.step.new.self in
    let left = ap (λ (p : Position). p.left) c.new-words.ensures in
    let here = subst (λ (words : List (List ℕ)). IsCommand c.args.self.now.top.now words c.in-Ok.command) left c.in-Ok.ensures.ok in
    let asks = subst (λ (n : Network). IsCommand n (words_of c.in-Text.text.now) c.in-Ok.command) c.requires.top here in
    in_phase network pass now.pass now.quotes (Serving name held) c.args.line c.step.result c.args.self.now.phase name c.requires.phase
    (served_at network pass now.pass c.args.line _ now.quotes name held (Asks c.in-Ok.command)
    (text_is (λ bytes. IsCommand network (words_of bytes) c.in-Ok.command) c.args.line c.in-Text.text c.in-Text.is asks) (provided_exchange c.step.ensures.provides held are))

pub returns-then-is_bye-clause-answers : goal.returns-then-is_bye-clause-answers
returns-then-is_bye-clause-answers g c = λ held are.
    let seat = c.args.self.now.seat in
    let network = seat.shared.now.network in
    let pass = seat.pass in
    let name = c.args.name.now in
    left_at network pass pass c.args.line _ seat.quotes name held (text_is IsBye c.args.line c.in-Text.text c.in-Text.is (c.is_bye.ensures.0 c.if-is_bye.true)) (bye_exchange network pass (more_same pass c.requires.of.places).same name held)

pub returns-else-is_bye-clause-answers : goal.returns-else-is_bye-clause-answers
returns-else-is_bye-clause-answers g c = λ held are.
    let seat = c.args.self.now.seat in
    let network = seat.shared.now.network in
    let pass = seat.pass in
    let name = c.args.name.now in
    let word : ℕ = c.in-Err-Bad.word in
    let start : Position = c.new-words.result in
    let top = c.args.self.now.top.now in
    let told = (IfErr-at_err (IsFaultIn (command_shape top) start) (c.in-Err-Bad.is ∙ ap Err c.in-Err-Bad.field-0-is) c.read_command_at.ensures.bad).word word refl in
    let at : told.0 ≡ word = omega (arith, told.1, ap (λ (p : Position). p.read) c.new-words.ensures) in
    let here = subst (λ (words : List (List ℕ)). IsFirstWrong (command_shape top) words told.0) (ap (λ (p : Position). p.left) c.new-words.ensures) told.2 in
    let first = subst (λ (w : ℕ). IsFirstWrong (command_shape top) (words_of c.in-Text.text.now) w) at here in
    let wrong = subst (λ (n : Network). IsFirstWrong (command_shape n) (words_of c.in-Text.text.now) word) c.requires.top first in
    let says = text_is (λ bytes. (¬ IsBye bytes) × IsFirstWrong (command_shape network) (words_of bytes) word) c.args.line c.in-Text.text c.in-Text.is
    ((λ bye. cc (c.is_bye.ensures.1 bye, c.if-is_bye.false)), wrong) in
    in_phase network pass pass seat.quotes (Serving name held) c.args.line _ c.args.self.now.phase name c.requires.phase
    (served_at network pass pass c.args.line _ seat.quotes name held (IsBad word) (λ bytes shows. let here = says bytes shows in (here.0, here.1.0, here.1.1))
    (bad_exchange network pass (more_same pass c.requires.of.places).same name seat.quotes held are word _ (search rules)))

pub returns-in-Err-Memory-clause-answers : goal.returns-in-Err-Memory-clause-answers
returns-in-Err-Memory-clause-answers g c = λ held are.
    let seat = c.args.self.now.seat in
    let network = seat.shared.now.network in
    let pass = seat.pass in
    let name = c.args.name.now in
    let first = subst (λ (words : List (List ℕ)). IsFirst (IsChoice TakesMemory verb_word) words) (ap (λ (p : Position). p.left) c.new-words.ensures) (c.read_command_at.ensures.memory (c.in-Err-Memory.is ∙ ap Err c.in-Err-Memory.field-0-is)) in
    in_phase network pass pass seat.quotes (Serving name held) c.args.line Memory c.args.self.now.phase name c.requires.phase
    (served_at network pass pass c.args.line _ seat.quotes name held Unread
    (text_is (λ bytes. IsFirst (IsChoice TakesMemory verb_word) (words_of bytes)) c.args.line c.in-Text.text c.in-Text.is first)
    (memory_exchange network pass (more_same pass c.requires.of.places).same name seat.quotes held are))
