use Rattle.std.proofs.Common.{◌≡◌, ◌∙◌, ℕ, List, drop, ap, refl, subst, sym, arith}
use Rattle.std.proofs.lemmas.Result.{IfErr-at_err}
use Rattle.hose_words.specs.steps.Cursor.{Position}
use Rattle.hose_words.specs.Shapes.{IsFirstWrong}
use Rattle.hose_words.specs.Words.{words_of}
use Rattle.hose_proto.specs.Command.{IsCommand, command_shape}
use Rattle.hose_proto.specs.steps.Reading.{IsFaultIn}
use Rattle.hose_proto.proofs.command.read_command.Goals as goal

pub returns-clause-bad : goal.returns-clause-bad
returns-clause-bad c word told =
    let network = c.args.top.now in
    let start : Position = c.skip.new.self in
    let wrong = (IfErr-at_err (IsFaultIn (command_shape network) start) told c.read_command_at.ensures.bad).word word refl in
    let left : start.left ≡ drop c.args.from (words_of c.args.line.now) = ap (λ (p : Position). p.left) c.skip.ensures ∙ ap (λ (p : Position). drop c.args.from p.left) c.new-words.ensures in
    let read : start.read ≡ c.args.from = omega (arith, ap (λ (p : Position). p.read) c.skip.ensures, ap (λ (p : Position). p.read) c.new-words.ensures) in
    (wrong.0, omega (arith, wrong.1, read), subst (λ (words : List (List ℕ)). IsFirstWrong (command_shape network) words wrong.0) left wrong.2)

pub returns-clause-asked : goal.returns-clause-asked
returns-clause-asked c command asks =
    let left : c.skip.new.self.left ≡ drop c.args.from (words_of c.args.line.now) = ap (λ (p : Position). p.left) c.skip.ensures ∙ ap (λ (p : Position). drop c.args.from p.left) c.new-words.ensures in
    c.read_command_at.ensures.asked command (subst (λ (words : List (List ℕ)). IsCommand c.args.top.now words command) (sym left) asks)
