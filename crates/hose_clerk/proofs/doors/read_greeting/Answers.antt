use Rattle.hose_words.specs.Words.{words_of}
use Rattle.std.proofs.Common.{refl}
use Rattle.hose_words.proofs.Forms.{wrong_later, wrong_place}
use Rattle.hose_clerk.specs.HostLines.{IsNameAt}
use Rattle.hose_greeting.proofs.Greetings.{greeting_wrong}
use Rattle.hose_clerk.proofs.doors.read_greeting.Goals as goal

pub returns-in_err-expect-clause-bad : goal.returns-in_err-expect-clause-bad
returns-in_err-expect-clause-bad c = greeting_wrong (IsNameAt c.args.rule) (words_of c.args.line.now) c.from_residual.result c.from_residual.ensures.1 c.new-words.ensures (wrong_place c.in_err-expect.ensures.wrong)

pub returns-in_err-name-clause-bad : goal.returns-in_err-name-clause-bad
returns-in_err-name-clause-bad c =
    greeting_wrong (IsNameAt c.args.rule) (words_of c.args.line.now) c.from_residual-in_err-name.result c.from_residual-in_err-name.ensures.1 c.new-words.ensures
    (wrong_later c.in_ok-expect.ensures.ok refl (wrong_place c.in_err-name.ensures.wrong))

pub returns-in_err-finish-clause-bad : goal.returns-in_err-finish-clause-bad
returns-in_err-finish-clause-bad c =
    greeting_wrong (IsNameAt c.args.rule) (words_of c.args.line.now) c.from_residual-in_err-finish.result c.from_residual-in_err-finish.ensures.1 c.new-words.ensures
    (wrong_later c.in_ok-expect.ensures.ok refl (wrong_later c.in_ok-name.ensures.ok c.in_ok-name.ensures.is_name c.in_err-finish.ensures.wrong))
