use Rattle.std.proofs.Common.{refl, ◌∙◌, ap, Err}
use Rattle.std.proofs.lemmas.Result.{IfErr-at_err}
use Rattle.hose_proto.specs.Command.{ends_shape}
use Rattle.hose_proto.specs.steps.Reading.{IsFaultIn}
use Rattle.hose_cert.proofs.Spelling.{no_hose}
use Rattle.hose_cert.proofs.parsing.read_ends.Goals as goal

pub returns-in-Err-Bad-clause-told : goal.returns-in-Err-Bad-clause-told
returns-in-Err-Bad-clause-told c = no_hose c.args.top.now c.args.words.now.left (λ hose are.
    let fault = IfErr-at_err (IsFaultIn (ends_shape c.args.top.now) c.args.words.now) (c.in-Err-Bad.is ∙ ap Err c.in-Err-Bad.field-0-is) c.read_hose.ensures.bad in
    let wrong = fault.word c.in-Err-Bad.field-0-0 refl in
    c.read_hose.ensures.never_wrong hose wrong.0 are wrong.2)
