use Rattle.std.proofs.Common.{◌≡◌, ℕ, subst}
use Rattle.std.proofs.lemmas.Result.{err_from_is_err_and}
use Rattle.hose_words.specs.Shapes.{IsFirstWrong}
use Rattle.hose_words.specs.Words.{words_of}
use Rattle.hose_words.proofs.ToldShapes.{told_not_wrong}
use Rattle.hose_proto.specs.Command.{ends_shape}
use Rattle.hose_proto.specs.declared.fault.ReadFault.TheVariants.{Bad}
use Rattle.hose_offline.specs.SheetLine.{sheet_shape}
use Rattle.hose_offline.proofs.LineShapes.{firm_sheet, no_customer, pricing_told, wrong_after_customer}
use Rattle.hose_offline.proofs.input_line.read_sheet_line.Goals as goal

pub returns-clause-ok : goal.returns-clause-ok
returns-clause-ok c =
    pricing_told c.args.top.now c.args.line.now c.in_ok-customer.customer c.in_ok-hose.hose c.new-words.ensures c.in_ok-customer.ensures.ok c.in_ok-customer.ensures.is_name
    c.in_ok-hose.ensures.ok

pub returns-in_err-customer-clause-bad : goal.returns-in_err-customer-clause-bad
returns-in_err-customer-clause-bad c = λ word told.
    let number : ℕ = c.in_err-customer.field-0.0.number in
    let gave = err_from_is_err_and c.from_residual.result c.from_residual.ensures.1 in
    let same : number ≡ word = cc (gave.1, gave.2, told) in
    subst (λ n. IsFirstWrong (sheet_shape c.args.top.now) (words_of c.args.line.now) n) same
    (no_customer (ends_shape c.args.top.now) (words_of c.args.line.now) c.new-words.ensures c.in_err-customer.ensures.wrong)

pub returns-in_err-hose-clause-bad : goal.returns-in_err-hose-clause-bad
returns-in_err-hose-clause-bad c = λ word told.
    let gave = err_from_is_err_and c.from_residual-in_err-hose.result c.from_residual-in_err-hose.ensures.1 in
    let same : c.in_err-hose.field-0.0 ≡ Bad word = cc (gave.1, gave.2, told) in
    let wrong = c.in_err-hose.ensures.bad.word word same in
    wrong_after_customer (ends_shape c.args.top.now) (words_of c.args.line.now) word wrong.0 c.new-words.ensures c.in_ok-customer.ensures.ok c.in_ok-customer.ensures.is_name wrong.1 wrong.2

pub returns-in_err-customer-clause-asked : goal.returns-in_err-customer-clause-asked
returns-in_err-customer-clause-asked c = λ word told customer hose asks.
    told_not_wrong (sheet_shape c.args.top.now) (firm_sheet c.args.top.now) (words_of c.args.line.now) (customer, asks.0) word asks.1 (returns-in_err-customer-clause-bad c word told)

pub returns-in_err-hose-clause-asked : goal.returns-in_err-hose-clause-asked
returns-in_err-hose-clause-asked c = λ word told customer hose asks.
    told_not_wrong (sheet_shape c.args.top.now) (firm_sheet c.args.top.now) (words_of c.args.line.now) (customer, asks.0) word asks.1 (returns-in_err-hose-clause-bad c word told)
