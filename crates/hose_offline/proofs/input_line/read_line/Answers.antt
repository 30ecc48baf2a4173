use Rattle.std.proofs.Common.{◌≡◌, ◌∙◌, ◌∷◌, List, ℕ, Err, drop, sym, ap, subst}
use Rattle.std.proofs.lemmas.Result.{err_from_is_err_and}
use Rattle.hose_words.specs.steps.Cursor.{Position}
use Rattle.hose_words.specs.Shapes.{IsFirstWrong}
use Rattle.hose_words.specs.Words.{IsChoice, IsFirst, words_of}
use Rattle.hose_graph.specs.Name.{IsName}
use Rattle.hose_proto.specs.Command.{TakesMemory, command_shape, verb_word}
use Rattle.hose_proto.specs.declared.fault.ReadFault.TheVariants.{Bad, Memory}
use Rattle.hose_offline.specs.ScriptLine.{script_shape}
use Rattle.hose_offline.proofs.LineShapes.{asking_told, no_customer, wrong_after_customer}
use Rattle.hose_offline.proofs.OneReading.{customer_alone, nameless_alone}
use Rattle.hose_offline.proofs.input_line.read_line.Goals as goal

pub returns-clause-ok : goal.returns-clause-ok
returns-clause-ok c =
    asking_told c.args.top.now c.args.line.now c.in_ok-customer.customer c.in_ok-command.command c.new-words.ensures c.in_ok-customer.ensures.ok c.in_ok-customer.ensures.is_name
    c.in_ok-command.ensures.ok

pub returns-in_err-customer-clause-bad : goal.returns-in_err-customer-clause-bad
returns-in_err-customer-clause-bad c = λ word told.
    let number : ℕ = c.in_err-customer.field-0.0.number in
    let gave = err_from_is_err_and c.from_residual.result c.from_residual.ensures.1 in
    let same : number ≡ word = cc (gave.1, gave.2, told) in
    subst (λ n. IsFirstWrong (script_shape c.args.top.now) (words_of c.args.line.now) n) same
    (no_customer (command_shape c.args.top.now) (words_of c.args.line.now) c.new-words.ensures c.in_err-customer.ensures.wrong)

pub returns-in_err-command-clause-bad : goal.returns-in_err-command-clause-bad
returns-in_err-command-clause-bad c = λ word told.
    let gave = err_from_is_err_and c.from_residual-in_err-command.result c.from_residual-in_err-command.ensures.1 in
    let same : c.in_err-command.field-0.0 ≡ Bad word = cc (gave.1, gave.2, told) in
    let wrong = c.in_err-command.ensures.bad.word word same in
    wrong_after_customer (command_shape c.args.top.now) (words_of c.args.line.now) word wrong.0 c.new-words.ensures c.in_ok-customer.ensures.ok c.in_ok-customer.ensures.is_name wrong.1 wrong.2

pub returns-in_err-command-clause-memory : goal.returns-in_err-command-clause-memory
returns-in_err-command-clause-memory c = λ told.
    let gave = err_from_is_err_and c.from_residual-in_err-command.result c.from_residual-in_err-command.ensures.1 in
    let same : c.in_err-command.field-0.0 ≡ Memory = cc (gave.1, gave.2, told) in
    let cut : words_of c.args.line.now ≡ c.in_ok-customer.customer ∷ c.read_name.new.words.left =
    sym (ap (λ (position : Position). position.left) c.new-words.ensures) ∙ c.in_ok-customer.ensures.ok.cut in
    subst (λ (words : List (List ℕ)). IsFirst (IsChoice TakesMemory verb_word) (drop 1 words)) (sym cut) (c.in_err-command.ensures.memory (ap Err same))

pub returns-in_err-customer-clause-alone : goal.returns-in_err-customer-clause-alone
returns-in_err-customer-clause-alone c =
    let left = ap (λ (position : Position). position.left) c.new-words.ensures in
    nameless_alone c.args.top.now c.args.line.now (λ first. c.in_err-customer.ensures.wrong.none (subst (IsFirst IsName) (sym left) first))

pub returns-in_err-command-clause-alone : goal.returns-in_err-command-clause-alone
returns-in_err-command-clause-alone c =
    let cut : words_of c.args.line.now ≡ c.in_ok-customer.customer ∷ c.read_name.new.words.left =
    sym (ap (λ (position : Position). position.left) c.new-words.ensures) ∙ c.in_ok-customer.ensures.ok.cut in
    customer_alone c.args.top.now c.args.line.now c.in_ok-customer.customer c.read_name.new.words.left cut (record { alone = c.read_command_at.ensures.alone })

pub returns-clause-alone : goal.returns-clause-alone
returns-clause-alone c =
    let cut : words_of c.args.line.now ≡ c.in_ok-customer.customer ∷ c.read_name.new.words.left =
    sym (ap (λ (position : Position). position.left) c.new-words.ensures) ∙ c.in_ok-customer.ensures.ok.cut in
    customer_alone c.args.top.now c.args.line.now c.in_ok-customer.customer c.read_name.new.words.left cut (record { alone = c.read_command_at.ensures.alone })
