use Rattle.std.proofs.lemmas.Result.{IfErr-at_err, IfErr-weaker, IfOk-weaker}
use Rattle.std.proofs.Common.{refl}
use Rattle.hose_proto.specs.Command.{IsCommand, command_shape}
use Rattle.hose_proto.specs.steps.CommandForms.{command_form}
use Rattle.hose_proto.specs.steps.Reading.{IsFaultIn, IsFaultOf}
use Rattle.hose_proto.proofs.CommandShapes.{asks_back, asks_told, command_fault, command_not_wrong}
use Rattle.hose_proto.proofs.OneCommand.{asked_for, command_unique, read_asks_of}
use Rattle.hose_proto.proofs.command.read_command_at.Goals as goal

pub returns-clause-ok : goal.returns-clause-ok
returns-clause-ok c = IfOk-weaker c.read_words.result _ (IsCommand c.args.top.now c.args.words.now.left) (asks_told c.args.top.now c.args.words.now.left) c.read_words.ensures.ok

pub returns-clause-bad : goal.returns-clause-bad
returns-clause-bad c = IfErr-weaker c.read_words.result _ (IsFaultIn (command_shape c.args.top.now) c.args.words.now) (command_fault c.args.top.now c.nodes-nodes.ensures.network) c.read_words.ensures.bad

pub returns-clause-asked : goal.returns-clause-asked
returns-clause-asked c command asks =
    asked_for c.args.top.now c.args.words.now.left c.read_words.result c.nodes-nodes.ensures.network c.read_words.ensures.ok
    (λ n told. let wrong = (IfErr-at_err (IsFaultOf (command_form c.args.top.now) c.args.words.now) told c.read_words.ensures.bad).word n refl in (wrong.place, wrong.wrong))
    command (asks_back c.args.top.now c.args.words.now.left command asks)

pub returns-clause-nodes : goal.returns-clause-nodes
returns-clause-nodes c = read_asks_of c.args.top.now c.args.words.now.left c.read_words.result c.read_words.ensures.ok

pub returns-clause-alone : goal.returns-clause-alone
returns-clause-alone c command other asks asks' =
    command_unique c.args.top.now c.nodes-nodes.ensures.network c.args.words.now.left command other (asks_back c.args.top.now c.args.words.now.left command asks)
    (asks_back c.args.top.now c.args.words.now.left other asks')

pub returns-clause-never_wrong : goal.returns-clause-never_wrong
returns-clause-never_wrong c command word asks wrong = command_not_wrong c.args.top.now c.args.words.now.left command word asks wrong
