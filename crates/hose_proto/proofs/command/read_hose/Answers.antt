use Rattle.std.proofs.lemmas.Result.{IfErr-weaker}
use Rattle.hose_proto.specs.Command.{ends_shape}
use Rattle.hose_proto.specs.steps.Reading.{IsFaultIn}
use Rattle.hose_proto.proofs.CommandShapes.{ends_fault, ends_not_wrong}
use Rattle.hose_proto.proofs.OneCommand.{ends_unique}
use Rattle.hose_proto.proofs.command.read_hose.Goals as goal

pub returns-clause-bad : goal.returns-clause-bad
returns-clause-bad c = IfErr-weaker c.read_ends.result _ (IsFaultIn (ends_shape c.args.top.now) c.args.words.now) (ends_fault c.args.top.now) c.read_ends.ensures.bad

pub returns-clause-alone : goal.returns-clause-alone
returns-clause-alone c hose other are are' = ends_unique c.args.top.now c.args.words.now.left hose other c.nodes-nodes.ensures.network are are'

pub returns-clause-never_wrong : goal.returns-clause-never_wrong
returns-clause-never_wrong c hose word are wrong = ends_not_wrong c.args.top.now c.args.words.now.left hose word are wrong
