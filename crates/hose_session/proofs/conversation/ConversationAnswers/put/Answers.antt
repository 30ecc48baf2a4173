use Rattle.std.proofs.Common.{Ok, subst}
use Rattle.hose_graph.specs.Network.{Network}
use Rattle.hose_io.specs.steps.Writing.{IsPut}
use Rattle.hose_proto.specs.ReplyText.{line_of, reply_text}
use Rattle.hose_session.proofs.conversation.ConversationAnswers.put.Goals as goal

pub returns : goal.returns
returns g c = subst (λ (n : Network). IsPut g.O.Sink c.args.output.now c.put_reply.new.sink (line_of (reply_text n c.args.reply.now)) (Ok tt)) c.requires.0 c.in_ok-put_reply.ensures.put
