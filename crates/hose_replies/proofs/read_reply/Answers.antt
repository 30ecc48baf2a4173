use Rattle.std.proofs.Common.{◌≡◌, [], ap, subst, sym}
use Rattle.hose_words.specs.steps.Cursor.{Position}
use Rattle.hose_words.specs.steps.Grammar.{IsFirstNotAllowed}
use Rattle.hose_words.specs.Words.{words_of}
use Rattle.hose_replies.specs.steps.ReplyLines.{IsReply, reply_grammar}
use Rattle.hose_replies.proofs.ReplyLemmas.{line_of_reply, read_again, read_places, reads_again, told_at_start}
use Rattle.hose_replies.proofs.read_reply.Goals as goal

pub returns-clause-bad : goal.returns-clause-bad
returns-clause-bad c = told_at_start c.args.top.now c.new.result c.read_words.result (words_of c.args.line.now) c.new.ensures c.read_words.ensures.bad

pub returns-clause-places : goal.returns-clause-places
returns-clause-places c = read_places c.args.top.now c.new.result.left c.read_words.result c.read_words.ensures.ok

pub returns-clause-told : goal.returns-clause-told
returns-clause-told c reply told =
    let network = c.args.top.now in
    let words = c.new.result.left in
    let line : words ≡ words_of c.args.line.now = ap (λ (position : Position). position.left) c.new.ensures in
    read_again network c.nodes-nodes.ensures.network words c.read_words.result c.read_words.ensures.ok
    (λ n is. subst (λ w. IsFirstNotAllowed (reply_grammar network) [] w n) (sym line) (told_at_start network c.new.result c.read_words.result (words_of c.args.line.now) c.new.ensures c.read_words.ensures.bad n is))
    reply (subst (λ w. IsReply network w reply) (sym line) told)

pub returns-clause-lines : goal.returns-clause-lines
returns-clause-lines c = line_of_reply

pub returns-clause-again : goal.returns-clause-again
returns-clause-again c = reads_again c.args.top.now c.nodes-nodes.ensures.network
