-- The orders before the next one were answered.
use Rattle.std.proofs.Common.{rules, ◌≡◌}
use Rattle.hose_offline.proofs.OrdersAnswered.{has_room, up_to_next, up_to_none}
use Rattle.hose_offline.proofs.generating.answer_orders.Goals as goal

pub loop-order-init : goal.loop-order-init
loop-order-init g c =
    let whole : c.into_iter-order-iterator.result.rest.items ≡ c.args.orders.items = search rules in
    rw whole (up_to_none g.K.Books c.args.core.now c.args.orders.items c.new-tally.result c.new-tally.ensures c.requires)

pub count_reply-requires : goal.count_reply-requires
count_reply-requires g c = has_room g.K.Books c.args.core.now c.args.orders.items c.loop-order.core c.loop-order.order-iterator.rest.items c.loop-order.tally (search rules) c.loop-order.invariant

pub loop-order-preserved : goal.loop-order-preserved
loop-order-preserved g c =
    let before = rw c.in-Some.ensures.steps.0 at c.loop-order.invariant in
    let counted = c.in_ok-count_reply.ensures in
    up_to_next g.K.Books c.args.core.now c.args.orders.items c.loop-order.core c.answer_order-reply.new.core c.in-Some.order c.next.new.self.rest.items c.answer_order-reply.result c.loop-order.tally c.count_reply.new.tally
    before c.answer_order-reply.ensures.answers counted.some c.answer_order-reply.ensures.network counted.counted counted.up_to
