use Rattle.hose_offline.proofs.OrdersAnswered.{AnsweredUpTo}
use Rattle.hose_offline.proofs.generating.answer_orders.Given as goal

abbrev pub invariant-loop-order : goal.invariant-loop-order
invariant-loop-order g l = AnsweredUpTo g.K.Books l.fn.core l.core l.fn.orders.items l.order-iterator.rest.items l.tally
