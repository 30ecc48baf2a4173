use Rattle.hose_core.proofs.stepping.Core.step.Goals as goal

pub returns-in-Link-clause-step : goal.returns-in-Link-clause-step
returns-in-Link-clause-step g c = rw c.in-Link.is (c.link.ensures c.args.customer.now).step

pub returns-in-Link-clause-network : goal.returns-in-Link-clause-network
returns-in-Link-clause-network g c = (c.link.ensures c.args.customer.now).answered.network

pub returns-in-Link-clause-met : goal.returns-in-Link-clause-met
returns-in-Link-clause-met g c = (c.link.ensures c.args.customer.now).answered.met

pub returns-in-Link-clause-names : goal.returns-in-Link-clause-names
returns-in-Link-clause-names g c = (c.link.ensures c.args.customer.now).answered.names

pub returns-in-Link-clause-goes : goal.returns-in-Link-clause-goes
returns-in-Link-clause-goes g c = (c.link.ensures c.args.customer.now).answered.ledger
