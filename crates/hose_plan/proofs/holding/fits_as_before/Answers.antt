use Rattle.hose_plan.proofs.EqualGrounds.{first_on_links, hold_by_safe}
use Rattle.hose_plan.proofs.holding.fits_as_before.Goals as goal

pub first_fits-requires-clause-links : goal.first_fits-requires-clause-links
first_fits-requires-clause-links c = first_on_links c.args.top.now c.args.grounds.now c.requires.made

pub returns : goal.returns
returns c hose earlier are =
    hold_by_safe c.args.top.now c.nodes-nodes.ensures.network c.args.service.now c.args.loads.now earlier hose c.args.grounds.now c.requires.same are c.first_fits.result c.first_fits.ensures
