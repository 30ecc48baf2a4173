use Rattle.std.proofs.Common.{◌∙◌, ◌-◌, ℕ, get_or, sym, ap}
use Rattle.hose_law.proofs.Joined.{capacity_of_link}
use Rattle.hose_law.proofs.Rooms.{free_rates-at}
use Rattle.hose_tree.proofs.amounts.free_rate.Goals as goal

pub returns : goal.returns
returns c =
    let network = c.args.top.now in
    let load = get_or c.args.loads.now c.args.link 0 in
    ap (λ (n : ℕ). n - load) (sym (capacity_of_link network c.args.link c.link.result c.link.ensures.value))
    ∙ sym (free_rates-at network c.args.loads.now c.args.link c.requires.link)
