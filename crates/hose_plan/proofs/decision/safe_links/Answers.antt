-- A list of as many places as there are links, each true where the link is in service and has half of the rates free.
use Rattle.std.proofs.Common.{◌≡◌, ◌∙◌, ℕ, ◌/◌, ◌&&◌, false, length, get_or, ap, arith, replicate, rules}
use Rattle.std.proofs.lemmas.List.{length-replicate}
use Rattle.std.specs.Prelude.{nat_le, slice_index, slice_index_or}
use Rattle.hose_law.specs.Room.{free_rates}
use Rattle.hose_plan.proofs.EqualGrounds.{safe_from}
use Rattle.hose_plan.proofs.decision.safe_links.Goals as goal

pub returns-then-first_fits-clause-none : goal.returns-then-first_fits-clause-none
returns-then-first_fits-clause-none c fits = c.in_ok-links.ensures ∙ ap (λ (n : ℕ). replicate n false) c.links.ensures.count

pub returns-clause-links : goal.returns-clause-links
returns-clause-links c unfit =
    let network = c.args.top.now in
    let service = c.args.service.now in
    let free = free_rates network c.args.loads.now in
    let long : length c.fill_where.new.self ≡ length network.links = c.fill_where.ensures.len ∙ ap length c.in_ok-links.ensures ∙ length-replicate c.links.result false ∙ c.links.ensures.count in
    safe_from network service c.args.loads.now c.args.hose.now c.requires.service (c.total.result / 2) c.fill_where.new.self (ap (λ (t : ℕ). t / 2) c.total.ensures.sum) long
    (λ k inside.
    let answer = c.fill_where.ensures.answers k (omega (arith, inside, long)) in
    let here : get_or c.fill_where.new.self k false ≡ (slice_index_or service k false && nat_le (c.total.result / 2) (slice_index free k)) = search rules in
    here)
