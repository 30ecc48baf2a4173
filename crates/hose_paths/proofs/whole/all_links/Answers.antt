-- A list of as many places as there are links, each true.
use Rattle.std.proofs.Common.{◌≡◌, ◌∙◌, true, false, length, get_or, sym, ap, arith, rules}
use Rattle.std.proofs.lemmas.List.{ext_get_or, get_or-replicate, length-replicate}
use Rattle.hose_law.specs.Walk.{all_links}
use Rattle.hose_paths.proofs.whole.all_links.Goals as goal

pub returns-clause-links : goal.returns-clause-links
returns-clause-links c =
    let n = length c.args.top.now.links in
    let long : length c.fill_where.new.self ≡ n =
    c.fill_where.ensures.len ∙ ap length c.in_ok-links.ensures ∙ length-replicate c.links.result false ∙ c.links.ensures.count in
    ext_get_or false c.fill_where.new.self (all_links c.args.top.now) (long ∙ sym (length-replicate n true))
    (λ k below.
    let answer = c.fill_where.ensures.answers k below in
    let here : get_or c.fill_where.new.self k false ≡ true = search rules in
    here ∙ sym (get_or-replicate n k true false (omega (arith, below, long))))
