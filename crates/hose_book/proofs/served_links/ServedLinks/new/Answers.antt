use Rattle.std.proofs.Common.{◌≡◌, ◌∙◌, true, false, length, get_or, replicate, sym, ap, subst, arith, rules}
use Rattle.std.proofs.lemmas.List.{ext_get_or, get_or-replicate, length-replicate}
use Rattle.hose_book.specs.steps.Serving.{IsSetInService}
use Rattle.hose_book.proofs.Served.{served_all}
use Rattle.hose_book.proofs.served_links.ServedLinks.new.Goals as goal

pub returns : goal.returns
returns c =
    let count = c.args.count in
    let long : length c.fill_where.new.self ≡ count = c.fill_where.ensures.len ∙ ap length c.in_ok-links.ensures ∙ length-replicate count false in
    let links : c.fill_where.new.self ≡ replicate count true =
    ext_get_or false c.fill_where.new.self (replicate count true) (long ∙ sym (length-replicate count true))
    (λ k below.
    let answer = c.fill_where.ensures.answers k below in
    let here : get_or c.fill_where.new.self k false ≡ true = search rules in
    here ∙ sym (get_or-replicate count k true false (omega (arith, below, long)))) in
    λ i. record { links = links i; out = c.in_ok-out.ensures.items i }

pub invariant_of-result : goal.invariant_of-result
invariant_of-result c = (subst IsSetInService (sym (returns c)) (served_all c.args.count c.requires), omega (arith, c.in_ok-out.ensures.capacity))
