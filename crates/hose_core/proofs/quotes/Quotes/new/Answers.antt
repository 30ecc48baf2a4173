use Rattle.std.proofs.Common.{rules, ◌≡◌, ◌∙◌, ◌<◌, None, get_or, replicate, sym, arith}
use Rattle.std.proofs.lemmas.List.{get_or-replicate, same_lists}
use Rattle.hose_core.proofs.quotes.Quotes.new.Goals as goal

pub returns : goal.returns
returns c =
    same_lists c.from_fn.result (replicate 16 None) c.from_fn.ensures.items.long
    (λ k d below.
    let inside : k < 16 = omega (arith, below, c.from_fn.ensures.items.long) in
    let called = (c.from_fn.ensures.items.at k d inside).2 in
    let none : get_or c.from_fn.result k d ≡ None = search rules in
    none ∙ sym (get_or-replicate 16 k None d inside))
