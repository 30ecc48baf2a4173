use Rattle.std.proofs.Common.{◌∙◌, ◌-◌, ap, map, filter, nat_lt, rules}
use Rattle.std.proofs.lemmas.List.{take_at}
use Rattle.std.proofs.lemmas.List.Elements.{filter_from_retain}
use Rattle.hose_io.proofs.failing.FailingCalls.next.Goals as goal

pub returns-clause-later : goal.returns-clause-later
returns-clause-later c =
    let kept = filter_from_retain _ (nat_lt 0) (λ p x b q h. search rules) _ _ _ c.retain.ensures.filtered in
    let nearer = take_at c.come_nearer.new.calls _ c.self.inside.calls.len (search rules) ∙ c.come_nearer.ensures in
    let before = c.deref_mut.ensures.value ∙ c.self.view_is in
    kept ∙ ap (filter (nat_lt 0)) (nearer ∙ ap (map (λ nth. nth - 1)) before)
