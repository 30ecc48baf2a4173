use Rattle.std.proofs.Common.{◌∙◌, ℕ, [], ◌∷◌, ◌++◌, sym, subst}
use Rattle.std.proofs.lemmas.Bool.{false≢true}
use Rattle.hose_graph.specs.Ascending.{IsAscending}
use Rattle.hose_proto.proofs.ListItems.{ends_spelled}
use Rattle.hose_replies.proofs.lists.AscendingEndsItems.next.Goals as goal

pub returns-else-comes_after : goal.returns-else-comes_after
returns-else-comes_after c = record {
  some = tt;
  none = λ end told next.
      let same = (ends_spelled c.args.top.now c.requires.network).apart c.in-Some.end end c.in-Some.ensures.is_end next.in_order.here (sym c.in-Some.ensures.spelled ∙ told) in
      let rises = subst (λ (e : ℕ × ℕ). IsAscending (c.args.ends.now ++ e ∷ [])) (sym same) next.in_order.ascending in
      false≢true (sym c.if-comes_after.false ∙ c.comes_after.ensures.1 rises);
}
