use Rattle.std.proofs.Common.{◌∙◌, ℕ, Any, ◌≡◌, refl, sym, subst}
use Rattle.hose_proto.proofs.ListItems.{ends_spelled}
use Rattle.hose_proto.proofs.command.NewEndsItems.next.Goals as goal

pub returns-then-has_node : goal.returns-then-has_node
returns-then-has_node c = record {
  some = tt;
  none = λ end told new.
      let same = (ends_spelled c.args.top.now c.requires.network).apart c.in-Some.end end c.in-Some.ensures.is_end new.is_end (sym c.in-Some.ensures.spelled ∙ told) in
      new.is_new (subst (λ (at : ℕ × ℕ). Any (λ (earlier : ℕ × ℕ). earlier.0 ≡ at.0) c.args.ends.now) same (c.if-has_node.ensures.0 refl));
}
