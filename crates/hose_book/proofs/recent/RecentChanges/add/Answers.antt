use Rattle.std.proofs.Common.{◌+◌, ◌≤◌, ◌∙◌, ◌++◌, ℕ, List, arith, rules, length, length-append, subst, sym, ap, vec_capacity}
use Rattle.std.proofs.lemmas.List.{length-map, take_all}
use Rattle.hose_graph.specs.Ascending.{firsts}
use Rattle.hose_law.specs.Recent.{Recent}
use Rattle.hose_law.specs.steps.Tracks.{changes_of}
use Rattle.hose_book.specs.declared.recent.TheConstants.{MOST_CHANGES}
use Rattle.hose_book.specs.steps.Changes.{AreInOrder, AreUpTo, AscendByLinks}
use Rattle.hose_book.proofs.Tracking.{ascend_next, in_order_next}
use Rattle.hose_book.proofs.recent.RecentChanges.add.Goals.{then-len-amounts-gt-MOST_CHANGES, else-len-amounts-gt-MOST_CHANGES}
use Rattle.hose_book.proofs.recent.RecentChanges.add.Goals as goal

pub invariant_of-self : goal.invariant_of-self
invariant_of-self c =
    let amounts = c.args.amounts.now in
    let room = c.if-len-amounts-gt-MOST_CHANGES in
    let from = room.self-inside.changes in
    let fit : length from.items + length amounts ≤ MOST_CHANGES = elim room.branch [
      | then-len-amounts-gt-MOST_CHANGES w ↦ search rules
      | else-len-amounts-gt-MOST_CHANGES w ↦ search rules
    ] in
    let capacity : MOST_CHANGES ≤ vec_capacity from = elim room.branch [
      | then-len-amounts-gt-MOST_CHANGES w ↦ search rules
      | else-len-amounts-gt-MOST_CHANGES w ↦ search rules
    ] in
    let order : AreInOrder from.items = elim room.branch [
      | then-len-amounts-gt-MOST_CHANGES w ↦ search rules
      | else-len-amounts-gt-MOST_CHANGES w ↦ search rules
    ] in
    let links : AscendByLinks from.items = elim room.branch [
      | then-len-amounts-gt-MOST_CHANGES w ↦ search rules
      | else-len-amounts-gt-MOST_CHANGES w ↦ search rules
    ] in
    let up_to : AreUpTo c.args.epoch from.items = elim room.branch [
      | then-len-amounts-gt-MOST_CHANGES w ↦ search rules
      | else-len-amounts-gt-MOST_CHANGES w ↦ rw w.self-inside-is (subst (AreUpTo c.args.epoch) (sym (ap (λ (r : Recent). r.changes) c.self.view_is)) c.requires.epochs)
    ] in
    let whole = take_all c.loop-link.link-index amounts (omega arith) in
    let is = c.loop-link.invariant.0 ∙ ap (λ (pairs : List (ℕ × ℕ)). from.items ++ changes_of (c.args.epoch + 1) (firsts pairs)) whole in (
      rw is (omega (arith, fit, length-append from.items (changes_of (c.args.epoch + 1) (firsts amounts)), length-map {B = ℕ × ℕ} (firsts amounts) (λ (link : ℕ). (c.args.epoch + 1, link)), length-map amounts (λ (pair : ℕ × ℕ). pair.0))),
      search rules,
      subst AreInOrder (sym is) (in_order_next from.items c.args.epoch (firsts amounts) order up_to),
      subst AscendByLinks (sym is) (ascend_next from.items c.args.epoch (firsts amounts) links up_to c.requires.ascending),
    )
