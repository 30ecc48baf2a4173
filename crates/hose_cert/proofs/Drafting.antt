-- A draft with one line more.
use Rattle.std.proofs.Common.{◌≡◌, ◌≢◌, ◌⊎◌, ◌∙◌, ℕ, ◌+◌, ◌<◌, ◌≤◌, Bool, true, false, List, [], ◌∷◌, ◌++◌, Option, None, Some, Contains, length, get_or, set, inl, inr, refl, sym, ap, subst, arith, append-nil, length-append}
use Rattle.std.specs.Prelude.{cond, nat_lt, slice_index, slice_index_or, slice_set}
use Rattle.std.specs.List.{All, Any}
use Rattle.std.specs.List.Sorted.{IsStrictlyIncreasing}
use Rattle.std.proofs.lemmas.Bool.{cases_eq, cases_lt, cond-false, cond-true, eq-eqb, le-ltb, lt-ltb, ne_eqb}
use Rattle.std.proofs.Math.ListN.{get_or-append}
use Rattle.std.proofs.Math.Seq.{get_or-append_seam}
use Rattle.std.proofs.lemmas.List.{get_or-map, get_or_default, length-map, get_or-set_other, get_or-set_same, length-set, map-append}
use Rattle.std.proofs.lemmas.List.Elements.{All-append, All-cons, All-nil, All-weaker, Contains-append_left, Contains-append_right, Contains-push, Contains-push_cases}
use Rattle.std.proofs.lemmas.Grind.{flat_map-append}
use Rattle.hose_words.proofs.Saying.{flat_map-last}
use Rattle.hose_graph.specs.Ascending.{IsAscending, firsts}
use Rattle.hose_graph.specs.Network.{Network}
use Rattle.hose_graph.specs.declared.limits.TheConstants.{MOST_TREE_LINKS}
use Rattle.hose_cert.specs.CertLine.{CertLine, cost_line, end_line, hose_line, numbers_from, pot_line, use_line, without_line}
use Rattle.hose_cert.specs.Certificate.{FollowAll, MayFollow, last_of, left_out_by, left_out_in, numbers_by, numbers_in, place_after, used_by, used_in}
use Rattle.hose_cert.specs.steps.Draft.{AreDraftRows, IsBody, IsLast, IsRefusedLine, IsSaid, IsUse, TellsBelow}
use Rattle.hose_cert.specs.steps.Following.{MayLeaveOut, MayNumber, MayUse}
use Rattle.hose_cert.specs.steps.Judging.{AlsoTells, AreUpToMost, IsRootJudged}
use Rattle.hose_cert.specs.Rules.{DifferWithinCosts, HasNamed, others_of, weighed_by}
use Rattle.hose_cert.specs.declared.statement.TheConstants.{LINE_NUMBERS}
use Rattle.hose_cert.specs.declared.draft.Body.{Body}
use Rattle.hose_cert.specs.declared.draft.Last.{Last}
use Rattle.hose_cert.specs.declared.draft.Last.TheVariants as last
use Rattle.hose_cert.specs.declared.rows.Rows.{Rows}

-- ---- lines in order

module _ (network : Network) where
  -- what comes after lines in order may follow the last of them
  follow_split : (last : Option CertLine) (lines more : List CertLine) → FollowAll network last (lines ++ more) → FollowAll network (last_of last lines) more
  follow_split last [] more follow = follow
  follow_split last (line ∷ lines) more follow = follow_split (Some line) lines more follow.1

  pub follow_more : (last : Option CertLine) (lines : List CertLine) (line : CertLine) → FollowAll network last lines → MayFollow network (last_of last lines) line → FollowAll network last (lines ++ line ∷ [])
  follow_more last [] line follow may = (may, tt)
  follow_more last (first ∷ lines) line follow may = (follow.0, follow_more (Some first) lines line follow.1 may)

  pub last_more : (last : Option CertLine) (lines : List CertLine) (line : CertLine) → last_of last (lines ++ line ∷ []) ≡ Some line
  last_more last [] line = refl
  last_more last (first ∷ lines) line = last_more (Some first) lines line

  -- no certificate goes on with a line that may not follow
  pub refused : (lines : List CertLine) (line : CertLine) → (MayFollow network (last_of None lines) line → ⊥) → IsRefusedLine network lines line
  refused lines line none more whole = none (follow_split None lines (line ∷ more) whole.follow).0

-- ---- what may come next

module _ (network : Network) (lines : List CertLine) (body : Body) where
  abbrev May : CertLine → Type 0
  May line = MayFollow network (last_of None lines) line

  may_at : (last : CertLine) (line : CertLine) → last_of None lines ≡ Some last → May line → MayFollow network (Some last) line
  may_at last line is may = subst (λ l. MayFollow network l line) is may

  may_from : (last : CertLine) (line : CertLine) → last_of None lines ≡ Some last → MayFollow network (Some last) line → May line
  may_from last line is may = subst (λ l. MayFollow network l line) (sym is) may

  pub use_next : (last : Last) (pair : ℕ × ℕ) → IsLast network lines body last → May (use_line pair) → MayUse last pair.0
  use_next last.Hose pair is may = tt
  use_next (last.Use link) pair is may = may_at (use_line (link, is.0.0)) (use_line pair) is.0.1 may
  use_next (last.Without link) pair is may = may_at (without_line link) (use_line pair) is.0 may
  use_next last.Pot pair is may = may_at (pot_line is.0 is.1 is.2) (use_line pair) is.3 may
  use_next last.End pair is may = may_at end_line (use_line pair) is.0 may

  pub use_follows : (last : Last) (pair : ℕ × ℕ) → IsLast network lines body last → MayUse last pair.0 → May (use_line pair)
  use_follows last.Hose pair is may = may_from (hose_line is.0.0) (use_line pair) is.0.1 tt
  use_follows (last.Use link) pair is may = may_from (use_line (link, is.0.0)) (use_line pair) is.0.1 may
  use_follows (last.Without link) pair is may = absurd may
  use_follows last.Pot pair is may = absurd may
  use_follows last.End pair is may = absurd may

  pub without_next : (last : Last) (link : ℕ) → IsLast network lines body last → May (without_line link) → MayLeaveOut last link
  without_next last.Hose link is may = may_at (hose_line is.0.0) (without_line link) is.0.1 may
  without_next (last.Use earlier) link is may = tt
  without_next (last.Without earlier) link is may = may_at (without_line earlier) (without_line link) is.0 may
  without_next last.Pot link is may = may_at (pot_line is.0 is.1 is.2) (without_line link) is.3 may
  without_next last.End link is may = may_at end_line (without_line link) is.0 may

  pub without_follows : (last : Last) (link : ℕ) → IsLast network lines body last → MayLeaveOut last link → May (without_line link)
  without_follows last.Hose link is may = absurd may
  without_follows (last.Use earlier) link is may = may_from (use_line (earlier, is.0.0)) (without_line link) is.0.1 tt
  without_follows (last.Without earlier) link is may = may_from (without_line earlier) (without_line link) is.0 may
  without_follows last.Pot link is may = absurd may
  without_follows last.End link is may = absurd may

  pub pot_next : (last : Last) (root from : ℕ) (numbers : List ℕ) → IsLast network lines body last → May (pot_line root from numbers)
      → MayNumber last × (root ≡ body.rows.root) × (from ≡ length body.rows.row.items)
  pot_next last.Hose root from numbers is may = absurd (may_at (hose_line is.0.0) (pot_line root from numbers) is.0.1 may)
  pot_next (last.Use link) root from numbers is may =
      let at = may_at (use_line (link, is.0.0)) (pot_line root from numbers) is.0.1 may in
      (tt, at.0 ∙ sym is.3.0, at.1 ∙ sym (ap length is.3.1))
  pot_next (last.Without link) root from numbers is may =
      let at = may_at (without_line link) (pot_line root from numbers) is.0 may in
      (tt, at.0 ∙ sym is.1.0, at.1 ∙ sym (ap length is.1.1))
  pot_next last.Pot root from numbers is may =
      let at = may_at (pot_line is.0 is.1 is.2) (pot_line root from numbers) is.3 may in
      let place : (root, from) ≡ (body.rows.root, length body.rows.row.items) = at ∙ is.4 in
      (tt, ap (λ (p : ℕ × ℕ). p.0) place, ap (λ (p : ℕ × ℕ). p.1) place)
  pot_next last.End root from numbers is may = absurd (may_at end_line (pot_line root from numbers) is.0 may)

  pub pot_follows : (last : Last) (root from : ℕ) (numbers : List ℕ) → IsLast network lines body last → MayNumber last → root ≡ body.rows.root → from ≡ length body.rows.row.items
      → May (pot_line root from numbers)
  pot_follows last.Hose root from numbers is may same at = absurd may
  pot_follows (last.Use link) root from numbers is may same at = may_from (use_line (link, is.0.0)) (pot_line root from numbers) is.0.1 (same ∙ is.3.0, at ∙ ap length is.3.1)
  pot_follows (last.Without link) root from numbers is may same at = may_from (without_line link) (pot_line root from numbers) is.0 (same ∙ is.1.0, at ∙ ap length is.1.1)
  pot_follows last.Pot root from numbers is may same at =
      may_from (pot_line is.0 is.1 is.2) (pot_line root from numbers) is.3 ((λ i. (same i, at i)) ∙ sym is.4)
  pot_follows last.End root from numbers is may same at = absurd may

  pub end_next : (one : Last) → IsLast network lines body one → May end_line
      → (one ≡ last.Pot) × (body.rows.root ≡ length network.nodes) × (length body.rows.row.items ≡ 0)
  end_next last.Hose is may = absurd (may_at (hose_line is.0.0) end_line is.0.1 may)
  end_next (last.Use link) is may = absurd (may_at (use_line (link, is.0.0)) end_line is.0.1 may)
  end_next (last.Without link) is may = absurd (may_at (without_line link) end_line is.0 may)
  end_next last.Pot is may =
      let place = sym is.4 ∙ may_at (pot_line is.0 is.1 is.2) end_line is.3 may in
      (refl, ap (λ (p : ℕ × ℕ). p.0) place, ap (λ (p : ℕ × ℕ). p.1) place)
  end_next last.End is may = absurd (may_at end_line end_line is.0 may)

  pub end_follows : (one : Last) → one ≡ last.Pot → IsLast network lines body one → body.rows.root ≡ length network.nodes → length body.rows.row.items ≡ 0 → May end_line
  end_follows one same is root none =
      let there : IsLast network lines body last.Pot = subst (IsLast network lines body) same is in
      may_from (pot_line there.0 there.1 there.2) end_line there.3 (there.4 ∙ (λ i. (root i, none i)))

  -- neither the cost nor the hose may come once more
  pub no_cost_next : (last : Last) (cost : ℕ) → IsLast network lines body last → May (cost_line cost) → ⊥
  no_cost_next last.Hose cost is may = may_at (hose_line is.0.0) (cost_line cost) is.0.1 may
  no_cost_next (last.Use link) cost is may = may_at (use_line (link, is.0.0)) (cost_line cost) is.0.1 may
  no_cost_next (last.Without link) cost is may = may_at (without_line link) (cost_line cost) is.0 may
  no_cost_next last.Pot cost is may = may_at (pot_line is.0 is.1 is.2) (cost_line cost) is.3 may
  no_cost_next last.End cost is may = may_at end_line (cost_line cost) is.0 may

  pub no_hose_next : (last : Last) (hose : List (ℕ × ℕ)) → IsLast network lines body last → May (hose_line hose) → ⊥
  no_hose_next last.Hose hose is may = may_at (hose_line is.0.0) (hose_line hose) is.0.1 may
  no_hose_next (last.Use link) hose is may = may_at (use_line (link, is.0.0)) (hose_line hose) is.0.1 may
  no_hose_next (last.Without link) hose is may = may_at (without_line link) (hose_line hose) is.0 may
  no_hose_next last.Pot hose is may = may_at (pot_line is.0 is.1 is.2) (hose_line hose) is.3 may
  no_hose_next last.End hose is may = may_at end_line (hose_line hose) is.0 may

-- ---- the numbers

tells_same : (end : ℕ) (flag : Bool) (P Q : ℕ → Type 0) → ((k : ℕ) → k < end → P k → Q k) → ((k : ℕ) → k < end → Q k → P k) → TellsBelow end flag P → TellsBelow end flag Q
tells_same end flag P Q on back tells = (λ so k below. on k below (tells.0 so k below), λ all. tells.1 (λ k below. back k below (all k below)))

tells_more : (end : ℕ) (flag new : Bool) (P : ℕ → Type 0) → TellsBelow end flag P → AlsoTells flag new (P end) → TellsBelow (end + 1) new P
tells_more end flag new P tells also = (
  λ so k below. elim (cases_lt k end) [
    | inl before ↦ tells.0 (also.0 so).0 k before
    | inr past ↦ subst P (omega (arith, past, below)) (also.0 so).1
  ],
  λ all. also.1 (tells.1 (λ k below. all k (omega (arith, below))), all end (omega arith)),
)

module _ (network : Network) (numbers others : ℕ → List ℕ) (cost : ℕ) (hose : List (ℕ × ℕ)) (without : List Bool) where
  -- rows stand by their numbers alone, whichever list of lines these come from
  pub rows_same : (rows : Rows) → ((k : ℕ) → others k ≡ numbers k) → AreDraftRows network numbers cost hose without rows → AreDraftRows network others cost hose without rows
  rows_same rows same are = record {
    bound = are.bound;
    row = same rows.root ∙ are.row;
    up_to = are.up_to;
    later = λ k past. same k ∙ are.later k past;
    few = are.few;
    starts = tells_same rows.root rows.starts _ _ (λ k _ zero. ap (λ (ns : List ℕ). slice_index ns k) (same k) ∙ zero) (λ k _ zero. ap (λ (ns : List ℕ). slice_index ns k) (sym (same k)) ∙ zero) are.starts;
    changes = tells_same rows.root rows.changes _ _ (λ k _. subst (DifferWithinCosts network (others_of without)) (sym (same k))) (λ k _. subst (DifferWithinCosts network (others_of without)) (same k)) are.changes;
    weighs = tells_same rows.root rows.weighs _ _ (λ k _. subst (λ (ns : List ℕ). cost ≤ weighed_by ns hose) (sym (same k))) (λ k _. subst (λ (ns : List ℕ). cost ≤ weighed_by ns hose) (same k)) are.weighs;
  }

  module _ (old mid : Rows) (more : List ℕ) (root : mid.root ≡ old.root) (row : mid.row.items ≡ old.row.items ++ more) (starts : mid.starts ≡ old.starts) (changes : mid.changes ≡ old.changes)
      (weighs : mid.weighs ≡ old.weighs) (here : others old.root ≡ numbers old.root ++ more) (else : (k : ℕ) → k ≢ old.root → others k ≡ numbers k) (are : AreDraftRows network numbers cost hose without old) where
    row_is : mid.row.items ≡ others old.root
    row_is = row ∙ ap (λ (ns : List ℕ). ns ++ more) (sym are.row) ∙ sym here

    same_below : (k : ℕ) → k < old.root → others k ≡ numbers k
    same_below k below = else k (λ same. absurd (omega (arith, below, same)))

    starts_on : TellsBelow old.root old.starts (λ k. slice_index (others k) k ≡ 0)
    starts_on = tells_same old.root old.starts _ _ (λ k below zero. ap (λ (ns : List ℕ). slice_index ns k) (same_below k below) ∙ zero)
        (λ k below zero. ap (λ (ns : List ℕ). slice_index ns k) (sym (same_below k below)) ∙ zero) are.starts

    changes_on : TellsBelow old.root old.changes (λ k. DifferWithinCosts network (others_of without) (others k))
    changes_on = tells_same old.root old.changes _ _ (λ k below. subst (DifferWithinCosts network (others_of without)) (sym (same_below k below)))
        (λ k below. subst (DifferWithinCosts network (others_of without)) (same_below k below)) are.changes

    weighs_on : TellsBelow old.root old.weighs (λ k. cost ≤ weighed_by (others k) hose)
    weighs_on = tells_same old.root old.weighs _ _ (λ k below. subst (λ (ns : List ℕ). cost ≤ weighed_by ns hose) (sym (same_below k below)))
        (λ k below. subst (λ (ns : List ℕ). cost ≤ weighed_by ns hose) (same_below k below)) are.weighs

    later_on : (k : ℕ) → old.root < k → others k ≡ []
    later_on k past = else k (λ same. absurd (omega (arith, past, same))) ∙ are.later k past

    pub up_on : AreUpToMost more → AreUpToMost mid.row.items
    up_on up = subst AreUpToMost (sym row) (All-append (λ number. number ≤ 40000000000000000) old.row.items more are.up_to up)

    -- more numbers of the root
    pub rows_on : AreUpToMost more → length mid.row.items < length network.nodes → AreDraftRows network others cost hose without mid
    rows_on up few = record {
      bound = rw root are.bound;
      row = ap others root ∙ sym row_is;
      up_to = up_on up;
      later = λ k past. later_on k (omega (arith, past, root));
      few = λ _. few;
      starts = rw (root, starts) starts_on;
      changes = rw (root, changes) changes_on;
      weighs = rw (root, weighs) weighs_on;
    }

    -- all numbers of the root, which were judged
    pub rows_judged : (new : Rows) → old.root < length network.nodes → IsRootJudged network cost hose without mid new → AreDraftRows network others cost hose without new
    rows_judged new below judged =
        let next : new.root ≡ old.root + 1 = judged.root ∙ ap (λ (r : ℕ). r + 1) root in
        record {
          bound = omega (arith, below, next);
          row = ap others next ∙ later_on (old.root + 1) (omega arith) ∙ sym judged.row;
          up_to = subst AreUpToMost (sym judged.row) (All-nil (λ number. number ≤ 40000000000000000));
          later = λ k past. later_on k (omega (arith, past, next));
          few = λ there. omega (arith, there, ap length judged.row);
          starts = rw next (tells_more old.root old.starts new.starts (λ k. slice_index (others k) k ≡ 0) starts_on
              (subst (λ (b : Bool). AlsoTells b new.starts (slice_index (others old.root) old.root ≡ 0)) starts
              (subst (λ (r : ℕ). AlsoTells mid.starts new.starts (slice_index (others old.root) r ≡ 0)) root
              (subst (λ (ns : List ℕ). AlsoTells mid.starts new.starts (slice_index ns mid.root ≡ 0)) row_is judged.starts))));
          changes = rw next (tells_more old.root old.changes new.changes (λ k. DifferWithinCosts network (others_of without) (others k)) changes_on
              (subst (λ (b : Bool). AlsoTells b new.changes (DifferWithinCosts network (others_of without) (others old.root))) changes
              (subst (λ (ns : List ℕ). AlsoTells mid.changes new.changes (DifferWithinCosts network (others_of without) ns)) row_is judged.changes)));
          weighs = rw next (tells_more old.root old.weighs new.weighs (λ k. cost ≤ weighed_by (others k) hose) weighs_on
              (subst (λ (b : Bool). AlsoTells b new.weighs (cost ≤ weighed_by (others old.root) hose)) weighs
              (subst (λ (ns : List ℕ). AlsoTells mid.weighs new.weighs (cost ≤ weighed_by ns hose)) row_is judged.weighs)));
        }

-- ---- what lines say together, with one line more

module _ (lines : List CertLine) where
  used_plain : (line : CertLine) → used_by line ≡ [] → used_in (lines ++ line ∷ []) ≡ used_in lines
  used_plain line none = flat_map-last used_by lines line ∙ ap (λ (us : List (ℕ × ℕ)). used_in lines ++ us) none ∙ append-nil (used_in lines)

  left_out_plain : (line : CertLine) → left_out_by line ≡ [] → left_out_in (lines ++ line ∷ []) ≡ left_out_in lines
  left_out_plain line none = flat_map-last left_out_by lines line ∙ ap (λ (us : List ℕ). left_out_in lines ++ us) none ∙ append-nil (left_out_in lines)

  numbers_plain : (line : CertLine) → ((k : ℕ) → numbers_by k line ≡ []) → (k : ℕ) → numbers_in k (lines ++ line ∷ []) ≡ numbers_in k lines
  numbers_plain line none k = flat_map-last (numbers_by k) lines line ∙ ap (λ (us : List ℕ). numbers_in k lines ++ us) (none k) ∙ append-nil (numbers_in k lines)

  numbers_here : (root from : ℕ) (more : List ℕ) → numbers_in root (lines ++ pot_line root from more ∷ []) ≡ numbers_in root lines ++ more
  numbers_here root from more =
      flat_map-last (numbers_by root) lines (pot_line root from more) ∙ ap (λ (b : Bool). numbers_in root lines ++ cond b more []) (eq-eqb root root refl)

  numbers_else : (root from : ℕ) (more : List ℕ) (k : ℕ) → k ≢ root → numbers_in k (lines ++ pot_line root from more ∷ []) ≡ numbers_in k lines
  numbers_else root from more k differ =
      flat_map-last (numbers_by k) lines (pot_line root from more) ∙ ap (λ (b : Bool). numbers_in k lines ++ cond b more []) (ne_eqb k root differ) ∙ append-nil (numbers_in k lines)

  front_more : (line : CertLine) (cost other : ℕ) (hose ends : List (ℕ × ℕ)) (more : List CertLine) → other ≡ cost → ends ≡ hose → lines ≡ cost_line cost ∷ hose_line hose ∷ more
      → lines ++ line ∷ [] ≡ cost_line other ∷ hose_line ends ∷ (more ++ line ∷ [])
  front_more line cost other hose ends more same same' front =
      ap (λ (ls : List CertLine). ls ++ line ∷ []) front ∙ (λ i. cost_line (sym same i) ∷ hose_line (sym same' i) ∷ (more ++ line ∷ []))

-- ---- a line of the plan

rising_push : (xs : List ℕ) (n : ℕ) → IsStrictlyIncreasing xs → ((k : ℕ) → k < length xs → get_or xs k 0 < n) → IsStrictlyIncreasing (xs ++ n ∷ [])
rising_push xs n rises above = λ k below. elim (cases_lt (k + 1) (length xs)) [
  | inl inside ↦ omega (arith, rises k inside, get_or-append xs (n ∷ []) 0 k (omega arith), get_or-append xs (n ∷ []) 0 (k + 1) inside)
  | inr past ↦
      let last : k + 1 ≡ length xs = omega (arith, below, length-append xs (n ∷ [])) in
      let seam : get_or (xs ++ n ∷ []) (k + 1) 0 ≡ n = ap (λ i. get_or (xs ++ n ∷ []) i 0) last ∙ get_or-append_seam xs n [] 0 in
      omega (arith, seam, above k (omega arith), get_or-append xs (n ∷ []) 0 k (omega arith))
]

firsts_push : (pairs : List (ℕ × ℕ)) (pair : ℕ × ℕ) → IsAscending pairs → All (λ (p : ℕ × ℕ). p.0 < pair.0) pairs → IsAscending (pairs ++ pair ∷ [])
firsts_push pairs pair rises below =
    subst IsStrictlyIncreasing (sym (map-append (λ (p : ℕ × ℕ). p.0) pairs (pair ∷ [])))
    (rising_push (firsts pairs) pair.0 rises (λ k inside.
    let there : k < length pairs = omega (arith, inside, length-map pairs (λ (p : ℕ × ℕ). p.0)) in
    omega (arith, below k (0, 0) there, get_or-map (λ (p : ℕ × ℕ). p.0) pairs k (0, 0) 0 there)))

-- ---- links of the plan, by their numbers

any_first : (pairs : List (ℕ × ℕ)) (link : ℕ) → Contains (firsts pairs) link → Any (λ (p : ℕ × ℕ). p.0 ≡ link) pairs
any_first pairs link (k, inside, same) =
    let there : k < length pairs = omega (arith, inside, length-map pairs (λ (p : ℕ × ℕ). p.0)) in
    (k, get_or pairs k (0, 0), there, get_or_default pairs k (get_or pairs k (0, 0)) (0, 0) there, sym (get_or-map (λ (p : ℕ × ℕ). p.0) pairs k (0, 0) link there) ∙ same)

first_any : (pairs : List (ℕ × ℕ)) (link : ℕ) → Any (λ (p : ℕ × ℕ). p.0 ≡ link) pairs → Contains (firsts pairs) link
first_any pairs link (k, p, inside, at, same) =
    (k, omega (arith, inside, length-map pairs (λ (q : ℕ × ℕ). q.0)), get_or-map (λ (q : ℕ × ℕ). q.0) pairs k p link inside ∙ ap (λ (q : ℕ × ℕ). q.0) at ∙ same)

module _ (network : Network) (lines : List CertLine) (old : Body) (is : IsBody network lines old) where
  at_uses : (last : Last) (n : ℕ) → IsLast network lines old last → MayUse last n
      → All (λ (p : ℕ × ℕ). p.0 < n) old.pairs.items × (left_out_in lines ≡ []) × (old.rows.root ≡ 0) × (old.rows.row.items ≡ [])
  at_uses last.Hose n at may = (subst (All (λ (p : ℕ × ℕ). p.0 < n)) (sym at.1) (All-nil (λ (p : ℕ × ℕ). p.0 < n)), at.2, at.3.0, at.3.1)
  at_uses (last.Use link) n at may = (All-weaker (λ (p : ℕ × ℕ). p.0 ≤ link) (λ (p : ℕ × ℕ). p.0 < n) (λ p below. omega (arith, below, may)) old.pairs.items at.1, at.2, at.3.0, at.3.1)
  at_uses (last.Without link) n at may = absurd may
  at_uses last.Pot n at may = absurd may
  at_uses last.End n at may = absurd may

  pub body_use : (new : Body) (pair : ℕ × ℕ) → IsUse network pair → MayUse old.last pair.0 → length old.pairs.items < MOST_TREE_LINKS
      → new.cost ≡ old.cost → new.hose ≡ old.hose → new.last ≡ last.Use pair.0 → new.pairs.items ≡ old.pairs.items ++ pair ∷ [] → new.without ≡ old.without → new.rows ≡ old.rows
      → IsBody network (lines ++ use_line pair ∷ []) new
  body_use new pair is_use may room cost hose last pairs without rows =
      let at = at_uses old.last pair.0 is.last may in
      let outs : left_out_in (lines ++ use_line pair ∷ []) ≡ left_out_in lines = left_out_plain lines (use_line pair) refl in
      let used : used_in (lines ++ use_line pair ∷ []) ≡ used_in lines ++ pair ∷ [] = flat_map-last used_by lines (use_line pair) in
      record {
        more = is.more ++ use_line pair ∷ [];
        front = front_more lines (use_line pair) old.cost new.cost old.hose new.hose is.more cost hose is.front;
        follow = follow_more network None lines (use_line pair) is.follow (use_follows network lines old old.last pair is.last may);
        last = subst (IsLast network (lines ++ use_line pair ∷ []) new) (sym last) (
          (pair.1, last_more network None lines (use_line pair)),
          subst (All (λ (p : ℕ × ℕ). p.0 ≤ pair.0)) (sym pairs) (All-append (λ (p : ℕ × ℕ). p.0 ≤ pair.0) old.pairs.items (pair ∷ [])
              (All-weaker (λ (p : ℕ × ℕ). p.0 < pair.0) (λ (p : ℕ × ℕ). p.0 ≤ pair.0) (λ p below. omega (arith, below)) old.pairs.items at.0)
              (All-cons (λ (p : ℕ × ℕ). p.0 ≤ pair.0) pair [] (omega arith) (All-nil (λ (p : ℕ × ℕ). p.0 ≤ pair.0)))),
          outs ∙ at.1,
          (ap (λ (r : Rows). r.root) rows ∙ at.2, ap (λ (r : Rows). r.row.items) rows ∙ at.3),
        );
        cost = omega (arith, cost, is.cost);
        hose = rw hose is.hose;
        pairs = pairs ∙ ap (λ (us : List (ℕ × ℕ)). us ++ pair ∷ []) is.pairs ∙ sym used;
        uses = subst (All (IsUse network)) (sym pairs) (All-append (IsUse network) old.pairs.items (pair ∷ []) is.uses (All-cons (IsUse network) pair [] is_use (All-nil (IsUse network))));
        ascending = subst IsAscending (sym pairs) (firsts_push old.pairs.items pair is.ascending at.0);
        few = omega (arith, room, ap length pairs, length-append old.pairs.items (pair ∷ []));
        without = rw (outs, without) is.without;
        apart = λ link out _. let there = subst (λ (ls : List ℕ). Contains ls link) (outs ∙ at.1) out in absurd (omega (arith, there.1));
        rows = rw (cost, hose, without, rows) (rows_same network (λ k. numbers_in k lines) (λ k. numbers_in k (lines ++ use_line pair ∷ [])) old.cost old.hose old.without old.rows
            (numbers_plain lines (use_line pair) (λ _. refl)) is.rows);
      }

  -- ---- a link that was left out

  at_leaving : (last : Last) (link : ℕ) → IsLast network lines old last → MayLeaveOut last link → (old.rows.root ≡ 0) × (old.rows.row.items ≡ [])
  at_leaving last.Hose link at may = absurd may
  at_leaving (last.Use earlier) link at may = at.3
  at_leaving (last.Without earlier) link at may = at.1
  at_leaving last.Pot link at may = absurd may
  at_leaving last.End link at may = absurd may

  -- a set with one link more
  named_more : (outs : List ℕ) (set : List Bool) (link : ℕ) → link < length network.links → HasNamed network outs set → HasNamed network (outs ++ link ∷ []) (slice_set set link true)
  named_more outs set link below has = record {
    places = length-set set link true ∙ has.places;
    has = λ l. elim (cases_eq l link) [
      | inl same ↦ (
        λ _. subst (Contains (outs ++ link ∷ [])) (sym same) (Contains-push outs link),
        λ _. ap (λ (k : ℕ). slice_index_or (slice_set set link true) k false) same ∙ get_or-set_same set link true false (omega (arith, below, has.places)),
      )
      | inr other ↦
          let kept : slice_index_or (slice_set set link true) l false ≡ slice_index_or set l false = get_or-set_other set link l true false other in (
            λ there. Contains-append_left outs (link ∷ []) l ((has.has l).0 (sym kept ∙ there)),
            λ there. kept ∙ (has.has l).1 (before (Contains-push_cases outs link l there) other),
          )
    ];
  }
    where
      before : {l : ℕ} → Contains outs l ⊎ (link ≡ l) → (l ≡ link → ⊥) → Contains outs l
      before (inl there) other = there
      before (inr same) other = absurd (other (sym same))

  vacuous : (end : ℕ) (flag : Bool) (P Q : ℕ → Type 0) → end ≡ 0 → TellsBelow end flag P → TellsBelow end flag Q
  vacuous end flag P Q none tells = tells_same end flag P Q (λ k below _. absurd (omega (arith, none, below))) (λ k below _. absurd (omega (arith, none, below))) tells

  rows_begun : (numbers : ℕ → List ℕ) (set other : List Bool) (rows : Rows) → rows.root ≡ 0 → AreDraftRows network numbers old.cost old.hose set rows → AreDraftRows network numbers old.cost old.hose other rows
  rows_begun numbers set other rows none are = record {
    bound = are.bound;
    row = are.row;
    up_to = are.up_to;
    later = are.later;
    few = are.few;
    starts = are.starts;
    changes = vacuous rows.root rows.changes _ _ none are.changes;
    weighs = are.weighs;
  }

  pub body_without : (new : Body) (link : ℕ) → link < length network.links → MayLeaveOut old.last link → (Any (λ (p : ℕ × ℕ). p.0 ≡ link) old.pairs.items → ⊥)
      → new.cost ≡ old.cost → new.hose ≡ old.hose → new.last ≡ last.Without link → new.pairs ≡ old.pairs → new.without ≡ slice_set old.without link true → new.rows ≡ old.rows
      → IsBody network (lines ++ without_line link ∷ []) new
  body_without new link below may free cost hose last pairs without rows =
      let at = at_leaving old.last link is.last may in
      let outs : left_out_in (lines ++ without_line link ∷ []) ≡ left_out_in lines ++ link ∷ [] = flat_map-last left_out_by lines (without_line link) in
      let used : used_in (lines ++ without_line link ∷ []) ≡ used_in lines = used_plain lines (without_line link) refl in
      let named = named_more (left_out_in lines) old.without link below is.without in
      record {
        more = is.more ++ without_line link ∷ [];
        front = front_more lines (without_line link) old.cost new.cost old.hose new.hose is.more cost hose is.front;
        follow = follow_more network None lines (without_line link) is.follow (without_follows network lines old old.last link is.last may);
        last = subst (IsLast network (lines ++ without_line link ∷ []) new) (sym last)
            (last_more network None lines (without_line link), (ap (λ (r : Rows). r.root) rows ∙ at.0, ap (λ (r : Rows). r.row.items) rows ∙ at.1));
        cost = omega (arith, cost, is.cost);
        hose = rw hose is.hose;
        pairs = rw (pairs, used) is.pairs;
        uses = rw pairs is.uses;
        ascending = rw pairs is.ascending;
        few = rw pairs is.few;
        without = rw (outs, without) named;
        apart = λ l out there. apart_more l (Contains-push_cases (left_out_in lines) link l (subst (λ (ls : List ℕ). Contains ls l) outs out)) (subst (λ (us : List (ℕ × ℕ)). Contains (firsts us) l) used there);
        rows = rw (cost, hose, without, rows) (rows_begun (λ k. numbers_in k (lines ++ without_line link ∷ [])) old.without (slice_set old.without link true) old.rows at.0
            (rows_same network (λ k. numbers_in k lines) (λ k. numbers_in k (lines ++ without_line link ∷ [])) old.cost old.hose old.without old.rows
            (numbers_plain lines (without_line link) (λ _. refl)) is.rows));
      }
    where
      apart_more : (l : ℕ) → Contains (left_out_in lines) l ⊎ (link ≡ l) → Contains (firsts (used_in lines)) l → ⊥
      apart_more l (inl out) there = is.apart l out there
      apart_more l (inr same) there = free (any_first old.pairs.items link (subst (λ (us : List (ℕ × ℕ)). Contains (firsts us) link) (sym is.pairs) (subst (Contains (firsts (used_in lines))) (sym same) there)))

  -- ---- numbers

  module _ (root from : ℕ) (more : List ℕ) (said : IsSaid network (pot_line root from more)) (may : MayNumber old.last) (same : root ≡ old.rows.root) (begun : from ≡ length old.rows.row.items)
      (mid : Rows) (mid_root : mid.root ≡ old.rows.root) (mid_row : mid.row.items ≡ old.rows.row.items ++ more) (mid_starts : mid.starts ≡ old.rows.starts) (mid_changes : mid.changes ≡ old.rows.changes) (mid_weighs : mid.weighs ≡ old.rows.weighs) where
    abbrev with_pot : List CertLine
    with_pot = lines ++ pot_line root from more ∷ []

    here : numbers_in old.rows.root with_pot ≡ numbers_in old.rows.root lines ++ more
    here = subst (λ (r : ℕ). numbers_in r with_pot ≡ numbers_in r lines ++ more) same (numbers_here lines root from more)

    else : (k : ℕ) → k ≢ old.rows.root → numbers_in k with_pot ≡ numbers_in k lines
    else k differ = numbers_else lines root from more k (λ is_root. differ (is_root ∙ same))

    pub places : length mid.row.items ≡ from + numbers_from network from
    places = omega (arith, ap length mid_row, length-append old.rows.row.items more, begun, said.1.3)

    module _ (new : Body) (cost : new.cost ≡ old.cost) (hose : new.hose ≡ old.hose) (last : new.last ≡ last.Pot) (pairs : new.pairs ≡ old.pairs) (without : new.without ≡ old.without) where
      with_rows : AreDraftRows network (λ k. numbers_in k with_pot) old.cost old.hose old.without new.rows → place_after network (pot_line root from more) ≡ (new.rows.root, length new.rows.row.items) → IsBody network with_pot new
      with_rows rows place = record {
        more = is.more ++ pot_line root from more ∷ [];
        front = front_more lines (pot_line root from more) old.cost new.cost old.hose new.hose is.more cost hose is.front;
        follow = follow_more network None lines (pot_line root from more) is.follow (pot_follows network lines old old.last root from more is.last may same begun);
        last = subst (IsLast network with_pot new) (sym last) (root, from, more, last_more network None lines (pot_line root from more), place);
        cost = omega (arith, cost, is.cost);
        hose = rw hose is.hose;
        pairs = rw (pairs, used_plain lines (pot_line root from more) refl) is.pairs;
        uses = rw pairs is.uses;
        ascending = rw pairs is.ascending;
        few = rw pairs is.few;
        without = rw (without, left_out_plain lines (pot_line root from more) refl) is.without;
        apart = rw (used_plain lines (pot_line root from more) refl, left_out_plain lines (pot_line root from more) refl) is.apart;
        rows = rw (cost, hose, without) rows;
      }

      pub body_pot : new.rows ≡ mid → length mid.row.items < length network.nodes → IsBody network with_pot new
      body_pot same_rows few =
          with_rows (rw same_rows (rows_on network (λ k. numbers_in k lines) (λ k. numbers_in k with_pot) old.cost old.hose old.without old.rows mid more mid_root mid_row mid_starts mid_changes mid_weighs here else is.rows said.1.4 few))
          (rw same_rows (place_on (omega (arith, places, few, said.1.2)) ∙ (λ i. (there i, sym at i))))
        where
          there : root ≡ mid.root
          there = same ∙ sym mid_root

          at : length mid.row.items ≡ from + LINE_NUMBERS
          at = omega (arith, places, few, said.1.2)

          place_on : from + LINE_NUMBERS < length network.nodes → place_after network (pot_line root from more) ≡ (root, from + LINE_NUMBERS)
          place_on below = cond-true (nat_lt (from + LINE_NUMBERS) (length network.nodes)) _ _ (lt-ltb (from + LINE_NUMBERS) (length network.nodes) below)

      pub body_judged : IsRootJudged network old.cost old.hose old.without mid new.rows → length network.nodes ≤ length mid.row.items → IsBody network with_pot new
      body_judged judged full =
          with_rows (rows_judged network (λ k. numbers_in k lines) (λ k. numbers_in k with_pot) old.cost old.hose old.without old.rows mid more mid_root mid_row mid_starts mid_changes mid_weighs here else is.rows new.rows (omega (arith, same, said.1.1)) judged)
          (place_past (omega (arith, places, full, said.1.2)) ∙ (λ i. (next i, none i)))
        where
          next : root + 1 ≡ new.rows.root
          next = omega (arith, same, mid_root, judged.root)

          none : 0 ≡ length new.rows.row.items
          none = sym (ap length judged.row)

          place_past : length network.nodes ≤ from + LINE_NUMBERS → place_after network (pot_line root from more) ≡ (root + 1, 0)
          place_past past = cond-false (nat_lt (from + LINE_NUMBERS) (length network.nodes)) _ _ (le-ltb (from + LINE_NUMBERS) (length network.nodes) past)

  -- ---- the end

  pub body_end : (new : Body) → old.last ≡ last.Pot → old.rows.root ≡ length network.nodes → length old.rows.row.items ≡ 0
      → new.cost ≡ old.cost → new.hose ≡ old.hose → new.last ≡ last.End → new.pairs ≡ old.pairs → new.without ≡ old.without → new.rows ≡ old.rows
      → IsBody network (lines ++ end_line ∷ []) new
  body_end new pot root none cost hose last pairs without rows = record {
    more = is.more ++ end_line ∷ [];
    front = front_more lines end_line old.cost new.cost old.hose new.hose is.more cost hose is.front;
    follow = follow_more network None lines end_line is.follow (end_follows network lines old old.last pot is.last root none);
    last = subst (IsLast network (lines ++ end_line ∷ []) new) (sym last) (last_more network None lines end_line, ap (λ (r : Rows). r.root) rows ∙ root);
    cost = omega (arith, cost, is.cost);
    hose = rw hose is.hose;
    pairs = rw (pairs, used_plain lines end_line refl) is.pairs;
    uses = rw pairs is.uses;
    ascending = rw pairs is.ascending;
    few = rw pairs is.few;
    without = rw (without, left_out_plain lines end_line refl) is.without;
    apart = rw (used_plain lines end_line refl, left_out_plain lines end_line refl) is.apart;
    rows = rw (cost, hose, without, rows) (rows_same network (λ k. numbers_in k lines) (λ k. numbers_in k (lines ++ end_line ∷ [])) old.cost old.hose old.without old.rows
        (numbers_plain lines end_line (λ _. refl)) is.rows);
  }

  -- ---- what is refused for its links

  pub too_many : (pair : ℕ × ℕ) → MOST_TREE_LINKS ≤ length old.pairs.items → IsRefusedLine network lines (use_line pair)
  too_many pair many more whole =
      omega (
        arith,
        many,
        whole.few,
        ap length is.pairs,
        ap length (flat_map-append used_by lines (use_line pair ∷ more)),
        length-append (used_in lines) (pair ∷ used_in more),
      )

  pub used_twice : (link : ℕ) → Any (λ (p : ℕ × ℕ). p.0 ≡ link) old.pairs.items → IsRefusedLine network lines (without_line link)
  used_twice link there more whole =
      whole.apart link
      (subst (λ (ls : List ℕ). Contains ls link) (sym (flat_map-append left_out_by lines (without_line link ∷ more)))
      (Contains-append_right (left_out_in lines) (link ∷ left_out_in more) link (0, omega arith, refl)))
      (subst (λ (us : List (ℕ × ℕ)). Contains (firsts us) link) (sym (flat_map-append used_by lines (without_line link ∷ more)))
      (subst (λ (fs : List ℕ). Contains fs link) (sym (map-append (λ (p : ℕ × ℕ). p.0) (used_in lines) (used_in more)))
      (Contains-append_left (firsts (used_in lines)) (firsts (used_in more)) link
      (subst (λ (us : List (ℕ × ℕ)). Contains (firsts us) link) is.pairs (first_any old.pairs.items link there)))))
