-- Taking a leaf off a tree, whichever step leads to it: the rest grows too, from another start if the leaf was the start. Steps come with the last one first.
use Rattle.std.proofs.Common.{◌≡◌, ◌≢◌, ◌⊎◌, ◌∙◌, ℕ, ◌<◌, List, [], ◌∷◌, length, refl, sym, subst, inl, inr}
use Rattle.std.specs.List.{Contains}
use Rattle.std.proofs.lemmas.Bool.{cases_eq}
use Rattle.hose_graph.specs.Network.{Network, IsNetwork}
use Rattle.hose_graph.specs.declared.topology.Step.{Step}
use Rattle.hose_graph.proofs.Members.{contains_first, contains_rest, first_or_rest, none_in_empty}
use Rattle.hose_law.specs.Tree.{IsOn, Grow, step_links}
use Rattle.hose_law.specs.Walk.{Joins}
use Rattle.hose_law.proofs.Joined.{joins_nodes}
use Rattle.hose_law.proofs.Trees.{joins_only, link_is_new, old_is_not_new, on_before, on_new, on_still}
use Rattle.hose_law.proofs.Walks.{joins_turned}

module _ (network : Network) where
  -- a link of these steps leads from a node
  abbrev pub IsTouched : List Step → ℕ → Type 0
  IsTouched steps u = (l : ℕ) × (x : ℕ) × Contains (step_links steps) l × Joins network l u x

  touched_rest : (step : Step) (earlier : List Step) (u : ℕ) → IsTouched earlier u → IsTouched (step ∷ earlier) u
  touched_rest step earlier u (l, x, there, joins) = (l, x, contains_rest step.link l (step_links earlier) there, joins)

  -- where a tree has two nodes, a link leads from each
  pub touched : (start : ℕ) (steps : List Step) (u w : ℕ) → Grow network start steps → IsOn start steps u → IsOn start steps w → u ≢ w → IsTouched steps u
  touched start [] u w grows (inl u_is) (inl w_is) differ = absurd (differ (u_is ∙ sym w_is))
  touched start [] u w grows (inr led) w_on differ = absurd (none_in_empty u led)
  touched start [] u w grows (inl u_is) (inr led) differ = absurd (none_in_empty w led)
  touched start (step ∷ earlier) u w grows u_on w_on differ =
      let here : Contains (step_links (step ∷ earlier)) step.link = contains_first step.link step.link (step_links earlier) refl in
      elim (on_before start step earlier u u_on) [
        | inl u_new ↦ (step.link, step.old, here, subst (λ (n : ℕ). Joins network step.link n step.old) (sym u_new) (joins_turned network step.link step.old step.new grows.3))
        | inr u_early ↦ elim (on_before start step earlier w w_on) [
          | inl w_new ↦ elim (cases_eq u step.old) [
            | inl u_old ↦ (step.link, step.new, here, subst (λ (n : ℕ). Joins network step.link n step.new) (sym u_old) grows.3)
            | inr other ↦ touched_rest step earlier u (touched start earlier u step.old grows.0 u_early grows.1 other)
          ]
          | inr w_early ↦ touched_rest step earlier u (touched start earlier u w grows.0 u_early w_early differ)
        ]
      ]

  -- a tree with a node from which none of its links leads has that node alone
  alone : (start : ℕ) (steps : List Step) (v : ℕ) → Grow network start steps → IsOn start steps v → (IsTouched steps v → ⊥) → (u : ℕ) → IsOn start steps u → u ≡ v
  alone start steps v grows v_on untouched u u_on = elim (cases_eq u v) [
    | inl same ↦ same
    | inr differ ↦ absurd (untouched (touched start steps v u grows v_on u_on (λ same. differ (sym same))))
  ]

  no_steps : (start : ℕ) (steps : List Step) (v : ℕ) → Grow network start steps → IsOn start steps v → (IsTouched steps v → ⊥) → steps ≡ []
  no_steps start [] v grows v_on untouched = refl
  no_steps start (step ∷ earlier) v grows v_on untouched =
      let is_v = alone start (step ∷ earlier) v grows v_on untouched in
      absurd (old_is_not_new network start step earlier grows (is_v step.old (on_still start step earlier step.old grows.1) ∙ sym (is_v step.new (on_new start step earlier))))

  -- A tree without its leaf v, which link l joins to node w, has the other nodes and links.
  pub record IsCut (start : ℕ) (steps : List Step) (l w v : ℕ) : Type 0 where
    pub first : ℕ
    pub rest : List Step
    pub grows : Grow network first rest
    pub old_on : IsOn first rest w
    pub new_off : IsOn first rest v → ⊥
    pub nodes : (u : ℕ) → IsOn start steps u → (u ≡ v) ⊎ IsOn first rest u
    pub was_node : (u : ℕ) → IsOn first rest u → IsOn start steps u
    pub links : (k : ℕ) → Contains (step_links steps) k → (k ≡ l) ⊎ Contains (step_links rest) k
    pub was_link : (k : ℕ) → Contains (step_links rest) k → Contains (step_links steps) k

  -- the leaf is the last step's new node
  cut_last : (start : ℕ) (step : Step) (earlier : List Step) (l w v : ℕ) → Grow network start (step ∷ earlier) → step.link ≡ l → step.old ≡ w → step.new ≡ v
      → IsCut start (step ∷ earlier) l w v
  cut_last start step earlier l w v grows link old new = record {
    first = start;
    rest = earlier;
    grows = grows.0;
    old_on = subst (IsOn start earlier) old grows.1;
    new_off = λ on. grows.2 (subst (IsOn start earlier) (sym new) on);
    nodes = λ u on. elim (on_before start step earlier u on) [ inl is_new ↦ inl (is_new ∙ new) | inr early ↦ inr early ];
    was_node = on_still start step earlier;
    links = λ k there. elim (first_or_rest step.link k (step_links earlier) there) [ inl same ↦ inl (sym same ∙ link) | inr behind ↦ inr behind ];
    was_link = λ k there. contains_rest step.link k (step_links earlier) there;
  }

  -- the leaf is the last step's old node, so that the step is the only one
  cut_first : (start : ℕ) (step : Step) (earlier : List Step) (l w v : ℕ) → w < length network.nodes → w ≢ v → Grow network start (step ∷ earlier) → step.link ≡ l → step.new ≡ w
      → ((u : ℕ) → IsOn start earlier u → u ≡ v) → earlier ≡ [] → IsCut start (step ∷ earlier) l w v
  cut_first start step earlier l w v is_node differ grows link new all_old none = record {
    first = w;
    rest = [];
    grows = is_node;
    old_on = inl refl;
    new_off = λ on. elim on [ inl same ↦ differ (sym same) | inr led ↦ none_in_empty v led ];
    nodes = λ u on. elim (on_before start step earlier u on) [ inl is_new ↦ inr (inl (is_new ∙ new)) | inr early ↦ inl (all_old u early) ];
    was_node = λ u on. elim on [
      | inl same ↦ subst (IsOn start (step ∷ earlier)) (new ∙ sym same) (on_new start step earlier)
      | inr led ↦ absurd (none_in_empty u led)
    ];
    links = λ k there. elim (first_or_rest step.link k (step_links earlier) there) [
      | inl same ↦ inl (sym same ∙ link)
      | inr behind ↦ absurd (none_in_empty k (subst (λ (steps : List Step). Contains (step_links steps) k) none behind))
    ];
    was_link = λ k there. absurd (none_in_empty k there);
  }

  -- the leaf is on the tree before the last step, and not the old node
  cut_early : (start : ℕ) (step : Step) (earlier : List Step) (l w v : ℕ) → Grow network start (step ∷ earlier) → step.old ≢ v → step.new ≢ v → IsCut start earlier l w v
      → IsCut start (step ∷ earlier) l w v
  cut_early start step earlier l w v grows old new out = record {
    first = out.first;
    rest = step ∷ out.rest;
    grows = (
      out.grows,
      elim (out.nodes step.old grows.1) [ inl same ↦ absurd (old same) | inr on ↦ on ],
      λ on. grows.2 (out.was_node step.new on),
      grows.3,
    );
    old_on = on_still out.first step out.rest w out.old_on;
    new_off = λ on. elim (on_before out.first step out.rest v on) [ inl same ↦ new (sym same) | inr before ↦ out.new_off before ];
    nodes = λ u on. elim (on_before start step earlier u on) [
      | inl same ↦ inr (subst (IsOn out.first (step ∷ out.rest)) (sym same) (on_new out.first step out.rest))
      | inr early ↦ elim (out.nodes u early) [ inl is_v ↦ inl is_v | inr still ↦ inr (on_still out.first step out.rest u still) ]
    ];
    was_node = λ u on. elim (on_before out.first step out.rest u on) [
      | inl same ↦ subst (IsOn start (step ∷ earlier)) (sym same) (on_new start step earlier)
      | inr before ↦ on_still start step earlier u (out.was_node u before)
    ];
    links = λ k there. elim (first_or_rest step.link k (step_links earlier) there) [
      | inl same ↦ inr (contains_first step.link k (step_links out.rest) same)
      | inr behind ↦ elim (out.links k behind) [ inl is_l ↦ inl is_l | inr still ↦ inr (contains_rest step.link k (step_links out.rest) still) ]
    ];
    was_link = λ k there. elim (first_or_rest step.link k (step_links out.rest) there) [
      | inl same ↦ contains_first step.link k (step_links earlier) same
      | inr behind ↦ contains_rest step.link k (step_links earlier) (out.was_link k behind)
    ];
  }

  module _ (is : IsNetwork network) (l w v : ℕ) (joins : Joins network l w v) where
    differ : w ≢ v
    differ = (joins_nodes network is l w v joins).2

    -- a link that leads from the leaf is l, and leads to w
    pub cut : (start : ℕ) (steps : List Step) → Grow network start steps → Contains (step_links steps) l
        → ((k x : ℕ) → Contains (step_links steps) k → Joins network k v x → k ≡ l)
        → IsCut start steps l w v
    cut start [] grows there only = absurd (none_in_empty l there)
    cut start (step ∷ earlier) grows there only =
        let here : Contains (step_links (step ∷ earlier)) step.link = contains_first step.link step.link (step_links earlier) refl in
        let turned = joins_turned network step.link step.old step.new grows.3 in
        elim (cases_eq step.new v) [
          | inl new ↦
              let link : step.link ≡ l = only step.link step.old here (subst (λ (n : ℕ). Joins network step.link n step.old) new turned) in
              elim (joins_only network l w v step.old step.new joins (subst (λ (n : ℕ). Joins network n step.old step.new) link grows.3)) [
                | inl forward ↦ cut_last start step earlier l w v grows link forward.0 new
                | inr backward ↦ absurd (differ (sym backward.1 ∙ new))
              ]
          | inr new_other ↦ elim (cases_eq step.old v) [
            | inl old ↦
                let link : step.link ≡ l = only step.link step.new here (subst (λ (n : ℕ). Joins network step.link n step.new) old grows.3) in
                let untouched : IsTouched earlier v → ⊥ =
                λ (k, x, behind, leads). link_is_new network start step earlier grows
                (subst (Contains (step_links earlier)) (only k x (contains_rest step.link k (step_links earlier) behind) leads ∙ sym link) behind) in
                let v_on : IsOn start earlier v = subst (IsOn start earlier) old grows.1 in
                elim (joins_only network l w v step.old step.new joins (subst (λ (n : ℕ). Joins network n step.old step.new) link grows.3)) [
                  | inl forward ↦ absurd (new_other forward.1)
                  | inr backward ↦ cut_first start step earlier l w v (joins_nodes network is l w v joins).0 differ grows link backward.1
                      (alone start earlier v grows.0 v_on untouched) (no_steps start earlier v grows.0 v_on untouched)
                ]
            | inr old_other ↦ elim (first_or_rest step.link l (step_links earlier) there) [
              | inl link ↦ elim (joins_only network l w v step.old step.new joins (subst (λ (n : ℕ). Joins network n step.old step.new) link grows.3)) [
                | inl forward ↦ absurd (new_other forward.1)
                | inr backward ↦ absurd (old_other backward.0)
              ]
              | inr behind ↦ cut_early start step earlier l w v grows old_other new_other
                  (cut start earlier grows.0 behind (λ k x early leads. only k x (contains_rest step.link k (step_links earlier) early) leads))
            ]
          ]
        ]
