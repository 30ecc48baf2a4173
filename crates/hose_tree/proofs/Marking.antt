-- Nodes beyond a link of a tree, marked step by step.
use Rattle.std.proofs.Common.{◌≡◌, ◌≢◌, ◌∙◌, ℕ, ◌+◌, ◌<◌, ◌||◌, Bool, true, false, List, [], ◌∷◌, ◌++◌, cond, eqb, length, get_or, reverse, take, refl, sym, ap, subst, inl, inr, arith, get_or-set_same, get_or-set_other}
use Rattle.std.specs.List.{Contains}
use Rattle.std.specs.Prelude.{replicate}
use Rattle.std.proofs.Math.ListN.{set}
use Rattle.std.proofs.lemmas.Bool.{cases_eq, eq-eqb, ne_eqb}
use Rattle.std.proofs.lemmas.List.{get_or-replicate, get_or_past, length-replicate, length-set, reverse-append, take_more}
use Rattle.std.proofs.lemmas.List.Elements.{Contains-get_or}
use Rattle.std.proofs.lemmas.Bool.{cases_lt}
use Rattle.std.proofs.lemmas.List.Sorted.{Contains-permutation, IsPermutation-reverse}
use Rattle.hose_graph.specs.Network.{Network, IsNetwork}
use Rattle.hose_graph.specs.declared.limits.TheConstants.{MOST_NODES}
use Rattle.hose_graph.specs.declared.topology.Step.{Step}
use Rattle.hose_graph.proofs.Members.{first_or_rest, none_in_empty}
use Rattle.hose_law.specs.Tree.{Growth, Grow, IsTree, goes_along, links_up}
use Rattle.hose_law.specs.Walk.{Joins}
use Rattle.hose_law.proofs.Joined.{joins_nodes}

-- the link of each step joins the step's nodes
step_joins : (network : Network) (start : ℕ) (steps : List Step) → Grow network start steps → (step : Step) → Contains steps step → Joins network step.link step.old step.new
step_joins network start [] grows step there = absurd (none_in_empty step there)
step_joins network start (last ∷ earlier) grows step there = elim (first_or_rest last step earlier there) [
  | inl same ↦ subst (λ (s : Step). Joins network s.link s.old s.new) same grows.3
  | inr before ↦ step_joins network start earlier grows.0 step before
]

-- which are nodes of the network
pub step_has_places : (tree : Growth) (network : Network) → IsNetwork network → IsTree network tree → (steps : List Step) → steps ≡ tree.steps → (i : ℕ) (d : Step) → i < length steps
    → ((get_or steps i d).old < MOST_NODES) × ((get_or steps i d).new < MOST_NODES)
step_has_places tree network is is_tree steps same i d below =
    let step = get_or steps i d in
    let inside : Contains tree.steps step = subst (λ (s : List Step). Contains s step) same (Contains-get_or steps i d below) in
    let there : Contains (reverse tree.steps) step = Contains-permutation tree.steps (reverse tree.steps) step (IsPermutation-reverse tree.steps) inside in
    let nodes = joins_nodes network is step.link step.old step.new (step_joins network tree.start (reverse tree.steps) is_tree step there) in
    (omega (arith, nodes.0, is.few_nodes), omega (arith, nodes.1, is.few_nodes))

-- The first steps of a tree are taken, and the marks say which nodes' ways go along the link.
pub record IsMarked (tree : Growth) (link taken : ℕ) (marks : List Bool) : Type 0 where
  pub places : length marks ≡ MOST_NODES
  pub each : (v : ℕ) → get_or marks v false ≡ goes_along (links_up (reverse (take taken tree.steps)) v) link

module _ (tree : Growth) (link : ℕ) where
  pub marked_none : (marks : List Bool) → marks ≡ replicate MOST_NODES false → IsMarked tree link 0 marks
  marked_none marks none = record {
    places = ap length none ∙ length-replicate MOST_NODES false;
    each = λ v. ap (λ (m : List Bool). get_or m v false) none ∙ unmarked v;
  }
    where
      unmarked : (v : ℕ) → get_or (replicate MOST_NODES false) v false ≡ false
      unmarked v = elim (cases_lt v MOST_NODES) [
        | inl below ↦ get_or-replicate MOST_NODES v false false below
        | inr past ↦ get_or_past (replicate MOST_NODES false) v false (omega (arith, past, length-replicate MOST_NODES false))
      ]

  -- where a step more is taken, the mark of its new node is set
  pub marked_more : (step : Step) (i : ℕ) (d : Step) (marks : List Bool) (mark : Bool) → i < length tree.steps → get_or tree.steps i d ≡ step → step.new < MOST_NODES
      → mark ≡ (get_or marks step.old false || eqb step.link link) → IsMarked tree link i marks → IsMarked tree link (i + 1) (set marks step.new mark)
  marked_more step i d marks mark below is_step place is_mark is = record {
    places = length-set marks step.new mark ∙ is.places;
    each = λ v. elim (cases_eq v step.new) [
      | inl same ↦ ap (λ (n : ℕ). get_or (set marks step.new mark) n false) same ∙ at_new ∙ sym (ap (λ (n : ℕ). goes_along (links_up (reverse (take (i + 1) tree.steps)) n) link) same ∙ way_new)
      | inr differ ↦ get_or-set_other marks step.new v mark false differ ∙ is.each v ∙ sym (way_other v differ)
    ];
  }
    where
      earlier : List Step
      earlier = reverse (take i tree.steps)

      turned : reverse (take (i + 1) tree.steps) ≡ step ∷ earlier
      turned = ap reverse (take_more tree.steps i d below ∙ ap (λ (s : Step). take i tree.steps ++ s ∷ []) is_step) ∙ reverse-append (take i tree.steps) (step ∷ [])

      at_new : get_or (set marks step.new mark) step.new false ≡ mark
      at_new = get_or-set_same marks step.new mark false (omega (arith, place, is.places))

      either : (one other : Bool) → (one || other) ≡ (other || one)
      either true true = refl
      either true false = refl
      either false true = refl
      either false false = refl

      way_new : goes_along (links_up (reverse (take (i + 1) tree.steps)) step.new) link ≡ mark
      way_new =
          ap (λ (steps : List Step). goes_along (links_up steps step.new) link) turned
          ∙ ap (λ (b : Bool). goes_along (cond b (step.link ∷ links_up earlier step.old) (links_up earlier step.new)) link) (eq-eqb step.new step.new refl)
          ∙ either (eqb step.link link) (goes_along (links_up earlier step.old) link)
          ∙ sym (is_mark ∙ ap (λ (b : Bool). b || eqb step.link link) (is.each step.old))

      way_other : (v : ℕ) → v ≢ step.new → goes_along (links_up (reverse (take (i + 1) tree.steps)) v) link ≡ goes_along (links_up earlier v) link
      way_other v differ =
          ap (λ (steps : List Step). goes_along (links_up steps v) link) turned
          ∙ ap (λ (b : Bool). goes_along (cond b (step.link ∷ links_up earlier step.old) (links_up earlier v)) link) (ne_eqb v step.new differ)
