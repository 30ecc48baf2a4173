-- Values tell links in one way, or one of them is the lowest that does not.
use Rattle.std.proofs.Common.{◌≡◌, ◌≢◌, ◌∙◌, ℕ, ◌<◌, List, Some, None, take, length, sym, ap, subst, arith, inl, inr}
use Rattle.std.specs.Prelude.{codes, option_and_then}
use Rattle.std.specs.List.{AllPairs, AllZip}
use Rattle.std.proofs.lemmas.Bool.{cases_lt}
use Rattle.std.proofs.lemmas.List.{take_all}
use Rattle.std.proofs.lemmas.Option.{same_Some, slice_get_within}
use Rattle.serde_json.specs.Data.{Data}
use Rattle.serde_json.specs.Find.{as_number, as_u64, get}
use Rattle.hose_graph.specs.declared.topology.Link.{Link}
use Rattle.hose_graph.proofs.NodesByName.{same_name}
use Rattle.hose_topo_json.specs.JsonValue.{number_at}
use Rattle.hose_topo_json.specs.JsonTopology.{TellsCost, TellsJsonLink, unlinked}
use Rattle.hose_topo_json.specs.Refused.{IsWrongLink}
use Rattle.hose_topo_json.proofs.Fronts.{told_at, told_once}

-- nothing is no number
no_number : (name : List ℕ) (value : Data) (number : ℕ) → get name value ≡ None → number_at name value ≡ Some number → ⊥
no_number name value number absent here =
    let none : None ≡ Some number = sym (ap (λ found. option_and_then as_u64 (option_and_then as_number found)) absent) ∙ here in
    cc

one_cost : (value : Data) (link other : Link) → link.length ≡ other.length → TellsCost value link → TellsCost value other → link.cost ≡ other.cost
one_cost value link other same (inl none) (inl none') = none.1 ∙ same ∙ sym none'.1
one_cost value link other same (inl none) (inr here) = absurd (no_number (codes "cost") value other.cost none.0 here)
one_cost value link other same (inr here) (inl none) = absurd (no_number (codes "cost") value link.cost none.0 here)
one_cost value link other same (inr here) (inr there) = same_Some link.cost other.cost (sym here ∙ there)

-- a value tells one link
one_link : (names : List (List ℕ)) → AllPairs ◌≢◌ names → (value : Data) (link other : Link) → TellsJsonLink names value link → TellsJsonLink names value other → link ≡ other
one_link names differ value link other first second =
    let a = same_name (unlinked names) link.a other.a differ first.is_link.in_range.a second.is_link.in_range.a (same_Some _ _ (sym first.a ∙ second.a)) in
    let b = same_name (unlinked names) link.b other.b differ first.is_link.in_range.b second.is_link.in_range.b (same_Some _ _ (sym first.b ∙ second.b)) in
    let capacity = same_Some link.capacity other.capacity (sym first.capacity ∙ second.capacity) in
    let distance = same_Some link.length other.length (sym first.distance ∙ second.distance) in
    let cost = one_cost value link other distance first.cost second.cost in
    λ i. record { a = a i; b = b i; capacity = capacity i; length = distance i; cost = cost i }

pub one_linking : (names : List (List ℕ)) → AllPairs ◌≢◌ names → (values : List Data) (links others : List Link) → AllZip (TellsJsonLink names) values links → AllZip (TellsJsonLink names) values others → links ≡ others
one_linking names differ values links others first second = told_once (TellsJsonLink names) values links others (one_link names differ) first second

-- no value is wrong among those that tell links
not_wrong_within : (names : List (List ℕ)) (values : List Data) (links : List Link) (end place : ℕ) → AllZip (TellsJsonLink names) (take end values) links → IsWrongLink names values place → place < end → ⊥
not_wrong_within names values links end place all wrong below =
    let told = told_at (TellsJsonLink names) values links end place wrong.value all below wrong.here in
    wrong.wrong told.0 told.2

pub not_wrong : (names : List (List ℕ)) (values : List Data) (links : List Link) (place : ℕ) → AllZip (TellsJsonLink names) values links → IsWrongLink names values place → ⊥
not_wrong names values links place all wrong =
    let whole : take (length values) values ≡ values = take_all (length values) values (omega arith) in
    not_wrong_within names values links (length values) place (subst (λ list. AllZip (TellsJsonLink names) list links) (sym whole) all) wrong (slice_get_within values place wrong.value wrong.here)

pub one_wrong : (names : List (List ℕ)) (values : List Data) (place other : ℕ) → IsWrongLink names values place → IsWrongLink names values other → place ≡ other
one_wrong names values place other first second =
    elim (cases_lt place other) [
      | inl below ↦ absurd (not_wrong_within names values second.links other place second.front first below)
      | inr above ↦ elim (cases_lt other place) [
        | inl below ↦ absurd (not_wrong_within names values first.links place other first.front second below)
        | inr same ↦ omega arith
      ]
    ]
