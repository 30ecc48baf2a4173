-- Values name nodes in one way, or one of them is the lowest that does not.
use Rattle.std.proofs.Common.{◌≡◌, ◌∙◌, ℕ, ◌<◌, List, take, length, length-take, sym, subst, arith, inl, inr}
use Rattle.std.specs.List.{Contains}
use Rattle.std.proofs.lemmas.Bool.{cases_lt}
use Rattle.std.proofs.lemmas.List.{get_or-take, take_all}
use Rattle.std.proofs.lemmas.Option.{get_or_from_slice_get, same_Some, slice_get_within}
use Rattle.serde_json.specs.Data.{Data}
use Rattle.hose_graph.specs.Name.{IsName}
use Rattle.hose_topo_json.specs.JsonTopology.{IsText, NameNodes}
use Rattle.hose_topo_json.specs.Refused.{IsWrongNode}
use Rattle.hose_topo_json.proofs.Fronts.{told_at, told_front, told_once}

-- a value is one text
one_text : (value : Data) (text other : List ℕ) → IsText value text → IsText value other → text ≡ other
one_text value text other first second = same_Some text other (sym first ∙ second)

pub one_naming : (values : List Data) (names others : List (List ℕ)) → NameNodes values names → NameNodes values others → names ≡ others
one_naming values names others first second = told_once IsText values names others one_text first.texts second.texts

-- no value is wrong among those that name nodes
not_wrong_within : (values : List Data) (names : List (List ℕ)) (end place : ℕ) → NameNodes (take end values) names → IsWrongNode values place → place < end → ⊥
not_wrong_within values names end place all wrong below =
    let told = told_at IsText values names end place wrong.value all.texts below wrong.here in
    let name = told.0 in
    let within = slice_get_within names place name told.1 in
    let here = get_or_from_slice_get names place name name told.1 in
    let is_name : IsName name = subst IsName here (all.are_names place name within) in
    let front : wrong.names ≡ take place names = told_front IsText values names wrong.names end place one_text all.texts wrong.front.texts (omega arith) in
    let there : Contains (take place names) name = subst (λ list. Contains list name) front (wrong.wrong name told.2 is_name) in
    let earlier : there.0 < place = omega (arith, there.1, length-take place names) in
    all.differ there.0 place name earlier within (sym (get_or-take place names there.0 name earlier) ∙ there.2 ∙ sym here)

pub not_wrong : (values : List Data) (names : List (List ℕ)) (place : ℕ) → NameNodes values names → IsWrongNode values place → ⊥
not_wrong values names place all wrong =
    let whole : take (length values) values ≡ values = take_all (length values) values (omega arith) in
    not_wrong_within values names (length values) place (subst (λ list. NameNodes list names) (sym whole) all) wrong (slice_get_within values place wrong.value wrong.here)

pub one_wrong : (values : List Data) (place other : ℕ) → IsWrongNode values place → IsWrongNode values other → place ≡ other
one_wrong values place other first second =
    elim (cases_lt place other) [
      | inl below ↦ absurd (not_wrong_within values second.names other place second.front first below)
      | inr above ↦ elim (cases_lt other place) [
        | inl below ↦ absurd (not_wrong_within values first.names place other first.front second below)
        | inr same ↦ omega arith
      ]
    ]
