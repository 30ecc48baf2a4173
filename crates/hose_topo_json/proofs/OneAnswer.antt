-- Bytes have one answer: the topology that they tell, or the fault for which they are refused.
use Rattle.std.proofs.Common.{◌≡◌, ◌≢◌, ◌⊎◌, ◌∙◌, ℕ, List, Result, Ok, Err, refl, sym, ap, subst, inl, inr}
use Rattle.std.specs.List.{AllZip}
use Rattle.std.proofs.lemmas.Option.{same_Some}
use Rattle.serde_json.specs.Data.{Data}
use Rattle.hose_graph.specs.Network.{Network}
use Rattle.hose_graph.specs.declared.topology.Link.{Link}
use Rattle.hose_topo_json.specs.JsonValue.{ReadsObject}
use Rattle.hose_topo_json.specs.JsonTopology.{HasLinks, HasNodes, IsJsonTopology, NameNodes, TellsJsonLink}
use Rattle.hose_topo_json.specs.Refused.{IsJsonFault, IsWrongLink, IsWrongNode}
use Rattle.hose_topo_json.specs.declared.reading.JsonFault.{JsonFault}
use Rattle.hose_topo_json.specs.declared.reading.JsonFault.TheVariants.{Json, Nodes, Node, Links, Link as LinkAt, Memory}
use Rattle.hose_topo_json.proofs.OneLink as link
use Rattle.hose_topo_json.proofs.OneNode as node

abbrev Answer : Type 0
Answer = Result Network JsonFault

-- ---- one choice after the other

-- there is something of a kind, and the answer rests on it, or there is none and the answer is this
abbrev Chooses : {A : Type 0} → (A → Type 0) → (A → Answer → Type 0) → (Answer → Type 0) → Answer → Type 0
Chooses {A} P Rest None answer = ((a : A) × P a × Rest a answer) ⊎ None answer

one_choice : {A : Type 0} (P : A → Type 0) (Rest : A → Answer → Type 0) (None : Answer → Type 0) → ((a b : A) → P a → P b → a ≡ b)
    → ((a : A) (one other : Answer) → P a → Rest a one → Rest a other → one ≡ other) → ((a : A) (other : Answer) → P a → None other → ⊥) → ((one other : Answer) → None one → None other → one ≡ other)
    → (one other : Answer) → Chooses P Rest None one → Chooses P Rest None other → one ≡ other
one_choice P Rest None same rest apart none one other (inl x) (inl y) = rest x.0 one other x.1 x.2 (subst (λ a. Rest a other) (same y.0 x.0 y.1 x.1) y.2)
one_choice P Rest None same rest apart none one other (inl x) (inr y) = absurd (apart x.0 other x.1 y)
one_choice P Rest None same rest apart none one other (inr x) (inl y) = absurd (apart y.0 one y.1 x)
one_choice P Rest None same rest apart none one other (inr x) (inr y) = none one other x y

-- ---- the choices, the last first

abbrev IsOf : List (List ℕ) → List Link → Answer → Type 0
IsOf names links answer = answer ≡ Ok (record { nodes = names; links = links })

abbrev NoLinks : List (List ℕ) → List Data → Answer → Type 0
NoLinks names values answer = (place : ℕ) × IsWrongLink names values place × (answer ≡ Err (LinkAt place))

abbrev OfLinks : List (List ℕ) → List Data → Answer → Type 0
OfLinks names values = Chooses (AllZip (TellsJsonLink names) values) (IsOf names) (NoLinks names values)

abbrev NoLinkList : Data → Answer → Type 0
NoLinkList value answer = ((links : List Data) → ¬ HasLinks value links) × (answer ≡ Err Links)

abbrev OfNames : Data → List (List ℕ) → Answer → Type 0
OfNames value names = Chooses (HasLinks value) (OfLinks names) (NoLinkList value)

abbrev NoNames : List Data → Answer → Type 0
NoNames nodes answer = (place : ℕ) × IsWrongNode nodes place × (answer ≡ Err (Node place))

abbrev OfNodes : Data → List Data → Answer → Type 0
OfNodes value nodes = Chooses (NameNodes nodes) (OfNames value) (NoNames nodes)

abbrev NoNodeList : Data → Answer → Type 0
NoNodeList value answer = ((nodes : List Data) → ¬ HasNodes value nodes) × (answer ≡ Err Nodes)

abbrev OfValue : Data → Answer → Type 0
OfValue value = Chooses (HasNodes value) (OfNodes value) (NoNodeList value)

abbrev NoObject : List ℕ → Answer → Type 0
NoObject bytes answer = ((value : Data) → ¬ ReadsObject bytes value) × (answer ≡ Err Json)

abbrev OfBytes : List ℕ → Answer → Type 0
OfBytes bytes = Chooses (ReadsObject bytes) OfValue (NoObject bytes)

-- ---- each has one answer

of_links : (nodes : List Data) (names : List (List ℕ)) (values : List Data) (one other : Answer) → NameNodes nodes names → OfLinks names values one → OfLinks names values other → one ≡ other
of_links nodes names values one other named =
    one_choice (AllZip (TellsJsonLink names) values) (IsOf names) (NoLinks names values) (link.one_linking names named.differ values)
    (λ links first second told is is'. is ∙ sym is') (λ links answer told none. link.not_wrong names values links none.0 told none.1)
    (λ first second x y. x.2 ∙ ap (λ place. Err (LinkAt place)) (link.one_wrong names values x.0 y.0 x.1 y.1) ∙ sym y.2) one other

of_names : (value : Data) (nodes : List Data) (names : List (List ℕ)) (one other : Answer) → NameNodes nodes names → OfNames value names one → OfNames value names other → one ≡ other
of_names value nodes names one other named =
    one_choice (HasLinks value) (OfLinks names) (NoLinkList value) (λ a b x y. same_Some a b (sym x.here ∙ y.here))
    (λ links first second has. of_links nodes names links first second named) (λ links answer has none. none.0 links has) (λ first second x y. x.1 ∙ sym y.1) one other

of_nodes : (value : Data) (nodes : List Data) (one other : Answer) → OfNodes value nodes one → OfNodes value nodes other → one ≡ other
of_nodes value nodes one other =
    one_choice (NameNodes nodes) (OfNames value) (NoNames nodes) (node.one_naming nodes)
    (λ names first second named. of_names value nodes names first second named) (λ names answer named none. node.not_wrong nodes names none.0 named none.1)
    (λ first second x y. x.2 ∙ ap (λ place. Err (Node place)) (node.one_wrong nodes x.0 y.0 x.1 y.1) ∙ sym y.2) one other

of_value : (value : Data) (one other : Answer) → OfValue value one → OfValue value other → one ≡ other
of_value value one other =
    one_choice (HasNodes value) (OfNodes value) (NoNodeList value) (λ a b x y. same_Some a b (sym x.here ∙ y.here))
    (λ nodes first second has. of_nodes value nodes first second) (λ nodes answer has none. none.0 nodes has) (λ first second x y. x.1 ∙ sym y.1) one other

of_bytes : (bytes : List ℕ) (one other : Answer) → OfBytes bytes one → OfBytes bytes other → one ≡ other
of_bytes bytes one other =
    one_choice (ReadsObject bytes) OfValue (NoObject bytes) (λ a b x y. same_Some a b (sym x.is_read ∙ y.is_read))
    (λ value first second reads. of_value value first second) (λ value answer reads none. none.0 value reads) (λ first second x y. x.1 ∙ sym y.1) one other

-- ---- the definitions of the whole

of_topology : (bytes : List ℕ) (network : Network) → IsJsonTopology bytes network → OfBytes bytes (Ok network)
of_topology bytes network is = inl (is.value, is.is_read, inl (is.nodes, is.has_nodes, inl (network.nodes, is.are_nodes, inl (is.links, is.has_links, inl (network.links, is.are_links, refl)))))

of_refusal : (bytes : List ℕ) (fault : JsonFault) → fault ≢ Memory → IsJsonFault bytes fault → OfBytes bytes (Err fault)
of_refusal bytes Json other is = inr (is, refl)
of_refusal bytes Nodes other is = inl (is.0, is.1, inr (is.2, refl))
of_refusal bytes (Node place) other is = inl (is.0, is.2.is_read, inl (is.1, is.2.has_nodes, inr (place, is.3, refl)))
of_refusal bytes Links other is = inl (is.0, is.3.is_read, inl (is.1, is.3.has_nodes, inl (is.2, is.4, inr (is.5, refl))))
of_refusal bytes (LinkAt place) other is = inl (is.0, is.3.is_read, inl (is.1, is.3.has_nodes, inl (is.2, is.4, inl (is.5.0, is.5.1, inr (place, is.5.2, refl)))))
of_refusal bytes Memory other is = absurd (other refl)

-- what was answered
abbrev Answers : List ℕ → Answer → Type 0
Answers bytes (Ok network) = IsJsonTopology bytes network
Answers bytes (Err fault) = IsJsonFault bytes fault

-- what may be answered is answered, but for want of memory
one_of : (bytes : List ℕ) (answer other : Answer) → Answers bytes answer → OfBytes bytes other → (answer ≡ other) ⊎ (answer ≡ Err Memory)
one_of bytes (Ok network) other is may = inl (of_bytes bytes (Ok network) other (of_topology bytes network is) may)
one_of bytes (Err Json) other is may = inl (of_bytes bytes (Err Json) other (of_refusal bytes Json (λ same. cc) is) may)
one_of bytes (Err Nodes) other is may = inl (of_bytes bytes (Err Nodes) other (of_refusal bytes Nodes (λ same. cc) is) may)
one_of bytes (Err (Node place)) other is may = inl (of_bytes bytes (Err (Node place)) other (of_refusal bytes (Node place) (λ same. cc) is) may)
one_of bytes (Err Links) other is may = inl (of_bytes bytes (Err Links) other (of_refusal bytes Links (λ same. cc) is) may)
one_of bytes (Err (LinkAt place)) other is may = inl (of_bytes bytes (Err (LinkAt place)) other (of_refusal bytes (LinkAt place) (λ same. cc) is) may)
one_of bytes (Err Memory) other is may = inr refl

pub accepts : (bytes : List ℕ) (answer : Answer) → Answers bytes answer → (network : Network) → IsJsonTopology bytes network → (answer ≡ Ok network) ⊎ (answer ≡ Err Memory)
accepts bytes answer is network told = one_of bytes answer (Ok network) is (of_topology bytes network told)

pub refuses : (bytes : List ℕ) (answer : Answer) → Answers bytes answer → (fault : JsonFault) → fault ≢ Memory → IsJsonFault bytes fault → (answer ≡ Err fault) ⊎ (answer ≡ Err Memory)
refuses bytes answer is fault other told = one_of bytes answer (Err fault) is (of_refusal bytes fault other told)
