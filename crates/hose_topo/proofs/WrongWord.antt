-- A line that is wrong at a word neither adds to the network nor ends the text.
use Rattle.std.proofs.Common.{◌≡◌, ℕ, List, [], ◌∷◌, codes, decimal, inl, inr, refl, sym, subst, arith}
use Rattle.hose_words.specs.steps.Cursor.{IsWrong, Position, Took}
use Rattle.hose_words.specs.Words.{IsChoice}
use Rattle.hose_words.specs.steps.Form.{TellsNumber, branch, maybe, finish, grammar_of}
use Rattle.hose_words.specs.steps.Grammar.{IsFirstNotAllowed}
use Rattle.hose_words.specs.Shapes.{IsFirstWrong}
use Rattle.hose_words.proofs.Forms.{AreApart, apart_by, wrong_chosen}
use Rattle.hose_words.proofs.Keywords.{choice_of}
use Rattle.hose_words.proofs.Shapes.{Agrees, agrees_end, agrees_last, agrees_place, agrees_value, form_of_wrong}
use Rattle.hose_words.proofs.Passing.{Passes, pass_branch, pass_finish, pass_maybe, pass_nothing, pass_place}
use Rattle.hose_graph.specs.Network.{Network, IsNetwork, IsNodeOf, name_of}
use Rattle.hose_graph.specs.declared.topology.Link.{Link}
use Rattle.hose_graph.specs.declared.limits.TheConstants.{MOST_COST}
use Rattle.hose_graph.proofs.NodesByName.{same_name}
use Rattle.hose_graph.specs.Limit.{IsUpTo}
use Rattle.hose_graph.specs.Limits.{most_capacity, most_cost, most_length}
use Rattle.hose_topo.specs.TopologyText.{AddsLine, EndsText, HasLine, IsNewName, IsOtherNode, IsPassedOver, IsWrongLine, MayCome, kind_shape, kind_word, line_shape}
use Rattle.hose_topo.specs.steps.TopologyText.{AddsByKind, AddsLink, AddsNode, IsLastLine, TellsLink, kind_form, line_form, line_grammar, link_form, number_form, numbers_form}
use Rattle.hose_topo.proofs.LinesTold.{adds_back, end_back}
use Rattle.hose_topo.specs.declared.line.LineKind.{LineKind}
use Rattle.hose_topo.specs.declared.line.LineKind.TheVariants as kind
use Rattle.hose_topo.proofs.TopologyLines.{line_same}

-- ---- each choice has a word of its own

abbrev kind_of : List ℕ → LineKind
kind_of word = choice_of kind_word (kind.Node ∷ kind.Link ∷ kind.End ∷ []) kind.End word

kind_back : (one : LineKind) → kind_of (kind_word one) ≡ one
kind_back kind.Node = refl
kind_back kind.Link = refl
kind_back kind.End = refl

pub kinds_apart : (network : Network) → AreApart (MayCome network) kind_word
kinds_apart network = apart_by kind_of (λ one _. kind_back one)

pub nodes_apart : (network : Network) → IsNetwork network → AreApart (IsNodeOf network) (name_of network)
nodes_apart network is = record { apart = λ one other below below'. same_name network one other is.differ below below' }

pub others_apart : (network : Network) (a : ℕ) → IsNetwork network → AreApart (IsOtherNode network a) (name_of network)
others_apart network a is = record { apart = λ one other below below'. same_name network one other is.differ below.0 below'.0 }

-- ---- a line's shape and its form allow the same lines

told_number : (most : ℕ) (word : List ℕ) → TellsNumber (IsUpTo most) word → IsChoice (IsUpTo most) decimal word
told_number most word told = (told.0, told.2, told.1)

number_told : (most number : ℕ) → IsUpTo most number → TellsNumber (IsUpTo most) (decimal number)
number_told most number is = (number, refl, is)

kind_agrees : (network : Network) → IsNetwork network → (one : LineKind) → Agrees (kind_shape network one) (grammar_of (kind_form network one))
kind_agrees network is kind.Node = agrees_place (IsNewName network) finish (λ word new. (word, new, refl)) (λ name new. new) (λ name _. agrees_end)
kind_agrees network is kind.End = agrees_end
kind_agrees network is kind.Link =
    agrees_value (λ a. branch (IsOtherNode network a) (name_of network) (λ b. numbers_form)) (nodes_apart network is)
    (λ a _. agrees_value (λ b. numbers_form) (others_apart network a is)
    (λ b _. agrees_place (TellsNumber (IsUpTo most_capacity)) (number_form most_length (maybe (number_form most_cost finish))) (told_number most_capacity) (number_told most_capacity)
    (λ capacity _. agrees_place (TellsNumber (IsUpTo most_length)) (maybe (number_form most_cost finish)) (told_number most_length) (number_told most_length)
    (λ length _. agrees_last (IsUpTo most_cost) decimal (number_form most_cost finish)
    (agrees_place (TellsNumber (IsUpTo most_cost)) finish (told_number most_cost) (number_told most_cost) (λ cost _. agrees_end))))))

pub agrees_line : (network : Network) → IsNetwork network → Agrees (line_shape network) (line_grammar network)
agrees_line network is = agrees_value (kind_form network) (kinds_apart network) (λ one _. kind_agrees network is one)

-- the names of a link's nodes came, and a later word is wrong
pub past_nodes : (network : Network) → IsNetwork network → {old mid new : Position} {a b number : ℕ} → Took old mid (name_of network a) → IsNodeOf network a → Took mid new (name_of network b) → IsOtherNode network a b
    → IsWrong numbers_form new number → IsWrong (link_form network) old number
past_nodes network is {old} {mid} {new} {a} {b} {number} took is_node took' is_other wrong =
    wrong_chosen a is_node (nodes_apart network is) took (wrong_chosen b is_other (others_apart network a is) took' wrong)

-- ---- a line that does something is not wrong

pass_end : (network : Network) (words : List (List ℕ)) → IsLastLine network words → Passes (line_form network) words
pass_end network words end = subst (Passes (line_form network)) (sym end.0) (pass_branch kind.End end.1 (kinds_apart network) pass_finish)

pass_node : (network next : Network) (words : List (List ℕ)) → AddsNode network words next → Passes (line_form network) words
pass_node network next words adds =
    subst (Passes (line_form network)) (sym adds.line) (pass_branch kind.Node adds.room (kinds_apart network) (pass_place (adds.is_name, adds.is_new) pass_finish))

module _ (network : Network) (is : IsNetwork network) (words : List (List ℕ)) (next : Network) (adds : AddsLink network words next) where
  abbrev link : Link
  link = adds.link

  pass_numbers : (cost : List (List ℕ)) → Passes (maybe (number_form MOST_COST finish)) cost
      → Passes (line_form network) (codes "link" ∷ name_of network link.a ∷ name_of network link.b ∷ decimal link.capacity ∷ decimal link.length ∷ cost)
  pass_numbers cost pass =
      pass_branch kind.Link adds.room (kinds_apart network) (pass_branch link.a adds.is_link.in_range.a (nodes_apart network is)
      (pass_branch link.b (adds.is_link.in_range.b, λ same. adds.is_link.no_loop (sym same)) (others_apart network link.a is)
      (pass_place (link.capacity, refl, adds.is_link.in_range.capacity) (pass_place (link.length, refl, adds.is_link.in_range.distance) pass))))

  pass_told : TellsLink network words link → Passes (line_form network) words
  pass_told (inl tells) = subst (Passes (line_form network)) (sym tells.0) (pass_numbers [] pass_nothing)
  pass_told (inr tells) =
      subst (Passes (line_form network)) (sym tells) (pass_numbers (decimal link.cost ∷ []) (pass_maybe (pass_place (link.cost, refl, adds.is_link.in_range.cost) pass_finish)))

  pass_link : Passes (line_form network) words
  pass_link = pass_told adds.tells

-- where the first line is wrong, the text goes on with no line that adds or ends
pub wrong_line : (network : Network) (text : List ℕ) (word : ℕ) → IsNetwork network → IsWrongLine network text word
    → (words : List (List ℕ)) → HasLine text words → (EndsText network words → ⊥) × ((next : Network) → AddsLine network words next → ⊥)
wrong_line network text word is (inl (empty, _)) words line = absurd (line.some empty)
wrong_line network text word is (inr (inl (long, _))) words line = absurd (omega (arith, long, line.short))
wrong_line network text word is (inr (inr (mine, has, not_passed, wrong))) words line =
    let same : mine ≡ words = line_same text mine words has line in
    let here = form_of_wrong (line_shape network) (line_grammar network) (agrees_line network is) words word (subst (λ w. IsFirstWrong (line_shape network) w word) same wrong) in
    let counts = subst (λ w. IsPassedOver w → ⊥) same not_passed in
    ((λ end. (pass_end network words (end_back network words end)).none word here), λ next adds. neither next (adds_back network words next adds) counts here)
  where
    neither : (next : Network) → AddsByKind network words next → (IsPassedOver words → ⊥) → IsFirstNotAllowed (line_grammar network) [] words word → ⊥
    neither next (inl passed) counts here = counts passed.0
    neither next (inr (inl node)) counts here = (pass_node network next words node).none word here
    neither next (inr (inr link)) counts here = (pass_link network is words next link).none word here
