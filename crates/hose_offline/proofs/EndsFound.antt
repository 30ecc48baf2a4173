-- Endpoints that are found at the nodes of a network by their words.
use Rattle.std.proofs.Common.{◌≡◌, ◌∙◌, ℕ, ◌+◌, ◌<◌, List, [], ◌∷◌, ◌++◌, length, get_or, take, sym, ap, arith, map, subst}
use Rattle.std.specs.List.Sorted.{IsPermutation}
use Rattle.std.proofs.lemmas.List.{get_or-map, get_or-take, length-map, map-append, take_more}
use Rattle.std.proofs.lemmas.List.Elements.{All-push}
use Rattle.hose_graph.specs.Hose.{IsHose}
use Rattle.hose_graph.specs.steps.Hose.{MakesHose}
use Rattle.hose_graph.specs.Network.{IsNetwork, Network, name_of}
use Rattle.hose_proto.specs.Command.{AreEndsOf, AreNewEnds}
use Rattle.hose_proto.specs.steps.EndWords.{AreEndWords}
use Rattle.hose_proto.specs.EndWords.{IsEndWord, IsFirstUnknown, NamesNode, name_in, named_rate}
use Rattle.hose_proto.specs.Places.{end_word}
use Rattle.hose_proto.specs.steps.Places.{IsEndOf}
use Rattle.hose_proto.proofs.EndWords.{name_of_end, names_its_node}
use Rattle.hose_proto.proofs.Hoses.{hose_made, makes_hose}
use Rattle.hose_offline.specs.steps.ProveOutcome.{AreEndsInOrder}

module _ (network : Network) (is : IsNetwork network) (words : List (List ℕ)) (ends : List (ℕ × ℕ)) (spelled : AreEndsInOrder network words ends) where
  counted : length words ≡ length ends
  counted = ap length spelled.spelled ∙ length-map ends (end_word network)

  -- the name in a word is that of its endpoint's node
  name_there : (k : ℕ) (d : ℕ × ℕ) → k < length ends → name_of network (get_or ends k d).0 ≡ name_in (get_or words k [])
  name_there k d below =
      let word : get_or words k [] ≡ end_word network (get_or ends k d) = ap (λ (w : List (List ℕ)). get_or w k []) spelled.spelled ∙ get_or-map (end_word network) ends k d [] below in
      names_its_node network (get_or words k []) (get_or ends k d) is (spelled.are k d below).is_node word

  -- words with names of their own are those of endpoints at distinct nodes
  ends_are_new : AreEndWords words → AreNewEnds network ends
  ends_are_new are = record {
    few = omega (arith, are.are.few, counted);
    within = λ k d below. (spelled.are k d below).is_end;
    distinct = λ i j d order below same. are.are.distinct i j [] order (omega (arith, below, counted))
        (sym (name_there i d (omega (arith, order, below))) ∙ (ap (name_of network) same ∙ name_there j d below));
    nodes = λ k d below. (spelled.are k d below).is_node;
  }

  pub ends_make_hose : AreEndWords words → MakesHose ends
  ends_make_hose are = makes_hose network ends (ends_are_new are) (omega (arith, are.enough, counted))

  pub ends_of_hose : (hose : List (ℕ × ℕ)) → AreEndWords words → IsPermutation ends hose → IsHose hose → AreEndsOf network words hose
  ends_of_hose hose are moved is_hose = record {
    ends = ends;
    spelled = spelled.spelled;
    same_ends = moved;
    is_hose = hose_made network ends hose (ends_are_new are) moved is_hose;
  }

-- the word of an item that stands at a place is that of the place
pub word_at : {A : Type 0} (word_of : A → List ℕ) (items : List A) (one : A) (at n : ℕ) (word : List ℕ) → one ≡ get_or items at one → at ≡ n → n < length items → word ≡ word_of one → get_or (map word_of items) n [] ≡ word
word_at {A} word_of items one at n word is same below told =
    get_or-map word_of items n one [] below ∙ ap word_of (sym (subst (λ (k : ℕ). one ≡ get_or items k one) same is)) ∙ sym told

-- a word of an endpoint's form whose name is a node's spells an endpoint of the network
pub spells_known : (network : Network) (word : List ℕ) → IsNetwork network → IsEndWord word → ((end : ℕ × ℕ) → word ≡ end_word network end → IsEndOf network end → ⊥) → NamesNode network word → ⊥
spells_known network word is (name, rate, told, is_name, is_rate) none (node, below, same) =
    let named : name_of network node ≡ name = same ∙ name_of_end word name rate told is_name in
    none (node, rate) (told ∙ ap (λ (n : List ℕ). named_rate n rate) (sym named))
    (record { is_end = record { node = omega (arith, below, is.few_nodes); rate = is_rate }; is_node = below })

-- ---- one word after the other

module _ (network : Network) (words : List (List ℕ)) (found : List (ℕ × ℕ)) (spelled : AreEndsInOrder network (take (length found) words) found) where
  -- one word more spells one endpoint more
  pub one_end_more : (end : ℕ × ℕ) → length found < length words → get_or words (length found) [] ≡ end_word network end → IsEndOf network end
      → AreEndsInOrder network (take (length found + 1) words) (found ++ end ∷ [])
  one_end_more end below word is = record {
    spelled = take_more words (length found) [] below ∙ (λ i. spelled.spelled i ++ word i ∷ []) ∙ sym (map-append (end_word network) found (end ∷ []));
    are = All-push (IsEndOf network) found end spelled.are is;
  }

  -- the next word is the first whose name is that of no node
  pub first_unknown : IsNetwork network → length found < length words → (NamesNode network (get_or words (length found) []) → ⊥) → IsFirstUnknown network words (length found)
  first_unknown is below none = record {
    within = below;
    unknown = none;
    earlier = λ other before.
        let there = name_there network is (take (length found) words) found spelled other (0, 0) before in
        ((get_or found other (0, 0)).0, (spelled.are other (0, 0) before).is_node, there ∙ ap name_in (get_or-take (length found) words other [] before));
  }
