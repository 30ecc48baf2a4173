-- The items of words are found again from the words alone.
use Rattle.std.proofs.Common.{◌≡◌, ◌≢◌, ◌∙◌, ℕ, ◌<◌, suc, Bool, true, false, eqb, List, [], ◌∷◌, ◌++◌, length, get_or, map, take, drop, decimal, refl, ap, arith, length-append}
use Rattle.std.specs.List.{All, Contains, position_or_len}
use Rattle.std.specs.Str.{bytes_eq}
use Rattle.std.specs.Str.Parse.{digits_value}
use Rattle.std.proofs.Math.ListN.{get_or-append}
use Rattle.std.proofs.Math.Seq.{get_or-append_seam}
use Rattle.std.proofs.lemmas.Bool.{false_from_ne_true, ne_eqb}
use Rattle.std.proofs.lemmas.Fmt.{decimal_is_IsNumeral}
use Rattle.std.proofs.lemmas.List.{get_or_default, take_at}
use Rattle.std.proofs.lemmas.List.Sums.{position_or_len_is}
use Rattle.std.proofs.lemmas.Slice.Eq.{bytes_eq-Decides}
use Rattle.hose_words.specs.Numbers.{Fits64}
use Rattle.hose_graph.specs.Network.{Network, IsNetwork, name_of}
use Rattle.hose_proto.specs.EndWords.{named_rate}
use Rattle.hose_proto.specs.Places.{end_word}
use Rattle.hose_proto.specs.steps.Places.{IsEndOf}
use Rattle.hose_proto.proofs.Colons.{named_cut, no_colon}

-- ---- a list round its first element that passes

-- unequal texts are told apart
pub unequal : (one other : List ℕ) → one ≢ other → bytes_eq one other ≡ false
unequal one other differ = false_from_ne_true (bytes_eq one other) (λ same. differ ((bytes_eq-Decides one other).0 same))

abbrev pub front_of : {X : Type 0} → (X → Bool) → List X → List X
front_of passes xs = take (position_or_len passes xs) xs

abbrev pub rest_of : {X : Type 0} → (X → Bool) → List X → List X
rest_of passes xs = drop (suc (position_or_len passes xs)) xs

drop_front : {X : Type 0} (front : List X) (x : X) (rest : List X) → drop (suc (length front)) (front ++ x ∷ rest) ≡ rest
drop_front [] x rest = refl
drop_front (y ∷ front) x rest = drop_front front x rest

module _ {X : Type 0} (passes : X → Bool) (front : List X) (x : X) (rest : List X) (none : All (λ y. passes y ≡ false) front) (here : passes x ≡ true) where
  first_place : position_or_len passes (front ++ x ∷ rest) ≡ length front
  first_place =
      position_or_len_is passes (front ++ x ∷ rest) (length front) x (omega (arith, length-append front (x ∷ rest)))
      (λ k below. ap passes (get_or-append front (x ∷ rest) x k below) ∙ none k x below)
      (λ _. ap passes (get_or-append_seam front x rest x) ∙ here)

  pub front_is : front_of passes (front ++ x ∷ rest) ≡ front
  front_is = ap (λ i. take i (front ++ x ∷ rest)) first_place ∙ take_at front (x ∷ rest) (length front) refl

  pub rest_is : rest_of passes (front ++ x ∷ rest) ≡ rest
  rest_is = ap (λ i. drop (suc i) (front ++ x ∷ rest)) first_place ∙ drop_front front x rest

-- ---- the items of words

abbrev pub is_colon : ℕ → Bool
is_colon byte = eqb byte 58

pub no_colon_passes : (bytes : List ℕ) → (¬ Contains bytes 58) → All (λ byte. is_colon byte ≡ false) bytes
no_colon_passes bytes none = λ k d below. ne_eqb (get_or bytes k d) 58 (λ same. none (k, below, get_or_default bytes k 58 d below ∙ same))

abbrev pub number_spelled : List ℕ → ℕ
number_spelled word = digits_value 10 word

pub number_back : (n : ℕ) → Fits64 n → number_spelled (decimal n) ≡ n
number_back n small = (decimal_is_IsNumeral n small).1

-- the parts round a word's first colon
abbrev pub parts_spelled : (List ℕ → ℕ) → List ℕ → ℕ × ℕ
parts_spelled back word = (back (front_of is_colon word), number_spelled (rest_of is_colon word))

pub parts_back : (back : List ℕ → ℕ) (front : List ℕ) (x n : ℕ) → (¬ Contains front 58) → back front ≡ x → Fits64 n → parts_spelled back (named_rate front n) ≡ (x, n)
parts_back back front x n free is small =
    let none = no_colon_passes front free in
    let first = ap back (front_is is_colon front 58 (decimal n) none refl) ∙ is in
    let second = ap number_spelled (rest_is is_colon front 58 (decimal n) none refl) ∙ number_back n small in
    ap (parts_spelled back) (named_cut front n) ∙ (λ i. (first i, second i))

abbrev pub node_named : Network → List ℕ → ℕ
node_named network word = position_or_len (λ name. bytes_eq name word) network.nodes

pub node_back : (network : Network) (node : ℕ) → IsNetwork network → node < length network.nodes → node_named network (name_of network node) ≡ node
node_back network node is below =
    position_or_len_is (λ name. bytes_eq name (name_of network node)) network.nodes node [] (omega (arith, below))
    (λ k before. unequal (get_or network.nodes k []) (name_of network node) (is.differ k node [] before below))
    (λ _. (bytes_eq-Decides (name_of network node) (name_of network node)).1 refl)

abbrev pub end_spelled : Network → List ℕ → ℕ × ℕ
end_spelled network word = parts_spelled (node_named network) word

pub end_back : (network : Network) (end : ℕ × ℕ) → IsNetwork network → end.0 < length network.nodes → Fits64 end.1 → end_spelled network (end_word network end) ≡ end
end_back network end is below small =
    parts_back (node_named network) (name_of network end.0) end.0 end.1 (no_colon (name_of network end.0) (is.names end.0 [] below)) (node_back network end.0 is below) small

pub map_back : {X : Type 0} (word_of : X → List ℕ) (back : List ℕ → X) (xs : List X) → All (λ x. back (word_of x) ≡ x) xs → map back (map word_of xs) ≡ xs
map_back word_of back [] all = refl
map_back word_of back (x ∷ xs) all =
    let first = all 0 x (omega arith) in
    let rest = map_back word_of back xs (λ k d below. all (suc k) d (omega (arith, below))) in
    λ i. first i ∷ rest i

-- endpoints of a network
pub ends_back : (network : Network) → IsNetwork network → (ends : List (ℕ × ℕ)) → All (IsEndOf network) ends → map (end_spelled network) (map (end_word network) ends) ≡ ends
ends_back network is ends all =
    map_back (end_word network) (end_spelled network) ends
    (λ k d below. let fits = all k d below in end_back network (get_or ends k d) is fits.is_node (omega (arith, fits.is_end.rate)))
