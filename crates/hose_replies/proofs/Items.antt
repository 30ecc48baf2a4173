-- The items of the lists of replies: amounts, nodes, endpoints and numbers, in ascending order.
use Rattle.std.proofs.Common.{◌≡◌, ℕ, ◌^◌, ◌<◌, List, [], ◌∷◌, ◌++◌, decimal, refl, sym, subst, arith, length-append}
use Rattle.std.specs.List.Sorted.{IsStrictlyIncreasing}
use Rattle.std.proofs.lemmas.Fmt.{decimal_injective}
use Rattle.std.proofs.lemmas.List.Elements.{All-nil, All-push}
use Rattle.hose_words.specs.Numbers.{Fits64}
use Rattle.hose_words.proofs.Forms.{AreApart}
use Rattle.hose_words.proofs.Passing.{All-front, IsClosed}
use Rattle.hose_graph.specs.Network.{Network, IsNetwork}
use Rattle.hose_proto.specs.Command.{AreNewEnds}
use Rattle.hose_proto.specs.Places.{end_word}
use Rattle.hose_proto.specs.ReplyWords.{pair_word}
use Rattle.hose_proto.specs.steps.Places.{IsEndOf}
use Rattle.hose_proto.specs.steps.Reading.{ListGoesOn}
use Rattle.hose_proto.proofs.Apart.{All-last}
use Rattle.hose_proto.proofs.Back.{number_back, number_spelled, parts_back, parts_spelled}
use Rattle.hose_proto.proofs.Colons.{named_same, no_colon_decimal}
use Rattle.hose_proto.proofs.Hoses.{distinct_in_order}
use Rattle.hose_proto.proofs.ItemByItem.{goes_on}
use Rattle.hose_proto.proofs.ListItems.{ends_spelled}
use Rattle.hose_replies.specs.steps.Fields.{AreAscending, AreEnds, IsAmountOf}
use Rattle.hose_replies.specs.steps.Reading.{IsNextEnd, IsNextItem}
use Rattle.hose_replies.proofs.Rising.{firsts_front}

-- ---- in ascending order

-- no item yet
pub no_item_yet : {A : Type 0} {numbers_of : List A → List ℕ} {is : A → Type 0} → numbers_of [] ≡ [] → AreAscending numbers_of is []
no_item_yet {A} {numbers_of} {is} none = record { ascending = subst IsStrictlyIncreasing (sym none) (λ k below. absurd (omega (arith, below))); each = All-nil is }

-- one item more, and none that may not come
pub ascending_go_on : {A : Type 0} {numbers_of : List A → List ℕ} {is : A → Type 0} {word_of : A → List ℕ} {items : List A} → AreApart is word_of → AreAscending numbers_of is items
    → ListGoesOn word_of (AreAscending numbers_of is) (IsNextItem numbers_of is items) items
ascending_go_on {A} {numbers_of} {is} {word_of} {items} apart are =
    goes_on is apart (λ others fine. fine.each) are
    (λ item next. record { ascending = next.ascending; each = All-push is items item are.each next.here })
    (λ item fine. record { here = All-last is items item fine.each; ascending = fine.ascending })

pub ascending_closed : {A : Type 0} {numbers_of : List A → List ℕ} {is : A → Type 0} → ((xs ys : List A) → IsStrictlyIncreasing (numbers_of (xs ++ ys)) → IsStrictlyIncreasing (numbers_of xs))
    → IsClosed (AreAscending numbers_of is)
ascending_closed {A} {numbers_of} {is} front = record {
  front = λ xs ys some are. record { ascending = front xs ys are.ascending; each = All-front is xs ys are.each };
}

-- ---- amounts and numbers

abbrev pub pair_spelled : List ℕ → ℕ × ℕ
pair_spelled word = parts_spelled number_spelled word

pub pair_back : (pair : ℕ × ℕ) → Fits64 pair.0 → Fits64 pair.1 → pair_spelled (pair_word pair) ≡ pair
pair_back pair small small' = parts_back number_spelled (decimal pair.0) pair.0 pair.1 (no_colon_decimal pair.0 small) (number_back pair.0 small) small'

pub amounts_spelled : (network : Network) → IsNetwork network → AreApart (IsAmountOf network) pair_word
amounts_spelled network is = record {
  apart = λ one other fits fits' same.
      let small : one.0 < 2 ^ 64 = omega (arith, fits.link, is.few_links) in
      let small' : other.0 < 2 ^ 64 = omega (arith, fits'.link, is.few_links) in
      let parts = named_same (decimal one.0) (decimal other.0) one.1 other.1 (no_colon_decimal one.0 small) (no_colon_decimal other.0 small') fits.fits fits'.fits same in
      let link = decimal_injective one.0 other.0 small small' parts.0 in
      λ i. (link i, parts.1 i);
}

pub numbers_spelled : AreApart Fits64 decimal
numbers_spelled = record { apart = decimal_injective }

-- ---- endpoints

-- no endpoint yet
pub no_ends : (network : Network) → AreEnds network []
no_ends network = record { few = omega arith; in_order = no_item_yet refl }

pub ends_go_on : (network : Network) → IsNetwork network → (ends : List (ℕ × ℕ)) → AreEnds network ends → ListGoesOn (end_word network) (AreEnds network) (IsNextEnd network ends) ends
ends_go_on network is ends are =
    goes_on (IsEndOf network) (ends_spelled network is) (λ others fine. fine.in_order.each) are
    (λ end next. record {
      few = omega (arith, next.room, length-append ends (end ∷ []));
      in_order = record { ascending = next.in_order.ascending; each = All-push (IsEndOf network) ends end are.in_order.each next.in_order.here };
    })
    (λ end fine. record {
      in_order = record { here = All-last (IsEndOf network) ends end fine.in_order.each; ascending = fine.in_order.ascending };
      room = omega (arith, fine.few, length-append ends (end ∷ []));
    })

pub ends_closed : (network : Network) → IsClosed (AreEnds network)
ends_closed network = record {
  front = λ xs ys some are. record { few = omega (arith, are.few, length-append xs ys); in_order = (ascending_closed firsts_front).front xs ys some are.in_order };
}

-- endpoints in order make a hose too
pub new_in_order : (network : Network) (ends : List (ℕ × ℕ)) → AreEnds network ends → AreNewEnds network ends
new_in_order network ends are = record {
  few = are.few;
  within = λ k d below. (are.in_order.each k d below).is_end;
  distinct = distinct_in_order ends are.in_order.ascending;
  nodes = λ k d below. (are.in_order.each k d below).is_node;
}
