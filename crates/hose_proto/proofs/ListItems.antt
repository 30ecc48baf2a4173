-- The items of lists: nodes and endpoints. Each is told by its own word, and lists grow item by item.
use Rattle.std.proofs.Common.{◌∙◌, ℕ, List, [], ◌∷◌, ◌++◌, Some, sym, ap, arith, length-append}
use Rattle.std.proofs.lemmas.List.Elements.{All-push}
use Rattle.std.proofs.lemmas.Option.{slice_get-get_or}
use Rattle.hose_words.proofs.Forms.{AreApart}
use Rattle.hose_words.proofs.Passing.{All-front, IsClosed}
use Rattle.hose_graph.specs.Hose.{IsEnd}
use Rattle.hose_graph.specs.Network.{Network, IsNetwork, IsNodeOf, name_of}
use Rattle.hose_graph.proofs.NodesByName.{same_node}
use Rattle.hose_proto.specs.Command.{AreNewEnds}
use Rattle.hose_proto.specs.steps.Places.{IsEndOf}
use Rattle.hose_proto.specs.Places.{end_word}
use Rattle.hose_proto.specs.steps.Reading.{IsNewEnd, ListGoesOn}
use Rattle.hose_proto.proofs.Apart.{own_key_front, own_key_more, own_key_new, All-last}
use Rattle.hose_proto.proofs.Colons.{named_same, no_colon}
use Rattle.hose_proto.proofs.ItemByItem.{goes_on}

-- ---- nodes and endpoints

pub nodes_spelled : (network : Network) → IsNetwork network → AreApart (IsNodeOf network) (name_of network)
nodes_spelled network is = record {
  apart = λ one other below below' same.
      same_node network.nodes one other (name_of network one) is.differ (slice_get-get_or network.nodes one [] below)
      (slice_get-get_or network.nodes other [] below' ∙ ap Some (sym same));
}

pub ends_spelled : (network : Network) → IsNetwork network → AreApart (IsEndOf network) (end_word network)
ends_spelled network is = record {
  apart = λ one other fits fits' same.
      let free = no_colon (name_of network one.0) (is.names one.0 [] fits.is_node) in
      let free' = no_colon (name_of network other.0) (is.names other.0 [] fits'.is_node) in
      let parts = named_same (name_of network one.0) (name_of network other.0) one.1 other.1 free free' (omega (arith, fits.is_end.rate)) (omega (arith, fits'.is_end.rate)) same in
      let node = (nodes_spelled network is).apart one.0 other.0 fits.is_node fits'.is_node parts.0 in
      λ i. (node i, parts.1 i);
}

-- ---- in any order

new_ends_more : (network : Network) (ends : List (ℕ × ℕ)) (end : ℕ × ℕ) → AreNewEnds network ends → IsNewEnd network ends end → AreNewEnds network (ends ++ end ∷ [])
new_ends_more network ends end are new = record {
  few = omega (arith, new.room, length-append ends (end ∷ []));
  within = All-push IsEnd ends end are.within new.is_end.is_end;
  distinct = own_key_more (λ (e : ℕ × ℕ). e.0) ends end are.distinct new.is_new;
  nodes = All-push (λ (e : ℕ × ℕ). IsNodeOf network e.0) ends end are.nodes new.is_end.is_node;
}

new_end_may_come : (network : Network) (ends : List (ℕ × ℕ)) (end : ℕ × ℕ) → AreNewEnds network (ends ++ end ∷ []) → IsNewEnd network ends end
new_end_may_come network ends end are = record {
  is_end = record { is_end = All-last IsEnd ends end are.within; is_node = All-last (λ (e : ℕ × ℕ). IsNodeOf network e.0) ends end are.nodes };
  is_new = own_key_new (λ (e : ℕ × ℕ). e.0) ends end are.distinct;
  room = omega (arith, are.few, length-append ends (end ∷ []));
}

pub new_ends_go_on : (network : Network) → IsNetwork network → (ends : List (ℕ × ℕ)) → AreNewEnds network ends → ListGoesOn (end_word network) (AreNewEnds network) (IsNewEnd network ends) ends
new_ends_go_on network is ends are =
    goes_on (IsEndOf network) (ends_spelled network is) (λ others fine k d below. record { is_end = fine.within k d below; is_node = fine.nodes k d below }) are
    (λ end. new_ends_more network ends end are) (new_end_may_come network ends)

pub new_ends_closed : (network : Network) → IsClosed (AreNewEnds network)
new_ends_closed network = record {
  front = λ xs ys some are. record {
    few = omega (arith, are.few, length-append xs ys);
    within = All-front IsEnd xs ys are.within;
    distinct = own_key_front (λ (e : ℕ × ℕ). e.0) xs ys are.distinct;
    nodes = All-front (λ (end : ℕ × ℕ). IsNodeOf network end.0) xs ys are.nodes;
  };
}
