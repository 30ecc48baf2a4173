-- One run that meets all that `law_standby` supposes: what its host leads by, what its follower
-- answers, and all of it together.
use Rattle.std.proofs.Common.{◌≡◌, ◌≢◌, ◌∙◌, inl, inr, ℕ, zero, suc, ◌<◌, Bool, List, [], ◌∷◌, ◌++◌, All, None, Option, Some, length, replicate, refl, sym, ap, arith, append-nil}
use Rattle.std.specs.List.{flat_map}
use Rattle.std.proofs.lemmas.List.Elements.{All-cons, All-nil}
use Rattle.hose_graph.specs.Network.{Network}
use Rattle.hose_graph.specs.declared.entry.Entry.{Entry}
use Rattle.hose_law.proofs.Epochs.{epoch_is}
use Rattle.hose_book.specs.declared.books.Committed.TheVariants as committed
use Rattle.hose_codec.specs.Spelling.{IsEntry}
use Rattle.hose_codec.proofs.Entries.{length-spelling}
use Rattle.hose_disk.specs.declared.disk.Disk.{Ghosts}
use Rattle.hose_journal.specs.Chain.{chain}
use Rattle.hose_store.specs.Recovery.{digest_of}
use Rattle.hose_store.specs.steps.Store.{HasHistory, KeptStore}
use Rattle.hose_store.proofs.OneMeaning.{digest_size}
use Rattle.hose_follow.specs.Answers.{answer_line, offered_text, offered_texts}
use Rattle.hose_follow.specs.Packet.{IsPacket, Packet, packet_bytes, packets_bytes}
use Rattle.hose_follow.specs.Replication.{IsLeader, packet_at}
use Rattle.hose_follow.specs.steps.Replication.{IsReopened}
use Rattle.hose_follow.specs.steps.Offering.{Enters, IsOffered, epoch_of}
use Rattle.hose_follow.specs.declared.answers.Offered.{Offered}
use Rattle.hose_follow.specs.declared.answers.Offered.TheVariants.{Differs, Have, Want}
use Rattle.hose_lead.specs.Leading.{AnswersBehind, BeginWith, IsCompared, IsHeard, IsValueAt, Leads, Offers, TellsEpoch, ask_epoch, ask_have, ask_value, no_value, asked_again, both_probes, entry_more, first_probe, nothing_yet, probed, with_entries}
use Rattle.hose_pair.specs.steps.Meeting.{IsMet}
use Rattle.hose_pair.specs.steps.Written.{IsValue, IsWritten}
use Rattle.hose_pair.proofs.Asked.{order}
use Rattle.hose_pair.proofs.Lines.{NoFeed, no_feed}
use Rattle.hose_pair.proofs.Ran.{about_met, given_more, met, sent_more}
use Rattle.hose_pair.proofs.Values.{chain_value}

-- ---- lists

begin : (given : List ℕ) (lines : List (List ℕ)) → given ≡ flat_map (λ (each : List ℕ). each ++ 10 ∷ []) lines → All NoFeed lines → BeginWith given lines
begin given lines same plain = record { rest = []; cut = same ∙ sym (append-nil (flat_map (λ (each : List ℕ). each ++ 10 ∷ []) lines)); plain = plain }

zero_small : (n : ℕ) → All (λ (byte : ℕ). byte < 256) (replicate n 0)
zero_small zero = All-nil (λ (byte : ℕ). byte < 256)
zero_small (suc n) = All-cons (λ (byte : ℕ). byte < 256) 0 (replicate n 0) (omega arith) (zero_small n)

no_entries : (list : List Entry) → length list ≡ 0 → list ≡ []
no_entries [] none = refl
no_entries (entry ∷ list) none = absurd (omega (arith, none))

pub is_order : IsEntry order
is_order = omega arith

module _ (network : Network) where
  abbrev pub value : List ℕ
  value = digest_of network

  abbrev pub first_packet : Packet
  first_packet = packet_at network (order ∷ []) 0 order

  abbrev o1 : Offered
  o1 = Want 1

  abbrev o2 : Offered
  o2 = Differs 0 value no_value

  abbrev o3 : Offered
  o3 = Have 0

  abbrev o4 : Offered
  o4 = Have 1

  -- ---- what is written

  w1 : IsWritten o1
  w1 = omega arith

  is_value : IsValue value
  is_value = chain_value network []

  w2 : IsWritten o2
  w2 = (omega arith, is_value, (refl, zero_small 32))

  w3 : IsWritten o3
  w3 = omega arith

  w4 : IsWritten o4
  w4 = omega arith

  probe_is : (epoch : ℕ) → epoch < 4294967296 → IsPacket (record { epoch = epoch; chain = no_value; body = 0 ∷ [] })
  probe_is epoch small = record { epoch = small; chain = refl; some = omega arith; few = omega arith }

  a1 : IsPacket ask_epoch
  a1 = probe_is 4294967295 (omega arith)

  a2 : IsPacket (ask_value 0)
  a2 = probe_is 1 (omega arith)

  a3 : IsPacket ask_have
  a3 = probe_is 0 (omega arith)

  a4 : IsPacket first_packet
  a4 = let spelled = length-spelling order is_order in record { epoch = omega arith; chain = digest_size network; some = omega arith; few = omega (arith, spelled) }

  -- ---- what the link gave

  abbrev t1 : List ℕ
  t1 = offered_text o1

  abbrev t2 : List ℕ
  t2 = offered_text o2

  abbrev t3 : List ℕ
  t3 = offered_text o3

  abbrev t4 : List ℕ
  t4 = offered_text o4

  n1 : NoFeed t1
  n1 = no_feed o1 w1

  n2 : NoFeed t2
  n2 = no_feed o2 w2

  n3 : NoFeed t3
  n3 = no_feed o3 w3

  n4 : NoFeed t4
  n4 = no_feed o4 w4

  abbrev l1 : List (List ℕ)
  l1 = t1 ∷ []

  abbrev l2 : List (List ℕ)
  l2 = t1 ∷ t2 ∷ []

  abbrev l3 : List (List ℕ)
  l3 = t1 ∷ t2 ∷ t3 ∷ []

  abbrev l4 : List (List ℕ)
  l4 = t1 ∷ t2 ∷ t3 ∷ t4 ∷ []

  abbrev given2 : List ℕ
  given2 = answer_line o1 ++ answer_line o2

  abbrev given3 : List ℕ
  given3 = given2 ++ answer_line o3

  abbrev given4 : List ℕ
  given4 = given3 ++ answer_line o4

  r1 : answer_line o1 ≡ offered_texts (o1 ∷ [])
  r1 = given_more [] o1 [] refl

  r2 : given2 ≡ offered_texts (o1 ∷ o2 ∷ [])
  r2 = given_more (o1 ∷ []) o2 (answer_line o1) r1

  r3 : given3 ≡ offered_texts (o1 ∷ o2 ∷ o3 ∷ [])
  r3 = given_more (o1 ∷ o2 ∷ []) o3 given2 r2

  r4 : given4 ≡ offered_texts (o1 ∷ o2 ∷ o3 ∷ o4 ∷ [])
  r4 = given_more (o1 ∷ o2 ∷ o3 ∷ []) o4 given3 r3

  b1 : BeginWith (answer_line o1) l1
  b1 = begin (answer_line o1) l1 r1 (All-cons NoFeed t1 [] n1 (All-nil NoFeed))

  b2 : BeginWith given2 l2
  b2 = begin given2 l2 r2 (All-cons NoFeed t1 (t2 ∷ []) n1 (All-cons NoFeed t2 [] n2 (All-nil NoFeed)))

  b3 : BeginWith given3 l3
  b3 = begin given3 l3 r3 (All-cons NoFeed t1 (t2 ∷ t3 ∷ []) n1 (All-cons NoFeed t2 (t3 ∷ []) n2 (All-cons NoFeed t3 [] n3 (All-nil NoFeed))))

  b4 : BeginWith given4 l4
  b4 = begin given4 l4 r4 (All-cons NoFeed t1 (t2 ∷ t3 ∷ t4 ∷ []) n1 (All-cons NoFeed t2 (t3 ∷ t4 ∷ []) n2 (All-cons NoFeed t3 (t4 ∷ []) n3 (All-cons NoFeed t4 [] n4 (All-nil NoFeed)))))

  -- ---- what it was sent

  abbrev sent2 : List ℕ
  sent2 = packet_bytes ask_epoch ++ packet_bytes (ask_value 0)

  abbrev sent3 : List ℕ
  sent3 = sent2 ++ packet_bytes ask_have

  abbrev sent4 : List ℕ
  sent4 = sent3 ++ packet_bytes first_packet

  abbrev d2 : List Packet
  d2 = ask_epoch ∷ ask_value 0 ∷ []

  abbrev d3 : List Packet
  d3 = ask_epoch ∷ ask_value 0 ∷ ask_have ∷ []

  abbrev d4 : List Packet
  d4 = ask_epoch ∷ ask_value 0 ∷ ask_have ∷ first_packet ∷ []

  q1 : packet_bytes ask_epoch ≡ packets_bytes (ask_epoch ∷ [])
  q1 = sent_more [] ask_epoch [] refl

  q2 : sent2 ≡ packets_bytes d2
  q2 = sent_more (ask_epoch ∷ []) (ask_value 0) (packet_bytes ask_epoch) q1

  q3 : sent3 ≡ packets_bytes d3
  q3 = sent_more d2 ask_have sent2 q2

  q4 : sent4 ≡ packets_bytes d4
  q4 = sent_more d3 first_packet sent3 q3

  whole : (packets : List Packet) (sent : List ℕ) → sent ≡ packets_bytes packets → sent ++ [] ≡ packets_bytes packets
  whole packets sent same = append-nil sent ∙ same

  -- ---- what it leads by

  value_at : (list : List Entry) → IsValueAt network list 0 value
  value_at list = record { within = omega arith; is = refl }

  compared2 : (list : List Entry) → IsCompared network list l2 0
  compared2 list = record { own = value; same = value_at list; told = (1, omega arith, refl) }

  compared3 : (list : List Entry) → IsCompared network list l3 0
  compared3 list = record { own = value; same = value_at list; told = (1, omega arith, refl) }

  heard_none : IsHeard network [] l3 0
  heard_none = record { earlier = l2; later = t3 ∷ []; split = refl; start = 0; compared = compared2 []; told = (0, omega arith, refl); within = omega arith }

  heard_one : IsHeard network (order ∷ []) l4 1
  heard_one = record { earlier = l3; later = t4 ∷ []; split = refl; start = 0; compared = compared3 (order ∷ []); told = (0, omega arith, refl); within = omega arith }

  asked : (list : List Entry) → Offers network list 0 0 d3
  asked list = asked_again probed

  entered : Offers network (order ∷ []) 0 1 d4
  entered = entry_more order (asked (order ∷ [])) refl

  tells : (lines : List (List ℕ)) → TellsEpoch (t1 ∷ lines) 0
  tells lines = (0, omega arith, refl)

  first : Leads network [] [] (packet_bytes ask_epoch) None
  first = record { lines = []; whole = begin [] [] refl (All-nil NoFeed); packets = ask_epoch ∷ []; unsent = []; handed = whole (ask_epoch ∷ []) (packet_bytes ask_epoch) q1; are = first_probe; has = tt }

  second : Leads network [] (answer_line o1) sent2 None
  second = record { lines = l1; whole = b1; packets = d2; unsent = []; handed = whole d2 sent2 q2; are = both_probes 0 (tells []); has = tt }

  third : Leads network [] given2 sent3 None
  third = record { lines = l2; whole = b2; packets = d3; unsent = []; handed = whole d3 sent3 q3; are = with_entries 0 0 d3 (tells (t2 ∷ [])) (compared2 []) (asked []); has = tt }

  has_none : Leads network [] given3 sent3 (Some 0)
  has_none = record { lines = l3; whole = b3; packets = d3; unsent = []; handed = whole d3 sent3 q3; are = with_entries 0 0 d3 (tells (t2 ∷ t3 ∷ [])) (compared3 []) (asked []); has = heard_none }

  behind_none : AnswersBehind network [] given3 []
  behind_none = record { told = []; first = []; are = nothing_yet; rest = []; within = refl; lines = l3; whole = b3; more = omega arith }

  fourth : Leads network (order ∷ []) given3 sent4 None
  fourth = record { lines = l3; whole = b3; packets = d4; unsent = []; handed = whole d4 sent4 q4; are = with_entries 0 1 d4 (tells (t2 ∷ t3 ∷ [])) (compared3 (order ∷ [])) entered; has = tt }

  has_one : Leads network (order ∷ []) given4 sent4 (Some 1)
  has_one = record { lines = l4; whole = b4; packets = d4; unsent = []; handed = whole d4 sent4 q4; are = with_entries 0 1 d4 (tells (t2 ∷ t3 ∷ t4 ∷ [])) (record { own = value; same = value_at (order ∷ []); told = (1, omega arith, refl) }) entered; has = heard_one }

  behind_order : AnswersBehind network (order ∷ []) given4 sent3
  behind_order = record { told = l3; first = d3; are = with_entries 0 0 d3 (tells (t2 ∷ t3 ∷ [])) (compared3 (order ∷ [])) (asked (order ∷ [])); rest = []; within = whole d3 sent3 q3; lines = l4; whole = b4; more = omega arith }

  leader : 0 < length network.links → IsLeader network (order ∷ [])
  leader some = record { sound = ((omega arith, (some, refl)), tt); spelled = All-cons IsEntry order [] is_order (All-nil IsEntry) }

  -- ---- what the follower answers

  module _ {D : Type 0} (disk : Ghosts D) (store : KeptStore D) (is_network : store.ledger.network ≡ network) (has : HasHistory disk store [] None) where
    epoch : epoch_of store ≡ 0
    epoch = epoch_is store.ledger.book [] has.book

    pub own_value : (history : List Entry) (doubt : Option Entry) → HasHistory disk store history doubt → value ≡ chain (digest_of store.ledger.network) history
    own_value history doubt is =
        let none = no_entries history (sym (epoch_is store.ledger.book history is.book) ∙ epoch) in
        ap digest_of (sym is_network) ∙ ap (chain (digest_of store.ledger.network)) (sym none)

    f1 : IsOffered disk store ask_epoch o1 store
    f1 = (omega (arith, epoch), omega (arith, epoch), refl)

    f2 : value ≢ no_value → IsOffered disk store (ask_value 0) o2 store
    f2 differs = (record { epoch = omega (arith, epoch); at = sym epoch; own = own_value; given = refl; differs = λ same. differs (sym same) }, refl)

    f3 : IsOffered disk store ask_have o3 store
    f3 = inl (record { past = omega (arith, epoch); own = sym epoch; same = refl })

    f4 : (left : KeptStore D) → Enters disk store first_packet order committed.Done left → IsOffered disk store first_packet o4 left
    f4 left enters = inr (order, refl, enters)

-- ---- all of it

-- For each network with a link, whose digest is not 32 bytes of 0, and each follower's store of it
-- without an order that enters the first one: a run that meets each premise of `law_standby`.
pub met_by : (network : Network) (path : List ℕ) (may required : Bool) → 0 < length network.links → digest_of network ≢ no_value → {D : Type 0} (disk : Ghosts D) (store left : KeptStore D) → store.ledger.network ≡ network → HasHistory disk store [] None
    → Enters disk store (first_packet network) order committed.Done left → (image last : List ℕ) (next : KeptStore D) → disk.may_leave left.journal.disk image → IsReopened disk network image next → disk.may_leave next.journal.disk last → IsMet (about_met network path may required) disk
met_by network path may required some differs disk store left is_network has enters image last next leaves opened rests =
    met network path may required ask_epoch (ask_value 0) ask_have (first_packet network) (Want 1) (Differs 0 (digest_of network) no_value) (Have 0) (Have 1) some
    (record {
      first = first network;
      second = second network;
      third = third network;
      has_none = has_none network;
      behind_none = behind_none network;
      fourth = fourth network;
      has_one = has_one network;
      behind_order = behind_order network;
    }) disk store left is_network has (a1 network) (a2 network) (a3 network) (a4 network) (w1 network) (w2 network) (w3 network) (w4 network)
    (f1 network disk store is_network has) (f2 network disk store is_network has differs) (f3 network disk store is_network has) (f4 network disk store is_network has left enters)
    image last next (leader network some) leaves opened rests
