-- What following a journal stands for, from what was read, what was followed and what was told.
use Rattle.std.proofs.Common.{◌≡◌, ◌≢◌, ◌∙◌, ◌⊎◌, inl, inr, ℕ, ◌+◌, ◌<◌, List, [], ◌++◌, length, length-append, append_assoc, append-nil, Option, Some, None, Result, Ok, Err, refl, sym, ap, subst, arith, All}
use Rattle.std.specs.Prelude.{⊤}
use Rattle.hose_io.specs.Frame.{Frame, Met, Stays}
use Rattle.hose_io.specs.Stream.{Gives, IsAtEnd, Stream}
use Rattle.hose_io.specs.declared.Failed.{Failed}
use Rattle.hose_io.proofs.Frames.{Rose-before}
use Rattle.hose_io.proofs.Streams.{Gives-nil}
use Rattle.hose_graph.specs.Network.{Network}
use Rattle.hose_disk.specs.Cabinet.{object_of}
use Rattle.hose_follow.specs.Packet.{BeginsNoPacket, IsPacket, IsPartOfPacket, Packet, packets_bytes}
use Rattle.hose_follow.specs.declared.following.FollowEnd.{FollowEnd}
use Rattle.hose_follow.specs.declared.following.FollowEnd.TheVariants as end
use Rattle.hose_follow.specs.declared.following.TheConstants.{INPUT_LIMIT}
use Rattle.hose_outside.specs.NamedOutcome.{NamedOutcome}
use Rattle.hose_outside.specs.Reading.{PricedNames, ReadsTopology}
use Rattle.hose_outside.specs.Ending.{IsLastLine, IsOut, NoneFailed, status_of_done}
use Rattle.hose_outside.specs.Fault.{last_line, status_of}
use Rattle.hose_copying.specs.FollowOutcome.{FollowOutcome, IsOfNoPackets, IsOfPackets, to_follow}
use Rattle.hose_copying.specs.Following.{HasFollowed, following_done}
use Rattle.hose_copying.specs.steps.Following.{FollowsJournal}
use Rattle.hose_outside.specs.steps.Journal.{TouchesOnly}
use Rattle.hose_outside.specs.Parts.{Parts, Tellings}
use Rattle.hose_outside.specs.Unopened.{OpensNoJournal, first_of}
use Rattle.hose_outside.specs.TopologyTold.{limit_of, notation_of}
use Rattle.hose_outside.specs.declared.fault.Fault.{Fault}
use Rattle.hose_outside.specs.declared.fault.Fault.TheVariants as fault
use Rattle.hose_outside.proofs.Named.{ReadsNothing, named_not_1, named_not_read, names_read, no_store}
use Rattle.hose_outside.proofs.TextsRead.{has_before, held_before}
use Rattle.hose_outside.proofs.Outcomes.{clash, too_long_at_8}
use Rattle.hose_copying.proofs.Packets.{no_packets}

-- ---- the input

-- an input of no more bytes than the limit gives no more
few_given : (old new : Option Stream) (bytes : List ℕ) → Gives old new bytes → (IsOfPackets old ⊎ IsOfNoPackets old) → INPUT_LIMIT < length bytes → ⊥
few_given (Some old) (Some new) bytes gives (inl told) long = omega (arith, told.1, long, ap length gives.left, length-append bytes new.left)
few_given (Some old) (Some new) bytes gives (inr told) long = omega (arith, told.1, long, ap length gives.left, length-append bytes new.left)
few_given (Some old) None bytes gives told long = gives
few_given None new bytes gives (inl told) long = told
few_given None new bytes gives (inr told) long = told

-- after its packets nothing is left that is none
all_packets : (old new : Option Stream) (packets : List Packet) (rest : List ℕ) → Gives old new (packets_bytes packets ++ rest) → IsOfPackets old → All IsPacket packets
    → BeginsNoPacket rest ⊎ ((rest ≢ []) × IsPartOfPacket rest × IsAtEnd new) → ⊥
all_packets (Some old) (Some new) packets rest gives told are ends =
    no_packets told.0.0 packets rest new.left told.0.1 are (sym told.0.2 ∙ (gives.left ∙ append_assoc (packets_bytes packets) rest new.left)) (at ends)
  where
    at : BeginsNoPacket rest ⊎ ((rest ≢ []) × IsPartOfPacket rest × IsAtEnd (Some new)) → BeginsNoPacket rest ⊎ ((rest ≢ []) × IsPartOfPacket rest × (new.left ≡ []))
    at (inl none) = inl none
    at (inr part) = inr (part.0, part.1, part.2)
all_packets (Some old) None packets rest gives told are ends = gives
all_packets None new packets rest gives told are ends = told

-- where all of it is packets it is an input of packets
none_left : (old new : Option Stream) (packets : List Packet) (rest : List ℕ) → Gives old new (packets_bytes packets ++ rest) → IsOfNoPackets old → All IsPacket packets → rest ≡ [] → IsAtEnd new → ⊥
none_left (Some old) (Some new) packets rest gives told are none at_end =
    told.0 packets are (gives.left ∙ (ap (λ (l : List ℕ). (packets_bytes packets ++ rest) ++ l) at_end ∙ (append-nil (packets_bytes packets ++ rest) ∙ (ap (λ (l : List ℕ). packets_bytes packets ++ l) none ∙ append-nil (packets_bytes packets)))))
none_left (Some old) None packets rest gives told are none at_end = gives
none_left None new packets rest gives told are none at_end = told

-- ---- statuses

never_0 : (why : Fault) → status_of why ≡ 0 → ⊥
never_0 (fault.Words word) is = omega (arith, is)
never_0 another is = omega (arith, is)

-- that the input was too long is told as its fault, whatever closing came to
long_end : (ended : FollowEnd) (closing : Result ⊤ Failed) → first_of (following_done ended) closing ≡ Err fault.TooLong → ended ≡ end.TooLong
long_end end.TooLong closing is = refl
long_end another (Ok done) is = cc is
long_end another (Err failed) is = cc is

long_status : (closing : Result ⊤ Failed) → status_of_done (first_of (following_done end.TooLong) closing) ≡ 8
long_status (Ok done) = refl
long_status (Err failed) = refl

followed_not_1 : (ended : FollowEnd) (closing : Result ⊤ Failed) → status_of_done (first_of (following_done ended) closing) ≡ 1 → ⊥
followed_not_1 end.End (Ok done) is = omega (arith, is)
followed_not_1 end.End (Err failed) is = omega (arith, is)
followed_not_1 another (Ok done) is = omega (arith, is)
followed_not_1 another (Err failed) is = omega (arith, is)

module _ {I O C E : Type 0} (tells : Tellings I O C E) (names : PricedNames) (before after : Parts I O C) where
  -- ---- no packet was answered

  pub not_followed : (why : Fault) (status : ℕ) → ReadsNothing tells names before after why → status ≡ status_of why → IsOut tells.sink before.output after.output (last_line why) → after.input ≡ before.input → FollowOutcome tells names before after status
  not_followed why status reads is out untouched = by (named_not_read tells names before after (to_follow tells names before after) why status reads is out untouched untouched)
    where
      back : (outcome : NamedOutcome tells names before after (to_follow tells names before after) status) → (limit_of (notation_of names.topology) < length outcome.takes.0) ⊎ (INPUT_LIMIT < 0) → status ≡ 8
      back outcome (inl long) = outcome.takes.3.1 long
      back outcome (inr long) = absurd (omega (arith, long))

      cut : (status ≡ 0) ⊎ (status ≡ 7) → (status ≡ 11) ⊎ (status ≡ 7)
      cut (inl zero) = absurd (never_0 why (sym is ∙ zero))
      cut (inr seven) = inr seven

      by : NamedOutcome tells names before after (to_follow tells names before after) status → FollowOutcome tells names before after status
      by outcome = record {
        text = outcome.takes.0;
        left = outcome.left;
        gives_text = outcome.takes.1;
        text_limit = outcome.takes.2;
        taken = [];
        gives = subst (λ (i : I). Gives (tells.source.content before.input) (tells.source.content i) []) (sym untouched) (Gives-nil (tells.source.content before.input));
        limit = omega arith;
        too_long = ((λ at_8. inl (outcome.takes.3.0 at_8)), back outcome);
        named = outcome.named;
        complete = λ set packets. outcome.complete set.servable set.journal_is set.held;
        no_packets = λ set none. cut (outcome.complete set.servable set.journal_is set.held);
      }

  -- ---- the input was followed

  module _ (left : O) (status : ℕ) (network : Network) (stays : Stays (tells.sink.frame left) (tells.sink.frame after.output)) where
    abbrev Followed : FollowEnd → Result ⊤ Failed → Type 0
    Followed ended closing = HasFollowed tells names.journal before (record after { output = left }) network ended closing

    -- without a call that failed it was read to its end, or to what is no packet, or memory was
    -- wanting
    abbrev EndsWell : FollowEnd → Type 0
    EndsWell ended = ((status ≡ 0) × (ended ≡ end.End))
        ⊎ (((status ≡ 11) × ((at : ℕ) × (ended ≡ end.Packet at))) ⊎ (status ≡ 7))

    ends_well : (ended : FollowEnd) (closing : Result ⊤ Failed) → Followed ended closing → status ≡ status_of_done (first_of (following_done ended) closing) → NoneFailed tells before after (to_follow tells names before after).OthersHeld
        → (IsOfPackets (tells.source.content before.input) ⊎ IsOfNoPackets (tells.source.content before.input)) → EndsWell ended
    ends_well end.End (Ok done) has is held told = inl (is, refl)
    ends_well end.End (Err failed) has is held told = absurd (held.keeping_it (has.met.failed refl))
    ends_well (end.Packet at) (Ok done) has is held told = inr (inl (is, (at, refl)))
    ends_well (end.Packet at) (Err failed) has is held told = inr (inl (is, (at, refl)))
    ends_well end.Read closing has is held told = absurd (held.others has.follows.input.1.rose)
    ends_well end.Write closing has is held told = absurd (held.writing (Rose-before (tells.sink.frame before.output) (tells.sink.frame left) (tells.sink.frame after.output) has.follows.output.1.rose stays))
    ends_well end.TooLong closing has is held told = absurd (few_given _ _ _ has.follows.gives told (has.follows.too_long.0 refl))
    ends_well end.Memory (Ok done) has is held told = inr (inr is)
    ends_well end.Memory (Err failed) has is held told = inr (inr is)

    completes : (ended : FollowEnd) (closing : Result ⊤ Failed) → Followed ended closing → IsOfPackets (tells.source.content before.input) → EndsWell ended → (status ≡ 0) ⊎ (status ≡ 7)
    completes ended closing has told (inl (zero, at_end)) = inl zero
    completes (end.Packet byte) closing has told (inr (inl (eleven, (at, is)))) = absurd (all_packets _ _ has.follows.packets has.follows.rest has.follows.gives told has.follows.are has.follows.input.1)
    completes another closing has told (inr (inl (eleven, (at, is)))) = cc is
    completes ended closing has told (inr (inr seven)) = inr seven

    cuts : (ended : FollowEnd) (closing : Result ⊤ Failed) → Followed ended closing → IsOfNoPackets (tells.source.content before.input) → EndsWell ended → (status ≡ 11) ⊎ (status ≡ 7)
    cuts end.End closing has told (inl (zero, at_end)) = absurd (none_left _ _ has.follows.packets has.follows.rest has.follows.gives told has.follows.are has.follows.input.0 has.follows.input.1)
    cuts another closing has told (inl (zero, at_end)) = cc at_end
    cuts ended closing has told (inr (inl (eleven, (at, is)))) = inl eleven
    cuts ended closing has told (inr (inr seven)) = inr seven

    module _ (read : C) (reads : ReadsTopology tells.cabinet before.cabinet read names.prices names.topology (Ok network)) (alone : TouchesOnly tells.cabinet names.journal read after.cabinet) where
      followed_before : (ended : FollowEnd) (closing : Result ⊤ Failed) → HasFollowed tells names.journal (record before { cabinet = read }) (record after { output = left }) network ended closing → Followed ended closing
      followed_before ended closing has = record {
        since = has.since;
        history = has.history;
        begun = held_before tells.cabinet tells.disk before.cabinet read after.cabinet reads.only_texts names.journal _ has.begun;
        follows = record {
          packets = has.follows.packets;
          rest = has.follows.rest;
          answers = has.follows.answers;
          gives = has.follows.gives;
          are = has.follows.are;
          answered = has.follows.answered;
          of_leaders = has.follows.of_leaders;
          begins = has.follows.begins;
          sound = has.follows.sound;
          input = has.follows.input;
          output = has.follows.output;
          limit = has.follows.limit;
          too_long = has.follows.too_long;
          memory = has.follows.memory;
        };
        disks = has.disks;
        met = subst (λ (f : Frame). Met f (object_of (tells.cabinet.frame after.cabinet)) closing) reads.text.1 has.met;
        left = has_before tells.cabinet tells.disk before.cabinet read after.cabinet reads.only_texts names.journal _ has.left;
      }

      followed : (ended : FollowEnd) (closing : Result ⊤ Failed) → Followed ended closing → status ≡ status_of_done (first_of (following_done ended) closing) → IsLastLine tells.sink left after.output (first_of (following_done ended) closing) → FollowOutcome tells names before after status
      followed ended closing has is out = record {
        text = reads.taken;
        left = reads.left;
        gives_text = reads.gives;
        text_limit = reads.limit;
        taken = packets_bytes has.follows.packets ++ has.follows.rest;
        gives = has.follows.gives;
        limit = has.follows.limit;
        too_long = ((λ at_8. inr (has.follows.too_long.0 (long_end ended closing (too_long_at_8 (first_of (following_done ended) closing) (sym is ∙ at_8))))), back);
        named = names_read tells names before after (to_follow tells names before after) read network status reads alone
            (record { left = left; done = first_of (following_done ended) closing; leaves = (ended, closing, has, refl); last_line = out; is_status = is })
            (λ told held. absurd (clash tells.cabinet tells.disk before.cabinet after.cabinet names.journal _ _ (λ image history none. none has.since history) has.begun told));
        complete = λ set told. completes ended closing has told (ends_well ended closing has is set.held (inl told));
        no_packets = λ set told. cuts ended closing has told (ends_well ended closing has is set.held (inr told));
      }
        where
          back : (limit_of (notation_of names.topology) < length reads.taken) ⊎ (INPUT_LIMIT < length (packets_bytes has.follows.packets ++ has.follows.rest)) → status ≡ 8
          back (inl long) = absurd (cc (reads.too_long.1 long))
          back (inr long) =
              is ∙ (ap (λ (e : FollowEnd). status_of_done (first_of (following_done e) closing)) (has.follows.too_long.1 long) ∙ long_status closing)

      pub is_followed : (done : Result ⊤ Fault) → FollowsJournal tells names.journal (record before { cabinet = read }) (record after { output = left }) network done → status ≡ status_of_done done → IsLastLine tells.sink left after.output done → FollowOutcome tells names before after status
      is_followed done (inl (not, untouched, same)) is out = at done not is out
        where
          at : (one : Result ⊤ Fault) → OpensNoJournal tells.cabinet tells.disk names.journal read after.cabinet network one → status ≡ status_of_done one → IsLastLine tells.sink left after.output one → FollowOutcome tells names before after status
          at (Ok value) not is out = absurd not
          at (Err why) not is out = not_followed why status (no_store tells names before after read network why reads alone not) is (subst (λ (o : O). IsOut tells.sink o after.output (last_line why)) same out) untouched
      is_followed done (inr (ended, closing, has, told)) is out =
          followed ended closing (followed_before ended closing has) (is ∙ ap status_of_done told) (subst (IsLastLine tells.sink left after.output) told out)

  -- the words are not what is wrong
  pub follow_not_1 : (status : ℕ) → FollowOutcome tells names before after status → status ≢ 1
  follow_not_1 status outcome = named_not_1 tells names before after (to_follow tells names before after) outcome.left status
      (λ network told one. followed_not_1 told.leaves.0 told.leaves.1 (sym (told.is_status ∙ ap status_of_done told.leaves.3) ∙ one)) outcome.named.ends
