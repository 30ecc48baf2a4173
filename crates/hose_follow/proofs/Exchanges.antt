-- Exchanges of following an input, one after another.
use Rattle.std.proofs.Common.{◌≡◌, ◌≢◌, ◌⊎◌, ◌∙◌, ℕ, ◌+◌, ◌-◌, ◌≤◌, ◌<◌, ◌^◌, List, [], ◌∷◌, ◌++◌, Option, None, Some, Ok, Err, length, drop, take, refl, sym, ap, subst, inl, inr, arith, append_assoc, append-nil, length-append}
use Rattle.std.specs.Prelude.{⊤}
use Rattle.std.specs.List.{flat_map}
use Rattle.std.proofs.lemmas.Grind.{flat_map-append}
use Rattle.std.proofs.lemmas.List.{drop_at}
use Rattle.std.proofs.lemmas.List.Elements.{All-nil, All-push}
use Rattle.hose_io.specs.Frame.{Frame, Stays}
use Rattle.hose_io.specs.Stream.{Gives, Grows, IsAtEnd, Stream}
use Rattle.hose_io.proofs.Frames.{Stays-none, Stays-next, Stays-same}
use Rattle.hose_io.proofs.Streams.{Grows-append, Grows-nil}
use Rattle.hose_disk.specs.Disk.{object_frame}
use Rattle.hose_disk.specs.declared.disk.Disk.{Ghosts as DiskGhosts}
use Rattle.hose_store.specs.steps.Store.{KeptStore}
use Rattle.hose_follow.specs.Answers.{TellsDiskAnswers, answer_line, offered_texts, disk_answers_in, one_if_disk_failed}
use Rattle.hose_follow.specs.steps.Arriving.{BeginsPacket}
use Rattle.hose_follow.specs.Ends.{AllLinesOut, InputEnds, IsAskedLast, OutputEnds}
use Rattle.hose_follow.specs.steps.Ends.{FollowsInput}
use Rattle.hose_follow.specs.Follower.{Faulted}
use Rattle.hose_follow.specs.steps.Follower.{FollowerTellings}
use Rattle.hose_follow.specs.steps.Offering.{AreOffered, IsOffered, none_yet, packet_more}
use Rattle.hose_follow.specs.Packet.{BeginsNoPacket, IsPacket, IsPartOfPacket, Packet, packet_bytes, packets_bytes}
use Rattle.hose_follow.specs.steps.Exchanging.{AdvancesTo, AnswersPending, FollowState, FollowsOn, TakesMoreBytes, TouchesNone, follower_of}
use Rattle.hose_follow.specs.declared.answers.Offered.{Offered}
use Rattle.hose_follow.specs.declared.answers.Offered.TheVariants.{Have, Want, Differs, Memory, Unsound, Disk}
use Rattle.hose_follow.specs.declared.following.FollowEnd.{FollowEnd}
use Rattle.hose_follow.specs.declared.following.FollowEnd.TheVariants.{End, Packet as BadPacket, Read, Write, TooLong, Memory as NoMemory}
use Rattle.hose_io.proofs.Streams.{Gives-nil}
use Rattle.hose_follow.proofs.Splits.{length-packet}

-- ---- bytes

pub gives_then : (old mid new : Option Stream) (one two : List ℕ) → Gives old mid one → Gives mid new two → Gives old new (one ++ two)
gives_then None None None one two p q = tt
gives_then None None (Some new) one two p q = q
gives_then None (Some mid) new one two p q = absurd p
gives_then (Some old) None new one two p q = absurd p
gives_then (Some old) (Some mid) None one two p q = absurd q
gives_then (Some old) (Some mid) (Some new) one two p q = record {
  taken = q.taken ∙ ap (λ (l : List ℕ). l ++ two) p.taken ∙ append_assoc old.taken one two;
  left = p.left ∙ ap (λ (l : List ℕ). one ++ l) q.left ∙ sym (append_assoc one two new.left);
}

-- the text of one item more
last_of : {X : Type 0} (f : X → List ℕ) (xs : List X) (x : X) → flat_map f (xs ++ x ∷ []) ≡ flat_map f xs ++ f x
last_of f xs x = flat_map-append f xs (x ∷ []) ∙ ap (λ (l : List ℕ). flat_map f xs ++ l) (append-nil (f x))

-- what is behind a packet that was passed
passed : (pending after rest : List ℕ) (packet : Packet) (size : ℕ) → BeginsPacket pending packet rest → size ≡ 38 + length packet.body → after ≡ drop size pending → after ≡ rest
passed pending after rest packet size begins is_size is =
    is ∙ ap (λ (l : List ℕ). drop size l) begins.is ∙ drop_at (packet_bytes packet) rest size (length-packet packet begins.is_packet ∙ sym is_size)

module _ {D : Type 0} (disk : DiskGhosts D) where
  abbrev frame_of : KeptStore D → Frame
  frame_of store = object_frame (disk.frame store.journal.disk)

  -- an answer tells a failure of the disk only where its count rose
  pub record Tells (old : KeptStore D) (answer : Offered) (new : KeptStore D) : Type 0 where
    pub stays : Stays (frame_of old) (frame_of new)
    pub rose : ((disk.frame old.journal.disk).faults + one_if_disk_failed answer ≤ (disk.frame new.journal.disk).faults) ⊎ (2 ^ 64 - 1 ≤ (disk.frame new.journal.disk).faults)

  kept : (old new : KeptStore D) (answer : Offered) → one_if_disk_failed answer ≡ 0 → frame_of new ≡ frame_of old → Tells old answer new
  kept old new answer none same = record {
    stays = Stays-same same;
    rose = inl (omega (arith, none, ap (λ (f : Frame). f.faults) same));
  }

  same_store : (old new : KeptStore D) → new ≡ old → frame_of new ≡ frame_of old
  same_store old new same = ap frame_of same

  answer_tells : (old new : KeptStore D) (packet : Packet) (answer : Offered) → IsOffered disk old packet answer new → Tells old answer new
  answer_tells old new packet (Have n) (inl past) = kept old new (Have n) refl (same_store old new past.same)
  answer_tells old new packet (Have n) (inr (entry, _, enters)) = kept old new (Have n) refl enters.met
  answer_tells old new packet (Want n) offered = kept old new (Want n) refl (same_store old new offered.2)
  answer_tells old new packet (Differs at own given) offered = kept old new (Differs at own given) refl (same_store old new offered.1)
  answer_tells old new packet Memory offered = kept old new Memory refl (same_store old new offered.2)
  answer_tells old new packet (Unsound epoch) offered = kept old new (Unsound epoch) refl (same_store old new offered.3)
  answer_tells old new packet (Disk at) (entry, _, enters) = record { stays = enters.met.0; rose = grind (arith, enters.met.1.rose) }

  disks_push : (answers : List Offered) (answer : Offered) → disk_answers_in (answers ++ answer ∷ []) ≡ disk_answers_in answers + one_if_disk_failed answer
  disks_push [] answer = omega arith
  disks_push (first ∷ answers) answer = omega (arith, disks_push answers answer)

  told_more : (first mid new : KeptStore D) (answers : List Offered) (answer : Offered) → TellsDiskAnswers (disk.frame first.journal.disk).faults answers (disk.frame mid.journal.disk).faults → Tells mid answer new
      → TellsDiskAnswers (disk.frame first.journal.disk).faults (answers ++ answer ∷ []) (disk.frame new.journal.disk).faults
  told_more first mid new answers answer (inl before) more = grind (arith, before, more.rose, disks_push answers answer)
  told_more first mid new answers answer (inr full) more = inr (omega (arith, full, more.stays.never_falls))

module _ {S O D : Type 0} (tells : FollowerTellings S O D) where
  -- ---- exchanges

  -- a packet that was offered, passed and answered
  pub answers_with : (old new : FollowState S O D) (puts : List ℕ → Type 0) (packet : Packet) (shown rest : List ℕ) (size : ℕ) (answer : Offered) → shown ≡ old.input.pending → BeginsPacket shown packet rest → size ≡ 38 + length packet.body
      → new.input.pending ≡ drop size old.input.pending → IsOffered tells.disk old.store packet answer new.store → puts (answer_line answer) → new.input.source ≡ old.input.source → new.input.taken ≡ old.input.taken → AnswersPending tells old new puts
  answers_with old new puts packet shown rest size answer same starts is_size is offered out same_source same_taken =
      let begins = subst (λ (l : List ℕ). BeginsPacket l packet rest) same starts in
      record {
        packet = packet;
        rest = rest;
        begins = begins;
        pending_is = passed old.input.pending new.input.pending rest packet size begins is_size is;
        answer = answer;
        offered = offered;
        out = out;
        same_source = same_source;
        same_taken = same_taken;
      }

  pub followed_none : (first : FollowState S O D) → first.input.pending ≡ [] → first.input.taken ≡ 0 → FollowsOn tells first first
  followed_none first none zero = record {
    bytes = [];
    gives = Gives-nil (tells.source.content first.input.source);
    packets = [];
    parts = sym none;
    are = All-nil IsPacket;
    answers = [];
    offered = none_yet;
    taken = zero;
    limit = omega (arith, zero);
    out = Grows-nil (tells.sink.content first.sink);
    asked = inl (refl, none);
    source_held = refl;
    sink_held = refl;
    stays = Stays-none (object_frame (tells.disk.frame first.store.journal.disk));
    disks = inl (omega arith);
  }

  -- ---- when the source was asked last

  nonempty : (pending rest : List ℕ) (packet : Packet) → BeginsPacket pending packet rest → pending ≢ []
  nonempty pending rest packet begins none =
      omega (arith, ap length none, ap length begins.is, length-append (packet_bytes packet) rest, length-packet packet begins.is_packet)

  -- before the first packet was there whole it was asked
  was_asked : (first now : FollowState S O D) (packets : List Packet) (rest : List ℕ) (packet : Packet) → BeginsPacket now.input.pending packet rest → ((packets ≡ []) × (now.input.pending ≡ [])) ⊎ IsAskedLast tells.source first.input.source now.input.source packets
      → IsAskedLast tells.source first.input.source now.input.source packets
  was_asked first now packets rest packet begins (inl none) = absurd (nonempty now.input.pending rest packet begins none.1)
  was_asked first now packets rest packet begins (inr asked) = asked

  -- one packet more was answered since
  asked_before : (first : FollowState S O D) (now next : S) (packets : List Packet) (packet : Packet) → next ≡ now → IsAskedLast tells.source first.input.source now packets → IsAskedLast tells.source first.input.source next (packets ++ packet ∷ [])
  asked_before first now next packets packet same asked = record {
    asked = asked.asked;
    first = asked.first;
    since = asked.since ++ packet ∷ [];
    are = ap (λ (l : List Packet). l ++ packet ∷ []) asked.are ∙ append_assoc asked.first asked.since (packet ∷ []);
    part = asked.part;
    gives = asked.gives;
    is_part = asked.is_part;
    went = subst (λ (s : S). tells.source.went asked.asked s) (sym same) asked.went;
  }

  -- the bytes with a packet more
  parts_more : (packets : List Packet) (packet : Packet) (bytes pending rest : List ℕ) → bytes ≡ packets_bytes packets ++ pending → pending ≡ packet_bytes packet ++ rest → bytes ≡ packets_bytes (packets ++ packet ∷ []) ++ rest
  parts_more packets packet bytes pending rest parts is =
      parts
      ∙ ap (λ (l : List ℕ). packets_bytes packets ++ l) is
      ∙ sym (append_assoc (packets_bytes packets) (packet_bytes packet) rest)
      ∙ ap (λ (l : List ℕ). l ++ rest) (sym (last_of packet_bytes packets packet))

  pub answered : (first now next : FollowState S O D) → FollowsOn tells first now → AnswersPending tells now next (Grows (tells.sink.content now.sink) (tells.sink.content next.sink)) → tells.sink.frame next.sink ≡ tells.sink.frame now.sink
      → FollowsOn tells first next
  answered first now next before exchange held =
      let told = answer_tells tells.disk now.store next.store exchange.packet exchange.answer exchange.offered in
      record {
        bytes = before.bytes;
        gives = subst (λ (s : S). Gives (tells.source.content first.input.source) (tells.source.content s) before.bytes) (sym exchange.same_source) before.gives;
        packets = before.packets ++ exchange.packet ∷ [];
        parts = parts_more before.packets exchange.packet before.bytes now.input.pending next.input.pending before.parts (exchange.begins.is ∙ ap (λ (l : List ℕ). packet_bytes exchange.packet ++ l) (sym exchange.pending_is));
        are = All-push IsPacket before.packets exchange.packet before.are exchange.begins.is_packet;
        answers = before.answers ++ exchange.answer ∷ [];
        offered = packet_more exchange.packet exchange.answer before.offered exchange.offered;
        taken = exchange.same_taken ∙ before.taken;
        limit = omega (arith, before.limit, exchange.same_taken);
        out = subst (λ (l : List ℕ). Grows (tells.sink.content first.sink) (tells.sink.content next.sink) l) (sym (last_of answer_line before.answers exchange.answer))
            (Grows-append (tells.sink.content first.sink) (tells.sink.content now.sink) (tells.sink.content next.sink) (offered_texts before.answers) (answer_line exchange.answer) before.out exchange.out);
        asked = inr (asked_before first now.input.source next.input.source before.packets exchange.packet exchange.same_source (was_asked first now before.packets exchange.rest exchange.packet exchange.begins before.asked));
        source_held = ap tells.source.frame exchange.same_source ∙ before.source_held;
        sink_held = held ∙ before.sink_held;
        stays = Stays-next before.stays told.stays;
        disks = told_more tells.disk first.store now.store next.store before.answers exchange.answer before.disks told;
      }

  pub took : (first now next : FollowState S O D) → FollowsOn tells first now → IsPartOfPacket now.input.pending → TakesMoreBytes tells.source now.input next.input → TouchesNone tells now next
      → FollowsOn tells first next
  took first now next before part more none = record {
    bytes = before.bytes ++ more.bytes;
    gives = gives_then (tells.source.content first.input.source) (tells.source.content now.input.source) (tells.source.content next.input.source) before.bytes more.bytes before.gives more.gives;
    packets = before.packets;
    parts =
        ap (λ (l : List ℕ). l ++ more.bytes) before.parts
        ∙ append_assoc (packets_bytes before.packets) now.input.pending more.bytes
        ∙ ap (λ (l : List ℕ). packets_bytes before.packets ++ l) (sym more.pending_is);
    are = before.are;
    answers = before.answers;
    offered = subst (λ (s : KeptStore D). AreOffered tells.disk first.store before.packets before.answers s) (sym none.same_store) before.offered;
    taken = omega (arith, more.taken_is, before.taken, length-append before.bytes more.bytes);
    limit = more.limit;
    out = subst (λ (s : O). Grows (tells.sink.content first.sink) (tells.sink.content s) (offered_texts before.answers)) (sym none.same_sink) before.out;
    asked = inr (record {
      asked = now.input.source;
      first = before.packets;
      since = [];
      are = sym (append-nil before.packets);
      part = now.input.pending;
      gives = subst (Gives (tells.source.content first.input.source) (tells.source.content now.input.source)) before.parts before.gives;
      is_part = part;
      went = more.went;
    });
    source_held = more.frame ∙ before.source_held;
    sink_held = ap tells.sink.frame none.same_sink ∙ before.sink_held;
    stays = subst (λ (s : KeptStore D). Stays (object_frame (tells.disk.frame first.store.journal.disk)) (object_frame (tells.disk.frame s.journal.disk))) (sym none.same_store) before.stays;
    disks = subst (λ (s : KeptStore D). TellsDiskAnswers (tells.disk.frame first.store.journal.disk).faults before.answers (tells.disk.frame s.journal.disk).faults) (sym none.same_store) before.disks;
  }

  pub exchanged : (first now next : FollowState S O D) (value : ⊤) → FollowsOn tells first now → AdvancesTo tells now next (Ok value) → FollowsOn tells first next
  exchanged first now next value before (inl (exchange, held)) = answered first now next before exchange held
  exchanged first now next value before (inr (part, more, none)) = took first now next before part more none

  -- ---- the end

  -- an end at which neither the sink nor the store was called, and these bytes more were given
  ends_at : (first now next : FollowState S O D) (end : FollowEnd) (before : FollowsOn tells first now) → TouchesNone tells now next → (more : List ℕ) → Gives (tells.source.content now.input.source) (tells.source.content next.input.source) more
      → InputEnds tells.source first.input.source next.input.source before.packets (now.input.pending ++ more) end → OutputEnds tells.sink first.sink next.sink before.answers end
      → length before.bytes + length more ≤ 2 ^ 30 + 1 → ((end ≡ TooLong) → 2 ^ 30 < length before.bytes + length more) → ((2 ^ 30 < length before.bytes + length more) → end ≡ TooLong) → end ≢ NoMemory
      → FollowsInput tells (follower_of first) (follower_of next) end
  ends_at first now next end before none more gives input output limit long_to to_long memory = record {
    bytes = before.bytes ++ more;
    gives = gives_then (tells.source.content first.input.source) (tells.source.content now.input.source) (tells.source.content next.input.source) before.bytes more before.gives gives;
    packets = before.packets;
    rest = now.input.pending ++ more;
    parts = ap (λ (l : List ℕ). l ++ more) before.parts ∙ append_assoc (packets_bytes before.packets) now.input.pending more;
    are = before.are;
    answers = before.answers;
    offered = subst (λ (s : KeptStore D). AreOffered tells.disk first.store before.packets before.answers s) (sym none.same_store) before.offered;
    input = input;
    output = output;
    limit = omega (arith, limit, length-append before.bytes more);
    too_long = (λ long. omega (arith, long_to long, length-append before.bytes more), λ above. to_long (omega (arith, above, length-append before.bytes more)));
    memory = λ is. absurd (memory is);
    stays = subst (λ (s : KeptStore D). Stays (object_frame (tells.disk.frame first.store.journal.disk)) (object_frame (tells.disk.frame s.journal.disk))) (sym none.same_store) before.stays;
    disks = subst (λ (s : KeptStore D). TellsDiskAnswers (tells.disk.frame first.store.journal.disk).faults before.answers (tells.disk.frame s.journal.disk).faults) (sym none.same_store) before.disks;
  }

  -- all lines are out
  all_out : (first now next : FollowState S O D) (before : FollowsOn tells first now) → TouchesNone tells now next → AllLinesOut tells.sink first.sink next.sink before.answers
  all_out first now next before none = (
    subst (λ (s : O). Grows (tells.sink.content first.sink) (tells.sink.content s) (offered_texts before.answers)) (sym none.same_sink) before.out,
    ap tells.sink.frame none.same_sink ∙ before.sink_held,
  )

  at_place : (packets : List Packet) (bytes pending : List ℕ) (taken at : ℕ) → bytes ≡ packets_bytes packets ++ pending → taken ≡ length bytes → at ≡ taken - length pending → at ≡ length (packets_bytes packets)
  at_place packets bytes pending taken at parts is is_at = omega (arith, is, is_at, ap length parts, length-append (packets_bytes packets) pending)

  low : (first now : FollowState S O D) (before : FollowsOn tells first now) → length before.bytes ≤ 2 ^ 30
  low first now before = omega (arith, before.taken, before.limit)

  pub ended : (first now next : FollowState S O D) (end : FollowEnd) → FollowsOn tells first now → AdvancesTo tells now next (Err end) → FollowsInput tells (follower_of first) (follower_of next) end
  ended first now next End before (none, met, touches) =
      ends_at first now next End before touches [] met.none.gives
      (append-nil now.input.pending ∙ none, met.at_end, met.none.frame ∙ before.source_held)
      (all_out first now next before touches)
      (omega (arith, low first now before)) (λ long. absurd (cc long)) (λ above. absurd (omega (arith, above, low first now before))) (λ is. cc is)
  ended first now next (BadPacket at) before (is_at, bad, nothing, touches) =
      ends_at first now next (BadPacket at) before touches [] nothing.gives (
        at_place before.packets before.bytes now.input.pending now.input.taken at before.parts before.taken is_at,
        subst (λ (l : List ℕ). BeginsNoPacket l ⊎ ((l ≢ []) × IsPartOfPacket l × IsAtEnd (tells.source.content next.input.source))) (sym (append-nil now.input.pending)) bad,
        nothing.frame ∙ before.source_held,
      )
      (all_out first now next before touches)
      (omega (arith, low first now before)) (λ long. absurd (cc long)) (λ above. absurd (omega (arith, above, low first now before))) (λ is. cc is)
  ended first now next Read before (part, broken, touches) =
      ends_at first now next Read before touches []
      (subst (λ (told : Option Stream). Gives (tells.source.content now.input.source) told []) (sym broken.gives) (Gives-nil (tells.source.content now.input.source))) (
        subst IsPartOfPacket (sym (append-nil now.input.pending)) part,
        subst (λ (f : Frame). Faulted f (tells.source.frame next.input.source)) before.source_held broken.frame,
      )
      (all_out first now next before touches)
      (omega (arith, low first now before)) (λ long. absurd (cc long)) (λ above. absurd (omega (arith, above, low first now before))) (λ is. cc is)
  ended first now next TooLong before (part, much, touches) =
      ends_at first now next TooLong before touches (much.byte ∷ []) much.gives ((now.input.pending, much.byte, refl, part), much.frame ∙ before.source_held)
      (all_out first now next before touches)
      (omega (arith, low first now before)) (λ long. omega (arith, before.taken, much.limit)) (λ above. refl) (λ is. cc is)
  ended first now next NoMemory before none = absurd none
  ended first now next Write before (exchange, faulted) =
      let told = answer_tells tells.disk now.store next.store exchange.packet exchange.answer exchange.offered in
      record {
        bytes = before.bytes;
        gives = subst (λ (s : S). Gives (tells.source.content first.input.source) (tells.source.content s) before.bytes) (sym exchange.same_source) before.gives;
        packets = before.packets ++ exchange.packet ∷ [];
        rest = exchange.rest;
        parts = parts_more before.packets exchange.packet before.bytes now.input.pending exchange.rest before.parts exchange.begins.is;
        are = All-push IsPacket before.packets exchange.packet before.are exchange.begins.is_packet;
        answers = before.answers ++ exchange.answer ∷ [];
        offered = packet_more exchange.packet exchange.answer before.offered exchange.offered;
        input = (
          ap tells.source.frame exchange.same_source ∙ before.source_held,
          (before.packets, exchange.packet, refl, asked_now next.input.source exchange.same_source (was_asked first now before.packets exchange.rest exchange.packet exchange.begins before.asked)),
        );
        output = (
          (
            before.answers,
            exchange.answer,
            exchange.out.0,
            refl,
            exchange.out.1,
            Grows-append (tells.sink.content first.sink) (tells.sink.content now.sink) (tells.sink.content next.sink) (offered_texts before.answers) (take exchange.out.0 (answer_line exchange.answer)) before.out exchange.out.2,
          ),
          subst (λ (f : Frame). Faulted f (tells.sink.frame next.sink)) before.sink_held faulted,
        );
        limit = omega (arith, low first now before);
        too_long = (λ long. absurd (cc long), λ above. absurd (omega (arith, above, low first now before)));
        memory = λ is. absurd (cc is);
        stays = Stays-next before.stays told.stays;
        disks = told_more tells.disk first.store now.store next.store before.answers exchange.answer before.disks told;
      }
    where
      asked_now : (source : S) → source ≡ now.input.source → IsAskedLast tells.source first.input.source now.input.source before.packets → IsAskedLast tells.source first.input.source source before.packets
      asked_now source same asked = subst (λ (s : S). IsAskedLast tells.source first.input.source s before.packets) (sym same) asked
