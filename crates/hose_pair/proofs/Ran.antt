-- The run of a host and a follower that meets what `law_standby` supposes, step by step, by whatever
-- packets and answers: what its host leads by, and what its follower answers, are premises here.
use Rattle.std.proofs.Common.{◌≡◌, ◌≢◌, ◌∙◌, ℕ, ◌<◌, ◌≤◌, Bool, true, false, List, [], ◌∷◌, ◌++◌, All, None, Some, length, refl, sym, ap, arith, append_assoc, append-nil, length-append}
use Rattle.std.specs.List.{flat_map}
use Rattle.std.specs.Prelude.{⊤}
use Rattle.std.proofs.lemmas.Bool.{false≢true}
use Rattle.std.proofs.lemmas.List.Elements.{All-cons, All-nil}
use Rattle.hose_graph.specs.Network.{Network}
use Rattle.hose_disk.specs.declared.disk.Disk.{Ghosts}
use Rattle.hose_store.specs.steps.Store.{HasHistory, KeptStore}
use Rattle.hose_follow.specs.Answers.{answer_line, offered_texts}
use Rattle.hose_follow.specs.Packet.{IsPacket, Packet, packet_bytes, packets_bytes}
use Rattle.hose_follow.specs.Replication.{IsLeader}
use Rattle.hose_follow.specs.steps.Offering.{IsOffered}
use Rattle.hose_follow.specs.steps.Replication.{IsReopened, at_rest}
use Rattle.hose_follow.specs.declared.answers.Offered.{Offered}
use Rattle.hose_lead.specs.Leading.{AnswersBehind, Leads}
use Rattle.hose_proto.specs.ReplyText.{reply_text}
use Rattle.hose_graph.specs.declared.command.Reply.TheVariants.{Down as IsDown, Welcome}
use Rattle.hose_net.specs.Happening.{Came, Gave, Got, Happening, LinkStep, Linked, Opened, Sent, Took}
use Rattle.hose_net.specs.declared.hold.Hold.{Hold}
use Rattle.hose_net.specs.declared.hold.Hold.TheVariants.{Upto}
use Rattle.hose_net.specs.steps.MemTrace.{Trace}
use Rattle.hose_net.specs.Story.{AllServed, Answers, Happens, Holds, Hosts, IsByDoor, IsKept, IsKeptAtLink, IsServed, Link, MayAnswer, MayHappen, MayHold, MayLink, Step, Terms, answered, began, bound_in, bound_of, happened, held, is_empty, life, lines_of, link_after, link_in, no_link, texts_of}
use Rattle.hose_net.proofs.Stories.{bound-answers, bound-happens, life-other, life-other_answers, served_holds, served_linked, served_more, served_now, served_too}
use Rattle.hose_clerk.specs.HostLines.{HostLine}
use Rattle.hose_clerk.specs.HostReplies.{host_text}
use Rattle.hose_clerk.specs.Hosting.{host_from}
use Rattle.hose_clerk.specs.declared.doors.DoorRule.TheVariants.{Any}
use Rattle.hose_clerk.specs.declared.replies.HostReply.{HostReply}
use Rattle.hose_clerk.specs.declared.replies.HostReply.TheVariants.{Told as Tells}
use Rattle.hose_pair.specs.steps.Meeting.{IsMet}
use Rattle.hose_pair.specs.steps.Standing.{About, Goes, HasStory, IsBegun, IsCarried, IsFresh, MayLeave, ServesAtLink, Standing, WasTold, about_of, joined, offered, reopened, restarted, stepped, terms_of, began as at_first, hosts, joins, offers, reopens, restarts}
use Rattle.hose_pair.specs.steps.Written.{IsWritten}
use Rattle.hose_pair.proofs.Asked.{Asked, at_greeted, at_ordered, both, both_steps, first_step, greeting, greeting_plain, greeting_says, hears_first, hears_order, leads_none, needs_grow, next_step, order, order_needs, order_plain, order_says, ordering}

abbrev Moves : Type 0
Moves = Step HostLine HostReply

-- ---- connections in memory

abbrev pub trace_did : Trace → List Happening → Trace → Type 0
trace_did old happenings new = new.whole ≡ true → (old.whole ≡ true) × (new.trace ≡ old.trace ++ happenings)

abbrev pub trace_saw : (B : Type 0) → Trace → B → Trace → Type 0
trace_saw B old kept new = ⊤

abbrev seen : List Happening → Trace
seen trace = record { trace = trace; whole = true }

-- ---- bytes that come one after the other

more : {X : Type 0} (f : X → List ℕ) (xs : List X) (x : X) (bytes : List ℕ) → bytes ≡ flat_map f xs → bytes ++ f x ≡ flat_map f (xs ++ x ∷ [])
more f [] x bytes same = ap (λ (b : List ℕ). b ++ f x) same ∙ sym (append-nil (f x))
more f (y ∷ ys) x bytes same =
    ap (λ (b : List ℕ). b ++ f x) same ∙ append_assoc (f y) (flat_map f ys) (f x)
    ∙ ap (λ (l : List ℕ). f y ++ l) (more f ys x (flat_map f ys) refl)

pub sent_more : (packets : List Packet) (packet : Packet) (bytes : List ℕ) → bytes ≡ packets_bytes packets → bytes ++ packet_bytes packet ≡ packets_bytes (packets ++ packet ∷ [])
sent_more packets packet bytes same = more packet_bytes packets packet bytes same

pub given_more : (said : List Offered) (answer : Offered) (bytes : List ℕ) → bytes ≡ offered_texts said → bytes ++ answer_line answer ≡ offered_texts (said ++ answer ∷ [])
given_more said answer bytes same = more answer_line said answer bytes same

-- all that was sent was offered
all_sent : (packets : List Packet) (sent : List ℕ) → sent ≡ packets_bytes packets → packets_bytes packets ++ [] ≡ sent
all_sent packets sent same = append-nil (packets_bytes packets) ∙ sym same

-- and all but this
one_waits : (packets : List Packet) (sent bytes : List ℕ) → sent ≡ packets_bytes packets → packets_bytes packets ++ bytes ≡ sent ++ bytes
one_waits packets sent bytes same = ap (λ (b : List ℕ). b ++ bytes) (sym same)

all_given : (said : List Offered) (given : List ℕ) → given ≡ offered_texts said → given ++ [] ≡ offered_texts said
all_given said given same = append-nil given ∙ same

longer : (one other : List ℕ) → length (one ++ []) < length (one ++ ((other ++ 10 ∷ []) ++ []))
longer one other = omega (arith, length-append one [], length-append one ((other ++ 10 ∷ []) ++ []), length-append (other ++ 10 ∷ []) [], length-append other (10 ∷ []))

carried : (link : Link) (packets : List Packet) (said : List Offered) (unread untold : List ℕ) → All IsPacket packets → All IsWritten said → packets_bytes packets ++ unread ≡ link.sent → link.given ++ untold ≡ offered_texts said → IsCarried link packets said
carried link packets said unread untold are written got gave = record { are = are; unread = unread; got = got; written = written; untold = untold; gave = gave }

-- ---- the host

abbrev pub about_met : Network → List ℕ → Bool → Bool → About Trace ⊤
about_met network path may required = about_of trace_did (trace_saw ⊤) network (Any ∷ []) (Some path) may required

module _ (network : Network) (path : List ℕ) (may required : Bool) where
  abbrev about : About Trace ⊤
  about = about_met network path may required

  abbrev terms : Terms Trace ⊤ HostLine HostReply
  terms = terms_of about []

  abbrev Story : List Moves → Type 0
  Story story = (trace : List Happening) × Hosts terms (seen []) story (seen trace)

  nothing : Story []
  nothing = ([], began)

  all_served : (story : List Moves) → Story story → AllServed terms story
  all_served story st = served_now terms (seen []) story (seen st.0) st.1

  happens : (story : List Moves) (happening : Happening) → MayHappen story happening → Story story → ((was now : Trace) → IsKept terms story was happening now) → AllServed terms (story ++ Happens happening ∷ []) → Story (story ++ Happens happening ∷ [])
  happens story happening free st kept served =
      (st.0 ++ happening ∷ [], happened happening free st.1 (λ whole. (refl, refl)) (kept (seen st.0) (seen (st.0 ++ happening ∷ []))) served)

  linked : (story : List Moves) (step : LinkStep) → MayLink (link_in story) step → Story story → ((was now : Trace) → IsKeptAtLink terms story was step now) → Story (story ++ Happens (Linked step) ∷ [])
  linked story step free st kept = happens story (Linked step) free st kept (served_linked terms step story (all_served story st))

  asked : (story : List Moves) (x : Asked) → x.first ≡ is_empty (life x.place story).own → terms.says x.first x.door x.line x.said → MayAnswer terms story → Story story → AllServed terms (story ++ Answers x ∷ []) → Story (story ++ Answers x ∷ [])
  asked story x is_first says can st served = (st.0, answered x st.1 is_first says can served)

  holding : (story : List Moves) (hold : Hold) → MayHold terms story hold → Story story → bound_in story ≤ bound_of hold → Story (story ++ Holds hold ∷ [])
  holding story hold can st low =
      (st.0, held hold st.1 can (served_holds terms hold story (λ place. served_more terms (bound_in story) (bound_of hold) (life place story) low (all_served story st place))))

  has_story : (story : List Moves) → Story story → HasStory about [] story
  has_story story st = (seen [], seen st.0, st.1)

  abbrev ByDoor : Asked → Type 0
  ByDoor x = IsByDoor {L = HostLine} {R = HostReply} 0 x

  by_first : ByDoor (greeting required)
  by_first = (refl, greeting_plain)

  by_both : All ByDoor (both required)
  by_both = All-cons ByDoor (greeting required) (ordering required ∷ []) by_first (All-cons ByDoor (ordering required) [] (refl, order_plain) (All-nil ByDoor))

  abbrev lines : List ℕ
  lines = lines_of (both required)

  abbrev texts : List ℕ
  texts = texts_of (host_text network) (both required)

  abbrev Within : ℕ → Asked → Type 0
  Within bound x = x.needs ≤ bound

  module _ (p1 p2 p3 p4 : Packet) (o1 o2 o3 o4 : Offered) where
    abbrev s1 : List Moves
    s1 = Happens (Came 0 0) ∷ []

    abbrev s2 : List Moves
    s2 = s1 ++ Happens (Linked (Opened path)) ∷ []

    abbrev s3 : List Moves
    s3 = s2 ++ Happens (Linked (Took (packet_bytes p1))) ∷ []

    abbrev s4 : List Moves
    s4 = s3 ++ Happens (Linked (Gave (answer_line o1))) ∷ []

    abbrev s5 : List Moves
    s5 = s4 ++ Happens (Linked (Took (packet_bytes p2))) ∷ []

    abbrev s6 : List Moves
    s6 = s5 ++ Happens (Linked (Gave (answer_line o2))) ∷ []

    abbrev s7 : List Moves
    s7 = s6 ++ Happens (Linked (Took (packet_bytes p3))) ∷ []

    abbrev s8 : List Moves
    s8 = s7 ++ Happens (Linked (Gave (answer_line o3))) ∷ []

    abbrev s9 : List Moves
    s9 = s8 ++ Holds (Upto 0) ∷ []

    abbrev s10 : List Moves
    s10 = s9 ++ Happens (Got 0 lines) ∷ []

    abbrev s11 : List Moves
    s11 = s10 ++ Answers (greeting required) ∷ []

    abbrev s12 : List Moves
    s12 = s11 ++ Answers (ordering required) ∷ []

    abbrev s13 : List Moves
    s13 = s12 ++ Happens (Linked (Took (packet_bytes p4))) ∷ []

    abbrev s14 : List Moves
    s14 = s13 ++ Happens (Linked (Gave (answer_line o4))) ∷ []

    abbrev s15 : List Moves
    s15 = s14 ++ Holds (Upto (order_needs required)) ∷ []

    abbrev pub s16 : List Moves
    s16 = s15 ++ Happens (Sent 0 texts) ∷ []

    -- what came and was sent at the link
    abbrev sent2 : List ℕ
    sent2 = packet_bytes p1 ++ packet_bytes p2

    abbrev sent3 : List ℕ
    sent3 = sent2 ++ packet_bytes p3

    abbrev sent4 : List ℕ
    sent4 = sent3 ++ packet_bytes p4

    abbrev given2 : List ℕ
    given2 = answer_line o1 ++ answer_line o2

    abbrev given3 : List ℕ
    given3 = given2 ++ answer_line o3

    abbrev given4 : List ℕ
    given4 = given3 ++ answer_line o4

    -- what the host leads by
    pub record IsLedSo : Type 0 where
      pub first : Leads network [] [] (packet_bytes p1) None
      pub second : Leads network [] (answer_line o1) sent2 None
      pub third : Leads network [] given2 sent3 None
      pub has_none : Leads network [] given3 sent3 (Some 0)
      pub behind_none : AnswersBehind network [] given3 []
      pub fourth : Leads network (order ∷ []) given3 sent4 None
      pub has_one : Leads network (order ∷ []) given4 sent4 (Some 1)
      pub behind_order : AnswersBehind network (order ∷ []) given4 sent3

    module _ (some : 0 < length network.links) (led : IsLedSo) where
      -- ---- each connection is served

      abbrev none_within : All (Within 0) []
      none_within = All-nil (Within 0)

      here1 : IsServed terms.text (bound_in s1) (life 0 s1)
      here1 = record { rest = []; given = refl; lines = All-nil ByDoor; free = []; waiting = []; split = refl; allowed = none_within; unsent = []; sent = refl }

      here10 : IsServed terms.text (bound_in s10) (life 0 s10)
      here10 = record { rest = lines; given = refl; lines = All-nil ByDoor; free = []; waiting = []; split = refl; allowed = none_within; unsent = []; sent = refl }

      here11 : IsServed terms.text (bound_in s11) (life 0 s11)
      here11 = record {
        rest = lines_of (ordering required ∷ []);
        given = refl;
        lines = All-cons ByDoor (greeting required) [] by_first (All-nil ByDoor);
        free = [];
        waiting = greeting required ∷ [];
        split = refl;
        allowed = none_within;
        unsent = [];
        sent = refl;
      }

      here12 : IsServed terms.text (bound_in s12) (life 0 s12)
      here12 = record { rest = []; given = refl; lines = by_both; free = []; waiting = both required; split = refl; allowed = none_within; unsent = []; sent = refl }

      here16 : IsServed terms.text (bound_in s16) (life 0 s16)
      here16 = record {
        rest = [];
        given = refl;
        lines = by_both;
        free = both required;
        waiting = [];
        split = refl;
        allowed = All-cons (Within (order_needs required)) (greeting required) (ordering required ∷ []) (needs_grow required)
            (All-cons (Within (order_needs required)) (ordering required) [] (omega arith) (All-nil (Within (order_needs required))));
        unsent = [];
        sent = append-nil texts;
      }

      at_place : (story later : List Moves) (happening : Happening) → ((other : ℕ) → other ≢ 0 → life other later ≡ life other story) → bound_in later ≡ bound_in story → Story story → IsServed terms.text (bound_in later) (life 0 later) → AllServed terms later
      at_place story later happening others bound st here = served_too terms 0 story later others bound (all_served story st) here

      -- ---- the story

      st1 : Story s1
      st1 = happens [] (Came 0 0) refl nothing (λ was now. tt) (at_place [] s1 (Came 0 0) (λ other apart. life-other other 0 [] (Came 0 0) refl apart) (bound-happens {L = HostLine} {R = HostReply} [] (Came 0 0)) nothing here1)

      st2 : Story s2
      st2 = linked s1 (Opened path) tt st1 (λ was now. refl)

      st3 : Story s3
      st3 = linked s2 (Took (packet_bytes p1)) refl st2
          (λ was now. (tt, tt, tt, None, leads_none network required [] (link_after (link_in s2) (Took (packet_bytes p1))) (host_from [], refl, led.first)))

      st4 : Story s4
      st4 = linked s3 (Gave (answer_line o1)) refl st3 (λ was now. tt)

      st5 : Story s5
      st5 = linked s4 (Took (packet_bytes p2)) refl st4
          (λ was now. (tt, tt, tt, None, leads_none network required [] (link_after (link_in s4) (Took (packet_bytes p2))) (host_from [], refl, led.second)))

      st6 : Story s6
      st6 = linked s5 (Gave (answer_line o2)) refl st5 (λ was now. tt)

      st7 : Story s7
      st7 = linked s6 (Took (packet_bytes p3)) refl st6
          (λ was now. (tt, tt, tt, None, leads_none network required [] (link_after (link_in s6) (Took (packet_bytes p3))) (host_from [], refl, led.third)))

      st8 : Story s8
      st8 = linked s7 (Gave (answer_line o3)) refl st7 (λ was now. tt)

      st9 : Story s9
      st9 = holding s8 (Upto 0) (hears_first network required (link_in s8) led.has_none led.behind_none, omega arith, refl) st8 (omega arith)

      st10 : Story s10
      st10 = happens s9 (Got 0 lines) (refl, refl) st9 (λ was now. tt) (at_place s9 s10 (Got 0 lines) (λ other apart. life-other other 0 s9 (Got 0 lines) refl apart) (bound-happens s9 (Got 0 lines)) st9 here10)

      st11 : Story s11
      st11 = asked s10 (greeting required) refl (greeting_says network) (λ is_may not_yet. absurd (false≢true (sym not_yet))) st10
          (served_too terms 0 s10 s11 (λ other apart. life-other_answers other s10 (greeting required) apart) (bound-answers s10 (greeting required)) (all_served s10 st10) here11)

      st12 : Story s12
      st12 = asked s11 (ordering required) refl (order_says network some) (λ is_may not_yet. absurd (false≢true (sym not_yet))) st11
          (served_too terms 0 s11 s12 (λ other apart. life-other_answers other s11 (ordering required) apart) (bound-answers s11 (ordering required)) (all_served s11 st11) here12)

      st13 : Story s13
      st13 = linked s12 (Took (packet_bytes p4)) refl st12
          (λ was now. (tt, tt, tt, None, leads_none network required (both required) (link_after (link_in s12) (Took (packet_bytes p4))) (at_ordered, both_steps network required some, led.fourth)))

      st14 : Story s14
      st14 = linked s13 (Gave (answer_line o4)) refl st13 (λ was now. tt)

      st15 : Story s15
      st15 = holding s14 (Upto (order_needs required)) (hears_order network required (link_in s14) some led.has_one led.behind_order, omega arith, refl) st14 (omega arith)

      st16 : Story s16
      st16 = happens s15 (Sent 0 texts) refl st15 (λ was now. (tt, tt, tt)) (at_place s15 s16 (Sent 0 texts) (λ other apart. life-other other 0 s15 (Sent 0 texts) refl apart) (bound-happens s15 (Sent 0 texts)) st15 here16)

      -- ---- with the follower

      module _ {D : Type 0} (disk : Ghosts D) (store left : KeptStore D) (is_network : store.ledger.network ≡ network) (has : HasHistory disk store [] None)
          (a1 : IsPacket p1) (a2 : IsPacket p2) (a3 : IsPacket p3) (a4 : IsPacket p4) (w1 : IsWritten o1) (w2 : IsWritten o2) (w3 : IsWritten o3) (w4 : IsWritten o4)
          (f1 : IsOffered disk store p1 o1 store) (f2 : IsOffered disk store p2 o2 store) (f3 : IsOffered disk store p3 o3 store) (f4 : IsOffered disk store p4 o4 left) where
        abbrev Are : List Packet → Type 0
        Are packets = All IsPacket packets

        are1 : Are (p1 ∷ [])
        are1 = All-cons IsPacket p1 [] a1 (All-nil IsPacket)

        are2 : Are (p1 ∷ p2 ∷ [])
        are2 = All-cons IsPacket p1 (p2 ∷ []) a1 (All-cons IsPacket p2 [] a2 (All-nil IsPacket))

        are3 : Are (p1 ∷ p2 ∷ p3 ∷ [])
        are3 = All-cons IsPacket p1 (p2 ∷ p3 ∷ []) a1 (All-cons IsPacket p2 (p3 ∷ []) a2 (All-cons IsPacket p3 [] a3 (All-nil IsPacket)))

        are4 : Are (p1 ∷ p2 ∷ p3 ∷ p4 ∷ [])
        are4 = All-cons IsPacket p1 (p2 ∷ p3 ∷ p4 ∷ []) a1 (All-cons IsPacket p2 (p3 ∷ p4 ∷ []) a2 (All-cons IsPacket p3 (p4 ∷ []) a3 (All-cons IsPacket p4 [] a4 (All-nil IsPacket))))

        are_written1 : All IsWritten (o1 ∷ [])
        are_written1 = All-cons IsWritten o1 [] w1 (All-nil IsWritten)

        are_written2 : All IsWritten (o1 ∷ o2 ∷ [])
        are_written2 = All-cons IsWritten o1 (o2 ∷ []) w1 (All-cons IsWritten o2 [] w2 (All-nil IsWritten))

        are_written3 : All IsWritten (o1 ∷ o2 ∷ o3 ∷ [])
        are_written3 = All-cons IsWritten o1 (o2 ∷ o3 ∷ []) w1 (All-cons IsWritten o2 (o3 ∷ []) w2 (All-cons IsWritten o3 [] w3 (All-nil IsWritten)))

        are_written4 : All IsWritten (o1 ∷ o2 ∷ o3 ∷ o4 ∷ [])
        are_written4 = All-cons IsWritten o1 (o2 ∷ o3 ∷ o4 ∷ []) w1 (All-cons IsWritten o2 (o3 ∷ o4 ∷ []) w2 (All-cons IsWritten o3 (o4 ∷ []) w3 (All-cons IsWritten o4 [] w4 (All-nil IsWritten))))

        -- bytes of packets and of answers
        q1 : packet_bytes p1 ≡ packets_bytes (p1 ∷ [])
        q1 = sent_more [] p1 [] refl

        q2 : sent2 ≡ packets_bytes (p1 ∷ p2 ∷ [])
        q2 = sent_more (p1 ∷ []) p2 (packet_bytes p1) q1

        q3 : sent3 ≡ packets_bytes (p1 ∷ p2 ∷ p3 ∷ [])
        q3 = sent_more (p1 ∷ p2 ∷ []) p3 sent2 q2

        q4 : sent4 ≡ packets_bytes (p1 ∷ p2 ∷ p3 ∷ p4 ∷ [])
        q4 = sent_more (p1 ∷ p2 ∷ p3 ∷ []) p4 sent3 q3

        r1 : answer_line o1 ≡ offered_texts (o1 ∷ [])
        r1 = given_more [] o1 [] refl

        r2 : given2 ≡ offered_texts (o1 ∷ o2 ∷ [])
        r2 = given_more (o1 ∷ []) o2 (answer_line o1) r1

        r3 : given3 ≡ offered_texts (o1 ∷ o2 ∷ o3 ∷ [])
        r3 = given_more (o1 ∷ o2 ∷ []) o3 given2 r2

        r4 : given4 ≡ offered_texts (o1 ∷ o2 ∷ o3 ∷ o4 ∷ [])
        r4 = given_more (o1 ∷ o2 ∷ o3 ∷ []) o4 given3 r3

        -- ---- where both are

        abbrev pub k0 : Standing D
        k0 = record { since = []; story = []; host = host_from []; link = no_link; is_link = false; decides = false; store = store; packets = []; said = [] }

        abbrev k1 : Standing D
        k1 = stepped k0 (Happens (Came 0 0)) (host_from [])

        abbrev k2 : Standing D
        k2 = stepped k1 (Happens (Linked (Opened path))) (host_from [])

        abbrev j2 : Standing D
        j2 = joined k2

        abbrev k3 : Standing D
        k3 = stepped j2 (Happens (Linked (Took (packet_bytes p1)))) (host_from [])

        abbrev j3 : Standing D
        j3 = offered k3 p1 o1 store

        abbrev k4 : Standing D
        k4 = stepped j3 (Happens (Linked (Gave (answer_line o1)))) (host_from [])

        abbrev k5 : Standing D
        k5 = stepped k4 (Happens (Linked (Took (packet_bytes p2)))) (host_from [])

        abbrev j5 : Standing D
        j5 = offered k5 p2 o2 store

        abbrev k6 : Standing D
        k6 = stepped j5 (Happens (Linked (Gave (answer_line o2)))) (host_from [])

        abbrev k7 : Standing D
        k7 = stepped k6 (Happens (Linked (Took (packet_bytes p3)))) (host_from [])

        abbrev j7 : Standing D
        j7 = offered k7 p3 o3 store

        abbrev k8 : Standing D
        k8 = stepped j7 (Happens (Linked (Gave (answer_line o3)))) (host_from [])

        abbrev k9 : Standing D
        k9 = stepped k8 (Holds (Upto 0)) (host_from [])

        abbrev k10 : Standing D
        k10 = stepped k9 (Happens (Got 0 lines)) (host_from [])

        abbrev k11 : Standing D
        k11 = stepped k10 (Answers (greeting required)) at_greeted

        abbrev k12 : Standing D
        k12 = stepped k11 (Answers (ordering required)) at_ordered

        abbrev k13 : Standing D
        k13 = stepped k12 (Happens (Linked (Took (packet_bytes p4)))) at_ordered

        abbrev j13 : Standing D
        j13 = offered k13 p4 o4 left

        abbrev k14 : Standing D
        k14 = stepped j13 (Happens (Linked (Gave (answer_line o4)))) at_ordered

        abbrev k15 : Standing D
        k15 = stepped k14 (Holds (Upto (order_needs required))) at_ordered

        abbrev pub k16 : Standing D
        k16 = stepped k15 (Happens (Sent 0 texts)) at_ordered

        abbrev To : Standing D → Type 0
        To now = Goes about disk k0 now

        fresh : IsFresh about disk [] k0
        fresh = record { story = has_story [] nothing; steps = refl; is_network = is_network; has = has; link = refl; is_link = refl; decides = refl; packets = refl; said = refl }

        none_carried : (link : Link) → link.sent ≡ [] → link.given ≡ [] → IsCarried link [] []
        none_carried link sent given = carried link [] [] [] [] (All-nil IsPacket) (All-nil IsWritten) (sym sent) (append-nil link.given ∙ given)

        g1 : To k1
        g1 = hosts (Happens (Came 0 0)) (host_from []) at_first refl (has_story s1 st1) (none_carried no_link refl refl)

        g2 : To k2
        g2 = hosts (Happens (Linked (Opened path))) (host_from []) g1 refl (has_story s2 st2) (none_carried no_link refl refl)

        h2 : To j2
        h2 = joins g2 refl refl (none_carried (link_in s2) refl refl)

        g3 : To k3
        g3 = hosts (Happens (Linked (Took (packet_bytes p1)))) (host_from []) h2 refl (has_story s3 st3) (carried k3.link [] [] (packet_bytes p1) [] (All-nil IsPacket) (All-nil IsWritten) refl refl)

        h3 : To j3
        h3 = offers p1 o1 store g3 f1 (carried k3.link (p1 ∷ []) (o1 ∷ []) [] (answer_line o1) are1 are_written1 (all_sent (p1 ∷ []) (packet_bytes p1) q1) r1)

        g4 : To k4
        g4 = hosts (Happens (Linked (Gave (answer_line o1)))) (host_from []) h3 refl (has_story s4 st4) (carried k4.link (p1 ∷ []) (o1 ∷ []) [] [] are1 are_written1 (all_sent (p1 ∷ []) (packet_bytes p1) q1) (all_given (o1 ∷ []) (answer_line o1) r1))

        g5 : To k5
        g5 = hosts (Happens (Linked (Took (packet_bytes p2)))) (host_from []) g4 refl (has_story s5 st5) (carried k5.link (p1 ∷ []) (o1 ∷ []) (packet_bytes p2) [] are1 are_written1 (one_waits (p1 ∷ []) (packet_bytes p1) (packet_bytes p2) q1) (all_given (o1 ∷ []) (answer_line o1) r1))

        h5 : To j5
        h5 = offers p2 o2 store g5 f2 (carried k5.link (p1 ∷ p2 ∷ []) (o1 ∷ o2 ∷ []) [] (answer_line o2) are2 are_written2 (all_sent (p1 ∷ p2 ∷ []) sent2 q2) r2)

        g6 : To k6
        g6 = hosts (Happens (Linked (Gave (answer_line o2)))) (host_from []) h5 refl (has_story s6 st6) (carried k6.link (p1 ∷ p2 ∷ []) (o1 ∷ o2 ∷ []) [] [] are2 are_written2 (all_sent (p1 ∷ p2 ∷ []) sent2 q2) (all_given (o1 ∷ o2 ∷ []) given2 r2))

        g7 : To k7
        g7 = hosts (Happens (Linked (Took (packet_bytes p3)))) (host_from []) g6 refl (has_story s7 st7) (carried k7.link (p1 ∷ p2 ∷ []) (o1 ∷ o2 ∷ []) (packet_bytes p3) [] are2 are_written2 (one_waits (p1 ∷ p2 ∷ []) sent2 (packet_bytes p3) q2) (all_given (o1 ∷ o2 ∷ []) given2 r2))

        h7 : To j7
        h7 = offers p3 o3 store g7 f3 (carried k7.link (p1 ∷ p2 ∷ p3 ∷ []) (o1 ∷ o2 ∷ o3 ∷ []) [] (answer_line o3) are3 are_written3 (all_sent (p1 ∷ p2 ∷ p3 ∷ []) sent3 q3) r3)

        now3 : (link : Link) → link.sent ≡ sent3 → link.given ≡ given3 → IsCarried link (p1 ∷ p2 ∷ p3 ∷ []) (o1 ∷ o2 ∷ o3 ∷ [])
        now3 link sent given = carried link (p1 ∷ p2 ∷ p3 ∷ []) (o1 ∷ o2 ∷ o3 ∷ []) [] [] are3 are_written3 (all_sent (p1 ∷ p2 ∷ p3 ∷ []) sent3 q3 ∙ sym sent) (ap (λ (l : List ℕ). l ++ []) given ∙ all_given (o1 ∷ o2 ∷ o3 ∷ []) given3 r3)

        g8 : To k8
        g8 = hosts (Happens (Linked (Gave (answer_line o3)))) (host_from []) h7 refl (has_story s8 st8) (now3 k8.link refl refl)

        g9 : To k9
        g9 = hosts (Holds (Upto 0)) (host_from []) g8 refl (has_story s9 st9) (now3 k9.link refl refl)

        g10 : To k10
        g10 = hosts (Happens (Got 0 lines)) (host_from []) g9 refl (has_story s10 st10) (now3 k10.link refl refl)

        g11 : To k11
        g11 = hosts (Answers (greeting required)) at_greeted g10 (first_step network required) (has_story s11 st11) (now3 k11.link refl refl)

        g12 : To k12
        g12 = hosts (Answers (ordering required)) at_ordered g11 (next_step network required some) (has_story s12 st12) (now3 k12.link refl refl)

        g13 : To k13
        g13 = hosts (Happens (Linked (Took (packet_bytes p4)))) at_ordered g12 refl (has_story s13 st13) (carried k13.link (p1 ∷ p2 ∷ p3 ∷ []) (o1 ∷ o2 ∷ o3 ∷ []) (packet_bytes p4) [] are3 are_written3 (one_waits (p1 ∷ p2 ∷ p3 ∷ []) sent3 (packet_bytes p4) q3) (all_given (o1 ∷ o2 ∷ o3 ∷ []) given3 r3))

        h13 : To j13
        h13 = offers p4 o4 left g13 f4 (carried k13.link (p1 ∷ p2 ∷ p3 ∷ p4 ∷ []) (o1 ∷ o2 ∷ o3 ∷ o4 ∷ []) [] (answer_line o4) are4 are_written4 (all_sent (p1 ∷ p2 ∷ p3 ∷ p4 ∷ []) sent4 q4) r4)

        now4 : (link : Link) → link.sent ≡ sent4 → link.given ≡ given4 → IsCarried link (p1 ∷ p2 ∷ p3 ∷ p4 ∷ []) (o1 ∷ o2 ∷ o3 ∷ o4 ∷ [])
        now4 link sent given = carried link (p1 ∷ p2 ∷ p3 ∷ p4 ∷ []) (o1 ∷ o2 ∷ o3 ∷ o4 ∷ []) [] [] are4 are_written4 (all_sent (p1 ∷ p2 ∷ p3 ∷ p4 ∷ []) sent4 q4 ∙ sym sent) (ap (λ (l : List ℕ). l ++ []) given ∙ all_given (o1 ∷ o2 ∷ o3 ∷ o4 ∷ []) given4 r4)

        g14 : To k14
        g14 = hosts (Happens (Linked (Gave (answer_line o4)))) at_ordered h13 refl (has_story s14 st14) (now4 k14.link refl refl)

        g15 : To k15
        g15 = hosts (Holds (Upto (order_needs required))) at_ordered g14 refl (has_story s15 st15) (now4 k15.link refl refl)

        g16 : To k16
        g16 = hosts (Happens (Sent 0 texts)) at_ordered g15 refl (has_story s16 st16) (now4 k16.link refl refl)

        -- a byte of the order's reply was sent
        begun : IsBegun network 0 s16 (ordering required)
        begun = record { before = greeting required ∷ []; after = []; own = refl; some = longer (host_text network (Tells (Welcome 0))) (reply_text network (IsDown 0 1)) }

        was_told : WasTold about disk [] k0 k16 (ordering required) at_ordered
        was_told = record {
          fresh = fresh;
          goes = g16;
          decides = refl;
          early = s16;
          later = [];
          split = refl;
          place = 0;
          begun = begun;
          before = greeting required ∷ [];
          after = [];
          there = refl;
          few = omega arith;
          steps = both_steps network required some;
        }

        may_leave : (image : List ℕ) → disk.may_leave left.journal.disk image → MayLeave disk network k16 image
        may_leave image is = ([], record { are = are4; unread = []; got = all_sent (p1 ∷ p2 ∷ p3 ∷ p4 ∷ []) sent4 q4 }, at_rest is)

        serves : may ≡ true → ServesAtLink about k16
        serves can = record { may = can; is_link = refl; held = λ alone. absurd (cc alone); served = refl }

        -- each premise, and at the end the follower was stopped and opened anew, and the host was
        -- started anew on its history
        pub met : (image last : List ℕ) (next : KeptStore D) → IsLeader network (order ∷ []) → disk.may_leave left.journal.disk image → IsReopened disk network image next → disk.may_leave next.journal.disk last → IsMet about disk
        met image last next leader is opened rests = record {
          start = k0;
          told = k16;
          end = restarted (reopened k16 next) (order ∷ []);
          exchange = ordering required;
          state = at_ordered;
          image = last;
          was = was_told;
          goes = restarts (order ∷ []) (reopens image next at_first (may_leave image is) opened) ([], refl);
          leader_then = leader;
          leader = leader;
          leaves = ([], record { are = All-nil IsPacket; unread = []; got = refl }, at_rest rests);
          order = order;
          entered = refl;
          count = order_needs required;
          held = refl;
          serves = serves;
        }
