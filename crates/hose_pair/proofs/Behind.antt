-- Where a standby is required, a follower answered a packet after each line whose reply was sent.
use Rattle.std.proofs.Common.{◌≡◌, ◌≢◌, ◌∙◌, ⊎_elim, ℕ, ◌+◌, ◌<◌, ◌≤◌, Bool, true, false, cond, List, [], ◌∷◌, ◌++◌, Some, length, refl, sym, ap, subst, arith, append_assoc, append-nil, length-append, All}
use Rattle.std.specs.List.{flat_map, fold}
use Rattle.std.specs.Prelude.{if◌then◌else◌, nat_lt}
use Rattle.std.proofs.lemmas.Bool.{cases_lt, false≢true, lt-ltb}
use Rattle.std.proofs.lemmas.List.Elements.{All-head, All-tail}
use mathlib.Core.List.{IsPrefix}
use Rattle.hose_graph.specs.Network.{Network}
use Rattle.hose_graph.specs.declared.entry.Entry.{Entry}
use Rattle.hose_disk.specs.declared.disk.Disk.{Ghosts}
use Rattle.hose_law.proofs.Fronts.{prefix_on}
use Rattle.hose_store.specs.steps.Store.{KeptStore}
use Rattle.hose_follow.specs.Answers.{offered_text, offered_texts}
use Rattle.hose_follow.specs.Packet.{IsPacket, Packet, packets_bytes}
use Rattle.hose_follow.specs.Replication.{IsLeader}
use Rattle.hose_follow.specs.declared.answers.Offered.{Offered}
use Rattle.hose_net.specs.Happening.{Came, Closed, Gave, Got, Happening, Late, Left, LinkStep, Linked, Opened, Refused, Sent, Stopped, Took}
use Rattle.hose_net.specs.declared.hold.Hold.TheVariants.{Alone, Upto}
use Rattle.hose_net.specs.Story.{Answers, Exchange, Happens, Holds, Link, Step, exchanges, hold_in, link_after, link_answered, link_in, links, no_link}
use Rattle.hose_net.proofs.Stories.{exchanges-happens, exchanges-holds, exchanges-push, hold-push}
use Rattle.hose_clerk.specs.HostLines.{HostLine}
use Rattle.hose_clerk.specs.Hosting.{AreHostSteps, HostState, IsHeardBehind, LeadsBy, host_from}
use Rattle.hose_clerk.specs.declared.replies.HostReply.{HostReply}
use Rattle.hose_pair.specs.steps.Standing.{About, AnsweredSince, Goes, GoesTo, HasStory, IsCarried, IsFresh, Standing, WasTold, joined, offered, opens, reopened, stepped, began as at_first, hosts, joins, offers, reopens, restarts}
use Rattle.hose_pair.specs.steps.Written.{IsWritten}
use Rattle.hose_pair.proofs.Carried.{few_of}
use Rattle.hose_pair.proofs.Lines.{first_line, no_feed}
use Rattle.hose_pair.proofs.Linked.{begun_low, last_held}
use Rattle.hose_pair.proofs.OneState.{front_grows, lines_of}
use Rattle.hose_pair.proofs.Standby.{fresh_base, front_size, needs_of, shorter}
use Rattle.hose_pair.proofs.Together.{IsBase, base_on, goes_grows}

abbrev Told : Type 0
Told = Exchange HostLine HostReply

abbrev Moves : Type 0
Moves = Step HostLine HostReply

-- ---- lists

front_on : {X : Type 0} (one two three : List X) → IsPrefix one two → IsPrefix two three → IsPrefix one three
front_on one two three (rest, same) (more, there) = (rest ++ more, sym (append_assoc one rest more) ∙ ap (λ l. l ++ more) same ∙ there)

front_same : {X : Type 0} (xs : List X) → IsPrefix xs xs
front_same xs = ([], append-nil xs)

-- ---- lines are no more than answers

abbrev line_of : List ℕ → List ℕ
line_of line = line ++ 10 ∷ []

lines_few : (said : List Offered) (lines : List (List ℕ)) (rest : List ℕ) → All IsWritten said → All (All (λ byte. byte ≢ 10)) lines → offered_texts said ≡ flat_map line_of lines ++ rest → length lines ≤ length said
lines_few said [] rest written plain same = omega arith
lines_few [] (line ∷ lines) rest written plain same =
    absurd (omega (arith, ap length same, length-append (line_of line ++ flat_map line_of lines) rest, length-append (line_of line) (flat_map line_of lines), length-append line (10 ∷ [])))
lines_few (answer ∷ said) (line ∷ lines) rest written plain same =
    let cut : offered_text answer ++ 10 ∷ offered_texts said ≡ line ++ 10 ∷ (flat_map line_of lines ++ rest) =
    sym (append_assoc (offered_text answer) (10 ∷ []) (offered_texts said)) ∙ same
    ∙ append_assoc (line_of line) (flat_map line_of lines) rest ∙ append_assoc line (10 ∷ []) (flat_map line_of lines ++ rest) in
    let first = first_line (offered_text answer) line (offered_texts said) (flat_map line_of lines ++ rest) (no_feed answer (All-head IsWritten answer said written)) (All-head (All (λ byte. byte ≢ 10)) line lines plain) cut in
    let more = lines_few said lines rest (All-tail IsWritten answer said written) (All-tail (All (λ byte. byte ≢ 10)) line lines plain) first.1 in
    omega (arith, more)

-- ---- links

-- for each number above that of the lines answered so far, all that was sent was sent before it
abbrev Ahead : Link → Type 0
Ahead link = (many : ℕ) → link.answered < many → link.early many ≡ link.sent

ahead_link : (link : Link) (step : LinkStep) → Ahead link → Ahead (link_after link step)
ahead_link link (Opened path) is = λ many more. refl
ahead_link link (Gave bytes) is = is
ahead_link link (Took bytes) is = λ many more. ap (λ (b : Bool). if b then link.early many ++ bytes else link.early many) (lt-ltb link.answered many more) ∙ ap (λ (l : List ℕ). l ++ bytes) (is many more)
ahead_link link Closed is = is
ahead_link link Late is = is

ahead_step : (link : Link) (step : Moves) → Ahead link → Ahead (links link step)
ahead_step link (Happens (Came door place)) is = is
ahead_step link (Happens (Got place bytes)) is = is
ahead_step link (Happens (Sent place bytes)) is = is
ahead_step link (Happens (Refused place)) is = is
ahead_step link (Happens (Left place)) is = is
ahead_step link (Happens (Linked step)) is = ahead_link link step is
ahead_step link (Happens Stopped) is = is
ahead_step link (Answers exchange) is = λ many more. is many (omega (arith, more))
ahead_step link (Holds hold) is = is

ahead_all : (link : Link) (story : List Moves) → Ahead link → Ahead (fold links link story)
ahead_all link [] is = is
ahead_all link (step ∷ story) is = ahead_all (links link step) story (ahead_step link step is)

answered_link : (link : Link) (step : LinkStep) → (link_after link step).answered ≡ link.answered
answered_link link (Opened path) = refl
answered_link link (Gave bytes) = refl
answered_link link (Took bytes) = refl
answered_link link Closed = refl
answered_link link Late = refl

answered_same : (link : Link) (happening : Happening) → (links {L = HostLine} {R = HostReply} link (Happens happening)).answered ≡ link.answered
answered_same link (Came door place) = refl
answered_same link (Got place bytes) = refl
answered_same link (Sent place bytes) = refl
answered_same link (Refused place) = refl
answered_same link (Left place) = refl
answered_same link (Linked step) = answered_link link step
answered_same link Stopped = refl

answered_all : (link : Link) (story : List Moves) → (fold links link story).answered ≡ link.answered + length (exchanges story)
answered_all link [] = omega arith
answered_all link (Happens happening ∷ story) = let rest = answered_all (links {L = HostLine} {R = HostReply} link (Happens happening)) story in omega (arith, rest, answered_same link happening)
answered_all link (Answers exchange ∷ story) = let rest = answered_all (link_answered link) story in omega (arith, rest)
answered_all link (Holds hold ∷ story) = answered_all link story

either_front : (b : Bool) (xs bytes : List ℕ) → IsPrefix xs (if b then xs ++ bytes else xs)
either_front true xs bytes = (bytes, refl)
either_front false xs bytes = front_same xs

early_link : (link : Link) (step : LinkStep) (many : ℕ) → opens {L = HostLine} {R = HostReply} (Happens (Linked step)) ≡ false → IsPrefix (link.early many) ((link_after link step).early many)
early_link link (Opened path) many is = absurd (false≢true (sym is))
early_link link (Gave bytes) many is = front_same (link.early many)
early_link link (Took bytes) many is = either_front (nat_lt link.answered many) (link.early many) bytes
early_link link Closed many is = front_same (link.early many)
early_link link Late many is = front_same (link.early many)

early_step : (link : Link) (step : Moves) (many : ℕ) → opens step ≡ false → IsPrefix (link.early many) ((links link step).early many)
early_step link (Happens (Came door place)) many is = front_same (link.early many)
early_step link (Happens (Got place bytes)) many is = front_same (link.early many)
early_step link (Happens (Sent place bytes)) many is = front_same (link.early many)
early_step link (Happens (Refused place)) many is = front_same (link.early many)
early_step link (Happens (Left place)) many is = front_same (link.early many)
early_step link (Happens (Linked step)) many is = early_link link step many is
early_step link (Happens Stopped) many is = front_same (link.early many)
early_step link (Answers exchange) many is = front_same (link.early many)
early_step link (Holds hold) many is = front_same (link.early many)

grow_step : (story : List Moves) (step : Moves) → IsPrefix (exchanges story) (exchanges (story ++ step ∷ []))
grow_step story (Happens happening) = subst (IsPrefix (exchanges story)) (sym (exchanges-happens story happening)) (front_same (exchanges story))
grow_step story (Answers exchange) = subst (IsPrefix (exchanges story)) (sym (exchanges-push story exchange)) (exchange ∷ [], refl)
grow_step story (Holds hold) = subst (IsPrefix (exchanges story)) (sym (exchanges-holds story hold)) (front_same (exchanges story))

-- ---- an answer after a line

module _ {N B D : Type 0} (about : About N B) (disk : Ghosts D) where
  abbrev network : Network
  network = about.network

  -- the follower was offered a packet, and answered, after these lines were answered
  pub record IsAnswered (start now : Standing D) (earlier : List Told) : Type 0 where
    pub was : Standing D
    pub goes : Goes about disk start was
    pub same : was.since ≡ now.since
    pub grown : IsPrefix was.story now.story
    pub more : List Told
    pub lines : exchanges was.story ≡ earlier ++ more
    pub is_link : was.is_link ≡ true
    pub packet : Packet
    pub answer : Offered
    pub left : KeptStore D
    pub later : Goes about disk (offered was packet answer left) now

  go_on : (start now next : Standing D) (earlier : List Told) → now.since ≡ next.since → IsPrefix now.story next.story → ((first : Standing D) → Goes about disk first now → Goes about disk first next) → IsAnswered start now earlier → IsAnswered start next earlier
  go_on start now next earlier same grown goes is = record {
    was = is.was;
    goes = is.goes;
    same = is.same ∙ same;
    grown = front_on is.was.story now.story next.story is.grown grown;
    more = is.more;
    lines = is.lines;
    is_link = is.is_link;
    packet = is.packet;
    answer = is.answer;
    left = is.left;
    later = goes (offered is.was is.packet is.answer is.left) is.later;
  }

  still_link : (opened live : Bool) → cond opened false live ≡ true → (opened ≡ false) × (live ≡ true)
  still_link true live is = absurd (false≢true is)
  still_link false live is = (refl, is)

  early_before : (opened live : Bool) (link : Link) (step : Moves) (many : ℕ) → opens step ≡ opened → opened ≡ false → live ≡ true → IsPrefix (link.early many) ((cond opened link (cond live (links link step) link)).early many)
  early_before true live link step many is none there = absurd (false≢true (sym none))
  early_before false true link step many is none there = early_step link step many is
  early_before false false link step many is none there = absurd (false≢true there)

  as_many : (start now : Standing D) (own : List Entry) → IsFresh about disk own start → Goes about disk start now → length now.packets ≡ length now.said
  as_many start _ own fresh at_first = ap length fresh.packets ∙ sym (ap length fresh.said)
  as_many start _ own fresh (hosts {was} step host before goes story carried) = as_many start was own fresh before
  as_many start _ own fresh (offers {was} packet answer left before is carried) =
      omega (arith, as_many start was own fresh before, length-append was.packets (packet ∷ []), length-append was.said (answer ∷ []))
  as_many start _ own fresh (reopens {was} image store before may opened) = refl
  as_many start _ own fresh (joins {was} before no_packets none_said carried) = as_many start was own fresh before
  as_many start _ own fresh (restarts {was} since before longer) = as_many start was own fresh before

  module _ (all earlier : List Told) (within : IsPrefix earlier all) (first : List Packet) (few : (packets : List Packet) (more : List ℕ) → All IsPacket packets → packets_bytes packets ++ more ≡ packets_bytes first → length packets ≤ length first)
      (start : Standing D) (own : List Entry) (fresh : IsFresh about disk own start) where
    abbrev Early : Standing D → Type 0
    Early s = (rest : List ℕ) × (s.link.early (length earlier) ++ rest ≡ packets_bytes first)

    early_back : (was : Standing D) (link : Link) → IsPrefix (was.link.early (length earlier)) (link.early (length earlier)) → (rest : List ℕ) → link.early (length earlier) ++ rest ≡ packets_bytes first → Early was
    early_back was link (more, same) rest is = (more ++ rest, sym (append_assoc (was.link.early (length earlier)) more rest) ∙ ap (λ (l : List ℕ). l ++ rest) same ∙ is)

    here : (was : Standing D) (base : IsBase about disk was) (packet : Packet) (answer : Offered) (left : KeptStore D) → Goes about disk start was → was.is_link ≡ true → IsPrefix (exchanges was.story) all → IsCarried was.link (was.packets ++ packet ∷ []) (was.said ++ answer ∷ []) → Early was
        → length first < length (was.packets ++ packet ∷ []) → IsAnswered start (offered was packet answer left) earlier
    here was base packet answer left before live grown carried (rest, is) more = ⊎_elim
        (λ late.
        let ahead = ahead_all no_link was.story (λ many less. refl) in
        let sent : was.link.early (length earlier) ≡ was.link.sent = subst Ahead (sym (base.link_is live)) ahead (length earlier) (omega (arith, late, answered)) in
        let got : packets_bytes (was.packets ++ packet ∷ []) ++ (carried.unread ++ rest) ≡ packets_bytes first =
        sym (append_assoc (packets_bytes (was.packets ++ packet ∷ [])) carried.unread rest) ∙ ap (λ (l : List ℕ). l ++ rest) (carried.got ∙ sym sent) ∙ is in
        absurd (omega (arith, more, few (was.packets ++ packet ∷ []) (carried.unread ++ rest) carried.are got)))
        (λ low.
        let front = shorter earlier (exchanges was.story) all within grown (omega (arith, low)) in
        record { was = was; goes = before; same = refl; grown = front_same was.story; more = front.0; lines = sym front.1; is_link = live; packet = packet; answer = answer; left = left; later = at_first })
        (cases_lt (length (exchanges was.story)) (length earlier))
      where
        answered : was.link.answered ≡ length (exchanges was.story)
        answered = ap (λ (l : Link). l.answered) (base.link_is live) ∙ answered_all no_link was.story ∙ omega arith

    pub find : (now : Standing D) → Goes about disk start now → now.is_link ≡ true → IsPrefix (exchanges now.story) all → Early now → length first < length now.packets → IsAnswered start now earlier
    find _ at_first live grown early more = absurd (omega (arith, more, ap length fresh.packets))
    find _ (hosts {was} step host before goes story carried) live grown (rest, is) more =
        let there = still_link (opens step) was.is_link live in
        go_on start was (stepped was step host) earlier refl (step ∷ [], refl) (λ first goes_on. hosts step host goes_on goes story carried)
        (find was before there.1 (front_on (exchanges was.story) (exchanges (was.story ++ step ∷ [])) all (grow_step was.story step) grown)
        (early_back was (stepped was step host).link (early_before (opens step) was.is_link was.link step (length earlier) refl there.0 there.1) rest is) more)
    find _ (offers {was} packet answer left before is carried) live grown early more = ⊎_elim
        (λ less. go_on start was (offered was packet answer left) earlier refl (front_same was.story) (λ first goes_on. offers packet answer left goes_on is carried) (find was before live grown early less))
        (λ last. here was (base_on about disk start was (fresh_base about disk own start fresh) before) packet answer left before live grown carried early more)
        (cases_lt (length first) (length was.packets))
    find _ (reopens {was} image store before may opened) live grown early more = absurd (omega (arith, more))
    find _ (joins {was} before no_packets none_said carried) live grown early more = absurd (omega (arith, more, ap length no_packets))
    find _ (restarts {was} since before longer) live grown early more = absurd (false≢true live)

  -- ---- from the lines behind which the follower is heard

  module _ (leader : List Entry) (is_leader : IsLeader network leader) (waits : about.required ≡ true) (start : Standing D) (own : List Entry) (fresh : IsFresh about disk own start) where
    -- how replies are held now: each of these lines was answered, and the follower answered since
    pub record IsHeld (s : Standing D) : Type 0 where
      count : ℕ
      hold : hold_in s.story ≡ Upto count
      earlier : List Told
      begins : IsPrefix earlier (exchanges s.story)
      past : HostState
      before : AreHostSteps network true earlier (host_from s.since) past
      lines : past.tally.lines ≡ count
      answered : IsAnswered start s earlier

    held_on : (was now : Standing D) → was.since ≡ now.since → IsPrefix was.story now.story → hold_in now.story ≡ hold_in was.story → IsPrefix (exchanges was.story) (exchanges now.story) → ((first : Standing D) → Goes about disk first was → Goes about disk first now) → IsHeld was → IsHeld now
    held_on was now same grown hold grows goes is = record {
      count = is.count;
      hold = hold ∙ is.hold;
      earlier = is.earlier;
      begins = front_on is.earlier (exchanges was.story) (exchanges now.story) is.begins grows;
      past = is.past;
      before = subst (λ (l : List Entry). AreHostSteps network true is.earlier (host_from l) is.past) same is.before;
      lines = is.lines;
      answered = go_on start was now is.earlier same grown goes is.answered;
    }

    steps_true : (s : Standing D) → IsBase about disk s → AreHostSteps network true (exchanges s.story) (host_from s.since) s.host
    steps_true s base = subst (λ (b : Bool). AreHostSteps network b (exchanges s.story) (host_from s.since) s.host) waits base.steps

    joins_now : (s : Standing D) (base : IsBase about disk s) → Goes about disk start s → s.is_link ≡ true → IsPrefix s.host.history leader → (count : ℕ) → LeadsBy network about.required s.since (exchanges s.story) (link_in s.story) (Some count)
        → (is : IsHeardBehind network s.since (exchanges s.story) (link_in s.story) count) × IsAnswered start s is.earlier
    joins_now s base goes live longer count leads =
        let is = subst (λ (b : Bool). LeadsBy network b s.since (exchanges s.story) (link_in s.story) (Some count)) waits leads in
        let whole = steps_true s base in
        let old = front_grows network true is.earlier is.later (host_from s.since) is.past s.host is.before (subst (λ (l : List Told). AreHostSteps network true l (host_from s.since) s.host) is.split whole) in
        let behind = is.behind in
        let begins = prefix_on is.past.history s.host.history leader old longer in
        let cut : offered_texts s.said ≡ flat_map line_of behind.lines ++ (behind.whole.rest ++ base.carried.untold) =
        sym base.carried.gave ∙ ap (λ (l : Link). l.given ++ base.carried.untold) (base.link_is live) ∙ ap (λ (l : List ℕ). l ++ base.carried.untold) behind.whole.cut
        ∙ append_assoc (flat_map line_of behind.lines) behind.whole.rest base.carried.untold in
        let lines = lines_few s.said behind.lines (behind.whole.rest ++ base.carried.untold) base.carried.written behind.whole.plain cut in
        let early : s.link.early (length is.earlier) ++ behind.rest ≡ packets_bytes behind.first = ap (λ (l : Link). l.early (length is.earlier) ++ behind.rest) (base.link_is live) ∙ behind.within in (
          is,
          find (exchanges s.story) is.earlier (is.later, sym is.split) behind.first (λ packets more are got. few_of network leader is_leader behind.told is.past.history begins packets behind.first more are behind.are (sym got)) start own fresh s goes live (front_same (exchanges s.story)) (behind.rest, early)
              (omega (arith, behind.more, lines, as_many start s own fresh goes)),
        )

    held_now : (s : Standing D) (base : IsBase about disk s) (count : ℕ) (host : HostState) → Goes about disk start s → s.is_link ≡ true → IsPrefix s.host.history leader → HasStory about s.since (s.story ++ Holds (Upto count) ∷ []) → GoesTo network about.required (Holds (Upto count)) s.host host
        → IsCarried (stepped s (Holds (Upto count)) host).link s.packets s.said → IsHeld (stepped s (Holds (Upto count)) host)
    held_now s base count host goes live longer story to carried =
        let may = last_held about s.since story.0 (s.story ++ Holds (Upto count) ∷ []) s.story (Upto count) story.1 story.2 refl in
        let both = joins_now s base goes live longer count may.0 in
        let is = both.0 in
        record {
          count = count;
          hold = hold-push s.story (Holds (Upto count));
          earlier = is.earlier;
          begins = subst (IsPrefix is.earlier) (sym (exchanges-holds s.story (Upto count))) (is.later, sym is.split);
          past = is.past;
          before = is.before;
          lines = is.lines;
          answered = go_on start s (stepped s (Holds (Upto count)) host) is.earlier refl (Holds (Upto count) ∷ [], refl) (λ first goes_on. hosts (Holds (Upto count)) host goes_on to story carried) both.1;
        }

    pub held_all : (now : Standing D) → Goes about disk start now → IsPrefix now.host.history leader → now.decides ≡ true → IsHeld now
    held_all _ at_first longer decides = absurd (false≢true (sym fresh.decides ∙ decides))
    held_all _ (hosts {was} step host before goes story carried) longer decides = by step goes story carried longer decides
        (λ same. held_all was before same)
      where
        by : (step : Moves) (goes : GoesTo network about.required step was.host host) → HasStory about was.since (was.story ++ step ∷ []) → IsCarried (stepped was step host).link was.packets was.said → IsPrefix host.history leader → (stepped was step host).decides ≡ true
            → (IsPrefix was.host.history leader → was.decides ≡ true → IsHeld was) → IsHeld (stepped was step host)
        by (Happens happening) to story carried longer decides old =
            held_on was (stepped was (Happens happening) host) refl (Happens happening ∷ [], refl) (hold-push was.story (Happens happening)) (grow_step was.story (Happens happening)) (λ first goes_on. hosts (Happens happening) host goes_on to story carried)
            (old (front_on was.host.history host.history leader (goes_grows about disk (Happens happening) was.host host to) longer) decides)
        by (Answers exchange) to story carried longer decides old =
            held_on was (stepped was (Answers exchange) host) refl (Answers exchange ∷ [], refl) (hold-push was.story (Answers exchange)) (grow_step was.story (Answers exchange)) (λ first goes_on. hosts (Answers exchange) host goes_on to story carried)
            (old (front_on was.host.history host.history leader (goes_grows about disk (Answers exchange) was.host host to) longer) decides)
        by (Holds Alone) to story carried longer decides old = absurd (false≢true decides)
        by (Holds (Upto count)) to story carried longer decides old =
            held_now was (base_on about disk start was (fresh_base about disk own start fresh) before) count host before decides (front_on was.host.history host.history leader (goes_grows about disk (Holds (Upto count)) was.host host to) longer) story to carried
    held_all _ (offers {was} packet answer left before is carried) longer decides =
        held_on was (offered was packet answer left) refl (front_same was.story) refl (front_same (exchanges was.story)) (λ first goes_on. offers packet answer left goes_on is carried) (held_all was before longer decides)
    held_all _ (reopens {was} image store before may opened) longer decides =
        held_on was (reopened was store) refl (front_same was.story) refl (front_same (exchanges was.story)) (λ first goes_on. reopens image store goes_on may opened) (held_all was before longer decides)
    held_all _ (joins {was} before no_packets none_said carried) longer decides =
        held_on was (joined was) refl (front_same was.story) refl (front_same (exchanges was.story)) (λ first goes_on. joins goes_on no_packets none_said carried) (held_all was before longer decides)
    held_all _ (restarts {was} since before more) longer decides = absurd (false≢true decides)

    -- after each line whose reply was sent the follower answered
    pub answered_since : (told : Standing D) (x : Told) (state : HostState) → (was : WasTold about disk own start told x state) → IsPrefix told.host.history leader → AnsweredSince about disk start told was.before x
    answered_since told x state was longer =
        let base = base_on about disk start told (fresh_base about disk own start fresh) was.goes in
        let is = held_all told was.goes longer was.decides in
        let low = begun_low about told.since was.place was.early x was.begun base.story.0 told.story base.story.1 base.story.2 was.later was.split is.count is.hold in
        let steps = subst (λ (b : Bool). AreHostSteps network b (was.before ++ x ∷ []) (host_from told.since) state) waits was.steps in
        let needs = needs_of network true was.before x (host_from told.since) state steps in
        let whole : (was.before ++ x ∷ []) ++ was.after ≡ exchanges told.story = append_assoc was.before (x ∷ []) was.after ∙ sym was.there in
        let size = front_size (was.before ++ x ∷ []) was.after (exchanges told.story) whole in
        let past_size = front_size is.earlier is.begins.0 (exchanges told.story) is.begins.1 in
        let one = lines_of network true told.since (was.before ++ x ∷ []) state steps (omega (arith, was.few, size)) in
        let other = lines_of network true told.since is.earlier is.past is.before (omega (arith, was.few, past_size)) in
        let front = shorter (was.before ++ x ∷ []) is.earlier (exchanges told.story) (was.after, whole) is.begins (omega (arith, low, needs, one, other, is.lines)) in
        let found = is.answered in
        record {
          was = found.was;
          goes = found.goes;
          same = found.same;
          grown = found.grown;
          after = front.0 ++ found.more;
          line = found.lines ∙ ap (λ (l : List Told). l ++ found.more) (sym front.1) ∙ append_assoc (was.before ++ x ∷ []) front.0 found.more ∙ append_assoc was.before (x ∷ []) (front.0 ++ found.more);
          is_link = found.is_link;
          packet = found.packet;
          answer = found.answer;
          left = found.left;
          later = found.later;
        }
