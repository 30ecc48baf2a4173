-- A host and a follower from one moment to another.
use Rattle.std.proofs.Common.{◌≡◌, ◌∙◌, ◌⊎◌, inl, inr, ⊎_elim, ℕ, ◌≤◌, Bool, true, false, cond, List, [], ◌∷◌, ◌++◌, Option, None, Some, length, take, refl, sym, ap, subst, arith, append_assoc, All, Contains}
use Rattle.std.proofs.lemmas.Bool.{false≢true}
use Rattle.std.proofs.lemmas.List.Elements.{All-contains, All-nil, All-tail, Contains-append_left, Contains-append_right}
use mathlib.Core.List.{IsPrefix}
use Rattle.sha2.specs.Sha256.{sha256}
use Rattle.hose_graph.specs.Network.{Network}
use Rattle.hose_graph.specs.declared.entry.Entry.{Entry}
use Rattle.hose_disk.specs.declared.disk.Disk.{Ghosts}
use Rattle.hose_journal.specs.Image.{Meaning}
use Rattle.hose_journal.specs.steps.Chain.{Collide, hashed}
use Rattle.hose_law.proofs.Fronts.{prefix_on, prefix_same}
use Rattle.hose_store.specs.Recovery.{IsRecoveredAs, digest_of}
use Rattle.hose_store.specs.steps.Store.{KeptStore}
use Rattle.hose_follow.specs.Answers.{offered_text}
use Rattle.hose_follow.specs.Packet.{IsPacket, Packet, packets_bytes}
use Rattle.hose_follow.specs.Replication.{IsLeader}
use Rattle.hose_follow.specs.steps.Event.{Event}
use Rattle.hose_follow.specs.steps.Offering.{IsOffered}
use Rattle.hose_follow.specs.steps.Replication.{IsFollowing, IsOfLeader, IsReopened, Lead, MayBeLeft, Replication, told_after}
use Rattle.hose_follow.specs.declared.answers.Offered.{Offered}
use Rattle.hose_follow.specs.declared.answers.Offered.TheVariants.{Differs, Have}
use Rattle.hose_lead.specs.Leading.{BeginWith, IsCompared, IsHeard, Leads, no_value, nothing_yet as none_handed}
use Rattle.hose_net.specs.declared.hold.Hold.TheVariants.{Alone, Upto}
use Rattle.hose_net.specs.Story.{Answers, Exchange, Happens, Holds, Link, Step, began, exchanges, hold_in, link_in, links, no_link}
use Rattle.hose_net.proofs.Stories.{exchanges-happens, exchanges-holds, exchanges-push, hold-push, link-push}
use Rattle.hose_clerk.specs.HostLines.{HostLine}
use Rattle.hose_clerk.specs.Hosting.{AreHostSteps, HostState, LeadsBy, host_from}
use Rattle.hose_clerk.specs.declared.replies.HostReply.{HostReply}
use Rattle.hose_pair.specs.steps.Standing.{About, AreComing, Goes, GoesTo, HasStory, IsCarried, MayLeave, Standing, offered, opens, reopened, stepped, began as at_first, hosts, joins, offers, reopens, restarts}
use Rattle.hose_pair.proofs.Carried.{Comes, all_come, compared_told, have_told}
use Rattle.hose_pair.proofs.Followed.{IsApart, IsWith, Within, apart_on, apart_reopened, least_low, told_more, with_compared, with_image, with_offered, with_reopened, zeros_or}
use Rattle.hose_pair.proofs.Linked.{IsLedAt, last_held, link_led, steps_behind}
use Rattle.hose_pair.proofs.OneState.{front_grows, grows_one, one_state, steps_push}

abbrev Moves : Type 0
Moves = Step HostLine HostReply

abbrev Told : Type 0
Told = Exchange HostLine HostReply

-- ---- what is heard of a standby

-- So many lines were answered at some moment, when no more than this many entries stood.
pub record IsPast (network : Network) (since : List Entry) (all : List Told) (count most : ℕ) : Type 0 where
  pub earlier : List Told
  pub later : List Told
  pub split : all ≡ earlier ++ later
  pub past : HostState
  pub before : AreHostSteps network true earlier (host_from since) past
  pub lines : past.tally.lines ≡ count
  pub had : length past.history ≤ most

-- where so much is heard, so many entries are: as many, or those behind so many lines
abbrev pub Covered : Network → Bool → List Entry → List Told → ℕ → ℕ → Type 0
Covered network false since all count most = count ≤ most
Covered network true since all count most = IsPast network since all count most

covered_more : (network : Network) (required : Bool) (since : List Entry) (all : List Told) (count most more : ℕ) → most ≤ more → Covered network required since all count most → Covered network required since all count more
covered_more network false since all count most more less covered = omega (arith, covered, less)
covered_more network true since all count most more less past = record {
  earlier = past.earlier;
  later = past.later;
  split = past.split;
  past = past.past;
  before = past.before;
  lines = past.lines;
  had = omega (arith, past.had, less);
}

covered_push : (network : Network) (required : Bool) (since : List Entry) (all : List Told) (x : Told) (count most : ℕ) → Covered network required since all count most → Covered network required since (all ++ x ∷ []) count most
covered_push network false since all x count most covered = covered
covered_push network true since all x count most past = record {
  earlier = past.earlier;
  later = past.later ++ x ∷ [];
  split = ap (λ (l : List Told). l ++ x ∷ []) past.split ∙ append_assoc past.earlier past.later (x ∷ []);
  past = past.past;
  before = past.before;
  lines = past.lines;
  had = past.had;
}

record IsHeardBy (network : Network) (required : Bool) (since : List Entry) (all : List Told) (link : Link) (count : ℕ) (host : HostState) : Type 0 where
  state : HostState
  is : state ≡ host
  lines : List (List ℕ)
  whole : BeginWith link.given lines
  entries : ℕ
  heard : IsHeard network state.history lines entries
  covers : Covered network required since all count entries

heard_by : (network : Network) (required : Bool) (since : List Entry) (all : List Told) (link : Link) (count : ℕ) (host : HostState) → AreHostSteps network required all (host_from since) host → LeadsBy network required since all link (Some count) → IsHeardBy network required since all link count host
heard_by network false since all link count host steps (state, steps', leads) = record {
  state = state;
  is = one_state network false all (host_from since) state host steps' steps;
  lines = leads.lines;
  whole = leads.whole;
  entries = count;
  heard = leads.has;
  covers = omega arith;
}
heard_by network true since all link count host steps is = record {
  state = is.state;
  is = one_state network true all (host_from since) is.state host (steps_behind network since all link count is) steps;
  lines = is.leads.lines;
  whole = is.leads.whole;
  entries = is.count;
  heard = is.leads.has;
  covers = record {
    earlier = is.earlier;
    later = is.later;
    split = is.split;
    past = is.past;
    before = is.before;
    lines = is.lines;
    had = is.had;
  };
}

-- ---- what holds at each moment

-- what a connection gave and was sent is what a leader's is that has a beginning of this history
pub record IsLed (network : Network) (history : List Entry) (link : Link) : Type 0 where
  pub list : List Entry
  pub begins : IsPrefix list history
  pub heard : Option ℕ
  pub leads : Leads network list link.given link.sent heard

led_longer : (network : Network) (history next : List Entry) (link : Link) → IsPrefix history next → IsLed network history link → IsLed network next link
led_longer network history next link longer led = record { list = led.list; begins = prefix_on led.list history next led.begins longer; heard = led.heard; leads = led.leads }

led_at : (network : Network) (required : Bool) (since : List Entry) (all : List Told) (host : HostState) (link : Link) → AreHostSteps network required all (host_from since) host → IsLedAt network required since all link.given link.sent → IsLed network host.history link
led_at network required since all host link steps led = record {
  list = led.state.history;
  begins = front_grows network required led.before led.later (host_from since) led.state host led.steps (subst (λ (l : List Told). AreHostSteps network required l (host_from since) host) led.split steps);
  heard = led.heard;
  leads = led.leads;
}

all_behind : {X : Type 0} (P : X → Type 0) (xs ys : List X) → All P (xs ++ ys) → All P ys
all_behind P [] ys all = all
all_behind P (x ∷ xs) ys all = all_behind P xs ys (All-tail P x (xs ++ ys) all)

module _ {N B D : Type 0} (about : About N B) (disk : Ghosts D) where
  abbrev network : Network
  network = about.network

  abbrev required : Bool
  required = about.required

  pub record IsBase (s : Standing D) : Type 0 where
    pub story : HasStory about s.since s.story
    pub steps : AreHostSteps network required (exchanges s.story) (host_from s.since) s.host
    pub link_is : s.is_link ≡ true → s.link ≡ link_in s.story
    pub led : IsLed network s.host.history s.link
    pub carried : IsCarried s.link s.packets s.said

  pub none_carried : IsCarried no_link [] []
  none_carried = record { are = All-nil IsPacket; unread = []; got = refl; written = All-nil _; untold = []; gave = refl }

  story_led : (since : List Entry) (story : List Moves) (host : HostState) → HasStory about since story → AreHostSteps network required (exchanges story) (host_from since) host → IsLed network host.history (link_in story)
  story_led since story host (first, now, hosted) steps = led_at network required since (exchanges story) host (link_in story) steps (link_led about since first story now hosted)

  pub nothing_led : (history : List Entry) → IsLed network history no_link
  nothing_led history = record {
    list = [];
    begins = (history, refl);
    heard = None;
    leads = record {
      lines = [];
      whole = record { rest = []; cut = refl; plain = All-nil _ };
      packets = [];
      unsent = [];
      handed = refl;
      are = none_handed;
      has = tt;
    };
  }

  -- ---- a step of the story

  pub goes_grows : (step : Moves) (old new : HostState) → GoesTo network required step old new → IsPrefix old.history new.history
  goes_grows (Happens happening) old new same = subst (λ (s : HostState). IsPrefix old.history s.history) (sym same) (prefix_same old.history)
  goes_grows (Answers exchange) old new step = grows_one network required exchange old new step
  goes_grows (Holds hold) old new same = subst (λ (s : HostState). IsPrefix old.history s.history) (sym same) (prefix_same old.history)

  goes_steps : (story : List Moves) (since : List Entry) (step : Moves) (old new : HostState) → GoesTo network required step old new → AreHostSteps network required (exchanges story) (host_from since) old → AreHostSteps network required (exchanges (story ++ step ∷ [])) (host_from since) new
  goes_steps story since (Happens happening) old new same steps =
      subst (λ (l : List Told). AreHostSteps network required l (host_from since) new) (sym (exchanges-happens story happening)) (subst (AreHostSteps network required (exchanges story) (host_from since)) (sym same) steps)
  goes_steps story since (Answers exchange) old new step steps =
      subst (λ (l : List Told). AreHostSteps network required l (host_from since) new) (sym (exchanges-push story exchange)) (steps_push network required (exchanges story) exchange (host_from since) old new steps step)
  goes_steps story since (Holds hold) old new same steps =
      subst (λ (l : List Told). AreHostSteps network required l (host_from since) new) (sym (exchanges-holds story hold)) (subst (AreHostSteps network required (exchanges story) (host_from since)) (sym same) steps)

  link_now : (opened live : Bool) (link : Link) (story : List Moves) (step : Moves) → (live ≡ true → link ≡ link_in story) → cond opened false live ≡ true → cond opened link (cond live (links link step) link) ≡ link_in (story ++ step ∷ [])
  link_now true live link story step same is = absurd (false≢true is)
  link_now false true link story step same is = ap (λ (l : Link). links l step) (same refl) ∙ sym (link-push story step)
  link_now false false link story step same is = absurd (false≢true is)

  led_now : (opened live : Bool) (link : Link) (story : List Moves) (step : Moves) (history : List Entry) → (live ≡ true → link ≡ link_in story) → IsLed network history link → IsLed network history (link_in (story ++ step ∷ [])) → IsLed network history (cond opened link (cond live (links link step) link))
  led_now true live link story step history same was now = was
  led_now false true link story step history same was now = subst (IsLed network history) (sym (link_now false true link story step same refl)) now
  led_now false false link story step history same was now = was

  base_step : (s : Standing D) (step : Moves) (host : HostState) → IsBase s → GoesTo network required step s.host host → HasStory about s.since (s.story ++ step ∷ []) → IsCarried (stepped s step host).link s.packets s.said → IsBase (stepped s step host)
  base_step s step host base goes story carried =
      let steps = goes_steps s.story s.since step s.host host goes base.steps in
      record {
        story = story;
        steps = steps;
        link_is = λ is. link_now (opens step) s.is_link s.link s.story step base.link_is is;
        led = led_now (opens step) s.is_link s.link s.story step host.history base.link_is
            (led_longer network s.host.history host.history s.link (goes_grows step s.host host goes) base.led) (story_led s.since (s.story ++ step ∷ []) host story steps);
        carried = carried;
      }

  -- ---- all that may happen

  pub base_on : (first now : Standing D) → IsBase first → Goes about disk first now → IsBase now
  base_on first _ base at_first = base
  base_on first _ base (hosts {was} step host before goes story carried) = base_step was step host (base_on first was base before) goes story carried
  base_on first _ base (offers {was} packet answer left before is carried) =
      let old = base_on first was base before in
      record { story = old.story; steps = old.steps; link_is = old.link_is; led = old.led; carried = carried }
  base_on first _ base (reopens {was} image store before may opened) =
      let old = base_on first was base before in
      record { story = old.story; steps = old.steps; link_is = λ is. absurd (false≢true is); led = nothing_led was.host.history; carried = none_carried }
  base_on first _ base (joins {was} before no_packets none_said carried) =
      let old = base_on first was base before in
      record {
        story = old.story;
        steps = old.steps;
        link_is = λ is. refl;
        led = story_led was.since was.story was.host old.story old.steps;
        carried = subst (λ (l : List Packet). IsCarried (link_in was.story) l was.said) (sym no_packets) (subst (λ (l : List Offered). IsCarried (link_in was.story) [] l) (sym none_said) carried);
      }
  base_on first _ base (restarts {was} since before longer) =
      let old = base_on first was base before in
      record {
        story = (old.story.0, old.story.0, began);
        steps = refl;
        link_is = λ is. absurd (false≢true is);
        led = led_longer network was.host.history since was.link longer old.led;
        carried = old.carried;
      }

  pub grows_on : (first now : Standing D) → Goes about disk first now → IsPrefix first.host.history now.host.history
  grows_on first _ at_first = prefix_same first.host.history
  grows_on first _ (hosts {was} step host before goes story carried) = prefix_on first.host.history was.host.history host.history (grows_on first was before) (goes_grows step was.host host goes)
  grows_on first _ (offers {was} packet answer left before is carried) = grows_on first was before
  grows_on first _ (reopens {was} image store before may opened) = grows_on first was before
  grows_on first _ (joins {was} before no_packets none_said carried) = grows_on first was before
  grows_on first _ (restarts {was} since before longer) = prefix_on first.host.history was.host.history since (grows_on first was before) longer

  -- ---- where the list of the last moment is the leader's

  module _ (leader : List Entry) (is_leader : IsLeader network leader) (once : (image : List ℕ) (one other : Meaning Entry) → IsRecoveredAs network image one → IsRecoveredAs network image other → one ≡ other)
      (only_now : (now : D) (image : List ℕ) → disk.left_since now (disk.moment now) image → disk.may_leave now image)
      (stays : (old new : Replication D) (events : List Event) → IsFollowing disk network old → Lead disk network old events new → IsFollowing disk network new)
      (images : (state : Replication D) (image : List ℕ) → IsFollowing disk network state → MayBeLeft disk network state image → IsOfLeader network state.leader state.told image) where
    -- What is heard, by which replies are held now, is no more than was told.
    abbrev Covers : Standing D → ℕ → Type 0
    Covers s most = s.decides ≡ true → (count : ℕ) × (hold_in s.story ≡ Upto count) × Covered network required s.since (exchanges s.story) count most

    -- The follower was compared with the leader's list, and so many entries at least were told.
    pub record IsKnown (least : ℕ) (s : Standing D) : Type 0 where
      pub most : ℕ
      pub low : least ≤ most
      pub follows : IsWith disk network leader most s.store s.said
      pub covers : Covers s most

    begins_led : (s : Standing D) (base : IsBase s) → IsPrefix s.host.history leader → IsPrefix base.led.list leader
    begins_led s base longer = prefix_on base.led.list s.host.history leader base.led.begins longer

    abbrev May : (s : Standing D) (base : IsBase s) → IsPrefix s.host.history leader → Packet → Type 0
    May s base longer packet = Comes network leader is_leader base.led.leads.lines base.led.list (begins_led s base longer) packet

    -- packets that come by the connection are such as a leader's
    may_come : (s : Standing D) (base : IsBase s) (longer : IsPrefix s.host.history leader) (packets : List Packet) (unread : List ℕ) → All IsPacket packets → packets_bytes packets ++ unread ≡ s.link.sent → All (May s base longer) packets
    may_come s base longer packets unread are got =
        let leads = base.led.leads in
        all_come network leader is_leader leads.lines base.led.list (begins_led s base longer) packets leads.packets s.link.sent leads.unsent unread are got leads.handed leads.are

    last_comes : (s : Standing D) (base : IsBase s) (longer : IsPrefix s.host.history leader) (packet : Packet) (said : List Offered) → IsCarried s.link (s.packets ++ packet ∷ []) said → May s base longer packet
    last_comes s base longer packet said carried =
        All-contains (May s base longer) (s.packets ++ packet ∷ []) packet (may_come s base longer (s.packets ++ packet ∷ []) carried.unread carried.are carried.got)
        (Contains-append_right s.packets (packet ∷ []) packet (0, omega arith, refl))

    coming_come : (s : Standing D) (base : IsBase s) (longer : IsPrefix s.host.history leader) (coming : List Packet) → AreComing s.link s.packets coming → All (May s base longer) coming
    coming_come s base longer coming are = all_behind (May s base longer) s.packets coming (may_come s base longer (s.packets ++ coming) are.unread are.are are.got)

    -- ---- what is heard

    -- what a story tells of its link where it is last told how replies are held
    record IsHeardHere (s : Standing D) (count : ℕ) : Type 0 where
      list : List Entry
      lines : List (List ℕ)
      begins : IsPrefix list leader
      whole : BeginWith s.link.given lines
      entries : ℕ
      heard : IsHeard network list lines entries
      covers : Covered network required s.since (exchanges s.story) count entries

    heard_here : (s : Standing D) (base : IsBase s) (count : ℕ) → IsPrefix s.host.history leader → s.is_link ≡ true → HasStory about s.since (s.story ++ Holds (Upto count) ∷ []) → IsHeardHere s count
    heard_here s base count longer live (first, now, hosted) =
        let may = last_held about s.since first (s.story ++ Holds (Upto count) ∷ []) s.story (Upto count) now hosted refl in
        let here = heard_by network required s.since (exchanges s.story) (link_in s.story) count s.host base.steps may.0 in
        record {
          list = here.state.history;
          lines = here.lines;
          begins = subst (λ (h : HostState). IsPrefix h.history leader) (sym here.is) longer;
          whole = subst (λ (l : Link). BeginWith l.given here.lines) (sym (base.link_is live)) here.whole;
          entries = here.entries;
          heard = here.heard;
          covers = here.covers;
        }

    -- it was told
    heard_told : (s : Standing D) (base : IsBase s) (count : ℕ) → (here : IsHeardHere s count) → Contains s.said (Have here.entries)
    heard_told s base count here =
        have_told network leader is_leader here.lines here.list here.begins s.link.given base.carried.untold s.said here.whole base.carried.written base.carried.gave here.entries here.heard

    covers_step : (s : Standing D) (base : IsBase s) (step : Moves) (host : HostState) (most : ℕ) → IsPrefix s.host.history leader → All (Within most) s.said → Covers s most → HasStory about s.since (s.story ++ step ∷ []) → Covers (stepped s step host) most
    covers_step s base (Happens happening) host most longer told covers story is =
        let was = covers is in
        (was.0, hold-push s.story (Happens happening) ∙ was.1, subst (λ (l : List Told). Covered network required s.since l was.0 most) (sym (exchanges-happens s.story happening)) was.2)
    covers_step s base (Answers exchange) host most longer told covers story is =
        let was = covers is in
        (was.0, hold-push s.story (Answers exchange) ∙ was.1, subst (λ (l : List Told). Covered network required s.since l was.0 most) (sym (exchanges-push s.story exchange)) (covered_push network required s.since (exchanges s.story) exchange was.0 most was.2))
    covers_step s base (Holds Alone) host most longer told covers story is = absurd (false≢true is)
    covers_step s base (Holds (Upto count)) host most longer told covers story is =
        let here = heard_here s base count longer is story in
        let low = All-contains (Within most) s.said (Have here.entries) told (heard_told s base count here) in (
          count,
          hold-push s.story (Holds (Upto count)),
          subst (λ (l : List Told). Covered network required s.since l count most) (sym (exchanges-holds s.story (Upto count)))
              (covered_more network required s.since (exchanges s.story) count here.entries most low here.covers),
        )

    -- ---- a follower that was compared

    covers_more : (s : Standing D) (most more : ℕ) → most ≤ more → Covers s most → Covers s more
    covers_more s most more less covers is = let was = covers is in (was.0, was.1, covered_more network required s.since (exchanges s.story) was.0 most more less was.2)

    known_offered : (least : ℕ) (s : Standing D) (base : IsBase s) (longer : IsPrefix s.host.history leader) (packet : Packet) (answer : Offered) (left : KeptStore D) → IsKnown least s → IsOffered disk s.store packet answer left → IsCarried s.link (s.packets ++ packet ∷ []) (s.said ++ answer ∷ [])
        → IsKnown least (offered s packet answer left)
    known_offered least s base longer packet answer left known is carried =
        let comes = last_comes s base longer packet (s.said ++ answer ∷ []) carried in
        let more = told_more known.most answer in
        record {
          most = told_after known.most answer;
          low = omega (arith, known.low, more);
          follows = with_offered disk network leader is_leader stays base.led.leads.lines base.led.list (begins_led s base longer) known.most s.store left s.said packet answer known.follows comes is;
          covers = covers_more s known.most (told_after known.most answer) more known.covers;
        }

    known_reopened : (least : ℕ) (s : Standing D) (base : IsBase s) (longer : IsPrefix s.host.history leader) (image : List ℕ) (store : KeptStore D) → IsKnown least s → MayLeave disk network s image → IsReopened disk network image store → IsKnown least (reopened s store)
    known_reopened least s base longer image store known (coming, are, may) opened = record {
      most = known.most;
      low = known.low;
      follows = with_reopened disk network leader is_leader stays base.led.leads.lines base.led.list (begins_led s base longer) coming (coming_come s base longer coming are) known.most s.store store s.said image known.follows may opened;
      covers = known.covers;
    }

    pub known_on : (least : ℕ) (first now : Standing D) → IsBase first → IsKnown least first → Goes about disk first now → IsPrefix now.host.history leader → IsKnown least now
    known_on least first _ base known at_first longer = known
    known_on least first _ base known (hosts {was} step host before goes story carried) longer =
        let less = prefix_on was.host.history host.history leader (goes_grows step was.host host goes) longer in
        let old = known_on least first was base known before less in
        record { most = old.most; low = old.low; follows = old.follows; covers = covers_step was (base_on first was base before) step host old.most less old.follows.told old.covers story }
    known_on least first _ base known (offers {was} packet answer left before is carried) longer =
        known_offered least was (base_on first was base before) longer packet answer left (known_on least first was base known before longer) is carried
    known_on least first _ base known (reopens {was} image store before may opened) longer =
        known_reopened least was (base_on first was base before) longer image store (known_on least first was base known before longer) may opened
    known_on least first _ base known (joins {was} before no_packets none_said carried) longer =
        let old = known_on least first was base known before longer in
        record { most = old.most; low = old.low; follows = old.follows; covers = old.covers }
    known_on least first _ base known (restarts {was} since before more) longer =
        let old = known_on least first was base known before (prefix_on was.host.history since leader more longer) in
        record { most = old.most; low = old.low; follows = old.follows; covers = λ is. absurd (false≢true is) }

    -- each image has what was told
    pub known_image : (least : ℕ) (s : Standing D) (base : IsBase s) → IsPrefix s.host.history leader → IsKnown least s → (image : List ℕ) → MayLeave disk network s image → IsOfLeader network leader least image
    known_image least s base longer known image (coming, are, may) =
        least_low disk network leader is_leader least known.most image known.low
        (with_image disk network leader is_leader stays base.led.leads.lines base.led.list (begins_led s base longer) coming (coming_come s base longer coming are) images known.most s.store s.said image known.follows may)

    -- ---- a follower that was not compared yet

    module _ (own : List Entry) where
      abbrev Collides : Type 0
      Collides = Collide sha256 (hashed (digest_of network) own ++ hashed (digest_of network) (take (length own) leader))

      -- It has what it began with, and how replies are held is nothing that was heard of it.
      pub record IsUnknown (s : Standing D) : Type 0 where
        pub apart : IsApart disk network own s.store s.said
        pub decides : s.decides ≡ false

      abbrev pub IsEither : Standing D → Type 0
      IsEither s = IsUnknown s ⊎ (IsKnown 0 s ⊎ Collides)

      -- from a line on by which it was compared it is known
      now_known : (s : Standing D) (list : List Entry) (lines : List (List ℕ)) (start : ℕ) → IsBase s → IsPrefix list leader → BeginWith s.link.given lines → IsCompared network list lines start → IsUnknown s → IsKnown 0 s ⊎ Collides
      now_known s list lines start base begins whole same unknown = ⊎_elim
          (λ follows. inl (record { most = length own; low = omega arith; follows = follows; covers = λ is. absurd (false≢true (sym unknown.decides ∙ is)) }))
          (λ collides. inr collides)
          (with_compared disk network leader is_leader own list s.store s.said start lines unknown.apart begins same
          (compared_told network leader is_leader lines list begins s.link.given base.carried.untold s.said whole base.carried.written base.carried.gave start same))

      same_decides : (s : Standing D) (step : Moves) (host : HostState) → IsUnknown s → (stepped s step host).decides ≡ false → IsUnknown (stepped s step host)
      same_decides s step host unknown is = record { apart = unknown.apart; decides = is }

      known_step : (s : Standing D) (base : IsBase s) (step : Moves) (host : HostState) → IsPrefix s.host.history leader → HasStory about s.since (s.story ++ step ∷ []) → IsKnown 0 s ⊎ Collides → IsKnown 0 (stepped s step host) ⊎ Collides
      known_step s base step host longer story (inl known) = inl (record { most = known.most; low = known.low; follows = known.follows; covers = covers_step s base step host known.most longer known.follows.told known.covers story })
      known_step s base step host longer story (inr collides) = inr collides

      in_compared : (lines : List (List ℕ)) (list : List Entry) (count : ℕ) → (heard : IsHeard network list lines count) → IsCompared network list lines heard.start
      in_compared lines list count heard = record {
        own = heard.compared.own;
        same = heard.compared.same;
        told = subst (λ (l : List (List ℕ)). Contains l (offered_text (Differs heard.start heard.compared.own no_value))) (sym heard.split)
            (Contains-append_left heard.earlier heard.later (offered_text (Differs heard.start heard.compared.own no_value)) heard.compared.told);
      }

      joins_now : (s : Standing D) (base : IsBase s) (count : ℕ) (host : HostState) (live : Bool) → s.is_link ≡ live → IsPrefix s.host.history leader → HasStory about s.since (s.story ++ Holds (Upto count) ∷ []) → IsUnknown s → IsEither (stepped s (Holds (Upto count)) host)
      joins_now s base count host false live longer story unknown = inl (same_decides s (Holds (Upto count)) host unknown live)
      joins_now s base count host true live longer story unknown =
          let here = heard_here s base count longer live story in
          inr (known_step s base (Holds (Upto count)) host longer story (now_known s here.list here.lines here.heard.start base here.begins here.whole (in_compared here.lines here.list here.entries here.heard) unknown))

      unknown_step : (s : Standing D) (base : IsBase s) (step : Moves) (host : HostState) → IsPrefix s.host.history leader → HasStory about s.since (s.story ++ step ∷ []) → IsUnknown s → IsEither (stepped s step host)
      unknown_step s base (Happens happening) host longer story unknown = inl (same_decides s (Happens happening) host unknown unknown.decides)
      unknown_step s base (Answers exchange) host longer story unknown = inl (same_decides s (Answers exchange) host unknown unknown.decides)
      unknown_step s base (Holds Alone) host longer story unknown = inl (same_decides s (Holds Alone) host unknown refl)
      unknown_step s base (Holds (Upto count)) host longer story unknown = joins_now s base count host s.is_link refl longer story unknown

      known_too : (s : Standing D) (base : IsBase s) (longer : IsPrefix s.host.history leader) (packet : Packet) (answer : Offered) (left : KeptStore D) → IsKnown 0 s ⊎ Collides → IsOffered disk s.store packet answer left → IsCarried s.link (s.packets ++ packet ∷ []) (s.said ++ answer ∷ [])
          → IsKnown 0 (offered s packet answer left) ⊎ Collides
      known_too s base longer packet answer left (inl known) is carried = inl (known_offered 0 s base longer packet answer left known is carried)
      known_too s base longer packet answer left (inr collides) is carried = inr collides

      unknown_offered : (s : Standing D) (base : IsBase s) (longer : IsPrefix s.host.history leader) (packet : Packet) (answer : Offered) (left : KeptStore D) → IsUnknown s → IsOffered disk s.store packet answer left → IsCarried s.link (s.packets ++ packet ∷ []) (s.said ++ answer ∷ [])
          → May s base longer packet → IsEither (offered s packet answer left)
      unknown_offered s base longer packet answer left unknown is carried (inl empty) = inl (record { apart = apart_on disk network own s.store left s.said packet answer unknown.apart empty is; decides = unknown.decides })
      unknown_offered s base longer packet answer left unknown is carried (inr (sent, (start, same))) =
          inr (known_too s base longer packet answer left (now_known s base.led.list base.led.leads.lines start base (begins_led s base longer) base.led.leads.whole same unknown) is carried)

      known_again : (s : Standing D) (base : IsBase s) (longer : IsPrefix s.host.history leader) (image : List ℕ) (store : KeptStore D) → IsKnown 0 s ⊎ Collides → MayLeave disk network s image → IsReopened disk network image store → IsKnown 0 (reopened s store) ⊎ Collides
      known_again s base longer image store (inl known) may opened = inl (known_reopened 0 s base longer image store known may opened)
      known_again s base longer image store (inr collides) may opened = inr collides

      unknown_reopened : (s : Standing D) (base : IsBase s) (longer : IsPrefix s.host.history leader) (image : List ℕ) (store : KeptStore D) → IsUnknown s → MayLeave disk network s image → IsReopened disk network image store → IsEither (reopened s store)
      unknown_reopened s base longer image store unknown (coming, are, may) opened = ⊎_elim
          (λ zeros. inl (record { apart = apart_reopened disk network own once only_now coming zeros s.store store s.said image unknown.apart may opened; decides = unknown.decides }))
          (λ same. inr (known_again s base longer image store (now_known s base.led.list base.led.leads.lines same.0 base (begins_led s base longer) base.led.leads.whole same.1 unknown) (coming, are, may) opened))
          (zeros_or disk network leader is_leader stays base.led.leads.lines base.led.list (begins_led s base longer) coming (coming_come s base longer coming are))

      pub either_on : (first now : Standing D) → IsBase first → IsUnknown first → Goes about disk first now → IsPrefix now.host.history leader → IsEither now
      either_on first _ base unknown at_first longer = inl unknown
      either_on first _ base unknown (hosts {was} step host before goes story carried) longer =
          let less = prefix_on was.host.history host.history leader (goes_grows step was.host host goes) longer in
          let here = base_on first was base before in
          ⊎_elim
          (λ still. unknown_step was here step host less story still)
          (λ known. inr (known_step was here step host less story known))
          (either_on first was base unknown before less)
      either_on first _ base unknown (offers {was} packet answer left before is carried) longer =
          let here = base_on first was base before in
          ⊎_elim
          (λ still. unknown_offered was here longer packet answer left still is carried (last_comes was here longer packet (was.said ++ answer ∷ []) carried))
          (λ known. inr (known_too was here longer packet answer left known is carried))
          (either_on first was base unknown before longer)
      either_on first _ base unknown (reopens {was} image store before may opened) longer =
          let here = base_on first was base before in
          ⊎_elim
          (λ still. unknown_reopened was here longer image store still may opened)
          (λ known. inr (known_again was here longer image store known may opened))
          (either_on first was base unknown before longer)
      either_on first _ base unknown (joins {was} before no_packets none_said carried) longer = ⊎_elim
          (λ still. inl (record { apart = still.apart; decides = still.decides }))
          (λ known. inr (⊎_elim (λ one. inl (record { most = one.most; low = one.low; follows = one.follows; covers = one.covers })) (λ collides. inr collides) known))
          (either_on first was base unknown before longer)
      either_on first _ base unknown (restarts {was} since before more) longer = ⊎_elim
          (λ still. inl (record { apart = still.apart; decides = refl }))
          (λ known. inr (⊎_elim (λ one. inl (record { most = one.most; low = one.low; follows = one.follows; covers = λ is. absurd (false≢true is) })) (λ collides. inr collides) known))
          (either_on first was base unknown before (prefix_on was.host.history since leader more longer))
