-- What a reply that was sent tells of a follower's disk.
use Rattle.std.proofs.Common.{◌≡◌, ◌∙◌, ◌⊎◌, inl, inr, ⊎_elim, ℕ, ◌+◌, ◌-◌, ◌^◌, ◌<◌, ◌≤◌, Bool, true, false, List, [], ◌∷◌, ◌++◌, length, take, refl, sym, ap, subst, arith, append_assoc, length-append, All}
use Rattle.std.proofs.lemmas.Bool.{false≢true}
use Rattle.std.proofs.lemmas.List.Elements.{All-nil}
use mathlib.Core.List.{IsPrefix}
use Rattle.sha2.specs.Sha256.{sha256}
use Rattle.hose_graph.specs.Network.{Network}
use Rattle.hose_graph.specs.declared.entry.Entry.{Entry}
use Rattle.hose_disk.specs.declared.disk.Disk.{Ghosts}
use Rattle.hose_journal.specs.Image.{Meaning}
use Rattle.hose_journal.specs.steps.Chain.{Collide, hashed}
use Rattle.hose_law.proofs.Fronts.{prefix_length, prefix_on}
use Rattle.hose_store.specs.Recovery.{IsRecoveredAs, digest_of}
use Rattle.hose_follow.specs.Packet.{Packet}
use Rattle.hose_follow.specs.Replication.{IsLeader}
use Rattle.hose_follow.specs.steps.Event.{Event}
use Rattle.hose_follow.specs.steps.Replication.{IsFollowing, IsOfLeader, Lead, MayBeLeft, Replication}
use Rattle.hose_follow.specs.declared.answers.Offered.{Offered}
use Rattle.hose_net.specs.declared.hold.Hold.TheVariants.{Upto}
use Rattle.hose_net.specs.Story.{Answers, Exchange, Happens, Holds, Hosts, Link, Step, answered, began, exchanges, happened, held, hold_in, no_link, waited}
use Rattle.hose_clerk.specs.HostLines.{HostLine}
use Rattle.hose_clerk.specs.Hosting.{AreHostSteps, HostState, host_from, needed}
use Rattle.hose_clerk.specs.declared.replies.HostReply.{HostReply}
use Rattle.hose_pair.specs.steps.Orders.{HasOrders}
use Rattle.hose_pair.specs.steps.Standing.{About, Goes, IsCarried, IsFresh, MayLeave, Standing, WasTold, terms_of}
use Rattle.hose_pair.proofs.Followed.{TellsOwn}
use Rattle.hose_pair.proofs.Linked.{begun_low, cut_last}
use Rattle.hose_pair.proofs.OneState.{front_grows, lines_of, steps_split}
use Rattle.hose_pair.proofs.Together.{Covered, IsBase, IsKnown, IsLed, IsUnknown, base_on, either_on, grows_on, known_image, known_on, none_carried, nothing_led}

-- of two beginnings of a list the shorter one is a beginning of the other
pub shorter : {X : Type 0} (one two all : List X) → IsPrefix one all → IsPrefix two all → length one ≤ length two → IsPrefix one two
shorter [] two all begins also low = (two, refl)
shorter (x ∷ one) [] all begins also low = absurd (omega (arith, low))
shorter (x ∷ one) (y ∷ two) all begins also low =
    let same : x ∷ (one ++ begins.0) ≡ y ∷ (two ++ also.0) = begins.1 ∙ sym also.1 in
    let first : x ≡ y = cc same in
    let others : one ++ begins.0 ≡ two ++ also.0 = cc same in
    let rest = shorter one two (two ++ also.0) (begins.0, others) (also.0, refl) (omega (arith, low)) in
    (rest.0, ap (λ l. x ∷ l) rest.1 ∙ ap (λ z. z ∷ two) first)

-- a list has as many items as two that it is put together of
pub front_size : {X : Type 0} (one rest all : List X) → one ++ rest ≡ all → length all ≡ length one + length rest
front_size one rest all same = ap length (sym same) ∙ length-append one rest

orders_in : (network : Network) (orders leader : List Entry) (least : ℕ) (image : List ℕ) → IsPrefix orders leader → length orders ≤ least → IsOfLeader network leader least image → HasOrders network orders image
orders_in network orders leader least image begins low of = record {
  list = of.list;
  stands = of.stands;
  has = shorter orders of.list leader begins of.begins (omega (arith, low, of.told));
}

abbrev Told : Type 0
Told = Exchange HostLine HostReply

-- what a line that was answered needs
pub needs_of : (network : Network) (required : Bool) (before : List Told) (x : Told) (first state : HostState) → AreHostSteps network required (before ++ x ∷ []) first state → x.needs ≡ needed required state
needs_of network required before x first state steps =
    let split = steps_split network required before (x ∷ []) first state steps in
    let last = split.2 in
    last.1.needs ∙ ap (λ (s : HostState). needed required s) (sym last.2)

-- where what it needs is heard, all that stood when it was answered is told
reached : (network : Network) (required : Bool) (since : List Entry) (all before after : List Told) (x : Told) (state : HostState) (count most : ℕ) → all ≡ before ++ x ∷ after → length all < 2 ^ 64 - 1 → AreHostSteps network required (before ++ x ∷ []) (host_from since) state
    → Covered network required since all count most → x.needs ≤ count → length state.history ≤ most
reached network false since all before after x state count most there few steps covered low =
    let needs = needs_of network false before x (host_from since) state steps in
    omega (arith, needs, covered, low)
reached network true since all before after x state count most there few steps past low =
    let needs = needs_of network true before x (host_from since) state steps in
    let front = before ++ x ∷ [] in
    let whole : front ++ after ≡ all = append_assoc before (x ∷ []) after ∙ sym there in
    let size = front_size front after all whole in
    let past_size = front_size past.earlier past.later all (sym past.split) in
    let one = lines_of network true since front state steps (omega (arith, few, size)) in
    let other = lines_of network true since past.earlier past.past past.before (omega (arith, few, past_size)) in
    let within = shorter front past.earlier all (after, whole) (past.later, sym past.split) (omega (arith, low, needs, one, other, past.lines)) in
    let grown = front_grows network true front within.0 (host_from since) state past.past steps (subst (λ (l : List Told). AreHostSteps network true l (host_from since) past.past) (sym within.1) past.before) in
    omega (arith, prefix_length state.history past.past.history grown, past.had)

module _ {N B D : Type 0} (about : About N B) (disk : Ghosts D) where
  abbrev network : Network
  network = about.network

  abbrev required : Bool
  required = about.required

  pub fresh_base : (own : List Entry) (start : Standing D) → IsFresh about disk own start → IsBase about disk start
  fresh_base own start fresh = record {
    story = fresh.story;
    steps = fresh.steps;
    link_is = λ is. absurd (false≢true (sym fresh.is_link ∙ is));
    led = subst (IsLed network start.host.history) (sym fresh.link) (nothing_led about disk start.host.history);
    carried = subst (λ (l : Link). IsCarried l start.packets start.said) (sym fresh.link)
        (subst (λ (l : List Packet). IsCarried no_link l start.said) (sym fresh.packets) (subst (λ (l : List Offered). IsCarried no_link [] l) (sym fresh.said) (none_carried about disk)));
  }

  module _ (leader : List Entry) (is_leader : IsLeader network leader) (once : (image : List ℕ) (one other : Meaning Entry) → IsRecoveredAs network image one → IsRecoveredAs network image other → one ≡ other)
      (only_now : (now : D) (image : List ℕ) → disk.left_since now (disk.moment now) image → disk.may_leave now image)
      (stays : (old new : Replication D) (events : List Event) → IsFollowing disk network old → Lead disk network old events new → IsFollowing disk network new)
      (images : (state : Replication D) (image : List ℕ) → IsFollowing disk network state → MayBeLeft disk network state image → IsOfLeader network state.leader state.told image) (own : List Entry) where
    abbrev Collides : Type 0
    Collides = Collide sha256 (hashed (digest_of network) own ++ hashed (digest_of network) (take (length own) leader))

    fresh_unknown : (start : Standing D) → IsFresh about disk own start → IsUnknown about disk leader is_leader once only_now stays images own start
    fresh_unknown start fresh = record {
      apart = record {
        is_network = fresh.is_network;
        has = fresh.has;
        told = subst (All (TellsOwn network own)) (sym fresh.said) (All-nil (TellsOwn network own));
      };
      decides = fresh.decides;
    }

    abbrev Known : ℕ → Standing D → Type 0
    Known least s = IsKnown about disk leader is_leader once only_now stays images least s

    -- where how replies are held is what was last heard of it, it is known
    known_then : (start told : Standing D) → IsFresh about disk own start → Goes about disk start told → told.decides ≡ true → IsPrefix told.host.history leader → Known 0 told ⊎ Collides
    known_then start told fresh goes decides longer = ⊎_elim
        (λ unknown. absurd (false≢true (sym unknown.decides ∙ decides)))
        (λ known. known)
        (either_on about disk leader is_leader once only_now stays images own start told (fresh_base own start fresh) (fresh_unknown start fresh) goes longer)

    known_now : (least : ℕ) (start told end : Standing D) → IsFresh about disk own start → Goes about disk start told → (known : Known 0 told) → least ≤ known.most → Goes about disk told end → IsPrefix end.host.history leader → (image : List ℕ) → MayLeave disk network end image
        → IsOfLeader network leader least image
    known_now least start told end fresh before known low goes longer image may =
        let base = base_on about disk start told (fresh_base own start fresh) before in
        let there : Known least told = record { most = known.most; low = low; follows = known.follows; covers = known.covers } in
        known_image about disk leader is_leader once only_now stays images least end (base_on about disk told end base goes) longer
        (known_on about disk leader is_leader once only_now stays images least told end base there goes longer) image may

    -- so many entries as were heard are in each image
    pub heard_there : (start told end : Standing D) (count : ℕ) (image : List ℕ) → about.required ≡ false → IsFresh about disk own start → Goes about disk start told → told.decides ≡ true → hold_in told.story ≡ Upto count → Goes about disk told end → IsPrefix end.host.history leader → MayLeave disk network end image
        → IsOfLeader network leader count image ⊎ Collides
    heard_there start told end count image entries fresh before decides hold goes longer may = ⊎_elim
        (λ known.
        let covers = known.covers decides in
        let same : covers.0 ≡ count = upto_same covers.0 count (sym covers.1 ∙ hold) in
        let low : covers.0 ≤ known.most = subst (λ (b : Bool). Covered network b told.since (exchanges told.story) covers.0 known.most) entries covers.2 in
        inl (known_now count start told end fresh before known (omega (arith, low, same)) goes longer image may))
        (λ collides. inr collides)
        (known_then start told fresh before decides (prefix_on told.host.history end.host.history leader (grows_on about disk told end goes) longer))
      where
        upto_same : (one other : ℕ) → Upto one ≡ Upto other → one ≡ other
        upto_same one other same = cc same

    -- and all that stood when a line was answered of whose reply a byte was sent
    pub told_there : (start told end : Standing D) (x : Told) (state : HostState) (image : List ℕ) → WasTold about disk own start told x state → Goes about disk told end → IsPrefix end.host.history leader → MayLeave disk network end image
        → HasOrders network state.history image ⊎ Collides
    told_there start told end x state image was goes longer may = ⊎_elim
        (λ known.
        let base = base_on about disk start told (fresh_base own start was.fresh) was.goes in
        let covers = known.covers was.decides in
        let needs = begun_low about told.since was.place was.early x was.begun base.story.0 told.story base.story.1 base.story.2 was.later was.split covers.0 covers.1 in
        let low = reached network required told.since (exchanges told.story) was.before was.after x state covers.0 known.most was.there was.few was.steps covers.2 needs in
        let all : AreHostSteps network required ((was.before ++ x ∷ []) ++ was.after) (host_from told.since) told.host =
        subst (λ (l : List Told). AreHostSteps network required l (host_from told.since) told.host) (was.there ∙ sym (append_assoc was.before (x ∷ []) was.after)) base.steps in
        let front = front_grows network required (was.before ++ x ∷ []) was.after (host_from told.since) state told.host was.steps all in
        let begins = prefix_on state.history told.host.history leader front (prefix_on told.host.history end.host.history leader (grows_on about disk told end goes) longer) in
        inl (orders_in network state.history leader (length state.history) image begins (omega arith)
        (known_now (length state.history) start told end was.fresh was.goes known low goes longer image may)))
        (λ collides. inr collides)
        (known_then start told was.fresh was.goes was.decides (prefix_on told.host.history end.host.history leader (grows_on about disk told end goes) longer))

-- ---- beginnings of stories

module _ {N B : Type 0} (about : About N B) (since : List Entry) (first : N) where
  pub earlier : (story : List (Step HostLine HostReply)) (last : N) → Hosts (terms_of about since) first story last → (early later : List (Step HostLine HostReply)) → story ≡ early ++ later → (mid : N) × Hosts (terms_of about since) first early mid
  earlier _ last began [] later same = (first, began)
  earlier _ last began (step ∷ early) later same = absurd (cc same)
  earlier _ last (waited {story} {was} {now} before did) early later same = earlier story was before early later same
  earlier _ last (happened {story} {was} {now} happening free before did kept served) early later same = ⊎_elim
      (λ whole. (now, subst (λ (s : List (Step HostLine HostReply)). Hosts (terms_of about since) first s now) (sym whole) (happened happening free before did kept served)))
      (λ part. earlier story was before early part.0 part.1)
      (cut_last story early later (Happens happening) same)
  earlier _ last (answered {story} {now} exchange before is_first says may served) early later same = ⊎_elim
      (λ whole. (now, subst (λ (s : List (Step HostLine HostReply)). Hosts (terms_of about since) first s now) (sym whole) (answered exchange before is_first says may served)))
      (λ part. earlier story now before early part.0 part.1)
      (cut_last story early later (Answers exchange) same)
  earlier _ last (held {story} {now} hold before may served) early later same = ⊎_elim
      (λ whole. (now, subst (λ (s : List (Step HostLine HostReply)). Hosts (terms_of about since) first s now) (sym whole) (held hold before may served)))
      (λ part. earlier story now before early part.0 part.1)
      (cut_last story early later (Holds hold) same)
