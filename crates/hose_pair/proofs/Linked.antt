-- What a host's story tells of its link, and of the replies that were sent.
use Rattle.std.proofs.Common.{◌≡◌, ◌≢◌, ◌∙◌, ◌⊎◌, inl, inr, ⊎_elim, ℕ, ◌≤◌, arith, Bool, true, false, List, [], ◌∷◌, ◌++◌, Option, None, Some, refl, sym, ap, subst, append_assoc, append-nil, All}
use Rattle.std.specs.List.{flat_map}
use Rattle.std.proofs.lemmas.List.Elements.{All-cons, All-head, All-nil, All-tail}
use Rattle.hose_graph.specs.Network.{Network}
use Rattle.hose_graph.specs.declared.entry.Entry.{Entry}
use Rattle.hose_lead.specs.Leading.{Leads, nothing_yet}
use Rattle.hose_net.specs.Happening.{Came, Closed, Gave, Got, Happening, Late, Left, LinkStep, Linked, Opened, Refused, Sent, Stopped, Took}
use Rattle.hose_net.specs.declared.hold.Hold.{Hold}
use Rattle.hose_net.specs.declared.hold.Hold.TheVariants.{Alone, Upto}
use Rattle.hose_net.specs.Story.{Answers, Exchange, Happens, Holds, Hosts, IsKept, IsKeptAtLink, Joins, Link, MayHold, Step, Terms, began, waited, happened, answered, held, bound_in, bound_of, exchanges, hold_in, link_after, link_in, links, nobody}
use Rattle.hose_net.proofs.Laws.{law_waits, own_on}
use Rattle.hose_net.proofs.Stories.{exchanges-happens, exchanges-holds, exchanges-push, hold-push, link-push}
use Rattle.hose_clerk.specs.HostLines.{HostLine}
use Rattle.hose_clerk.specs.Hosting.{AreHostSteps, HostState, IsHeardBehind, LeadsBy, host_from}
use Rattle.hose_clerk.specs.declared.replies.HostReply.{HostReply}
use Rattle.hose_pair.proofs.OneState.{steps_join}
use Rattle.hose_pair.specs.steps.Standing.{About, IsBegun, terms_of}

abbrev Told : Type 0
Told = Exchange HostLine HostReply

abbrev Moves : Type 0
Moves = Step HostLine HostReply

-- ---- lists

no_end : {X : Type 0} (xs : List X) (x : X) → [] ≡ xs ++ x ∷ [] → ⊥
no_end [] x same = cc same
no_end (y ∷ xs) x same = cc same

pub push_same : {X : Type 0} (xs ys : List X) (x y : X) → xs ++ x ∷ [] ≡ ys ++ y ∷ [] → (xs ≡ ys) × (x ≡ y)
push_same [] [] x y same = (refl, cc same)
push_same [] (b ∷ ys) x y same = let rest : [] ≡ ys ++ y ∷ [] = cc same in absurd (no_end ys y rest)
push_same (a ∷ xs) [] x y same = let rest : xs ++ x ∷ [] ≡ [] = cc same in absurd (no_end xs x (sym rest))
push_same (a ∷ xs) (b ∷ ys) x y same =
    let first : a ≡ b = cc same in
    let others : xs ++ x ∷ [] ≡ ys ++ y ∷ [] = cc same in
    let rest = push_same xs ys x y others in
    (ap (λ c. c ∷ xs) first ∙ ap (λ l. b ∷ l) rest.0, rest.1)

-- a beginning of a list with a last item is all of it, or a beginning of what is before that item
pub cut_last : {X : Type 0} (xs early later : List X) (x : X) → xs ++ x ∷ [] ≡ early ++ later → (early ≡ xs ++ x ∷ []) ⊎ ((rest : List X) × (xs ≡ early ++ rest))
cut_last xs [] later x same = inr (xs, refl)
cut_last [] (e ∷ []) later x same = let first : x ≡ e = cc same in inl (ap (λ y. y ∷ []) (sym first))
cut_last [] (e ∷ y ∷ early) later x same = absurd (cc same)
cut_last (s ∷ xs) (e ∷ early) later x same =
    let first : s ≡ e = cc same in
    let others : xs ++ x ∷ [] ≡ early ++ later = cc same in
    ⊎_elim
    (λ whole. inl (ap (λ y. y ∷ early) (sym first) ∙ ap (λ l. s ∷ l) whole))
    (λ part. inr (part.0, ap (λ l. s ∷ l) part.1 ∙ ap (λ y. y ∷ (early ++ part.0)) first))
    (cut_last xs early later x others)

-- ---- the link

-- Lines that were answered by some moment lead a host to where what its link gave and was sent is
-- what a leader's is.
pub record IsLedAt (network : Network) (required : Bool) (since : List Entry) (all : List Told) (given sent : List ℕ) : Type 0 where
  pub before : List Told
  pub later : List Told
  pub split : all ≡ before ++ later
  pub state : HostState
  pub steps : AreHostSteps network required before (host_from since) state
  pub heard : Option ℕ
  pub leads : Leads network state.history given sent heard

module _ (network : Network) (required : Bool) (since : List Entry) where
  fresh : (all : List Told) → IsLedAt network required since all [] []
  fresh all = record {
    before = [];
    later = all;
    split = refl;
    state = host_from since;
    steps = refl;
    heard = None;
    leads = record {
      lines = [];
      whole = record { rest = []; cut = refl; plain = All-nil (All (λ byte. byte ≢ 10)) };
      packets = [];
      unsent = [];
      handed = refl;
      are = nothing_yet;
      has = tt;
    };
  }

  gave_more : (history : List Entry) (given sent bytes : List ℕ) (heard : Option ℕ) → Leads network history given sent heard → Leads network history (given ++ bytes) sent heard
  gave_more history given sent bytes heard leads = record {
    lines = leads.lines;
    whole = record {
      rest = leads.whole.rest ++ bytes;
      cut = ap (λ (l : List ℕ). l ++ bytes) leads.whole.cut ∙ append_assoc (flat_map (λ (each : List ℕ). each ++ 10 ∷ []) leads.lines) leads.whole.rest bytes;
      plain = leads.whole.plain;
    };
    packets = leads.packets;
    unsent = leads.unsent;
    handed = leads.handed;
    are = leads.are;
    has = leads.has;
  }

  gave_on : (all : List Told) (given sent bytes : List ℕ) → IsLedAt network required since all given sent → IsLedAt network required since all (given ++ bytes) sent
  gave_on all given sent bytes led = record {
    before = led.before;
    later = led.later;
    split = led.split;
    state = led.state;
    steps = led.steps;
    heard = led.heard;
    leads = gave_more led.state.history given sent bytes led.heard led.leads;
  }

  answered_on : (all : List Told) (x : Told) (given sent : List ℕ) → IsLedAt network required since all given sent → IsLedAt network required since (all ++ x ∷ []) given sent
  answered_on all x given sent led = record {
    before = led.before;
    later = led.later ++ x ∷ [];
    split = ap (λ (l : List Told). l ++ x ∷ []) led.split ∙ append_assoc led.before led.later (x ∷ []);
    state = led.state;
    steps = led.steps;
    heard = led.heard;
    leads = led.leads;
  }

  took_at : (all : List Told) (link : Link) (heard : Option ℕ) (state : HostState) → AreHostSteps network required all (host_from since) state → Leads network state.history link.given link.sent heard → IsLedAt network required since all link.given link.sent
  took_at all link heard state steps leads = record {
    before = all;
    later = [];
    split = sym (append-nil all);
    state = state;
    steps = steps;
    heard = heard;
    leads = leads;
  }

-- where all lines led that were answered until a standby was heard behind some of them
pub steps_behind : (network : Network) (since : List Entry) (all : List Told) (link : Link) (many : ℕ) → (is : IsHeardBehind network since all link many) → AreHostSteps network true all (host_from since) is.state
steps_behind network since all link many is =
    subst (λ (l : List Told). AreHostSteps network true l (host_from since) is.state) (sym is.split) (steps_join network true is.earlier is.later (host_from since) is.past is.state is.before is.after)

took_on : (network : Network) (required : Bool) (since : List Entry) (all : List Told) (link : Link) (heard : Option ℕ) → LeadsBy network required since all link heard → IsLedAt network required since all link.given link.sent
took_on network false since all link heard (state, steps, leads) = took_at network false since all link heard state steps leads
took_on network true since all link None (state, steps, leads) = took_at network true since all link None state steps leads
took_on network true since all link (Some many) is = took_at network true since all link (Some is.count) is.state (steps_behind network since all link many is) is.leads

module _ {N B : Type 0} (about : About N B) (since : List Entry) where
  abbrev terms : Terms N B HostLine HostReply
  terms = terms_of about since

  abbrev IsLedBy : List Told → Link → Type 0
  IsLedBy all link = IsLedAt about.network about.required since all link.given link.sent

  linked_on : (story : List Moves) (was now : N) (step : LinkStep) → IsKeptAtLink terms story was step now → IsLedBy (exchanges story) (link_in story) → IsLedBy (exchanges story) (link_after (link_in story) step)
  linked_on story was now (Opened path) kept led = fresh about.network about.required since (exchanges story)
  linked_on story was now (Gave bytes) kept led = gave_on about.network about.required since (exchanges story) (link_in story).given (link_in story).sent bytes led
  linked_on story was now (Took bytes) (kept, saw, stands, heard, leads) led = took_on about.network about.required since (exchanges story) (link_after (link_in story) (Took bytes)) heard leads
  linked_on story was now Closed kept led = led
  linked_on story was now Late kept led = led

  happens_on : (story : List Moves) (was now : N) (happening : Happening) → IsKept terms story was happening now → IsLedBy (exchanges story) (link_in story) → IsLedBy (exchanges story) (links {L = HostLine} {R = HostReply} (link_in story) (Happens happening))
  happens_on story was now (Came door place) kept led = led
  happens_on story was now (Got place bytes) kept led = led
  happens_on story was now (Sent place bytes) kept led = led
  happens_on story was now (Refused place) kept led = led
  happens_on story was now (Left place) kept led = led
  happens_on story was now (Linked step) kept led = linked_on story was now step kept led
  happens_on story was now Stopped kept led = led

  moved : (all one : List Told) (link other : Link) → all ≡ one → link ≡ other → IsLedBy one other → IsLedBy all link
  moved all one link other same also led = subst (λ (l : Link). IsLedBy all l) (sym also) (subst (λ (l : List Told). IsLedBy l other) (sym same) led)

  -- what the link gave and was sent is what a leader's is
  pub link_led : (first : N) (story : List Moves) (now : N) → Hosts terms first story now → IsLedBy (exchanges story) (link_in story)
  link_led first _ _ began = fresh about.network about.required since []
  link_led first _ _ (waited {story} {was} before did) = link_led first story was before
  link_led first _ _ (happened {story} {was} {now} happening free before did kept served) =
      moved (exchanges (story ++ Happens happening ∷ [])) (exchanges story) (link_in (story ++ Happens happening ∷ [])) (links {L = HostLine} {R = HostReply} (link_in story) (Happens happening)) (exchanges-happens story happening) (link-push story (Happens happening))
      (happens_on story was now happening kept (link_led first story was before))
  link_led first _ _ (answered {story} {now} exchange before is_first says may served) =
      moved (exchanges (story ++ Answers exchange ∷ [])) (exchanges story ++ exchange ∷ []) (link_in (story ++ Answers exchange ∷ [])) (links {L = HostLine} {R = HostReply} (link_in story) (Answers exchange)) (exchanges-push story exchange) (link-push story (Answers exchange))
      (answered_on about.network about.required since (exchanges story) exchange (link_in story).given (link_in story).sent (link_led first story now before))
  link_led first _ _ (held {story} {now} hold before may served) =
      moved (exchanges (story ++ Holds hold ∷ [])) (exchanges story) (link_in (story ++ Holds hold ∷ [])) (links {L = HostLine} {R = HostReply} (link_in story) (Holds hold)) (exchanges-holds story hold) (link-push story (Holds hold))
      (link_led first story now before)

  -- ---- how replies are held

  -- where a story's last step tells how replies are held, they may be held so
  pub last_held : (first : N) (whole story : List Moves) (hold : Hold) (now : N) → Hosts terms first whole now → whole ≡ story ++ Holds hold ∷ [] → MayHold terms story hold
  last_held first _ story hold _ began same = absurd (no_end story (Holds hold) same)
  last_held first _ story hold _ (waited {story = whole} {was} before did) same = last_held first whole story hold was before same
  last_held first _ story hold _ (happened {story = other} happening free before did kept served) same = let last = push_same other story (Happens happening) (Holds hold) same in absurd (cc last.1)
  last_held first _ story hold _ (answered {story = other} exchange before is_first says may served) same = let last = push_same other story (Answers exchange) (Holds hold) same in absurd (cc last.1)
  last_held first _ story hold _ (held {story = other} given before may served) same =
      let last = push_same other story (Holds given) (Holds hold) same in
      let one : given ≡ hold = cc last.1 in
      subst (λ (s : List Moves). MayHold terms s hold) last.0 (subst (MayHold terms other) one may)

  -- ---- replies of which a byte was sent

  module _ (place : ℕ) (early : List Moves) (x : Told) (begun : IsBegun about.network place early x) where
    front_all : (P : Told → Type 0) (one more : List Moves) → All P (exchanges (one ++ more)) → All P (exchanges one)
    front_all P [] more all = All-nil P
    front_all P (Happens happening ∷ one) more all = front_all P one more all
    front_all P (Answers exchange ∷ one) more all =
        All-cons P exchange (exchanges one) (All-head P exchange (exchanges (one ++ more)) all) (front_all P one more (All-tail P exchange (exchanges (one ++ more)) all))
    front_all P (Holds hold ∷ one) more all = front_all P one more all

    in_middle : (P : Told → Type 0) (before after : List Told) → All P (before ++ x ∷ after) → P x
    in_middle P [] after all = All-head P x after all
    in_middle P (b ∷ before) after all = in_middle P before after (All-tail P b (before ++ x ∷ after) all)

    -- what holds of all lines holds of it
    of_all : (P : Told → Type 0) (rest : List Moves) → All P (exchanges (early ++ rest)) → P x
    of_all P rest all =
        in_middle P begun.before begun.after (subst (All P) begun.own (own_on P place nobody early (All-nil P) (front_all P early rest all)))

    joined_on : (hold : Hold) (rest : List Moves) (count : ℕ) → ((most : ℕ) → hold ≡ Upto most → x.needs ≤ most) → Joins hold count (exchanges (early ++ rest)) → x.needs ≤ count
    joined_on Alone rest count before all = of_all (λ (e : Told). e.needs ≤ count) rest all
    joined_on (Upto most) rest count before more = omega (arith, before most refl, more)

    upto_same : (one other : ℕ) → Upto one ≡ Upto other → one ≡ other
    upto_same one other same = cc same

    held_on : (story rest : List Moves) (hold : Hold) (count : ℕ) → story ≡ early ++ rest → hold ≡ Upto count → MayHold terms story hold → ((most : ℕ) → hold_in story ≡ Upto most → x.needs ≤ most) → x.needs ≤ count
    held_on story rest Alone count is same may before = absurd (cc same)
    held_on story rest (Upto given) count is same may before =
        let low = joined_on (hold_in story) rest given before (subst (λ (s : List Moves). Joins (hold_in story) given (exchanges s)) is may.1) in
        omega (arith, low, upto_same given count same)

    now_begun : (first : N) (whole : List Moves) (now : N) (count : ℕ) → Hosts terms first whole now → early ≡ whole → hold_in whole ≡ Upto count → x.needs ≤ count
    now_begun first whole now count hosts same is =
        let here = law_waits terms first early now (subst (λ (s : List Moves). Hosts terms first s now) (sym same) hosts) place begun.before begun.after x begun.own begun.some in
        omega (arith, here, ap bound_of is, ap bound_in same)

    -- Where a byte of a reply was sent, and the host is not alone now, it was heard to have been told.
    pub begun_low : (first : N) (whole : List Moves) (now : N) → Hosts terms first whole now → (later : List Moves) → whole ≡ early ++ later → (count : ℕ) → hold_in whole ≡ Upto count → x.needs ≤ count
    begun_low first _ now began later same count is = nothing early refl later same
      where
        nothing : (one : List Moves) → early ≡ one → (later : List Moves) → [] ≡ one ++ later → x.needs ≤ count
        nothing [] none later same = now_begun first [] now count began none is
        nothing (step ∷ one) none later same = absurd (cc same)
    begun_low first _ now (waited {story} {was} before did) later same count is = begun_low first story was before later same count is
    begun_low first _ now (happened {story} {was} happening free before did kept served) later same count is = ⊎_elim
        (λ whole. now_begun first (story ++ Happens happening ∷ []) now count (happened happening free before did kept served) whole is)
        (λ part. begun_low first story was before part.0 part.1 count (sym (hold-push story (Happens happening)) ∙ is))
        (cut_last story early later (Happens happening) same)
    begun_low first _ now (answered {story} exchange before is_first says may served) later same count is = ⊎_elim
        (λ whole. now_begun first (story ++ Answers exchange ∷ []) now count (answered exchange before is_first says may served) whole is)
        (λ part. begun_low first story now before part.0 part.1 count (sym (hold-push story (Answers exchange)) ∙ is))
        (cut_last story early later (Answers exchange) same)
    begun_low first _ now (held {story} hold before may served) later same count is = ⊎_elim
        (λ whole. now_begun first (story ++ Holds hold ∷ []) now count (held hold before may served) whole is)
        (λ part. held_on story part.0 hold count part.1 (sym (hold-push story (Holds hold)) ∙ is) may (λ most at. begun_low first story now before part.0 part.1 most at))
        (cut_last story early later (Holds hold) same)
