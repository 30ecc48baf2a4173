-- Where a host is not alone, and has answered a line since its link was opened, what it last heard is
-- of the follower at that link.
use Rattle.std.proofs.Common.{◌≡◌, ◌≢◌, ◌∙◌, ◌⊎◌, inl, inr, ⊎_elim, ℕ, ◌+◌, ◌≤◌, Bool, true, false, cond, List, [], ◌∷◌, ◌++◌, Option, None, Some, length, refl, sym, ap, arith, length-append}
use Rattle.std.specs.List.{flat_map}
use Rattle.std.specs.Prelude.{option_map}
use Rattle.std.proofs.lemmas.Bool.{cases_Bool, false≢true}
use Rattle.std.proofs.lemmas.List.Sums.{fold-append}
use Rattle.hose_graph.specs.Network.{Network}
use Rattle.hose_graph.specs.declared.entry.Entry.{Entry}
use Rattle.hose_disk.specs.declared.disk.Disk.{Ghosts}
use Rattle.hose_lead.specs.Leading.{Leads}
use Rattle.hose_net.specs.Happening.{Came, Closed, Gave, Got, Happening, Late, Left, Linked, Opened, Refused, Sent, Stopped, Took}
use Rattle.hose_net.specs.declared.hold.Hold.{Hold}
use Rattle.hose_net.specs.declared.hold.Hold.TheVariants.{Alone, Upto}
use Rattle.hose_net.specs.Story.{Answers, Exchange, Happens, Holds, Hosts, Link, MayHold, Step, answered, began, exchanges, happened, held, hold_in, joined_in, link_in, waited}
use Rattle.hose_net.proofs.Stories.{hold-push, joined-push, link-push}
use Rattle.hose_clerk.specs.HostLines.{HostLine}
use Rattle.hose_clerk.specs.Hosting.{LeadsBy}
use Rattle.hose_clerk.specs.declared.replies.HostReply.{HostReply}
use Rattle.hose_pair.specs.steps.Standing.{About, Goes, HasStory, IsCarried, IsFresh, ServesAtLink, Standing, opens, served_after, served_in, stepped, terms_of, began as at_first, hosts, joins, offers, reopens, restarts}
use Rattle.hose_pair.proofs.Standby.{fresh_base}
use Rattle.hose_pair.proofs.Together.{base_on}

abbrev Moves : Type 0
Moves = Step HostLine HostReply

abbrev Told : Type 0
Told = Exchange HostLine HostReply

-- ---- what was given where something is heard

nil_front : {X : Type 0} (xs ys : List X) → xs ++ ys ≡ [] → xs ≡ []
nil_front [] ys same = refl
nil_front (x ∷ xs) ys same = absurd (cc same)

abbrev line_of : List ℕ → List ℕ
line_of line = line ++ 10 ∷ []

lines_long : (lines : List (List ℕ)) → length lines ≤ length (flat_map line_of lines)
lines_long [] = omega arith
lines_long (line ∷ lines) =
    let rest = lines_long lines in
    omega (arith, rest, length-append (line_of line) (flat_map line_of lines), length-append line (10 ∷ []))

-- where a standby is heard, its link gave something
some_given : (network : Network) (list : List Entry) (given sent : List ℕ) (count : ℕ) → Leads network list given sent (Some count) → given ≢ []
some_given network list given sent count leads none =
    let heard = leads.has in
    let some = heard.told.1 in
    let long = lines_long leads.lines in
    absurd (omega (arith, some, long, ap length none, ap length leads.whole.cut, length-append (flat_map line_of leads.lines) leads.whole.rest, ap length heard.split, length-append heard.earlier heard.later))

gives : (network : Network) (required : Bool) (since : List Entry) (all : List Told) (link : Link) (count : ℕ) → LeadsBy network required since all link (Some count) → link.given ≢ []
gives network false since all link count (state, steps, leads) = some_given network state.history link.given link.sent count leads
gives network true since all link count is = some_given network is.state.history link.given link.sent is.count is.leads

-- ---- one thing more happened

served-push : (story : List Moves) (step : Moves) → served_in (story ++ step ∷ []) ≡ served_after (served_in story) step
served-push story step = fold-append served_after None story (step ∷ [])

-- the link was opened
record IsOpened (story : List Moves) (happening : Happening) : Type 0 where
  opened : opens {L = HostLine} {R = HostReply} (Happens happening) ≡ true
  joined : joined_in (story ++ Happens happening ∷ []) ≡ false
  served : served_in (story ++ Happens happening ∷ []) ≡ Some false

-- or it was not
record IsStill (story : List Moves) (happening : Happening) : Type 0 where
  opened : opens {L = HostLine} {R = HostReply} (Happens happening) ≡ false
  joined : joined_in (story ++ Happens happening ∷ []) ≡ joined_in story
  served : served_in (story ++ Happens happening ∷ []) ≡ served_in story
  given : (link_in (story ++ Happens happening ∷ [])).given ≡ [] → (link_in story).given ≡ []

opened_or : (story : List Moves) (happening : Happening) → IsOpened story happening ⊎ IsStill story happening
opened_or story (Came door place) = inr (record { opened = refl; joined = joined-push story _; served = served-push story _; given = λ none. ap (λ (l : Link). l.given) (sym (link-push story (Happens (Came door place)))) ∙ none })
opened_or story (Got place bytes) = inr (record { opened = refl; joined = joined-push story _; served = served-push story _; given = λ none. ap (λ (l : Link). l.given) (sym (link-push story (Happens (Got place bytes)))) ∙ none })
opened_or story (Sent place bytes) = inr (record { opened = refl; joined = joined-push story _; served = served-push story _; given = λ none. ap (λ (l : Link). l.given) (sym (link-push story (Happens (Sent place bytes)))) ∙ none })
opened_or story (Refused place) = inr (record { opened = refl; joined = joined-push story _; served = served-push story _; given = λ none. ap (λ (l : Link). l.given) (sym (link-push story (Happens (Refused place)))) ∙ none })
opened_or story (Left place) = inr (record { opened = refl; joined = joined-push story _; served = served-push story _; given = λ none. ap (λ (l : Link). l.given) (sym (link-push story (Happens (Left place)))) ∙ none })
opened_or story (Linked (Opened path)) = inl (record { opened = refl; joined = joined-push story _; served = served-push story _ })
opened_or story (Linked (Gave bytes)) = inr (record { opened = refl; joined = joined-push story _; served = served-push story _; given = λ none. nil_front (link_in story).given bytes (ap (λ (l : Link). l.given) (sym (link-push story (Happens (Linked (Gave bytes))))) ∙ none) })
opened_or story (Linked (Took bytes)) = inr (record { opened = refl; joined = joined-push story _; served = served-push story _; given = λ none. ap (λ (l : Link). l.given) (sym (link-push story (Happens (Linked (Took bytes))))) ∙ none })
opened_or story (Linked Closed) = inr (record { opened = refl; joined = joined-push story _; served = served-push story _; given = λ none. ap (λ (l : Link). l.given) (sym (link-push story (Happens (Linked Closed)))) ∙ none })
opened_or story (Linked Late) = inr (record { opened = refl; joined = joined-push story _; served = served-push story _; given = λ none. ap (λ (l : Link). l.given) (sym (link-push story (Happens (Linked Late)))) ∙ none })
opened_or story Stopped = inr (record { opened = refl; joined = joined-push story _; served = served-push story _; given = λ none. ap (λ (l : Link). l.given) (sym (link-push story (Happens Stopped))) ∙ none })

-- where a line was answered since the link was opened, one was opened
some_once : (was : Option Bool) → was ≡ Some true → was ≢ None
some_once was is none = absurd (cc (sym none ∙ is))

once_before : (was : Option Bool) → option_map (λ (served : Bool). true) was ≢ None → was ≢ None
once_before was once none = once (ap (option_map (λ (served : Bool). true)) none)

-- ---- a host's story

module _ {N B : Type 0} (about : About N B) (since : List Entry) (first : N) where
  abbrev Story : List Moves → N → Type 0
  Story story now = Hosts (terms_of about since) first story now

  -- where a line was answered since the link was opened, a standby has joined, or the host is alone
  joined_or : about.may_be_alone ≡ true → (story : List Moves) (now : N) → Story story now → served_in story ≡ Some true → (joined_in story ≡ true) ⊎ (hold_in story ≡ Alone)
  joined_or may _ _ began served = absurd (cc served)
  joined_or may _ _ (waited {story} {was} before did) served = joined_or may story was before served
  joined_or may _ _ (happened {story} {was} happening free before did kept all) served = ⊎_elim
      (λ opened. let none : Some false ≡ Some true = sym opened.served ∙ served in absurd (cc none))
      (λ still. ⊎_elim
      (λ joined. inl (still.joined ∙ joined))
      (λ alone. inr (hold-push story (Happens happening) ∙ alone))
      (joined_or may story was before (sym still.served ∙ served)))
      (opened_or story happening)
  joined_or may _ _ (answered {story} exchange before is_first says can all) served = ⊎_elim
      (λ joined. inl (joined-push story (Answers exchange) ∙ joined))
      (λ not_yet. inr (hold-push story (Answers exchange) ∙ can may not_yet))
      (cases_Bool (joined_in story))
  joined_or may _ _ (held {story} hold before can all) served = inl (joined-push story (Holds hold))

  -- where a standby has joined at a link, that gave something
  given_then : (story : List Moves) (now : N) → Story story now → joined_in story ≡ true → served_in story ≢ None → (count : ℕ) → hold_in story ≡ Upto count → (link_in story).given ≢ []
  given_then _ _ began joined once count hold none = once refl
  given_then _ _ (waited {story} {was} before did) joined once count hold none = given_then story was before joined once count hold none
  given_then _ _ (happened {story} {was} happening free before did kept all) joined once count hold none = ⊎_elim
      (λ opened. absurd (false≢true (sym opened.joined ∙ joined)))
      (λ still. given_then story was before (sym still.joined ∙ joined) (λ never. once (still.served ∙ never)) count (sym (hold-push story (Happens happening)) ∙ hold) (still.given none))
      (opened_or story happening)
  given_then _ _ (answered {story} {now} exchange before is_first says can all) joined once count hold none =
      given_then story now before (sym (joined-push story (Answers exchange)) ∙ joined) (once_before (served_in story) (λ never. once (served-push story (Answers exchange) ∙ never)))
      count (sym (hold-push story (Answers exchange)) ∙ hold) (ap (λ (l : Link). l.given) (sym (link-push story (Answers exchange))) ∙ none)
  given_then _ _ (held {story} hold before can all) joined once count is none = by hold can (sym (hold-push story (Holds hold)) ∙ is)
    where
      by : (hold : Hold) → MayHold (terms_of about since) story hold → hold ≡ Upto count → ⊥
      by Alone can is = absurd (cc is)
      by (Upto given) can is = gives about.network about.required since (exchanges story) (link_in story) given can.0 (ap (λ (l : Link). l.given) (sym (link-push story (Holds hold))) ∙ none)

-- ---- a host and a follower

module _ {N B D : Type 0} (about : About N B) (disk : Ghosts D) (own : List Entry) (start : Standing D) (fresh : IsFresh about disk own start) where
  nothing_given : (was : Standing D) → Goes about disk start was → was.packets ≡ [] → was.said ≡ [] → IsCarried (link_in was.story) [] [] → joined_in was.story ≡ true → served_in was.story ≢ None → hold_in was.story ≢ Alone → ⊥
  nothing_given was before no_packets none_said carried joined once apart = by (hold_in was.story) refl
    where
      story : HasStory about was.since was.story
      story = (base_on about disk start was (fresh_base about disk own start fresh) before).story

      by : (hold : Hold) → hold_in was.story ≡ hold → ⊥
      by Alone is = apart is
      by (Upto count) is = given_then about was.since story.0 was.story story.1 story.2 joined once count is (nil_front (link_in was.story).given carried.untold carried.gave)

  decides_then : (now : Standing D) → Goes about disk start now → now.is_link ≡ true → joined_in now.story ≡ true → served_in now.story ≢ None → hold_in now.story ≢ Alone → now.decides ≡ true
  decides_then _ at_first live joined once apart = absurd (false≢true (sym fresh.is_link ∙ live))
  decides_then _ (hosts {was} step host before goes story carried) live joined once apart = by step live joined once apart (decides_then was before)
    where
      live_still : (opened now : Bool) → opened ≡ false → cond opened false now ≡ true → now ≡ true
      live_still true now is none = absurd (false≢true none)
      live_still false now is none = none

      live_not : (opened now : Bool) → opened ≡ true → cond opened false now ≡ true → ⊥
      live_not true now is none = absurd (false≢true none)
      live_not false now is none = absurd (false≢true is)

      by : (step : Moves) → (stepped was step host).is_link ≡ true → joined_in (was.story ++ step ∷ []) ≡ true → served_in (was.story ++ step ∷ []) ≢ None → hold_in (was.story ++ step ∷ []) ≢ Alone
          → (was.is_link ≡ true → joined_in was.story ≡ true → served_in was.story ≢ None → hold_in was.story ≢ Alone → was.decides ≡ true) → (stepped was step host).decides ≡ true
      by (Happens happening) live joined once apart old = ⊎_elim
          (λ opened. absurd (live_not (opens {L = HostLine} {R = HostReply} (Happens happening)) was.is_link opened.opened live))
          (λ still. old (live_still (opens {L = HostLine} {R = HostReply} (Happens happening)) was.is_link still.opened live) (sym still.joined ∙ joined) (λ never. once (still.served ∙ never)) (λ alone. apart (hold-push was.story (Happens happening) ∙ alone)))
          (opened_or was.story happening)
      by (Answers exchange) live joined once apart old =
          old live (sym (joined-push was.story (Answers exchange)) ∙ joined) (once_before (served_in was.story) (λ never. once (served-push was.story (Answers exchange) ∙ never))) (λ alone. apart (hold-push was.story (Answers exchange) ∙ alone))
      by (Holds Alone) live joined once apart old = absurd (apart (hold-push was.story (Holds Alone)))
      by (Holds (Upto count)) live joined once apart old = live
  decides_then _ (offers {was} packet answer left before is carried) live joined once apart = decides_then was before live joined once apart
  decides_then _ (reopens {was} image store before may opened) live joined once apart = absurd (false≢true live)
  decides_then _ (joins {was} before no_packets none_said carried) live joined once apart = absurd (nothing_given was before no_packets none_said carried joined once apart)
  decides_then _ (restarts {was} since before longer) live joined once apart = absurd (false≢true live)

  -- what a host that serves at a follower's link last heard is of that follower
  pub decides_now : (now : Standing D) → Goes about disk start now → ServesAtLink about now → now.decides ≡ true
  decides_now now goes serves =
      let base = base_on about disk start now (fresh_base about disk own start fresh) goes in
      ⊎_elim
      (λ joined. decides_then now goes serves.is_link joined (some_once (served_in now.story) serves.served) serves.held)
      (λ alone. absurd (serves.held alone))
      (joined_or about now.since base.story.0 serves.may now.story base.story.1 base.story.2 serves.served)
