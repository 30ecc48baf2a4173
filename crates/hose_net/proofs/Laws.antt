-- What the stories of a host come to: no reply goes out too early, who came by a door bound to a
-- name says what is that name's, and the lines of a connection are one session.
use Rattle.std.proofs.Common.{⊎_elim, ◌≡◌, ◌∙◌, ℕ, ◌<◌, ◌≤◌, arith, Bool, true, false, cond, eqb, List, [], ◌∷◌, ◌++◌, All, None, length, length-append, refl, sym, ap, subst, rules}
use Rattle.std.proofs.lemmas.Bool.{cases_eq, false≢true}
use Rattle.std.specs.List.{fold}
use Rattle.std.specs.Prelude.{get_or, ⊤}
use Rattle.std.proofs.lemmas.List.Elements.{All-head, All-nil, All-push, All-tail}
use Rattle.std.proofs.lemmas.List.Sums.{fold-append}
use mathlib.Core.List.{IsPrefix}
use Rattle.hose_net.specs.Happening.{Came, Closed, Gave, Got, Happening, Late, Left, LinkStep, Linked, Opened, Refused, Sent, Stopped, Took}
use Rattle.hose_net.specs.declared.hold.Hold.{Hold}
use Rattle.hose_net.specs.declared.hold.Hold.TheVariants.{Alone, Upto}
use Rattle.hose_net.specs.declared.hold.Parting.{Parting}
use Rattle.hose_net.specs.declared.hold.Parting.TheVariants as parting
use Rattle.hose_net.specs.Story.{Answers, Exchange, Happens, Holds, Hosts, IsHosted, IsKept, IsKeptAtLink, Life, Link, MayHold, PartsFor, Step, Terms, began, waited, happened, answered, held, bound_in, exchanges, hold_in, holds, is_empty, life, link_after, link_in, links, lives, newcomer, nobody, texts_of}
use Rattle.hose_net.proofs.Stories.{exchanges-happens, exchanges-holds, exchanges-push, life-answers, life-holds, life-other_answers, life-push, link-push, served_now}

module _ {L R : Type 0} (text : R → List ℕ) (heard : ℕ) where
  early : (free waiting before after : List (Exchange L R)) (x : Exchange L R) → free ++ waiting ≡ before ++ x ∷ after → All (λ (e : Exchange L R). e.needs ≤ heard) free → length (texts_of text before) < length (texts_of text free) → x.needs ≤ heard
  early [] waiting before after x is allowed less = absurd (omega (arith, less))
  early (f ∷ free) waiting [] after x is allowed less =
      let head : f ≡ x = search (rules, is) in
      subst (λ (e : Exchange L R). e.needs ≤ heard) head (All-head (λ (e : Exchange L R). e.needs ≤ heard) f free allowed)
  early (f ∷ free) waiting (b ∷ before) after x is allowed less =
      let head : f ≡ b = search (rules, is) in
      let tail : free ++ waiting ≡ before ++ x ∷ after = search (rules, is) in
      early free waiting before after x tail (All-tail (λ (e : Exchange L R). e.needs ≤ heard) f free allowed)
      (omega (arith, less, ap (λ (e : Exchange L R). length (text e.reply)) head, length-append (text b.reply) (texts_of text before), length-append (text f.reply) (texts_of text free)))

module _ {L R : Type 0} (P : Exchange L R → Type 0) (place : ℕ) where
  cond_own : (b : Bool) (x y : Life L R) → All P x.own → All P y.own → All P (cond b x y).own
  cond_own true x y first second = first
  cond_own false x y first second = second

  pub own_on : (start : Life L R) (story : List (Step L R)) → All P start.own → All P (exchanges story) → All P (fold (lives place) start story).own
  own_on start [] begun all = begun
  own_on start (Happens (Came door at) ∷ story) begun all = own_on (lives place start (Happens (Came door at))) story (cond_own (eqb at place) (newcomer door) start (All-nil P) begun) all
  own_on start (Happens (Got at bytes) ∷ story) begun all = own_on (lives place start (Happens (Got at bytes))) story (cond_own (eqb at place) (record start { given = start.given ++ bytes }) start begun begun) all
  own_on start (Happens (Sent at bytes) ∷ story) begun all = own_on (lives place start (Happens (Sent at bytes))) story (cond_own (eqb at place) (record start { sent = start.sent ++ bytes; refused = false }) start begun begun) all
  own_on start (Happens (Refused at) ∷ story) begun all = own_on (lives place start (Happens (Refused at))) story (cond_own (eqb at place) (record start { refused = true }) start begun begun) all
  own_on start (Happens (Left at) ∷ story) begun all = own_on (lives place start (Happens (Left at))) story (cond_own (eqb at place) (record start { here = false }) start begun begun) all
  own_on start (Happens (Linked step) ∷ story) begun all = own_on start story begun all
  own_on start (Happens Stopped ∷ story) begun all = own_on start story begun all
  own_on start (Answers exchange ∷ story) begun all = own_on (lives place start (Answers exchange)) story (cond_own (eqb exchange.place place) (record start { own = start.own ++ exchange ∷ [] }) start (All-push P start.own exchange begun (All-head P exchange (exchanges story) all)) begun) (All-tail P exchange (exchanges story) all)
  own_on start (Holds hold ∷ story) begun all = own_on start story begun all

-- the first of these exchanges is the first of its connection, and no other is
abbrev pub IsSession : {L R : Type 0} → List (Exchange L R) → Type 0
IsSession [] = ⊤
IsSession (x ∷ rest) = (x.first ≡ true) × All (λ later. later.first ≡ false) rest

module _ {L R : Type 0} where
  session_push : (own : List (Exchange L R)) (x : Exchange L R) → x.first ≡ is_empty own → IsSession own → IsSession (own ++ x ∷ [])
  session_push [] x is session = (is, All-nil (λ (later : Exchange L R). later.first ≡ false))
  session_push (y ∷ rest) x is session = (session.0, All-push (λ (later : Exchange L R). later.first ≡ false) rest x session.1 is)

  cond_session : (b : Bool) (x y : Life L R) → IsSession x.own → IsSession y.own → IsSession (cond b x y).own
  cond_session true x y first second = first
  cond_session false x y first second = second

  session_happens : (place : ℕ) (life : Life L R) (happening : Happening) → IsSession life.own → IsSession (lives place life (Happens happening)).own
  session_happens place life (Came door at) session = cond_session (eqb at place) (newcomer door) life tt session
  session_happens place life (Got at bytes) session = cond_session (eqb at place) (record life { given = life.given ++ bytes }) life session session
  session_happens place life (Sent at bytes) session = cond_session (eqb at place) (record life { sent = life.sent ++ bytes; refused = false }) life session session
  session_happens place life (Refused at) session = cond_session (eqb at place) (record life { refused = true }) life session session
  session_happens place life (Left at) session = cond_session (eqb at place) (record life { here = false }) life session session
  session_happens place life (Linked step) session = session
  session_happens place life Stopped session = session

module _ {N B L R : Type 0} (terms : Terms N B L R) (first : N) where
  -- of the exchanges of a connection the first alone is told as such
  pub law_first : (story : List (Step L R)) (now : N) → Hosts terms first story now → (place : ℕ) → IsSession (life place story).own
  law_first _ _ began place = tt
  law_first _ _ (waited before did) place = law_first _ _ before place
  law_first _ _ (happened {story} happening free before did kept served) place = subst (λ (l : Life L R). IsSession l.own) (sym (life-push place story (Happens happening))) (session_happens place (life place story) happening (law_first _ _ before place))
  law_first _ _ (answered {story} exchange before is_first says may served) place = ⊎_elim
      (λ same. subst (λ (p : ℕ). IsSession (life p (story ++ Answers exchange ∷ [])).own) (sym same) (subst (λ (l : Life L R). IsSession l.own) (sym (life-answers exchange story)) (session_push (life exchange.place story).own exchange is_first (law_first _ _ before exchange.place))))
      (λ apart. subst (λ (l : Life L R). IsSession l.own) (sym (life-other_answers place story exchange apart)) (law_first _ _ before place))
      (cases_eq place exchange.place)
  law_first _ _ (held {story} hold before may served) place = subst (λ (l : Life L R). IsSession l.own) (sym (life-holds place hold story)) (law_first _ _ before place)

  -- nothing of a reply is sent before all that stood when it was given may be told
  pub law_waits : (story : List (Step L R)) (now : N) → Hosts terms first story now → (place : ℕ) (before after : List (Exchange L R)) (exchange : Exchange L R) → (life place story).own ≡ before ++ exchange ∷ after → length (texts_of terms.text before) < length (life place story).sent → exchange.needs ≤ bound_in story
  law_waits story now hosts place before after exchange is less =
      let served = served_now terms first story now hosts place in
      early terms.text (bound_in story) served.free served.waiting before after exchange (sym served.split ∙ is) served.allowed
      (omega (arith, less, ap length served.sent, length-append (life place story).sent served.unsent))

  -- if what a line says that came by a door is always such, then so is each exchange
  pub all_such : (Such : ℕ → L → Type 0) → ((is_first : Bool) (door : ℕ) (line : List ℕ) (said : L) → terms.says is_first door line said → Such door said) → (story : List (Step L R)) (now : N) → Hosts terms first story now → All (λ (x : Exchange L R). Such x.door x.said) (exchanges story)
  all_such Such is _ _ began = All-nil (λ (x : Exchange L R). Such x.door x.said)
  all_such Such is _ _ (waited before did) = all_such Such is _ _ before
  all_such Such is _ _ (happened {story} happening free before did kept served) = subst (All (λ (x : Exchange L R). Such x.door x.said)) (sym (exchanges-happens story happening)) (all_such Such is _ _ before)
  all_such Such is _ _ (answered {story} exchange before is_first says may served) = subst (All (λ (x : Exchange L R). Such x.door x.said)) (sym (exchanges-push story exchange)) (All-push (λ (x : Exchange L R). Such x.door x.said) (exchanges story) exchange (all_such Such is _ _ before) (is exchange.first exchange.door exchange.line exchange.said says))
  all_such Such is _ _ (held {story} hold before may served) = subst (All (λ (x : Exchange L R). Such x.door x.said)) (sym (exchanges-holds story hold)) (all_such Such is _ _ before)

  -- and so is each exchange of a connection, by the door by which it came
  pub law_door : (Such : ℕ → L → Type 0) → ((is_first : Bool) (door : ℕ) (line : List ℕ) (said : L) → terms.says is_first door line said → Such door said) → (story : List (Step L R)) (now : N) → Hosts terms first story now → (place : ℕ) → All (λ (x : Exchange L R). Such (life place story).door x.said) (life place story).own
  law_door Such is story now hosts place =
      let served = served_now terms first story now hosts place in
      let own = own_on (λ (x : Exchange L R). Such x.door x.said) place nobody story (All-nil (λ (x : Exchange L R). Such x.door x.said)) (all_such Such is story now hosts) in
      λ i d below. subst (λ (door : ℕ). Such door (get_or (life place story).own i d).said) (served.lines i d below).0 (own i d below)

  -- the same story, of which something weaker is said of what is kept
  link_on : (Stands : List (Exchange L R) → B → Type 0) → ((xs : List (Exchange L R)) (kept : B) → terms.stands xs kept → Stands xs kept) → (story : List (Step L R)) (was now : N) (step : LinkStep) → IsKeptAtLink terms story was step now → IsKeptAtLink (record terms { stands = Stands }) story was step now
  link_on Stands to story was now (Opened path) kept = kept
  link_on Stands to story was now (Gave bytes) kept = tt
  link_on Stands to story was now (Took bytes) kept = (kept.0, kept.1, to (exchanges story) kept.0 kept.2, kept.3, kept.4)
  link_on Stands to story was now Closed kept = tt
  link_on Stands to story was now Late kept = tt

  kept_on : (Stands : List (Exchange L R) → B → Type 0) → ((xs : List (Exchange L R)) (kept : B) → terms.stands xs kept → Stands xs kept) → (story : List (Step L R)) (was now : N) (happening : Happening) → IsKept terms story was happening now → IsKept (record terms { stands = Stands }) story was happening now
  kept_on Stands to story was now (Came door place) kept = tt
  kept_on Stands to story was now (Got place bytes) kept = tt
  kept_on Stands to story was now (Sent place bytes) kept = (kept.0, kept.1, to (exchanges story) kept.0 kept.2)
  kept_on Stands to story was now (Refused place) kept = tt
  kept_on Stands to story was now (Left place) kept = tt
  kept_on Stands to story was now (Linked step) kept = link_on Stands to story was now step kept
  kept_on Stands to story was now Stopped kept = tt

  may_on : (Stands : List (Exchange L R) → B → Type 0) (story : List (Step L R)) (hold : Hold) → MayHold terms story hold → MayHold (record terms { stands = Stands }) story hold
  may_on Stands story Alone may = may
  may_on Stands story (Upto count) may = may

  parts_on : (Stands : List (Exchange L R) → B → Type 0) (story : List (Step L R)) (why : Parting) → PartsFor terms story why → PartsFor (record terms { stands = Stands }) story why
  parts_on Stands story parting.Asked parts = tt
  parts_on Stands story parting.Told parts = parts
  parts_on Stands story parting.Late parts = parts
  parts_on Stands story (parting.Ahead count) parts = parts

  pub hosts_on : (Stands : List (Exchange L R) → B → Type 0) → ((xs : List (Exchange L R)) (kept : B) → terms.stands xs kept → Stands xs kept) → (story : List (Step L R)) (now : N) → Hosts terms first story now → Hosts (record terms { stands = Stands }) first story now
  hosts_on Stands to _ _ began = began
  hosts_on Stands to _ _ (waited {story} {was} before did) = waited (hosts_on Stands to story was before) did
  hosts_on Stands to _ now (happened {story} {was} happening free before did kept served) = happened happening free (hosts_on Stands to story was before) did (kept_on Stands to story was now happening kept) served
  hosts_on Stands to _ _ (answered {story} {now} exchange before is_first says may served) = answered exchange (hosts_on Stands to story now before) is_first says may served
  hosts_on Stands to _ _ (held {story} {now} hold before may served) = held hold (hosts_on Stands to story now before) (may_on Stands story hold may) served

  -- the same story, which comes to something weaker, of which something weaker is said of what is
  -- kept
  pub hosted_on : (Stands : List (Exchange L R) → B → Type 0) (comes ends : List (Exchange L R) → Type 0) (why : Parting) → ((xs : List (Exchange L R)) (kept : B) → terms.stands xs kept → Stands xs kept) → ((xs : List (Exchange L R)) → comes xs → ends xs) → (last : N) → IsHosted terms comes why first last → IsHosted (record terms { stands = Stands }) ends why first last
  hosted_on Stands comes ends why kept to last hosted = record { story = hosted.story; hosts = hosts_on Stands kept hosted.story last hosted.hosts; comes_to = to (exchanges hosted.story) hosted.comes_to; settled = hosted.settled; parts = parts_on Stands hosted.story why hosted.parts; alone = hosted.alone }

  -- without a standby there is no link
  unlinked_at : (link : Link) (story : List (Step L R)) (was now : N) (step : LinkStep) → terms.standby ≡ None → link.here ≡ false → IsKeptAtLink terms story was step now → (link_after link step).here ≡ false
  unlinked_at link story was now (Opened path) none closed kept = absurd (cc (sym none ∙ kept))
  unlinked_at link story was now (Gave bytes) none closed kept = closed
  unlinked_at link story was now (Took bytes) none closed kept = closed
  unlinked_at link story was now Closed none closed kept = refl
  unlinked_at link story was now Late none closed kept = closed

  unlinked_by : (link : Link) (story : List (Step L R)) (was now : N) (happening : Happening) → terms.standby ≡ None → link.here ≡ false → IsKept terms story was happening now → (links {L = L} {R = R} link (Happens happening)).here ≡ false
  unlinked_by link story was now (Came door place) none closed kept = closed
  unlinked_by link story was now (Got place bytes) none closed kept = closed
  unlinked_by link story was now (Sent place bytes) none closed kept = closed
  unlinked_by link story was now (Refused place) none closed kept = closed
  unlinked_by link story was now (Left place) none closed kept = closed
  unlinked_by link story was now (Linked step) none closed kept = unlinked_at link story was now step none closed kept
  unlinked_by link story was now Stopped none closed kept = closed

  unlinked : terms.standby ≡ None → (story : List (Step L R)) (now : N) → Hosts terms first story now → (link_in story).here ≡ false
  unlinked none _ _ began = refl
  unlinked none _ _ (waited {story} {was} before did) = unlinked none story was before
  unlinked none _ now (happened {story} {was} happening free before did kept served) =
      ap (λ (l : Link). l.here) (link-push story (Happens happening)) ∙ unlinked_by (link_in story) story was now happening none (unlinked none story was before) kept
  unlinked none _ now (answered {story} exchange before is_first says may served) = ap (λ (l : Link). l.here) (link-push story (Answers exchange)) ∙ unlinked none story now before
  unlinked none _ now (held {story} hold before may served) = ap (λ (l : Link). l.here) (link-push story (Holds hold)) ∙ unlinked none story now before

  -- so nothing is heard of one
  abbrev IsLone : Step L R → Type 0
  IsLone (Happens happening) = ⊤
  IsLone (Answers exchange) = ⊤
  IsLone (Holds Alone) = ⊤
  IsLone (Holds (Upto count)) = ⊥

  lone_hold : terms.standby ≡ None → (story : List (Step L R)) (now : N) (hold : Hold) → Hosts terms first story now → MayHold terms story hold → IsLone (Holds hold)
  lone_hold none story now Alone hosts may = tt
  lone_hold none story now (Upto count) hosts may = absurd (false≢true (sym (unlinked none story now hosts) ∙ may.2))

  lone : terms.standby ≡ None → (story : List (Step L R)) (now : N) → Hosts terms first story now → All IsLone story
  lone none _ _ began = All-nil IsLone
  lone none _ _ (waited {story} {was} before did) = lone none story was before
  lone none _ _ (happened {story} {was} happening free before did kept served) = All-push IsLone story (Happens happening) (lone none story was before) tt
  lone none _ now (answered {story} exchange before is_first says may served) = All-push IsLone story (Answers exchange) (lone none story now before) tt
  lone none _ now (held {story} hold before may served) = All-push IsLone story (Holds hold) (lone none story now before) (lone_hold none story now hold before may)

  lone_stays : (rest : List (Step L R)) → All IsLone rest → fold holds Alone rest ≡ Alone
  lone_stays [] all = refl
  lone_stays (Happens happening ∷ rest) all = lone_stays rest (All-tail IsLone (Happens happening) rest all)
  lone_stays (Answers exchange ∷ rest) all = lone_stays rest (All-tail IsLone (Answers exchange) rest all)
  lone_stays (Holds Alone ∷ rest) all = lone_stays rest (All-tail IsLone (Holds Alone) rest all)
  lone_stays (Holds (Upto count) ∷ rest) all = absurd (All-head IsLone (Holds (Upto count)) rest all)

  All-right : (early rest : List (Step L R)) → All IsLone (early ++ rest) → All IsLone rest
  All-right [] rest all = all
  All-right (step ∷ early) rest all = All-right early rest (All-tail IsLone step (early ++ rest) all)

  -- A host without a standby that goes on alone does so to the end.
  pub stays_alone : terms.standby ≡ None → (early later : List (Step L R)) (now : N) → IsPrefix early later → Hosts terms first later now → hold_in early ≡ Alone → hold_in later ≡ Alone
  stays_alone none early later now onward hosts is =
      ap hold_in (sym onward.1) ∙ fold-append holds (Upto 0) early onward.0 ∙ ap (λ (h : Hold). fold holds h onward.0) is
      ∙ lone_stays onward.0 (All-right early onward.0 (subst (All IsLone) (sym onward.1) (lone none later now hosts)))
