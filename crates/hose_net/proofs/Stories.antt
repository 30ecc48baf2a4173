-- Stories, one step on.
use Rattle.std.proofs.Common.{◌≡◌, ◌≢◌, ◌∙◌, ℕ, ◌≤◌, arith, Bool, true, false, cond, List, [], ◌∷◌, ◌++◌, refl, sym, ap, subst, append_assoc, ⊎_elim}
use Rattle.std.proofs.lemmas.Bool.{cases_eq, eq-eqb, ne_eqb}
use Rattle.std.proofs.lemmas.List.Elements.{All-nil, All-weaker}
use Rattle.std.proofs.lemmas.List.Sums.{fold-append}
use Rattle.hose_net.specs.Happening.{Came, Got, Happening, Left, LinkStep, Linked, Refused, Sent, Stopped}
use Rattle.hose_net.specs.declared.hold.Hold.{Hold}
use Rattle.hose_net.specs.declared.hold.Hold.TheVariants.{Upto}
use Rattle.hose_net.specs.Story.{Answers, Exchange, Happens, HasHappened, Holds, AllServed, Hosts, IsByDoor, IsServed, Life, Step, Terms, began, waited, happened, answered, held, bound_in, bound_of, exchanges, hold_in, holds, joined_after, joined_in, life, link_in, links, lives, newcomer, no_link, nobody}

-- something happened at a place
abbrev pub IsAt : ℕ → Happening → Type 0
IsAt place (Came door at) = place ≡ at
IsAt place (Got at bytes) = place ≡ at
IsAt place (Sent at bytes) = place ≡ at
IsAt place (Refused at) = place ≡ at
IsAt place (Left at) = place ≡ at
IsAt place (Linked step) = ⊥
IsAt place Stopped = ⊥

module _ {L R : Type 0} where
  pub life-push : (place : ℕ) (story : List (Step L R)) (step : Step L R) → life place (story ++ step ∷ []) ≡ lives place (life place story) step
  life-push place story step = fold-append (lives place) nobody story (step ∷ [])

  pub exchanges-push : (story : List (Step L R)) (exchange : Exchange L R) → exchanges (story ++ Answers exchange ∷ []) ≡ exchanges story ++ exchange ∷ []
  exchanges-push [] exchange = refl
  exchanges-push (Happens happening ∷ story) exchange = exchanges-push story exchange
  exchanges-push (Answers first ∷ story) exchange = ap (λ more. first ∷ more) (exchanges-push story exchange)
  exchanges-push (Holds hold ∷ story) exchange = exchanges-push story exchange

  pub exchanges-happens : (story : List (Step L R)) (happening : Happening) → exchanges (story ++ Happens happening ∷ []) ≡ exchanges story
  exchanges-happens [] happening = refl
  exchanges-happens (Happens first ∷ story) happening = exchanges-happens story happening
  exchanges-happens (Answers first ∷ story) happening = ap (λ more. first ∷ more) (exchanges-happens story happening)
  exchanges-happens (Holds hold ∷ story) happening = exchanges-happens story happening

  pub exchanges-holds : (story : List (Step L R)) (hold : Hold) → exchanges (story ++ Holds hold ∷ []) ≡ exchanges story
  exchanges-holds [] hold = refl
  exchanges-holds (Happens first ∷ story) hold = exchanges-holds story hold
  exchanges-holds (Answers first ∷ story) hold = ap (λ more. first ∷ more) (exchanges-holds story hold)
  exchanges-holds (Holds first ∷ story) hold = exchanges-holds story hold

  -- a step at one place leaves the others as they were, and what was heard
  pub life-other : (other place : ℕ) (story : List (Step L R)) (happening : Happening) → IsAt place happening → other ≢ place → life other (story ++ Happens happening ∷ []) ≡ life other story
  life-other other place story (Came door at) here apart = life-push other story _ ∙ ap (λ (b : Bool). cond b (newcomer door) (life other story)) (ne_eqb at other (λ same. apart (sym same ∙ sym here)))
  life-other other place story (Got at bytes) here apart = life-push other story _ ∙ ap (λ (b : Bool). cond b (record (life other story) { given = (life other story).given ++ bytes }) (life other story)) (ne_eqb at other (λ same. apart (sym same ∙ sym here)))
  life-other other place story (Sent at bytes) here apart = life-push other story _ ∙ ap (λ (b : Bool). cond b (record (life other story) { sent = (life other story).sent ++ bytes; refused = false }) (life other story)) (ne_eqb at other (λ same. apart (sym same ∙ sym here)))
  life-other other place story (Refused at) here apart = life-push other story _ ∙ ap (λ (b : Bool). cond b (record (life other story) { refused = true }) (life other story)) (ne_eqb at other (λ same. apart (sym same ∙ sym here)))
  life-other other place story (Left at) here apart = life-push other story _ ∙ ap (λ (b : Bool). cond b (record (life other story) { here = false }) (life other story)) (ne_eqb at other (λ same. apart (sym same ∙ sym here)))
  life-other other place story (Linked step) here apart = absurd here
  life-other other place story Stopped here apart = absurd here

  pub life-other_answers : (other : ℕ) (story : List (Step L R)) (exchange : Exchange L R) → other ≢ exchange.place → life other (story ++ Answers exchange ∷ []) ≡ life other story
  life-other_answers other story exchange apart = life-push other story _ ∙ ap (λ (b : Bool). cond b (record (life other story) { own = (life other story).own ++ exchange ∷ [] }) (life other story)) (ne_eqb exchange.place other (λ same. apart (sym same)))

  pub life-linked : (place : ℕ) (step : LinkStep) (story : List (Step L R)) → life place (story ++ Happens (Linked step) ∷ []) ≡ life place story
  life-linked place step story = life-push place story _

  pub life-holds : (place : ℕ) (hold : Hold) (story : List (Step L R)) → life place (story ++ Holds hold ∷ []) ≡ life place story
  life-holds place hold story = life-push place story _

  pub life-stopped : (place : ℕ) (story : List (Step L R)) → life place (story ++ Happens Stopped ∷ []) ≡ life place story
  life-stopped place story = life-push place story _

  pub hold-push : (story : List (Step L R)) (step : Step L R) → hold_in (story ++ step ∷ []) ≡ holds (hold_in story) step
  hold-push story step = fold-append holds (Upto 0) story (step ∷ [])

  -- what happens leaves how replies are held, and so does an answer
  pub bound-happens : (story : List (Step L R)) (happening : Happening) → bound_in (story ++ Happens happening ∷ []) ≡ bound_in story
  bound-happens story happening = ap bound_of (hold-push story (Happens happening))

  pub bound-answers : (story : List (Step L R)) (exchange : Exchange L R) → bound_in (story ++ Answers exchange ∷ []) ≡ bound_in story
  bound-answers story exchange = ap bound_of (hold-push story (Answers exchange))

  pub bound-holds : (story : List (Step L R)) (hold : Hold) → bound_in (story ++ Holds hold ∷ []) ≡ bound_of hold
  bound-holds story hold = ap bound_of (hold-push story (Holds hold))

  pub link-push : (story : List (Step L R)) (step : Step L R) → link_in (story ++ step ∷ []) ≡ links (link_in story) step
  link-push story step = fold-append links no_link story (step ∷ [])

  -- what happens at a place leaves the link
  pub link-same : (place : ℕ) (story : List (Step L R)) (happening : Happening) → IsAt place happening → link_in (story ++ Happens happening ∷ []) ≡ link_in story
  link-same place story (Came door at) here = link-push story _
  link-same place story (Got at bytes) here = link-push story _
  link-same place story (Sent at bytes) here = link-push story _
  link-same place story (Refused at) here = link-push story _
  link-same place story (Left at) here = link-push story _
  link-same place story (Linked step) here = absurd here
  link-same place story Stopped here = absurd here

  pub joined-push : (story : List (Step L R)) (step : Step L R) → joined_in (story ++ step ∷ []) ≡ joined_after (joined_in story) step
  joined-push story step = fold-append joined_after true story (step ∷ [])

  -- and whether its standby has joined
  pub joined-same : (place : ℕ) (story : List (Step L R)) (happening : Happening) → IsAt place happening → joined_in (story ++ Happens happening ∷ []) ≡ joined_in story
  joined-same place story (Came door at) here = joined-push story _
  joined-same place story (Got at bytes) here = joined-push story _
  joined-same place story (Sent at bytes) here = joined-push story _
  joined-same place story (Refused at) here = joined-push story _
  joined-same place story (Left at) here = joined-push story _
  joined-same place story (Linked step) here = absurd here
  joined-same place story Stopped here = absurd here

  -- at its own place
  pub life-came : (door place : ℕ) (story : List (Step L R)) → life place (story ++ Happens (Came door place) ∷ []) ≡ newcomer door
  life-came door place story = life-push place story _ ∙ ap (λ (b : Bool). cond b (newcomer door) (life place story)) (eq-eqb place place refl)

  pub life-got : (place : ℕ) (bytes : List ℕ) (story : List (Step L R)) → life place (story ++ Happens (Got place bytes) ∷ []) ≡ record (life place story) { given = (life place story).given ++ bytes }
  life-got place bytes story = life-push place story _ ∙ ap (λ (b : Bool). cond b (record (life place story) { given = (life place story).given ++ bytes }) (life place story)) (eq-eqb place place refl)

  pub life-sent : (place : ℕ) (bytes : List ℕ) (story : List (Step L R)) → life place (story ++ Happens (Sent place bytes) ∷ []) ≡ record (life place story) { sent = (life place story).sent ++ bytes; refused = false }
  life-sent place bytes story = life-push place story _ ∙ ap (λ (b : Bool). cond b (record (life place story) { sent = (life place story).sent ++ bytes; refused = false }) (life place story)) (eq-eqb place place refl)

  pub life-refused : (place : ℕ) (story : List (Step L R)) → life place (story ++ Happens (Refused place) ∷ []) ≡ record (life place story) { refused = true }
  life-refused place story = life-push place story _ ∙ ap (λ (b : Bool). cond b (record (life place story) { refused = true }) (life place story)) (eq-eqb place place refl)

  pub life-left : (place : ℕ) (story : List (Step L R)) → life place (story ++ Happens (Left place) ∷ []) ≡ record (life place story) { here = false }
  life-left place story = life-push place story _ ∙ ap (λ (b : Bool). cond b (record (life place story) { here = false }) (life place story)) (eq-eqb place place refl)

  pub life-answers : (exchange : Exchange L R) (story : List (Step L R)) → life exchange.place (story ++ Answers exchange ∷ []) ≡ record (life exchange.place story) { own = (life exchange.place story).own ++ exchange ∷ [] }
  life-answers exchange story = life-push exchange.place story _ ∙ ap (λ (b : Bool). cond b (record (life exchange.place story) { own = (life exchange.place story).own ++ exchange ∷ [] }) (life exchange.place story)) (eq-eqb exchange.place exchange.place refl)

  -- it happened just now, and has happened from then on
  pub happened_now : (story : List (Step L R)) (happening : Happening) → HasHappened (story ++ Happens happening ∷ []) happening
  happened_now story happening = (story, [], refl)

  pub happened_on : (story more later : List (Step L R)) (happening : Happening) → story ++ more ≡ later → HasHappened story happening → HasHappened later happening
  happened_on story more later happening is has = (has.0, has.1 ++ more, sym is ∙ ap (λ (xs : List (Step L R)). xs ++ more) has.2 ∙ append_assoc has.0 (Happens happening ∷ has.1) more)

module _ {N B L R : Type 0} (terms : Terms N B L R) where
  -- each connection is served, where one is and the others were
  pub served_too : (place : ℕ) (story later : List (Step L R)) → ((other : ℕ) → other ≢ place → life other later ≡ life other story) → bound_in later ≡ bound_in story → AllServed terms story → IsServed terms.text (bound_in later) (life place later) → AllServed terms later
  served_too place story later others bound before here other = ⊎_elim
      (λ is. subst (λ (at : ℕ). IsServed terms.text (bound_in later) (life at later)) (sym is) here)
      (λ apart. subst (λ (h : ℕ). IsServed terms.text h (life other later)) (sym bound) (subst (IsServed terms.text (bound_in story)) (sym (others other apart)) (before other)))
      (cases_eq other place)

  served_first : IsServed {L = L} terms.text 0 nobody
  served_first = record { rest = []; given = refl; lines = All-nil (IsByDoor 0); free = []; waiting = []; split = refl; allowed = All-nil (λ (x : Exchange L R). x.needs ≤ 0); unsent = []; sent = refl }

  -- at the end of a story each connection is served
  pub served_now : (first : N) (story : List (Step L R)) (now : N) → Hosts terms first story now → AllServed terms story
  served_now _ _ _ began place = served_first
  served_now _ _ _ (waited before did) place = served_now _ _ _ before place
  served_now _ _ _ (happened happening free before did kept served) place = served place
  served_now _ _ _ (answered exchange before is_first says may served) place = served place
  served_now _ _ _ (held hold before may served) place = served place

  -- more may be sent
  pub served_more : (heard more : ℕ) (life : Life L R) → heard ≤ more → IsServed terms.text heard life → IsServed terms.text more life
  served_more heard more life less served = record { rest = served.rest; given = served.given; lines = served.lines; free = served.free; waiting = served.waiting; split = served.split; allowed = All-weaker (λ (x : Exchange L R). x.needs ≤ heard) (λ (x : Exchange L R). x.needs ≤ more) (λ x within. omega (arith, within, less)) served.free served.allowed; unsent = served.unsent; sent = served.sent }

  pub served_holds : (hold : Hold) (story : List (Step L R)) → ((place : ℕ) → IsServed terms.text (bound_of hold) (life place story)) → AllServed terms (story ++ Holds hold ∷ [])
  served_holds hold story now place =
      subst (λ (h : ℕ). IsServed terms.text h (life place (story ++ Holds hold ∷ []))) (sym (bound-holds story hold))
      (subst (IsServed terms.text (bound_of hold)) (sym (life-holds place hold story)) (now place))

  pub served_linked : (step : LinkStep) (story : List (Step L R)) → AllServed terms story → AllServed terms (story ++ Happens (Linked step) ∷ [])
  served_linked step story before place =
      subst (λ (h : ℕ). IsServed terms.text h (life place (story ++ Happens (Linked step) ∷ []))) (sym (bound-happens story (Linked step)))
      (subst (IsServed terms.text (bound_in story)) (sym (life-linked place step story)) (before place))
