-- What each thing that a host does keeps.
use Rattle.std.specs.Bool.{MatchBool}
use Rattle.std.specs.Option.{MatchOption}
use mathlib.Core.List.{IsPrefix}
use Rattle.std.specs.Prelude.{IfSome, IsSome, option_to_list}
use Rattle.std.proofs.Common.{IsTrue, Option, None, Some, ◌≡◌, ◌≢◌, ◌∙◌, ℕ, ◌+◌, ◌-◌, ◌<◌, ◌≤◌, ◌⊎◌, ⊎_elim, inl, inr, arith, slice_index_or, slice_set, length-append, Bool, true, false, List, [], ◌∷◌, ◌++◌, All, map, length, take, drop, refl, sym, ap, subst, append_assoc, rules}
use Rattle.std.proofs.lemmas.Bool.{cases_Bool, cases_eq, cases_lt, false≢true}
use Rattle.std.proofs.lemmas.Grind.{flat_map-append}
use Rattle.std.proofs.lemmas.List.{append-nil, map_push, get_or-append_right, get_or_append_left, get_or-set_other, get_or-set_same, length-set, take-append-drop}
use Rattle.std.proofs.lemmas.List.Elements.{All-nil, All-push, All-append, All-weaker}
use Rattle.hose_words.specs.declared.lines.Line.{Line}
use Rattle.hose_words.specs.steps.Lines.{Shows}
use Rattle.hose_host.specs.steps.Answering.{AnswersAt, LeavesPlaces}
use Rattle.hose_host.specs.declared.answers.HostAnswers.{Ghosts}
use Rattle.hose_net.specs.declared.connections.Connections.{Ghosts as ConnectionsGhosts}
use Rattle.hose_net.specs.Happening.{Came, Closed, Gave, Got, Happening, Late, Left, LinkStep, Linked, Opened, Refused, Sent, Stopped, Took}
use Rattle.hose_net.specs.declared.hold.Hold.{Hold}
use Rattle.hose_net.specs.declared.hold.Hold.TheVariants.{Alone, Upto}
use Rattle.hose_net.specs.declared.hold.Parting.{Parting}
use Rattle.hose_net.specs.declared.hold.Parting.TheVariants as parting
use Rattle.hose_net.specs.Story.{Answers, AwaitsMore, Exchange, Holds as HoldsSo, Joins, Link, MayAnswer, MayHappen, MayHold, MayLink, Happens, IsByDoor, IsHosted, IsKept, IsKeptAtLink, IsServed, IsSettled, Life, PartsFor, Step, AllServed, began, waited, happened, answered, held as is_held, bound_in, bound_of, exchanges, hold_in, is_empty, joined_in, leaves_lines, life, lines_of, link_after, link_answered, link_in, new_link, newcomer, no_link, nobody, texts_of}
use Rattle.hose_net.proofs.Laws.{own_on, stays_alone}
use Rattle.hose_net.proofs.Stories.{IsAt, bound-answers, bound-happens, bound-holds, exchanges-happens, exchanges-holds, exchanges-push, happened_now, happened_on, hold-push, joined-push, joined-same, life-answers, life-came, life-got, life-holds, life-left, life-linked, life-other, life-other_answers, life-refused, life-sent, life-stopped, link-push, link-same, served_holds, served_linked, served_now, served_too}
use Rattle.hose_host.specs.steps.Seats.{AllFinished, AtRest, Awaits, Calm, Exact, Finished, FinishedBelow, Freed, FreedBelow, Gone, GrowsByLost, Held, Holds, InRound, IsSaid, Keeping, Quiet, Releases, Resting, SeatState, Sits, emptied, fresh_seat, held_of, with_held, with_text}
use Rattle.hose_host.specs.steps.Keeping.{AllSit, At, GoesOnAt, GoesOnLink, Hall, Host, IsOpen, Keeps, KeepsAll, KeepsHost, KeepsLink, KeepsLinkAt, PartsHost, Stands, at, hall, housed, terms_of}

-- one list begins another one, which begins a third
onward_then : {T : Type 0} (one two three : List T) → IsPrefix one two → IsPrefix two three → IsPrefix one three
onward_then one two three first then = (first.0 ++ then.0, sym (append_assoc one first.0 then.0) ∙ ap (λ (xs : List _). xs ++ then.0) first.1 ∙ then.1)

onward_same : {T : Type 0} (one : List T) → IsPrefix one one
onward_same one = ([], append-nil one)

All-left : {T : Type 0} (P : T → Type 0) (xs ys : List T) → All P (xs ++ ys) → All P xs
All-left P xs ys all = λ i d below. subst P (get_or_append_left xs ys d i below) (all i d (omega (arith, below, length-append xs ys)))

nil_from_map : {A B : Type 0} (f : A → B) (xs : List A) → [] ≡ map f xs → xs ≡ []
nil_from_map f [] is = refl
nil_from_map f (x ∷ xs) is = absurd (cc is)

awaits_push : (heard : ℕ) (later : List Held) (last : Held) → (later ≡ [] → heard < last.needs) → AwaitsMore (λ held. held.needs) heard later → AwaitsMore (λ held. held.needs) heard (later ++ last ∷ [])
awaits_push heard [] last less awaits = less refl
awaits_push heard (first ∷ rest) last less awaits = awaits

freed_lost : (heard : ℕ) (seat : SeatState) → seat.lost ≡ true → Awaits heard seat
freed_lost heard seat lost = λ kept. absurd (false≢true (sym kept ∙ lost))

-- a text was taken in, and what may be sent is at hand still
pub freed_said : (heard needs : ℕ) (text : List ℕ) (old new : SeatState) → Awaits heard old → old.lost ≡ false → (new.lost ≡ false → IsSaid heard needs text (emptied old) new) → Awaits heard new
freed_said heard needs text old new awaits kept said = λ open_still. ⊎_elim
    (λ now. subst (AwaitsMore (λ held. held.needs) heard) (ap (λ (s : SeatState). s.later) (sym now.2)) (awaits kept))
    (λ wait. subst (AwaitsMore (λ held. held.needs) heard) (ap (λ (s : SeatState). s.later) (sym wait.1)) (awaits_push heard old.later (record { needs = needs; text = text }) wait.0 (awaits kept)))
    (said open_still)

-- and what is kept stays
stays_said : (heard needs : ℕ) (text kept : List ℕ) (old new : SeatState) → (old.lost ≡ false → old.kept ≡ kept) → old.lost ≡ false → (new.lost ≡ false → IsSaid heard needs text (emptied old) new) → new.lost ≡ false → new.kept ≡ kept
stays_said heard needs text kept old new keeps was said = λ open_still. ⊎_elim
    (λ now. ap (λ (s : SeatState). s.kept) now.2 ∙ keeps was)
    (λ wait. ap (λ (s : SeatState). s.kept) wait.1 ∙ keeps was)
    (said open_still)

joins_more : {L R : Type 0} (hold : Hold) (was count : ℕ) (xs : List (Exchange L R)) → bound_of hold ≡ was → was ≤ count → count < bound_of Alone → Joins hold count xs
joins_more Alone was count xs is more less = absurd (omega (arith, is, more, less))
joins_more (Upto before) was count xs is more less = omega (arith, is, more)

module _ {L R : Type 0} (text : R → List ℕ) (heard : ℕ) where
  awaits_map : (waiting : List (Exchange L R)) → AwaitsMore (λ held. held.needs) heard (map (held_of text) waiting) → AwaitsMore (λ exchange. exchange.needs) heard waiting
  awaits_map [] awaits = tt
  awaits_map (first ∷ rest) awaits = awaits

  served_exact : (life : Life L R) (seat : SeatState) (coming : List ℕ) → All (IsByDoor life.door) life.own → Exact text heard life seat coming → IsServed text heard life
  served_exact life seat coming lines exact = record { rest = exact.held ++ coming; given = exact.given; lines = lines; free = exact.free; waiting = exact.waiting; split = exact.split; allowed = exact.allowed; unsent = seat.output; sent = exact.sent }

  exact_fresh : (door : ℕ) → Exact {L = L} text heard (newcomer door) (fresh_seat door) []
  exact_fresh door = record { here = refl; by = refl; held = []; holds = search rules; plain = All-nil (λ byte. byte ≢ 10); given = refl; free = []; waiting = []; split = refl; allowed = All-nil (λ (x : Exchange L R). x.needs ≤ heard); sent = refl; stuck = λ yes. absurd (false≢true yes); later = refl }

  exact_got : (life : Life L R) (seat : SeatState) (bytes : List ℕ) → Exact text heard life seat [] → Exact text heard (record life { given = life.given ++ bytes }) seat bytes
  exact_got life seat bytes exact = record {
    here = exact.here;
    by = exact.by;
    held = exact.held;
    holds = exact.holds;
    plain = exact.plain;
    given = ap (λ given. given ++ bytes) (exact.given ∙ ap (λ held. lines_of life.own ++ held) (append-nil exact.held)) ∙ append_assoc (lines_of life.own) exact.held bytes;
    free = exact.free;
    waiting = exact.waiting;
    split = exact.split;
    allowed = exact.allowed;
    sent = exact.sent;
    stuck = exact.stuck;
    later = exact.later;
  }

  exact_sent : (life : Life L R) (seat : SeatState) (count : ℕ) (coming : List ℕ) → Exact text heard life seat coming → Exact text heard (record life { sent = life.sent ++ take count seat.output; refused = false }) (record seat { output = drop count seat.output }) coming
  exact_sent life seat count coming exact = record {
    here = exact.here;
    by = exact.by;
    held = exact.held;
    holds = exact.holds;
    plain = exact.plain;
    given = exact.given;
    free = exact.free;
    waiting = exact.waiting;
    split = exact.split;
    allowed = exact.allowed;
    sent = append_assoc life.sent (take count seat.output) (drop count seat.output) ∙ ap (λ more. life.sent ++ more) (take-append-drop count seat.output) ∙ exact.sent;
    stuck = λ yes. absurd (false≢true yes);
    later = exact.later;
  }

  given_answered : (own : List (Exchange L R)) (given : List ℕ) (exchange : Exchange L R) (held coming : List ℕ) → exchange.line ≡ held → given ≡ lines_of own ++ (held ++ 10 ∷ coming) → given ≡ lines_of (own ++ exchange ∷ []) ++ coming
  given_answered own given exchange held coming line is = is
      ∙ ap (λ more. lines_of own ++ more) (sym (append_assoc held (10 ∷ []) coming))
      ∙ sym (append_assoc (lines_of own) (held ++ 10 ∷ []) coming)
      ∙ ap (λ (bytes : List ℕ). (lines_of own ++ (bytes ++ 10 ∷ [])) ++ coming) (sym line)
      ∙ ap (λ more. (lines_of own ++ more) ++ coming) (sym (append-nil (exchange.line ++ 10 ∷ [])))
      ∙ ap (λ more. more ++ coming) (sym (flat_map-append (λ (x : Exchange L R). x.line ++ 10 ∷ []) own (exchange ∷ [])))

  sent_more : (free : List (Exchange L R)) (sent output : List ℕ) (exchange : Exchange L R) → sent ++ output ≡ texts_of text free → sent ++ (output ++ text exchange.reply) ≡ texts_of text (free ++ exchange ∷ [])
  sent_more free sent output exchange is = sym (append_assoc sent output (text exchange.reply))
      ∙ ap (λ more. more ++ text exchange.reply) is
      ∙ ap (λ more. texts_of text free ++ more) (sym (append-nil (text exchange.reply)))
      ∙ sym (flat_map-append (λ (x : Exchange L R). text x.reply) free (exchange ∷ []))

  exact_says : (life : Life L R) (seat new : SeatState) (coming : List ℕ) (exchange : Exchange L R) (exact : Exact text heard life seat (10 ∷ coming)) → exchange.line ≡ exact.held → seat.later ≡ [] → exchange.needs ≤ heard → Exact text heard (record life { own = life.own ++ exchange ∷ [] }) (with_text (emptied seat) (text exchange.reply)) coming
  exact_says life seat new coming exchange exact line empty within =
      let none = nil_from_map (held_of text) exact.waiting (sym empty ∙ exact.later) in
      record {
        here = exact.here;
        by = exact.by;
        held = [];
        holds = search rules;
        plain = All-nil (λ byte. byte ≢ 10);
        given = given_answered life.own life.given exchange exact.held coming line exact.given;
        free = exact.free ++ exchange ∷ [];
        waiting = [];
        split = ap (λ xs. xs ++ exchange ∷ []) (exact.split ∙ ap (λ ws. exact.free ++ ws) none ∙ append-nil exact.free) ∙ sym (append-nil (exact.free ++ exchange ∷ []));
        allowed = All-push (λ (x : Exchange L R). x.needs ≤ heard) exact.free exchange exact.allowed within;
        sent = sent_more exact.free life.sent seat.output exchange exact.sent;
        stuck = λ yes. omega (arith, exact.stuck yes, length-append seat.output (text exchange.reply));
        later = empty;
      }

  exact_waits : (life : Life L R) (seat : SeatState) (coming : List ℕ) (exchange : Exchange L R) (exact : Exact text heard life seat (10 ∷ coming)) → exchange.line ≡ exact.held → Exact text heard (record life { own = life.own ++ exchange ∷ [] }) (with_held (emptied seat) exchange.needs (text exchange.reply)) coming
  exact_waits life seat coming exchange exact line = record {
    here = exact.here;
    by = exact.by;
    held = [];
    holds = search rules;
    plain = All-nil (λ byte. byte ≢ 10);
    given = given_answered life.own life.given exchange exact.held coming line exact.given;
    free = exact.free;
    waiting = exact.waiting ++ exchange ∷ [];
    split = ap (λ xs. xs ++ exchange ∷ []) exact.split ∙ append_assoc exact.free exact.waiting (exchange ∷ []);
    allowed = exact.allowed;
    sent = exact.sent;
    stuck = exact.stuck;
    later = ap (λ ls. ls ++ held_of text exchange ∷ []) exact.later ∙ sym (map_push (held_of text) exact.waiting exchange);
  }

  exact_answered : (life : Life L R) (seat new : SeatState) (coming : List ℕ) (exchange : Exchange L R) (exact : Exact text heard life seat (10 ∷ coming)) → exchange.line ≡ exact.held → IsSaid heard exchange.needs (text exchange.reply) (emptied seat) new → Exact text heard (record life { own = life.own ++ exchange ∷ [] }) new coming
  exact_answered life seat new coming exchange exact line said = ⊎_elim
      (λ now. subst (λ (s : SeatState). Exact text heard (record life { own = life.own ++ exchange ∷ [] }) s coming) (sym now.2) (exact_says life seat new coming exchange exact line now.0 now.1))
      (λ wait. subst (λ (s : SeatState). Exact text heard (record life { own = life.own ++ exchange ∷ [] }) s coming) (sym wait.1) (exact_waits life seat coming exchange exact line))
      said

  -- a refused write does not change what a seat stands for, nor being let go what was served
  exact_refused : (life : Life L R) (seat : SeatState) (coming : List ℕ) → 0 < length seat.output → Exact text heard life seat coming → Exact text heard (record life { refused = true }) seat coming
  exact_refused life seat coming less exact = record { here = exact.here; by = exact.by; held = exact.held; holds = exact.holds; plain = exact.plain; given = exact.given; free = exact.free; waiting = exact.waiting; split = exact.split; allowed = exact.allowed; sent = exact.sent; stuck = λ yes. less; later = exact.later }

  -- who has nothing left to be sent took what it was sent last
  exact_took : (life : Life L R) (seat : SeatState) (coming : List ℕ) → seat.output ≡ [] → Exact text heard life seat coming → life.refused ≡ false
  exact_took life seat coming none exact = ⊎_elim
      (λ yes. absurd (omega (arith, exact.stuck yes, ap length none)))
      (λ no. no)
      (cases_Bool life.refused)

  served_with : (life : Life L R) (here refused : Bool) → IsServed text heard life → IsServed text heard (record life { here = here; refused = refused })
  served_with life here refused served = record { rest = served.rest; given = served.given; lines = served.lines; free = served.free; waiting = served.waiting; split = served.split; allowed = served.allowed; unsent = served.unsent; sent = served.sent }

  -- the first of those that wait is not held any more
  released : (life : Life L R) (seat : SeatState) (coming : List ℕ) (first : Held) (rest : List Held) (exact : Exact text heard life seat coming) (waiting : List (Exchange L R)) → life.own ≡ exact.free ++ waiting → first ∷ rest ≡ map (held_of text) waiting → first.needs ≤ heard → Exact text heard life (record (with_text seat first.text) { later = rest }) coming
  released life seat coming first rest exact [] split is within = absurd (cc is)
  released life seat coming first rest exact (exchange ∷ more) split is within =
      let head : first ≡ held_of text exchange = search (rules, is) in
      record {
        here = exact.here;
        by = exact.by;
        held = exact.held;
        holds = exact.holds;
        plain = exact.plain;
        given = exact.given;
        free = exact.free ++ exchange ∷ [];
        waiting = more;
        split = split ∙ sym (append_assoc exact.free (exchange ∷ []) more);
        allowed = All-push (λ (x : Exchange L R). x.needs ≤ heard) exact.free exchange exact.allowed (subst (λ (h : Held). h.needs ≤ heard) head within);
        sent = ap (λ (h : Held). life.sent ++ (seat.output ++ h.text)) head ∙ sent_more exact.free life.sent seat.output exchange exact.sent;
        stuck = λ yes. omega (arith, exact.stuck yes, length-append seat.output first.text);
        later = search (rules, is);
      }

  pub sits_released : (life : Life L R) (old new : SeatState) (coming : List ℕ) → (new.lost ≡ false → (old.lost ≡ false) × (first : Held) × (old.later ≡ first ∷ new.later) × (first.needs ≤ heard) × (new ≡ record (with_text old first.text) { later = new.later })) → Sits text heard life old coming → Sits text heard life new coming
  sits_released life old new coming releases sits kept =
      let how = releases kept in
      let exact = sits how.0 in
      subst (λ (s : SeatState). Exact text heard life s coming) (sym how.4) (released life old coming how.1 new.later exact exact.waiting exact.split (sym how.2 ∙ exact.later) how.3)

  -- replies that need so many entries may be sent, who needed no more or of whom none needs more
  free_held : (now : ℕ) (own free waiting : List (Exchange L R)) → own ≡ free ++ waiting → (heard ≤ now) ⊎ All (λ (x : Exchange L R). x.needs ≤ now) own → All (λ (x : Exchange L R). x.needs ≤ heard) free → All (λ (x : Exchange L R). x.needs ≤ now) free
  free_held now own free waiting is may allowed = ⊎_elim
      (λ less. All-weaker (λ (x : Exchange L R). x.needs ≤ heard) (λ (x : Exchange L R). x.needs ≤ now) (λ x within. omega (arith, within, less)) free allowed)
      (λ all. All-left (λ (x : Exchange L R). x.needs ≤ now) free waiting (subst (All (λ (x : Exchange L R). x.needs ≤ now)) is all))
      may

  exact_held : (now : ℕ) (life : Life L R) (seat : SeatState) (coming : List ℕ) → (heard ≤ now) ⊎ All (λ (x : Exchange L R). x.needs ≤ now) life.own → Exact text heard life seat coming → Exact text now life seat coming
  exact_held now life seat coming may exact = record { here = exact.here; by = exact.by; held = exact.held; holds = exact.holds; plain = exact.plain; given = exact.given; free = exact.free; waiting = exact.waiting; split = exact.split; allowed = free_held now life.own exact.free exact.waiting exact.split may exact.allowed; sent = exact.sent; stuck = exact.stuck; later = exact.later }

  served_held : (now : ℕ) (life : Life L R) → (heard ≤ now) ⊎ All (λ (x : Exchange L R). x.needs ≤ now) life.own → IsServed text heard life → IsServed text now life
  served_held now life may served = record { rest = served.rest; given = served.given; lines = served.lines; free = served.free; waiting = served.waiting; split = served.split; allowed = free_held now life.own served.free served.waiting served.split may served.allowed; unsent = served.unsent; sent = served.sent }

  -- bytes of a line were taken in
  pub sits_taken : (life : Life L R) (old new : SeatState) (bytes coming : List ℕ) → All (λ byte. byte ≢ 10) bytes → ((held : List ℕ) → Holds old held → new.lost ≡ false → Holds new (held ++ bytes)) → (new.lost ≡ false → old.lost ≡ false) → new.output ≡ old.output → new.later ≡ old.later → new.door ≡ old.door → Sits text heard life old (bytes ++ coming) → Sits text heard life new coming
  sits_taken life old new bytes coming plain takes stays same same_later same_door sits kept =
      let exact = sits (stays kept) in
      record {
        here = exact.here;
        by = same_door ∙ exact.by;
        held = exact.held ++ bytes;
        holds = takes exact.held exact.holds kept;
        plain = All-append (λ byte. byte ≢ 10) exact.held bytes exact.plain plain;
        given = exact.given ∙ ap (λ more. lines_of life.own ++ more) (sym (append_assoc exact.held bytes coming));
        free = exact.free;
        waiting = exact.waiting;
        split = exact.split;
        allowed = exact.allowed;
        sent = ap (λ more. life.sent ++ more) same ∙ exact.sent;
        stuck = λ yes. subst (λ (output : List ℕ). 0 < length output) (sym same) (exact.stuck yes);
        later = same_later ∙ exact.later;
      }

  -- what is kept is not looked at yet
  exact_kept : (life : Life L R) (seat : SeatState) (kept coming : List ℕ) → Exact text heard life seat coming → Exact text heard life (record seat { kept = kept }) coming
  exact_kept life seat kept coming exact = record { here = exact.here; by = exact.by; held = exact.held; holds = exact.holds; plain = exact.plain; given = exact.given; free = exact.free; waiting = exact.waiting; split = exact.split; allowed = exact.allowed; sent = exact.sent; stuck = exact.stuck; later = exact.later }

  -- a connection that is finished was told all that it may be told
  pub settled_at : (ended : Bool) (life : Life L R) (seat : SeatState) → (life.here ≡ true → seat.lost ≡ false) → Sits text heard life seat seat.kept → Finished ended heard life seat → IsSettled text heard ended life
  settled_at ended life seat open_here sits finished = record {
    answered = λ goes_on here.
        let kept = open_here here in
        let exact = sits kept in
        (exact.held, exact.given ∙ ap (λ (coming : List ℕ). lines_of life.own ++ (exact.held ++ coming)) (finished.none goes_on kept) ∙ ap (λ (held : List ℕ). lines_of life.own ++ held) (append-nil exact.held), exact.plain);
    told = λ here never.
        let kept = open_here here in
        let exact = sits kept in
        record {
          free = exact.free;
          waiting = exact.waiting;
          split = exact.split;
          allowed = exact.allowed;
          sent = sym (append-nil life.sent) ∙ ap (λ (output : List ℕ). life.sent ++ output) (sym (finished.quiet.out kept never)) ∙ exact.sent;
          awaits = awaits_map exact.waiting (subst (AwaitsMore (λ held. held.needs) heard) exact.later (finished.quiet.freed.awaits kept));
        };
  }

pub is_true : (b : Bool) → (b ≡ false → false ≡ true) → b ≡ true
is_true b none = ⊎_elim (λ yes. yes) (λ no. absurd (false≢true (none no))) (cases_Bool b)

is_empty-push : {T : Type 0} (xs : List T) (x : T) → is_empty (xs ++ x ∷ []) ≡ false
is_empty-push [] x = refl
is_empty-push (first ∷ rest) x = refl

pub releases_less : (heard : ℕ) (old new : SeatState) (did_so : Bool) → Releases heard old new did_so → IsTrue did_so → length new.later < length old.later
releases_less heard old new true how is = how.0
releases_less heard old new false how is = absurd (false≢true is)

pub popped : (old new : List Held) (result : Option Held) (first : Held) (heard : ℕ) → old ≡ option_to_list result ++ new → first ≡ slice_index_or old 0 first → first.needs ≤ heard → IsSome result → MatchOption result ((new ≡ old) × AwaitsMore (λ held. held.needs) heard new) (λ waiting. (old ≡ waiting ∷ new) × (waiting.needs ≤ heard))
popped old new None first heard items is within some = absurd (false≢true some)
popped old new (Some waiting) first heard items is within some = (items, subst (λ (h : Held). h.needs ≤ heard) (is ∙ ap (λ (xs : List Held). slice_index_or xs 0 first) items) within)

pub released_seat : (old mid new : SeatState) (waiting : Held) (heard : ℕ) → old.later ≡ waiting ∷ mid.later → waiting.needs ≤ heard → mid ≡ record old { later = mid.later } → new.later ≡ mid.later → (new.lost ≡ false → new ≡ with_text mid waiting.text) → Releases heard old new true
released_seat old mid new waiting heard is within frame same grows = (
  omega (arith, ap length is, ap length same),
  λ kept.
      let grown = grows kept in (
        sym (ap (λ (s : SeatState). s.lost) grown ∙ ap (λ (s : SeatState). s.lost) frame) ∙ kept,
        waiting,
        is ∙ ap (λ (l : List Held). waiting ∷ l) (sym same),
        within,
        grown ∙ ap (λ (s : SeatState). with_text s waiting.text) frame ∙ ap (λ (l : List Held). record (with_text old waiting.text) { later = l }) (sym same),
      ),
)

module _ {N A R B : Type 0} (net : ConnectionsGhosts N) (by : Ghosts A R B) (heard : ℕ) where
  pub keeps_then : (P Q S : Life by.said R → SeatState → Type 0) (place : ℕ) (old now new : At N A) → Keeps net by P Q place heard old now → Keeps net by Q S place heard now new → Keeps net by P S place heard old new
  keeps_then P Q S place old now new begun more = λ first from topic story stands sits so.
      let one = begun first from topic story stands sits so in
      let two = more first from topic one.later one.stands one.sits one.ends in
      record { later = two.later; onward = onward_then story one.later two.later one.onward two.onward; links = two.links ∙ one.links; others = λ other apart. two.others other apart ∙ one.others other apart; stands = two.stands; sits = two.sits; ends = two.ends }

  -- more is known before
  pub keeps_from : (P Q S : Life by.said R → SeatState → Type 0) (place : ℕ) (old new : At N A) → ((life : Life by.said R) → P life old.seat → Q life old.seat) → Keeps net by Q S place heard old new → Keeps net by P S place heard old new
  keeps_from P Q S place old new goes keeps = λ first from topic story stands sits so. keeps first from topic story stands sits (goes (life place story) so)

  -- less is said after
  pub keeps_on : (P Q S : Life by.said R → SeatState → Type 0) (place : ℕ) (old new : At N A) → ((life : Life by.said R) → Q life new.seat → S life new.seat) → Keeps net by P Q place heard old new → Keeps net by P S place heard old new
  keeps_on P Q S place old new goes keeps = λ first from topic story stands sits so.
      let one = keeps first from topic story stands sits so in
      record { later = one.later; onward = one.onward; links = one.links; others = one.others; stands = one.stands; sits = one.sits; ends = goes (life place one.later) one.ends }

  -- only the seat changes
  pub keeps_seat : (P Q : Life by.said R → SeatState → Type 0) (place : ℕ) (network : N) (by_now : A) (old new : SeatState) (was coming : List ℕ) → ((text : R → List ℕ) (life : Life by.said R) → Sits text heard life old was → Sits text heard life new coming) → ((life : Life by.said R) → P life old → Q life new) → Keeps net by P Q place heard (at network by_now old was) (at network by_now new coming)
  keeps_seat P Q place network by_now old new was coming sits_on goes = λ first from topic story stands sits so.
      record { later = story; onward = onward_same story; links = refl; others = λ other apart. refl; stands = stands; sits = sits_on (by.text topic) (life place story) sits; ends = goes (life place story) so }

  -- nothing changes
  pub keeps_same : (P Q : Life by.said R → SeatState → Type 0) (place : ℕ) (old : At N A) → ((life : Life by.said R) → P life old.seat → Q life old.seat) → Keeps net by P Q place heard old old
  keeps_same P Q place old goes = λ first from topic story stands sits so. record { later = story; onward = onward_same story; links = refl; others = λ other apart. refl; stands = stands; sits = sits; ends = goes (life place story) so }

  pub quiet_lost : (k : List ℕ) (seat : SeatState) (life : Life by.said R) → seat.lost ≡ true → Quiet heard k life seat
  quiet_lost k seat life lost = record { freed = record { awaits = freed_lost heard seat lost; keeps = λ kept. absurd (false≢true (sym kept ∙ lost)) }; out = λ kept. absurd (false≢true (sym kept ∙ lost)) }

  -- whatever is kept, it is what the seat keeps
  freed_kept : (k : List ℕ) (life : Life by.said R) (seat : SeatState) → Freed heard k life seat → Freed heard seat.kept life seat
  freed_kept k life seat freed = record { awaits = freed.awaits; keeps = λ kept. refl }

  quiet_kept : (k : List ℕ) (life : Life by.said R) (seat : SeatState) → Quiet heard k life seat → Quiet heard seat.kept life seat
  quiet_kept k life seat quiet = record { freed = freed_kept k life seat quiet.freed; out = quiet.out }

  pub quiet_calm : (k : List ℕ) (life : Life by.said R) (seat : SeatState) → Quiet heard k life seat → Calm heard k life seat
  quiet_calm k life seat quiet = record { freed = quiet.freed; out = λ kept none. quiet.out kept }

  pub calm_lost : (k : List ℕ) (seat : SeatState) (life : Life by.said R) → seat.lost ≡ true → Calm heard k life seat
  calm_lost k seat life lost = quiet_calm k life seat (quiet_lost k seat life lost)

  pub finished_rest : (ended : Bool) (life : Life by.said R) (seat : SeatState) → Finished ended heard life seat → AtRest heard seat.kept life seat
  finished_rest ended life seat finished = record { calm = quiet_calm seat.kept life seat finished.quiet; gone = finished.gone }

  pub finished_on : (was now : Bool) (life : Life by.said R) (seat : SeatState) → (now ≡ false → was ≡ false) → Finished was heard life seat → Finished now heard life seat
  finished_on was now life seat goes finished = record { quiet = finished.quiet; gone = finished.gone; none = λ goes_on. finished.none (goes goes_on) }

  pub finished_lost : (ended : Bool) (life : Life by.said R) (seat : SeatState) → seat.lost ≡ true → life.here ≡ false → Finished ended heard life seat
  finished_lost ended life seat lost gone = record { quiet = quiet_lost seat.kept seat life lost; gone = λ _. gone; none = λ _ kept. absurd (false≢true (sym kept ∙ lost)) }

  pub keeps_kept : (P Q S : Life by.said R → SeatState → Type 0) (k : List ℕ) (place : ℕ) (old : At N A) (network : N) (by_now : A) (seat : SeatState) → ((life : Life by.said R) → Q life seat → Keeping k life seat) → ((life : Life by.said R) → Q life seat → S life seat) → Keeps net by P Q place heard old (at network by_now seat k) → Keeps net by P S place heard old (at network by_now seat seat.kept)
  keeps_kept P Q S k place old network by_now seat is goes keeps = λ first from topic story stands sits so.
      let one = keeps first from topic story stands sits so in
      record { later = one.later; onward = one.onward; links = one.links; others = one.others; stands = one.stands; sits = λ kept. subst (λ (bytes : List ℕ). Exact (by.text topic) heard (life place one.later) seat bytes) (sym (is (life place one.later) one.ends kept)) (one.sits kept); ends = goes (life place one.later) one.ends }

  pub keeps_freed : (P : Life by.said R → SeatState → Type 0) (k : List ℕ) (place : ℕ) (old : At N A) (network : N) (by_now : A) (seat : SeatState) → Keeps net by P (Freed heard k) place heard old (at network by_now seat k) → Keeps net by P (Freed heard seat.kept) place heard old (at network by_now seat seat.kept)
  keeps_freed P k place old network by_now seat keeps = keeps_kept P (Freed heard k) (Freed heard seat.kept) k place old network by_now seat (λ life so. so.keeps) (λ life so. freed_kept k life seat so) keeps

  pub keeps_calm : (P : Life by.said R → SeatState → Type 0) (k : List ℕ) (place : ℕ) (old : At N A) (network : N) (by_now : A) (seat : SeatState) → Keeps net by P (Quiet heard k) place heard old (at network by_now seat k) → Keeps net by P (Calm heard seat.kept) place heard old (at network by_now seat seat.kept)
  keeps_calm P k place old network by_now seat keeps = keeps_kept P (Quiet heard k) (Calm heard seat.kept) k place old network by_now seat (λ life so. so.freed.keeps) (λ life so. quiet_calm seat.kept life seat (quiet_kept k life seat so)) keeps

  pub keeps_still : (P : Life by.said R → SeatState → Type 0) (k : List ℕ) (place : ℕ) (old : At N A) (network : N) (by_now : A) (seat : SeatState) → Keeps net by P (Quiet heard k) place heard old (at network by_now seat k) → Keeps net by P (Quiet heard seat.kept) place heard old (at network by_now seat seat.kept)
  keeps_still P k place old network by_now seat keeps = keeps_kept P (Quiet heard k) (Quiet heard seat.kept) k place old network by_now seat (λ life so. so.freed.keeps) (λ life so. quiet_kept k life seat so) keeps

  -- what is kept is taken out, and the rest of a piece is kept
  pub keeps_out : (place : ℕ) (network : N) (by_now : A) (old new : SeatState) → new ≡ record old { kept = [] } → Keeps net by (Calm heard old.kept) (Freed heard []) place heard (at network by_now old old.kept) (at network by_now new old.kept)
  keeps_out place network by_now old new is = keeps_seat (Calm heard old.kept) (Freed heard []) place network by_now old new old.kept old.kept
      (λ text life sits kept. subst (λ (s : SeatState). Exact text heard life s old.kept) (sym is) (exact_kept text heard life old [] old.kept (sits (ap (λ (s : SeatState). s.lost) (sym is) ∙ kept))))
      (λ life so. subst (λ (s : SeatState). Freed heard [] life s) (sym is) (record { awaits = so.freed.awaits; keeps = λ kept. refl }))

  pub keeps_in : (place : ℕ) (network : N) (by_now : A) (old new : SeatState) (rest : List ℕ) → (new.lost ≡ false → new ≡ record old { kept = rest }) → Keeps net by (Freed heard []) (Freed heard rest) place heard (at network by_now old rest) (at network by_now new rest)
  keeps_in place network by_now old new rest is = keeps_seat (Freed heard []) (Freed heard rest) place network by_now old new rest rest
      (λ text life sits kept. subst (λ (s : SeatState). Exact text heard life s rest) (sym (is kept)) (exact_kept text heard life old rest rest (sits (ap (λ (s : SeatState). s.lost) (sym (is kept)) ∙ kept))))
      (λ life so. record { awaits = λ kept. subst (λ (s : SeatState). AwaitsMore (λ held. held.needs) heard s.later) (sym (is kept)) (so.awaits (ap (λ (s : SeatState). s.lost) (sym (is kept)) ∙ kept)); keeps = λ kept. ap (λ (s : SeatState). s.kept) (is kept) })

  -- what is left of a piece is kept again
  pub keeps_back : (place : ℕ) (network : N) (by_now : A) (old new : SeatState) (rest : List ℕ) → new ≡ record old { kept = rest } → Keeps net by (Freed heard []) (Freed heard rest) place heard (at network by_now old rest) (at network by_now new rest)
  keeps_back place network by_now old new rest is = keeps_in place network by_now old new rest (λ kept. is)

  -- bytes of a line were taken in
  pub keeps_taken : (k : List ℕ) (place : ℕ) (network : N) (by_now : A) (old new : SeatState) (bytes coming : List ℕ) → All (λ byte. byte ≢ 10) bytes → ((held : List ℕ) → Holds old held → new.lost ≡ false → Holds new (held ++ bytes)) → (new.lost ≡ false → old.lost ≡ false) → new.output ≡ old.output → new.later ≡ old.later → new.door ≡ old.door → new.kept ≡ old.kept → Keeps net by (Freed heard k) (Freed heard k) place heard (at network by_now old (bytes ++ coming)) (at network by_now new coming)
  keeps_taken k place network by_now old new bytes coming plain takes stays same same_later same_door same_kept = keeps_seat (Freed heard k) (Freed heard k) place network by_now old new (bytes ++ coming) coming (λ text life. sits_taken text heard life old new bytes coming plain takes stays same same_later same_door) (λ life so. record { awaits = λ kept. subst (AwaitsMore (λ held. held.needs) heard) (sym same_later) (so.awaits (stays kept)); keeps = λ kept. same_kept ∙ so.keeps (stays kept) })

  -- the seat is given up
  pub keeps_lost : (P Q : Life by.said R → SeatState → Type 0) (place : ℕ) (network : N) (by_now : A) (old new : SeatState) (was coming : List ℕ) → new.lost ≡ true → ((life : Life by.said R) → Q life new) → Keeps net by P Q place heard (at network by_now old was) (at network by_now new coming)
  keeps_lost P Q place network by_now old new was coming lost goes = keeps_seat P Q place network by_now old new was coming (λ text life sits kept. absurd (false≢true (sym kept ∙ lost))) (λ life so. goes life)

  -- nothing happened
  stands_waited : (first : N) (from : by.origin) (topic : by.subject) (story : List (Step by.said R)) (was now : N) (by_now : A) → net.did was [] now → Stands net by first from topic story heard was by_now → Stands net by first from topic story heard now by_now
  stands_waited first from topic story was now by_now went stands = record { hosts = waited stands.hosts went; link = stands.link; comes = stands.comes; links = stands.links; answered = stands.answered; about = stands.about; hears = stands.hears; alone = stands.alone; within = stands.within; may = stands.may; knows = stands.knows }

  -- who answers has changed, and no line was answered
  stands_by : (first : N) (from : by.origin) (topic : by.subject) (story : List (Step by.said R)) (network : N) (old now : A) → ((xs : List (Exchange by.said R)) (link : Link) → by.comes from xs link old → by.comes from xs link now) → by.about now ≡ by.about old → by.count now ≡ by.count old → by.waits now ≡ by.waits old → ((place : ℕ) → (life place story).here ≡ true → by.is_new now place ≡ is_empty (life place story).own) → Stands net by first from topic story heard network old → Stands net by first from topic story heard network now
  stands_by first from topic story network old now comes about count waits knows stands = record {
    hosts = stands.hosts;
    link = stands.link;
    comes = comes (exchanges story) stands.link stands.comes;
    links = stands.links;
    answered = stands.answered;
    about = about ∙ stands.about;
    hears = stands.hears;
    alone = stands.alone;
    within = subst (λ (n : ℕ). All (λ (x : Exchange by.said R). x.needs ≤ n) (exchanges story)) (sym count) stands.within;
    may = λ no. stands.may (sym waits ∙ no);
    knows = knows;
  }

  pub keeps_quiet : (P : Life by.said R → SeatState → Type 0) (place : ℕ) (was now : N) (by_now : A) (seat : SeatState) (coming : List ℕ) → net.did was [] now → Keeps net by P P place heard (at was by_now seat coming) (at now by_now seat coming)
  keeps_quiet P place was now by_now seat coming went = λ first from topic story stands sits so.
      record { later = story; onward = onward_same story; links = refl; others = λ other apart. refl; stands = stands_waited first from topic story was now by_now went stands; sits = sits; ends = so }

  knows_on : (place : ℕ) (story later : List (Step by.said R)) (was now : A) → ((other : ℕ) → other ≢ place → life other later ≡ life other story) → ((other : ℕ) → other ≢ place → by.is_new now other ≡ by.is_new was other) → ((other : ℕ) → (life other story).here ≡ true → by.is_new was other ≡ is_empty (life other story).own) → ((life place later).here ≡ true → by.is_new now place ≡ is_empty (life place later).own) → (other : ℕ) → (life other later).here ≡ true → by.is_new now other ≡ is_empty (life other later).own
  knows_on place story later was now others frames knows known other here = ⊎_elim
      (λ same. subst (λ (p : ℕ). by.is_new now p ≡ is_empty (life p later).own) (sym same) (known (subst (λ (p : ℕ). (life p later).here ≡ true) same here)))
      (λ apart. frames other apart ∙ knows other (ap (λ (l : Life by.said R). l.here) (sym (others other apart)) ∙ here) ∙ ap (λ (l : Life by.said R). is_empty l.own) (sym (others other apart)))
      (cases_eq other place)

  module _ (first : N) (from : by.origin) (topic : by.subject) (story : List (Step by.said R)) (was : N) (by_now : A) (stands : Stands net by first from topic story heard was by_now) where
    before : AllServed (terms_of net by from topic) story
    before = served_now (terms_of net by from topic) first story was stands.hosts

    served_here : (place : ℕ) → IsServed (by.text topic) heard (life place story)
    served_here place = subst (λ (h : ℕ). IsServed (by.text topic) h (life place story)) stands.hears (before place)

    lined : (place : ℕ) → All (IsByDoor (life place story).door) (life place story).own
    lined place = (before place).lines

    -- something happened
    stands_on : (happening : Happening) (now : N) (by_new : A) (link : Link) → MayHappen story happening → net.did was (happening ∷ []) now → IsKept (terms_of net by from topic) story was happening now → AllServed (terms_of net by from topic) (story ++ Happens happening ∷ []) → by.comes from (exchanges story) link by_new → ((link_in (story ++ Happens happening ∷ [])).here ≡ true → link ≡ link_in (story ++ Happens happening ∷ [])) → link.answered ≡ (link_in (story ++ Happens happening ∷ [])).answered → by.about by_new ≡ topic → by.count by_new ≡ by.count by_now → (by.waits by_new ≡ false → MayAnswer (terms_of net by from topic) (story ++ Happens happening ∷ [])) → ((place : ℕ) → (life place (story ++ Happens happening ∷ [])).here ≡ true → by.is_new by_new place ≡ is_empty (life place (story ++ Happens happening ∷ [])).own) → Stands net by first from topic (story ++ Happens happening ∷ []) heard now by_new
    stands_on happening now by_new link free went kept served comes links counts about count may knows = record {
      hosts = happened happening free stands.hosts went kept served;
      link = link;
      comes = subst (λ (xs : List (Exchange by.said R)). by.comes from xs link by_new) (sym (exchanges-happens story happening)) comes;
      links = links;
      answered = counts;
      about = about;
      hears = bound-happens story happening ∙ stands.hears;
      alone = λ is. hold-push story (Happens happening) ∙ stands.alone is;
      within = subst (All (λ (x : Exchange by.said R). x.needs ≤ by.count by_new)) (sym (exchanges-happens story happening)) (subst (λ (n : ℕ). All (λ (x : Exchange by.said R). x.needs ≤ n) (exchanges story)) (sym count) stands.within);
      may = may;
      knows = knows;
    }

    -- a line may be answered as before, where what happened leaves whether a standby has joined
    may_on : (happening : Happening) (by_new : A) → by.waits by_new ≡ by.waits by_now → joined_in (story ++ Happens happening ∷ []) ≡ joined_in story → by.waits by_new ≡ false → MayAnswer (terms_of net by from topic) (story ++ Happens happening ∷ [])
    may_on happening by_new same joined open_now = λ may un. hold-push story (Happens happening) ∙ stands.may (sym same ∙ open_now) may (sym joined ∙ un)

    -- something happened at a place
    went_on : (Q : Life by.said R → SeatState → Type 0) (place : ℕ) (now : N) (happening : Happening) (seat : SeatState) (coming : List ℕ) (new : Life by.said R) → IsAt place happening → MayHappen story happening → net.did was (happening ∷ []) now → IsKept (terms_of net by from topic) story was happening now → life place (story ++ Happens happening ∷ []) ≡ new → (new.here ≡ true → by.is_new by_now place ≡ is_empty new.own) → IsServed (by.text topic) heard new → Sits (by.text topic) heard new seat coming → Q new seat → GoesOnAt net by Q place first from topic story heard (at now by_now seat coming)
    went_on Q place now happening seat coming new here free went kept_then is known served sits so =
        let others : (other : ℕ) → other ≢ place → life other (story ++ Happens happening ∷ []) ≡ life other story = λ other apart. life-other other place story happening here apart in
        let same : bound_in (story ++ Happens happening ∷ []) ≡ bound_in story = bound-happens story happening in
        let linked : link_in (story ++ Happens happening ∷ []) ≡ link_in story = link-same place story happening here in
        record {
          later = story ++ Happens happening ∷ [];
          onward = (Happens happening ∷ [], refl);
          links = ap (λ (l : Link). l.here) linked;
          others = others;
          stands = stands_on happening now by_now stands.link free went kept_then (served_too (terms_of net by from topic) place story (story ++ Happens happening ∷ []) others same before (subst (λ (h : ℕ). IsServed (by.text topic) h (life place (story ++ Happens happening ∷ []))) (sym (same ∙ stands.hears)) (subst (IsServed (by.text topic) heard) (sym is) served)))
              stands.comes (λ there. stands.links (ap (λ (l : Link). l.here) (sym linked) ∙ there) ∙ sym linked) (stands.answered ∙ ap (λ (l : Link). l.answered) (sym linked)) stands.about refl (may_on happening by_now refl (joined-same place story happening here))
              (knows_on place story (story ++ Happens happening ∷ []) by_now by_now others (λ other apart. refl) stands.knows (subst (λ (l : Life by.said R). l.here ≡ true → by.is_new by_now place ≡ is_empty l.own) (sym is) known));
          sits = λ kept. subst (λ (l : Life by.said R). Exact (by.text topic) heard l seat coming) (sym is) (sits kept);
          ends = subst (λ (l : Life by.said R). Q l seat) (sym is) so;
        }

    went_exact : (Q : Life by.said R → SeatState → Type 0) (place : ℕ) (now : N) (happening : Happening) (seat : SeatState) (coming : List ℕ) (new : Life by.said R) → IsAt place happening → MayHappen story happening → net.did was (happening ∷ []) now → IsKept (terms_of net by from topic) story was happening now → life place (story ++ Happens happening ∷ []) ≡ new → (new.here ≡ true → by.is_new by_now place ≡ is_empty new.own) → All (IsByDoor new.door) new.own → Exact (by.text topic) heard new seat coming → Q new seat → GoesOnAt net by Q place first from topic story heard (at now by_now seat coming)
    went_exact Q place now happening seat coming new here free went kept_then is known lines exact so =
        went_on Q place now happening seat coming new here free went kept_then is known (served_exact (by.text topic) heard new seat coming lines exact) (λ kept. exact) so

    answered_on : (Q : Life by.said R → SeatState → Type 0) (now : A) (old mid new : SeatState) (coming : List ℕ) (exchange : Exchange by.said R) → (exact : Exact (by.text topic) heard (life exchange.place story) old (10 ∷ coming)) → exchange.line ≡ exact.held → exchange.door ≡ old.door → exchange.first ≡ by.is_new by_now exchange.place → by.says topic exchange.first exchange.door exchange.line exchange.said → by.waits by_now ≡ false → by.comes from (exchanges story ++ exchange ∷ []) (link_answered stands.link) now → by.count by_now ≤ by.count now → exchange.needs ≤ by.count now → by.is_new now exchange.place ≡ false → ((other : ℕ) → other ≢ exchange.place → by.is_new now other ≡ by.is_new by_now other) → by.about now ≡ topic
        → Exact (by.text topic) heard (record (life exchange.place story) { own = (life exchange.place story).own ++ exchange ∷ [] }) mid coming → (new.lost ≡ false → new ≡ mid) → ((life : Life by.said R) → Q life new) → GoesOnAt net by Q exchange.place first from topic story heard (at was now new coming)
    answered_on Q now old mid new coming exchange exact line door is_first says open_now comes rises needs known frames stays there text_is so =
        let others : (other : ℕ) → other ≢ exchange.place → life other (story ++ Answers exchange ∷ []) ≡ life other story = λ other apart. life-other_answers other story exchange apart in
        let same : bound_in (story ++ Answers exchange ∷ []) ≡ bound_in story = bound-answers story exchange in
        let linked : link_in (story ++ Answers exchange ∷ []) ≡ link_answered (link_in story) = link-push story (Answers exchange) in
        let grown : Life by.said R = record (life exchange.place story) { own = (life exchange.place story).own ++ exchange ∷ [] } in
        let is : life exchange.place (story ++ Answers exchange ∷ []) ≡ grown = life-answers exchange story in
        let lines : All (IsByDoor grown.door) grown.own = All-push (IsByDoor grown.door) (life exchange.place story).own exchange (lined exchange.place) (door ∙ exact.by, subst (All (λ byte. byte ≢ 10)) (sym line) exact.plain) in
        record {
          later = story ++ Answers exchange ∷ [];
          onward = (Answers exchange ∷ [], refl);
          links = ap (λ (l : Link). l.here) linked;
          others = others;
          stands = record {
            hosts = answered exchange stands.hosts (is_first ∙ stands.knows exchange.place exact.here) says (stands.may open_now) (served_too (terms_of net by from topic) exchange.place story (story ++ Answers exchange ∷ []) others same before (subst (λ (h : ℕ). IsServed (by.text topic) h (life exchange.place (story ++ Answers exchange ∷ []))) (sym (same ∙ stands.hears)) (subst (IsServed (by.text topic) heard) (sym is) (served_exact (by.text topic) heard grown mid coming lines there))));
            link = link_answered stands.link;
            comes = subst (λ (xs : List (Exchange by.said R)). by.comes from xs (link_answered stands.link) now) (sym (exchanges-push story exchange)) comes;
            links = λ there. ap link_answered (stands.links (ap (λ (l : Link). l.here) (sym linked) ∙ there)) ∙ sym linked;
            answered = ap (λ (n : ℕ). n + 1) stands.answered ∙ ap (λ (l : Link). l.answered) (sym linked);
            about = stays;
            hears = same ∙ stands.hears;
            alone = λ is. hold-push story (Answers exchange) ∙ stands.alone is;
            within = subst (All (λ (x : Exchange by.said R). x.needs ≤ by.count now)) (sym (exchanges-push story exchange)) (All-push (λ (x : Exchange by.said R). x.needs ≤ by.count now) (exchanges story) exchange (All-weaker (λ (x : Exchange by.said R). x.needs ≤ by.count by_now) (λ (x : Exchange by.said R). x.needs ≤ by.count now) (λ x within. omega (arith, within, rises)) (exchanges story) stands.within) needs);
            may = λ no may un. hold-push story (Answers exchange) ∙ stands.may open_now may (sym (joined-push story (Answers exchange)) ∙ un);
            knows = knows_on exchange.place story (story ++ Answers exchange ∷ []) by_now now others frames stands.knows (λ here. known ∙ sym (is_empty-push (life exchange.place story).own exchange) ∙ ap (λ (l : Life by.said R). is_empty l.own) (sym is));
          };
          sits = λ kept. subst (λ (l : Life by.said R). Exact (by.text topic) heard l new coming) (sym is) (subst (λ (seat : SeatState). Exact (by.text topic) heard grown seat coming) (sym (text_is kept)) there);
          ends = so (life exchange.place (story ++ Answers exchange ∷ []));
        }

  pub keeps_got : (place : ℕ) (was now : N) (by_now : A) (seat : SeatState) (bytes : List ℕ) → seat.lost ≡ false → seat.output ≡ [] → net.did was (Got place bytes ∷ []) now → Keeps net by (Calm heard []) (Freed heard []) place heard (at was by_now seat []) (at now by_now seat bytes)
  keeps_got place was now by_now seat bytes kept none went = λ first from topic story stands sits so.
      went_exact first from topic story was by_now stands (Freed heard []) place now (Got place bytes) seat bytes (record (life place story) { given = (life place story).given ++ bytes }) refl ((sits kept).here, exact_took (by.text topic) heard (life place story) seat [] none (sits kept)) went tt (life-got place bytes story) (stands.knows place) (lined first from topic story was by_now stands place) (exact_got (by.text topic) heard (life place story) seat bytes (sits kept)) (record { awaits = so.freed.awaits; keeps = so.freed.keeps })

  pub keeps_sent : (k : List ℕ) (place : ℕ) (was now : N) (by_now : A) (seat new : SeatState) (count : ℕ) (kept_now : B) → seat.lost ≡ false → net.did was (Sent place (take count seat.output) ∷ []) now → net.saw B was kept_now now → ((from : by.origin) (xs : List (Exchange by.said R)) (link : Link) → by.comes from xs link by_now → by.stands from xs kept_now) → new ≡ record seat { output = drop count seat.output } → Keeps net by (Freed heard k) (Freed heard k) place heard (at was by_now seat k) (at now by_now new k)
  keeps_sent k place was now by_now seat new count kept_now kept went saw stand is = λ first from topic story stands sits so.
      went_exact first from topic story was by_now stands (Freed heard k) place now (Sent place (take count seat.output)) new k (record (life place story) { sent = (life place story).sent ++ take count seat.output; refused = false }) refl (sits kept).here went (kept_now, saw, stand from (exchanges story) stands.link stands.comes) (life-sent place (take count seat.output) story) (stands.knows place) (lined first from topic story was by_now stands place)
      (subst (λ (s : SeatState). Exact (by.text topic) heard (record (life place story) { sent = (life place story).sent ++ take count seat.output; refused = false }) s k) (sym is) (exact_sent (by.text topic) heard (life place story) seat count k (sits kept)))
      (subst (λ (s : SeatState). Freed heard k (record (life place story) { sent = (life place story).sent ++ take count seat.output; refused = false }) s) (sym is) (record { awaits = so.awaits; keeps = so.keeps }))

  pub keeps_refused : (k : List ℕ) (place : ℕ) (was now : N) (by_now : A) (seat : SeatState) (coming : List ℕ) → 0 < length seat.output → net.did was (Refused place ∷ []) now → Keeps net by (Freed heard k) (Quiet heard k) place heard (at was by_now seat coming) (at now by_now seat coming)
  keeps_refused k place was now by_now seat coming less went = λ first from topic story stands sits so.
      went_on first from topic story was by_now stands (Quiet heard k) place now (Refused place) seat coming (record (life place story) { refused = true }) refl tt went tt (life-refused place story) (stands.knows place) (served_with (by.text topic) heard (life place story) (life place story).here true (served_here first from topic story was by_now stands place)) (λ kept. exact_refused (by.text topic) heard (life place story) seat coming less (sits kept))
      (record { freed = record { awaits = so.awaits; keeps = so.keeps }; out = λ kept never. absurd (false≢true (sym never)) })

  pub keeps_came : (door place : ℕ) (was now : N) (by_now : A) (seat new : SeatState) → seat.lost ≡ true → by.is_new by_now place ≡ true → net.did was (Came door place ∷ []) now → new ≡ fresh_seat door → Keeps net by (AtRest heard seat.kept) (AtRest heard new.kept) place heard (at was by_now seat seat.kept) (at now by_now new new.kept)
  keeps_came door place was now by_now seat new lost known went is = λ first from topic story stands sits so.
      went_exact first from topic story was by_now stands (AtRest heard new.kept) place now (Came door place) new new.kept (newcomer door) refl (so.gone lost) went tt (life-came door place story) (λ here. known) (All-nil (IsByDoor door))
      (subst (λ (s : SeatState). Exact {L = by.said} (by.text topic) heard (newcomer door) s s.kept) (sym is) (exact_fresh (by.text topic) heard door))
      (record { calm = record { freed = record { awaits = λ kept. subst (λ (s : SeatState). AwaitsMore (λ held. held.needs) heard s.later) (sym is) tt; keeps = λ kept. refl }; out = λ kept none never. ap (λ (s : SeatState). s.output) is }; gone = λ now_lost. absurd (false≢true (sym (ap (λ (s : SeatState). s.lost) is) ∙ now_lost)) })

  -- whoever was given up is let go
  pub keeps_left : (P : Life by.said R → SeatState → Type 0) (place : ℕ) (was now : N) (by_now : A) (seat : SeatState) (old_coming coming : List ℕ) → seat.lost ≡ true → net.did was (Left place ∷ []) now → Keeps net by P (Finished false heard) place heard (at was by_now seat old_coming) (at now by_now seat coming)
  keeps_left P place was now by_now seat old_coming coming lost went = λ first from topic story stands sits so.
      went_on first from topic story was by_now stands (Finished false heard) place now (Left place) seat coming (record (life place story) { here = false }) refl tt went tt (life-left place story) (λ here. absurd (false≢true here)) (served_with (by.text topic) heard (life place story) false (life place story).refused (served_here first from topic story was by_now stands place)) (λ kept. absurd (false≢true (sym kept ∙ lost)))
      (finished_lost false (record (life place story) { here = false }) seat lost refl)

  -- what is known of a place where no one is comes or goes
  pub keeps_known : (P : Life by.said R → SeatState → Type 0) (place : ℕ) (network : N) (old now : A) (seat : SeatState) (coming : List ℕ) → ((life : Life by.said R) → P life seat → life.here ≡ false) → ((other : ℕ) → other ≢ place → (by.is_new now other ≡ by.is_new old other) × (by.over now other ≡ by.over old other)) → ((from : by.origin) (xs : List (Exchange by.said R)) (link : Link) → by.comes from xs link old → by.comes from xs link now) → by.about now ≡ by.about old → by.count now ≡ by.count old → by.waits now ≡ by.waits old → Keeps net by P P place heard (at network old seat coming) (at network now seat coming)
  keeps_known P place network old now seat coming gone frames comes same count waits = λ first from topic story stands sits so. record {
    later = story;
    onward = onward_same story;
    links = refl;
    others = λ other apart. refl;
    stands = stands_by first from topic story network old now (λ xs link. comes from xs link) same count waits (knows_on place story story old now (λ other apart. refl) (λ other apart. (frames other apart).0) stands.knows (λ here. absurd (false≢true (sym (gone (life place story) so) ∙ here)))) stands;
    sits = sits;
    ends = so;
  }

  -- a line was answered
  pub keeps_answered : (place : ℕ) (network : N) (old now : A) (seat new : SeatState) (coming : List ℕ) (shown : Line) (reply : R) → seat.lost ≡ false → ((held : List ℕ) → Holds seat held → Shows shown held) → ((from : by.origin) (link : Link) → AnswersAt (λ (xs : List (Exchange by.said R)). by.comes from xs link) (λ (xs : List (Exchange by.said R)). by.comes from xs (link_answered link)) (by.says (by.about old)) place seat.door shown (by.is_new old place) (by.count now) old now reply) → by.waits old ≡ false → by.count old ≤ by.count now → by.is_new now place ≡ false → ((other : ℕ) → other ≢ place → (by.is_new now other ≡ by.is_new old other) × (by.over now other ≡ by.over old other)) → by.about now ≡ by.about old → (new.lost ≡ false → IsSaid heard (by.count now) (by.text (by.about old) reply) (emptied seat) new)
      → Keeps net by (Freed heard []) (Freed heard []) place heard (at network old seat (10 ∷ coming)) (at network now new coming)
  keeps_answered place network old now seat new coming shown reply kept shows comes_on open_now rises known frames same text_is = λ first from topic story stands sits so.
      let exact = sits kept in
      let next = comes_on from stands.link (exchanges story) exact.held (shows exact.held exact.holds) stands.comes in
      let text_at : by.text (by.about old) reply ≡ by.text topic reply = ap (λ (t : by.subject). by.text t reply) stands.about in
      let said : new.lost ≡ false → IsSaid heard (by.count now) (by.text topic reply) (emptied seat) new = λ open_still. subst (λ (t : List ℕ). IsSaid heard (by.count now) t (emptied seat) new) text_at (text_is open_still) in
      let exchange : Exchange by.said R = record { place = place; door = seat.door; first = by.is_new old place; line = exact.held; said = next.0; reply = reply; needs = by.count now } in
      let answered_by : (mid : SeatState) → Exact (by.text topic) heard (record (life place story) { own = (life place story).own ++ exchange ∷ [] }) mid coming → (new.lost ≡ false → new ≡ mid) → GoesOnAt net by (Freed heard []) place first from topic story heard (at network now new coming) = λ mid there same_as.
      answered_on first from topic story network old stands (Freed heard []) now seat mid new coming exchange exact refl refl refl
      (subst (λ (subject : by.subject). by.says subject (by.is_new old place) seat.door exact.held next.0) stands.about next.1) open_now next.2 rises (omega arith) known (λ other apart. (frames other apart).0) (same ∙ stands.about) there same_as
      (λ life. record { awaits = freed_said heard (by.count now) (by.text topic reply) seat new so.awaits kept said; keeps = stays_said heard (by.count now) (by.text topic reply) [] seat new so.keeps kept said }) in
      elim (cases_Bool new.lost) [
        | inl lost ↦ answered_by (with_held (emptied seat) (by.count now) (by.text topic reply)) (exact_waits (by.text topic) heard (life place story) seat coming exchange exact refl) (λ open_still. absurd (false≢true (sym open_still ∙ lost)))
        | inr open_still ↦ answered_by new (exact_answered (by.text topic) heard (life place story) seat new coming exchange exact refl (said open_still)) (λ kept_on. refl)
      ]

  -- the first text that waits may be sent, or nothing changed
  pub keeps_released : (k : List ℕ) (place : ℕ) (network : N) (by_now : A) (old new : SeatState) → Releases heard old new true → Keeps net by (Keeping k) (Keeping k) place heard (at network by_now old k) (at network by_now new k)
  keeps_released k place network by_now old new how = keeps_seat (Keeping k) (Keeping k) place network by_now old new k k (λ text life. sits_released text heard life old new k how.1) (λ life so kept. ap (λ (s : SeatState). s.kept) (how.1 kept).4 ∙ so (how.1 kept).0)

  pub keeps_awaits : (k : List ℕ) (place : ℕ) (network : N) (by_now : A) (old new : SeatState) → Releases heard old new false → Keeps net by (Keeping k) (Freed heard k) place heard (at network by_now old k) (at network by_now new k)
  keeps_awaits k place network by_now old new how = keeps_seat (Keeping k) (Freed heard k) place network by_now old new k k (λ text life sits kept. subst (λ (s : SeatState). Exact text heard life s k) (sym how.0) (sits (ap (λ (s : SeatState). s.lost) (sym how.0) ∙ kept))) (λ life so. record { awaits = λ kept. how.1; keeps = λ kept. ap (λ (s : SeatState). s.kept) how.0 ∙ so (ap (λ (s : SeatState). s.lost) (sym how.0) ∙ kept) })

  pub keeps_released_by : (k : List ℕ) (place : ℕ) (network : N) (by_now : A) (old new : SeatState) (did_so : Bool) → Releases heard old new did_so → MatchBool did_so (Keeps net by (Keeping k) (Keeping k) place heard (at network by_now old k) (at network by_now new k)) (Keeps net by (Keeping k) (Freed heard k) place heard (at network by_now old k) (at network by_now new k))
  keeps_released_by k place network by_now old new true how = keeps_released k place network by_now old new how
  keeps_released_by k place network by_now old new false how = keeps_awaits k place network by_now old new how

  -- ---- with all seats

  pub all_quiet : (Is : ℕ → ℕ → Life by.said R → SeatState → Type 0) (was now : N) (by_now : A) (seats : List SeatState) → net.did was [] now → KeepsAll net by Is Is (hall was by_now seats heard) (hall now by_now seats heard)
  all_quiet Is was now by_now seats went = λ first from topic story stands sit. record { later = story; onward = onward_same story; also = refl; stands = stands_waited first from topic story was now by_now went stands; sit = sit }

  -- the same is told of all places in other words
  pub all_weaker : (Was Now : ℕ → ℕ → Life by.said R → SeatState → Type 0) (network : N) (by_now : A) (seats : List SeatState) → ((place : ℕ) (life : Life by.said R) (seat : SeatState) → place < length seats → Was place heard life seat → Now place heard life seat) → KeepsAll net by Was Now (hall network by_now seats heard) (hall network by_now seats heard)
  all_weaker Was Now network by_now seats goes = λ first from topic story stands all. record { later = story; onward = onward_same story; also = refl; stands = stands; sit = record { sit = all.sit; rest = λ place seat below. goes place (life place story) (slice_index_or seats place seat) below (all.rest place seat below); beyond = all.beyond } }

  -- seats of which no one has one were added
  pub all_grow : (network : N) (by_now : A) (old new : List SeatState) → GrowsByLost old new → KeepsAll net by Resting Resting (hall network by_now old heard) (hall network by_now new heard)
  all_grow network by_now old new grows = λ first from topic story stands all.
      let left : (place : ℕ) (seat : SeatState) → place < length old → slice_index_or new place seat ≡ slice_index_or old place seat = λ place seat within. ap (λ (xs : List SeatState). slice_index_or xs place seat) grows.1 ∙ get_or_append_left old grows.0 seat place within in
      let lost : (place : ℕ) (seat : SeatState) → place < length new → length old ≤ place → (slice_index_or new place seat).lost ≡ true = λ place seat below past.
      ap (λ (s : SeatState). s.lost) (ap (λ (xs : List SeatState). slice_index_or xs place seat) grows.1 ∙ get_or-append_right old grows.0 (length old) place seat refl past)
      ∙ grows.2 (place - length old) seat (omega (arith, below, past, ap length grows.1, length-append old grows.0)) in
      record {
        later = story;
        onward = onward_same story;
        also = refl;
        stands = stands;
        sit = record {
          sit = λ place seat below. ⊎_elim
              (λ within. subst (λ (s : SeatState). Sits (by.text topic) heard (life place story) s s.kept) (sym (left place seat within)) (all.sit place seat within))
              (λ past. λ kept. absurd (false≢true (sym kept ∙ lost place seat below past)))
              (cases_lt place (length old));
          rest = λ place seat below. ⊎_elim
              (λ within. subst (λ (s : SeatState). Resting place heard (life place story) s) (sym (left place seat within)) (all.rest place seat within))
              (λ past. record { calm = calm_lost (slice_index_or new place seat).kept (slice_index_or new place seat) (life place story) (lost place seat below past); gone = λ _. all.beyond place past })
              (cases_lt place (length old));
          beyond = λ place past. all.beyond place (omega (arith, past, ap length grows.1, length-append old grows.0));
        };
      }

  -- a call at one place
  pub all_at : (Was Now : ℕ → ℕ → Life by.said R → SeatState → Type 0) (P Q : Life by.said R → SeatState → Type 0) (place : ℕ) (n1 n2 : N) (a1 a2 : A) (seats : List SeatState) (old new : SeatState) → place < length seats → old ≡ slice_index_or seats place old → ((life : Life by.said R) → Was place heard life old → P life old) → ((life : Life by.said R) → Q life new → Now place heard life new) → ((other : ℕ) (life : Life by.said R) (seat : SeatState) → other ≢ place → Was other heard life seat → Now other heard life seat) → Keeps net by P Q place heard (at n1 a1 old old.kept) (at n2 a2 new new.kept) → KeepsAll net by Was Now (hall n1 a1 seats heard) (hall n2 a2 (slice_set seats place new) heard)
  all_at Was Now P Q place n1 n2 a1 a2 seats old new within is ready done same_else keeps = λ first from topic story stands all.
      let one = keeps first from topic story stands (subst (λ (s : SeatState). Sits (by.text topic) heard (life place story) s s.kept) (sym is) (all.sit place old within))
      (ready (life place story) (subst (λ (s : SeatState). Was place heard (life place story) s) (sym is) (all.rest place old within))) in
      let same_len = length-set seats place new in
      record {
        later = one.later;
        onward = one.onward;
        also = one.links;
        stands = one.stands;
        sit = record {
          sit = λ other seat below. ⊎_elim
              (λ same. subst (λ (p : ℕ). Sits (by.text topic) heard (life p one.later) (slice_index_or (slice_set seats place new) p seat) (slice_index_or (slice_set seats place new) p seat).kept) (sym same)
              (subst (λ (s : SeatState). Sits (by.text topic) heard (life place one.later) s s.kept) (sym (get_or-set_same seats place new seat within)) one.sits))
              (λ apart. subst (λ (s : SeatState). Sits (by.text topic) heard (life other one.later) s s.kept) (sym (get_or-set_other seats place other new seat apart))
              (subst (λ (l : Life by.said R). Sits (by.text topic) heard l (slice_index_or seats other seat) (slice_index_or seats other seat).kept) (sym (one.others other apart)) (all.sit other seat (omega (arith, below, same_len)))))
              (cases_eq other place);
          rest = λ other seat below. ⊎_elim
              (λ same. subst (λ (p : ℕ). Now p heard (life p one.later) (slice_index_or (slice_set seats place new) p seat)) (sym same)
              (subst (λ (s : SeatState). Now place heard (life place one.later) s) (sym (get_or-set_same seats place new seat within)) (done (life place one.later) one.ends)))
              (λ apart. subst (λ (s : SeatState). Now other heard (life other one.later) s) (sym (get_or-set_other seats place other new seat apart))
              (subst (λ (l : Life by.said R). Now other heard l (slice_index_or seats other seat)) (sym (one.others other apart)) (same_else other (life other story) (slice_index_or seats other seat) apart (all.rest other seat (omega (arith, below, same_len))))))
              (cases_eq other place);
          beyond = λ other past. ap (λ (l : Life by.said R). l.here) (one.others other (λ same. absurd (omega (arith, same, past, within, same_len)))) ∙ all.beyond other (omega (arith, past, same_len));
        };
      }

  -- a call at one place, where all are at rest
  pub all_rest : (place : ℕ) (n1 n2 : N) (a1 a2 : A) (seats : List SeatState) (old new : SeatState) → place < length seats → old ≡ slice_index_or seats place old → Keeps net by (AtRest heard old.kept) (AtRest heard new.kept) place heard (at n1 a1 old old.kept) (at n2 a2 new new.kept) → KeepsAll net by Resting Resting (hall n1 a1 seats heard) (hall n2 a2 (slice_set seats place new) heard)
  all_rest place n1 n2 a1 a2 seats old new within is keeps = all_at Resting Resting (AtRest heard old.kept) (AtRest heard new.kept) place n1 n2 a1 a2 seats old new within is (λ life so. so) (λ life so. so) (λ other life seat apart so. so) keeps

  -- where more was heard
  pub all_freed : (place : ℕ) (n1 n2 : N) (a1 a2 : A) (seats : List SeatState) (old new : SeatState) → place < length seats → old ≡ slice_index_or seats place old → Keeps net by Gone (Finished true heard) place heard (at n1 a1 old old.kept) (at n2 a2 new new.kept) → KeepsAll net by (FreedBelow place) (FreedBelow (place + 1)) (hall n1 a1 seats heard) (hall n2 a2 (slice_set seats place new) heard)
  all_freed place n1 n2 a1 a2 seats old new within is keeps = all_at (FreedBelow place) (FreedBelow (place + 1)) Gone (Finished true heard) place n1 n2 a1 a2 seats old new within is (λ life so. so.0) (λ life so. (so.gone, λ below. so)) (λ other life seat apart so. (so.0, λ below. so.1 (omega (arith, apart, below)))) keeps

  -- where it is to stop
  pub all_finished : (was now : Bool) (place : ℕ) (n1 n2 : N) (a1 a2 : A) (seats : List SeatState) (old new : SeatState) → (now ≡ false → was ≡ false) → place < length seats → old ≡ slice_index_or seats place old → Keeps net by (AtRest heard old.kept) (Finished now heard) place heard (at n1 a1 old old.kept) (at n2 a2 new new.kept) → KeepsAll net by (FinishedBelow was place) (FinishedBelow now (place + 1)) (hall n1 a1 seats heard) (hall n2 a2 (slice_set seats place new) heard)
  all_finished was now place n1 n2 a1 a2 seats old new goes within is keeps = all_at (FinishedBelow was place) (FinishedBelow now (place + 1)) (AtRest heard old.kept) (Finished now heard) place n1 n2 a1 a2 seats old new within is (λ life so. so.0) (λ life so. (finished_rest now life new so, λ below. so)) (λ other life seat apart so. (so.0, λ below. finished_on was now life seat goes (so.1 (omega (arith, apart, below))))) keeps

  -- where no line is answered any more
  pub all_written : (place : ℕ) (n1 n2 : N) (a1 a2 : A) (seats : List SeatState) (old new : SeatState) → place < length seats → old ≡ slice_index_or seats place old → Keeps net by (Finished true heard) (Finished true heard) place heard (at n1 a1 old old.kept) (at n2 a2 new new.kept) → KeepsAll net by (AllFinished true) (AllFinished true) (hall n1 a1 seats heard) (hall n2 a2 (slice_set seats place new) heard)
  all_written place n1 n2 a1 a2 seats old new within is keeps = all_at (AllFinished true) (AllFinished true) (Finished true heard) (Finished true heard) place n1 n2 a1 a2 seats old new within is (λ life so. so) (λ life so. so) (λ other life seat apart so. so) keeps

module _ {N A R B : Type 0} (net : ConnectionsGhosts N) (by : Ghosts A R B) where
  pub all_then : (P Q S : ℕ → ℕ → Life by.said R → SeatState → Type 0) (one two three : Hall N A) → KeepsAll net by P Q one two → KeepsAll net by Q S two three → KeepsAll net by P S one three
  all_then P Q S one two three begun more = λ first from topic story stands sit.
      let then = begun first from topic story stands sit in
      let last = more first from topic then.later then.stands then.sit in
      record { later = last.later; onward = onward_then story then.later last.later then.onward last.onward; also = last.also ∙ then.also; stands = last.stands; sit = last.sit }

  -- ---- at the link

  -- what is kept where so much was heard
  pub link_then_at : (heard : ℕ) (was mid new : Bool) (n1 n2 n3 : N) (a1 a2 a3 : A) → KeepsLinkAt net by heard was n1 a1 mid n2 a2 → KeepsLinkAt net by heard mid n2 a2 new n3 a3 → KeepsLinkAt net by heard was n1 a1 new n3 a3
  link_then_at heard was mid new n1 n2 n3 a1 a2 a3 begun more = λ first from topic story stands there.
      let one = begun first from topic story stands there in
      let two = more first from topic one.later one.stands one.there in
      record { later = two.later; onward = onward_then story one.later two.later one.onward two.onward; same = λ place. two.same place ∙ one.same place; stands = two.stands; there = two.there }

  pub link_then : (was mid new : Bool) (n1 n2 n3 : N) (a1 a2 a3 : A) → KeepsLink net by was n1 a1 mid n2 a2 → KeepsLink net by mid n2 a2 new n3 a3 → KeepsLink net by was n1 a1 new n3 a3
  link_then was mid new n1 n2 n3 a1 a2 a3 begun more = λ heard. link_then_at heard was mid new n1 n2 n3 a1 a2 a3 (begun heard) (more heard)

  pub link_quiet : (opened : Bool) (was now : N) (by_now : A) → net.did was [] now → KeepsLink net by opened was by_now opened now by_now
  link_quiet opened was now by_now went = λ heard first from topic story stands there. record { later = story; onward = onward_same story; same = λ place. refl; stands = stands_waited net by heard first from topic story was now by_now went stands; there = there }

  pub link_same : (opened : Bool) (network : N) (by_now : A) → KeepsLink net by opened network by_now opened network by_now
  link_same opened network by_now = λ heard first from topic story stands there. record { later = story; onward = onward_same story; same = λ place. refl; stands = stands; there = there }

  pub link_by : (opened : Bool) (network : N) (old now : A) → ((from : by.origin) (xs : List (Exchange by.said R)) (link : Link) → by.comes from xs link old → by.comes from xs link now) → LeavesPlaces by.is_new by.over by.about by.count by.waits old now → KeepsLink net by opened network old opened network now
  link_by opened network old now comes leaves = λ heard first from topic story stands there. record { later = story; onward = onward_same story; same = λ place. refl; stands = stands_by net by heard first from topic story network old now (comes from) leaves.same_about leaves.same_count leaves.same_waits (λ place here. leaves.same_new place ∙ stands.knows place here) stands; there = there }

  leaves_same : (by_now : A) → LeavesPlaces by.is_new by.over by.about by.count by.waits by_now by_now
  leaves_same by_now = record { same_new = λ place. refl; same_over = λ place. refl; same_about = refl; same_count = refl; same_waits = refl }

  -- all places are as they were, whether lines wait or not
  abbrev Leaves : A → A → Type 0
  Leaves old now = LeavesPlaces by.is_new by.over by.about by.count (λ (a : A). false) old now

  leaves_too : (old now : A) → LeavesPlaces by.is_new by.over by.about by.count by.waits old now → Leaves old now
  leaves_too old now leaves = record { same_new = leaves.same_new; same_over = leaves.same_over; same_about = leaves.same_about; same_count = leaves.same_count; same_waits = refl }

  pub leaves_none : (by_now : A) → Leaves by_now by_now
  leaves_none by_now = leaves_too by_now by_now (leaves_same by_now)

  module _ (heard : ℕ) (first : N) (from : by.origin) (topic : by.subject) (story : List (Step by.said R)) (was : N) (by_now : A) (stands : Stands net by first from topic story heard was by_now) where
    -- something happened at the link
    linked_on : (step : LinkStep) (now : N) (by_new : A) (link : Link) (opened : Bool) → MayLink (link_in story) step → net.did was (Linked step ∷ []) now → IsKeptAtLink (terms_of net by from topic) story was step now → by.comes from (exchanges story) link by_new → ((link_in (story ++ Happens (Linked step) ∷ [])).here ≡ true → link ≡ link_in (story ++ Happens (Linked step) ∷ [])) → link.answered ≡ (link_in (story ++ Happens (Linked step) ∷ [])).answered → Leaves by_now by_new → (by.waits by_new ≡ false → MayAnswer (terms_of net by from topic) (story ++ Happens (Linked step) ∷ [])) → IsOpen net by opened (story ++ Happens (Linked step) ∷ []) → GoesOnLink net by opened first from topic story heard now by_new
    linked_on step now by_new link opened free went kept comes links counts leaves may there = record {
      later = story ++ Happens (Linked step) ∷ [];
      onward = (Happens (Linked step) ∷ [], refl);
      same = λ place. life-linked place step story;
      stands = stands_on net by heard first from topic story was by_now stands (Linked step) now by_new link free went kept (served_linked (terms_of net by from topic) step story (before net by heard first from topic story was by_now stands)) comes links counts (leaves.same_about ∙ stands.about) leaves.same_count may
          (λ place. subst (λ (l : Life by.said R). l.here ≡ true → by.is_new by_new place ≡ is_empty l.own) (sym (life-linked place step story)) (λ here. leaves.same_new place ∙ stands.knows place here));
      there = there;
    }

    may_still : (step : LinkStep) (by_new : A) → by.waits by_new ≡ by.waits by_now → joined_in (story ++ Happens (Linked step) ∷ []) ≡ joined_in story → by.waits by_new ≡ false → MayAnswer (terms_of net by from topic) (story ++ Happens (Linked step) ∷ [])
    may_still step = may_on net by heard first from topic story was by_now stands (Linked step)

    pushed : (step : LinkStep) → link_in (story ++ Happens (Linked step) ∷ []) ≡ link_after (link_in story) step
    pushed step = link-push story (Happens (Linked step))

  -- it was opened, where so much was heard, and lines wait unless the host is alone
  pub link_opened : (heard : ℕ) (alone was : Bool) (n1 n2 : N) (a1 a2 : A) (path : List ℕ) → (alone ≡ true → heard ≡ bound_of Alone) → (by.goes_alone (by.about a1) ≡ true → by.waits a2 ≡ false → alone ≡ true) → by.standby_at (by.about a1) ≡ Some path → net.did n1 (Linked (Opened path) ∷ []) n2 → ((from : by.origin) (xs : List (Exchange by.said R)) (link : Link) (at : List ℕ) → by.comes from xs link a1 → by.comes from xs (link_after link (Opened at)) a2) → Leaves a1 a2 → KeepsLinkAt net by heard was n1 a1 true n2 a2
  link_opened heard alone was n1 n2 a1 a2 path most waits is went comes leaves = λ first from topic story stands there.
      let push = pushed heard first from topic story n1 a1 stands (Opened path) in
      linked_on heard first from topic story n1 a1 stands (Opened path) n2 a2 (new_link stands.link.answered) true tt went (ap (λ (t : by.subject). by.standby_at t) (sym stands.about) ∙ is) (comes from (exchanges story) stands.link path stands.comes) (λ _. ap new_link stands.answered ∙ sym push) (stands.answered ∙ ap (λ (l : Link). l.answered) (sym push)) leaves
      (λ no may un. hold-push story (Happens (Linked (Opened path))) ∙ stands.alone (most (waits (ap (λ (t : by.subject). by.goes_alone t) stands.about ∙ may) no)))
      (λ _. ap (λ (l : Link). l.here) push)

  pub link_gave : (n1 n2 : N) (a1 a2 : A) (bytes : List ℕ) → net.did n1 (Linked (Gave bytes) ∷ []) n2 → ((from : by.origin) (xs : List (Exchange by.said R)) (link : Link) → by.comes from xs link a1 → by.comes from xs (link_after link (Gave bytes)) a2) → LeavesPlaces by.is_new by.over by.about by.count by.waits a1 a2 → KeepsLink net by true n1 a1 true n2 a2
  link_gave n1 n2 a1 a2 bytes went comes leaves = λ heard first from topic story stands there.
      let push = pushed heard first from topic story n1 a1 stands (Gave bytes) in
      let same = stands.links (there refl) in
      linked_on heard first from topic story n1 a1 stands (Gave bytes) n2 a2 (link_after stands.link (Gave bytes)) true (there refl) went tt (comes from (exchanges story) stands.link stands.comes) (λ _. ap (λ (l : Link). link_after l (Gave bytes)) same ∙ sym push) (stands.answered ∙ ap (λ (l : Link). l.answered) (sym push)) (leaves_too a1 a2 leaves) (may_still heard first from topic story n1 a1 stands (Gave bytes) a2 leaves.same_waits (joined-push story (Happens (Linked (Gave bytes))))) (λ _. ap (λ (l : Link). l.here) push ∙ there refl)

  pub link_took : (n1 n2 : N) (a1 a2 : A) (unsent : List ℕ) (count : ℕ) (kept : B) → net.did n1 (Linked (Took (take count unsent)) ∷ []) n2 → net.saw B n1 kept n2 → ((from : by.origin) (xs : List (Exchange by.said R)) (link : Link) → by.comes from xs link a1 → by.stands from xs kept) → ((from : by.origin) (xs : List (Exchange by.said R)) (link : Link) (many : ℕ) → by.comes from xs link a1 → (heard : Option ℕ) × by.leads from xs (link_after link (Took (take many unsent))) heard) → ((from : by.origin) (xs : List (Exchange by.said R)) (link : Link) → by.comes from xs link a1 → by.comes from xs (link_after link (Took (take count unsent))) a2) → LeavesPlaces by.is_new by.over by.about by.count by.waits a1 a2 → KeepsLink net by true n1 a1 true n2 a2
  link_took n1 n2 a1 a2 unsent count kept went saw stand leads comes leaves = λ heard first from topic story stands there.
      let push = pushed heard first from topic story n1 a1 stands (Took (take count unsent)) in
      let same = stands.links (there refl) in
      let leads_so = leads from (exchanges story) stands.link count stands.comes in
      linked_on heard first from topic story n1 a1 stands (Took (take count unsent)) n2 a2 (link_after stands.link (Took (take count unsent))) true (there refl) went
      (kept, saw, stand from (exchanges story) stands.link stands.comes, leads_so.0, subst (λ (l : Link). by.leads from (exchanges story) (link_after l (Took (take count unsent))) leads_so.0) same leads_so.1)
      (comes from (exchanges story) stands.link stands.comes) (λ _. ap (λ (l : Link). link_after l (Took (take count unsent))) same ∙ sym push) (stands.answered ∙ ap (λ (l : Link). l.answered) (sym push)) (leaves_too a1 a2 leaves) (may_still heard first from topic story n1 a1 stands (Took (take count unsent)) a2 leaves.same_waits (joined-push story (Happens (Linked (Took (take count unsent)))))) (λ _. ap (λ (l : Link). l.here) push ∙ there refl)

  pub link_closed : (was : Bool) (n1 n2 : N) (by_now : A) → net.did n1 (Linked Closed ∷ []) n2 → KeepsLink net by was n1 by_now false n2 by_now
  link_closed was n1 n2 by_now went = λ heard first from topic story stands there.
      let push = pushed heard first from topic story n1 by_now stands Closed in
      linked_on heard first from topic story n1 by_now stands Closed n2 by_now stands.link false tt went tt stands.comes (λ here. absurd (false≢true (sym (ap (λ (l : Link). l.here) push) ∙ here))) (stands.answered ∙ ap (λ (l : Link). l.answered) (sym push)) (leaves_none by_now) (may_still heard first from topic story n1 by_now stands Closed by_now refl (joined-push story (Happens (Linked Closed)))) (λ here. absurd (false≢true here))

  -- ---- with all seats and the link

  sit_same : (Is : ℕ → ℕ → Life by.said R → SeatState → Type 0) (topic : by.subject) (heard : ℕ) (story later : List (Step by.said R)) (seats : List SeatState) → ((place : ℕ) → life place later ≡ life place story) → AllSit net by Is topic heard story seats → AllSit net by Is topic heard later seats
  sit_same Is topic heard story later seats same all = record {
    sit = λ place seat below. subst (λ (l : Life by.said R). Sits (by.text topic) heard l (slice_index_or seats place seat) (slice_index_or seats place seat).kept) (sym (same place)) (all.sit place seat below);
    rest = λ place seat below. subst (λ (l : Life by.said R). Is place heard l (slice_index_or seats place seat)) (sym (same place)) (all.rest place seat below);
    beyond = λ place past. ap (λ (l : Life by.said R). l.here) (same place) ∙ all.beyond place past;
  }

  host_link_at : (Is : ℕ → ℕ → Life by.said R → SeatState → Type 0) (was opened : Bool) (n1 n2 : N) (a1 a2 : A) (seats : List SeatState) (heard : ℕ) → KeepsLinkAt net by heard was n1 a1 opened n2 a2 → KeepsHost net by Is Is (housed n1 a1 seats heard was) (housed n2 a2 seats heard opened)
  host_link_at Is was opened n1 n2 a1 a2 seats heard keeps = λ first from topic story stands there all.
      let one = keeps first from topic story stands there in
      record { later = one.later; onward = one.onward; also = one.there; stands = one.stands; sit = sit_same Is topic heard story one.later seats one.same all }

  pub host_link : (Is : ℕ → ℕ → Life by.said R → SeatState → Type 0) (was opened : Bool) (n1 n2 : N) (a1 a2 : A) (seats : List SeatState) (heard : ℕ) → KeepsLink net by was n1 a1 opened n2 a2 → KeepsHost net by Is Is (housed n1 a1 seats heard was) (housed n2 a2 seats heard opened)
  host_link Is was opened n1 n2 a1 a2 seats heard keeps = host_link_at Is was opened n1 n2 a1 a2 seats heard (keeps heard)

  -- and what is kept of them is the same
  pub host_near : (Is : ℕ → ℕ → Life by.said R → SeatState → Type 0) (was opened : Bool) (n1 n2 : N) (a1 a2 : A) (seats1 seats2 : List SeatState) (heard1 heard2 : ℕ) → KeepsLinkAt net by heard1 was n1 a1 opened n2 a2 → seats2 ≡ seats1 → heard2 ≡ heard1 → KeepsHost net by Is Is (housed n1 a1 seats1 heard1 was) (housed n2 a2 seats2 heard2 opened)
  host_near Is was opened n1 n2 a1 a2 seats1 seats2 heard1 heard2 keeps seats heard =
      subst (λ (s : List SeatState). KeepsHost net by Is Is (housed n1 a1 seats1 heard1 was) (housed n2 a2 s heard2 opened)) (sym seats)
      (subst (λ (h : ℕ). KeepsHost net by Is Is (housed n1 a1 seats1 heard1 was) (housed n2 a2 seats1 h opened)) (sym heard)
      (host_link_at Is was opened n1 n2 a1 a2 seats1 heard1 keeps))

  -- a link that is said to be open otherwise
  pub link_to : (was now other : Bool) (n1 n2 : N) (a1 a2 : A) → other ≡ now → KeepsLink net by was n1 a1 now n2 a2 → KeepsLink net by was n1 a1 other n2 a2
  link_to was now other n1 n2 a1 a2 is keeps = subst (λ (o : Bool). KeepsLink net by was n1 a1 o n2 a2) (sym is) keeps

  pub link_open : (opened : Bool) (n1 n2 : N) (a1 a2 : A) → opened ≡ true → KeepsLink net by true n1 a1 true n2 a2 → KeepsLink net by opened n1 a1 opened n2 a2
  link_open opened n1 n2 a1 a2 is keeps = subst (λ (o : Bool). KeepsLink net by o n1 a1 o n2 a2) (sym is) keeps

  pub host_all : (P Q : ℕ → ℕ → Life by.said R → SeatState → Type 0) (opened : Bool) (one two : Hall N A) → KeepsAll net by P Q one two → KeepsHost net by P Q (record { hall = one; opened = opened }) (record { hall = two; opened = opened })
  host_all P Q opened one two keeps = λ first from topic story stands there all.
      let on = keeps first from topic story stands all in
      record { later = on.later; onward = on.onward; also = λ is. on.also ∙ there is; stands = on.stands; sit = on.sit }

  pub host_then : (P Q S : ℕ → ℕ → Life by.said R → SeatState → Type 0) (one two three : Host N A) → KeepsHost net by P Q one two → KeepsHost net by Q S two three → KeepsHost net by P S one three
  host_then P Q S one two three begun more = λ first from topic story stands there sit.
      let then = begun first from topic story stands there sit in
      let last = more first from topic then.later then.stands then.also then.sit in
      record { later = last.later; onward = onward_then story then.later last.later then.onward last.onward; also = last.also; stands = last.stands; sit = last.sit }

  -- a host ends for a reason, after this
  pub host_parts : (why : Parting) (P Q S : ℕ → ℕ → Life by.said R → SeatState → Type 0) (one two three : Host N A) → KeepsHost net by P Q one two → PartsHost net by why Q S two three → PartsHost net by why P S one three
  host_parts why P Q S one two three begun more = λ first from topic story stands there sit.
      let then = begun first from topic story stands there sit in
      let last = more first from topic then.later then.stands then.also then.sit in
      (record { later = last.0.later; onward = onward_then story then.later last.0.later then.onward last.0.onward; also = last.0.also; stands = last.0.stands; sit = last.0.sit }, last.1)

  pub host_or_parts : (result : Option Parting) (P Q : ℕ → ℕ → Life by.said R → SeatState → Type 0) (one two three : Host N A) → KeepsHost net by P P one two → MatchOption result (KeepsHost net by P Q two three) (λ why. PartsHost net by why P Q two three) → MatchOption result (KeepsHost net by P Q one three) (λ why. PartsHost net by why P Q one three)
  host_or_parts None P Q one two three begun more = host_then P P Q one two three begun more
  host_or_parts (Some why) P Q one two three begun more = host_parts why P P Q one two three begun more

  pub parts_keeps : (why : Parting) (P Q : ℕ → ℕ → Life by.said R → SeatState → Type 0) (one two : Host N A) → PartsHost net by why P Q one two → KeepsHost net by P Q one two
  parts_keeps why P Q one two parts = λ first from topic story stands there sit. (parts first from topic story stands there sit).0

  -- it was asked to
  pub asked_parts : (P Q : ℕ → ℕ → Life by.said R → SeatState → Type 0) (one two : Host N A) → KeepsHost net by P Q one two → PartsHost net by parting.Asked P Q one two
  asked_parts P Q one two keeps = λ first from topic story stands there sit. (keeps first from topic story stands there sit, tt)

  -- what its story shows it shows from then on
  parts_later : (why : Parting) (from : by.origin) (topic : by.subject) (story later : List (Step by.said R)) → IsPrefix story later → PartsFor (terms_of net by from topic) story why → PartsFor (terms_of net by from topic) later why
  parts_later parting.Asked from topic story later onward parts = tt
  parts_later parting.Told from topic story later onward parts = happened_on story onward.0 later Stopped onward.1 parts
  parts_later parting.Late from topic story later onward parts = (parts.0, happened_on story onward.0 later (Linked Late) onward.1 parts.1)
  parts_later (parting.Ahead count) from topic story later onward (before, after, split, is) = (before, after ++ onward.0, sym onward.1 ∙ ap (λ (l : List (Step by.said R)). l ++ onward.0) split ∙ append_assoc before after onward.0, is)

  pub parts_then : (why : Parting) (P Q S : ℕ → ℕ → Life by.said R → SeatState → Type 0) (one two three : Host N A) → PartsHost net by why P Q one two → KeepsHost net by Q S two three → PartsHost net by why P S one three
  parts_then why P Q S one two three begun more = λ first from topic story stands there sit.
      let then = begun first from topic story stands there sit in
      let last = more first from topic then.0.later then.0.stands then.0.also then.0.sit in
      (record { later = last.later; onward = onward_then story then.0.later last.later then.0.onward last.onward; also = last.also; stands = last.stands; sit = last.sit }, parts_later why from topic then.0.later last.later last.onward then.1)

  -- something was told to the host, which leaves all connections and the link
  parts_told : (happening : Happening) (why : Parting) (Is : ℕ → ℕ → Life by.said R → SeatState → Type 0) (n1 n2 : N) (by_now : A) (seats : List SeatState) (heard : ℕ) (opened : Bool) → ((place : ℕ) (story : List (Step by.said R)) → life place (story ++ Happens happening ∷ []) ≡ life place story) → ((story : List (Step by.said R)) → link_in (story ++ Happens happening ∷ []) ≡ link_in story) → ((story : List (Step by.said R)) → joined_in (story ++ Happens happening ∷ []) ≡ joined_in story) → ((story : List (Step by.said R)) → MayHappen story happening) → ((from : by.origin) (topic : by.subject) (story : List (Step by.said R)) → IsKept (terms_of net by from topic) story n1 happening n2) → net.did n1 (happening ∷ []) n2 → ((from : by.origin) (topic : by.subject) (story : List (Step by.said R)) → by.about by_now ≡ topic → PartsFor (terms_of net by from topic) (story ++ Happens happening ∷ []) why) → PartsHost net by why Is Is (housed n1 by_now seats heard opened) (housed n2 by_now seats heard opened)
  parts_told happening why Is n1 n2 by_now seats heard opened same links joined free kept went parts = λ first from topic story stands there all.
      let later = story ++ Happens happening ∷ [] in (
        record {
          later = later;
          onward = (Happens happening ∷ [], refl);
          also = λ is. ap (λ (l : Link). l.here) (links story) ∙ there is;
          stands = stands_on net by heard first from topic story n1 by_now stands happening n2 by_now stands.link (free story) went (kept from topic story)
              (λ place. subst (λ (h : ℕ). IsServed (by.text topic) h (life place later)) (sym (bound-happens story happening)) (subst (IsServed (by.text topic) (bound_in story)) (sym (same place story)) (before net by heard first from topic story n1 by_now stands place)))
              stands.comes (λ is. stands.links (ap (λ (l : Link). l.here) (sym (links story)) ∙ is) ∙ sym (links story)) (stands.answered ∙ ap (λ (l : Link). l.answered) (sym (links story))) stands.about refl (may_on net by heard first from topic story n1 by_now stands happening by_now refl (joined story))
              (λ place. subst (λ (l : Life by.said R). l.here ≡ true → by.is_new by_now place ≡ is_empty l.own) (sym (same place story)) (stands.knows place));
          sit = sit_same Is topic heard story later seats (λ place. same place story) all;
        },
        parts from topic story stands.about,
      )

  -- the host was told to stop
  pub parts_stopped : (Is : ℕ → ℕ → Life by.said R → SeatState → Type 0) (n1 n2 : N) (by_now : A) (seats : List SeatState) (heard : ℕ) (opened : Bool) → net.did n1 (Stopped ∷ []) n2 → PartsHost net by parting.Told Is Is (housed n1 by_now seats heard opened) (housed n2 by_now seats heard opened)
  parts_stopped Is n1 n2 by_now seats heard opened went = parts_told Stopped parting.Told Is n1 n2 by_now seats heard opened (λ place story. life-stopped place story) (λ story. link-push story (Happens Stopped)) (λ story. joined-push story (Happens Stopped)) (λ story. tt) (λ from topic story. tt) went (λ from topic story about. happened_now story Stopped)

  -- nothing was heard of the standby, and it may not go on alone
  pub parts_late : (Is : ℕ → ℕ → Life by.said R → SeatState → Type 0) (n1 n2 : N) (by_now : A) (seats : List SeatState) (heard : ℕ) (opened : Bool) → by.goes_alone (by.about by_now) ≡ false → net.did n1 (Linked Late ∷ []) n2 → PartsHost net by parting.Late Is Is (housed n1 by_now seats heard opened) (housed n2 by_now seats heard opened)
  parts_late Is n1 n2 by_now seats heard opened may_not went = parts_told (Linked Late) parting.Late Is n1 n2 by_now seats heard opened (λ place story. life-linked place Late story) (λ story. link-push story (Happens (Linked Late))) (λ story. joined-push story (Happens (Linked Late))) (λ story. tt) (λ from topic story. tt) went (λ from topic story about. (ap (λ (t : by.subject). by.goes_alone t) (sym about) ∙ may_not, happened_now story (Linked Late)))

  -- and it may, or has no more to do
  pub host_late : (Is : ℕ → ℕ → Life by.said R → SeatState → Type 0) (n1 n2 : N) (by_now : A) (seats : List SeatState) (heard : ℕ) (opened : Bool) → net.did n1 (Linked Late ∷ []) n2 → KeepsHost net by Is Is (housed n1 by_now seats heard opened) (housed n2 by_now seats heard opened)
  host_late Is n1 n2 by_now seats heard opened went = parts_keeps parting.Asked Is Is (housed n1 by_now seats heard opened) (housed n2 by_now seats heard opened)
      (parts_told (Linked Late) parting.Asked Is n1 n2 by_now seats heard opened (λ place story. life-linked place Late story) (λ story. link-push story (Happens (Linked Late))) (λ story. joined-push story (Happens (Linked Late))) (λ story. tt) (λ from topic story. tt) went (λ from topic story about. tt))

  -- the standby has more entries than the host
  pub parts_ahead : (Is : ℕ → ℕ → Life by.said R → SeatState → Type 0) (count : ℕ) (network : N) (by_now : A) (seats : List SeatState) (heard : ℕ) (opened : Bool) → opened ≡ true → ((from : by.origin) (xs : List (Exchange by.said R)) (link : Link) → by.comes from xs link by_now → by.is_ahead from xs link count) → PartsHost net by (parting.Ahead count) Is Is (housed network by_now seats heard opened) (housed network by_now seats heard opened)
  parts_ahead Is count network by_now seats heard opened is ahead = λ first from topic story stands there all. (
    record { later = story; onward = onward_same story; also = there; stands = stands; sit = all },
    (story, [], sym (append-nil story), subst (λ (l : Link). by.is_ahead from (exchanges story) l count) (stands.links (there is)) (ahead from (exchanges story) stands.link stands.comes)),
  )

  -- replies are held otherwise from now on
  host_held : (Was : ℕ → ℕ → Life by.said R → SeatState → Type 0) (hold : Hold) (was now : ℕ) (network : N) (by_now by_new : A) (seats : List SeatState) (opened : Bool) → ((place : ℕ) (life : Life by.said R) (seat : SeatState) → Was place was life seat → Gone life seat) → ((from : by.origin) (xs : List (Exchange by.said R)) (link : Link) → by.comes from xs link by_now → by.comes from xs link by_new) → Leaves by_now by_new → bound_of hold ≡ now → (now ≡ bound_of Alone → hold ≡ Alone) → ((first : N) (from : by.origin) (topic : by.subject) (story : List (Step by.said R)) → Stands net by first from topic story was network by_now → IsOpen net by opened story → MayHold (terms_of net by from topic) story hold × ((was ≤ now) ⊎ All (λ (x : Exchange by.said R). x.needs ≤ now) (exchanges story))) → KeepsHost net by Was (FreedBelow 0) (housed network by_now seats was opened) (housed network by_new seats now opened)
  host_held Was hold was now network by_now by_new seats opened gone comes leaves is alone may = λ first from topic story stands there all.
      let later = story ++ HoldsSo hold ∷ [] in
      let how = may first from topic story stands there in
      let own : (place : ℕ) → (was ≤ now) ⊎ All (λ (x : Exchange by.said R). x.needs ≤ now) (life place story).own = λ place. ⊎_elim (λ less. inl less) (λ many. inr (own_on (λ (x : Exchange by.said R). x.needs ≤ now) place nobody story (All-nil (λ (x : Exchange by.said R). x.needs ≤ now)) many)) how.1 in
      let push : link_in later ≡ link_in story = link-push story (HoldsSo hold) in
      record {
        later = later;
        onward = (HoldsSo hold ∷ [], refl);
        also = λ open_now. ap (λ (l : Link). l.here) push ∙ there open_now;
        stands = record {
          hosts = is_held hold stands.hosts how.0 (served_holds (terms_of net by from topic) hold story (λ place. subst (λ (h : ℕ). IsServed (by.text topic) h (life place story)) (sym is) (served_held (by.text topic) was now (life place story) (own place) (served_here net by was first from topic story network by_now stands place))));
          link = stands.link;
          comes = subst (λ (xs : List (Exchange by.said R)). by.comes from xs stands.link by_new) (sym (exchanges-holds story hold)) (comes from (exchanges story) stands.link stands.comes);
          links = λ here. stands.links (ap (λ (l : Link). l.here) (sym push) ∙ here) ∙ sym push;
          answered = stands.answered ∙ ap (λ (l : Link). l.answered) (sym push);
          about = leaves.same_about ∙ stands.about;
          hears = bound-holds story hold ∙ is;
          alone = λ most. hold-push story (HoldsSo hold) ∙ alone most;
          within = subst (λ (n : ℕ). All (λ (x : Exchange by.said R). x.needs ≤ n) (exchanges later)) (sym leaves.same_count) (subst (All (λ (x : Exchange by.said R). x.needs ≤ by.count by_now)) (sym (exchanges-holds story hold)) stands.within);
          may = λ no may un. absurd (false≢true (sym un ∙ joined-push story (HoldsSo hold)));
          knows = λ place. subst (λ (l : Life by.said R). l.here ≡ true → by.is_new by_new place ≡ is_empty l.own) (sym (life-holds place hold story)) (λ here. leaves.same_new place ∙ stands.knows place here);
        };
        sit = record {
          sit = λ place seat below kept. subst (λ (l : Life by.said R). Exact (by.text topic) now l (slice_index_or seats place seat) (slice_index_or seats place seat).kept) (sym (life-holds place hold story)) (exact_held (by.text topic) was now (life place story) (slice_index_or seats place seat) (slice_index_or seats place seat).kept (own place) (all.sit place seat below kept));
          rest = λ place seat below. (λ lost. ap (λ (l : Life by.said R). l.here) (life-holds place hold story) ∙ gone place (life place story) (slice_index_or seats place seat) (all.rest place seat below) lost, λ none. absurd (omega (arith, none)));
          beyond = λ place past. ap (λ (l : Life by.said R). l.here) (life-holds place hold story) ∙ all.beyond place past;
        };
      }

  -- a standby is heard to have more than before, or all that there is
  pub host_joins : (Was : ℕ → ℕ → Life by.said R → SeatState → Type 0) (was count : ℕ) (network : N) (by_now by_new : A) (seats : List SeatState) (opened : Bool) → ((place : ℕ) (life : Life by.said R) (seat : SeatState) → Was place was life seat → Gone life seat) → ((from : by.origin) (xs : List (Exchange by.said R)) (link : Link) → by.comes from xs link by_now → by.comes from xs link by_new) → Leaves by_now by_new → opened ≡ true → count < bound_of Alone → (was ≤ count) ⊎ ((was ≡ bound_of Alone) × (by.count by_now ≤ count)) → ((from : by.origin) (xs : List (Exchange by.said R)) (link : Link) → by.comes from xs link by_now → by.leads from xs link (Some count)) → KeepsHost net by Was (FreedBelow 0) (housed network by_now seats was opened) (housed network by_new seats count opened)
  host_joins Was was count network by_now by_new seats opened gone comes leaves is less joins leads = host_held Was (Upto count) was count network by_now by_new seats opened gone comes leaves refl (λ most. absurd (omega (arith, most, less))) (λ first from topic story stands there.
      let leads_so = subst (λ (l : Link). by.leads from (exchanges story) l (Some count)) (stands.links (there is)) (leads from (exchanges story) stands.link stands.comes) in
      ⊎_elim
      (λ more. ((leads_so, joins_more (hold_in story) was count (exchanges story) stands.hears more less, there is), inl more))
      (λ alone.
      let all : All (λ (x : Exchange by.said R). x.needs ≤ count) (exchanges story) = All-weaker (λ (x : Exchange by.said R). x.needs ≤ by.count by_now) (λ (x : Exchange by.said R). x.needs ≤ count) (λ x within. omega (arith, within, alone.1)) (exchanges story) stands.within in
      ((leads_so, subst (λ (h : Hold). Joins h count (exchanges story)) (sym (stands.alone alone.0)) all, there is), inr all))
      joins)

  -- the host goes on alone
  pub host_alone : (Was : ℕ → ℕ → Life by.said R → SeatState → Type 0) (was : ℕ) (network : N) (by_now by_new : A) (seats : List SeatState) (opened : Bool) → ((place : ℕ) (life : Life by.said R) (seat : SeatState) → Was place was life seat → Gone life seat) → ((from : by.origin) (xs : List (Exchange by.said R)) (link : Link) → by.comes from xs link by_now → by.comes from xs link by_new) → Leaves by_now by_new → was ≤ bound_of Alone → by.goes_alone (by.about by_now) ≡ true → KeepsHost net by Was (FreedBelow 0) (housed network by_now seats was opened) (housed network by_new seats (bound_of Alone) opened)
  host_alone Was was network by_now by_new seats opened gone comes leaves less may = host_held Was Alone was (bound_of Alone) network by_now by_new seats opened gone comes leaves refl (λ most. refl) (λ first from topic story stands there. (ap (λ (t : by.subject). by.goes_alone t) (sym stands.about) ∙ may, inl less))

  -- how connections are between rounds
  pub round_gone : (ended : Bool) (place heard : ℕ) (life : Life by.said R) (seat : SeatState) → InRound ended place heard life seat → Gone life seat
  round_gone false place heard life seat so = so.gone
  round_gone true place heard life seat so = so.gone

  pub finished_round : (ended : Bool) (place heard : ℕ) (life : Life by.said R) (seat : SeatState) → Finished true heard life seat → InRound ended place heard life seat
  finished_round false place heard life seat so = finished_rest net by heard true life seat so
  finished_round true place heard life seat so = so

  -- all that may be sent is sent, now that replies are held otherwise, which is told
  pub host_freed : (ended : Bool) (heard : ℕ) (n1 n2 : N) (a1 a2 a3 : A) (seats freed : List SeatState) (opened : Bool) → ((from : by.origin) (xs : List (Exchange by.said R)) (link : Link) → by.comes from xs link a1 → by.comes from xs link a2) → LeavesPlaces by.is_new by.over by.about by.count by.waits a1 a2 → KeepsAll net by (FreedBelow 0) (AllFinished true) (hall n1 a2 seats heard) (hall n2 a3 freed heard) → KeepsHost net by (FreedBelow 0) (InRound ended) (housed n1 a1 seats heard opened) (housed n2 a3 freed heard opened)
  host_freed ended heard n1 n2 a1 a2 a3 seats freed opened comes leaves keeps =
      let first = housed n1 a1 seats heard opened in
      let told = housed n1 a2 seats heard opened in
      let last = housed n2 a3 freed heard opened in
      host_then (FreedBelow 0) (FreedBelow 0) (InRound ended) first told last
      (host_link (FreedBelow 0) opened opened n1 n1 a1 a2 seats heard (link_by opened n1 a1 a2 comes leaves))
      (host_then (FreedBelow 0) (AllFinished true) (InRound ended) told last last
      (host_all (FreedBelow 0) (AllFinished true) opened told.hall last.hall keeps)
      (host_all (AllFinished true) (InRound ended) opened last.hall last.hall (all_weaker net by heard (AllFinished true) (InRound ended) n2 a3 freed (λ place life seat below so. finished_round ended place heard life seat so))))

  pub parts_told_ahead : (Is : ℕ → ℕ → Life by.said R → SeatState → Type 0) (result : Option ℕ) (network : N) (by_now : A) (seats : List SeatState) (heard : ℕ) (opened : Bool) → opened ≡ true → ((from : by.origin) (xs : List (Exchange by.said R)) (link : Link) → by.comes from xs link by_now → IfSome result (λ count. by.is_ahead from xs link count)) → IfSome result (λ count. PartsHost net by (parting.Ahead count) Is Is (housed network by_now seats heard opened) (housed network by_now seats heard opened))
  parts_told_ahead Is None network by_now seats heard opened is ahead = tt
  parts_told_ahead Is (Some count) network by_now seats heard opened is ahead = parts_ahead Is count network by_now seats heard opened is ahead

  -- nothing happened at all
  pub host_same : (Is : ℕ → ℕ → Life by.said R → SeatState → Type 0) (one : Host N A) → KeepsHost net by Is Is one one
  host_same Is one = λ first from topic story stands there all. record { later = story; onward = onward_same story; also = there; stands = stands; sit = all }

  -- places of which there is none yet
  pub host_first : (network : N) (by_now : A) (seats : List SeatState) (heard : ℕ) (opened : Bool) (now : Host N A) → seats ≡ [] → heard ≡ 0 → opened ≡ false → KeepsHost net by Resting Resting (housed network by_now seats heard opened) now → KeepsHost net by Resting Resting (housed network by_now [] 0 false) now
  host_first network by_now seats heard opened now none zero closed keeps =
      subst (λ (s : List SeatState). KeepsHost net by Resting Resting (housed network by_now s 0 false) now) none
      (subst (λ (h : ℕ). KeepsHost net by Resting Resting (housed network by_now seats h false) now) zero
      (subst (λ (o : Bool). KeepsHost net by Resting Resting (housed network by_now seats heard o) now) closed keeps))

  settled : (ended : Bool) (heard : ℕ) (topic : by.subject) (story : List (Step by.said R)) (seats : List SeatState) → AllSit net by (AllFinished ended) topic heard story seats → (place : ℕ) → IsSettled (by.text topic) heard ended (life place story)
  settled ended heard topic story seats all place = ⊎_elim
      (λ within.
      let seat = slice_index_or seats place (fresh_seat 0) in
      let rest = all.rest place (fresh_seat 0) within in
      settled_at (by.text topic) heard ended (life place story) seat
      (λ here. ⊎_elim (λ lost. absurd (false≢true (sym (rest.gone lost) ∙ here))) (λ kept. kept) (cases_Bool seat.lost))
      (all.sit place (fresh_seat 0) within) rest)
      (λ past. record { answered = λ goes_on here. absurd (false≢true (sym (all.beyond place past) ∙ here)); told = λ here never. absurd (false≢true (sym (all.beyond place past) ∙ here)) })
      (cases_lt place (length seats))

  -- a whole run
  module _ (heard : ℕ) (opened : Bool) (first last : N) (old now : A) (seats : List SeatState) (from : by.origin) (comes : by.comes from [] no_link old) where
    begins : Stands net by first from (by.about old) [] 0 first old
    begins = record { hosts = began; link = no_link; comes = comes; links = λ here. refl; answered = refl; about = refl; hears = refl; alone = λ is. absurd (omega (arith, is)); within = All-nil (λ (x : Exchange by.said R). x.needs ≤ by.count old); may = λ no may un. absurd (false≢true (sym un)); knows = λ place here. absurd (false≢true here) }

    none_sits : AllSit net by Resting (by.about old) 0 [] []
    none_sits = record { sit = λ place seat below. absurd (omega (arith, below)); rest = λ place seat below. absurd (omega (arith, below)); beyond = λ place past. refl }

    pub hosted : (why : Parting) (begun : Host N A) → KeepsHost net by Resting Resting (housed first old [] 0 false) begun → (by.standby_at (by.about old) ≡ None → begun.hall.heard ≡ bound_of Alone) → PartsHost net by why Resting (AllFinished (leaves_lines why)) begun (housed last now seats heard opened) → IsHosted (terms_of net by from (by.about old)) (λ xs. (link : Link) × by.comes from xs link now) why first last
    hosted why begun keeps lone parts =
        let start = keeps first from (by.about old) [] begins (λ no. absurd (false≢true no)) none_sits in
        let end = parts first from (by.about old) start.later start.stands start.also start.sit in
        record {
          story = end.0.later;
          hosts = end.0.stands.hosts;
          comes_to = (end.0.stands.link, end.0.stands.comes);
          settled = λ place. subst (λ (h : ℕ). IsSettled (by.text (by.about old)) h (leaves_lines why) (life place end.0.later)) (sym end.0.stands.hears) (settled (leaves_lines why) heard (by.about old) end.0.later seats end.0.sit place);
          parts = end.1;
          alone = λ none. stays_alone (terms_of net by from (by.about old)) first none start.later end.0.later last end.0.onward end.0.stands.hosts (start.stands.alone (lone none));
        }
