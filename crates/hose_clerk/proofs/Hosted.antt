-- Lines of all connections, one after the other, and what they have come to.
use Rattle.std.proofs.Common.{◌≡◌, ◌∙◌, ◌⊎◌, inl, inr, ⊎_elim, ℕ, zero, suc, ◌+◌, ◌-◌, ◌^◌, ◌≤◌, Bool, true, false, List, [], ◌∷◌, ◌++◌, Option, None, Some, length, refl, sym, ap, subst, arith, append-nil, length-append}
use Rattle.std.specs.Prelude.{if◌then◌else◌, IfSome, slice_get, take}
use Rattle.std.proofs.Math.Seq.{take-append_seam}
use Rattle.std.proofs.lemmas.Bool.{cases_Bool, cases_eq, eq-eqb, false≢true, ne_eqb}
use mathlib.Core.List.{IsPrefix}
use Rattle.hose_io.specs.Frame.{Frame, Rose, Stays}
use Rattle.hose_io.proofs.Frames.{Stays-next, Stays-none, Stays-same}
use Rattle.hose_net.specs.Story.{Exchange, Link, link_answered, no_link}
use Rattle.hose_graph.specs.Network.{Network}
use Rattle.hose_graph.specs.declared.command.Reply.{Reply}
use Rattle.hose_graph.specs.declared.command.Reply.TheVariants.{Disk}
use Rattle.hose_graph.specs.declared.entry.Entry.{Entry}
use Rattle.hose_law.specs.Answer.{IsStepOf}
use Rattle.hose_law.specs.Book.{Book}
use Rattle.hose_law.specs.History.{EntryKind, IsDecided, IsDecidedAt, IsSound, IsSoundAt, book_of}
use Rattle.hose_law.specs.steps.History.{IsSoundWith}
use Rattle.hose_law.specs.Script.{one_if_disk}
use Rattle.hose_law.specs.Transcript.{Stage}
use Rattle.hose_law.proofs.Epochs.{epoch_is}
use Rattle.hose_law.proofs.Fronts.{prefix_push}
use Rattle.hose_law.proofs.Scripts.{decided_end, decided_push}
use Rattle.hose_book.specs.Ledger.{HasBookOf, Ledger}
use Rattle.hose_book.specs.steps.Commit.{IsMet, history_after}
use Rattle.hose_book.specs.steps.GoingOn.{GoesOn, none_yet, entry_more}
use Rattle.hose_book.specs.declared.books.Books.{Ghosts}
use Rattle.hose_book.specs.declared.books.Committed.{Committed}
use Rattle.hose_book.specs.declared.books.Committed.TheVariants.{Done, Disk as Failing}
use Rattle.hose_core.specs.steps.Holding.{quotes_in}
use Rattle.hose_core.specs.steps.Stepping.{Goes, IsSameOrNext, committed_of, history_with}
use Rattle.hose_core.proofs.Earlier.{kept_on}
use Rattle.hose_core.proofs.HeldQuotes.{IsFront, front_same, front_with, held_longer}
use Rattle.hose_clerk.specs.HostLines.{HostLine}
use Rattle.hose_clerk.specs.Hosting.{AreHostSteps, HostState, IsAskedAt, IsAskedOf, IsHostAnswer, IsHostStep, TellsDisks, disks_of, disks_told, ends_host, host_from, stage_before, with_stage}
use Rattle.hose_clerk.specs.declared.replies.HostReply.{HostReply}
use Rattle.hose_clerk.specs.Tally.{no_tally, tally_with}
use Rattle.hose_clerk.specs.declared.tally.Tally.{Tally}
use Rattle.hose_clerk.specs.declared.sessions.Session.{Session}
use Rattle.hose_clerk.specs.declared.sessions.Session.TheVariants as session
use Rattle.hose_lead.specs.steps.Standby.{IsLed, StandbyState}
use Rattle.hose_lead.proofs.Told.{longer}
use Rattle.hose_clerk.specs.steps.Answering.{AnswersTo, AreSessionsKept, FitsStage, GrowsWith, HasAsked, HasHosted, HasReplied, HasStayed, IsBefore, IsSessionKept}
use Rattle.hose_clerk.specs.steps.Linking.{AreMarks, IsMark, LinkState, needed_of}
use Rattle.hose_clerk.specs.steps.Sessions.{IsPut, LeavesAll, is_new_at, is_over_at, session_at}
use Rattle.hose_clerk.specs.declared.fence.Fence.{Fence}
use Rattle.hose_clerk.proofs.Marks.{mark_more, marks_none, marks_weaker, needed_is, ordered_answered, ordered_none, steps_push}

-- a line that was answered
abbrev pub Answered : Type 0
Answered = Exchange HostLine HostReply

-- ---- what sessions hold

kept_later : (old new : Ledger) → IsSameOrNext old new → (one : Session) → IsSessionKept old one → IsSessionKept new one
kept_later old new goes session.New kept = tt
kept_later old new goes (session.Serving client) kept = λ customer. kept_on old new goes (quotes_in client.quotes customer) (kept customer)
kept_later old new goes session.Over kept = tt

-- what each session holds was made before, where one was answered
pub kept_put : (old new : Ledger) (place : ℕ) (left : Session) (sessions after : List Session) → IsSameOrNext old new → AreSessionsKept old sessions → IsPut sessions place left after → IsSessionKept new left → AreSessionsKept new after
kept_put old new place left sessions after goes kept put mine other = ⊎_elim
    (λ same. subst (λ (at : ℕ). IsSessionKept new (session_at after at)) (sym same) (subst (IsSessionKept new) (sym put.here) mine))
    (λ apart. subst (IsSessionKept new) (sym (put.others other apart)) (kept_later old new goes (session_at sessions other) (kept other)))
    (cases_eq other place)

fits_later : (network : Network) (history next : List Entry) → IsFront history next → (one : Session) (stage : Stage) → FitsStage network history one stage → FitsStage network next one stage
fits_later network history next front session.New stage fits = tt
fits_later network history next front (session.Serving client) stage fits = record {
  holdings = fits.holdings;
  serves = fits.serves;
  held = λ customer. held_longer network 0 history next front (fits.holdings customer) (quotes_in client.quotes customer) (fits.held customer);
}
fits_later network history next front session.Over stage fits = tt

-- before a line of it is answered a session is so far
is_before : (network : Network) (history : List Entry) (one : Session) (stage : Stage) → is_over_at one ≡ false → FitsStage network history one stage → IsBefore network history one (stage_before (is_new_at one) stage)
is_before network history session.New stage open_still fits = refl
is_before network history (session.Serving client) stage open_still fits = fits
is_before network history session.Over stage over fits = absurd (false≢true (sym over))

-- ---- lists of exchanges

there : (xs : List Answered) (x : Answered) → slice_get (xs ++ x ∷ []) (length xs) ≡ Some x
there [] x = refl
there (first ∷ xs) x = there xs x

still_there : (xs more : List Answered) (place : ℕ) (x : Answered) → slice_get xs place ≡ Some x → slice_get (xs ++ more) place ≡ Some x
still_there [] more place x is = absurd (cc is)
still_there (first ∷ xs) more zero x is = is
still_there (first ∷ xs) more (suc place) x is = still_there xs more place x is

-- the front before what is there stays
front_stays : (xs more : List Answered) (place : ℕ) (x : Answered) → slice_get xs place ≡ Some x → take place (xs ++ more) ≡ take place xs
front_stays [] more place x is = absurd (cc is)
front_stays (first ∷ xs) more zero x is = refl
front_stays (first ∷ xs) more (suc place) x is =
    let rest = front_stays xs more place x is in
    λ i. first ∷ rest i

disks_push : (xs : List Answered) (x : Answered) → disks_of (xs ++ x ∷ []) ≡ disks_of xs + disks_told x.reply
disks_push [] x = refl
disks_push (first ∷ xs) x = omega (arith, disks_push xs x)

-- ---- what exchanges ask for

-- what exchanges ask for more of them ask for
asked_more : (required : Bool) (since : List Entry) (xs : List Answered) (x : Answered) (network : Network) (book : Book) (entry : Entry) → IsAskedOf required since xs network book entry → IsAskedOf required since (xs ++ x ∷ []) network book entry
asked_more required since xs x network book entry is = record {
  decided = is.decided;
  place = is.place;
  exchange = is.exchange;
  there = still_there xs (x ∷ []) is.place is.exchange is.there;
  state = is.state;
  before = subst (λ (front : List Answered). AreHostSteps network required front (host_from since) is.state) (sym (front_stays xs (x ∷ []) is.place is.exchange is.there)) is.before;
  is_book = is.is_book;
  asks = is.asks;
}

-- what the last one asks for
asked_last : (required : Bool) (since : List Entry) (xs : List Answered) (x : Answered) (network : Network) (state : HostState) (entry : Entry) → AreHostSteps network required xs (host_from since) state
    → IsDecidedAt network (book_of 0 state.history) entry → IsAskedAt network state x entry → IsAskedOf required since (xs ++ x ∷ []) network (book_of 0 state.history) entry
asked_last required since xs x network state entry before decided asks = record {
  decided = decided;
  place = length xs;
  exchange = x;
  there = there xs x;
  state = state;
  before = subst (λ (front : List Answered). AreHostSteps network required front (host_from since) state) (sym (take-append_seam xs (x ∷ []))) before;
  is_book = refl;
  asks = asks;
}

-- ---- histories that exchanges lead to

-- one reply tells no more failures than the count rose by
abbrev TellsOne : Frame → ℕ → Frame → Type 0
TellsOne before disks after = (before.faults + disks ≤ after.faults) ⊎ (2 ^ 64 - 1 ≤ after.faults)

-- what is known of a history that books went on to
record Leads {K R : Type 0} (books : Ghosts K R) (Kind : EntryKind) (network : Network) (since : List Entry) (first : K) (history : List Entry) (now : K) : Type 0 where
  decided : IsDecided network 0 (length since) history
  begins : IsPrefix since history
  goes_on : GoesOn books Kind network since first history now

module _ {K R : Type 0} (books : Ghosts K R) (Kind : EntryKind) (network : Network) (since : List Entry) (first middle now : K) (history : List Entry) (was : Leads books Kind network since first history middle) where
  committed : (entry : Entry) (result : Committed) → IsDecidedAt network (book_of 0 history) entry → IsSoundAt network (book_of 0 history) entry → Kind network (book_of 0 history) entry → books.went middle entry result now → Leads books Kind network since first (history_after history entry result) now
  committed entry Done decided sound is went = record {
    decided = decided_push network 0 (length since) history entry was.decided decided sound;
    begins = prefix_push since history entry was.begins;
    goes_on = entry_more entry Done was.goes_on is went;
  }
  committed entry Failing decided sound is went = record { decided = was.decided; begins = was.begins; goes_on = entry_more entry Failing was.goes_on is went }

  -- a step leads on
  leads_on : (answer : Reply) (entry : Option Entry) → IfSome entry (IsDecidedAt network (book_of 0 history)) → IsSoundWith network (book_of 0 history) entry → IfSome entry (Kind network (book_of 0 history)) → Goes books middle answer entry now
      → Leads books Kind network since first (history_with history entry (committed_of answer)) now
  leads_on answer None decided sound is same = subst (λ (k : K). Leads books Kind network since first history k) (sym same) was
  leads_on answer (Some entry) decided sound is went = committed entry (committed_of answer) decided sound is went

-- what is committed of one kind is of each that says no more
goes_weaker : {K R : Type 0} (books : Ghosts K R) (One Other : EntryKind) (network : Network) (since : List Entry) (first : K) → ((book : Book) (entry : Entry) → One network book entry → Other network book entry)
    → {history : List Entry} {now : K} → GoesOn books One network since first history now → GoesOn books Other network since first history now
goes_weaker books One Other network since first weaker none_yet = none_yet
goes_weaker books One Other network since first weaker (entry_more {history} entry result before is went) =
    entry_more entry result (goes_weaker books One Other network since first weaker before) (weaker (book_of 0 history) entry is) went

-- a history after a commit begins with the one before
front_after : (history : List Entry) (entry : Entry) (result : Committed) → IsFront history (history_after history entry result)
front_after history entry Done = front_with history (history_after history entry Done) (Some entry) refl
front_after history entry Failing = front_same history history refl

front_leads : (history next : List Entry) (entry : Option Entry) (result : Committed) → next ≡ history_with history entry result → IsFront history next
front_leads history next None result leads = front_same history next leads
front_leads history next (Some entry) result leads = subst (IsFront history) (sym leads) (front_after history entry result)

told_one : (before after : Frame) → Rose before after → (before.faults + 1 ≤ after.faults) ⊎ (2 ^ 64 - 1 ≤ after.faults)
told_one before after rose = ⊎_elim (λ more. inl (omega (arith, more))) (λ most. inr most) rose.rose

told_none : (before after : Frame) (disks : ℕ) → disks ≡ 0 → after ≡ before → TellsOne before disks after
told_none before after disks none same = inl (omega (arith, none, ap (λ (frame : Frame). frame.faults) same))

-- what the commit of an entry left of a frame
met_told : (before after : Frame) (answer : Reply) → IsMet before (committed_of answer) after → Stays before after × TellsOne before (one_if_disk answer) after
met_told before after (Disk epoch) met = (met.0, told_one before after met.1)
met_told before after answer met = (Stays-same met, told_none before after 0 refl met)

disks_more : (before : ℕ) (middle after : Frame) (xs : List Answered) (x : Answered) → TellsDisks before xs middle.faults → Stays middle after → TellsOne middle (disks_told x.reply) after → TellsDisks before (xs ++ x ∷ []) after.faults
disks_more before middle after xs x (inl told) stays (inl one) = inl (omega (arith, told, one, disks_push xs x))
disks_more before middle after xs x (inl told) stays (inr most) = inr most
disks_more before middle after xs x (inr most) stays one = inr (omega (arith, most, stays.never_falls))

-- ---- what a link to a standby has come to

-- of what history books are goes on by a step
of_goes : {K R : Type 0} (books : Ghosts K R) (is_of : K → Network → List Entry → Type 0) → GrowsWith books is_of → (network : Network) (history : List Entry) (old new : K) (answer : Reply) (entry : Option Entry)
    → Goes books old answer entry new → is_of old network history → is_of new network (history_with history entry (committed_of answer))
of_goes {K} books is_of grows network history old new answer None goes is = subst (λ (k : K). is_of k network history) (sym goes) is
of_goes books is_of grows network history old new answer (Some entry) goes is = grows network history old new entry (committed_of answer) goes is

-- and so does what led to a state
module _ (network : Network) (history : List Entry) (given sent : List ℕ) (state : StandbyState) where
  led_after : (entry : Entry) (result : Committed) → IsLed network history given sent state → IsLed network (history_after history entry result) given sent state
  led_after entry Done led = longer network history given sent state (entry ∷ []) led
  led_after entry Failing led = led

  led_with : (entry : Option Entry) (result : Committed) → IsLed network history given sent state → IsLed network (history_with history entry result) given sent state
  led_with None result led = led
  led_with (Some entry) result led = led_after entry result led

-- ---- one line more

-- what a change of books leaves, whether a line changed them or not
record Changed {K R : Type 0} (books : Ghosts K R) (Kind : EntryKind) (network : Network) (since : List Entry) (first old new : K) (history next : List Entry) (disks : ℕ) : Type 0 where
  leads : Leads books Kind network since first next new
  front : IsFront history next
  stays : Stays (books.frame old) (books.frame new)
  told : TellsOne (books.frame old) disks (books.frame new)

module _ {K R : Type 0} (books : Ghosts K R) (is_of : K → Network → List Entry → Type 0) (required : Bool) (since : List Entry) (first old new : K) (xs : List Answered) (sessions : List Session) (tally : Tally) (at_link : LinkState) (link : Link)
    (was : HasHosted books is_of required since first old sessions false tally at_link xs link) where
  abbrev network : Network
  network = (books.ledger first).network

  abbrev here : HostState
  here = was.hosted.state

  module _ (x : Answered) where
    -- what a line more may ask for
    abbrev Asked : EntryKind
    Asked = IsAskedOf required since (xs ++ x ∷ [])

    before : Leads books Asked network since first here.history old
    before = record {
      decided = was.hosted.decided;
      begins = was.hosted.begins;
      goes_on = goes_weaker books (IsAskedOf required since xs) Asked network since first (asked_more required since xs x network) was.hosted.goes_on;
    }

    stayed : (next : List Entry) → HasStayed old new here.history x.reply next → Changed books Asked network since first old new here.history next (disks_told x.reply)
    stayed next is = record {
      leads = subst (λ (h : List Entry). Leads books Asked network since first h new) (sym is.stays) (subst (λ (k : K). Leads books Asked network since first here.history k) (sym is.same) before);
      front = front_same here.history next is.stays;
      stays = subst (λ (k : K). Stays (books.frame old) (books.frame k)) (sym is.same) (Stays-none (books.frame old));
      told = told_none (books.frame old) (books.frame new) (disks_told x.reply) is.no_disk (ap books.frame is.same);
    }

    module _ (stage : Stage) (next : List Entry) (later : x.first ≡ false) (at : here.stages x.place ≡ stage) (asked : HasAsked books old new here.history stage x.said x.reply next) where
      asks : (entry : Option Entry) → entry ≡ asked.entry → IfSome entry (Asked network (book_of 0 here.history))
      asks None is = tt
      asks (Some entry) is = asked_last required since xs x network here entry was.hosted.steps
          (subst (λ (n : Network). IsDecidedAt n (book_of 0 here.history) entry) was.network (subst (λ (e : Option Entry). IfSome e (IsDecidedAt (books.ledger old).network (book_of 0 here.history))) (sym is) asked.decided))
          (record {
            customer = asked.customer;
            held = asked.held;
            command = asked.command;
            told = asked.answer;
            later = later;
            serves = at ∙ asked.serves;
            asks = asked.asks;
            tells = asked.tells;
            next = next;
            after = asked.after;
            step = subst (λ (n : Network). IsStepOf n 0 here.history asked.customer asked.held asked.command asked.answer (Some entry) next asked.after) was.network
                (subst (λ (e : Option Entry). IsStepOf (books.ledger old).network 0 here.history asked.customer asked.held asked.command asked.answer e next asked.after) (sym is) asked.step);
          })

      went : Changed books Asked network since first old new here.history next (disks_told x.reply)
      went =
          let told = met_told (books.frame old) (books.frame new) asked.answer asked.met in
          record {
            leads = subst (λ (h : List Entry). Leads books Asked network since first h new) (sym asked.leads)
                (leads_on books Asked network since first old new here.history before asked.answer asked.entry
                (subst (λ (n : Network). IfSome asked.entry (IsDecidedAt n (book_of 0 here.history))) was.network asked.decided)
                (subst (λ (n : Network). IsSoundWith n (book_of 0 here.history) asked.entry) was.network asked.sound)
                (asks asked.entry refl) asked.goes);
            front = front_leads here.history next asked.entry (committed_of asked.answer) asked.leads;
            stays = told.0;
            told = subst (λ (r : HostReply). TellsOne (books.frame old) (disks_told r) (books.frame new)) (sym asked.tells) told.1;
          }

    -- a line was answered where the host is
    changed : (stage : Stage) (next : List Entry) → (x.first ≡ true → HasAsked books old new here.history stage x.said x.reply next → ⊥) → (x.first ≡ false → here.stages x.place ≡ stage)
        → HasStayed old new here.history x.reply next ⊎ HasAsked books old new here.history stage x.said x.reply next → Changed books Asked network since first old new here.history next (disks_told x.reply)
    changed stage next never at (inl is) = stayed next is
    changed stage next never at (inr asked) = ⊎_elim (λ yes. absurd (never yes asked)) (λ no. went stage next no (at no) asked) (cases_Bool x.first)

    module _ (one left : Session) (after : List Session) (at : session_at sessions x.place ≡ one) (open_still : is_over_at one ≡ false) (put : IsPut sessions x.place left after) (is_first : x.first ≡ is_new_at one)
        (answers : AnswersTo books tally old new one x.said x.reply left) (needs : x.needs ≡ needed_of at_link.required (tally_with x.reply tally).lines (books.ledger new).book.epoch) (grows : GrowsWith books is_of) where
      abbrev stage : Stage
      stage = stage_before x.first (here.stages x.place)

      is_at : IsBefore (books.ledger old).network here.history one stage
      is_at = subst (λ (b : Bool). IsBefore (books.ledger old).network here.history one (stage_before b (here.stages x.place))) (sym is_first)
          (is_before (books.ledger old).network here.history one (here.stages x.place) open_still
          (subst (λ (s : Session). FitsStage (books.ledger old).network here.history s (here.stages x.place)) at (was.sits x.place)))

      module _ (replied : HasReplied books tally old new here.history stage x.said x.reply left) where
        abbrev state : HostState
        state = record { history = replied.next; stages = with_stage here.stages x.place replied.after; ended = ends_host x.reply; tally = tally_with x.reply here.tally }

        step : IsHostStep network required x here state
        step = record {
          goes_on = was.ends;
          after = replied.after;
          answer = subst (λ (t : Tally). IsHostAnswer network t here.history stage x.said x.reply replied.next replied.after) (sym was.counted)
              (subst (λ (n : Network). IsHostAnswer n tally here.history stage x.said x.reply replied.next replied.after) was.network replied.answer);
          stages = refl;
          ended = refl;
          tally = refl;
          needs = needs
              ∙ ap (λ (b : Bool). needed_of b (tally_with x.reply tally).lines (books.ledger new).book.epoch) was.requires
              ∙ needed_is required state (tally_with x.reply tally).lines (books.ledger new).book.epoch (ap (λ (t : Tally). (tally_with x.reply t).lines) was.counted) (sym (epoch_is (books.ledger new).book replied.next replied.book));
        }

        what_changed : Changed books Asked network since first old new here.history replied.next (disks_told x.reply)
        what_changed = changed stage replied.next
            (λ yes asked. absurd (cc (sym (ap (λ (b : Bool). stage_before b (here.stages x.place)) yes) ∙ asked.serves)))
            (λ no. sym (ap (λ (b : Bool). stage_before b (here.stages x.place)) no))
            replied.changes

        abbrev Sits : Session → Stage → Type 0
        Sits = FitsStage (books.ledger new).network replied.next

        sits_here : Sits (session_at after x.place) (state.stages x.place)
        sits_here =
            let now : state.stages x.place ≡ replied.after = ap (λ (b : Bool). if b then replied.after else here.stages x.place) (eq-eqb x.place x.place refl) in
            subst (Sits (session_at after x.place)) (sym now) (subst (λ (s : Session). Sits s replied.after) (sym put.here) replied.sits)

        sits_there : (place : ℕ) → (x.place ≡ place → ⊥) → Sits (session_at after place) (state.stages place)
        sits_there place apart =
            let now : state.stages place ≡ here.stages place = ap (λ (b : Bool). if b then replied.after else here.stages place) (ne_eqb x.place place apart) in
            let fits = fits_later (books.ledger old).network here.history replied.next what_changed.front (session_at sessions place) (here.stages place) (was.sits place) in
            subst (Sits (session_at after place)) (sym now)
            (subst (λ (s : Session). Sits s (here.stages place)) (sym (put.others place (λ same. apart (sym same))))
            (subst (λ (n : Network). FitsStage n replied.next (session_at sessions place) (here.stages place)) (sym answers.network) fits))

        sits : (place : ℕ) → Sits (session_at after place) (state.stages place)
        sits place = ⊎_elim (λ same. subst (λ (at : ℕ). Sits (session_at after at) (state.stages at)) same sits_here) (λ apart. sits_there place apart) (cases_eq x.place place)

        history_next : HasStayed old new here.history x.reply replied.next ⊎ HasAsked books old new here.history stage x.said x.reply replied.next → is_of new network replied.next
        history_next (inl is) = subst (λ (h : List Entry). is_of new network h) (sym is.stays) (subst (λ (k : K). is_of k network here.history) (sym is.same) was.history)
        history_next (inr asked) = subst (λ (h : List Entry). is_of new network h) (sym asked.leads)
            (of_goes books is_of grows network here.history old new asked.answer asked.entry asked.goes was.history)

        led_next : HasStayed old new here.history x.reply replied.next ⊎ HasAsked books old new here.history stage x.said x.reply replied.next → IsLed network replied.next link.given link.sent at_link.standby
        led_next (inl is) = subst (λ (h : List Entry). IsLed network h link.given link.sent at_link.standby) (sym is.stays) was.led
        led_next (inr asked) = subst (λ (h : List Entry). IsLed network h link.given link.sent at_link.standby) (sym asked.leads)
            (led_with network here.history link.given link.sent at_link.standby asked.entry (committed_of asked.answer) was.led)

        marks_next : AreMarks (IsMark network required since (xs ++ x ∷ []) state link.early) at_link.fence
        marks_next = marks_weaker (IsMark network required since xs here link.early) (IsMark network required since (xs ++ x ∷ []) state link.early)
            (mark_more network required since xs here link.early x state step) at_link.fence was.marks

        hosted_by : HasHosted books is_of required since first new after (ends_host x.reply) (tally_with x.reply tally) at_link (xs ++ x ∷ []) (link_answered link)
        hosted_by = record {
          hosted = record {
            state = state;
            steps = steps_push network required xs x (host_from since) here state was.hosted.steps step;
            decided = what_changed.leads.decided;
            begins = what_changed.leads.begins;
            goes_on = what_changed.leads.goes_on;
            stays = Stays-next was.hosted.stays what_changed.stays;
            disks = disks_more (books.frame first).faults (books.frame old) (books.frame new) xs x was.hosted.disks what_changed.stays what_changed.told;
          };
          book = replied.book;
          network = answers.network ∙ was.network;
          sits = sits;
          ends = refl;
          counted = ap (tally_with x.reply) was.counted;
          history = history_next replied.changes;
          led = led_next replied.changes;
          requires = was.requires;
          answered = omega (arith, was.answered, length-append xs (x ∷ []));
          ordered = ordered_answered link was.ordered;
          marks = marks_next;
        }

      -- one line more is answered
      pub hosted_more : HasHosted books is_of required since first new after (ends_host x.reply) (tally_with x.reply tally) at_link (xs ++ x ∷ []) (link_answered link)
      hosted_more = hosted_by (answers.replied here.history stage was.book is_at)

-- what all lines have come to stays as who is new or over is put at a place
pub hosted_put : {K R : Type 0} (books : Ghosts K R) (is_of : K → Network → List Entry → Type 0) (required : Bool) (since : List Entry) (first now : K) (place : ℕ) (one : Session) (sessions after : List Session) (ended : Bool) (tally : Tally) (at_link : LinkState) (xs : List Answered) (link : Link)
    → ((network : Network) (history : List Entry) (stage : Stage) → FitsStage network history one stage) → IsPut sessions place one after
    → HasHosted books is_of required since first now sessions ended tally at_link xs link → HasHosted books is_of required since first now after ended tally at_link xs link
hosted_put books is_of required since first now place one sessions after ended tally at_link xs link fits put was = record {
  hosted = was.hosted;
  book = was.book;
  network = was.network;
  sits = λ other. ⊎_elim
      (λ same. subst (λ (at : ℕ). FitsStage (books.ledger now).network was.hosted.state.history (session_at after at) (was.hosted.state.stages at)) (sym same)
      (subst (λ (s : Session). FitsStage (books.ledger now).network was.hosted.state.history s (was.hosted.state.stages place)) (sym put.here) (fits (books.ledger now).network was.hosted.state.history (was.hosted.state.stages place))))
      (λ apart. subst (λ (s : Session). FitsStage (books.ledger now).network was.hosted.state.history s (was.hosted.state.stages other)) (sym (put.others other apart)) (was.sits other))
      (cases_eq other place);
  ends = was.ends;
  counted = was.counted;
  history = was.history;
  led = was.led;
  requires = was.requires;
  answered = was.answered;
  ordered = was.ordered;
  marks = was.marks;
}

-- and as places are made
pub hosted_left : {K R : Type 0} (books : Ghosts K R) (is_of : K → Network → List Entry → Type 0) (required : Bool) (since : List Entry) (first now : K) (sessions after : List Session) (ended : Bool) (tally : Tally) (at_link : LinkState) (xs : List Answered) (link : Link)
    → LeavesAll sessions after → HasHosted books is_of required since first now sessions ended tally at_link xs link → HasHosted books is_of required since first now after ended tally at_link xs link
hosted_left books is_of required since first now sessions after ended tally at_link xs link leaves was = record {
  hosted = was.hosted;
  book = was.book;
  network = was.network;
  sits = λ place. subst (λ (s : Session). FitsStage (books.ledger now).network was.hosted.state.history s (was.hosted.state.stages place)) (sym (leaves place)) (was.sits place);
  ends = was.ends;
  counted = was.counted;
  history = was.history;
  led = was.led;
  requires = was.requires;
  answered = was.answered;
  ordered = was.ordered;
  marks = was.marks;
}

-- so does what sessions hold
pub kept_left : (ledger : Ledger) (sessions after : List Session) → LeavesAll sessions after → AreSessionsKept ledger sessions → AreSessionsKept ledger after
kept_left ledger sessions after leaves kept place = subst (IsSessionKept ledger) (sym (leaves place)) (kept place)

-- nothing is answered yet, and no one is there
pub hosted_none : {K R : Type 0} (books : Ghosts K R) (is_of : K → Network → List Entry → Type 0) (required : Bool) (since : List Entry) (now : K) (standby : StandbyState) (fence : Fence) → IsSound (books.ledger now).network 0 since → HasBookOf 0 since (books.ledger now)
    → is_of now (books.ledger now).network since → IsLed (books.ledger now).network since [] [] standby → fence.mark ≡ None → fence.passed ≡ None
    → HasHosted books is_of required since now now [] false no_tally (record { required = required; standby = standby; fence = fence }) [] no_link
hosted_none books is_of required since now standby fence sound book history led no_mark none_passed = record {
  hosted = record {
    state = host_from since;
    steps = refl;
    decided = decided_end (books.ledger now).network 0 since sound;
    begins = ([], append-nil since);
    goes_on = none_yet;
    stays = Stays-none (books.frame now);
    disks = inl (omega arith);
  };
  book = book;
  network = refl;
  sits = λ place. tt;
  ends = refl;
  counted = refl;
  history = history;
  led = led;
  requires = refl;
  answered = refl;
  ordered = ordered_none;
  marks = marks_none (IsMark (books.ledger now).network required since [] (host_from since) no_link.early) fence no_mark none_passed;
}
