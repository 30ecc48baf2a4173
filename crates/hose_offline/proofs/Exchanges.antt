-- Lines of a script, one after another, and what they lead to.
use Rattle.std.proofs.Common.{◌≡◌, ◌⊎◌, inl, inr, ⊎_elim, ℕ, zero, suc, ◌+◌, ◌-◌, ◌^◌, ◌≤◌, List, [], ◌∷◌, ◌++◌, None, Some, Option, refl, sym, ◌∙◌, ap, subst, arith, length, append-nil}
use Rattle.std.specs.Prelude.{IfSome, slice_get, take}
use Rattle.std.proofs.Math.Seq.{take-append_seam}
use mathlib.Core.List.{IsPrefix}
use Rattle.hose_words.specs.Shapes.{IsFirstWrong}
use Rattle.hose_words.specs.Words.{words_of}
use Rattle.hose_words.specs.steps.Lines.{Shows}
use Rattle.hose_words.specs.declared.lines.Line.{Line}
use Rattle.hose_words.specs.declared.lines.Line.TheVariants as line
use Rattle.hose_graph.specs.declared.entry.Entry.{Entry}
use Rattle.hose_graph.specs.declared.command.Command.{Command}
use Rattle.hose_graph.specs.declared.command.Reply.{Reply}
use Rattle.hose_graph.specs.declared.command.Reply.TheVariants.{Disk}
use Rattle.hose_graph.specs.Network.{Network}
use Rattle.hose_law.specs.Book.{Book}
use Rattle.hose_law.specs.History.{EntryKind, book_of, IsDecided, IsDecidedAt, IsSound, IsSoundAt}
use Rattle.hose_law.specs.steps.History.{IsSoundWith}
use Rattle.hose_law.specs.Answer.{IsStepOf}
use Rattle.hose_law.specs.Quotes.{Holding, Holdings, nothing_held, with_held}
use Rattle.hose_law.proofs.Fronts.{prefix_push}
use Rattle.hose_law.proofs.Lines.{steps_many, steps_push}
use Rattle.hose_law.proofs.Scripts.{decided_end, decided_push, disks_push}
use Rattle.hose_law.specs.Script.{ReadLine, IsLineStep, IsScript, one_if_disk, IsFixedReply, ScriptState, script_state}
use Rattle.hose_law.specs.Script.ReadLine.{Asks, IsBad, IsLong, Unread}
use Rattle.hose_offline.specs.ScriptLine.{IsAsking, WantsMemory, script_shape}
use Rattle.hose_io.specs.Frame.{Frame, Rose, Stays}
use Rattle.hose_io.proofs.Frames.{Stays-next, Stays-none, Stays-same}
use Rattle.hose_book.specs.steps.Commit.{IsMet, history_after}
use Rattle.hose_book.specs.steps.GoingOn.{GoesOn, none_yet, entry_more}
use Rattle.hose_book.specs.declared.books.Committed.{Committed}
use Rattle.hose_book.specs.declared.books.Committed.TheVariants.{Done, Disk as Failing}
use Rattle.hose_book.specs.declared.books.Books.{Ghosts as BooksGhosts}
use Rattle.hose_core.specs.steps.Holding.{State}
use Rattle.hose_core.specs.steps.Stepping.{FitsHistory, Goes, committed_of, history_with}
use Rattle.hose_offline.specs.Talking.{IsAskedBy, Says, TellsDisks}
use Rattle.hose_offline.specs.steps.Talking.{AnswersLine, HasAnsweredLines, SaysRead}

-- what a reader shows of a line says what the line says
pub says_shown : (network : Network) (shown : Line) (bytes : List ℕ) (said : ReadLine) → Shows shown bytes → SaysRead network shown said → Says network bytes said
says_shown network (line.Text text) bytes (Asks customer command) shows says = (shows.0, subst (λ (b : List ℕ). IsAsking network b customer command) shows.1 says)
says_shown network (line.Text text) bytes (IsBad word) shows says =
    (shows.0, subst (λ (b : List ℕ). IsFirstWrong (script_shape network) (words_of b) word) shows.1 says)
says_shown network (line.Text text) bytes IsLong shows says = absurd says
says_shown network (line.Text text) bytes Unread shows says = (shows.0, subst (λ (b : List ℕ). WantsMemory (words_of b)) shows.1 says)
says_shown network line.Long bytes (Asks customer command) shows says = absurd says
says_shown network line.Long bytes (IsBad word) shows says = absurd says
says_shown network line.Long bytes IsLong shows says = shows
says_shown network line.Long bytes Unread shows says = absurd says

-- ---- histories that exchanges lead to

-- one reply tells no more failures than the count rose by
abbrev TellsOne : Frame → Reply → Frame → Type 0
TellsOne before reply after = (before.faults + one_if_disk reply ≤ after.faults) ⊎ (2 ^ 64 - 1 ≤ after.faults)

told_none : (before after : Frame) → after ≡ before → (before.faults + 0 ≤ after.faults) ⊎ (2 ^ 64 - 1 ≤ after.faults)
told_none before after same = inl (omega (arith, ap (λ (frame : Frame). frame.faults) same))

told_one : (before after : Frame) → Rose before after → (before.faults + 1 ≤ after.faults) ⊎ (2 ^ 64 - 1 ≤ after.faults)
told_one before after rose = ⊎_elim (λ more. inl (omega (arith, more))) (λ most. inr most) rose.rose

-- what the commit of an entry left of a frame
kept : (before after : Frame) (reply : Reply) → IsMet before (committed_of reply) after → Stays before after × TellsOne before reply after
kept before after (Disk epoch) met = (met.0, told_one before after met.1)
kept before after reply met = (Stays-same met, told_none before after met)

-- one reply more
disks_more : (before : ℕ) (middle after : Frame) (replies : List Reply) (reply : Reply) → TellsDisks before replies middle.faults → Stays middle after → TellsOne middle reply after
    → TellsDisks before (replies ++ reply ∷ []) after.faults
disks_more before middle after replies reply (inl told) stays (inl one) = inl (omega (arith, told, one, disks_push replies reply))
disks_more before middle after replies reply (inl told) stays (inr most) = inr most
disks_more before middle after replies reply (inr most) stays one = inr (omega (arith, most, stays.never_falls))

-- What is known of a history that books went on to.
record Leads {K R : Type 0} (books : BooksGhosts K R) (Kind : EntryKind) (network : Network) (since : List Entry) (first : K) (history : List Entry) (now : K) : Type 0 where
  decided : IsDecided network 0 (length since) history
  begins : IsPrefix since history
  goes_on : GoesOn books Kind network since first history now

module _ {K R : Type 0} (books : BooksGhosts K R) (Kind : EntryKind) (network : Network) (since : List Entry) (first middle now : K) (history : List Entry) (answer : Reply) (was : Leads books Kind network since first history middle) where
  committed : (entry : Entry) (result : Committed) → IsDecidedAt network (book_of 0 history) entry → IsSoundAt network (book_of 0 history) entry → Kind network (book_of 0 history) entry → books.went middle entry result now → Leads books Kind network since first (history_after history entry result) now
  committed entry Done decided sound is went = record {
    decided = decided_push network 0 (length since) history entry was.decided decided sound;
    begins = prefix_push since history entry was.begins;
    goes_on = entry_more entry Done was.goes_on is went;
  }
  committed entry Failing decided sound is went = record { decided = was.decided; begins = was.begins; goes_on = entry_more entry Failing was.goes_on is went }

  -- a step leads on
  leads_on : (entry : Option Entry) → IfSome entry (IsDecidedAt network (book_of 0 history)) → IsSoundWith network (book_of 0 history) entry → IfSome entry (Kind network (book_of 0 history)) → Goes books middle answer entry now
      → Leads books Kind network since first (history_with history entry (committed_of answer)) now
  leads_on None decided sound is same = subst (λ (k : K). Leads books Kind network since first history k) (sym same) was
  leads_on (Some entry) decided sound is went = committed entry (committed_of answer) decided sound is went

-- what is committed of one kind is of each that says no more
goes_weaker : {K R : Type 0} (books : BooksGhosts K R) (One Other : EntryKind) (network : Network) (since : List Entry) (first : K) → ((book : Book) (entry : Entry) → One network book entry → Other network book entry)
    → {history : List Entry} {now : K} → GoesOn books One network since first history now → GoesOn books Other network since first history now
goes_weaker books One Other network since first weaker none_yet = none_yet
goes_weaker books One Other network since first weaker (entry_more {history} entry result before is went) =
    entry_more entry result (goes_weaker books One Other network since first weaker before) (weaker (book_of 0 history) entry is) went

-- ---- what lines ask for

there : {X : Type 0} (xs : List X) (x : X) → slice_get (xs ++ x ∷ []) (length xs) ≡ Some x
there [] x = refl
there (first ∷ xs) x = there xs x

still_there : {X : Type 0} (xs more : List X) (place : ℕ) (x : X) → slice_get xs place ≡ Some x → slice_get (xs ++ more) place ≡ Some x
still_there [] more place x is = absurd (cc is)
still_there (first ∷ xs) more zero x is = is
still_there (first ∷ xs) more (suc place) x is = still_there xs more place x is

-- the front before what is there stays
front_stays : {X : Type 0} (xs more : List X) (place : ℕ) (x : X) → slice_get xs place ≡ Some x → take place (xs ++ more) ≡ take place xs
front_stays [] more place x is = absurd (cc is)
front_stays (first ∷ xs) more zero x is = refl
front_stays (first ∷ xs) more (suc place) x is =
    let rest = front_stays xs more place x is in
    λ i. first ∷ rest i

-- what lines ask for more of them ask for
asked_more : (since : List Entry) (lines : List ReadLine) (replies : List Reply) (line : ReadLine) (reply : Reply) (network : Network) (book : Book) (entry : Entry) → IsAskedBy since lines replies network book entry → IsAskedBy since (lines ++ line ∷ []) (replies ++ reply ∷ []) network book entry
asked_more since lines replies line reply network book entry is = record {
  decided = is.decided;
  place = is.place;
  customer = is.customer;
  command = is.command;
  reply = is.reply;
  line = still_there lines (line ∷ []) is.place _ is.line;
  answer = still_there replies (reply ∷ []) is.place _ is.answer;
  history = is.history;
  is_book = is.is_book;
  held = is.held;
  before = subst (λ (front : List Reply). IsScript network 0 (take is.place (lines ++ line ∷ [])) front (script_state since nothing_held) (script_state is.history is.held)) (sym (front_stays replies (reply ∷ []) is.place _ is.answer))
      (subst (λ (front : List ReadLine). IsScript network 0 front (take is.place replies) (script_state since nothing_held) (script_state is.history is.held)) (sym (front_stays lines (line ∷ []) is.place _ is.line)) is.before);
  next = is.next;
  after = is.after;
  step = is.step;
}

-- what the last line asks for
asked_last : (since : List Entry) (lines : List ReadLine) (replies : List Reply) (customer : List ℕ) (command : Command) (reply : Reply) (network : Network) (history next : List Entry) (held : Holdings) (after : Holding) (entry : Option Entry) → length lines ≡ length replies
    → IsScript network 0 lines replies (script_state since nothing_held) (script_state history held)
    → IfSome entry (IsDecidedAt network (book_of 0 history)) → IsStepOf network 0 history customer (held customer) command reply entry next after → IfSome entry (IsAskedBy since (lines ++ Asks customer command ∷ []) (replies ++ reply ∷ []) network (book_of 0 history))
asked_last since lines replies customer command reply network history next held after None many before decided step = tt
asked_last since lines replies customer command reply network history next held after (Some entry) many before decided step = record {
  decided = decided;
  place = length lines;
  customer = customer;
  command = command;
  reply = reply;
  line = there lines (Asks customer command);
  answer = subst (λ (place : ℕ). slice_get (replies ++ reply ∷ []) place ≡ Some reply) (sym many) (there replies reply);
  history = history;
  is_book = refl;
  held = held;
  before = subst (λ (front : List Reply). IsScript network 0 (take (length lines) (lines ++ Asks customer command ∷ [])) front (script_state since nothing_held) (script_state history held))
      (sym (ap (λ (place : ℕ). take place (replies ++ reply ∷ [])) many ∙ take-append_seam replies (reply ∷ [])))
      (subst (λ (front : List ReadLine). IsScript network 0 front replies (script_state since nothing_held) (script_state history held)) (sym (take-append_seam lines (Asks customer command ∷ []))) before);
  next = next;
  after = after;
  step = step;
}

module _ {K R : Type 0} (books : BooksGhosts K R) (since : List Entry) (first old new : State K) (lines : List ReadLine) (replies : List Reply) (was : HasAnsweredLines books since first old lines replies) where
  abbrev network : Network
  network = (books.ledger first.books).network

  -- what a line more may ask for
  abbrev Asked : ReadLine → Reply → EntryKind
  Asked line reply = IsAskedBy since (lines ++ line ∷ []) (replies ++ reply ∷ [])

  longer : (line : ReadLine) (reply : Reply) → GoesOn books (Asked line reply) network since first.books was.answered.history old.books
  longer line reply = goes_weaker books (IsAskedBy since lines replies) (Asked line reply) network since first.books (asked_more since lines replies line reply network) was.answered.goes_on

  -- a command was answered by a step
  command_more : (customer : List ℕ) (command : Command) (reply : Reply) → AnswersLine books old new (Asks customer command) reply → HasAnsweredLines books since first new (lines ++ Asks customer command ∷ []) (replies ++ reply ∷ [])
  command_more customer command reply answers =
      let history = was.answered.history in
      let left = was.answered.left in
      let on = answers.0 0 history left was.fits in
      let entry = on.stepped.entry in
      let held = left customer in
      let step = subst (λ (n : Network). IsStepOf n 0 history customer held command reply entry on.stepped.next on.stepped.after) was.network on.stepped.step in
      let sound = subst (λ (n : Network). IsSoundWith n (book_of 0 history) entry) was.network on.stepped.sound in
      let decided = subst (λ (n : Network). IfSome entry (IsDecidedAt n (book_of 0 history))) was.network on.decided in
      let many = steps_many (IsLineStep network 0) lines replies (script_state since nothing_held) (script_state history left) was.answered.script in
      let asked = asked_last since lines replies customer command reply network history on.stepped.next left on.stepped.after entry many was.answered.script decided step in
      let before : Leads books (Asked (Asks customer command) reply) network since first.books history old.books = record { decided = was.answered.decided; begins = was.answered.begins; goes_on = longer (Asks customer command) reply } in
      let leads = subst (λ (all : List Entry). Leads books (Asked (Asks customer command) reply) network since first.books all new.books) (sym on.leads)
      (leads_on books (Asked (Asks customer command) reply) network since first.books old.books new.books history reply before entry decided sound asked on.stepped.goes) in
      let there = script_state on.stepped.next (with_held left customer on.stepped.after) in
      let line : IsLineStep network 0 (Asks customer command) reply (script_state history left) there = (on.stepped.after, (entry, step), refl) in
      let told = kept (books.frame old.books) (books.frame new.books) reply answers.2 in
      record {
        answered = record {
          history = on.stepped.next;
          left = with_held left customer on.stepped.after;
          script = steps_push (IsLineStep network 0) lines replies (script_state since nothing_held) (script_state history left) there (Asks customer command) reply was.answered.script line;
          decided = leads.decided;
          begins = leads.begins;
          goes_on = leads.goes_on;
          stays = Stays-next was.answered.stays told.0;
          disks = disks_more (books.frame first.books).faults (books.frame old.books) (books.frame new.books) replies reply was.answered.disks told.0 told.1;
        };
        fits = on.fits;
        network = answers.1 ∙ was.network;
      }

  -- where the lines before it led
  abbrev here : ScriptState
  here = script_state was.answered.history was.answered.left

  stays_so : (said : ReadLine) (reply : Reply) → IsFixedReply said reply → IsLineStep network 0 said reply here here
  stays_so (Asks customer command) reply fixed = absurd fixed
  stays_so said reply fixed = (fixed, refl)

  -- any other line changed nothing
  fixed_more : (said : ReadLine) (reply : Reply) → IsFixedReply said reply → one_if_disk reply ≡ 0 → new ≡ old
      → HasAnsweredLines books since first new (lines ++ said ∷ []) (replies ++ reply ∷ [])
  fixed_more said reply fixed no_disk same = subst (λ (s : State K). HasAnsweredLines books since first s (lines ++ said ∷ []) (replies ++ reply ∷ [])) (sym same) (record {
    answered = record {
      history = was.answered.history;
      left = was.answered.left;
      script = steps_push (IsLineStep network 0) lines replies (script_state since nothing_held) here here said reply was.answered.script (stays_so said reply fixed);
      decided = was.answered.decided;
      begins = was.answered.begins;
      goes_on = longer said reply;
      stays = was.answered.stays;
      disks = disks_more (books.frame first.books).faults (books.frame old.books) (books.frame old.books) replies reply was.answered.disks (Stays-none (books.frame old.books)) (inl (omega (arith, no_disk)));
    };
    fits = was.fits;
    network = was.network;
  })

  -- one line more is answered
  pub answered_more : (said : ReadLine) (reply : Reply) → AnswersLine books old new said reply → HasAnsweredLines books since first new (lines ++ said ∷ []) (replies ++ reply ∷ [])
  answered_more (Asks customer command) reply answers = command_more customer command reply answers
  answered_more (IsBad word) reply answers = fixed_more (IsBad word) reply answers.0 (ap one_if_disk answers.0) answers.1
  answered_more IsLong reply answers = fixed_more IsLong reply answers.0 (ap one_if_disk answers.0) answers.1
  answered_more Unread reply answers = fixed_more Unread reply answers.0 (ap one_if_disk answers.0) answers.1

-- nothing is answered yet
pub answered_none : {K R : Type 0} (books : BooksGhosts K R) (since : List Entry) (core : State K) → IsSound (books.ledger core.books).network 0 since → FitsHistory books core 0 since nothing_held → HasAnsweredLines books since core core [] []
answered_none books since core sound fits = record {
  answered = record {
    history = since;
    left = nothing_held;
    script = refl;
    decided = decided_end (books.ledger core.books).network 0 since sound;
    begins = ([], append-nil since);
    goes_on = none_yet;
    stays = Stays-none (books.frame core.books);
    disks = inl (omega arith);
  };
  fits = fits;
  network = refl;
}
