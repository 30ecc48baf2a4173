-- What a turn makes of a shared store: the store stands for the history with the entry that joined it, and the pass that gave the turn on has seen that.
use Rattle.std.proofs.Common.{◌≡◌, ◌⊎◌, ◌≤◌, inl, inr, ℕ, ◌+◌, All, List, [], ◌∷◌, ◌++◌, length, Option, None, Some, IfSome, refl, sym, ap, subst, ◌∙◌, arith, append-nil}
use Rattle.std.specs.Prelude.{Contains, MatchOption}
use Rattle.std.proofs.lemmas.List.Elements.{All-cons, All-nil, Contains-append_left, Contains-push}
use Rattle.std.proofs.lemmas.List.{length-append}
use mathlib.Core.List.{IsPrefix}
use Rattle.hose_graph.specs.Network.{IsNetwork, Network}
use Rattle.hose_graph.specs.declared.command.Command.{Command}
use Rattle.hose_graph.specs.declared.entry.Entry.{Entry}
use Rattle.hose_graph.specs.declared.entry.Entry.TheVariants.{Admit, Release, Down, Up}
use Rattle.hose_graph.specs.declared.command.Reply.{Reply}
use Rattle.hose_law.specs.Answer.{IsStepOf, with_entry}
use Rattle.hose_law.specs.Book.{Book}
use Rattle.hose_law.specs.History.{EntryKind, IsDecidedAt, book_of}
use Rattle.hose_law.specs.Quotes.{Holding}
use Rattle.hose_graph.specs.declared.command.Reply.TheVariants as reply
use Rattle.hose_law.specs.steps.Tracks.{Tracks}
use Rattle.hose_law.proofs.Cheapest.{canonical_cheapest}
use Rattle.hose_book.specs.steps.Commit.{IsMet}
use Rattle.hose_book.specs.steps.GoingOn.{GoesOn, none_yet, entry_more}
use Rattle.hose_book.specs.Ledger.{Ledger}
use Rattle.hose_book.specs.declared.books.Committed.{Committed}
use Rattle.hose_book.specs.declared.books.Committed.TheVariants.{Done, Disk}
use Rattle.hose_core.specs.steps.Stepping.{Goes, HasStepped, StepsAtEach, committed_of, history_with}
use Rattle.hose_core.proofs.Leading.{decided as entry_decided, leads as step_leads}
use Rattle.hose_disk.specs.Disk.{object_frame}
use Rattle.hose_disk.specs.declared.disk.Disk.{Ghosts}
use Rattle.hose_store.specs.steps.Commit.{Went, store_books}
use Rattle.hose_store.specs.steps.Store.{KeptStore}
use Rattle.hose_turn.specs.declared.view.Origin.{Origin}
use Rattle.hose_turn.specs.declared.view.Tried.{Tried}
use Rattle.hose_turn.specs.steps.Views.{tried_at}
use Rattle.hose_turn.specs.steps.Faults.{rise}
use Rattle.hose_turn.specs.Known.{Known}
use Rattle.hose_turn.specs.steps.Known.{HasOwnPlaces, with_own_entry, with_tried}
use Rattle.hose_shared.specs.Trying.{IsAlike, IsNextOrTried, IsTried, IsTriedBy}
use Rattle.hose_shared.specs.steps.Along.{IsCheapestEntry}
use Rattle.hose_shared.specs.steps.Keeping.{StandsShared}
use Rattle.hose_shared.specs.steps.Turns.{AnswersTurn, BeginsTurn, StepsAt, faults_in, joined_of, place_of, with_joined}
use Rattle.hose_law.proofs.Fronts.{prefix_on, prefix_same}
use Rattle.hose_law.proofs.Epochs.{epoch_of}
use Rattle.hose_shared.proofs.Passes.{failed_rise, met_above, prefix_joined}

-- ---- the entry that joined

history_joined : (history : List Entry) (entry : Option Entry) (result : Committed) → history_with history entry result ≡ with_entry history (joined_of entry result)
history_joined history None Done = refl
history_joined history None Disk = refl
history_joined history (Some entry) Done = refl
history_joined history (Some entry) Disk = refl

if_joined : (P : Entry → Type 0) (entry : Option Entry) (result : Committed) → IfSome entry P → IfSome (joined_of entry result) P
if_joined P entry Done is = is
if_joined P entry Disk is = tt

-- an entry that was decided costs least
cheapest_of : (network : Network) → IsNetwork network → (book : Book) (entry : Entry) → IsDecidedAt network book entry → IsCheapestEntry network book entry
cheapest_of network is book (Admit customer hose amounts) (sound, planned) = (planned.0, planned.1.allowed, canonical_cheapest network is planned.0 hose amounts planned.1.is_plan)
cheapest_of network is book (Release customer id) decided = tt
cheapest_of network is book (Down link) decided = tt
cheapest_of network is book (Up link) decided = tt

if_cheapest : (network : Network) → IsNetwork network → (book : Book) (joined : Option Entry) → IfSome joined (IsDecidedAt network book) → IfSome joined (IsCheapestEntry network book)
if_cheapest network is book None decided = tt
if_cheapest network is book (Some entry) decided = cheapest_of network is book entry decided

-- nothing joined where the history is as long as before
pub none_joined : (history : List Entry) (joined : Option Entry) → length (with_entry history joined) ≡ length history → joined ≡ None
none_joined history None same = refl
none_joined history (Some entry) same = absurd (let a = length-append history (entry ∷ []) in omega arith)

-- and else the entry did that may have
one_joined : (history : List Entry) (joined : Option Entry) (entry : Entry) → IfSome joined (λ one. one ≡ entry) → (length (with_entry history joined) ≡ length history → ⊥) → joined ≡ Some entry
one_joined history None entry of differs = absurd (differs refl)
one_joined history (Some one) entry of differs = ap Some of

-- ---- passes

pass_joined : (known : Known) (joined : Option Entry) → (with_joined known joined).seen ≡ with_entry known.seen joined
pass_joined known None = refl
pass_joined known (Some entry) = refl

own_joined : (known : Known) (joined : Option Entry) → (with_joined known joined).own ≡ known.own ++ place_of known.seen joined
own_joined known None = sym (append-nil known.own)
own_joined known (Some entry) = refl

others_joined : (known : Known) (joined : Option Entry)
    → ((with_joined known joined).turn ≡ known.turn) × ((with_joined known joined).origin ≡ known.origin) × ((with_joined known joined).share ≡ known.share) × ((with_joined known joined).faults ≡ known.faults) × ((with_joined known joined).tried ≡ known.tried)
others_joined known None = (refl, refl, refl, refl, refl)
others_joined known (Some entry) = (refl, refl, refl, refl, refl)

-- ---- what was tried

-- it stays so in a longer history, and beside more that was tried
tried_more : (history all : List Entry) (tries more : List Tried) → IsPrefix history all → ((one : Tried) → Contains tries one → Contains more one) → (network : Network) (book : Book) (entry : Entry) → IsTried history tries network book entry → IsTried all more network book entry
tried_more history all tries more begins keeps network book entry is = record {
  decided = is.decided;
  before = is.before;
  begins = prefix_on is.before history all is.begins begins;
  is_book = is.is_book;
  is_tried = elim is.is_tried [
    | inl next ↦ inl (prefix_on (is.before ++ entry ∷ []) history all next begins)
    | inr tried ↦ inr (tried.0, keeps tried.0 tried.1, tried.2, tried.3)
  ];
}

-- commits of one kind are of any kind that holds wherever it does
goes_weaker : {D : Type 0} (disk : Ghosts D) (One Other : EntryKind) (network : Network) (since : List Entry) (first : KeptStore D) → ((book : Book) (entry : Entry) → One network book entry → Other network book entry)
    → {history : List Entry} {now : KeptStore D} → GoesOn (store_books disk) One network since first history now → GoesOn (store_books disk) Other network since first history now
goes_weaker disk One Other network since first weaker none_yet = none_yet
goes_weaker disk One Other network since first weaker (entry_more {history} entry result before is went) =
    entry_more entry result (goes_weaker disk One Other network since first weaker before) (weaker (book_of 0 history) entry is) went

-- the entry of a step joins where its commit is done
joined_done : (entry : Option Entry) (result : Committed) → result ≡ Done → joined_of entry result ≡ entry
joined_done entry Done is = refl
joined_done entry Disk is = absurd (cc is)

joined_none : (entry : Option Entry) (result : Committed) → result ≡ Disk → joined_of entry result ≡ None
joined_none entry Done is = absurd (cc is)
joined_none entry Disk is = refl

-- a step whose commit failed has an entry
disk_entry : (network : Network) (history : List Entry) (customer : List ℕ) (held : Holding) (command : Command) (answer : Reply) (entry : Option Entry) (next : List Entry) (after : Holding) → committed_of answer ≡ Disk
    → IsStepOf network 0 history customer held command answer entry next after → (one : Entry) × (entry ≡ Some one)
disk_entry network history customer held command (reply.Disk at) (Some one) next after is step = (one, refl)
disk_entry network history customer held command (reply.Disk at) None next after is step = absurd (cc step.1)
disk_entry network history customer held command answer entry next after is step = absurd (cc is)

-- ---- the store

module _ {D : Type 0} (disk : Ghosts D) (Begins : List Entry → KeptStore D → Type 0) (origin : Origin) (history : List Entry) (tries : List Tried) (old new : KeptStore D) (customer : List ℕ) (held : Holding) (command : Command) (answer : Reply)
    (stood : StandsShared disk Begins origin history tries old) (stepped : HasStepped (store_books disk) old new 0 history customer held command answer)
    (network : new.ledger.network ≡ old.ledger.network) where
  abbrev pub joined : Option Entry
  joined = joined_of stepped.entry (committed_of answer)

  leads : stepped.next ≡ with_entry history joined
  leads = step_leads old.ledger.network 0 history customer held command answer stepped.entry stepped.next stepped.after stepped.step ∙ history_joined history stepped.entry (committed_of answer)

  was_decided : IfSome stepped.entry (IsDecidedAt old.ledger.network (book_of 0 history))
  was_decided = entry_decided old.ledger.network 0 history customer held command answer stepped.entry stepped.next stepped.after stepped.step stepped.sound

  tracks_by : (entry : Entry) (result : Committed) → Went disk old entry result new → Tracks 0 (with_entry history (joined_of (Some entry) result)) new.ledger.recent
  tracks_by entry Done went = went.tracks 0 history stood.book stood.tracks
  tracks_by entry Disk went = subst (λ (l : Ledger). Tracks 0 history l.recent) (sym went.commits) stood.tracks

  tracks_still : (result : Committed) → Tracks 0 (with_entry history (joined_of None result)) old.ledger.recent
  tracks_still Done = stood.tracks
  tracks_still Disk = stood.tracks

  tracks_on : (entry : Option Entry) → Goes (store_books disk) old answer entry new → Tracks 0 (with_entry history (joined_of entry (committed_of answer))) new.ledger.recent
  tracks_on None same = subst (λ (s : KeptStore D). Tracks 0 (with_entry history (joined_of None (committed_of answer))) s.ledger.recent) (sym same) (tracks_still (committed_of answer))
  tracks_on (Some entry) went = tracks_by entry (committed_of answer) went

  -- the book is that of the history with the entry that joined it
  pub book_after : new.ledger.book ≡ book_of 0 (with_entry history joined)
  book_after = stepped.book ∙ ap (book_of 0) leads

  module _ (more : List Tried) (keeps : (one : Tried) → Contains tries one → Contains more one) where
    abbrev all : List Entry
    all = with_entry history joined

    goes_before : GoesOn (store_books disk) (IsTried all more) origin.network origin.since stood.first history old
    goes_before = goes_weaker disk (IsTried history tries) (IsTried all more) origin.network origin.since stood.first (tried_more history all tries more (prefix_joined history joined) keeps origin.network) stood.goes_on

    goes_on : (entry : Option Entry) → Goes (store_books disk) old answer entry new → IfSome entry (IsDecidedAt old.ledger.network (book_of 0 history)) → IfSome entry (IsNextOrTried all more history)
        → GoesOn (store_books disk) (IsTried all more) origin.network origin.since stood.first (history_with history entry (committed_of answer)) new
    goes_on None same decided tried = subst (GoesOn (store_books disk) (IsTried all more) origin.network origin.since stood.first history) (sym same) goes_before
    goes_on (Some entry) went decided tried = entry_more entry (committed_of answer) goes_before (record {
      decided = subst (λ (n : Network). IsDecidedAt n (book_of 0 history) entry) stood.network decided;
      before = history;
      begins = prefix_joined history joined;
      is_book = refl;
      is_tried = tried;
    }) went

    -- the store stands for the history with the entry that joined it, where the entry is that one or was tried
    stands_with : IfSome stepped.entry (IsNextOrTried all more history) → StandsShared disk Begins origin all more new
    stands_with tried = record {
      first = stood.first;
      begins = stood.begins;
      goes_on = subst (λ (l : List Entry). GoesOn (store_books disk) (IsTried all more) origin.network origin.since stood.first l new)
          (history_joined history stepped.entry (committed_of answer)) (goes_on stepped.entry stepped.goes was_decided tried);
      epoch = stood.epoch;
      network = network ∙ stood.network;
      book = book_after;
      tracks = tracks_on stepped.entry stepped.goes;
    }

  next_of : (entry : Option Entry) → IfSome entry (λ one. IsPrefix (history ++ one ∷ []) (with_entry history entry))
  next_of None = tt
  next_of (Some entry) = prefix_same (history ++ entry ∷ [])

  next_done : (entry : Option Entry) (longer : List Entry) → IfSome entry (λ one. IsPrefix (history ++ one ∷ []) longer) → IfSome entry (IsNextOrTried longer tries history)
  next_done None longer next = tt
  next_done (Some entry) longer next = inl next

  -- so it is where its commit did not fail
  pub stands_done : committed_of answer ≡ Done → StandsShared disk Begins origin (with_entry history joined) tries new
  stands_done done =
      let same : with_entry history joined ≡ with_entry history stepped.entry = ap (with_entry history) (joined_done stepped.entry (committed_of answer) done) in
      stands_with tries (λ one has. has) (next_done stepped.entry (with_entry history joined)
      (subst (λ (longer : List Entry). IfSome stepped.entry (λ one. IsPrefix (history ++ one ∷ []) longer)) (sym same) (next_of stepped.entry)))

  tried_like : (told : Entry) (entry : Option Entry) (longer : List Entry) → IfSome entry (IsAlike told) → IfSome entry (IsNextOrTried longer (tries ++ tried_at history told ∷ []) history)
  tried_like told None longer alike = tt
  tried_like told (Some entry) longer alike = inr (tried_at history told, Contains-push tries (tried_at history told), refl, alike)

  -- or where one like it is what was tried last
  pub stands_failed : (told : Entry) → IfSome stepped.entry (IsAlike told) → StandsShared disk Begins origin (with_entry history joined) (tries ++ tried_at history told ∷ []) new
  stands_failed told alike = stands_with (tries ++ tried_at history told ∷ []) (Contains-append_left tries (tried_at history told ∷ [])) (tried_like told stepped.entry (with_entry history joined) alike)

  -- or where the store is as it was
  pub stands_same : new ≡ old → StandsShared disk Begins origin history tries new
  stands_same same = subst (StandsShared disk Begins origin history tries) (sym same) stood

  -- nothing joined where the store is as it was
  pub none_where_same : new ≡ old → joined ≡ None
  none_where_same same =
      none_joined history joined (sym (epoch_of (with_entry history joined)) ∙ ap (λ (b : Book). b.epoch) (sym book_after ∙ ap (λ (s : KeptStore D). s.ledger.book) same ∙ stood.book) ∙ epoch_of history)

  -- The pass that gave the turn on has made a step at all that it had seen.
  pub steps_at : (top : Network) → old.ledger.network ≡ top → IsNetwork top → (known base pass : Known) (more : ℕ) (tries : List Tried) → known.seen ≡ history → pass ≡ record base { faults = base.faults + more }
      → (base.turn ≡ known.turn) × (base.origin ≡ known.origin) × (base.share ≡ known.share) × (base.faults ≡ known.faults) → base.seen ≡ with_entry known.seen joined → base.own ≡ known.own ++ place_of known.seen joined → base.tried ≡ known.tried ++ tries
      → All (IsTriedBy top known.seen customer held command answer) tries → HasOwnPlaces pass → (committed_of answer ≡ Disk → more ≡ 1) → StepsAt top customer held command answer known.seen known pass
  steps_at top same is known base pass more tries here left others sees owns tried asked places failed =
      let seen : pass.seen ≡ with_entry known.seen joined = ap (λ (k : Known). k.seen) left ∙ sees in
      let decided : IfSome joined (IsDecidedAt top (book_of 0 known.seen)) =
      subst (λ (n : Network). IfSome joined (IsDecidedAt n (book_of 0 known.seen))) same
      (subst (λ (all : List Entry). IfSome joined (IsDecidedAt old.ledger.network (book_of 0 all))) (sym here) (if_joined (IsDecidedAt old.ledger.network (book_of 0 history)) stepped.entry (committed_of answer) was_decided)) in
      let step : IsStepOf old.ledger.network 0 history customer held command answer stepped.entry (with_entry history joined) stepped.after =
      subst (λ (next : List Entry). IsStepOf old.ledger.network 0 history customer held command answer stepped.entry next stepped.after) leads stepped.step in
      record {
        entry = stepped.entry;
        joined = joined;
        after = stepped.after;
        step = subst (λ (n : Network). IsStepOf n 0 known.seen customer held command answer stepped.entry (with_entry known.seen joined) stepped.after) same
            (subst (λ (all : List Entry). IsStepOf old.ledger.network 0 all customer held command answer stepped.entry (with_entry all joined) stepped.after) (sym here) step);
        decided = decided;
        cheapest = if_cheapest top is (book_of 0 known.seen) joined decided;
        same = record {
          turn = ap (λ (k : Known). k.turn) left ∙ others.0;
          origin = ap (λ (k : Known). k.origin) left ∙ others.1;
          share = ap (λ (k : Known). k.share) left ∙ others.2;
          seen = subst (IsPrefix known.seen) (sym seen) (prefix_joined known.seen joined);
          faults = let a = ap (λ (k : Known). k.faults) left in let b = others.3 in omega arith;
          places = places;
        };
        seen = subst (IsPrefix (with_entry known.seen joined)) (sym seen) (prefix_same (with_entry known.seen joined));
        own = ap (λ (k : Known). k.own) left ∙ owns;
        tries = tries;
        tried = ap (λ (k : Known). k.tried) left ∙ tried;
        asked = asked;
        failed = λ is. let a = ap (λ (k : Known). k.faults) left in let b = failed is in let c = others.3 in omega arith;
      }

-- ---- a turn as a whole

-- an entry is told that joined, if one did
pub told_is : (joined told : Option Entry) (entry : Entry) → told ≡ Some entry → IfSome joined (λ one. one ≡ entry) → IfSome joined (λ one. told ≡ Some one)
told_is None told entry is of = tt
told_is (Some one) told entry is of = is ∙ ap Some (sym of)

-- nothing joined where none is told
none_told : (joined told : Option Entry) → told ≡ None → IfSome joined (λ one. told ≡ Some one) → joined ≡ None
none_told None told none is = refl
none_told (Some one) told none is = absurd (cc (is, none))

-- and else it is the one that is told
one_told : (joined told : Option Entry) (entry : Entry) → told ≡ Some entry → IfSome joined (λ one. told ≡ Some one) → IfSome joined (λ one. one ≡ entry)
one_told None told entry some is = tt
one_told (Some one) told entry some is = cc (is, some)

-- A turn's answer by what the store was, which is what the call that answered has begun with.
pub answers_turn : {D : Type 0} (disk : Ghosts D) (before : List Entry) (old was new : KeptStore D) (told : Option Entry) (customer : List ℕ) (held : Holding) (command : Command) (answer : Reply) → old ≡ was
    → (stepped : HasStepped (store_books disk) old new 0 before customer held command answer) → new.ledger.network ≡ old.ledger.network
    → IsMet (object_frame (disk.frame old.journal.disk)) (committed_of answer) (object_frame (disk.frame new.journal.disk))
    → (new ≡ old) ⊎ IfSome (joined_of stepped.entry (committed_of answer)) (λ one. told ≡ Some one) → MatchOption told (new ≡ old) (λ one. IfSome stepped.entry (IsAlike one)) → AnswersTurn disk before was new told customer held command answer
answers_turn disk before old was new told customer held command answer same stepped network met joined tried =
    subst (λ (s : KeptStore _). AnswersTurn disk before s new told customer held command answer) same (record { stepped = stepped; network = network; met = met; joined = joined; tried = tried })

-- and where the store was only read
pub reads_turn : {D : Type 0} {disk : Ghosts D} {Begins : List Entry → KeptStore D → Type 0} {known : Known} {tries : List Tried} {count at : ℕ} {read was now : KeptStore D} {answer : Reply} → BeginsTurn disk Begins known tries count at was → read ≡ was → now ≡ was
    → (customer : List ℕ) (held : Holding) (command : Command) → StepsAtEach (store_books disk) read read customer command answer → committed_of answer ≡ Done → AnswersTurn disk known.seen was now None customer held command answer
reads_turn {disk = disk} {known = known} {read = read} {was = was} {answer = answer} begun same stays customer held command steps done =
    subst (λ (s : KeptStore _). AnswersTurn disk known.seen was s None customer held command answer) (sym stays)
    (subst (λ (s : KeptStore _). AnswersTurn disk known.seen s s None customer held command answer) same (record {
      stepped = steps 0 known.seen held (ap (λ (s : KeptStore _). s.ledger.book) same ∙ begun.stands.book);
      network = refl;
      met = subst (λ (r : Committed). IsMet (object_frame (disk.frame read.journal.disk)) r (object_frame (disk.frame read.journal.disk))) (sym done) refl;
      joined = inl refl;
      tried = refl;
    }))

-- a turn loses no fault that was met
pub turn_above : {D : Type 0} {disk : Ghosts D} {Begins : List Entry → KeptStore D → Type 0} {known : Known} {tries : List Tried} {floor epoch : ℕ} {before : List Entry} {old new : KeptStore D} {told : Option Entry} {customer : List ℕ} {held : Holding} {command : Command} {answer : Reply}
    → BeginsTurn disk Begins known tries floor epoch old → AnswersTurn disk before old new told customer held command answer → floor ≤ faults_in disk new
turn_above {disk = disk} {old = old} {new = new} {answer = answer} begun turn =
    omega (arith, met_above (object_frame (disk.frame old.journal.disk)) (object_frame (disk.frame new.journal.disk)) (committed_of answer) turn.met, begun.floor)

module _ {D : Type 0} {disk : Ghosts D} {Begins : List Entry → KeptStore D → Type 0} {known : Known} {tries : List Tried} {floor epoch : ℕ} {old new : KeptStore D} {told : Option Entry} {customer : List ℕ} {held : Holding} {command : Command} {answer : Reply}
    (begun : BeginsTurn disk Begins known tries floor epoch old) (turn : AnswersTurn disk known.seen old new told customer held command answer) where
  abbrev pub entered : Option Entry
  entered = joined_of turn.stepped.entry (committed_of answer)

  -- the store stands for what was seen, and the entry that joined it
  done_stands : committed_of answer ≡ Done → StandsShared disk Begins known.origin (with_entry known.seen entered) tries new
  done_stands = stands_done disk Begins known.origin known.seen tries old new customer held command answer begun.stands turn.stepped turn.network

  -- which is the one that is told
  turn_told : IfSome entered (λ one. told ≡ Some one)
  turn_told = elim turn.joined [
    | inl stays ↦ subst (λ (joined : Option Entry). IfSome joined (λ one. told ≡ Some one)) (sym (none_where_same disk Begins known.origin known.seen tries old new customer held command answer begun.stands turn.stepped turn.network stays)) tt
    | inr told ↦ told
  ]

  -- where none is told, none joined
  pub untold : told ≡ None → entered ≡ None
  untold none = none_told entered told none turn_told

  book_now : new.ledger.book.epoch ≡ length (with_entry known.seen entered)
  book_now = ap (λ (b : Book). b.epoch) (book_after disk Begins known.origin known.seen tries old new customer held command answer begun.stands turn.stepped turn.network) ∙ epoch_of (with_entry known.seen entered)

  -- nor where the book is as long as what was seen
  pub uncounted : new.ledger.book.epoch ≡ epoch → entered ≡ None
  uncounted same = none_joined known.seen entered (sym book_now ∙ same ∙ begun.epoch)

  -- and else the entry did that is told
  pub counted : (entry : Entry) → told ≡ Some entry → (new.ledger.book.epoch ≡ epoch → ⊥) → entered ≡ Some entry
  counted entry some differs = one_joined known.seen entered entry (one_told entered told entry some turn_told) (λ same. differs (book_now ∙ same ∙ sym begun.epoch))

  -- where nothing joined and nothing failed
  pub none_stands : committed_of answer ≡ Done → entered ≡ None → StandsShared disk Begins known.origin known.seen tries new
  none_stands done none = subst (λ (joined : Option Entry). StandsShared disk Begins known.origin (with_entry known.seen joined) tries new) none (done_stands done)

  pub one_stands : (entry : Entry) → committed_of answer ≡ Done → entered ≡ Some entry → StandsShared disk Begins known.origin (known.seen ++ entry ∷ []) tries new
  one_stands entry done one = subst (λ (joined : Option Entry). StandsShared disk Begins known.origin (with_entry known.seen joined) tries new) one (done_stands done)

  -- where the store is as it was, as it is without an entry that is told
  pub same_stands : new ≡ old → StandsShared disk Begins known.origin known.seen tries new
  same_stands = stands_same disk Begins known.origin known.seen tries old new customer held command answer begun.stands turn.stepped turn.network

  pub untold_same : told ≡ None → new ≡ old
  untold_same none = subst (λ (t : Option Entry). MatchOption t (new ≡ old) (λ one. IfSome turn.stepped.entry (IsAlike one))) none turn.tried

  told_alike : (entry : Entry) → told ≡ Some entry → IfSome turn.stepped.entry (IsAlike entry)
  told_alike entry some = subst (λ (t : Option Entry). MatchOption t (new ≡ old) (λ one. IfSome turn.stepped.entry (IsAlike one))) some turn.tried

  failed_none : committed_of answer ≡ Disk → entered ≡ None
  failed_none = joined_none turn.stepped.entry (committed_of answer)

  -- where the disk failed, what is told was tried
  pub failed_stands : (entry : Entry) → told ≡ Some entry → committed_of answer ≡ Disk → StandsShared disk Begins known.origin known.seen (tries ++ tried_at known.seen entry ∷ []) new
  failed_stands entry some failed = subst (λ (joined : Option Entry). StandsShared disk Begins known.origin (with_entry known.seen joined) (tries ++ tried_at known.seen entry ∷ []) new) (failed_none failed)
      (stands_failed disk Begins known.origin known.seen tries old new customer held command answer begun.stands turn.stepped turn.network entry (told_alike entry some))

  rises_by : committed_of answer ≡ Disk → rise floor (faults_in disk new) ≡ 1
  rises_by failed = subst (λ (count : ℕ). rise count (faults_in disk new) ≡ 1) (sym begun.floor)
      (failed_rise (object_frame (disk.frame old.journal.disk)) (object_frame (disk.frame new.journal.disk)) (committed_of answer) turn.met failed)

  module _ (top : Network) (is : IsNetwork top) (same : old.ledger.network ≡ top) (pass : Known) (places : HasOwnPlaces pass) where
    -- the pass that gave the turn on
    turn_steps : pass ≡ record (with_joined known entered) { faults = (with_joined known entered).faults + rise floor (faults_in disk new) } → StepsAt top customer held command answer known.seen known pass
    turn_steps left =
        let others = others_joined known entered in
        steps_at disk Begins known.origin known.seen tries old new customer held command answer begun.stands turn.stepped turn.network top same is known (with_joined known entered) pass (rise floor (faults_in disk new)) [] refl left (others.0, others.1, others.2, others.3)
        (pass_joined known entered) (own_joined known entered) (others.4 ∙ sym (append-nil known.tried)) (All-nil (IsTriedBy top known.seen customer held command answer)) places rises_by

    tried_by : (told : Entry) (entry : Option Entry) (next : List Entry) → committed_of answer ≡ Disk → IfSome entry (IsAlike told) → IsStepOf top 0 known.seen customer held command answer entry next turn.stepped.after → IsTriedBy top known.seen customer held command answer (tried_at known.seen told)
    tried_by told (Some entry) next failed alike step = record { place = refl; entry = entry; alike = alike; next = next; left = turn.stepped.after; step = step }
    tried_by told None next failed alike step = let one = disk_entry top known.seen customer held command answer None next turn.stepped.after failed step in absurd (cc one.1)

    -- the pass tried what is told
    pub failed_steps : (entry : Entry) → told ≡ Some entry → committed_of answer ≡ Disk → pass ≡ record (with_tried known entry) { faults = (with_tried known entry).faults + rise floor (faults_in disk new) } → StepsAt top customer held command answer known.seen known pass
    failed_steps entry some failed left =
        let none = failed_none failed in
        let step = subst (λ (n : Network). IsStepOf n 0 known.seen customer held command answer turn.stepped.entry turn.stepped.next turn.stepped.after) same turn.stepped.step in
        let Tried_by = IsTriedBy top known.seen customer held command answer in
        steps_at disk Begins known.origin known.seen tries old new customer held command answer begun.stands turn.stepped turn.network top same is known (with_tried known entry) pass (rise floor (faults_in disk new)) (tried_at known.seen entry ∷ []) refl left (refl, refl, refl, refl)
        (subst (λ (joined : Option Entry). known.seen ≡ with_entry known.seen joined) (sym none) refl) (subst (λ (joined : Option Entry). known.own ≡ known.own ++ place_of known.seen joined) (sym none) (sym (append-nil known.own))) refl
        (All-cons Tried_by (tried_at known.seen entry) [] (tried_by entry turn.stepped.entry turn.stepped.next failed (told_alike entry some) step) (All-nil Tried_by)) places rises_by

    pub none_steps : entered ≡ None → pass ≡ record known { faults = known.faults + rise floor (faults_in disk new) } → StepsAt top customer held command answer known.seen known pass
    none_steps none left =
        turn_steps (subst (λ (joined : Option Entry). pass ≡ record (with_joined known joined) { faults = (with_joined known joined).faults + rise floor (faults_in disk new) }) (sym none) left)

    pub one_steps : (entry : Entry) → entered ≡ Some entry → pass ≡ record (with_own_entry known entry) { faults = (with_own_entry known entry).faults + rise floor (faults_in disk new) }
        → StepsAt top customer held command answer known.seen known pass
    one_steps entry one left =
        turn_steps (subst (λ (joined : Option Entry). pass ≡ record (with_joined known joined) { faults = (with_joined known joined).faults + rise floor (faults_in disk new) }) (sym one) left)

-- ---- the end of a turn

-- a pass that gave the turn on after a count
pub passed_counted : (known holder pass : Known) (floor floor' count count' : ℕ) → holder ≡ known → floor' ≡ floor → count' ≡ count → pass ≡ record holder { faults = holder.faults + rise floor' count' }
    → pass ≡ record known { faults = known.faults + rise floor count }
passed_counted known holder pass floor floor' count count' same floors counts left =
    subst (λ (k : Known). pass ≡ record k { faults = k.faults + rise floor count }) same
    (subst (λ (f : ℕ). pass ≡ record holder { faults = holder.faults + rise f count }) floors (subst (λ (n : ℕ). pass ≡ record holder { faults = holder.faults + rise floor' n }) counts left))
