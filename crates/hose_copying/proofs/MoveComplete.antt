-- What can be moved is moved, but for want of memory and where a call failed.
use Rattle.std.proofs.Common.{◌≡◌, ◌≢◌, ◌∙◌, ◌⊎◌, inl, inr, ℕ, ◌≤◌, ◌<◌, ◌-◌, ◌^◌, if◌then◌else◌, List, Bool, true, Option, Some, IfSome, Result, Ok, Err, length, refl, sym, ap, subst, arith}
use Rattle.std.proofs.lemmas.Bool.{cases_lt}
use Rattle.hose_io.specs.Count.{one_more}
use Rattle.hose_io.specs.Frame.{Frame, Rose, Stays}
use Rattle.hose_io.specs.declared.sink.Sink.{Ghosts as SinkGhosts}
use Rattle.hose_io.proofs.Frames.{Rose-later, Stays-next}
use Rattle.hose_graph.specs.Network.{Network}
use Rattle.hose_graph.specs.declared.entry.Entry.{Entry}
use Rattle.hose_law.specs.History.{IsSound}
use Rattle.hose_disk.specs.Cabinet.{CabinetFrame, object_of}
use Rattle.hose_disk.specs.declared.cabinet.Cabinet.{Ghosts as CabinetGhosts}
use Rattle.hose_disk.specs.declared.disk.Disk.{Ghosts as DiskGhosts}
use Rattle.hose_journal.specs.Image.{Meaning, damaged, listed, other}
use Rattle.hose_move.specs.Changing.{GoesOnFrom, IsFirstChange}
use Rattle.hose_move.specs.Moving.{StandsForPart}
use Rattle.hose_move.specs.Stating.{Suffice, stated_entries}
use Rattle.hose_move.specs.declared.changing.NetworkChange.{NetworkChange}
use Rattle.hose_move.specs.declared.changing.NetworkChange.TheVariants as change
use Rattle.hose_move.specs.declared.fault.MoveFault.{MoveFault}
use Rattle.hose_move.specs.declared.fault.MoveFault.TheVariants as moving
use Rattle.hose_move.specs.declared.stating.Scope.{Scope}
use Rattle.hose_move.specs.declared.stating.Stated.{Stated}
use Rattle.hose_store.specs.Recovery.{IsHistoryOf, IsRecoveredAs}
use Rattle.hose_store.specs.declared.fault.StoreFault.{StoreFault}
use Rattle.hose_store.specs.declared.fault.StoreFault.TheVariants as store
use Rattle.hose_outside.specs.Reading.{ReadsTopology}
use Rattle.hose_outside.specs.CabinetText.{OnlyTextsRead, whole_text}
use Rattle.hose_outside.specs.Ending.{IsOut, OutputWorked}
use Rattle.hose_outside.specs.Fault.{status_of}
use Rattle.hose_copying.specs.MoveEnd.{EndsMoved, moved_done}
use Rattle.hose_outside.specs.MoveStop.{stop_status}
use Rattle.hose_copying.specs.MoveOutcome.{CanTake, EachNamed, FitsMoved, IsMovable}
use Rattle.hose_copying.specs.Moving.{AreApart, EntersDisk, EntersEnough, EntersNew, IsLent, MoveNames, MovedJournals, MovesApart, MovesFrom, ReadsDisk, ReadsOld, read_done}
use Rattle.hose_outside.specs.OnDisk.{CabinetFailed, JournalIsTold}
use Rattle.hose_outside.specs.Parts.{Parts, Tellings}
use Rattle.hose_outside.specs.TopologyTold.{IsFor, IsServable, notation_of}
use Rattle.hose_outside.specs.declared.fault.Fault.{Fault}
use Rattle.hose_outside.specs.declared.fault.Fault.TheVariants as fault
use Rattle.hose_outside.specs.declared.move_stop.MoveStop.{MoveStop}
use Rattle.hose_copying.specs.declared.move_end.Moved.{Moved}
use Rattle.hose_outside.proofs.Outcomes.{not_long, not_refused, of_read}
use Rattle.hose_outside.proofs.Texts.{same_stream}

-- ---- counts of faults

-- a count that rose, and rose again
Rose-again : (a b c : Frame) → Rose a b → Rose b c → Rose a c
Rose-again a b c p q = record { rose = grind (arith, p.rose, q.rose) }

-- what a line leaves of a count that rose before it
Rose-out : {O : Type 0} (sink : SinkGhosts O) (was mid now : O) (text : List ℕ) → IsOut sink mid now text → Rose (sink.frame was) (sink.frame mid) → Rose (sink.frame was) (sink.frame now)
Rose-out sink was mid now text (inl whole) rose = subst (Rose (sink.frame was)) (sym whole.1) rose
Rose-out sink was mid now text (inr part) rose = Rose-again _ _ _ rose part.0

-- ---- how a move ends

-- a move came to its end, and this holds then; or memory was wanting
abbrev pub Ends : Type 0 → Result Moved MoveStop → Type 0
Ends Holds (Ok moved) = Holds
Ends Holds (Err why) = stop_status why ≡ 7

-- ---- a text

module _ {C E : Type 0} (cabinet : CabinetGhosts C E) where
  -- a text that tells a network, and is not too long, is not read for want of memory alone
  text_refused : (first old new : C) (prices : Network → Network → Type 0) (name : List ℕ) (why : Fault) → Stays (object_of (cabinet.frame first)) (object_of (cabinet.frame old)) → ReadsTopology cabinet old new prices name (Err why) → IsServable (notation_of name) (whole_text cabinet old name)
      → ¬ CabinetFailed cabinet first new → status_of why ≡ 7
  text_refused first old new prices name (fault.Topology refusal) stays reads servable none = absurd (not_refused (notation_of name) refusal _ _ reads.taken reads.gives servable reads.text.0)
  text_refused first old new prices name fault.TooLong stays reads servable none = absurd (not_long (notation_of name) _ _ reads.taken reads.gives servable (reads.too_long.0 refl))
  text_refused first old new prices name fault.Text stays reads servable none = absurd (none (Rose-later _ _ _ stays reads.text))
  text_refused first old new prices name fault.Memory stays reads servable none = refl
  text_refused first old new prices name another stays reads servable none = absurd reads.text

  pub old_refused : (old new : C) (prices : Network → Network → Type 0) (name : List ℕ) (why : Fault) → ReadsTopology cabinet old new prices name (Err why) → IsServable (notation_of name) (whole_text cabinet old name) → ¬ CabinetFailed cabinet old new → status_of why ≡ 7
  old_refused old new prices name why reads = text_refused old old new prices name why (record { never_falls = omega arith; number = refl; loan = refl }) reads

-- ---- a journal

module _ {C E : Type 0} (cabinet : CabinetGhosts C E) (disk : DiskGhosts E) where
  -- what was told of a journal is told of it where the same disk is held
  told_later : (name : List ℕ) (one two : C) (Is : List ℕ → Type 0) → cabinet.held two name ≡ cabinet.held one name → (cabinet.frame two).tells ≡ (cabinet.frame one).tells → JournalIsTold cabinet disk one (Some name) Is → JournalIsTold cabinet disk two (Some name) Is
  told_later name one two Is same tells told = (tells ∙ told.0, told.1, same ∙ told.2, told.3, told.4, told.5)

  pub after_texts : (name : List ℕ) (one two : C) (Is : List ℕ → Type 0) → OnlyTextsRead cabinet one two → JournalIsTold cabinet disk one (Some name) Is → JournalIsTold cabinet disk two (Some name) Is
  after_texts name one two Is only = told_later name one two Is (ap (λ (held : List ℕ → Option E). held name) only.disks) only.tells

  module _ (name : List ℕ) (old new : C) (Done : E → E → Type 0) (lent : IsLent cabinet disk name old new Done) where
    -- what was told of a journal is read of it
    told_read : (Is : List ℕ → Type 0) → JournalIsTold cabinet disk old (Some name) Is → (bytes : List ℕ) × (disk.content lent.opened ≡ Some bytes) × Is bytes
    told_read Is told =
        let was = lent.out.content told.0 in
        let same : was.0 ≡ told.1 = cc (was.1, told.2) in
        (told.3, was.2 ∙ (ap disk.content same ∙ told.4), told.5)

    lent_stays : Stays (object_of (cabinet.frame old)) (object_of (cabinet.frame new))
    lent_stays = record { never_falls = omega (arith, lent.out.call.met.stays.never_falls, lent.in_place.never_falls); number = refl; loan = refl }

    lent_later : (beside : List ℕ) (Is : List ℕ → Type 0) → beside ≢ name → JournalIsTold cabinet disk old (Some beside) Is → JournalIsTold cabinet disk new (Some beside) Is
    lent_later beside Is apart = told_later beside old new Is (lent.others beside apart) (ap (λ (f : CabinetFrame). f.tells) lent.in_place.call ∙ lent.out.call.tells)

    -- the count of the cabinet once the disk is put back
    abbrev Counted : Bool → ℕ
    Counted failed = if failed then one_more (cabinet.frame lent.mid).faults else (cabinet.frame lent.mid).faults

    -- a disk that failed has failed in its cabinet
    lent_failed : (disk.frame lent.left).has_failed ≡ true → CabinetFailed cabinet old new
    lent_failed told = record { rose = at (cases_lt (cabinet.frame old).faults (cabinet.frame new).faults) }
      where
        counted : (cabinet.frame new).faults ≡ Counted true
        counted = ap (λ (f : CabinetFrame). f.faults) lent.in_place.call ∙ ap Counted told

        before : (cabinet.frame lent.mid).faults ≡ (cabinet.frame old).faults
        before = ap (λ (f : Frame). f.faults) lent.out.call.met.ok

        at : ((cabinet.frame old).faults < (cabinet.frame new).faults) ⊎ ((cabinet.frame new).faults ≤ (cabinet.frame old).faults) → ((cabinet.frame old).faults < (cabinet.frame new).faults) ⊎ (2 ^ 64 - 1 ≤ (cabinet.frame new).faults)
        at (inl more) = inl more
        at (inr least) = inr (omega (arith, least, counted, before))

  -- ---- the old journal

  module _ (first : C) (network : Network) (one : (image : List ℕ) (one two : Meaning Entry) → IsRecoveredAs network image one → IsRecoveredAs network image two → one ≡ two) where
    -- bytes that stand for a history stand for nothing else
    only_history : (content : Option (List ℕ)) (bytes : List ℕ) (history : List Entry) (meaning : Meaning Entry) → content ≡ Some bytes → IsHistoryOf network history bytes → IfSome content (λ bytes. IsRecoveredAs network bytes meaning) → listed history ≡ meaning
    only_history content bytes history meaning is stands read = one bytes (listed history) meaning stands (subst (λ (c : Option (List ℕ)). IfSome c (λ bytes. IsRecoveredAs network bytes meaning)) is read)

    module _ (name : List ℕ) (which : Scope) (old new : C) (Is : List Entry → Type 0) (told : JournalIsTold cabinet disk old (Some name) (λ bytes. (history : List Entry) × IsHistoryOf network history bytes × Is history)) where
      -- a journal that stands for a history is not read for want of memory alone
      read_refused : (why : Fault) (read : Result Stated StoreFault) → Err why ≡ read_done read → Stays (object_of (cabinet.frame first)) (object_of (cabinet.frame old)) → ¬ CabinetFailed cabinet first new
          → IsLent cabinet disk name old new (ReadsDisk disk network which read) → status_of why ≡ 7
      read_refused why (Ok stated) same stays none lent = absurd (cc same)
      read_refused why (Err store.Disk) same stays none lent = absurd (none (Rose-later _ _ _ stays (lent_failed name old new _ lent lent.done.0.told)))
      read_refused why (Err (store.Other kept given)) same stays none lent =
          let is = told_read name old new _ lent _ told in
          absurd (cc (only_history _ is.0 is.2.0 (other kept) is.1 is.2.1 lent.done.0.2))
      read_refused why (Err (store.Damaged at)) same stays none lent =
          let is = told_read name old new _ lent _ told in
          absurd (cc (only_history _ is.0 is.2.0 (damaged at) is.1 is.2.1 lent.done.0.1))
      read_refused why (Err store.Memory) same stays none lent =
          let is : why ≡ fault.Memory = cc same in
          ap status_of is

      -- what is stated is of the history that was told
      read_stated : (stated : Stated) (read : Result Stated StoreFault) → Ok stated ≡ read_done read → IsLent cabinet disk name old new (ReadsDisk disk network which read)
          → (history : List Entry) × (stated.entries.items ≡ stated_entries which network history) × Is history
      read_stated stated (Ok found) same lent =
          let is = told_read name old new _ lent _ told in
          let alike : listed is.2.0 ≡ listed lent.done.0.history = only_history _ is.0 is.2.0 (listed lent.done.0.history) is.1 is.2.1 lent.done.0.read in
          let history : lent.done.0.history ≡ is.2.0 = cc alike in
          let value : stated ≡ found = cc same in
          (is.2.0, ap (λ (s : Stated). s.entries.items) value ∙ (lent.done.0.is.entries ∙ ap (stated_entries which network) history), is.2.2)
      read_stated stated (Err why) same lent = absurd (cc same)

    old_journal : (name : List ℕ) (which : Scope) (old new : C) (Is : List Entry → Type 0) (why : Fault) → JournalIsTold cabinet disk old (Some name) (λ bytes. (history : List Entry) × IsHistoryOf network history bytes × Is history) → Stays (object_of (cabinet.frame first)) (object_of (cabinet.frame old))
        → ¬ CabinetFailed cabinet first new → ReadsOld cabinet disk network which name old new (Err why) → status_of why ≡ 7
    old_journal name which old new Is why told stays none (inl (same, not)) = absurd (none (Rose-later _ _ _ stays not.failed))
    old_journal name which old new Is why told stays none (inr (found, looked, inl (same, not))) = absurd (none (Rose-later _ _ _ (Stays-next stays looked.only_texts.stays) not.failed))
    old_journal name which old new Is why told stays none (inr (found, looked, inr (read, same, lent))) =
        read_refused name which found new Is (after_texts name old found _ looked.only_texts told) why read same (Stays-next stays looked.only_texts.stays) none lent

  -- ---- the new journal

  module _ (name : List ℕ) (first old new : C) (network : Network) (entries : List Entry) (Holds : Type 0) (holds : Holds) (stays : Stays (object_of (cabinet.frame first)) (object_of (cabinet.frame old))) (none : ¬ CabinetFailed cabinet first new)
      (sound : IsSound network 0 entries) (told : JournalIsTold cabinet disk old (Some name) (StandsForPart network entries)) where
    moved_ends : (moved : Result ℕ MoveFault) → IsLent cabinet disk name old new (EntersDisk disk network entries moved) → Ends Holds (moved_done (length entries) moved)
    moved_ends (Ok live) lent = holds
    moved_ends (Err (moving.Store store.Disk)) lent = absurd (none (Rose-later _ _ _ stays (lent_failed name old new _ lent lent.done.0.0.told)))
    moved_ends (Err (moving.Store (store.Other kept given))) lent =
        let is = told_read name old new _ lent _ told in
        absurd (cc (lent.done.2 is.0 is.1 is.2 sound tt))
    moved_ends (Err (moving.Store (store.Damaged at))) lent =
        let is = told_read name old new _ lent _ told in
        absurd (cc (lent.done.2 is.0 is.1 is.2 sound tt))
    moved_ends (Err (moving.Store store.Memory)) lent = refl
    moved_ends (Err (moving.Differs epoch)) lent =
        let is = told_read name old new _ lent _ told in
        absurd (cc (lent.done.2 is.0 is.1 is.2 sound tt))
    moved_ends (Err (moving.Unsound epoch)) lent =
        let is = told_read name old new _ lent _ told in
        absurd (cc (lent.done.2 is.0 is.1 is.2 sound tt))
    moved_ends (Err moving.Disk) lent = absurd (none (Rose-later _ _ _ stays (lent_failed name old new _ lent lent.done.0.told)))
    moved_ends (Err moving.Memory) lent = refl

    new_ends : (result : Result Moved MoveStop) → EntersNew cabinet disk network entries name old new result → Ends Holds result
    new_ends result (inl (same, not)) = absurd (none (Rose-later _ _ _ stays not.failed))
    new_ends result (inr (moved, same, lent)) = subst (Ends Holds) (sym same) (moved_ends moved lent)

-- ---- from one journal to the other

module _ {I O C E : Type 0} (tells : Tellings I O C E) (journals : MovedJournals) (first : C) (before after : Parts I O C) (old new : Network)
    (one : (image : List ℕ) (one two : Meaning Entry) → IsRecoveredAs old image one → IsRecoveredAs old image two → one ≡ two) (apart : journals.new ≢ journals.old)
    (stays : Stays (object_of (tells.cabinet.frame first)) (object_of (tells.cabinet.frame before.cabinet)))
    (still : (name : List ℕ) (Is : List ℕ → Type 0) → JournalIsTold tells.cabinet tells.disk first (Some name) Is → JournalIsTold tells.cabinet tells.disk before.cabinet (Some name) Is)
    (not_put : ¬ Rose (tells.sink.frame before.output) (tells.sink.frame after.output)) (none : ¬ CabinetFailed tells.cabinet first after.cabinet) (can : CanTake tells.cabinet tells.disk journals first old new) where
  abbrev Worked : Type 0
  Worked = OutputWorked tells.sink before.output after.output

  -- what is told of the history of the old journal
  abbrev TakesIt : List Entry → Type 0
  TakesIt = FitsMoved tells.cabinet tells.disk journals first old new

  module _ (c1 : C) (seen : AreApart tells.cabinet journals.old journals.new before.cabinet c1) where
    stays_1 : Stays (object_of (tells.cabinet.frame first)) (object_of (tells.cabinet.frame c1))
    stays_1 = Stays-next stays seen.only_texts.stays

    told_1 : JournalIsTold tells.cabinet tells.disk c1 (Some journals.old) (λ bytes. (history : List Entry) × IsHistoryOf old history bytes × TakesIt history)
    told_1 = after_texts tells.cabinet tells.disk journals.old before.cabinet c1 _ seen.only_texts (still journals.old _ can)

    module _ (stated : Stated) (c3 c4 : C) (looked : OnlyTextsRead tells.cabinet c1 c3) (read : Result Stated StoreFault) (same : Ok stated ≡ read_done read)
        (lent : IsLent tells.cabinet tells.disk journals.old c3 c4 (ReadsDisk tells.disk old journals.scope read)) where
      stays_4 : Stays (object_of (tells.cabinet.frame first)) (object_of (tells.cabinet.frame c4))
      stays_4 = Stays-next (Stays-next stays_1 looked.stays) (lent_stays tells.cabinet tells.disk journals.old c3 c4 _ lent)

      was : (history : List Entry) × (stated.entries.items ≡ stated_entries journals.scope old history) × TakesIt history
      was = read_stated tells.cabinet tells.disk first old one journals.old journals.scope c3 c4 TakesIt (after_texts tells.cabinet tells.disk journals.old c1 c3 _ looked told_1) stated read same lent

      to_new : (Is : List ℕ → Type 0) → JournalIsTold tells.cabinet tells.disk first (Some journals.new) Is → JournalIsTold tells.cabinet tells.disk c4 (Some journals.new) Is
      to_new Is told = lent_later tells.cabinet tells.disk journals.old c3 c4 _ lent journals.new Is apart (after_texts tells.cabinet tells.disk journals.new c1 c3 Is looked
          (after_texts tells.cabinet tells.disk journals.new before.cabinet c1 Is seen.only_texts (still journals.new Is told)))

      entered : (result : Result Moved MoveStop) → EntersEnough tells journals (record before { cabinet = c4 }) after new stated result → Ends Worked result
      entered result (inl (few, is, out, held)) = absurd (few (subst (λ (es : List Entry). Suffice journals.scope (length es)) (sym was.1) was.2.2))
      entered result (inr (enough, inl (is, rose, part, held))) = absurd (not_put rose)
      entered result (inr (enough, inr (out, worked, moves))) = new_ends tells.cabinet tells.disk journals.new first c4 after.cabinet new stated.entries.items Worked worked stays_4 none
          (subst (IsSound new 0) (sym was.1) was.2.0)
          (subst (λ (es : List Entry). JournalIsTold tells.cabinet tells.disk c4 (Some journals.new) (StandsForPart new es)) (sym was.1) (to_new _ was.2.1)) result moves

  pub apart_ends : (result : Result Moved MoveStop) → MovesApart tells journals before after old new result → Ends Worked result
  apart_ends result (inl (same, not, out)) = absurd (none (Rose-later _ _ _ stays not.failed))
  apart_ends result (inr (c1, seen, inl (why, same, not, out))) =
      subst (Ends Worked) (sym same) (old_journal tells.cabinet tells.disk first old one journals.old journals.scope c1 after.cabinet TakesIt why (told_1 c1 seen) (stays_1 c1 seen) none not)
  apart_ends result (inr (c1, seen, inr (stated, c4, inl (same, not), enters))) = absurd (cc same)
  apart_ends result (inr (c1, seen, inr (stated, c4, inr (c3, looked, inl (same, not)), enters))) = absurd (cc same)
  apart_ends result (inr (c1, seen, inr (stated, c4, inr (c3, looked, inr (read, same, lent)), enters))) = entered c1 seen stated c3 c4 looked.only_texts read same lent result enters

-- ---- a move, step by step

-- a network that goes on has no first change
no_change : (old new : Network) (first : NetworkChange) → GoesOnFrom old new → IsFirstChange old new (Some first) → ⊥
no_change old new (change.Node node) goes_on is = is.changed (goes_on.nodes node is.is_node)
no_change old new (change.Link link) goes_on is = is.1.changed (goes_on.links link is.1.is_link)

module _ {I O C E : Type 0} (tells : Tellings I O C E) (names : MoveNames) (before after : Parts I O C) (old : Network) (c1 : C)
    (one : (image : List ℕ) (one two : Meaning Entry) → IsRecoveredAs old image one → IsRecoveredAs old image two → one ≡ two) (movable : IsMovable tells.cabinet tells.disk names before.cabinet)
    (not_put : ¬ Rose (tells.sink.frame before.output) (tells.sink.frame after.output)) (none : ¬ CabinetFailed tells.cabinet before.cabinet after.cabinet) where
  abbrev MoveWorked : Type 0
  MoveWorked = OutputWorked tells.sink before.output after.output

  -- what is told of the old network and of a new one
  abbrev Taken : Network → Type 0
  Taken new = GoesOnFrom old new × CanTake tells.cabinet tells.disk names.journals before.cabinet old new

  module _ (reads : ReadsTopology tells.cabinet before.cabinet c1 names.prices names.topology (Ok old)) where
    each_new : IsFor (notation_of names.new_topology) names.prices (whole_text tells.cabinet before.cabinet names.new_topology) Taken
    each_new = of_read (notation_of names.topology) names.prices _ _ reads.taken old (λ old'. EachNamed tells.cabinet tells.disk names before.cabinet names.new_topology (λ new. GoesOnFrom old' new × CanTake tells.cabinet tells.disk names.journals before.cabinet old' new)) reads.gives reads.text.2 movable.moves

    same_new : whole_text tells.cabinet c1 names.new_topology ≡ whole_text tells.cabinet before.cabinet names.new_topology
    same_new = same_stream tells.cabinet before.cabinet c1 names.new_topology 0 reads.only_texts

    taken : (new : Network) (c2 : C) → ReadsTopology tells.cabinet c1 c2 names.prices names.new_topology (Ok new) → Taken new
    taken new c2 reads' = of_read (notation_of names.new_topology) names.prices _ _ reads'.taken new Taken reads'.gives reads'.text.2
        (subst (λ (text : Option _). IsFor (notation_of names.new_topology) names.prices text Taken) (sym same_new) each_new)

    still_on : (new : Network) (c2 : C) → ReadsTopology tells.cabinet c1 c2 names.prices names.new_topology (Ok new) → (name : List ℕ) (Is : List ℕ → Type 0) → JournalIsTold tells.cabinet tells.disk before.cabinet (Some name) Is → JournalIsTold tells.cabinet tells.disk c2 (Some name) Is
    still_on new c2 reads' name Is told = after_texts tells.cabinet tells.disk name c1 c2 Is reads'.only_texts (after_texts tells.cabinet tells.disk name before.cabinet c1 Is reads.only_texts told)

    from_ends : (result : Result Moved MoveStop) → MovesFrom tells names (record before { cabinet = c1 }) after old result → Ends MoveWorked result
    from_ends result (inl (why, same, reads', out)) = subst (Ends MoveWorked) (sym same) (text_refused tells.cabinet before.cabinet c1 after.cabinet names.prices names.new_topology why reads.only_texts.stays reads' (subst (IsServable (notation_of names.new_topology)) (sym same_new) movable.new_servable) none)
    from_ends result (inr (new, c2, reads', inl (first, same, is, out, held))) = absurd (no_change old new first (taken new c2 reads').0 is)
    from_ends result (inr (new, c2, reads', inr (goes_on, moves))) =
        apart_ends tells names.journals before.cabinet (record before { cabinet = c2 }) after old new one movable.apart (Stays-next reads.only_texts.stays reads'.only_texts.stays) (still_on new c2 reads') not_put none (taken new c2 reads').1 result moves

-- ---- the outcome

module _ {I O C E : Type 0} (tells : Tellings I O C E) (before after : Parts I O C) (now : O) where
  pub rose_out : (done : Result Moved MoveStop) (status : ℕ) → EndsMoved tells.sink after.output now status done → Rose (tells.sink.frame before.output) (tells.sink.frame after.output) → Rose (tells.sink.frame before.output) (tells.sink.frame now)
  rose_out (Ok moved) status (inl whole) rose = subst (Rose (tells.sink.frame before.output)) (sym whole.2) rose
  rose_out (Ok moved) status (inr part) rose = Rose-again _ _ _ rose part.1
  rose_out (Err why) status ends rose = Rose-out tells.sink before.output after.output now _ ends.1 rose

  pub ends_so : (done : Result Moved MoveStop) (status : ℕ) → EndsMoved tells.sink after.output now status done → Ends (OutputWorked tells.sink before.output after.output) done → ¬ Rose (tells.sink.frame before.output) (tells.sink.frame now) → (status ≡ 0) ⊎ (status ≡ 7)
  ends_so (Ok moved) status (inl whole) worked not_put = inl whole.0
  ends_so (Ok moved) status (inr part) worked not_put = absurd (not_put (subst (λ (f : Frame). Rose f (tells.sink.frame now)) worked part.1))
  ends_so (Err why) status ends is not_put = inr (ends.0 ∙ is)

  pub completes : (names : MoveNames) (old : Network) (c1 : C) (done : Result Moved MoveStop) (status : ℕ) → ((image : List ℕ) (one two : Meaning Entry) → IsRecoveredAs old image one → IsRecoveredAs old image two → one ≡ two) → ReadsTopology tells.cabinet before.cabinet c1 names.prices names.topology (Ok old)
      → MovesFrom tells names (record before { cabinet = c1 }) after old done → EndsMoved tells.sink after.output now status done → IsMovable tells.cabinet tells.disk names before.cabinet → ¬ Rose (tells.sink.frame before.output) (tells.sink.frame now) → ¬ CabinetFailed tells.cabinet before.cabinet after.cabinet → (status ≡ 0) ⊎ (status ≡ 7)
  completes names old c1 done status one reads moves ends movable not_put none =
      ends_so done status ends (from_ends tells names before after old c1 one movable (λ rose. not_put (rose_out done status ends rose)) none reads done moves) not_put
