-- What stands at the end of a move, told of what was before and after it.
use Rattle.std.proofs.Common.{◌≡◌, ◌≢◌, ◌∙◌, inl, inr, ℕ, List, Bool, true, false, Option, None, Some, IfSome, IsTrue, Result, Ok, Err, length, take, refl, sym, ap, subst, arith}
use Rattle.std.proofs.lemmas.List.{take_all}
use Rattle.hose_io.specs.Stream.{Gives, Stream}
use Rattle.hose_words.specs.Reading.{WhereTold}
use Rattle.hose_graph.specs.Network.{Network}
use Rattle.hose_graph.specs.declared.entry.Entry.{Entry}
use Rattle.hose_law.specs.History.{IsSound}
use Rattle.hose_law.proofs.Carried.{sound_carried}
use Rattle.hose_law.proofs.Sold.{sold}
use Rattle.hose_disk.specs.Cabinet.{CabinetFrame, Has, where_told}
use Rattle.hose_disk.specs.declared.cabinet.Cabinet.{Ghosts as CabinetGhosts}
use Rattle.hose_disk.specs.declared.disk.Disk.{Ghosts as DiskGhosts}
use Rattle.hose_journal.specs.Moments.{Images}
use Rattle.hose_move.specs.Stating.{Suffice, stated_entries}
use Rattle.hose_move.specs.declared.fault.MoveFault.{MoveFault}
use Rattle.hose_move.specs.declared.fault.MoveFault.TheVariants as moving
use Rattle.hose_move.specs.declared.stating.Scope.{Scope}
use Rattle.hose_move.specs.declared.stating.Stated.{Stated}
use Rattle.hose_store.specs.Opening.{IsUnchanged}
use Rattle.hose_store.specs.Recovery.{IsHistoryOf}
use Rattle.hose_store.specs.declared.fault.StoreFault.{StoreFault}
use Rattle.hose_outside.specs.CabinetText.{OnlyTextsRead, whole_text}
use Rattle.hose_outside.specs.Fault.{status_of}
use Rattle.hose_copying.specs.MoveEnd.{EndsMoved, moved_done}
use Rattle.hose_outside.specs.MoveStop.{stop_status}
use Rattle.hose_copying.specs.MoveOutcome.{IsMoved, IsOnlyRead}
use Rattle.hose_copying.specs.Moving.{EntersDisk, EntersEnough, IsLent, MoveNames, MovedJournals, MovesApart, MovesNamed, ReadsDisk, ReadsOld, read_done}
use Rattle.hose_outside.specs.OnDisk.{HadContent}
use Rattle.hose_outside.specs.Parts.{Parts, Tellings}
use Rattle.hose_outside.specs.TopologyTold.{TellsPriced, notation_of}
use Rattle.hose_outside.specs.declared.fault.Fault.{Fault}
use Rattle.hose_outside.specs.declared.fault.Fault.TheVariants as fault
use Rattle.hose_outside.specs.declared.move_stop.MoveStop.{MoveStop}
use Rattle.hose_outside.specs.declared.move_stop.MoveStop.TheVariants as stop
use Rattle.hose_copying.specs.declared.move_end.Moved.{Moved}
use Rattle.hose_outside.proofs.Texts.{same_stream}

-- ---- the status

not_0 : (why : Fault) → status_of why ≡ 0 → ⊥
not_0 (fault.Words word) none = omega (arith, none)
not_0 another none = omega (arith, none)

pub stop_not_0 : (why : MoveStop) → stop_status why ≡ 0 → ⊥
stop_not_0 (stop.Old why) none = not_0 why none
stop_not_0 (stop.New why) none = not_0 why none
stop_not_0 (stop.Node node) none = omega (arith, none)
stop_not_0 (stop.Link link) none = omega (arith, none)
stop_not_0 (stop.Unsound epoch) none = omega (arith, none)
stop_not_0 (stop.Differs epoch) none = omega (arith, none)
stop_not_0 (stop.Less entries) none = omega (arith, none)

-- ---- a text

-- what a text tells of which some was taken it tells where it is told
pub tells_all : (text left : Option Stream) (taken : List ℕ) (P : List ℕ → Type 0) → Gives text left taken → WhereTold text left (λ bytes _. P bytes) → IfSome text (λ stream. P stream.left)
tells_all None left taken P gives told = tt
tells_all (Some text) None taken P gives told = absurd gives
tells_all (Some text) (Some left) taken P gives told = told

-- ---- a disk in a cabinet

told_some : {A : Type 0} (tells : Bool) (value : A) → IsTrue tells → where_told tells value ≡ Some value
told_some true value told = refl
told_some false value told = absurd (cc told)

module _ {C E : Type 0} (cabinet : CabinetGhosts C E) (disk : DiskGhosts E) where
  -- two cabinets hold the same disk under a name, and both tell or not
  pub record HoldsSame (name : List ℕ) (one other : C) : Type 0 where
    pub held : cabinet.held other name ≡ cabinet.held one name
    pub tells : (cabinet.frame other).tells ≡ (cabinet.frame one).tells

  pub same_texts : (name : List ℕ) (one other : C) → OnlyTextsRead cabinet one other → HoldsSame name one other
  same_texts name one other only = record { held = ap (λ (held : List ℕ → Option E). held name) only.disks; tells = only.tells }

  pub same_next : (name : List ℕ) (one two three : C) → HoldsSame name one two → HoldsSame name two three → HoldsSame name one three
  same_next name one two three p q = record { held = q.held ∙ p.held; tells = q.tells ∙ p.tells }

  same_none : (name : List ℕ) (one other : C) → other ≡ one → HoldsSame name one other
  same_none name one other same = record { held = ap (λ (c : C). cabinet.held c name) same; tells = ap (λ (c : C). (cabinet.frame c).tells) same }

  -- what is so of a disk is so of the same one
  pub has_same : (name : List ℕ) (one other : C) (P : E → Type 0) → HoldsSame name one other → Has (cabinet.frame other).tells (cabinet.held other name) P → Has (cabinet.frame one).tells (cabinet.held one name) P
  has_same name one other P same has = λ told.
      let found = has (subst IsTrue (sym same.tells) told) in
      (found.0, sym same.held ∙ found.1, found.2)

  has_later : (name : List ℕ) (one other : C) (P : E → Type 0) → HoldsSame name one other → Has (cabinet.frame one).tells (cabinet.held one name) P → Has (cabinet.frame other).tells (cabinet.held other name) P
  has_later name one other P same has = λ told.
      let found = has (subst IsTrue same.tells told) in
      (found.0, same.held ∙ found.1, found.2)

  module _ (name : List ℕ) (old new : C) (Done : E → E → Type 0) (lent : IsLent cabinet disk name old new Done) where
    lent_tells : (cabinet.frame new).tells ≡ (cabinet.frame lent.mid).tells
    lent_tells = ap (λ (f : CabinetFrame). f.tells) lent.in_place.call

    -- what is so of the disk that was put back is so of what the cabinet holds
    lent_left : (P : E → Type 0) → P lent.left → Has (cabinet.frame new).tells (cabinet.held new name) P
    lent_left P is = λ told.
        let there = subst (λ (out : Option (List ℕ)). IfSome out (λ out. cabinet.held new out ≡ where_told (cabinet.frame lent.mid).tells lent.left)) lent.out.call.taken_out lent.in_place.held in
        (lent.left, there ∙ told_some (cabinet.frame lent.mid).tells lent.left (subst IsTrue lent_tells told), is)

    -- what was read of it is what the cabinet held
    lent_had : (P : List ℕ → Type 0) → IfSome (disk.content lent.opened) P → HadContent cabinet disk old name P
    lent_had P is = λ told.
        let was = lent.out.content told in
        (was.0, was.1, subst (λ (c : Option (List ℕ)). IfSome c P) was.2 is)

    -- another disk is the same
    lent_other : (other : List ℕ) → other ≢ name → HoldsSame other old new
    lent_other other apart = record { held = lent.others other apart; tells = lent_tells ∙ lent.out.call.tells }

    -- it was only read
    lent_read : IsUnchanged disk lent.opened lent.left → disk.content lent.left ≡ disk.content lent.opened → IsOnlyRead cabinet disk name old new
    lent_read unchanged kept = inr (λ told.
        let images = lent.out.images told in
        let moment = lent.out.moment told in
        let content = lent.out.content told in
        let same : moment.0 ≡ images.0 = cc (moment.1, images.1) in
        let alike : content.0 ≡ images.0 = cc (content.1, images.1) in
        let at : disk.moment lent.opened ≡ disk.moment images.0 = moment.2 ∙ ap disk.moment same in
        let read : disk.content lent.left ≡ disk.content images.0 = kept ∙ (content.2 ∙ ap disk.content alike) in (
          images.0,
          images.1,
          lent_left (λ left. (disk.content left ≡ disk.content images.0) × ((image : List ℕ) → disk.left_since left (disk.moment images.0) image → disk.may_leave images.0 image))
              (read, λ image since. images.2 image (unchanged.each image (subst (λ (t : ℕ). disk.left_since lent.left t image) (sym at) since))),
        ))

  -- what was only read was so before, and is so where it is held afterwards
  pub read_between : (name : List ℕ) (one two three four : C) → HoldsSame name one two → IsOnlyRead cabinet disk name two three → HoldsSame name three four → IsOnlyRead cabinet disk name one four
  read_between name one two three four p (inl same) q = inl (q.held ∙ (same ∙ p.held))
  read_between name one two three four p (inr has) q = inr (has_same name one two _ p (λ told.
      let found = has told in
      (found.0, found.1, has_later name three four _ q found.2)))

  pub read_same : (name : List ℕ) (one other : C) → HoldsSame name one other → IsOnlyRead cabinet disk name one other
  read_same name one other same = inl same.held

  -- ---- what was stated, and what was moved

  pub record WasStated (name : List ℕ) (which : Scope) (old new : C) (network : Network) (stated : Stated) : Type 0 where
    pub history : List Entry
    pub sound : IsSound network 0 history
    pub had : HadContent cabinet disk old name (IsHistoryOf network history)
    pub entries : stated.entries.items ≡ stated_entries which network history

  pub was_stated : (name : List ℕ) (which : Scope) (old new : C) (network : Network) (stated : Stated) (read : Result Stated StoreFault) → Ok stated ≡ read_done read
      → IsLent cabinet disk name old new (ReadsDisk disk network which read) → WasStated name which old new network stated
  was_stated name which old new network stated (Ok other) same lent =
      let is : stated ≡ other = cc same in
      record {
        history = lent.done.0.history;
        sound = lent.done.0.sound;
        had = lent_had name old new _ lent _ lent.done.0.read;
        entries = ap (λ (s : Stated). s.entries.items) is ∙ lent.done.0.is.entries;
      }
  was_stated name which old new network stated (Err why) same lent = absurd (cc same)

  record WasMoved (name : List ℕ) (new : C) (network : Network) (entries : List Entry) : Type 0 where
    pub sound : IsSound network 0 entries
    pub images : Has (cabinet.frame new).tells (cabinet.held new name) (λ left. Images disk left (IsHistoryOf network entries))

  was_moved : (name : List ℕ) (old new : C) (network : Network) (entries : List Entry) (done : Moved) (moved : Result ℕ MoveFault) → Ok done ≡ moved_done (length entries) moved
      → IsLent cabinet disk name old new (EntersDisk disk network entries moved) → WasMoved name new network entries
  was_moved name old new network entries done (Ok live) same lent =
      let all : take (length entries) entries ≡ entries = take_all (length entries) entries (omega arith) in
      record {
        sound = subst (IsSound network 0) all lent.done.0.0.sound;
        images = lent_left name old new _ lent (λ left. Images disk left (IsHistoryOf network entries)) (subst (λ (es : List Entry). Images disk lent.left (IsHistoryOf network es)) all lent.done.0.0.images);
      }
  was_moved name old new network entries done (Err (moving.Store why)) same lent = absurd (cc same)
  was_moved name old new network entries done (Err (moving.Differs epoch)) same lent = absurd (cc same)
  was_moved name old new network entries done (Err (moving.Unsound epoch)) same lent = absurd (cc same)
  was_moved name old new network entries done (Err moving.Disk) same lent = absurd (cc same)
  was_moved name old new network entries done (Err moving.Memory) same lent = absurd (cc same)

-- ---- from one journal to the other

module _ {I O C E : Type 0} (tells : Tellings I O C E) (journals : MovedJournals) (before after : Parts I O C) (old new : Network) where
  -- the entries that were asked for were read, and stand in the new journal
  pub record HasEntered : Type 0 where
    pub history : List Entry
    pub sound : IsSound old 0 history
    pub had : HadContent tells.cabinet tells.disk before.cabinet journals.old (IsHistoryOf old history)
    pub enough : Suffice journals.scope (length (stated_entries journals.scope old history))
    pub new_sound : IsSound new 0 (stated_entries journals.scope old history)
    pub images : Has (tells.cabinet.frame after.cabinet).tells (tells.cabinet.held after.cabinet journals.new) (λ left. Images tells.disk left (IsHistoryOf new (stated_entries journals.scope old history)))

  finish : (c1 c3 c4 : C) (stated : Stated) → OnlyTextsRead tells.cabinet before.cabinet c1 → OnlyTextsRead tells.cabinet c1 c3 → Suffice journals.scope (length stated.entries.items) → WasStated tells.cabinet tells.disk journals.old journals.scope c3 c4 old stated
      → WasMoved tells.cabinet tells.disk journals.new after.cabinet new stated.entries.items → HasEntered
  finish c1 c3 c4 stated seen looked enough was moved =
      let here = same_next tells.cabinet tells.disk journals.old before.cabinet c1 c3 (same_texts tells.cabinet tells.disk journals.old before.cabinet c1 seen) (same_texts tells.cabinet tells.disk journals.old c1 c3 looked) in
      record {
        history = was.history;
        sound = was.sound;
        had = has_same tells.cabinet tells.disk journals.old before.cabinet c3 _ here was.had;
        enough = subst (λ (es : List Entry). Suffice journals.scope (length es)) was.entries enough;
        new_sound = subst (IsSound new 0) was.entries moved.sound;
        images = subst (λ (es : List Entry). Has (tells.cabinet.frame after.cabinet).tells (tells.cabinet.held after.cabinet journals.new) (λ left. Images tells.disk left (IsHistoryOf new es))) was.entries moved.images;
      }

  pub entered : (done : Moved) → MovesApart tells journals before after old new (Ok done) → HasEntered
  entered done (inl (same, none, out)) = absurd (cc same)
  entered done (inr (c1, seen, inl (why, same, not, out))) = absurd (cc same)
  entered done (inr (c1, seen, inr (stated, c4, inl (same, none), enters))) = absurd (cc same)
  entered done (inr (c1, seen, inr (stated, c4, inr (c3, looked, inl (same, none)), enters))) = absurd (cc same)
  entered done (inr (c1, seen, inr (stated, c4, inr (c3, looked, inr (read, same, lent)), inl (few, same', out, held)))) = absurd (cc same')
  entered done (inr (c1, seen, inr (stated, c4, inr (c3, looked, inr (read, same, lent)), inr (enough, inl (same', rose, part, held))))) = absurd (cc same')
  entered done (inr (c1, seen, inr (stated, c4, inr (c3, looked, inr (read, same, lent)), inr (enough, inr (out, worked, inl (same', none)))))) = absurd (cc same')
  entered done (inr (c1, seen, inr (stated, c4, inr (c3, looked, inr (read, same, lent)), inr (enough, inr (out, worked, inr (moved, same', lent')))))) =
      finish c1 c3 c4 stated seen.only_texts looked.only_texts enough (was_stated tells.cabinet tells.disk journals.old journals.scope c3 c4 old stated read same lent)
      (was_moved tells.cabinet tells.disk journals.new c4 after.cabinet new stated.entries.items done moved same' lent')

  -- ---- the old journal

  abbrev Same : C → C → Type 0
  Same one other = HoldsSame tells.cabinet tells.disk journals.old one other

  abbrev Kept : C → C → Type 0
  Kept one other = IsOnlyRead tells.cabinet tells.disk journals.old one other

  texts : (one other : C) → OnlyTextsRead tells.cabinet one other → Same one other
  texts = same_texts tells.cabinet tells.disk journals.old

  on : (one two three : C) → Same one two → Same two three → Same one three
  on = same_next tells.cabinet tells.disk journals.old

  same_kept : (one other : C) → Same one other → Kept one other
  same_kept = read_same tells.cabinet tells.disk journals.old

  beside : journals.old ≢ journals.new → (one two : C) (Done : E → E → Type 0) → IsLent tells.cabinet tells.disk journals.new one two Done → Same one two
  beside apart one two Done lent = lent_other tells.cabinet tells.disk journals.new one two Done lent journals.old apart

  between : (one two three four : C) → Same one two → Kept two three → Same three four → Kept one four
  between = read_between tells.cabinet tells.disk journals.old

  not_lent : (one other : C) → tells.cabinet.held other ≡ tells.cabinet.held one → (tells.cabinet.frame other).tells ≡ (tells.cabinet.frame one).tells → Same one other
  not_lent one other held told = record { held = ap (λ (h : List ℕ → Option E). h journals.old) held; tells = told }

  later : journals.old ≢ journals.new → (c4 : C) (stated : Stated) (done : Result Moved MoveStop) → EntersEnough tells journals (record before { cabinet = c4 }) after new stated done → Same c4 after.cabinet
  later apart c4 stated done (inl (few, same', out, held)) = same_none tells.cabinet tells.disk journals.old c4 after.cabinet held
  later apart c4 stated done (inr (enough, inl (same', rose, part, held))) = same_none tells.cabinet tells.disk journals.old c4 after.cabinet held
  later apart c4 stated done (inr (enough, inr (out, worked, inl (same', none)))) = not_lent c4 after.cabinet none.same none.tells
  later apart c4 stated done (inr (enough, inr (out, worked, inr (moved, same', lent')))) = beside apart c4 after.cabinet _ lent'

  pub kept_apart : (done : Result Moved MoveStop) → MovesApart tells journals before after old new done → Kept before.cabinet after.cabinet
  kept_apart done (inl (same, none, out)) = same_kept before.cabinet after.cabinet (texts before.cabinet after.cabinet none.only_texts)
  kept_apart done (inr (c1, seen, inl (why, same, inl (none, not), out))) =
      same_kept before.cabinet after.cabinet (on before.cabinet c1 after.cabinet (texts before.cabinet c1 seen.only_texts) (texts c1 after.cabinet not.only_texts))
  kept_apart done (inr (c1, seen, inl (why, same, inr (c3, looked, inl (none, not)), out))) =
      same_kept before.cabinet after.cabinet (on before.cabinet c3 after.cabinet (on before.cabinet c1 c3 (texts before.cabinet c1 seen.only_texts) (texts c1 c3 looked.only_texts)) (not_lent c3 after.cabinet not.same not.tells))
  kept_apart done (inr (c1, seen, inl (why, same, inr (c3, looked, inr (read, is, lent)), out))) =
      between before.cabinet c3 after.cabinet after.cabinet (on before.cabinet c1 c3 (texts before.cabinet c1 seen.only_texts) (texts c1 c3 looked.only_texts))
      (lent_read tells.cabinet tells.disk journals.old c3 after.cabinet _ lent lent.done.1 lent.done.2) (record { held = refl; tells = refl })
  kept_apart done (inr (c1, seen, inr (stated, c4, inl (same, none), enters))) = absurd (cc same)
  kept_apart done (inr (c1, seen, inr (stated, c4, inr (c3, looked, inl (same, none)), enters))) = absurd (cc same)
  kept_apart done (inr (c1, seen, inr (stated, c4, inr (c3, looked, inr (read, same, lent)), enters))) =
      between before.cabinet c3 c4 after.cabinet (on before.cabinet c1 c3 (texts before.cabinet c1 seen.only_texts) (texts c1 c3 looked.only_texts))
      (lent_read tells.cabinet tells.disk journals.old c3 c4 _ lent lent.done.1 lent.done.2) (later seen.differ c4 stated done enters)

  -- ---- the disks of other names

  module _ (name : List ℕ) (not_old : name ≢ journals.old) (not_new : name ≢ journals.new) where
    abbrev Alike : C → C → Type 0
    Alike one other = tells.cabinet.held other name ≡ tells.cabinet.held one name

    all_alike : (one other : C) → tells.cabinet.held other ≡ tells.cabinet.held one → Alike one other
    all_alike one other same = ap (λ (held : List ℕ → Option E). held name) same

    read_alike : (one other : C) (result : Result Stated Fault) → ReadsOld tells.cabinet tells.disk old journals.scope journals.old one other result → Alike one other
    read_alike one other result (inl (same, none)) = all_alike one other none.only_texts.disks
    read_alike one other result (inr (found, looked, inl (same, none))) = all_alike found other none.same ∙ all_alike one found looked.only_texts.disks
    read_alike one other result (inr (found, looked, inr (read, same, lent))) = lent.others name not_old ∙ all_alike one found looked.only_texts.disks

    entered_alike : (c4 : C) (stated : Stated) (done : Result Moved MoveStop) → EntersEnough tells journals (record before { cabinet = c4 }) after new stated done → Alike c4 after.cabinet
    entered_alike c4 stated done (inl (few, same, out, held)) = ap (λ (c : C). tells.cabinet.held c name) held
    entered_alike c4 stated done (inr (enough, inl (same, rose, part, held))) = ap (λ (c : C). tells.cabinet.held c name) held
    entered_alike c4 stated done (inr (enough, inr (out, worked, inl (same, none)))) = all_alike c4 after.cabinet none.same
    entered_alike c4 stated done (inr (enough, inr (out, worked, inr (moved, same, lent)))) = lent.others name not_new

    pub others_apart : (done : Result Moved MoveStop) → MovesApart tells journals before after old new done → Alike before.cabinet after.cabinet
    others_apart done (inl (same, none, out)) = all_alike before.cabinet after.cabinet none.only_texts.disks
    others_apart done (inr (c1, seen, inl (why, same, lends, out))) = read_alike c1 after.cabinet (Err why) lends ∙ all_alike before.cabinet c1 seen.only_texts.disks
    others_apart done (inr (c1, seen, inr (stated, c4, lends, enters))) =
        entered_alike c4 stated done enters ∙ (read_alike c1 c4 (Ok stated) lends ∙ all_alike before.cabinet c1 seen.only_texts.disks)

-- ---- a move

module _ {I O C E : Type 0} (tells : Tellings I O C E) (names : MoveNames) (before after : Parts I O C) where
  moved_named : (done : Moved) → MovesNamed tells names before after (Ok done) → IsMoved tells.cabinet tells.disk names before.cabinet after.cabinet
  moved_named done (inl (why, same, reads, out)) = absurd (cc same)
  moved_named done (inr (old, c1, reads, inl (why, same, reads', out))) = absurd (cc same)
  moved_named done (inr (old, c1, reads, inr (new, c2, reads', inl (change, same, first, out, held)))) = absurd (cc same)
  moved_named done (inr (old, c1, reads, inr (new, c2, reads', inr (goes_on, moves)))) =
      let has = entered tells names.journals (record before { cabinet = c2 }) after old new done moves in
      let here = same_next tells.cabinet tells.disk names.journals.old before.cabinet c1 c2 (same_texts tells.cabinet tells.disk names.journals.old before.cabinet c1 reads.only_texts) (same_texts tells.cabinet tells.disk names.journals.old c1 c2 reads'.only_texts) in
      record {
        old = old;
        new = new;
        old_told = tells_all (whole_text tells.cabinet before.cabinet names.topology) reads.left reads.taken (λ bytes. TellsPriced (notation_of names.topology) names.prices bytes old) reads.gives reads.text.2;
        new_told = subst (λ (text : Option Stream). IfSome text (λ stream. TellsPriced (notation_of names.new_topology) names.prices stream.left new)) (same_stream tells.cabinet before.cabinet c1 names.new_topology 0 reads.only_texts)
            (tells_all (whole_text tells.cabinet c1 names.new_topology) reads'.left reads'.taken (λ bytes. TellsPriced (notation_of names.new_topology) names.prices bytes new) reads'.gives reads'.text.2);
        goes_on = goes_on;
        history = has.history;
        had = has_same tells.cabinet tells.disk names.journals.old before.cabinet c2 _ here has.had;
        sound = has.sound;
        images = has.images;
        new_sound = has.new_sound;
        none_oversold = λ place l. sold new 0 (stated_entries names.journals.scope old has.history) place l has.new_sound;
        carried = sound_carried new 0 (stated_entries names.journals.scope old has.history) has.new_sound;
      }

  pub whole_of : (done : Result Moved MoveStop) (was now : O) (status : ℕ) → MovesNamed tells names before after done → EndsMoved tells.sink was now status done → status ≡ 0 → IsMoved tells.cabinet tells.disk names before.cabinet after.cabinet
  whole_of (Ok done) was now status moves ends is_0 = moved_named done moves
  whole_of (Err why) was now status moves ends is_0 = absurd (stop_not_0 why (sym ends.0 ∙ is_0))

  abbrev SameOld : C → C → Type 0
  SameOld one other = HoldsSame tells.cabinet tells.disk names.journals.old one other

  old_texts : (one other : C) → OnlyTextsRead tells.cabinet one other → SameOld one other
  old_texts = same_texts tells.cabinet tells.disk names.journals.old

  old_on : (one two three : C) → SameOld one two → SameOld two three → SameOld one three
  old_on = same_next tells.cabinet tells.disk names.journals.old

  pub kept_named : (done : Result Moved MoveStop) → MovesNamed tells names before after done → IsOnlyRead tells.cabinet tells.disk names.journals.old before.cabinet after.cabinet
  kept_named done (inl (why, same, reads, out)) = read_same tells.cabinet tells.disk names.journals.old before.cabinet after.cabinet (old_texts before.cabinet after.cabinet reads.only_texts)
  kept_named done (inr (old, c1, reads, inl (why, same, reads', out))) =
      read_same tells.cabinet tells.disk names.journals.old before.cabinet after.cabinet (old_on before.cabinet c1 after.cabinet (old_texts before.cabinet c1 reads.only_texts) (old_texts c1 after.cabinet reads'.only_texts))
  kept_named done (inr (old, c1, reads, inr (new, c2, reads', inl (change, same, first, out, held)))) =
      read_same tells.cabinet tells.disk names.journals.old before.cabinet after.cabinet
      (old_on before.cabinet c2 after.cabinet (old_on before.cabinet c1 c2 (old_texts before.cabinet c1 reads.only_texts) (old_texts c1 c2 reads'.only_texts)) (same_none tells.cabinet tells.disk names.journals.old c2 after.cabinet held))
  kept_named done (inr (old, c1, reads, inr (new, c2, reads', inr (goes_on, moves)))) =
      read_between tells.cabinet tells.disk names.journals.old before.cabinet c2 after.cabinet after.cabinet (old_on before.cabinet c1 c2 (old_texts before.cabinet c1 reads.only_texts) (old_texts c1 c2 reads'.only_texts))
      (kept_apart tells names.journals (record before { cabinet = c2 }) after old new done moves) (record { held = refl; tells = refl })

  module _ (name : List ℕ) (not_old : name ≢ names.journals.old) (not_new : name ≢ names.journals.new) where
    pub others_named : (done : Result Moved MoveStop) → MovesNamed tells names before after done → tells.cabinet.held after.cabinet name ≡ tells.cabinet.held before.cabinet name
    others_named done (inl (why, same, reads, out)) = ap (λ (held : List ℕ → Option E). held name) reads.only_texts.disks
    others_named done (inr (old, c1, reads, inl (why, same, reads', out))) = ap (λ (held : List ℕ → Option E). held name) (reads'.only_texts.disks ∙ reads.only_texts.disks)
    others_named done (inr (old, c1, reads, inr (new, c2, reads', inl (change, same, first, out, held)))) =
        ap (λ (c : C). tells.cabinet.held c name) held ∙ ap (λ (held : List ℕ → Option E). held name) (reads'.only_texts.disks ∙ reads.only_texts.disks)
    others_named done (inr (old, c1, reads, inr (new, c2, reads', inr (goes_on, moves)))) =
        others_apart tells names.journals (record before { cabinet = c2 }) after old new name not_old not_new done moves ∙ ap (λ (held : List ℕ → Option E). held name) (reads'.only_texts.disks ∙ reads.only_texts.disks)
