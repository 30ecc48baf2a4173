-- The entries of a journal, compared with those that it should have.
use Rattle.std.proofs.Common.{◌≡◌, ◌∙◌, ℕ, ◌+◌, ◌≤◌, List, [], ◌∷◌, ◌++◌, None, Some, length, take, inl, refl, sym, ap, subst, arith}
use Rattle.std.specs.Prelude.{◌≢◌, Bool, Result, Ok, Err, false, true}
use Rattle.std.specs.List.{slice_get}
use Rattle.std.proofs.lemmas.Option.{slice_get_within}
use Rattle.hose_graph.specs.Network.{Network}
use Rattle.hose_graph.specs.declared.entry.Entry.{Entry}
use Rattle.hose_codec.specs.Spelling.{IsSpelling, spelling}
use Rattle.hose_codec.proofs.Entries.{same_entries}
use Rattle.hose_disk.specs.declared.disk.Disk.{Ghosts}
use Rattle.hose_journal.specs.steps.Journal.{IsReady}
use Rattle.hose_journal.specs.declared.prepared.Ready.{Ready}
use Rattle.hose_journal.proofs.Runs.{started, weaker}
use Rattle.hose_store.specs.steps.Becoming.{IsStoreOf}
use Rattle.hose_store.specs.Opening.{IsAtOpening, IsRefusedStore}
use Rattle.hose_store.specs.Replaying.{IsOnlyOpened}
use Rattle.hose_store.specs.steps.Replaying.{HasReplayed, IsReplaying}
use Rattle.hose_store.specs.steps.Store.{KeptStore}
use Rattle.hose_store.specs.declared.fault.StoreFault.{StoreFault}
use Rattle.hose_store.specs.declared.fault.StoreFault.TheVariants as store
use Rattle.hose_store.specs.declared.replay.Replay.{Replay}
use Rattle.hose_store.proofs.Begins.{begun_at_most, nothing_begun}
use Rattle.hose_store.proofs.Openings.{at_opening}
use Rattle.hose_store.proofs.Replays.{has_entries}
use Rattle.hose_move.specs.steps.Committing.{ComparesEntry, ComparesNext, IsMoving, HasReadPart}
use Rattle.hose_move.specs.Moving.{IsInMove, Moves, OnlyMoves}
use Rattle.hose_move.specs.declared.fault.MoveFault.{MoveFault}
use Rattle.hose_move.specs.declared.fault.MoveFault.TheVariants.{Store, Differs, Unsound, Disk, Memory}
use Rattle.hose_move.proofs.Parts.{stands_whole, take_more}

pub is_spelling : (entry : Entry) (ready : Ready) (bytes : List ℕ) → bytes ≡ ready.bytes.items → IsReady entry ready → IsSpelling entry bytes
is_spelling entry ready bytes same is = record { is_entry = is.is_entry; spelled = same ∙ is.bytes }

module _ {D : Type 0} (disk : Ghosts D) (was : D) (network : Network) (entries : List Entry) where
  abbrev Counts : Type 0
  Counts = (now : D) (t : ℕ) (image : List ℕ) → t ≤ disk.moment now → disk.may_leave now image → disk.left_since now t image

  -- what was only opened was moved by nothing
  pub only_opened : (left : D) → IsOnlyOpened disk was left network → OnlyMoves disk was network entries left
  only_opened left opened = record {
    run = weaker disk was left (IsAtOpening disk was network) (IsInMove disk was network entries) (λ image is. inl is) opened.run;
    keeps = opened.keeps;
  }

  pub opened_so_far : Counts → (replay : Replay D) (given : List Entry) → IsReplaying disk was network replay given → IsOnlyOpened disk was replay.reading.disk network
  opened_so_far counts replay given replaying =
      let begins = begun_at_most disk was network replay given replaying (counts replaying.opened) in
      record { run = at_opening disk was replay.reading.disk network begins.run; keeps = begins.keeps }

  abbrev Ends : D → MoveFault → Type 0
  Ends left fault = Moves disk was network entries left (Err fault) × OnlyMoves disk was network entries left

  -- no call of the disk was made
  pub untouched : ((image : List ℕ) → disk.left_since was (disk.moment was) image → disk.may_leave was image) → Ends was (Store store.Memory)
  untouched only_now =
      let begins = nothing_begun disk was network only_now in
      let opened : IsOnlyOpened disk was was network = record { run = at_opening disk was was network begins.run; keeps = begins.keeps } in
      ((started disk was (disk.may_leave was) only_now (λ image is. is), opened), only_opened was opened)

  -- the journal is not opened
  pub refused_at : (left : D) (fault : StoreFault) → IsRefusedStore disk was left network fault → IsOnlyOpened disk was left network → Ends left (Store fault)
  refused_at left fault refused opened = ((refused, opened), only_opened left opened)

  module _ (new : Replay D) (place : ℕ) where
    pub compared_none : place ≤ length entries → HasReplayed disk was network new (take place entries) (Ok None) → HasReadPart disk was network entries new place
    compared_none few next = record { few = few; replaying = next.0; read = next.1 }

    pub compared_fault : (fault : StoreFault) → HasReplayed disk was network new (take place entries) (Err fault) → Ends new.reading.disk (Store fault)
    compared_fault fault next = ((next.0, next.1), only_opened new.reading.disk next.1)

    module _ (ready : Ready) (bytes : List ℕ) (spelled : bytes ≡ ready.bytes.items) (next : HasReplayed disk was network new (take place entries) (Ok (Some ready))) where
      pub compared_same : ((entry : Entry) → IsSpelling entry bytes → slice_get entries place ≡ Some entry) → (place + 1 ≤ length entries) × IsReplaying disk was network new (take (place + 1) entries)
      compared_same same =
          let there = same next.0 (is_spelling next.0 ready bytes spelled next.1) in
          (omega (arith, slice_get_within entries place next.0 there), subst (λ (l : List Entry). IsReplaying disk was network new l) (sym (take_more entries place next.0 there)) next.2)

      pub compared_other : Counts → ((entry : Entry) → IsSpelling entry bytes → slice_get entries place ≢ Some entry) → Ends new.reading.disk (Differs (place + 1))
      compared_other counts other =
          let opened = opened_so_far counts new (take place entries ++ next.0 ∷ []) next.2 in (
            record {
              place = place;
              is_epoch = refl;
              other = next.0;
              differs = other next.0 (is_spelling next.0 ready bytes spelled next.1);
              held = has_entries disk was network new (take place entries ++ next.0 ∷ []) next.2;
              opened = opened;
              count = next.2.count;
            },
            only_opened new.reading.disk opened,
          )

      pub compared_wanting : Counts → Ends new.reading.disk Memory
      compared_wanting counts = (next.2.count, only_opened new.reading.disk (opened_so_far counts new (take place entries ++ next.0 ∷ []) next.2))

    -- by what came of comparing one entry
    pub compared_some : Counts → (ready : Ready) (bytes : List ℕ) → bytes ≡ ready.bytes.items → HasReplayed disk was network new (take place entries) (Ok (Some ready)) → (result : Result Bool MoveFault) → ComparesEntry entries place bytes result → ComparesNext disk was network entries new place result
    compared_some counts ready bytes spelled next (Ok true) same = compared_same ready bytes spelled next same
    compared_some counts ready bytes spelled next (Ok false) none = absurd none
    compared_some counts ready bytes spelled next (Err (Differs epoch)) (is_epoch, other) = subst (λ (n : ℕ). Ends new.reading.disk (Differs n)) (sym is_epoch) (compared_other ready bytes spelled next counts other)
    compared_some counts ready bytes spelled next (Err Memory) wanting = compared_wanting ready bytes spelled next counts
    compared_some counts ready bytes spelled next (Err (Store fault)) none = absurd none
    compared_some counts ready bytes spelled next (Err (Unsound epoch)) none = absurd none
    compared_some counts ready bytes spelled next (Err Disk) none = absurd none

  -- the store of a part goes on
  pub moving_from : (replay : Replay D) (place : ℕ) (store : KeptStore D) → HasReadPart disk was network entries replay place → IsStoreOf disk was network (take place entries) store → IsMoving disk was network entries store place
  moving_from replay place store part is = record {
    is_network = is.is_network;
    few = part.few;
    has = is.has;
    since = stands_whole network (take place entries) (disk.content was) part.read;
    only = only_opened store.journal.disk is.opened;
    count = is.count;
  }

-- ---- spellings

-- an entry that has these bytes is the one that they spell
pub spelled_same : (one entry : Entry) (own : Ready) (bytes : List ℕ) → IsReady one own → own.bytes.items ≡ bytes → IsSpelling entry bytes → one ≡ entry
spelled_same one entry own bytes is same spelled = (same_entries one entry [] [] is.is_entry spelled.is_entry (ap (λ (l : List ℕ). l ++ []) (sym is.bytes ∙ same ∙ spelled.spelled))).0

-- it is another one
pub spelled_other : (one entry : Entry) (own : Ready) (bytes : List ℕ) → IsReady one own → (own.bytes.items ≡ bytes → ⊥) → IsSpelling entry bytes → one ≢ entry
spelled_other one entry own bytes is not spelled same = not (is.bytes ∙ ap spelling same ∙ sym spelled.spelled)

-- an entry that was compared is never told as none
pub never_none : (entries : List Entry) (place : ℕ) (bytes : List ℕ) (result : Result Bool MoveFault) → ComparesEntry entries place bytes result → result ≡ Ok false → ⊥
never_none entries place bytes result compares none = subst (ComparesEntry entries place bytes) none compares
