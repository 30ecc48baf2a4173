-- Entries that are committed one after another to a store that has those before them.
use Rattle.std.proofs.Common.{◌≡◌, ◌∙◌, ℕ, ◌+◌, ◌≤◌, List, [], ◌∷◌, ◌++◌, None, Some, IfSome, length, take, inl, inr, sym, ap, subst, arith}
use Rattle.std.specs.Prelude.{Ok, Err}
use Rattle.std.specs.List.{slice_get}
use Rattle.std.proofs.lemmas.List.{length-take-le}
use Rattle.std.proofs.lemmas.Option.{slice_get_within}
use mathlib.Core.List.{IsPrefix}
use Rattle.hose_io.specs.Frame.{Frame, Stays}
use Rattle.hose_io.proofs.Frames.{Rose-later, Stays-next, Stays-same}
use Rattle.hose_graph.specs.Network.{Network}
use Rattle.hose_graph.specs.declared.entry.Entry.{Entry}
use Rattle.hose_law.specs.Book.{Book}
use Rattle.hose_law.specs.History.{IsSound, IsSoundAt, book_of}
use Rattle.hose_law.proofs.Epochs.{epoch_of}
use Rattle.hose_book.specs.Ledger.{Ledger}
use Rattle.hose_book.specs.declared.books.Committed.{Committed}
use Rattle.hose_book.specs.declared.books.Committed.TheVariants as committed
use Rattle.hose_disk.specs.Disk.{object_frame}
use Rattle.hose_disk.specs.declared.disk.Disk.{Ghosts}
use Rattle.hose_journal.specs.Moments.{LeavesOnly}
use Rattle.hose_journal.proofs.Runs.{joined, weaker}
use Rattle.hose_store.specs.steps.Commit.{Went}
use Rattle.hose_store.specs.steps.Store.{HasHistory, IsAmid, KeptStore}
use Rattle.hose_store.proofs.Histories.{amid_none}
use Rattle.hose_move.specs.steps.Committing.{IsMoving, TakesEntry}
use Rattle.hose_move.specs.Moving.{HasMovedTo, IsInMove, Moves, OnlyMoves, StandsForPart}
use Rattle.hose_move.specs.declared.fault.MoveFault.{MoveFault}
use Rattle.hose_move.specs.declared.fault.MoveFault.TheVariants.{Store, Differs, Unsound, Disk, Memory}
use Rattle.hose_move.proofs.Parts.{prefix_take, stands_more, take_more, take_whole}

module _ {D : Type 0} (disk : Ghosts D) (was : D) (network : Network) (entries : List Entry) where
  abbrev Moving : KeptStore D → ℕ → Type 0
  Moving store place = IsMoving disk was network entries store place

  abbrev Ends : D → MoveFault → Type 0
  Ends left fault = Moves disk was network entries left (Err fault) × OnlyMoves disk was network entries left

  pub moved_to : (store : KeptStore D) (place : ℕ) → Moving store place → HasMovedTo disk was network entries store.journal.disk place
  moved_to store place moving = record {
    few = moving.few;
    sound = subst (λ (n : Network). IsSound n 0 (take place entries)) moving.is_network moving.has.sound;
    since = moving.since;
    images = λ image is. amid_none network (take place entries) image (subst (λ (n : Network). IsAmid n (take place entries) None None image) moving.is_network (moving.has.images image is));
    count = moving.count;
  }

  module _ (old new : KeptStore D) (place : ℕ) (entry : Entry) (moving : Moving old place) (there : slice_get entries place ≡ Some entry) where
    abbrev front : List Entry
    front = take place entries

    next : front ++ entry ∷ [] ≡ take (place + 1) entries
    next = sym (take_more entries place entry there)

    here : (image : List ℕ) → IsAmid network front None (Some entry) image → IsInMove disk was network entries image
    here image (inl is) = inr (record {
      part = front;
      is_part = prefix_take place entries;
      since = moving.since;
      stands = is;
    })
    here image (inr (inl none)) = absurd none
    here image (inr (inr is)) = inr (record {
      part = front ++ entry ∷ [];
      is_part = subst (λ (l : List Entry). IsPrefix l entries) (sym next) (prefix_take (place + 1) entries);
      since = stands_more network front (entry ∷ []) (disk.content was) moving.since;
      stands = is;
    })

    module _ (result : Committed) (went : Went disk old entry result new) (stays : Stays (object_frame (disk.frame old.journal.disk)) (object_frame (disk.frame new.journal.disk))) where
      only_after : OnlyMoves disk was network entries new.journal.disk
      only_after = record {
        run = joined disk was old.journal.disk new.journal.disk (IsInMove disk was network entries) moving.only.run
            (weaker disk old.journal.disk new.journal.disk (IsAmid network front None (Some entry)) (IsInMove disk was network entries) here
            (subst (λ (n : Network). LeavesOnly disk old.journal.disk new.journal.disk (IsAmid n front None (Some entry))) moving.is_network (went.any_moment front None moving.has)));
        keeps = record {
          stays = Stays-next moving.only.keeps.stays stays;
          opened = went.opened ∙ moving.only.keeps.opened;
          tells = went.tells ∙ moving.only.keeps.tells;
        };
      }

    -- it is entered
    moved_more : TakesEntry disk old entry new (Ok tt) → Moving new (place + 1)
    moved_more (went, met) = record {
      is_network = ap (λ (l : Ledger). l.network) went.commits ∙ moving.is_network;
      few = omega (arith, slice_get_within entries place entry there);
      has = subst (λ (l : List Entry). HasHistory disk new l None) next (went.left front None moving.has);
      since = subst (λ (l : List Entry). IfSome (disk.content was) (StandsForPart network l)) next (stands_more network front (entry ∷ []) (disk.content was) moving.since);
      only = only_after committed.Done went (Stays-same met);
      count = ap (λ (f : Frame). f.faults) met ∙ moving.count;
    }

    epoch_here : old.ledger.book.epoch ≡ place
    epoch_here = ap (λ (b : Book). b.epoch) moving.has.book ∙ epoch_of front ∙ length-take-le place entries moving.few

    -- it is not
    ends : (fault : MoveFault) → TakesEntry disk old entry new (Err fault) → Ends new.journal.disk fault
    ends (Store fault) taken = absurd taken
    ends (Differs epoch) taken = absurd taken
    ends (Unsound epoch) (same, unsound, is_epoch) =
        subst (λ (store : KeptStore D). Ends store.journal.disk (Unsound epoch)) (sym same) (
          record {
            place = place;
            is_epoch = omega (arith, is_epoch, epoch_here);
            moved = moved_to old place moving;
            entry = entry;
            is_entry = there;
            unsound = λ sound. unsound (subst (λ (n : Network). IsSoundAt n old.ledger.book entry) (sym moving.is_network) (subst (λ (b : Book). IsSoundAt network b entry) (sym moving.has.book) sound));
          },
          moving.only,
        )
    ends Disk (went, met) = (
      record {
        rose = Rose-later (object_frame (disk.frame was)) (object_frame (disk.frame old.journal.disk)) (object_frame (disk.frame new.journal.disk)) moving.only.keeps.stays met.1;
        told = went.told;
      },
      only_after committed.Disk went met.0,
    )
    ends Memory same = subst (λ (store : KeptStore D). Ends store.journal.disk Memory) (sym same) (moving.count, moving.only)

  pub step_more : (old new : KeptStore D) (place : ℕ) (entry : Entry) → Moving old place → slice_get entries place ≡ Some entry → TakesEntry disk old entry new (Ok tt) → Moving new (place + 1)
  step_more old new place entry moving there taken = moved_more old new place entry moving there taken

  pub step_ends : (old new : KeptStore D) (place : ℕ) (entry : Entry) (fault : MoveFault) → Moving old place → slice_get entries place ≡ Some entry → TakesEntry disk old entry new (Err fault) → Ends new.journal.disk fault
  step_ends old new place entry fault moving there taken = ends old new place entry moving there fault taken

  -- ---- the end

  pub moves_all : (store : KeptStore D) (live : ℕ) → Moving store (length entries) → live ≡ length store.ledger.book.live → Moves disk was network entries store.journal.disk (Ok live)
  moves_all store live moving is =
      (moved_to store (length entries) moving, is ∙ ap (λ (b : Book). length b.live) (moving.has.book ∙ ap (λ (l : List Entry). book_of 0 l) (take_whole entries)))

  pub all_moved : (store : KeptStore D) (place : ℕ) → Moving store place → length entries ≤ place → Moving store (length entries)
  all_moved store place moving past = subst (λ (n : ℕ). Moving store n) (omega (arith, past, moving.few)) moving
