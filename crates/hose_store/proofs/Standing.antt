-- What a store stands for since its opening: at first, after each commit, after a run of them, and once it is closed.
use Rattle.std.proofs.Common.{◌≡◌, ◌⊎◌, inl, inr, ⊎_elim, ℕ, ◌≤◌, List, [], ◌∷◌, ◌++◌, length, Option, Some, None, IfSome, is_some, Result, refl, sym, ap, ◌∙◌, subst, arith, append_assoc, append-nil}
use Rattle.std.proofs.lemmas.Result.{on_ok_weaker}
use mathlib.Core.List.{IsPrefix}
use Rattle.hose_io.specs.declared.Failed.{Failed}
use Rattle.hose_graph.specs.Network.{Network}
use Rattle.hose_graph.specs.declared.entry.Entry.{Entry}
use Rattle.hose_law.specs.History.{AreFrom, EntryKind, book_of, opening_book}
use Rattle.hose_law.proofs.Scripts.{from_end, from_push}
use Rattle.hose_book.specs.Ledger.{Ledger}
use Rattle.hose_book.specs.declared.books.Committed.{Committed}
use Rattle.hose_book.specs.declared.books.Committed.TheVariants.{Done, Disk}
use Rattle.hose_disk.specs.declared.disk.Disk.{Ghosts}
use Rattle.hose_journal.specs.declared.layout.TheConstants.{DIGEST_BYTES}
use Rattle.hose_journal.specs.Moments.{LeavesOnly, TellsAsBefore}
use Rattle.hose_book.specs.steps.Commit.{history_after}
use Rattle.hose_book.specs.steps.GoingOn.{GoesOn, none_yet, entry_more}
use Rattle.hose_store.specs.Beginning.{Beginning, HasLeft, IsOrInDoubt, IsPartOf}
use Rattle.hose_store.specs.steps.Beginning.{StandsFor}
use Rattle.hose_store.specs.steps.Commit.{Closes, IsLeft, Went, store_books}
use Rattle.hose_store.specs.Opening.{IsAtOpening}
use Rattle.hose_store.specs.steps.Opening.{IsOpenedOn}
use Rattle.hose_store.specs.Recovery.{IsHistoryOf, digest_of}
use Rattle.hose_store.specs.Store.{IsHistoryWith}
use Rattle.hose_store.specs.steps.Store.{HasHistory, IsAmid, KeptStore}
use Rattle.hose_journal.proofs.OneList.{one_list}
use Rattle.hose_store.proofs.Histories.{list_of_history}

-- ---- parts of a history

prefix_more : (one all more : List Entry) → IsPrefix one all → IsPrefix one (all ++ more)
prefix_more one all more (rest, same) = (rest ++ more, sym (append_assoc one rest more) ∙ ap (λ (l : List Entry). l ++ more) same)

part_more : (Kind : EntryKind) (beginning : Beginning) (history more : List Entry) (image : List ℕ) → IsPartOf Kind beginning history image → IsPartOf Kind beginning (history ++ more) image
part_more Kind beginning history more image is = (is.0, is.1, prefix_more is.0 history more is.2, is.3)

with_part : (Kind : EntryKind) (beginning : Beginning) (history : List Entry) (one : Option Entry) (image : List ℕ) → IsPrefix beginning.since history → IfSome one (Kind beginning.network (book_of 0 history))
    → IsHistoryWith beginning.network history one image → IsPartOf Kind beginning history image
with_part Kind beginning history None image since at with = absurd with
with_part Kind beginning history (Some entry) image since at with = (history, since, ([], append-nil history), inr (entry, at, with))

-- what stands for the history, or for it and one entry more
amid_part : (Kind : EntryKind) (beginning : Beginning) (history : List Entry) (doubt writing : Option Entry) (image : List ℕ) → IsPrefix beginning.since history
    → IfSome doubt (Kind beginning.network (book_of 0 history)) → IfSome writing (Kind beginning.network (book_of 0 history)) → IsAmid beginning.network history doubt writing image → IsPartOf Kind beginning history image
amid_part Kind beginning history doubt writing image since in_doubt at (inl is) = (history, since, ([], append-nil history), inl is)
amid_part Kind beginning history doubt writing image since in_doubt at (inr (inl with)) = with_part Kind beginning history doubt image since in_doubt with
amid_part Kind beginning history doubt writing image since in_doubt at (inr (inr with)) = with_part Kind beginning history writing image since at with

module _ {D : Type 0} (disk : Ghosts D) where
  module _ (Kind : EntryKind) (Had : List ℕ → Type 0) (beginning : Beginning) where
    abbrev Stood : List Entry → KeptStore D → Type 0
    Stood history store = StandsFor disk Kind Had beginning history store

    -- each image since the opening, after calls within which each stands for the history or for it and one entry more
    pub moments_after : (old : KeptStore D) (new : D) (history : List Entry) (writing : Option Entry) (stood : Stood history old) → IfSome writing (Kind beginning.network (book_of 0 history))
        → LeavesOnly disk old.journal.disk new (IsAmid old.ledger.network history stood.doubt writing) → (image : List ℕ) → disk.left_since new beginning.moment image → IsPartOf Kind beginning history image ⊎ Had image
    moments_after old new history writing stood at run image left =
        ⊎_elim (stood.moments image)
        (λ is. inl (amid_part Kind beginning history stood.doubt writing image stood.since stood.doubtful at (subst (λ (network : Network). IsAmid network history stood.doubt writing image) stood.network is)))
        (run.before beginning.moment image stood.later left)

    -- ---- the opening

    first_image : (history : List Entry) (image : List ℕ) (content : Option (List ℕ)) → history ≡ beginning.since → length (digest_of beginning.network) ≡ DIGEST_BYTES → IfSome content (IsHistoryOf beginning.network history)
        → (content ≡ None → ⊥) → (other : List Entry) × IfSome content (IsHistoryOf beginning.network other) × IsHistoryOf beginning.network other image → IsPartOf Kind beginning beginning.since image
    first_image history image None same size read told stands = absurd (told refl)
    first_image history image (Some bytes) same size read told stands =
        let one = one_list (digest_of beginning.network) bytes stands.0 history size (list_of_history beginning.network stands.0 bytes stands.1) (list_of_history beginning.network history bytes read) in
        (beginning.since, ([], append-nil beginning.since), ([], append-nil beginning.since), inl (subst (λ (all : List Entry). IsHistoryOf beginning.network all image) (one ∙ same) stands.2))

    untold_too : (was now : Option (List ℕ)) → is_some now ≡ is_some was → was ≡ None → now ≡ None
    untold_too None None tells none = refl
    untold_too None (Some now) tells none = absurd cc
    untold_too (Some was) now tells none = absurd cc

    -- a store that was opened stands for its history, since that history, and since any moment from which on the disk had just these images
    pub opened_stands : (old : D) (store : KeptStore D) (opened : IsOpenedOn disk old beginning.network store) → opened.history ≡ beginning.since
        → LeavesOnly disk old store.journal.disk (IsAtOpening disk old beginning.network) → is_some (disk.content store.journal.disk) ≡ is_some (disk.content old) → is_some (disk.content old) ≡ beginning.tells
        → ((t : ℕ) (image : List ℕ) → t ≤ disk.moment old → disk.may_leave old image → disk.left_since old t image)
        → ((t : ℕ) (image : List ℕ) → disk.content store.journal.disk ≡ None → disk.left_since store.journal.disk t image → ⊥)
        → beginning.moment ≤ disk.moment old → ((image : List ℕ) → disk.left_since old beginning.moment image → Had image) → Stood beginning.since store
    opened_stands old store opened same run kept tells counts untold later had = record {
      doubt = None;
      network = opened.network;
      has = subst (λ (history : List Entry). HasHistory disk store history None) same opened.has;
      since = ([], append-nil beginning.since);
      added = from_end Kind beginning.network (opening_book 0) beginning.since;
      doubtful = tt;
      later = omega (arith, later, run.later);
      moments = λ image left. ⊎_elim (λ was. inr (had image was))
          (⊎_elim (λ now. inr (had image (counts beginning.moment image later now)))
          (λ stands. inl (first_image opened.history image (disk.content old) same (subst (λ (network : Network). length (digest_of network) ≡ DIGEST_BYTES) opened.network opened.has.journal.size) opened.read
          (λ none. untold beginning.moment image (untold_too (disk.content old) (disk.content store.journal.disk) kept none) left) stands)))
          (run.before beginning.moment image later left);
      tells = kept ∙ tells;
    }

    -- ---- commits

    goes_on : (old new : KeptStore D) (history now : List Entry) (doubt : Option Entry) (entry : Entry) (stood : Stood history old) → Kind beginning.network (book_of 0 history) entry
        → LeavesOnly disk old.journal.disk new.journal.disk (IsAmid old.ledger.network history stood.doubt (Some entry)) → TellsAsBefore disk old.journal.disk new.journal.disk → new.ledger.network ≡ old.ledger.network
        → HasHistory disk new now doubt → IsPrefix beginning.since now → AreFrom Kind beginning.network (opening_book 0) (length beginning.since) now → IfSome doubt (Kind beginning.network (book_of 0 now))
        → ((image : List ℕ) → IsPartOf Kind beginning history image → IsPartOf Kind beginning now image) → Stood now new
    goes_on old new history now doubt entry stood at run tells network has since added doubtful to = record {
      doubt = doubt;
      network = network ∙ stood.network;
      has = has;
      since = since;
      added = added;
      doubtful = doubtful;
      later = omega (arith, stood.later, run.later);
      moments = λ image left. ⊎_elim (λ part. inl (to image part)) (λ had. inr had) (moments_after old new.journal.disk history (Some entry) stood at run image left);
      tells = tells ∙ stood.tells;
    }

    fails : (old new : KeptStore D) (history : List Entry) (entry : Entry) (stood : Stood history old) → Kind beginning.network (book_of 0 history) entry → Went disk old entry Disk new → IsLeft disk history stood.doubt entry Disk new → Stood history new
    fails old new history entry stood at went (inl has) =
        goes_on old new history history stood.doubt entry stood at (went.any_moment history stood.doubt stood.has) went.tells (ap (λ (l : Ledger). l.network) went.commits) has stood.since stood.added stood.doubtful (λ image is. is)
    fails old new history entry stood at went (inr (inl has)) =
        goes_on old new history history None entry stood at (went.any_moment history stood.doubt stood.has) went.tells (ap (λ (l : Ledger). l.network) went.commits) has stood.since stood.added tt (λ image is. is)
    fails old new history entry stood at went (inr (inr has)) =
        goes_on old new history history (Some entry) entry stood at (went.any_moment history stood.doubt stood.has) went.tells (ap (λ (l : Ledger). l.network) went.commits) has stood.since stood.added at (λ image is. is)

    by_result : (old new : KeptStore D) (history : List Entry) (entry : Entry) (result : Committed) (stood : Stood history old) → Kind beginning.network (book_of 0 history) entry → Went disk old entry result new → Stood (history_after history entry result) new
    by_result old new history entry Done stood at went =
        let added = from_push Kind beginning.network (opening_book 0) (length beginning.since) history entry stood.added at in
        goes_on old new history (history ++ entry ∷ []) None entry stood at (went.any_moment history stood.doubt stood.has) went.tells (ap (λ (l : Ledger). l.network) went.commits)
        (went.left history stood.doubt stood.has) (prefix_more beginning.since history (entry ∷ []) stood.since) added tt (part_more Kind beginning history (entry ∷ []))
    by_result old new history entry Disk stood at went = fails old new history entry stood at went (went.left history stood.doubt stood.has)

    -- a run of commits
    pub run_stands : (first : List Entry) (old : KeptStore D) (last : List Entry) (new : KeptStore D) → Stood first old → GoesOn (store_books disk) Kind beginning.network first old last new → Stood last new
    run_stands first old last new stood none_yet = stood
    run_stands first old last new stood (entry_more entry result before at went) =
        by_result _ new _ entry result (run_stands first old _ _ stood before) at went

    -- ---- closing

    left_now : (history : List Entry) (doubt : Option Entry) (image : List ℕ) → IsAmid beginning.network history doubt None image → IsOrInDoubt beginning.network history doubt image
    left_now history doubt image (inl is) = inl is
    left_now history doubt image (inr (inl with)) = inr with
    left_now history doubt image (inr (inr none)) = absurd none

    -- what is left of the disk
    pub closed_left : (T : Type 0) (store : KeptStore D) (left : D) (history : List Entry) (result : Result T Failed) → ((t : ℕ) (image : List ℕ) → t ≤ disk.moment left → disk.may_leave left image → disk.left_since left t image)
        → Stood history store → Closes disk store left result → HasLeft disk Kind Had beginning history left result
    closed_left T store left history result counts stood closes =
        let run = closes.any_moment history stood.doubt stood.has in record {
          doubt = stood.doubt;
          doubtful = stood.doubtful;
          now = λ image now. left_now history stood.doubt image
              (subst (λ (network : Network). IsAmid network history stood.doubt None image) stood.network (run.each image (counts (disk.moment store.journal.disk) image run.later now)));
          closed = on_ok_weaker result
              (λ images image now. subst (λ (network : Network). IsHistoryOf network history image) stood.network (images history stood.doubt stood.has image now)) closes.closed;
          moments = moments_after store left history None stood tt run;
        }
