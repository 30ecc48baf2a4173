-- Histories as lists of a journal, and the images that stand for them.
use Rattle.std.proofs.Common.{◌≡◌, inl, inr, ℕ, ◌+◌, ◌<◌, ◌≤◌, List, [], ◌∷◌, ◌++◌, length, Option, Some, None, sym, ap, subst, arith, append-nil, append_assoc}
use Rattle.sha2.specs.Sha256.{sha256}
use Rattle.hose_graph.specs.Network.{Network}
use Rattle.hose_graph.specs.declared.entry.Entry.{Entry}
use Rattle.hose_law.specs.Book.{Book}
use Rattle.hose_law.specs.History.{book_of, opening_book, next_book, IsSound, IsSoundAt, AreFrom}
use Rattle.hose_graph.specs.Limits.{most_epoch}
use Rattle.hose_law.specs.steps.History.{IsSoundWith}
use Rattle.hose_law.proofs.Epochs.{epoch_after}
use Rattle.hose_law.proofs.Entries.{next_epoch, sound_epoch}
use Rattle.hose_law.proofs.Scripts.{book_after_push, sound_push}
use Rattle.hose_topo.specs.Canonical.{canonical_text}
use Rattle.hose_journal.specs.steps.Entries.{AreAllowed, IsListOf}
use Rattle.hose_journal.specs.steps.Journal.{IsListWith, IsListAmid}
use Rattle.hose_journal.proofs.Narrow.{narrowed, widened}
use Rattle.hose_store.specs.Recovery.{digest_of, IsHistoryOf, IsSoundAfter}
use Rattle.hose_store.specs.Store.{IsHistoryWith}
use Rattle.hose_store.specs.steps.Store.{account_of, IsAmid}

-- the digest of a network
pub is_digest : (network : Network) (digest : List ℕ) → digest ≡ sha256 (canonical_text network) → digest ≡ digest_of network
unfolding digest_of
is_digest network digest is = is

-- ---- books

-- a history at whose book an entry is sound is short enough
pub few_entries : (network : Network) (book : Book) (history : List Entry) (entry : Entry) → book ≡ book_of 0 history → IsSoundAt network book entry → length history < most_epoch
few_entries network book history entry same sound =
    omega (arith, sound_epoch network book entry sound, ap (λ (b : Book). b.epoch) same, epoch_after (opening_book 0) history)

-- entries that are sound one after another are no more than there are epochs
few_sound : (network : Network) (book : Book) (entries : List Entry) → book.epoch ≤ most_epoch → AreFrom IsSoundAt network book 0 entries → book.epoch + length entries ≤ most_epoch
few_sound network book [] low sound = omega (arith, low)
few_sound network book (entry ∷ entries) low sound =
    let next : (next_book book entry).epoch ≡ book.epoch + 1 = next_epoch book entry in
    let more = few_sound network (next_book book entry) entries (omega (arith, next, sound_epoch network book entry sound.0)) sound.1 in
    omega (arith, more, next)

pub few_in_history : (network : Network) (history : List Entry) → IsSound network 0 history → length history ≤ most_epoch
few_in_history network history sound = omega (arith, few_sound network (opening_book 0) history (omega arith) sound)

-- a sound history, and an entry that is sound at its end
pub sound_with : (network : Network) (history : List Entry) (entry : Entry) → IsSound network 0 history → IsSoundAt network (book_of 0 history) entry → IsSound network 0 (history ++ entry ∷ [])
sound_with network history entry sound at = sound_push network (opening_book 0) history entry sound at

-- ---- entries that are sound one after another

pub taken_sound : (network : Network) (before items : List Entry) → AreFrom IsSoundAt network (book_of 0 before) 0 items → AreAllowed (IsSoundAfter network) before items
taken_sound network before [] sound = tt
taken_sound network before (item ∷ items) sound =
    let next = subst (λ (book : Book). AreFrom IsSoundAt network book 0 items) (sym (book_after_push (opening_book 0) before item)) sound.1 in
    (sound.0, taken_sound network (before ++ item ∷ []) items next)

sound_taken : (network : Network) (before items : List Entry) → AreAllowed (IsSoundAfter network) before items → AreFrom IsSoundAt network (book_of 0 before) 0 items
sound_taken network before [] taken = tt
sound_taken network before (item ∷ items) taken =
    let next = sound_taken network (before ++ item ∷ []) items taken.1 in
    (taken.0, subst (λ (book : Book). AreFrom IsSoundAt network book 0 items) (book_after_push (opening_book 0) before item) next)

-- they are a sound history
pub sound_items : (network : Network) (items : List Entry) → AreAllowed (IsSoundAfter network) [] items → IsSound network 0 items
sound_items network items taken = sound_taken network [] items taken

-- and one more
pub taken_more : (network : Network) (before items : List Entry) (item : Entry) → AreAllowed (IsSoundAfter network) before items → IsSoundAt network (book_of 0 (before ++ items)) item → AreAllowed (IsSoundAfter network) before (items ++ item ∷ [])
taken_more network before [] item taken at = (subst (λ (l : List Entry). IsSoundAt network (book_of 0 l) item) (append-nil before) at, tt)
taken_more network before (first ∷ items) item taken at =
    (taken.0, taken_more network (before ++ first ∷ []) items item taken.1 (subst (λ (l : List Entry). IsSoundAt network (book_of 0 l) item) (sym (append_assoc before (first ∷ []) items)) at))

-- ---- images

-- an image that stands for a list stands for the history, where that is sound
pub history_of_list : (network : Network) (history : List Entry) (image : List ℕ) → IsSound network 0 history → IsListOf (digest_of network) history image → IsHistoryOf network history image
history_of_list network history image sound list = narrowed (IsSoundAfter network) (digest_of network) history image (taken_sound network [] history sound) list

pub list_of_history : (network : Network) (history : List Entry) (image : List ℕ) → IsHistoryOf network history image → IsListOf (digest_of network) history image
list_of_history network history image is = widened (IsSoundAfter network) (digest_of network) history image is

history_with : (network : Network) (history : List Entry) (doubt one : Option Entry) (image : List ℕ) → IsSound network 0 history → IsSoundWith network (book_of 0 history) one → IsListWith (account_of network history doubt) one image → IsHistoryWith network history one image
history_with network history doubt None image sound at none = none
history_with network history doubt (Some entry) image sound at list = history_of_list network (history ++ entry ∷ []) image (sound_with network history entry sound at) list

pub history_amid : (network : Network) (history : List Entry) (doubt writing : Option Entry) (image : List ℕ) → IsSound network 0 history → IsSoundWith network (book_of 0 history) doubt → IsSoundWith network (book_of 0 history) writing
    → IsListAmid (account_of network history doubt) writing image → IsAmid network history doubt writing image
history_amid network history doubt writing image sound in_doubt at (inl list) = inl (history_of_list network history image sound list)
history_amid network history doubt writing image sound in_doubt at (inr (inl more)) = inr (inl (history_with network history doubt doubt image sound in_doubt more))
history_amid network history doubt writing image sound in_doubt at (inr (inr more)) = inr (inr (history_with network history doubt writing image sound at more))

-- where no entry is in doubt and none is written
pub amid_none : (network : Network) (history : List Entry) (image : List ℕ) → IsAmid network history None None image → IsHistoryOf network history image
amid_none network history image (inl is) = is
amid_none network history image (inr (inl none)) = absurd none
amid_none network history image (inr (inr none)) = absurd none
