-- What becomes of a journal whose entries were all read, as a store.
use Rattle.std.proofs.Common.{◌≡◌, ◌≤◌, ◌∙◌, ℕ, List, None, IfErr, IfOk, IsTrue, ap}
use Rattle.std.specs.Prelude.{Err, MatchResult, Ok, Result}
use Rattle.hose_io.proofs.Frames.{Rose-later, Stays-next}
use Rattle.hose_graph.specs.Network.{Network}
use Rattle.hose_graph.specs.declared.entry.Entry.{Entry}
use Rattle.hose_book.specs.Ledger.{Ledger}
use Rattle.hose_disk.specs.Disk.{object_frame}
use Rattle.hose_disk.specs.declared.disk.Disk.{Ghosts}
use Rattle.hose_journal.specs.steps.Entries.{IsListOf}
use Rattle.hose_journal.specs.Moments.{KeepsCount, LeavesOnly}
use Rattle.hose_journal.specs.Opening.{KeepsDisk}
use Rattle.hose_journal.specs.Reading.{HasFailed}
use Rattle.hose_store.specs.steps.Becoming.{IsStoreOf}
use Rattle.hose_store.specs.steps.Opening.{HasGiven}
use Rattle.hose_store.specs.Recovery.{digest_of}
use Rattle.hose_store.specs.Replaying.{IsOnlyOpened}
use Rattle.hose_store.specs.steps.Replaying.{IsReplaying}
use Rattle.hose_store.specs.steps.Store.{HasHistory, KeptStore}
use Rattle.hose_store.specs.declared.replay.Replay.{Replay}
use Rattle.hose_store.proofs.Openings.{sealing_run}
use Rattle.hose_store.proofs.Replays.{keeps_later}

module _ {D : Type 0} (disk : Ghosts D) (was : D) (network : Network) (replay : Replay D) (entries : List Entry) (replaying : IsReplaying disk was network replay entries)
    (counts : (t : ℕ) (image : List ℕ) → t ≤ disk.moment replaying.opened → disk.may_leave replaying.opened image → disk.left_since replaying.opened t image) (closed : IsTrue replay.reading.closed) where
  keeps_on : (new : D) → KeepsDisk disk replay.reading.disk new → KeepsDisk disk was new
  keeps_on new keeps =
      let before = keeps_later disk was replaying.opened replay.reading.disk replaying.keeps replaying.only in
      record {
        stays = Stays-next before.stays keeps.stays;
        opened = keeps.opened ∙ before.opened;
        tells = keeps.tells ∙ before.tells;
      }

  -- from before the opening up to the seal and within it, the disk was only opened
  only_opened : (new : D) → LeavesOnly disk replay.reading.disk new (IsListOf (digest_of replay.book.network) entries) → KeepsDisk disk replay.reading.disk new → IsOnlyOpened disk was new network
  only_opened new run keeps =
      record {
        run = sealing_run disk was replaying.opened replay.reading.disk new network (digest_of network) replay.book replay.reading entries replaying.given (λ i. digest_of network) replaying.is_network counts replaying.keeps replaying.list replaying.run replaying.only closed (λ i. replay.reading.disk) run;
        keeps = keeps_on new keeps;
      }

  pub store_of : (store : KeptStore D) → store.ledger ≡ replay.book → HasHistory disk store entries None → LeavesOnly disk replay.reading.disk store.journal.disk (IsListOf (digest_of replay.book.network) entries)
      → KeepsCount disk replay.reading.disk store.journal.disk → KeepsDisk disk replay.reading.disk store.journal.disk → IsStoreOf disk was network entries store
  store_of store ledger has run count keeps = record {
    is_network = ap (λ (l : Ledger). l.network) ledger ∙ replaying.is_network;
    has = has;
    count = count ∙ replaying.count;
    opened = only_opened store.journal.disk run keeps;
  }

  pub failed_after : (new : D) → HasFailed disk replay.reading.disk new → LeavesOnly disk replay.reading.disk new (IsListOf (digest_of replay.book.network) entries) → KeepsDisk disk replay.reading.disk new → HasFailed disk was new × IsOnlyOpened disk was new network
  failed_after new failed run keeps =
      let before = keeps_later disk was replaying.opened replay.reading.disk replaying.keeps replaying.only in (
        record {
          rose = Rose-later (object_frame (disk.frame was)) (object_frame (disk.frame replay.reading.disk)) (object_frame (disk.frame new)) before.stays failed.rose;
          told = failed.told;
        },
        only_opened new run keeps,
      )

-- ---- by the result

module _ {D : Type 0} (disk : Ghosts D) (replay : Replay D) where
  abbrev Counts : Type 0
  Counts = (now : D) (t : ℕ) (image : List ℕ) → t ≤ disk.moment now → disk.may_leave now image → disk.left_since now t image

  abbrev Runs : Result (KeptStore D) D → Type 0
  Runs result = (entries : List Entry) → HasGiven disk replay.book replay.reading entries → MatchResult result
      (λ store. LeavesOnly disk replay.reading.disk store.journal.disk (IsListOf (digest_of replay.book.network) entries))
      (λ now. LeavesOnly disk replay.reading.disk now (IsListOf (digest_of replay.book.network) entries))

  abbrev Keeps : Result (KeptStore D) D → Type 0
  Keeps result = MatchResult result (λ store. KeepsDisk disk replay.reading.disk store.journal.disk) (KeepsDisk disk replay.reading.disk)

  pub becomes : (result : Result (KeptStore D) D) → Counts → IsTrue replay.reading.closed → IfOk result (λ store. store.ledger ≡ replay.book) → IfOk result (λ store. (entries : List Entry) → HasGiven disk replay.book replay.reading entries → HasHistory disk store entries None)
      → Runs result → IfOk result (λ store. KeepsCount disk replay.reading.disk store.journal.disk) → Keeps result
      → IfOk result (λ store. (was : D) (network : Network) (entries : List Entry) → IsReplaying disk was network replay entries → IsStoreOf disk was network entries store)
  becomes (Ok store) counts closed ledger has runs count keeps = λ was network entries replaying.
      store_of disk was network replay entries replaying (counts replaying.opened) closed store ledger (has entries replaying.given) (runs entries replaying.given) count keeps
  becomes (Err now) counts closed ledger has runs count keeps = tt

  pub fails_after : (result : Result (KeptStore D) D) → Counts → IsTrue replay.reading.closed → Runs result → IfErr result (HasFailed disk replay.reading.disk) → Keeps result
      → IfErr result (λ now. (was : D) (network : Network) (entries : List Entry) → IsReplaying disk was network replay entries → HasFailed disk was now × IsOnlyOpened disk was now network)
  fails_after (Ok store) counts closed runs failed keeps = tt
  fails_after (Err now) counts closed runs failed keeps = λ was network entries replaying. failed_after disk was network replay entries replaying (counts replaying.opened) closed now failed (runs entries replaying.given) keeps
