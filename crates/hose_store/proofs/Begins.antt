-- What was begun of a journal in its opening, and that it is only read after it.
use Rattle.std.proofs.Common.{◌≤◌, ℕ, List, inl, refl, arith}
use Rattle.hose_graph.specs.Network.{Network}
use Rattle.hose_graph.specs.declared.entry.Entry.{Entry}
use Rattle.hose_disk.specs.declared.disk.Disk.{Ghosts}
use Rattle.hose_journal.specs.steps.Opening.{IsOpened}
use Rattle.hose_journal.specs.steps.Reading.{OnlyRead}
use Rattle.hose_journal.proofs.Runs.{started}
use Rattle.hose_store.specs.steps.Becoming.{BeginsAtMost}
use Rattle.hose_store.specs.Recovery.{digest_of}
use Rattle.hose_store.specs.steps.Replaying.{IsReplaying}
use Rattle.hose_store.specs.declared.replay.Replay.{Replay}
use Rattle.hose_store.proofs.Openings.{opened_then}
use Rattle.hose_store.proofs.Readings.{only_next}
use Rattle.hose_store.proofs.Replays.{keeps_later}

module _ {D : Type 0} (disk : Ghosts D) where
  -- no call of the disk was made
  pub nothing_begun : (was : D) (network : Network) → ((image : List ℕ) → disk.left_since was (disk.moment was) image → disk.may_leave was image) → BeginsAtMost disk was was network
  nothing_begun was network only_now = record {
    run = started disk was (IsOpened disk was (digest_of network)) only_now (λ image is. inl is);
    keeps = record {
      stays = record { never_falls = omega arith; number = refl; loan = refl };
      opened = refl;
      tells = refl;
    };
  }

  -- a journal of which entries were read, and then read on
  pub begun_then : (was now : D) (network : Network) (replay : Replay D) (entries : List Entry) (replaying : IsReplaying disk was network replay entries) → ((t : ℕ) (image : List ℕ) → t ≤ disk.moment replaying.opened → disk.may_leave replaying.opened image → disk.left_since replaying.opened t image)
      → OnlyRead disk replay.reading.disk now → BeginsAtMost disk was now network
  begun_then was now network replay entries replaying counts only =
      let all = only_next disk replaying.opened replay.reading.disk now replaying.only only in
      record {
        run = opened_then disk was replaying.opened now (digest_of network) counts replaying.run all;
        keeps = keeps_later disk was replaying.opened now replaying.keeps all;
      }

  -- a journal of which entries were read
  pub begun_at_most : (was : D) (network : Network) (replay : Replay D) (entries : List Entry) (replaying : IsReplaying disk was network replay entries) → ((t : ℕ) (image : List ℕ) → t ≤ disk.moment replaying.opened → disk.may_leave replaying.opened image → disk.left_since replaying.opened t image)
      → BeginsAtMost disk was replay.reading.disk network
  begun_at_most was network replay entries replaying counts = record {
    run = opened_then disk was replaying.opened replay.reading.disk (digest_of network) counts replaying.run replaying.only;
    keeps = keeps_later disk was replaying.opened replay.reading.disk replaying.keeps replaying.only;
  }
