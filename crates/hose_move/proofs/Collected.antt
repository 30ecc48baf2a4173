-- Entries of a journal that were read one after another.
use Rattle.std.proofs.Common.{ℕ, ◌≤◌, List, [], ◌∷◌, ◌++◌, None, Some, All, refl}
use Rattle.std.specs.Prelude.{Ok, Err}
use Rattle.std.proofs.lemmas.List.Elements.{All-append, All-cons, All-nil}
use Rattle.hose_graph.specs.Network.{Network}
use Rattle.hose_graph.specs.steps.Ranges.{IsInRanges}
use Rattle.hose_graph.specs.declared.entry.Entry.{Entry}
use Rattle.hose_codec.proofs.Entries.{in_ranges}
use Rattle.hose_codec.specs.Spelling.{IsEntry}
use Rattle.hose_disk.specs.declared.disk.Disk.{Ghosts}
use Rattle.hose_journal.specs.steps.Journal.{IsReady}
use Rattle.hose_journal.specs.steps.Reading.{OnlyRead}
use Rattle.hose_journal.specs.declared.prepared.Ready.{Ready}
use Rattle.hose_store.specs.steps.Replaying.{HasReplayed, IsReplaying}
use Rattle.hose_store.specs.declared.fault.StoreFault.{StoreFault}
use Rattle.hose_store.specs.declared.fault.StoreFault.TheVariants as store
use Rattle.hose_store.specs.declared.replay.Replay.{Replay}
use Rattle.hose_store.proofs.Begins.{begun_at_most, begun_then}
use Rattle.hose_move.specs.steps.Collecting.{HasPassed, HasPassedAll, IsReadNoFurther}
use Rattle.hose_move.proofs.Kept.{kept_reading, kept_then}

-- what the format has is in its ranges
pub all_in_ranges : (entries : List Entry) → All IsEntry entries → All IsInRanges entries
all_in_ranges entries are = λ k d below. in_ranges _ (are k d below)

all_more : (entries : List Entry) (entry : Entry) → All IsEntry entries → IsEntry entry → All IsEntry (entries ++ entry ∷ [])
all_more entries entry are is = All-append IsEntry entries (entry ∷ []) are (All-cons IsEntry entry [] is (All-nil IsEntry))

module _ {D : Type 0} (disk : Ghosts D) (was : D) (network : Network) where
  abbrev Counts : Type 0
  Counts = (now : D) (t : ℕ) (image : List ℕ) → t ≤ disk.moment now → disk.may_leave now image → disk.left_since now t image

  pub passed_none : (replay : Replay D) → IsReplaying disk was network replay [] → HasPassed disk was network replay []
  passed_none replay replaying = record { replaying = replaying; spelled = All-nil IsEntry }

  module _ (counts : Counts) (old new : Replay D) (entries : List Entry) (passed : HasPassed disk was network old entries) where
    -- one entry more
    pub passed_more : (ready : Ready) → HasReplayed disk was network new entries (Ok (Some ready)) → (entry : Entry) × IsReady entry ready × HasPassed disk was network new (entries ++ entry ∷ [])
    passed_more ready (entry, is_ready, replaying) = (entry, is_ready, record { replaying = replaying; spelled = all_more entries entry passed.spelled is_ready.is_entry })

    -- none was left
    pub passed_all : HasReplayed disk was network new entries (Ok None) → HasPassedAll disk was network new entries
    passed_all next = record {
      passed = record { replaying = next.0; spelled = passed.spelled };
      read = next.1;
      count = next.2;
      begins = begun_at_most disk was network new entries next.0 (counts next.0.opened);
      kept = kept_reading disk was network new entries next.0;
    }

    -- a fault was met
    pub passed_until : (fault : StoreFault) → HasReplayed disk was network new entries (Err fault) → OnlyRead disk old.reading.disk new.reading.disk → IsReadNoFurther disk was network new.reading.disk fault
    passed_until fault next only = record {
      refused = λ not. next.0;
      begins = begun_then disk was new.reading.disk network old entries passed.replaying (counts passed.replaying.opened) only;
      kept = kept_then disk was network old entries passed.replaying new.reading.disk only;
    }

  -- there was too little memory
  pub wanting : (counts : Counts) (replay : Replay D) (entries : List Entry) → HasPassed disk was network replay entries → IsReadNoFurther disk was network replay.reading.disk store.Memory
  wanting counts replay entries passed = record {
    refused = λ not. absurd (not refl);
    begins = begun_at_most disk was network replay entries passed.replaying (counts passed.replaying.opened);
    kept = kept_reading disk was network replay entries passed.replaying;
  }
