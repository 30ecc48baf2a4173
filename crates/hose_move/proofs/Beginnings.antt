-- What a reading tells of a disk that was only read before.
use Rattle.std.proofs.Common.{◌≡◌, ◌∙◌, ℕ, List, Option, None, Some, IfSome, All, IfOk, is_some, refl, sym, ap, subst, ⊎_elim}
use Rattle.std.specs.Prelude.{Result, Ok, Err}
use Rattle.hose_io.proofs.Frames.{Rose-later, Stays-next}
use Rattle.hose_graph.specs.Network.{Network}
use Rattle.hose_graph.specs.steps.Ranges.{IsInRanges}
use Rattle.hose_disk.specs.Disk.{object_frame}
use Rattle.hose_disk.specs.declared.disk.Disk.{Ghosts}
use Rattle.hose_journal.specs.Image.{IsUnbegun, damaged, other}
use Rattle.hose_journal.specs.Moments.{KeepsCount}
use Rattle.hose_journal.specs.Opening.{KeepsDisk}
use Rattle.hose_journal.specs.steps.Opening.{IsOpened}
use Rattle.hose_journal.specs.Reading.{HasFailed}
use Rattle.hose_journal.specs.steps.Reading.{OnlyRead}
use Rattle.hose_journal.proofs.Runs.{joined, weaker}
use Rattle.hose_store.specs.steps.Becoming.{BeginsAtMost}
use Rattle.hose_store.specs.Opening.{IsRefusedStore, IsUnchanged}
use Rattle.hose_store.specs.Recovery.{IsHistoryOf, IsRecoveredAs, digest_of}
use Rattle.hose_store.specs.declared.fault.StoreFault.{StoreFault}
use Rattle.hose_store.specs.declared.fault.StoreFault.TheVariants as store
use Rattle.hose_move.specs.steps.Collecting.{IsReadNoFurther, KeepsContent}
use Rattle.hose_move.specs.Stating.{ReadsJournal, StatesHistory}
use Rattle.hose_move.specs.steps.Stating.{StatesAll}
use Rattle.hose_move.specs.declared.stating.Scope.{Scope}
use Rattle.hose_move.specs.declared.stating.Stated.{Stated}
use Rattle.hose_move.proofs.Kept.{none_of}

clash : (content : Option (List ℕ)) (bytes : List ℕ) → content ≡ Some bytes → IfSome content IsUnbegun → IfSome content (λ found. ¬ IsUnbegun found) → ⊥
clash None bytes same is not = absurd (cc same)
clash (Some found) bytes same is not = not is

module _ {D : Type 0} (disk : Ghosts D) where
  abbrev Untold : D → Type 0
  Untold now = (t : ℕ) (image : List ℕ) → disk.content now ≡ None → disk.left_since now t image → ⊥

  by_content : (was now : D) (network : Network) (content : Option (List ℕ)) → disk.content was ≡ content → BeginsAtMost disk was now network → Untold now → IfSome (disk.content was) (λ bytes. ¬ IsUnbegun bytes) → IsUnchanged disk was now
  by_content was now network None same begins untold not =
      let none : disk.content now ≡ None = none_of (disk.content now) (begins.keeps.tells ∙ ap is_some same) in
      record {
        later = begins.run.later;
        each = λ image left. absurd (untold (disk.moment was) image none left);
        before = λ t image le left. absurd (untold t image none left);
        keeps = begins.run.keeps;
      }
  by_content was now network (Some bytes) same begins untold not =
      weaker disk was now (IsOpened disk was (digest_of network)) (disk.may_leave was) (λ image. ⊎_elim (λ before. before) (λ empty. absurd (clash (disk.content was) bytes same empty.0 not))) begins.run

  -- a journal that was begun before was not changed
  pub unchanged : (was now : D) (network : Network) → BeginsAtMost disk was now network → Untold now → IfSome (disk.content was) (λ bytes. ¬ IsUnbegun bytes) → IsUnchanged disk was now
  unchanged was now network begins untold not = by_content was now network (disk.content was) refl begins untold not

  -- ---- where the disk was only read before

  module _ (was mid : D) (only : OnlyRead disk was mid) where
    pub unchanged_later : (now : D) → IsUnchanged disk mid now → IsUnchanged disk was now
    unchanged_later now run = joined disk was mid now (disk.may_leave was) only.run (weaker disk mid now (disk.may_leave mid) (disk.may_leave was) only.images run)

    pub keeps_later : (now : D) → KeepsDisk disk mid now → KeepsDisk disk was now
    keeps_later now keeps = record {
      stays = Stays-next only.stays keeps.stays;
      opened = keeps.opened ∙ only.opened;
      tells = keeps.tells ∙ ap is_some only.same;
    }

    pub keeps_read : KeepsDisk disk was mid
    keeps_read = record { stays = only.stays; opened = only.opened; tells = ap is_some only.same }

    pub failed_later : (now : D) → HasFailed disk mid now → HasFailed disk was now
    failed_later now failed = record {
      rose = Rose-later (object_frame (disk.frame was)) (object_frame (disk.frame mid)) (object_frame (disk.frame now)) only.stays failed.rose;
      told = failed.told;
    }

    refused_later : (now : D) (network : Network) (fault : StoreFault) → IsRefusedStore disk mid now network fault → IsRefusedStore disk was now network fault
    refused_later now network store.Disk refused = failed_later now refused
    refused_later now network (store.Other kept given) refused =
        (unchanged_later now refused.0, refused.1, subst (λ (content : Option (List ℕ)). IfSome content (λ bytes. IsRecoveredAs network bytes (other kept))) only.same refused.2)
    refused_later now network (store.Damaged at) refused =
        (unchanged_later now refused.0, subst (λ (content : Option (List ℕ)). IfSome content (λ bytes. IsRecoveredAs network bytes (damaged at))) only.same refused.1)
    refused_later now network store.Memory refused = unchanged_later now refused

    refused_by : (now : D) (network : Network) (fault : StoreFault) → IsUnchanged disk mid now → IsReadNoFurther disk mid network now fault → IsRefusedStore disk mid now network fault
    refused_by now network store.Disk same stopped = stopped.refused (λ is. absurd (cc is))
    refused_by now network (store.Other kept given) same stopped = stopped.refused (λ is. absurd (cc is))
    refused_by now network (store.Damaged at) same stopped = stopped.refused (λ is. absurd (cc is))
    refused_by now network store.Memory same stopped = same

    states_later : (now : D) (network : Network) (scope : Scope) (stated : Stated) → KeepsCount disk was mid → StatesHistory disk mid now network scope stated → StatesHistory disk was now network scope stated
    states_later now network scope stated count states = record {
      history = states.history;
      sound = states.sound;
      read = subst (λ (content : Option (List ℕ)). IfSome content (IsHistoryOf network states.history)) only.same states.read;
      is = states.is;
      count = states.count ∙ count;
    }

    begins_of : (now : D) (network : Network) (scope : Scope) (result : Result Stated StoreFault) → StatesAll disk mid now network scope result → BeginsAtMost disk mid now network
    begins_of now network scope (Ok stated) all = all.2
    begins_of now network scope (Err fault) stopped = stopped.begins

    kept_of : (now : D) (network : Network) (scope : Scope) (result : Result Stated StoreFault) → StatesAll disk mid now network scope result → KeepsContent disk mid now
    kept_of now network scope (Ok stated) all = all.3
    kept_of now network scope (Err fault) stopped = stopped.kept

    pub ranges_of : (now : D) (network : Network) (scope : Scope) (result : Result Stated StoreFault) → StatesAll disk mid now network scope result → IfOk result (λ stated. All IsInRanges stated.entries.items)
    ranges_of now network scope (Ok stated) all = all.1
    ranges_of now network scope (Err fault) stopped = tt

    module _ (now : D) (network : Network) (scope : Scope) (result : Result Stated StoreFault) (all : StatesAll disk mid now network scope result) where
      pub keeps_begun : KeepsDisk disk was now
      keeps_begun = keeps_later now (begins_of now network scope result all).keeps

      pub unchanged_begun : Untold now → IfSome (disk.content was) (λ bytes. ¬ IsUnbegun bytes) → IsUnchanged disk was now
      unchanged_begun untold not =
          unchanged_later now (unchanged mid now network (begins_of now network scope result all) untold (subst (λ (content : Option (List ℕ)). IfSome content (λ bytes. ¬ IsUnbegun bytes)) (sym only.same) not))

      pub kept_begun : IfSome (disk.content was) (λ bytes. ¬ IsUnbegun bytes) → disk.content now ≡ disk.content was
      kept_begun not = kept_of now network scope result all (subst (λ (content : Option (List ℕ)). IfSome content (λ bytes. ¬ IsUnbegun bytes)) (sym only.same) not) ∙ only.same

    pub reads_begun : (now : D) (network : Network) (scope : Scope) (result : Result Stated StoreFault) → KeepsCount disk was mid → Untold now → IfSome (disk.content was) (λ bytes. ¬ IsUnbegun bytes) → StatesAll disk mid now network scope result
        → ReadsJournal disk was now network scope result
    reads_begun now network scope (Ok stated) count untold not all = states_later now network scope stated count all.0
    reads_begun now network scope (Err fault) count untold not stopped =
        let here = subst (λ (content : Option (List ℕ)). IfSome content (λ bytes. ¬ IsUnbegun bytes)) (sym only.same) not in
        refused_later now network fault (refused_by now network fault (unchanged mid now network stopped.begins untold here) stopped)
