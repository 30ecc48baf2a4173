-- What a store stands for after many passes shared it.
use Rattle.std.specs.Prelude.{◌≡◌, List}
use Rattle.hose_graph.specs.declared.entry.Entry.{Entry}
use Rattle.hose_disk.specs.declared.disk.Disk.{Ghosts}
use Rattle.hose_store.specs.Beginning.{Beginning}
use Rattle.hose_store.specs.steps.Beginning.{StandsFor}
use Rattle.hose_store.specs.steps.Store.{KeptStore}
use Rattle.hose_turn.specs.declared.view.Tried.{Tried}
use Rattle.hose_turn.specs.Known.{Known}
use Rattle.hose_turn.specs.steps.Known.{HasWholeHistory}
use Rattle.hose_shared.specs.Trying.{IsTried}
use Rattle.hose_shared.specs.steps.Keeping.{StandsShared}

-- The store has the whole history, which begins with the first list and with all that the pass has
-- seen, and whose later entries are the pass's own, as is what was tried. Where the first store
-- stood for the first list, since an opening at which its disk had just the images of `was`, it
-- stands for the history: each image at each moment since then stands for a part of it, for such a
-- part and one entry more, which is the next one or was tried there, or is one that the disk had.
pub record HasShared {D : Type 0} (disk : Ghosts D) (Begins : List Entry → KeptStore D → Type 0)
    (pass : Known) (store : KeptStore D) : Type 0 where
  pub history : List Entry
  pub tries : List Tried
  pub whole : HasWholeHistory (StandsShared disk Begins) pass history tries store
  pub stands : (beginning : Beginning) (was : D) → beginning.since ≡ pass.origin.since
      → beginning.network ≡ pass.origin.network
      → ((first : KeptStore D) → Begins pass.origin.since first
      → StandsFor disk (IsTried history tries) (disk.may_leave was) beginning pass.origin.since
      first)
      → StandsFor disk (IsTried history tries) (disk.may_leave was) beginning history store
