-- What a run does to the disk of its journal, which a cabinet holds under a name.
use Rattle.std.specs.Prelude.{ℕ, List, Option, Some, None, Result, ⊤}
use Rattle.hose_io.specs.Frame.{Met}
use Rattle.hose_io.specs.declared.Failed.{Failed}
use Rattle.hose_disk.specs.Cabinet.{object_of}
use Rattle.hose_disk.specs.declared.cabinet.Cabinet.{Ghosts as CabinetGhosts}
use Rattle.hose_disk.specs.declared.disk.Disk.{Ghosts as DiskGhosts}
use Rattle.hose_store.specs.Beginning.{HasLeft}
use Rattle.hose_store.specs.Recovery.{IsHistoryOf}
use Rattle.hose_offline.specs.Run.{Keeping, ScriptRun, in_memory}
use Rattle.hose_offline.specs.Talking.{IsAskedBy, TellsDisks}
use Rattle.hose_outside.specs.OnDisk.{HadContent, OfHeld, opening_of}

module _ {C E : Type 0} (cabinet : CabinetGhosts C E) (disk : DiskGhosts E) (name : List ℕ)
    (old new : C) where
  -- Failures of a disk were told no more often than the disk has failed. The cabinet failed where
  -- closing did. What is left of the disk stands for the history, as `HasLeft` says, beside what it
  -- had at its opening. Where an image of the disk has one entry more than a part of the history,
  -- one of the lines asked for it.
  pub record KeptOnDisk (closing : Result ⊤ Failed) (run : ScriptRun) : Type 0 where
    pub told : TellsDisks 0 run.replies (cabinet.frame new).returned
    pub met : Met (object_of (cabinet.frame old)) (object_of (cabinet.frame new)) closing
    pub left : OfHeld cabinet name old new (λ was left. HasLeft disk
        (IsAskedBy run.since run.lines run.replies) (disk.may_leave was)
        (opening_of disk run.network run.since was) run.history left closing)

module _ {C E : Type 0} (cabinet : CabinetGhosts C E) (disk : DiskGhosts E) (old new : C) where
  -- the book on the disk of this name, once closing came to this
  abbrev pub on_disk : List ℕ → Result ⊤ Failed → Keeping
  on_disk name closing = record {
    IsBegunWith = λ network since. HadContent cabinet disk old name (IsHistoryOf network since);
    Keeps = KeptOnDisk cabinet disk name old new closing;
  }

  -- where a run keeps its book: in memory, or in a journal of a name
  abbrev pub keeping_of : Option (List ℕ) → Result ⊤ Failed → Keeping
  keeping_of None closing = in_memory
  keeping_of (Some name) closing = on_disk name closing
