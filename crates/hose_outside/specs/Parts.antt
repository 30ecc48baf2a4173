-- What is beside a command: what there is to read, what was written, and the files.
use Rattle.hose_io.specs.Frame.{Stays}
use Rattle.hose_io.specs.declared.source.Source.{Ghosts as SourceGhosts}
use Rattle.hose_io.specs.declared.sink.Sink.{Ghosts as SinkGhosts}
use Rattle.hose_disk.specs.Cabinet.{object_of}
use Rattle.hose_disk.specs.declared.cabinet.Cabinet.{Ghosts as CabinetGhosts}
use Rattle.hose_disk.specs.declared.disk.Disk.{Ghosts as DiskGhosts}

-- the parts of what is beside a command
pub record Parts (I O C : Type 0) : Type 0 where
  pub input : I
  pub output : O
  pub cabinet : C

-- what is beside a command, of its parts
abbrev pub parts : {I O C : Type 0} → I → O → C → Parts I O C
parts input output cabinet = record { input = input; output = output; cabinet = cabinet }

-- The parts of what is beside a command that serves connections: those of every command, and what
-- is seen of a door, or doors.
pub record DoorParts (I O C D : Type 0) : Type 0 where
  pub parts : Parts I O C
  pub door : D

-- these, of the parts of every command and of the door
abbrev pub door_parts : {I O C D : Type 0} → Parts I O C → D → DoorParts I O C D
door_parts parts door = record { parts = parts; door = door }

-- what each part tells, and the disks of the files
pub record Tellings (I O C E : Type 0) : Type 1 where
  pub source : SourceGhosts I
  pub sink : SinkGhosts O
  pub cabinet : CabinetGhosts C E
  pub disk : DiskGhosts E

-- what each part of what is beside a command tells, of its parts
abbrev pub tellings : {I O C E : Type 0} → SourceGhosts I → SinkGhosts O → CabinetGhosts C E
    → DiskGhosts E → Tellings I O C E
tellings source sink cabinet disk =
    record { source = source; sink = sink; cabinet = cabinet; disk = disk }

-- each part is the object that it was
pub record AllStay {I O C E : Type 0} (tells : Tellings I O C E) (before after : Parts I O C) :
    Type 0 where
  pub input : Stays (tells.source.frame before.input) (tells.source.frame after.input)
  pub output : Stays (tells.sink.frame before.output) (tells.sink.frame after.output)
  pub cabinet : Stays (object_of (tells.cabinet.frame before.cabinet))
      (object_of (tells.cabinet.frame after.cabinet))
