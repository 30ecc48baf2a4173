-- What is beside a command: what there is to read, what was written, and the files: steps of
-- proofs.
use Rattle.std.specs.Prelude.{◌≡◌, ◌≢◌, ℕ, None}
use Rattle.hose_outside.specs.declared.outside.Outside.{Outside}
use Rattle.hose_outside.specs.declared.why.Why.{Why}
use Rattle.hose_outside.specs.Parts.{AllStay, Parts, parts, Tellings}
use Rattle.hose_outside.specs.Why.{IsTold, why_status}

-- the parts that are lent to a command
abbrev pub held : {I O C E : Type 0} → Outside I O C E → Parts I O C
held outside = parts outside.input.now outside.output.now outside.cabinet.now

-- Each part is the object that it was, and lent as it was.
pub record KeepsAll {I O C E : Type 0} (tells : Tellings I O C E) (before after : Outside I O C E) :
    Type 0 where
  pub stay : AllStay tells (held before) (held after)
  pub input : after.input.ghost_name ≡ before.input.ghost_name
  pub output : after.output.ghost_name ≡ before.output.ghost_name
  pub cabinet : after.cabinet.ghost_name ≡ before.cabinet.ghost_name

-- What the use of a journal leaves of what is beside it: no disk is out of the cabinet, and each
-- part is the object that it was.
pub record LeavesBeside {I O C E : Type 0} (tells : Tellings I O C E)
    (before after : Outside I O C E) : Type 0 where
  pub back : (tells.cabinet.frame after.cabinet.now).out ≡ None
  pub keeps : KeepsAll tells before after

-- What a command comes to: its outcome, by what is beside it before and after and by its status,
-- which is not that of wrong words, the line that tells why it ended, and which file failed where
-- that is why, if it names several. The disk that is out of the cabinet is the one that was, and
-- each part is the object that it was.
pub record ComesTo {I O C E : Type 0} (tells : Tellings I O C E)
    (Outcome : Tellings I O C E → Parts I O C → Parts I O C → ℕ → Type 0)
    (Fails : Tellings I O C E → Parts I O C → Parts I O C → Why → Type 0)
    (before after : Outside I O C E) (why : Why) : Type 0 where
  pub outcome : Outcome tells (held before) (held after) (why_status why)
  pub told : IsTold tells.sink after.output.now why
  pub fails : Fails tells (held before) (held after) why
  pub not_words : why_status why ≢ 1
  pub out : (tells.cabinet.frame after.cabinet.now).out
      ≡ (tells.cabinet.frame before.cabinet.now).out
  pub keeps : KeepsAll tells before after
