-- A text of a cabinet that is read as a source: steps of proofs.
use Rattle.std.specs.Prelude.{◌≡◌, ℕ, List, [], ◌∷◌, IsTrue, Option}
use Rattle.std.specs.Borrow.{MutBor}
use Rattle.hose_io.specs.Frame.{Frame}
use Rattle.hose_io.specs.Stream.{Stream}
use Rattle.hose_io.specs.declared.source.Source.{Ghosts as SourceGhosts}
use Rattle.hose_disk.specs.declared.cabinet.Cabinet.{Ghosts}
use Rattle.hose_outside.specs.CabinetText.{OnlyTextsRead, text_stream}

-- a text that is read: its cabinet, its name, and how far it was read
pub record TextState (C : Type 0) : Type 0 where
  pub cabinet : MutBor C
  pub name : List ℕ
  pub from : ℕ

module _ {C E : Type 0} (cabinet : Ghosts C E) where
  -- ---- the source

  -- the frame of a text that is read, as a source: the count of faults is the cabinet's
  abbrev pub reading_frame : TextState C → Frame
  reading_frame text = record {
    faults = (cabinet.frame text.cabinet.now).faults;
    number = 0;
    loan = text.cabinet.ghost_name ∷ [];
  }

  -- the bytes of a text that is read, as far as they are told
  abbrev pub text_left : TextState C → Option Stream
  text_left text = text_stream cabinet text.cabinet.now text.name text.from

  -- What a call does to the cabinet behind it: texts were asked for, of which none was absent.
  pub record HasAsked (was now : TextState C) : Type 0 where
    pub name : now.name ≡ was.name
    pub only_texts : OnlyTextsRead cabinet was.cabinet.now now.cabinet.now
    pub absent : IsTrue (cabinet.frame was.cabinet.now).tells
        → (cabinet.frame now.cabinet.now).absent ≡ (cabinet.frame was.cabinet.now).absent

  -- a text as a source
  abbrev pub text_source : SourceGhosts (TextState C)
  text_source = record { frame = reading_frame; content = text_left; went = HasAsked }
