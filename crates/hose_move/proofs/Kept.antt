-- What is read of a disk is as before, where a journal was begun there.
use Rattle.std.proofs.Common.{◌≡◌, ◌∙◌, ◌⊎◌, inl, inr, List, ℕ, Option, None, Some, IfSome, false, is_some, refl}
use Rattle.hose_graph.specs.Network.{Network}
use Rattle.hose_graph.specs.declared.entry.Entry.{Entry}
use Rattle.hose_disk.specs.declared.disk.Disk.{Ghosts}
use Rattle.hose_journal.specs.Image.{IsUnbegun}
use Rattle.hose_journal.specs.steps.Reading.{OnlyRead}
use Rattle.hose_store.specs.steps.Replaying.{IsReplaying}
use Rattle.hose_store.specs.declared.replay.Replay.{Replay}
use Rattle.hose_move.specs.steps.Collecting.{KeepsContent}

pub none_of : (content : Option (List ℕ)) → is_some content ≡ false → content ≡ None
none_of None same = refl
none_of (Some bytes) same = absurd (cc same)

-- what is as before, or was begun, is as before where it was begun already
pub kept_or : (was now : Option (List ℕ)) {P : Type 0} → (now ≡ was) ⊎ (IfSome was IsUnbegun × P) → is_some now ≡ is_some was → IfSome was (λ bytes. ¬ IsUnbegun bytes) → now ≡ was
kept_or was now (inl same) tells not = same
kept_or None now (inr begun) tells not = none_of now tells
kept_or (Some bytes) now (inr begun) tells not = absurd (not begun.0)

module _ {D : Type 0} (disk : Ghosts D) (was : D) (network : Network) (replay : Replay D) (entries : List Entry) (replaying : IsReplaying disk was network replay entries) where
  -- a journal of which entries were read
  pub kept_reading : KeepsContent disk was replay.reading.disk
  kept_reading not = replaying.only.same ∙ kept_or (disk.content was) (disk.content replaying.opened) replaying.list replaying.keeps.tells not

  -- and which was read on
  pub kept_then : (now : D) → OnlyRead disk replay.reading.disk now → KeepsContent disk was now
  kept_then now only not = only.same ∙ kept_reading not
