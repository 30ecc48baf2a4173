-- What a text that is read comes to, and a journal that is told.
use Rattle.std.proofs.Common.{◌≡◌, ℕ, ◌<◌, ◌≤◌, List, Option, None, Some, IfSome, Result, Ok, Err, refl, ap, subst, arith, length, length-append}
use Rattle.hose_io.specs.Stream.{Stream, Gives}
use Rattle.hose_words.specs.Reading.{WhereTold}
use Rattle.hose_graph.specs.Network.{Network}
use Rattle.hose_disk.specs.declared.cabinet.Cabinet.{Ghosts as CabinetGhosts}
use Rattle.hose_disk.specs.declared.disk.Disk.{Ghosts as DiskGhosts}
use Rattle.hose_outside.specs.Ending.{status_of_done}
use Rattle.hose_outside.specs.OnDisk.{HadContent, JournalIsTold}
use Rattle.hose_outside.specs.TopologyTold.{HasText, IsFor, IsRefusedText, IsServable, TellsNoNetwork, TellsPriced, limit_of}
use Rattle.hose_outside.specs.declared.fault.Fault.{Fault}
use Rattle.hose_outside.specs.declared.notation.Notation.{Notation}
use Rattle.hose_outside.specs.declared.notation.Refusal.{Refusal}
use Rattle.hose_outside.specs.declared.fault.Fault.TheVariants.{Words, TooLong}
use Rattle.hose_outside.specs.Reading.{IsTextFault, ReadsTopology}
use Rattle.hose_outside.specs.Fault.{status_of}

-- the status of an input that is too long
pub too_long_at_8 : {T : Type 0} (done : Result T Fault) → status_of_done done ≡ 8 → done ≡ Err TooLong
too_long_at_8 (Ok _) is = absurd (omega (arith, is))
too_long_at_8 (Err TooLong) is = refl
too_long_at_8 (Err another) is = absurd (omega (arith, is))

-- ---- an input that can be served

-- its topology is not refused
pub not_refused : (written : Notation) (refusal : Refusal) (old new : Option Stream) (bytes : List ℕ) → Gives old new bytes → IsServable written old → TellsNoNetwork written refusal old new → ⊥
not_refused written refusal (Some old) (Some new) bytes gives servable told = told.1 servable.0 servable.1
not_refused written refusal (Some old) None bytes gives servable told = gives
not_refused written refusal None new bytes gives servable told = servable

-- it is not too long
pub not_long : (written : Notation) (old new : Option Stream) (bytes : List ℕ) → Gives old new bytes → IsServable written old → limit_of written < length bytes → ⊥
not_long written (Some old) (Some new) bytes gives servable long =
    let most : length old.left ≤ limit_of written = servable.2 in
    omega (arith, most, long, ap length gives.left, length-append bytes new.left)
not_long written (Some old) None bytes gives servable long = gives
not_long written None new bytes gives servable long = servable

-- ---- an input whose topology is refused

pub no_text : (written : Notation) (old new : Option Stream) → IsRefusedText written old new → HasText written old new → ⊥
no_text written (Some old) (Some new) refused text = refused text.0 text.1
no_text written (Some old) None refused text = refused
no_text written None new refused text = refused

pub no_network_read : (written : Notation) (prices : Network → Network → Type 0) (old new : Option Stream) (network : Network) → IsRefusedText written old new → WhereTold old new (λ text _. TellsPriced written prices text network) → ⊥
no_network_read written prices (Some old) (Some new) network refused text = refused text.0 text.1
no_network_read written prices (Some old) None network refused text = refused
no_network_read written prices None new network refused text = refused

-- ---- a journal of a network

-- what holds of each network of an input holds of the one that was read
pub of_read : (written : Notation) (prices : Network → Network → Type 0) (old new : Option Stream) (bytes : List ℕ) (network : Network) (Is : Network → Type 0) → Gives old new bytes → WhereTold old new (λ text _. TellsPriced written prices text network)
    → IsFor written prices old Is → Is network
of_read written prices (Some old) (Some new) bytes network Is gives text all = all network text
of_read written prices (Some old) None bytes network Is gives text all = absurd gives
of_read written prices None new bytes network Is gives text all = absurd all

module _ {C E : Type 0} (cabinet : CabinetGhosts C E) (disk : DiskGhosts E) (old new : C) where
  -- what a journal was read as, and what it was told to be
  pub clash : (name : List ℕ) (P Q : List ℕ → Type 0) → ((bytes : List ℕ) → P bytes → Q bytes → ⊥) → HadContent cabinet disk old name P → JournalIsTold cabinet disk old (Some name) Q → ⊥
  clash name P Q apart held told =
      let found = held told.0 in
      let same : found.0 ≡ told.1 = cc (found.1, told.2) in
      let is = subst (λ (disk_was : E). IfSome (disk.content disk_was) P) same found.2 in
      let bytes = subst (λ (content : Option (List ℕ)). IfSome content P) told.4 is in
      apart told.3 bytes told.5

-- ---- a text that is not read is no wrong word

module _ {C E : Type 0} (cabinet : CabinetGhosts C E) (old new : C) where
  text_not_1 : (written : Notation) (text left : Option Stream) (why : Fault) → IsTextFault cabinet old new written text left why → status_of why ≡ 1 → ⊥
  text_not_1 written text left (Words word) is one = is
  text_not_1 written text left another is one = omega (arith, one)

  pub topology_not_1 : (prices : Network → Network → Type 0) (name : List ℕ) (why : Fault) → ReadsTopology cabinet old new prices name (Err why) → status_of why ≡ 1 → ⊥
  topology_not_1 prices name why reads one = text_not_1 _ _ reads.left why reads.text one
