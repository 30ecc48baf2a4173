-- What reading the text of a topology comes to, and what a command names.
use Rattle.std.specs.Prelude.{◌≡◌, ◌⊎◌, ◌↔◌, ℕ, ◌+◌, ◌<◌, ◌≤◌, List, Option, None, IsSome, IsTrue, Result, Ok, Err, length, ⊤}
use Rattle.hose_io.specs.Stream.{Stream, Gives}
use Rattle.hose_words.specs.Reading.{WhereTold}
use Rattle.hose_words.specs.declared.lines.LineFault.TheVariants as line
use Rattle.hose_graph.specs.Network.{IsNetwork, Network}
use Rattle.hose_disk.specs.declared.cabinet.Cabinet.{Ghosts as CabinetGhosts}
use Rattle.hose_topo.specs.Reading.{StopsInTopology}
use Rattle.hose_outside.specs.CabinetText.{OnlyTextsRead, whole_text}
use Rattle.hose_outside.specs.OnDisk.{CabinetFailed, CabinetWorked}
use Rattle.hose_outside.specs.Parts.{Parts, Tellings}
use Rattle.hose_outside.specs.TopologyTold.{HasNetwork, HasText, IsServable, TellsNoNetwork, TellsPriced, limit_of, notation_of}
use Rattle.hose_outside.specs.Unopened.{OpensNoJournal}
use Rattle.hose_outside.specs.declared.fault.Fault.{Fault}
use Rattle.hose_outside.specs.declared.notation.Notation.{Notation}
use Rattle.hose_outside.specs.declared.notation.Notation.TheVariants as notation
use Rattle.hose_outside.specs.declared.fault.Fault.TheVariants as fault

-- ---- the topology

-- No memory was wanted after the first byte of a text that is read in lines; JSON is read as a
-- whole first.
abbrev pub IsStarvedAt : Notation → Option Stream → Option Stream → Type 0
IsStarvedAt notation.Lines text left = left ≡ text
IsStarvedAt notation.Json text left = ⊤

-- where a text in lines was too long, it was neither refused nor ended before
abbrev pub IsLongAt : Notation → Option Stream → Option Stream → Type 0
IsLongAt notation.Lines text left = WhereTold text left (StopsInTopology line.TooLong)
IsLongAt notation.Json text left = ⊤

module _ {C E : Type 0} (cabinet : CabinetGhosts C E) (old new : C) where
  module _ (written : Notation) (text left : Option Stream) where
    -- Why no topology was read of a text, of which this is left. There may have been no memory for
    -- the costs of one that was read.
    abbrev pub IsTextFault : Fault → Type 0
    IsTextFault (fault.Topology refusal) =
        TellsNoNetwork written refusal text left × CabinetWorked cabinet old new
    IsTextFault fault.TooLong = IsLongAt written text left × CabinetWorked cabinet old new
    IsTextFault fault.Text = CabinetFailed cabinet old new
    IsTextFault fault.Memory = (IsStarvedAt written text left ⊎ HasText written text left)
        × CabinetWorked cabinet old new
    IsTextFault _ = ⊥

  -- what a text came to: it tells a network, of which prices make this one, or none was read
  abbrev pub TextComesTo : Notation → (Network → Network → Type 0) → Option Stream → Option Stream
      → Result Network Fault → Type 0
  TextComesTo written prices text left (Ok network) =
      IsNetwork network × CabinetWorked cabinet old new
      × WhereTold text left (λ bytes _. TellsPriced written prices bytes network)
  TextComesTo written prices text left (Err why) = IsTextFault written text left why

  -- The topology of a text was read, or none. These bytes of the text were taken, and this is left.
  -- Nothing but texts was asked for. A text that is not there is a failure; one that is there does
  -- not count as absent.
  pub record ReadsText (written : Notation) (prices : Network → Network → Type 0) (name : List ℕ)
      (result : Result Network Fault) : Type 0 where
    pub taken : List ℕ
    pub left : Option Stream
    pub gives : Gives (whole_text cabinet old name) left taken
    pub limit : length taken ≤ limit_of written + 1
    -- more than the limit was taken exactly where that is told
    pub too_long : (result ≡ Err fault.TooLong) ↔ (limit_of written < length taken)
    pub text : TextComesTo written prices (whole_text cabinet old name) left result
    pub only_texts : OnlyTextsRead cabinet old new
    pub absent : IsTrue (cabinet.frame old).tells → IsSome (cabinet.text old name)
        → (cabinet.frame new).absent ≡ (cabinet.frame old).absent
    pub not_there : IsTrue (cabinet.frame old).tells → cabinet.text old name ≡ None
        → result ≡ Err fault.Text

  -- the topology was read of a text that is written as its name says
  abbrev pub ReadsTopology : (Network → Network → Type 0) → List ℕ → Result Network Fault → Type 0
  ReadsTopology prices name = ReadsText (notation_of name) prices name

-- ---- what is named

-- What a command names, the text of a topology and a journal of its network, and the prices of
-- networks.
pub record PricedNames : Type 1 where
  pub prices : Network → Network → Type 0
  pub topology : List ℕ
  pub journal : List ℕ

-- what a command names, of its parts: the prices, the topology and the journal
abbrev pub priced_names : (Network → Network → Type 0) → List ℕ → List ℕ → PricedNames
priced_names prices topology journal =
    record { prices = prices; topology = topology; journal = journal }

module _ {I O C E : Type 0} (tells : Tellings I O C E) (names : PricedNames)
    (before : Parts I O C) where
  -- the text of the topology
  abbrev pub named_text : Option Stream
  named_text = whole_text tells.cabinet before.cabinet names.topology

  -- the text of the topology is told, tells a network, and is not too long
  abbrev pub IsTextServable : Type 0
  IsTextServable = IsServable (notation_of names.topology) named_text

  -- No topology was read of the text, of which this is left, or no store was opened, and why.
  abbrev pub IsNotRead : Parts I O C → Option Stream → Fault → Type 0
  IsNotRead after left why = (IsTextFault tells.cabinet before.cabinet after.cabinet
      (notation_of names.topology) named_text left why
      × (tells.cabinet.held after.cabinet ≡ tells.cabinet.held before.cabinet))
      ⊎ HasNetwork (notation_of names.topology) names.prices named_text left (λ network.
      OpensNoJournal tells.cabinet tells.disk names.journal before.cabinet after.cabinet network
      (Err why))
