-- What stands after `run`, by what ended it.
use Rattle.std.specs.Prelude.{◌≡◌, ◌⊎◌, ℕ, List, Option, IsSome, None, Some, MatchOption, Result, Ok, Err, ⊤}
use Rattle.hose_io.specs.Frame.{Rose}
use Rattle.hose_io.specs.Stream.{Stream}
use Rattle.hose_io.specs.declared.Failed.{Failed}
use Rattle.hose_words.specs.Reading.{WhereTold}
use Rattle.hose_words.specs.declared.lines.LineFault.{LineFault}
use Rattle.hose_words.specs.declared.lines.LineFault.TheVariants as line
use Rattle.hose_graph.specs.Network.{Network}
use Rattle.hose_graph.specs.declared.entry.Entry.{Entry}
use Rattle.hose_journal.specs.Image.{Meaning, damaged, other}
use Rattle.hose_store.specs.Recovery.{IsHistoryOf, digest_of}
use Rattle.hose_talk.specs.Talk.{IsCutNear}
use Rattle.hose_topo.specs.Reading.{StopsInTopology}
use Rattle.hose_outside.specs.Ending.{EndsAfter, NoneFailed, OutputWorked, TakesWithinLimit}
use Rattle.hose_outside.specs.OnDisk.{CabinetFailed, IsRefusedOnDisk, JournalIsTold, IsUnopened, OthersStay}
use Rattle.hose_offline.specs.OnDisk.{keeping_of}
use Rattle.hose_outside.specs.Parts.{Parts, Tellings}
use Rattle.hose_outside.specs.TopologyTold.{HasNetwork, HasText, IsFor, IsRefusedText, IsServable, TellsNoNetwork}
use Rattle.hose_offline.specs.Run.{IsCutOff, IsRun, IsRunUpTo, Keeping}
use Rattle.hose_outside.specs.declared.fault.Fault.{Fault}
use Rattle.hose_outside.specs.declared.notation.Notation.TheVariants.{Lines}
use Rattle.hose_outside.specs.declared.fault.Fault.TheVariants.{Topology, Read, Write, Other, Damaged, Cabinet, Memory, TooLong}

module _ {I O C E : Type 0} (tells : Tellings I O C E) (before after : Parts I O C) where
  -- this holds of what the input told
  abbrev pub OfInput : (Option Stream → Option Stream → Type 0) → Type 0
  OfInput Is = Is (tells.source.content before.input) (tells.source.content after.input)

  -- this holds of what the input told before and after, and of what the output told
  abbrev pub OfText : (Option Stream → Option Stream → Option (List ℕ) → Option (List ℕ) → Type 0)
      → Type 0
  OfText Is = Is (tells.source.content before.input) (tells.source.content after.input)
      (tells.sink.content before.output) (tells.sink.content after.output)

  -- the input did not fail
  abbrev pub InputWorked : Type 0
  InputWorked = tells.source.frame after.input ≡ tells.source.frame before.input

  -- a call of the input failed
  abbrev pub InputFailed : Type 0
  InputFailed = Rose (tells.source.frame before.input) (tells.source.frame after.input)

  -- the input stopped at a fault before its topology ended or was refused
  abbrev pub InputStops : LineFault → Type 0
  InputStops fault = OfInput (λ old new. WhereTold old new (StopsInTopology fault))

  -- A topology that is refused gives 2, but for want of memory and an input that stopped inside it.
  abbrev pub EndsInputRefused : ℕ → Type 0
  EndsInputRefused status = (status ≡ 2) ⊎ (((status ≡ 7) × (after.input ≡ before.input))
      ⊎ (((status ≡ 3) × InputStops line.Read) ⊎ ((status ≡ 8) × InputStops line.TooLong)))

  -- no call failed
  abbrev pub NothingFailed : Type 0
  NothingFailed = NoneFailed tells before after (¬ InputFailed)

module _ {I O C E : Type 0} (tells : Tellings I O C E) (prices : Network → Network → Type 0)
    (journal : Option (List ℕ)) (before after : Parts I O C) where
  -- where the book was, once closing the journal came to this
  abbrev pub keeping : Result ⊤ Failed → Keeping
  keeping = keeping_of tells.cabinet tells.disk before.cabinet after.cabinet journal

  -- The input stopped inside the topology, and nothing is out; or after it, and the output has the
  -- replies of a script to all whole lines that were taken and to no part of one.
  abbrev pub IsInterrupted : LineFault → Type 0
  IsInterrupted fault = (InputStops tells before after fault × (after.output ≡ before.output)
      × (after.cabinet ≡ before.cabinet))
      ⊎ ((closing : Result ⊤ Failed)
      × OfText tells before after (IsRunUpTo prices (keeping closing) fault)
      × OutputWorked tells.sink before.output after.output)

  -- the text of a network was read, and the journal, which there is, is so for it
  abbrev pub JournalRead : (Network → List ℕ → Type 0) → Type 0
  JournalRead Is = OfInput tells before after (λ old new.
      HasNetwork Lines prices old new (λ network. MatchOption journal ⊥ (Is network)))

  -- nothing was entered in the journal
  abbrev pub JournalUnopened : Type 0
  JournalUnopened =
      JournalRead (IsUnopened tells.cabinet tells.disk before.cabinet after.cabinet)

  -- the journal means this, and so it is none of the network, of which this holds
  abbrev pub JournalRefused : (Network → Type 0) → Meaning Entry → Type 0
  JournalRefused Given meaning = JournalRead (λ network name. Given network
      × IsRefusedOnDisk tells.cabinet tells.disk before.cabinet after.cabinet network name meaning)

  -- there was no memory: nothing was taken, or the text of a network was read, and the costs of the
  -- network may have been made
  abbrev pub IsStarved : Type 0
  IsStarved = ((after.input ≡ before.input) × (after.output ≡ before.output)
      × (after.cabinet ≡ before.cabinet))
      ⊎ ((OfInput tells before after (HasText Lines) × (after.cabinet ≡ before.cabinet))
      ⊎ JournalUnopened)

  -- What a run leaves, before the last line that tells its fault.
  abbrev pub RunLeaves : {T : Type 0} → Result T Fault → Type 0
  RunLeaves (Ok _) = OfText tells before after (IsRun prices (keeping (Ok tt)))
      × InputWorked tells before after × OutputWorked tells.sink before.output after.output
  RunLeaves (Err (Topology refusal)) = OfInput tells before after (TellsNoNetwork Lines refusal)
      × InputWorked tells before after × (after.output ≡ before.output)
      × (after.cabinet ≡ before.cabinet)
  RunLeaves (Err Read) = IsInterrupted line.Read × InputFailed tells before after
  RunLeaves (Err Write) = ((closing : Result ⊤ Failed)
      × OfText tells before after (IsCutOff prices (keeping closing)
      (IsCutNear tells.source after.input)))
      × InputWorked tells before after
      × Rose (tells.sink.frame before.output) (tells.sink.frame after.output)
  RunLeaves (Err (Other kept given)) =
      JournalRefused (λ network. given ≡ digest_of network) (other kept)
      × InputWorked tells before after × (after.output ≡ before.output)
  RunLeaves (Err (Damaged at)) = JournalRefused (λ _. ⊤) (damaged at)
      × InputWorked tells before after × (after.output ≡ before.output)
  RunLeaves (Err Cabinet) = ((JournalUnopened
      × InputWorked tells before after × (after.output ≡ before.output))
      ⊎ (IsSome journal × (failed : Failed)
      × OfText tells before after (IsRun prices (keeping (Err failed)))
      × InputWorked tells before after × OutputWorked tells.sink before.output after.output))
      × CabinetFailed tells.cabinet before.cabinet after.cabinet
  RunLeaves (Err Memory) =
      IsStarved × InputWorked tells before after × (after.output ≡ before.output)
  RunLeaves (Err TooLong) = IsInterrupted line.TooLong × InputWorked tells before after
  RunLeaves (Err _) = ⊥

  -- the journal, if there is one, is told, and is so for each network with whose text the input
  -- begins
  abbrev pub AnyJournalIs : (Network → List ℕ → Type 0) → Type 0
  AnyJournalIs Is = IsFor Lines prices (tells.source.content before.input) (λ network.
      JournalIsTold tells.cabinet tells.disk before.cabinet journal (Is network))

-- What the run left, and then the last line was put, which tells the fault, if there is one.
pub record RunOutcome {I O C E : Type 0} (tells : Tellings I O C E)
    (prices : Network → Network → Type 0) (journal : Option (List ℕ)) (before after : Parts I O C)
    (status : ℕ) : Type 0 where
  pub ends : EndsAfter tells.sink after.output status (λ left.
      RunLeaves tells prices journal before (record after { output = left }))
  pub takes : TakesWithinLimit Lines (tells.source.content before.input)
      (tells.source.content after.input) status
  -- no text is asked for, and without a journal nothing is done to the cabinet
  pub absent :
      (tells.cabinet.frame after.cabinet).absent ≡ (tells.cabinet.frame before.cabinet).absent
  pub in_memory : journal ≡ None → after.cabinet ≡ before.cabinet
  -- with one the disks of all other names are as they were
  pub others : (name : List ℕ) → journal ≡ Some name
      → OthersStay tells.cabinet name before.cabinet after.cabinet
  pub refused :
      IsRefusedText Lines (tells.source.content before.input) (tells.source.content after.input)
      → EndsInputRefused tells before after status
  -- an input that can be served with a journal of its network is served to its end, but for want of
  -- memory and where a call failed
  pub complete : IsServable Lines (tells.source.content before.input)
      → AnyJournalIs tells prices journal before after
      (λ network bytes. (history : List Entry) × IsHistoryOf network history bytes)
      → NothingFailed tells before after → (status ≡ 0) ⊎ (status ≡ 7)
  -- with a journal that stands for no history of its network it is refused
  pub refused_journal : IsServable Lines (tells.source.content before.input) → IsSome journal
      → AnyJournalIs tells prices journal before after
      (λ network bytes. (history : List Entry) → ¬ IsHistoryOf network history bytes)
      → NothingFailed tells before after → (status ≡ 5) ⊎ (status ≡ 7)
