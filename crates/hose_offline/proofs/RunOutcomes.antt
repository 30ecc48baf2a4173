-- What the top call makes of a run.
use Rattle.std.proofs.Common.{◌≡◌, ◌⊎◌, ℕ, ◌<◌, List, Option, None, Some, IsSome, MatchOption, Result, Ok, Err, inl, inr, refl, arith, length}
use Rattle.std.specs.Prelude.{option_map, ⊤}
use Rattle.hose_io.specs.Frame.{Stays}
use Rattle.hose_io.specs.Stream.{Stream, Gives}
use Rattle.hose_io.specs.declared.Failed.{Failed}
use Rattle.hose_io.proofs.Frames.{Rose-before}
use Rattle.hose_words.specs.declared.lines.TheConstants.{INPUT_LIMIT}
use Rattle.hose_words.specs.declared.lines.LineFault.{LineFault}
use Rattle.hose_words.specs.declared.lines.LineFault.TheVariants as line
use Rattle.hose_graph.specs.Network.{Network}
use Rattle.hose_graph.specs.declared.entry.Entry.{Entry}
use Rattle.hose_journal.specs.Image.{Meaning, damaged, other}
use Rattle.hose_store.specs.Recovery.{IsHistoryOf, digest_of}
use Rattle.hose_outside.specs.Ending.{status_of_done}
use Rattle.hose_outside.specs.OnDisk.{IsRefusedOnDisk, JournalIsTold}
use Rattle.hose_offline.specs.OnDisk.{keeping_of}
use Rattle.hose_outside.specs.Parts.{Parts, Tellings}
use Rattle.hose_outside.specs.TopologyTold.{HasNetwork, IsFor, IsRefusedText, IsServable}
use Rattle.hose_offline.specs.Run.{HasRun, IsRun, Keeping}
use Rattle.hose_offline.specs.RunOutcome.{EndsInputRefused, InputStops, IsInterrupted, AnyJournalIs, JournalRefused, NothingFailed, OfText, RunLeaves, keeping}
use Rattle.hose_outside.specs.declared.fault.Fault.{Fault}
use Rattle.hose_outside.specs.declared.notation.Notation.TheVariants.{Lines}
use Rattle.hose_outside.specs.declared.fault.Fault.TheVariants.{Words, Topology, Read, Write, Other, Damaged, Cabinet, Memory, TooLong}
use Rattle.hose_outside.proofs.Outcomes.{clash, no_network_read, no_text, not_long, not_refused, of_read}

-- a journal that has no name is none
pub none_named : {A B : Type 0} (view : A → B) (name : Option A) → option_map view name ≡ None → name ≡ None
none_named view None none = refl
none_named view (Some name) none = absurd (cc none)

-- ---- a command is not refused for its words

pub run_not_1 : {I O C E : Type 0} (tells : Tellings I O C E) (prices : Network → Network → Type 0) (journal : Option (List ℕ)) (before after : Parts I O C) (done : Result ⊤ Fault) → RunLeaves tells prices journal before after done → status_of_done done ≡ 1 → ⊥
run_not_1 tells prices journal before after (Ok _) leaves is = omega (arith, is)
run_not_1 tells prices journal before after (Err (Words word)) leaves is = leaves
run_not_1 tells prices journal before after (Err another) leaves is = omega (arith, is)

no_run : {prices : Network → Network → Type 0} {keeping : Keeping} {stops : List ℕ → List ℕ → List ℕ → Type 0} (old new : Option Stream) → IsRefusedText Lines old new → HasRun prices keeping old new stops → ⊥
no_run (Some old) (Some new) refused run = refused run.told (run.text.0, run.text.2)
no_run (Some old) None refused run = refused
no_run None new refused run = refused

of_run : {prices : Network → Network → Type 0} {keeping : Keeping} {stops : List ℕ → List ℕ → List ℕ → Type 0} (old new : Option Stream) (bytes : List ℕ) (Is : Network → Type 0) → Gives old new bytes
    → (run : HasRun prices keeping old new stops) → IsFor Lines prices old Is → Is run.network
of_run (Some old) (Some new) bytes Is gives run all = all run.network (run.told, (run.text.0, run.text.2), run.priced)
of_run (Some old) None bytes Is gives run all = absurd gives
of_run None new bytes Is gives run all = absurd all

-- The run left the outside so before its last line, and after it with this output.
module _ {I O C E : Type 0} (tells : Tellings I O C E) (prices : Network → Network → Type 0) (journal : Option (List ℕ)) (before left : Parts I O C) (output : O) where
  abbrev after : Parts I O C
  after = record left { output = output }

  -- what the input told
  abbrev old : Option Stream
  old = tells.source.content before.input

  abbrev new : Option Stream
  new = tells.source.content left.input

  stops_refused : (fault : LineFault) → IsRefusedText Lines old new → IsInterrupted tells prices journal before left fault → InputStops tells before after fault
  stops_refused fault refused (inl stops) = stops.0
  stops_refused fault refused (inr run) = absurd (no_run old new refused run.1.run)

  abbrev Leaves : {T : Type 0} → Result T Fault → Type 0
  Leaves done = RunLeaves tells prices journal before left done

  nothing_read : (Is : Network → Type 0) → IsRefusedText Lines old new → HasNetwork Lines prices old new Is → ⊥
  nothing_read Is refused read = no_network_read Lines prices _ _ read.network refused read.text

  pub refused_ends : (done : Result ⊤ Fault) → Leaves done → IsRefusedText Lines old new → EndsInputRefused tells before after (status_of_done done)
  refused_ends (Ok _) leaves refused = absurd (no_run old new refused leaves.0.run)
  refused_ends (Err (Topology refusal)) leaves refused = inl refl
  refused_ends (Err Memory) (inl none, held, same) refused = inr (inl (refl, none.0))
  refused_ends (Err Memory) (inr (inl text), held, same) refused = absurd (no_text Lines _ _ refused text.0)
  refused_ends (Err Memory) (inr (inr read), held, same) refused = absurd (nothing_read _ refused read)
  refused_ends (Err Write) leaves refused = absurd (no_run old new refused leaves.0.1.run)
  refused_ends (Err (Other kept given)) leaves refused = absurd (nothing_read _ refused leaves.0)
  refused_ends (Err (Damaged at)) leaves refused = absurd (nothing_read _ refused leaves.0)
  refused_ends (Err Cabinet) (inl read, rose) refused = absurd (nothing_read _ refused read.0)
  refused_ends (Err Cabinet) (inr run, rose) refused = absurd (no_run old new refused run.2.run)
  refused_ends (Err Read) leaves refused = inr (inr (inl (refl, stops_refused line.Read refused leaves.0)))
  refused_ends (Err TooLong) leaves refused = inr (inr (inr (refl, stops_refused line.TooLong refused leaves.0)))
  refused_ends (Err another) leaves refused = absurd leaves

  module _ (stays : Stays (tells.sink.frame left.output) (tells.sink.frame output)) (bytes : List ℕ) (gives : Gives old new bytes) (servable : IsServable Lines old) (held : NothingFailed tells before after) where
    abbrev Told : (Network → List ℕ → Type 0) → Type 0
    Told Is = AnyJournalIs tells prices journal before after Is

    -- a refused journal is none of the network's
    other_journal : (Given : Network → Type 0) (meaning : Meaning Entry) → JournalRefused tells prices journal before left Given meaning → Told (λ network image. (history : List Entry) × IsHistoryOf network history image) → ⊥
    other_journal Given meaning read told = at journal read.is (of_read Lines prices old new bytes read.network _ gives read.text told)
      where
        at : (one : Option (List ℕ)) → MatchOption one ⊥ (λ name. Given read.network × IsRefusedOnDisk tells.cabinet tells.disk before.cabinet left.cabinet read.network name meaning)
            → JournalIsTold tells.cabinet tells.disk before.cabinet one (λ image. (history : List Entry) × IsHistoryOf read.network history image) → ⊥
        at None refused is = refused
        at (Some name) refused is = clash tells.cabinet tells.disk before.cabinet left.cabinet name _ _ (λ image none history. none history.0 history.1) refused.1.none is

    pub completes : (done : Result ⊤ Fault) → Leaves done → (done ≡ Err TooLong → INPUT_LIMIT < length bytes) → Told (λ network image. (history : List Entry) × IsHistoryOf network history image)
        → (status_of_done done ≡ 0) ⊎ (status_of_done done ≡ 7)
    completes (Ok _) leaves long told = inl refl
    completes (Err (Topology refusal)) leaves long told = absurd (not_refused Lines refusal _ _ bytes gives servable leaves.0)
    completes (Err Read) leaves long told = absurd (held.others leaves.1)
    completes (Err Write) leaves long told = absurd (held.writing (Rose-before _ _ _ leaves.2 stays))
    completes (Err (Other kept given)) leaves long told = absurd (other_journal (λ network. given ≡ digest_of network) (other kept) leaves.0 told)
    completes (Err (Damaged at)) leaves long told = absurd (other_journal (λ network. ⊤) (damaged at) leaves.0 told)
    completes (Err Cabinet) leaves long told = absurd (held.keeping_it leaves.1)
    completes (Err Memory) leaves long told = inr refl
    completes (Err TooLong) leaves long told = absurd (not_long Lines _ _ bytes gives servable (long refl))
    completes (Err another) leaves long told = absurd leaves

    -- no run is over a journal that stands for no history
    no_such_run : (closing : Result ⊤ Failed) → IsSome journal → OfText tells before left (IsRun prices (keeping tells prices journal before left closing))
        → Told (λ network image. (history : List Entry) → ¬ IsHistoryOf network history image) → ⊥
    no_such_run closing some run told = at journal some run.run.begun (of_run old new bytes _ gives run.run told)
      where
        at : (one : Option (List ℕ)) → IsSome one → (keeping_of tells.cabinet tells.disk before.cabinet left.cabinet one closing).IsBegunWith run.run.network run.run.since → JournalIsTold tells.cabinet tells.disk before.cabinet one (λ image. (history : List Entry) → ¬ IsHistoryOf run.run.network history image) → ⊥
        at None is begun told_as = absurd (cc is)
        at (Some name) is begun told_as = clash tells.cabinet tells.disk before.cabinet left.cabinet name _ _ (λ image history none. none run.run.since history) begun told_as

    pub refuses : (done : Result ⊤ Fault) → Leaves done → (done ≡ Err TooLong → INPUT_LIMIT < length bytes) → IsSome journal → Told (λ network image. (history : List Entry) → ¬ IsHistoryOf network history image)
        → (status_of_done done ≡ 5) ⊎ (status_of_done done ≡ 7)
    refuses (Ok _) leaves long some told = absurd (no_such_run (Ok tt) some leaves.0 told)
    refuses (Err (Topology refusal)) leaves long some told = absurd (not_refused Lines refusal _ _ bytes gives servable leaves.0)
    refuses (Err Read) leaves long some told = absurd (held.others leaves.1)
    refuses (Err Write) leaves long some told = absurd (held.writing (Rose-before _ _ _ leaves.2 stays))
    refuses (Err (Other kept given)) leaves long some told = inl refl
    refuses (Err (Damaged at)) leaves long some told = inl refl
    refuses (Err Cabinet) leaves long some told = absurd (held.keeping_it leaves.1)
    refuses (Err Memory) leaves long some told = inr refl
    refuses (Err TooLong) leaves long some told = absurd (not_long Lines _ _ bytes gives servable (long refl))
    refuses (Err another) leaves long some told = absurd leaves
