-- What a run comes to, by what it left before its last line.
use Rattle.std.proofs.Common.{◌≡◌, ◌+◌, ◌<◌, ◌≤◌, ◌↔◌, ℕ, List, MutBor, None, Option, Some, Result, Err, ap, arith, length, subst}
use Rattle.std.specs.Prelude.{⊤}
use Rattle.hose_io.specs.Frame.{Stays}
use Rattle.hose_io.specs.Stream.{Gives}
use Rattle.hose_io.specs.steps.Borrowed.{borrowed}
use Rattle.hose_io.specs.declared.source.Source.{Ghosts}
use Rattle.hose_graph.specs.Network.{Network}
use Rattle.hose_words.specs.declared.lines.TheConstants.{INPUT_LIMIT}
use Rattle.hose_words.specs.steps.Lines.{Reader}
use Rattle.hose_words.specs.steps.Reading.{ReadsOn}
use Rattle.hose_outside.specs.Ending.{IsLastLine, TakesWithinLimit, status_of_done}
use Rattle.hose_outside.specs.OnDisk.{OthersStay}
use Rattle.hose_outside.specs.Parts.{Parts, Tellings, parts}
use Rattle.hose_offline.specs.RunOutcome.{RunLeaves, RunOutcome}
use Rattle.hose_outside.specs.declared.fault.Fault.{Fault}
use Rattle.hose_outside.specs.declared.fault.Fault.TheVariants.{TooLong}
use Rattle.hose_outside.specs.declared.notation.Notation.TheVariants.{Lines}
use Rattle.hose_offline.proofs.RunOutcomes.{completes, refuses, refused_ends}
use Rattle.hose_outside.proofs.Outcomes.{too_long_at_8}

-- so many bytes were taken of an input, whose reader gave up exactly where they are too many
abbrev pub Takes : {T : Type 0} → Ghosts T → T → T → Result ⊤ Fault → Type 0
Takes source old new done = (bytes : List ℕ) × Gives (source.content old) (source.content new) bytes
    × (length bytes ≤ INPUT_LIMIT + 1) × ((done ≡ Err TooLong) ↔ (INPUT_LIMIT < length bytes))

-- what a reader took of the borrow of an input was taken of the input
pub takes_behind : {T : Type 0} (source : Ghosts T) (old new : Reader (MutBor T)) (first : T) (done : Result ⊤ Fault) → old.source.now ≡ first → old.taken ≡ 0 → ReadsOn (borrowed source) old new → new.taken ≤ INPUT_LIMIT + 1 → (done ≡ Err TooLong) ↔ (INPUT_LIMIT < new.taken)
    → Takes source first new.source.now done
takes_behind {T} source old new first done began none reads most long =
    let took = reads.takes in
    let count : new.taken ≡ length took.0 = omega (arith, took.2, none) in (
      took.0,
      subst (λ (was : T). Gives (source.content was) (source.content new.source.now) took.0) began took.1,
      omega (arith, count, most),
      subst (λ (taken : ℕ). (done ≡ Err TooLong) ↔ (INPUT_LIMIT < taken)) count long,
    )

module _ {I O C E : Type 0} (tells : Tellings I O C E) (prices : Network → Network → Type 0) (journal : Option (List ℕ)) (before : Parts I O C) (now : I) (mid : O) (place : C) (done : Result ⊤ Fault) (leaves : RunLeaves tells prices journal before (parts now mid place) done) where
  pub run_comes : {input : I} (output : O) (status : ℕ) → now ≡ input → Takes tells.source before.input now done → (tells.cabinet.frame place).absent ≡ (tells.cabinet.frame before.cabinet).absent → (journal ≡ None → place ≡ before.cabinet) → ((name : List ℕ) → journal ≡ Some name → OthersStay tells.cabinet name before.cabinet place)
      → IsLastLine tells.sink mid output done → Stays (tells.sink.frame mid) (tells.sink.frame output) → status ≡ status_of_done done → RunOutcome tells prices journal before (parts input output place) status
  run_comes {input} output status is takes absent none others last stays ends =
      subst (λ (now : I). RunOutcome tells prices journal before (parts now output place) status) is (record {
        ends = record { left = mid; done = done; leaves = leaves; last_line = last; is_status = ends };
        takes = rw ends within;
        absent = absent;
        others = others;
        in_memory = none;
        refused = λ refused. rw ends (refused_ends tells prices journal before left output done leaves refused);
        complete = λ servable told held. rw ends (completes tells prices journal before left output stays takes.0 takes.1 servable held done leaves takes.3.0 told);
        refused_journal = λ servable some told held. rw ends (refuses tells prices journal before left output stays takes.0 takes.1 servable held done leaves takes.3.0 some told);
      })
    where
      left : Parts I O C
      left = parts now mid place

      within : TakesWithinLimit Lines (tells.source.content before.input) (tells.source.content now) (status_of_done done)
      within = (takes.0, takes.1, takes.2, ((λ is. takes.3.0 (too_long_at_8 done is)), (λ long. ap status_of_done (takes.3.1 long))))
