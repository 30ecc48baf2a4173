-- What answering the lines of a run keeps, by what was done.
use Rattle.std.proofs.Common.{◌≡◌, ◌∙◌, ◌↔◌, ℕ, ◌+◌, ◌<◌, ◌≤◌, List, Option, None, Some, IfSome, Result, Ok, Err, refl, subst}
use Rattle.std.specs.Prelude.{⊤}
use Rattle.hose_io.specs.Frame.{Stays}
use Rattle.hose_io.specs.declared.Failed.{Failed}
use Rattle.hose_io.proofs.Frames.{Stays-next, Stays-none}
use Rattle.hose_words.specs.declared.lines.TheConstants.{INPUT_LIMIT}
use Rattle.hose_words.specs.steps.Lines.{Reader}
use Rattle.hose_words.specs.steps.Reading.{ReadsOn}
use Rattle.hose_words.proofs.OnReading.{ReadsOn-then}
use Rattle.hose_graph.specs.Network.{Network}
use Rattle.hose_disk.specs.Cabinet.{object_of}
use Rattle.hose_topo.specs.declared.fault.TopoFault.{TopoFault}
use Rattle.hose_topo.specs.declared.fault.TopoFault.TheVariants as topo
use Rattle.hose_store.specs.steps.Store.{KeptStore}
use Rattle.hose_outside.specs.OnDisk.{OthersStay}
use Rattle.hose_outside.specs.Parts.{Tellings, parts}
use Rattle.hose_offline.specs.steps.Answering.{KeepsRun}
use Rattle.hose_outside.specs.steps.Fault.{of_topology}
use Rattle.hose_outside.specs.steps.Journal.{ClosesJournal, IsOpenCall}
use Rattle.hose_outside.specs.declared.fault.Fault.{Fault}
use Rattle.hose_outside.specs.declared.fault.Fault.TheVariants.{Memory, Read, TooLong}

-- ---- where the run ended early

-- a topology that was too long is told so
pub long_topology : (told : Result Network TopoFault) (why : TopoFault) (done : Result ⊤ Fault) (Long : Type 0) → told ≡ Err why → done ≡ Err (of_topology Read why) → (told ≡ Err topo.TooLong) ↔ Long → (done ≡ Err TooLong) ↔ Long
long_topology told topo.TooLong done Long was is long = ((λ _. long.0 was), (λ _. is))
long_topology told why done Long was is long = ((λ same. absurd (cc (is, same))), (λ more. absurd (cc (was, long.1 more))))

-- where a whole topology was read, the lines were not too long for it, and the fault is another one
pub not_long : (told : Result Network TopoFault) (network : Network) (why : Fault) (done : Result ⊤ Fault) (Long : Type 0) → told ≡ Ok network → done ≡ Err why → (why ≡ TooLong → ⊥) → (told ≡ Err topo.TooLong) ↔ Long → (done ≡ Err TooLong) ↔ Long
not_long told network why done Long was is other long = ((λ same. absurd (other (cc (is, same)))), (λ more. absurd (cc (was, long.1 more))))

module _ {S O C E : Type 0} (tells : Tellings S O C E) (start last : Reader S) (output output' : O) (done : Result ⊤ Fault)
    (reads : ReadsOn tells.source start last) (limit : last.taken ≤ INPUT_LIMIT + 1) (long : (done ≡ Err TooLong) ↔ (INPUT_LIMIT < last.taken)) (stays : Stays (tells.sink.frame output) (tells.sink.frame output')) where
  -- nothing was done to the cabinet
  pub kept_beside : (journal : Option (List ℕ)) (place : C) → (tells.cabinet.frame place).out ≡ None → KeepsRun tells journal (parts start output place) (parts last output' place) done
  kept_beside journal place none = record {
    reads_on = reads;
    too_long = long;
    limit = limit;
    others = λ name is other apart. refl;
    absent = refl;
    back = none;
    stay = record { input = reads.stays; output = stays; cabinet = Stays-none (object_of (tells.cabinet.frame place)) };
  }

  -- the store of the disk that was out was closed, and the disk put back
  pub kept_closed : (old new : C) (store : KeptStore E) (closing : Result ⊤ Failed) → ClosesJournal tells.cabinet tells.disk old new store closing → IfSome (tells.cabinet.frame old).out (λ name. OthersStay tells.cabinet name old new)
      → KeepsRun tells (tells.cabinet.frame old).out (parts start output old) (parts last output' new) done
  kept_closed old new store closing closes others = record {
    reads_on = reads;
    too_long = long;
    limit = limit;
    others = λ name is. subst (λ (out : Option (List ℕ)). IfSome out (λ one. OthersStay tells.cabinet one old new)) is others;
    absent = closes.absent;
    back = closes.keeps.none_out;
    stay = record { input = reads.stays; output = stays; cabinet = closes.keeps.stays };
  }

  -- no store was opened in the cabinet
  pub kept_unopened : {T : Type 0} (name : List ℕ) (old new : C) (opened : Result T Fault) → OthersStay tells.cabinet name old new → IsOpenCall name (tells.cabinet.frame old) (tells.cabinet.frame new) opened → (tells.cabinet.frame new).out ≡ None
      → KeepsRun tells (Some name) (parts start output old) (parts last output' new) done
  kept_unopened name old new opened others call none = record {
    reads_on = reads;
    too_long = long;
    limit = limit;
    others = λ one is other apart. others other (λ same. apart (cc (is, same)));
    absent = call.absent;
    back = none;
    stay = record { input = reads.stays; output = stays; cabinet = call.stays };
  }

-- a journal was opened behind the topology, and then lines were answered
pub kept_then : {S O C E T : Type 0} (tells : Tellings S O C E) (name : List ℕ) (start middle last : Reader S) (output output' : O) (old mid new : C) (opened : Result T Fault) (done : Result ⊤ Fault)
    → ReadsOn tells.source start middle → OthersStay tells.cabinet name old mid → IsOpenCall name (tells.cabinet.frame old) (tells.cabinet.frame mid) opened → (tells.cabinet.frame mid).out ≡ Some name
    → KeepsRun tells (tells.cabinet.frame mid).out (parts middle output mid) (parts last output' new) done → KeepsRun tells (Some name) (parts start output old) (parts last output' new) done
kept_then tells name start middle last output output' old mid new opened done reads others call out kept = record {
  reads_on = ReadsOn-then tells.source start middle last reads kept.reads_on;
  too_long = kept.too_long;
  limit = kept.limit;
  others = λ one is other apart. kept.others one (out ∙ is) other apart ∙ others other (λ same. apart (cc (is, same)));
  absent = kept.absent ∙ call.absent;
  back = kept.back;
  stay = record { input = Stays-next reads.stays kept.stay.input; output = kept.stay.output; cabinet = Stays-next call.stays kept.stay.cabinet };
}

-- a topology was read, and then there was no memory
pub kept_starved : {S O C E : Type 0} (tells : Tellings S O C E) (journal : Option (List ℕ)) (start last : Reader S) (output : O) (place : C) (told : Result Network TopoFault) (network : Network) (done : Result ⊤ Fault) → told ≡ Ok network → done ≡ Err Memory
    → ReadsOn tells.source start last → last.taken ≤ INPUT_LIMIT + 1 → (told ≡ Err topo.TooLong) ↔ (INPUT_LIMIT < last.taken) → (tells.cabinet.frame place).out ≡ None → KeepsRun tells journal (parts start output place) (parts last output place) done
kept_starved tells journal start last output place told network done was is reads limit long =
    kept_beside tells start last output output done reads limit (not_long told network Memory done (INPUT_LIMIT < last.taken) was is (λ same. cc same) long) (Stays-none (tells.sink.frame output)) journal place
