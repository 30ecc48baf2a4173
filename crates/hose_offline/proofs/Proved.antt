-- A certificate: the text of a topology in a cabinet, and what is written.
use Rattle.std.proofs.Common.{◌≡◌, inl, inr, ℕ, List, Result, Ok, Err, refl}
use Rattle.std.specs.Prelude.{⊤}
use Rattle.hose_graph.specs.Network.{Network}
use Rattle.hose_outside.specs.Reading.{ReadsTopology}
use Rattle.hose_outside.specs.Ending.{IsLastLine, IsOut, status_of_done}
use Rattle.hose_outside.specs.Fault.{last_line, status_of}
use Rattle.hose_outside.specs.Parts.{Parts, Tellings}
use Rattle.hose_offline.specs.ProveOutcome.{EndsFrom, ProveOutcome, ProvesWords}
use Rattle.hose_outside.specs.declared.fault.Fault.{Fault}

module _ {I O C E : Type 0} (tells : Tellings I O C E) (prices : Network → Network → Type 0) (topology : List ℕ) (ends : EndsFrom) (before : Parts I O C) (place : C) where
  -- no topology was read
  pub proved_none : (output : O) (why : Fault) (status : ℕ) → ReadsTopology tells.cabinet before.cabinet place prices topology (Err why) → IsOut tells.sink before.output output (last_line why) → status ≡ status_of why
      → ProveOutcome tells prices topology ends before (record before { output = output; cabinet = place }) status
  proved_none output why status reads last is = record {
    proves = record { left = before.output; done = Err why; leaves = inr (why, refl, reads, refl, refl); last_line = last; is_status = is };
    input = refl;
  }

  -- one was read, and then the words were taken as endpoints of its network
  pub proved_then : (left output : O) (network : Network) (result : Result ⊤ Fault) (status : ℕ) → ReadsTopology tells.cabinet before.cabinet place prices topology (Ok network) → ProvesWords tells.sink ends network before.output left result
      → IsLastLine tells.sink left output result → status ≡ status_of_done result → ProveOutcome tells prices topology ends before (record before { output = output; cabinet = place }) status
  proved_then left output network result status reads proves last is = record {
    proves = record { left = left; done = result; leaves = inl (network, reads, proves); last_line = last; is_status = is };
    input = refl;
  }
