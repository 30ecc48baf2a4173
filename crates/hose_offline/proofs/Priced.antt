-- Prices: the text of a topology in a cabinet, and the lines of an input.
use Rattle.std.proofs.Common.{◌≡◌, ◌≢◌, ◌∙◌, inl, inr, ℕ, List, [], Result, Ok, Err, refl, sym, ap, subst, arith}
use Rattle.std.specs.Prelude.{⊤}
use Rattle.hose_io.proofs.Streams.{Gives-nil}
use Rattle.hose_graph.specs.Network.{Network}
use Rattle.hose_outside.specs.Reading.{ReadsTopology}
use Rattle.hose_outside.specs.Ending.{IsLastLine, IsOut, status_of_done}
use Rattle.hose_outside.specs.Fault.{last_line, status_of}
use Rattle.hose_offline.specs.Named.{ReadsThen}
use Rattle.hose_outside.specs.Parts.{Parts, Tellings}
use Rattle.hose_offline.specs.PriceOutcome.{AnswersBySheet, PriceOutcome, PricesInput, Pricing}
use Rattle.hose_outside.specs.TopologyTold.{own_costs}
use Rattle.hose_outside.specs.declared.fault.Fault.{Fault}
use Rattle.hose_outside.specs.declared.fault.Fault.TheVariants as fault
use Rattle.hose_outside.proofs.Outcomes.{topology_not_1}
use Rattle.hose_offline.proofs.TalksTold.{told_no_words}

module _ {I O C E : Type 0} (tells : Tellings I O C E) (pricing : Pricing) where
  -- there was no memory for a sheet or for rows
  pub starved : (before : Parts I O C) (network : Network) → PricesInput tells pricing before before network (Err fault.Memory)
  starved before network = record {
    taken = [];
    gives = Gives-nil (tells.source.content before.input);
    limit = omega arith;
    too_long = ((λ is. absurd (cc is)), λ long. absurd (omega (arith, long)));
    answers = inl (refl, refl, refl);
  }

  module _ (topology : List ℕ) (before : Parts I O C) where
    -- the topology that was named came to this
    abbrev Reads : C → Result Network Fault → Type 0
    Reads place result = ReadsTopology tells.cabinet before.cabinet place own_costs topology result

    -- no topology was read, and so nothing of the input
    pub priced_none : (place : C) (output : O) (why : Fault) (status : ℕ) → Reads place (Err why) → IsOut tells.sink before.output output (last_line why) → status ≡ status_of why
        → PriceOutcome tells pricing topology before (record before { output = output; cabinet = place }) status
    priced_none place output why status reads last is = record {
      left = before.output;
      done = Err why;
      leaves = inr (why, refl, reads, refl, refl);
      last_line = last;
      is_status = is;
    }

    -- one was read, and then the input was answered, or not, and the cabinet left alone
    pub priced_then : (place : C) (after : Parts I O C) (output : O) (network : Network) (result : Result ⊤ Fault) (status : ℕ) → after.cabinet ≡ place → Reads place (Ok network) → PricesInput tells pricing (record before { cabinet = place }) after network result
        → IsLastLine tells.sink after.output output result → status ≡ status_of_done result → PriceOutcome tells pricing topology before (record after { output = output }) status
    priced_then place after output network result status alone reads answered last is = record {
      left = after.output;
      done = result;
      leaves = inl (
        network,
        subst (λ (place : C). Reads place (Ok network)) (sym alone) reads,
        record { taken = answered.taken; gives = answered.gives; limit = answered.limit; too_long = answered.too_long; answers = answered.answers },
      );
      last_line = last;
      is_status = is;
    }

    -- no answers end with wrong words
    words : (after : Parts I O C) (word : ℕ) (network : Network) → AnswersBySheet tells pricing before after network (Err (fault.Words word)) → ⊥
    words after word network (inl starved) = cc starved.0
    words after word network (inr (sheet, is, ended, same, answers)) = told_no_words ended word same

    -- wrong words are judged elsewhere
    pub price_not_1 : (after : Parts I O C) (status : ℕ) → PriceOutcome tells pricing topology before after status → status ≢ 1
    price_not_1 after status outcome one = by outcome.done (sym outcome.is_status ∙ one) outcome.leaves
      where
        by : (done : Result ⊤ Fault) → status_of_done done ≡ 1 → ReadsThen tells own_costs topology before (record after { output = outcome.left }) (PricesInput tells pricing before (record after { output = outcome.left })) done → ⊥
        by (Ok value) is leaves = omega (arith, is)
        by (Err (fault.Words word)) is (inl (network, read, prices)) = words (record after { output = outcome.left }) word network prices.answers
        by (Err (fault.Words word)) is (inr (why, same, read, input, output)) = topology_not_1 tells.cabinet before.cabinet after.cabinet own_costs topology why read (sym (ap (λ (r : Result ⊤ Fault). status_of_done r) same) ∙ is)
        by (Err another) is leaves = omega (arith, is)
