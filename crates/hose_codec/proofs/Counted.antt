-- Endpoints and amounts with their number in front.
use Rattle.std.proofs.Common.{◌≡◌, ◌∙◌, ℕ, ◌<◌, ◌≤◌, ◌^◌, List, ◌∷◌, ◌++◌, length, Result, Ok, Err, ap, sym, append_assoc, arith}
use Rattle.byteorder.specs.Endian.{big_bytes}
use Rattle.hose_graph.specs.declared.limits.TheConstants.{LEAST_ENDS, MOST_AMOUNT, MOST_ENDS, MOST_LINKS, MOST_NODES, MOST_RATE}
use Rattle.hose_graph.specs.Hose.{IsHose, IsEnd}
use Rattle.hose_codec.specs.declared.limits.TheConstants.{MOST_PAIRS}
use Rattle.hose_codec.specs.Fields.{pairs_field, ends_field, amounts_field, AreFormatAmounts}
use Rattle.hose_graph.specs.Ranges.{IsAmount}
use Rattle.hose_codec.specs.steps.Reading.{Begins, BeginsNone, ReadsField, AreCountedPairs}
use Rattle.hose_codec.specs.declared.limits.CodecFault.{CodecFault}
use Rattle.hose_codec.proofs.Alone.{hose_pairs, amount_pairs}
use Rattle.hose_codec.proofs.Numbers.{same_numbers}
use Rattle.hose_codec.proofs.Pairs.{pairs_are}

ends_read : (count : ℕ) (ends : List (ℕ × ℕ)) (old now new : List ℕ) → LEAST_ENDS ≤ count → count ≤ MOST_ENDS → old ≡ count ∷ now
    → Begins pairs_field (AreCountedPairs MOST_NODES MOST_RATE count) ends now new → Begins ends_field IsHose ends old new
ends_read count ends old now new enough few first begins =
    let are = pairs_are IsEnd MOST_NODES MOST_RATE 0 ends (λ end within. record { node = within.0; rate = within.1 }) begins.may_be.ascending in
    record {
      may_be = record {
        counted = record { enough = omega (arith, begins.may_be.counted); few = omega (arith, begins.may_be.counted) };
        within = are.0;
        ascending = are.1;
      };
      parts = first ∙ ap (λ (text : List ℕ). count ∷ text) begins.parts ∙ ap (λ (n : ℕ). n ∷ (pairs_field ends ++ new)) (sym begins.may_be.counted);
    }

no_ends_read : (count : ℕ) (old now : List ℕ) → old ≡ count ∷ now → BeginsNone pairs_field (AreCountedPairs MOST_NODES MOST_RATE count) now → BeginsNone ends_field IsHose old
no_ends_read count old now first none ends rest begins =
    let same : count ∷ now ≡ length ends ∷ (pairs_field ends ++ rest) = sym first ∙ begins.parts in
    let counted : length ends ≡ count = cc in
    let parts : now ≡ pairs_field ends ++ rest = cc in
    none ends rest (record { may_be = record { counted = counted; ascending = hose_pairs ends begins.may_be }; parts = parts })

-- where the pairs after the number are read, or cannot be, so are endpoints
pub ends_are_read : {V : Type 0} (view : V → List (ℕ × ℕ)) (count : ℕ) (old now new : List ℕ) (result : Result V CodecFault) → LEAST_ENDS ≤ count → count ≤ MOST_ENDS → old ≡ count ∷ now
    → ReadsField pairs_field (AreCountedPairs MOST_NODES MOST_RATE count) view now new result → ReadsField ends_field IsHose view old new result
ends_are_read view count old now new (Ok read) enough few first reads = ends_read count (view read) old now new enough few first reads
ends_are_read view count old now new (Err fault) enough few first reads = (reads.0, no_ends_read count old now first reads.1)

amounts_read : (count : ℕ) (amounts : List (ℕ × ℕ)) (old now new : List ℕ) → 1 ≤ count → count ≤ MOST_PAIRS → old ≡ big_bytes 2 count ++ now
    → Begins pairs_field (AreCountedPairs MOST_LINKS MOST_AMOUNT count) amounts now new → Begins amounts_field AreFormatAmounts amounts old new
amounts_read count amounts old now new some few first begins =
    let are = pairs_are IsAmount MOST_LINKS MOST_AMOUNT 0 amounts (λ pair within. record { link = within.0; amount = within.1 }) begins.may_be.ascending in
    record {
      may_be = record {
        fit = record { some = omega (arith, begins.may_be.counted); few = omega (arith, begins.may_be.counted); within = are.0 };
        ascending = are.1;
      };
      parts = first ∙ ap (λ (text : List ℕ). big_bytes 2 count ++ text) begins.parts
          ∙ ap (λ (n : ℕ). big_bytes 2 n ++ (pairs_field amounts ++ new)) (sym begins.may_be.counted) ∙ sym (append_assoc (big_bytes 2 (length amounts)) (pairs_field amounts) new);
    }

no_amounts_read : (count : ℕ) (old now : List ℕ) → count < 2 ^ 16 → old ≡ big_bytes 2 count ++ now → BeginsNone pairs_field (AreCountedPairs MOST_LINKS MOST_AMOUNT count) now → BeginsNone amounts_field AreFormatAmounts old
no_amounts_read count old now small first none amounts rest begins =
    let parts : big_bytes 2 (length amounts) ++ (pairs_field amounts ++ rest) ≡ big_bytes 2 count ++ now =
    sym (append_assoc (big_bytes 2 (length amounts)) (pairs_field amounts) rest) ∙ sym begins.parts ∙ first in
    let same = same_numbers 2 (length amounts) count (pairs_field amounts ++ rest) now (omega (arith, begins.may_be.fit.few)) small parts in
    none amounts rest (record { may_be = record { counted = same.0; ascending = amount_pairs amounts begins.may_be }; parts = sym same.1 })

-- where the pairs after the number are read, or cannot be, so are amounts
pub amounts_are_read : {V : Type 0} (view : V → List (ℕ × ℕ)) (count : ℕ) (old now new : List ℕ) (result : Result V CodecFault) → 1 ≤ count → count ≤ MOST_PAIRS → old ≡ big_bytes 2 count ++ now
    → ReadsField pairs_field (AreCountedPairs MOST_LINKS MOST_AMOUNT count) view now new result → ReadsField amounts_field AreFormatAmounts view old new result
amounts_are_read view count old now new (Ok read) some few first reads = amounts_read count (view read) old now new some few first reads
amounts_are_read view count old now new (Err fault) some few first reads = (reads.0, no_amounts_read count old now (omega arith) first reads.1)
