-- The pairs whose bytes are at hand.
use Rattle.std.proofs.Common.{◌≡◌, ◌∙◌, ℕ, zero, suc, ◌+◌, ◌*◌, ◌<◌, ◌≤◌, ◌^◌, List, [], ◌∷◌, ◌++◌, length, ap, sym, subst, arith}
use Rattle.byteorder.specs.Endian.{big_number}
use Rattle.byteorder.specs.Numbers.{big_number-reads_back}
use Rattle.hose_codec.specs.Fields.{pair_field, pairs_field}
use Rattle.hose_codec.specs.steps.Fields.{FitsPair}
use Rattle.hose_codec.specs.steps.Reading.{Begins, BeginsNone, ArePairsFrom, AreCountedPairs, pairs_of}
use Rattle.hose_codec.specs.declared.limits.TheConstants.{PAIR_BYTES}
use Rattle.hose_codec.proofs.Lengths.{length-pairs_field}
use Rattle.hose_codec.proofs.Numbers.{AreBytes, bytes_of_two, bytes_of_four, same_parts}
use Rattle.hose_codec.proofs.Pairs.{fits_pair}

pair_first : (pair : ℕ × ℕ) (bytes : List ℕ) → FitsPair pair → pairs_of (pair_field pair ++ bytes) ≡ pair ∷ pairs_of bytes
pair_first pair bytes fits =
    let first = big_number-reads_back 2 pair.0 [] (omega (arith, fits.first)) in
    let second = big_number-reads_back 4 pair.1 [] (omega (arith, fits.second)) in
    λ i. (first i, second i) ∷ pairs_of bytes

-- pairs that fit their bytes are those of their bytes
pub pairs_of_field : (bound most least : ℕ) (pairs : List (ℕ × ℕ)) → bound ≤ 2 ^ 16 → most < 2 ^ 32 → ArePairsFrom bound most least pairs → pairs_of (pairs_field pairs) ≡ pairs
pairs_of_field bound most least [] small few are = λ i. []
pairs_of_field bound most least (pair ∷ pairs) small few are =
    pair_first pair (pairs_field pairs) (fits_pair bound most least pair small few are.0)
    ∙ ap (λ (rest : List (ℕ × ℕ)). pair ∷ rest) (pairs_of_field bound most (pair.0 + 1) pairs small few are.1)

-- ---- bytes that are numbers below 256

two_are : (a b : ℕ) → a < 256 → b < 256 → AreBytes (a ∷ b ∷ [])
two_are a b a_is b_is zero = a_is
two_are a b a_is b_is (suc zero) = b_is
two_are a b a_is b_is (suc (suc i)) = omega arith

four_are : (a b c d : ℕ) → a < 256 → b < 256 → c < 256 → d < 256 → AreBytes (a ∷ b ∷ c ∷ d ∷ [])
four_are a b c d a_is b_is c_is d_is zero = a_is
four_are a b c d a_is b_is c_is d_is (suc zero) = b_is
four_are a b c d a_is b_is c_is d_is (suc (suc i)) = two_are c d c_is d_is i

-- bytes that are not left over are those of their pairs
pub field_of_pairs : (bytes : List ℕ) (count : ℕ) → AreBytes bytes → length bytes ≡ PAIR_BYTES * count → pairs_field (pairs_of bytes) ≡ bytes
field_of_pairs [] count are long = λ i. []
field_of_pairs (a ∷ b ∷ c ∷ d ∷ e ∷ f ∷ bytes) zero are long = absurd (omega arith)
field_of_pairs (a ∷ b ∷ c ∷ d ∷ e ∷ f ∷ bytes) (suc count) are long =
    let first = bytes_of_two (a ∷ b ∷ []) _ (λ i. 2) (two_are a b (are 0) (are 1)) (λ i. big_number 2 (a ∷ b ∷ [])) in
    let second = bytes_of_four (c ∷ d ∷ e ∷ f ∷ []) _ (λ i. 4) (four_are c d e f (are 2) (are 3) (are 4) (are 5)) (λ i. big_number 4 (c ∷ d ∷ e ∷ f ∷ [])) in
    let rest = field_of_pairs bytes count (λ i. are (suc (suc (suc (suc (suc (suc i))))))) (omega arith) in
    λ i. (first i ++ second i) ++ rest i
field_of_pairs bytes count are long = absurd (omega arith)

-- ---- what is read of a part

pub no_part_no_pairs : (bound most count : ℕ) (old : List ℕ) → BeginsNone (λ part. part) (λ part. length part ≡ PAIR_BYTES * count) old
    → BeginsNone pairs_field (AreCountedPairs bound most count) old
no_part_no_pairs bound most count old none pairs rest begins =
    none (pairs_field pairs) rest (record { may_be = omega (arith, length-pairs_field pairs, begins.may_be.counted); parts = begins.parts })

pub pairs_are_read : (bound most count : ℕ) (bytes old new : List ℕ) → length bytes ≡ PAIR_BYTES * count → old ≡ bytes ++ new → pairs_field (pairs_of bytes) ≡ bytes
    → ArePairsFrom bound most 0 (pairs_of bytes) → Begins pairs_field (AreCountedPairs bound most count) (pairs_of bytes) old new
pairs_are_read bound most count bytes old new long parts spelled are = record {
  may_be = record { counted = omega (arith, length-pairs_field (pairs_of bytes), ap length spelled); ascending = are };
  parts = parts ∙ ap (λ (text : List ℕ). text ++ new) (sym spelled);
}

pub no_pairs_are_read : (bound most count : ℕ) (bytes old new : List ℕ) → bound ≤ 2 ^ 16 → most < 2 ^ 32 → length bytes ≡ PAIR_BYTES * count → old ≡ bytes ++ new
    → ¬ ArePairsFrom bound most 0 (pairs_of bytes) → BeginsNone pairs_field (AreCountedPairs bound most count) old
no_pairs_are_read bound most count bytes old new small few long parts none pairs rest begins =
    let counted : length (pairs_field pairs) ≡ length bytes = omega (arith, length-pairs_field pairs, begins.may_be.counted) in
    let same : pairs_field pairs ≡ bytes = (same_parts (pairs_field pairs) bytes rest new counted (sym begins.parts ∙ parts)).0 in
    let read : pairs_of bytes ≡ pairs = ap pairs_of (sym same) ∙ pairs_of_field bound most 0 pairs small few begins.may_be.ascending in
    none (subst (λ (pairs : List (ℕ × ℕ)). ArePairsFrom bound most 0 pairs) (sym read) begins.may_be.ascending)
