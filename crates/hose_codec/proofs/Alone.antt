-- No field begins another: where two of a kind begin the same bytes, they are one.
use Rattle.std.proofs.Common.{◌≡◌, ◌∙◌, ℕ, ◌+◌, ◌<◌, ◌≤◌, ◌^◌, List, [], ◌∷◌, ◌++◌, length, sym, append_assoc, arith}
use Rattle.byteorder.specs.Endian.{big_bytes}
use Rattle.hose_graph.specs.declared.limits.TheConstants.{MOST_AMOUNT, MOST_LINKS, MOST_NODES, MOST_RATE}
use Rattle.hose_graph.specs.Hose.{IsHose, IsEnd}
use Rattle.hose_codec.specs.Fields.{name_field, pair_field, pairs_field, ends_field, amounts_field, link_field, AreFormatAmounts}
use Rattle.hose_codec.specs.steps.Fields.{FitsPair}
use Rattle.hose_graph.specs.Ranges.{IsAmount}
use Rattle.hose_codec.specs.steps.Reading.{ArePairsFrom}
use Rattle.hose_codec.proofs.Numbers.{same_parts, same_numbers}
use Rattle.hose_codec.proofs.Pairs.{are_pairs, fits_pair}

pub same_names : (x y r s : List ℕ) → name_field x ++ r ≡ name_field y ++ s → (x ≡ y) × (r ≡ s)
same_names x y r s same =
    let long : length x ≡ length y = cc in
    let rest : x ++ r ≡ y ++ s = cc in
    same_parts x y r s long rest

same_pair : (x y : ℕ × ℕ) (r s : List ℕ) → FitsPair x → FitsPair y → pair_field x ++ r ≡ pair_field y ++ s → (x ≡ y) × (r ≡ s)
same_pair x y r s x_fits y_fits same =
    let parts : big_bytes 2 x.0 ++ (big_bytes 4 x.1 ++ r) ≡ big_bytes 2 y.0 ++ (big_bytes 4 y.1 ++ s) =
    sym (append_assoc (big_bytes 2 x.0) (big_bytes 4 x.1) r) ∙ same ∙ append_assoc (big_bytes 2 y.0) (big_bytes 4 y.1) s in
    let first = same_numbers 2 x.0 y.0 (big_bytes 4 x.1 ++ r) (big_bytes 4 y.1 ++ s) x_fits.first y_fits.first parts in
    let second = same_numbers 4 x.1 y.1 r s x_fits.second y_fits.second first.1 in
    (λ i. (first.0 i, second.0 i), second.1)

-- as many pairs
pub same_pairs : (bound most least other : ℕ) (xs ys : List (ℕ × ℕ)) (r s : List ℕ) → bound ≤ 2 ^ 16 → most < 2 ^ 32 → length xs ≡ length ys
    → ArePairsFrom bound most least xs → ArePairsFrom bound most other ys → pairs_field xs ++ r ≡ pairs_field ys ++ s → (xs ≡ ys) × (r ≡ s)
same_pairs bound most least other [] [] r s small few long are_xs are_ys same = (λ i. [], same)
same_pairs bound most least other [] (y ∷ ys) r s small few long are_xs are_ys same = absurd (omega arith)
same_pairs bound most least other (x ∷ xs) [] r s small few long are_xs are_ys same = absurd (omega arith)
same_pairs bound most least other (x ∷ xs) (y ∷ ys) r s small few long are_xs are_ys same =
    let parts : pair_field x ++ (pairs_field xs ++ r) ≡ pair_field y ++ (pairs_field ys ++ s) =
    sym (append_assoc (pair_field x) (pairs_field xs) r) ∙ same ∙ append_assoc (pair_field y) (pairs_field ys) s in
    let first = same_pair x y (pairs_field xs ++ r) (pairs_field ys ++ s)
    (fits_pair bound most least x small few are_xs.0) (fits_pair bound most other y small few are_ys.0) parts in
    let rest = same_pairs bound most (x.0 + 1) (y.0 + 1) xs ys r s small few (omega arith) are_xs.1 are_ys.1 first.1 in
    (λ i. first.0 i ∷ rest.0 i, rest.1)

pub hose_pairs : (ends : List (ℕ × ℕ)) → IsHose ends → ArePairsFrom MOST_NODES MOST_RATE 0 ends
hose_pairs ends is = are_pairs IsEnd MOST_NODES MOST_RATE ends (λ end is_end. (is_end.node, is_end.rate)) is.within is.ascending

pub amount_pairs : (amounts : List (ℕ × ℕ)) → AreFormatAmounts amounts → ArePairsFrom MOST_LINKS MOST_AMOUNT 0 amounts
amount_pairs amounts are = are_pairs IsAmount MOST_LINKS MOST_AMOUNT amounts (λ pair is. (is.link, is.amount)) are.fit.within are.ascending

pub same_ends : (x y : List (ℕ × ℕ)) (r s : List ℕ) → IsHose x → IsHose y → ends_field x ++ r ≡ ends_field y ++ s → (x ≡ y) × (r ≡ s)
same_ends x y r s is_x is_y same =
    let long : length x ≡ length y = cc in
    let rest : pairs_field x ++ r ≡ pairs_field y ++ s = cc in
    same_pairs MOST_NODES MOST_RATE 0 0 x y r s (omega arith) (omega arith) long (hose_pairs x is_x) (hose_pairs y is_y) rest

pub same_amounts : (x y : List (ℕ × ℕ)) (r s : List ℕ) → AreFormatAmounts x → AreFormatAmounts y → amounts_field x ++ r ≡ amounts_field y ++ s → (x ≡ y) × (r ≡ s)
same_amounts x y r s are_x are_y same =
    let parts : big_bytes 2 (length x) ++ (pairs_field x ++ r) ≡ big_bytes 2 (length y) ++ (pairs_field y ++ s) =
    sym (append_assoc (big_bytes 2 (length x)) (pairs_field x) r) ∙ same ∙ append_assoc (big_bytes 2 (length y)) (pairs_field y) s in
    let counts = same_numbers 2 (length x) (length y) (pairs_field x ++ r) (pairs_field y ++ s) (omega (arith, are_x.fit.few)) (omega (arith, are_y.fit.few)) parts in
    same_pairs MOST_LINKS MOST_AMOUNT 0 0 x y r s (omega arith) (omega arith) counts.0 (amount_pairs x are_x) (amount_pairs y are_y) counts.1

pub same_links : (x y : ℕ) (r s : List ℕ) → x < MOST_LINKS → y < MOST_LINKS → link_field x ++ r ≡ link_field y ++ s → (x ≡ y) × (r ≡ s)
same_links x y r s is_x is_y same = same_numbers 2 x y r s (omega (arith, is_x)) (omega (arith, is_y)) same
