-- What a part of a hose weighs by the numbers of a root, endpoint by endpoint.
use Rattle.std.proofs.Common.{◌≡◌, ◌∙◌, ℕ, ◌+◌, ◌*◌, ◌<◌, ◌≤◌, List, length, get_or, take, All, ap, sym, subst}
use Rattle.std.specs.List.{slice_index}
use Rattle.std.proofs.Math.Nat.{mul-le-mul}
use Rattle.std.proofs.lemmas.List.{take_more}
use Rattle.std.proofs.lemmas.List.Sums.{sum_by_push}
use Rattle.hose_graph.specs.Hose.{IsEnd}
use Rattle.hose_graph.specs.declared.limits.TheConstants.{MOST_RATE}
use Rattle.hose_cert.specs.steps.Judging.{AreUpToMost}
use Rattle.hose_cert.specs.Rules.{weighed_by}
use Rattle.hose_cert.specs.declared.statement.TheConstants.{MOST_NUMBER}

-- the share of an endpoint
pub share_is : (row : List ℕ) (items : List (ℕ × ℕ)) (i rate number : ℕ) → rate ≡ (get_or items i (0, 0)).1 → number ≡ get_or row (get_or items i (0, 0)).0 0
    → rate * number ≡ (get_or items i (0, 0)).1 * slice_index row (get_or items i (0, 0)).0
share_is row items i rate number is is' = λ k. is k * is' k

-- one endpoint more adds its rate, so many times as its number
pub weighed_more : (row : List ℕ) (hose items : List (ℕ × ℕ)) → items ≡ hose → (i : ℕ) → i < length items
    → weighed_by row (take (i + 1) hose) ≡ weighed_by row (take i hose) + (get_or items i (0, 0)).1 * slice_index row (get_or items i (0, 0)).0
weighed_more row hose items same i inside =
    subst (λ (es : List (ℕ × ℕ)). weighed_by row (take (i + 1) es) ≡ weighed_by row (take i es) + (get_or items i (0, 0)).1 * slice_index row (get_or items i (0, 0)).0) same
    (ap (weighed_by row) (take_more items i (0, 0) inside) ∙ sum_by_push (λ (e : ℕ × ℕ). e.1 * slice_index row e.0) (take i items) (get_or items i (0, 0)))

-- which is little
pub weighs_little : (row : List ℕ) (hose items : List (ℕ × ℕ)) → items ≡ hose → AreUpToMost row → All IsEnd hose → All (λ (e : ℕ × ℕ). e.0 < length row) hose → (i : ℕ) → i < length items
    → (get_or items i (0, 0)).1 * slice_index row (get_or items i (0, 0)).0 ≤ MOST_RATE * MOST_NUMBER
weighs_little row hose items same up ends nodes i inside =
    let each : All IsEnd items = subst (All IsEnd) (sym same) ends in
    let below : All (λ (e : ℕ × ℕ). e.0 < length row) items = subst (All (λ (e : ℕ × ℕ). e.0 < length row)) (sym same) nodes in
    mul-le-mul ((each i (0, 0) inside).rate.1) (up (get_or items i (0, 0)).0 0 (below i (0, 0) inside))
