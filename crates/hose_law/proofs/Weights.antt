-- A root has one weight for a hose.
use Rattle.std.proofs.Common.{◌≡◌, ◌∙◌, ℕ, ◌+◌, ◌*◌, Bool, List, [], ◌∷◌, sym, ap}
use Rattle.hose_graph.specs.Network.{Network}
use Rattle.hose_law.specs.CanonicalPlan.{IsWeight}
use Rattle.hose_law.proofs.Distances.{distance_unique}

pub weight_unique : (network : Network) (set : List Bool) (root : ℕ) (hose : List (ℕ × ℕ)) (one other : ℕ) → IsWeight network set root hose one
    → IsWeight network set root hose other → one ≡ other
weight_unique network set root [] one other is also = is ∙ sym also
weight_unique network set root (end ∷ hose) one other is also =
    let distances : is.0 ≡ also.0 = distance_unique network set root end.0 is.0 also.0 is.2 also.2 in
    let rests : is.1 ≡ also.1 = weight_unique network set root hose is.1 also.1 is.3 also.3 in
    is.4 ∙ ap (λ (d : ℕ). end.1 * d + is.1) distances ∙ ap (λ (r : ℕ). end.1 * also.0 + r) rests ∙ sym also.4
