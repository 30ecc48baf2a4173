-- What is told by the values at the front of a list.
use Rattle.std.proofs.Common.{◌≡◌, ℕ, zero, suc, ◌<◌, ◌≤◌, List, [], ◌∷◌, Some, take, refl, subst, arith}
use Rattle.std.specs.List.{AllZip, slice_get}
use Rattle.std.proofs.lemmas.Option.{same_Some}

-- a value at the front tells what stands at its place
pub told_at : {X Y : Type 0} (R : X → Y → Type 0) (xs : List X) (ys : List Y) (end place : ℕ) (x : X) → AllZip R (take end xs) ys → place < end → slice_get xs place ≡ Some x
    → (y : Y) × (slice_get ys place ≡ Some y) × R x y
told_at R xs ys zero place x all below here = absurd (omega arith)
told_at R [] ys (suc end) place x all below here = absurd (cc)
told_at R (a ∷ xs) [] (suc end) place x all below here = absurd all
told_at R (a ∷ xs) (b ∷ ys) (suc end) zero x all below here = (b, refl, subst (λ value. R value b) (same_Some a x here) all.0)
told_at R (a ∷ xs) (b ∷ ys) (suc end) (suc place) x all below here = told_at R xs ys end place x all.1 (omega arith) here

-- where a value tells one thing, a shorter front tells the front of what a longer one does
pub told_front : {X Y : Type 0} (R : X → Y → Type 0) (xs : List X) (ys zs : List Y) (end place : ℕ) → ((x : X) (y z : Y) → R x y → R x z → y ≡ z)
    → AllZip R (take end xs) ys → AllZip R (take place xs) zs → place ≤ end → zs ≡ take place ys
told_front R xs ys [] end zero one all front below = refl
told_front R xs ys (c ∷ zs) end zero one all front below = absurd front
told_front R xs ys zs zero (suc place) one all front below = absurd (omega arith)
told_front R [] [] [] (suc end) (suc place) one all front below = refl
told_front R [] [] (c ∷ zs) (suc end) (suc place) one all front below = absurd front
told_front R [] (b ∷ ys) zs (suc end) (suc place) one all front below = absurd all
told_front R (a ∷ xs) [] zs (suc end) (suc place) one all front below = absurd all
told_front R (a ∷ xs) (b ∷ ys) [] (suc end) (suc place) one all front below = absurd front
told_front R (a ∷ xs) (b ∷ ys) (c ∷ zs) (suc end) (suc place) one all front below =
    let head = one a c b front.0 all.0 in
    let rest = told_front R xs ys zs end place one all.1 front.1 (omega arith) in
    λ i. head i ∷ rest i

-- all values tell one list
pub told_once : {X Y : Type 0} (R : X → Y → Type 0) (xs : List X) (ys zs : List Y) → ((x : X) (y z : Y) → R x y → R x z → y ≡ z) → AllZip R xs ys → AllZip R xs zs → ys ≡ zs
told_once R [] [] [] one all other = refl
told_once R [] [] (c ∷ zs) one all other = absurd other
told_once R [] (b ∷ ys) zs one all other = absurd all
told_once R (a ∷ xs) [] zs one all other = absurd all
told_once R (a ∷ xs) (b ∷ ys) [] one all other = absurd other
told_once R (a ∷ xs) (b ∷ ys) (c ∷ zs) one all other =
    let head = one a b c all.0 other.0 in
    let rest = told_once R xs ys zs one all.1 other.1 in
    λ i. head i ∷ rest i
