-- Beginnings of one list.
use Rattle.std.proofs.Common.{◌≡◌, ◌≤◌, List, [], ◌∷◌, ◌++◌, length, refl, ap, sym, ◌∙◌, arith, append_assoc, length-append}
use mathlib.Core.List.{IsPrefix}

pub prefix_self : {A : Type 0} (xs : List A) → IsPrefix xs xs
prefix_self [] = ([], refl)
prefix_self (x ∷ xs) = let rest = prefix_self xs in (rest.0, ap (λ ys. x ∷ ys) rest.1)

-- of two beginnings of one list the shorter begins the longer
pub prefix_shorter : {A : Type 0} (xs ys all : List A) → IsPrefix xs all → IsPrefix ys all → length xs ≤ length ys → IsPrefix xs ys
prefix_shorter [] ys all p q le = (ys, refl)
prefix_shorter (x ∷ xs) [] all p q le = absurd (omega arith)
prefix_shorter (x ∷ xs) (y ∷ ys) [] p q le = absurd (cc (p.1))
prefix_shorter (x ∷ xs) (y ∷ ys) (z ∷ all) p q le =
    let heads : x ≡ y = cc (p.1, q.1) in
    let rest = prefix_shorter xs ys all (p.0, cc (p.1)) (q.0, cc (q.1)) (omega arith) in
    (rest.0, cc (heads, rest.1))

-- a beginning of a list begins the list with one item more
pub prefix_push : {A : Type 0} (xs ys : List A) (item : A) → IsPrefix xs ys → IsPrefix xs (ys ++ item ∷ [])
prefix_push xs ys item p = (p.0 ++ item ∷ [], sym (append_assoc xs p.0 (item ∷ [])) ∙ ap (λ all. all ++ item ∷ []) p.1)

pub prefix_length : {A : Type 0} (xs ys : List A) → IsPrefix xs ys → length xs ≤ length ys
prefix_length xs ys p = let parts = length-append xs p.0 in let whole = ap length p.1 in omega arith
