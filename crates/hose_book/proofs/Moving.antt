-- Live VPNs after those that are gone, and what is left where one is taken out.
use Rattle.std.proofs.Common.{◌≡◌, ◌∙◌, ℕ, ◌+◌, ◌-◌, ◌<◌, ◌≤◌, suc, List, ◌++◌, length, take, drop, sym, ap, arith, length-append, length-drop}
use Rattle.std.specs.List.{remove}
use Rattle.std.proofs.lemmas.List.{drop-append-le, drop-drop, drop-take, length-take, take-take}
use Rattle.std.proofs.Math.Seq.{drop-append-add}

-- a list from a place on, after a front of as many
from_front : {X : Type 0} (front rest : List X) (n m : ℕ) → n ≡ length front + m → drop n (front ++ rest) ≡ drop m rest
from_front front rest n m is = ap (λ i. drop i (front ++ rest)) is ∙ drop-append-add front rest m

-- where the last of some comes first, the others are those before it
others : {X : Type 0} (mid : List X) (k : ℕ) → length mid ≡ suc k → drop 1 (drop k mid ++ take k mid) ≡ take k mid
others mid k long = from_front (drop k mid) (take k mid) 1 0 (omega (arith, length-drop k mid, long))

-- Where the item at a place moves to another before it, it is taken out of those after that place.
pub moved_first : {X : Type 0} (xs ys : List X) (start place : ℕ) → start ≤ place → place < length xs
    → (let mid = take (place + 1 - start) (drop start xs) in ys ≡ drop (length mid - 1) mid ++ take (length mid - 1) mid)
    → drop (start + 1) (take start xs ++ (ys ++ drop (place + 1 - start) (drop start xs))) ≡ remove (drop start xs) (place - start)
moved_first xs ys start place order inside turned =
    let k : ℕ = place - start in
    let tail = drop start xs in
    let mid = take (place + 1 - start) tail in
    let long_tail : length tail ≡ length xs - start = length-drop start xs in
    let long : length mid ≡ suc k = omega (arith, length-take (place + 1 - start) tail, long_tail) in
    let rest = drop (place + 1 - start) tail in
    let last : length mid - 1 ≡ k = omega (arith, long) in
    let here : ys ≡ drop k mid ++ take k mid = turned ∙ ap (λ i. drop i mid ++ take i mid) last in
    let some : 1 ≤ length ys = omega (arith, ap length here, length-append (drop k mid) (take k mid), length-drop k mid, long) in
    let front : start + 1 ≡ length (take start xs) + 1 = omega (arith, length-take start xs) in
    let before : drop 1 ys ≡ take k tail = ap (drop 1) here ∙ others mid k long ∙ take-take k (place + 1 - start) tail (omega arith) in
    let after : rest ≡ drop (suc k) tail = ap (λ i. drop i tail) (let e : place + 1 - start ≡ suc k = omega arith in e) in
    from_front (take start xs) (ys ++ rest) (start + 1) 1 front ∙ drop-append-le 1 ys rest some ∙ (λ i. before i ++ after i)

-- Where the item at a place is taken out, it is taken out of those after an earlier place.
pub drop_removed : {X : Type 0} (xs : List X) (start place : ℕ) → start + place < length xs → drop start (remove xs (start + place)) ≡ remove (drop start xs) place
drop_removed xs start place inside =
    let rest = drop (suc (start + place)) xs in
    let long : start ≤ length (take (start + place) xs) = omega (arith, length-take (start + place) xs) in
    let after : rest ≡ drop (suc place) (drop start xs) = ap (λ i. drop i xs) (let e : suc (start + place) ≡ start + suc place = omega arith in e) ∙ sym (drop-drop (suc place) start xs) in
    drop-append-le start (take (start + place) xs) rest long ∙ (λ i. drop-take start place xs i ++ after i)
