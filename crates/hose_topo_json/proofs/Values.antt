-- Values in order, as data.
use Rattle.std.proofs.Common.{◌≡◌, ◌∙◌, ℕ, suc, ◌+◌, ◌<◌, ◌≤◌, List, [], ◌∷◌, ◌++◌, Some, length, get_or, take, map, refl, sym, ap, subst, arith, length-take}
use Rattle.std.specs.List.{AllZip, slice_get}
use Rattle.std.proofs.lemmas.List.{get_or-map, length-map, take_all, take_more}
use Rattle.std.proofs.lemmas.Option.{slice_get-get_or}
use Rattle.serde_json.specs.Data.{Data}
use Rattle.serde_json.specs.View.{items_view, view}
use Rattle.serde_json.specs.declared.value.Value.{Value}
use Rattle.hose_topo_json.specs.JsonValue.{elements}

-- the elements of an array are its values
pub elements-items_view : (values : List Value) → elements (items_view values) ≡ map view values
elements-items_view [] = refl
elements-items_view (value ∷ more) = ap (λ rest. view value ∷ rest) (elements-items_view more)

-- the value at a place
pub value_at : (values : List Value) (place : ℕ) (value : Value) → place < length values → value ≡ get_or values place value → get_or (map view values) place (view value) ≡ view value
value_at values place value below is = get_or-map view values place value (view value) below ∙ ap view (sym is)

pub value_here : (values : List Value) (place : ℕ) (value : Value) → place < length values → value ≡ get_or values place value → slice_get (map view values) place ≡ Some (view value)
value_here values place value below is =
    let inside : place < length (map view values) = rw length-map below in
    slice_get-get_or (map view values) place (view value) inside ∙ ap Some (value_at values place value below is)

-- one more of two lists
AllZip-push : {X Y : Type 0} (R : X → Y → Type 0) (xs : List X) (ys : List Y) (x : X) (y : Y) → AllZip R xs ys → R x y → AllZip R (xs ++ x ∷ []) (ys ++ y ∷ [])
AllZip-push R [] [] x y all one = (one, tt)
AllZip-push R [] (b ∷ ys) x y all one = absurd all
AllZip-push R (a ∷ xs) [] x y all one = absurd all
AllZip-push R (a ∷ xs) (b ∷ ys) x y all one = (all.0, AllZip-push R xs ys x y all.1 one)

-- as many in both lists
length-AllZip : {X Y : Type 0} (R : X → Y → Type 0) (xs : List X) (ys : List Y) → AllZip R xs ys → length xs ≡ length ys
length-AllZip R [] [] all = refl
length-AllZip R [] (b ∷ ys) all = absurd all
length-AllZip R (a ∷ xs) [] all = absurd all
length-AllZip R (a ∷ xs) (b ∷ ys) all = ap suc (length-AllZip R xs ys all.1)

-- where a value is left, fewer were told than there are
pub fewer_told : {Y : Type 0} (R : Data → Y → Type 0) (values : List Value) (ys : List Y) (place : ℕ) → AllZip R (take place (map view values)) ys → place < length values → length ys < length values
fewer_told R values ys place all below =
    let same = length-AllZip R (take place (map view values)) ys all in
    let whole : length (map view values) ≡ length values = length-map values view in
    omega (arith, same, length-take place (map view values), whole, below)

-- one value more is told
pub told_more : {Y : Type 0} (R : Data → Y → Type 0) (values : List Value) (ys : List Y) (place : ℕ) (value : Value) (y : Y) → place < length values → value ≡ get_or values place value
    → AllZip R (take place (map view values)) ys → R (view value) y → AllZip R (take (place + 1) (map view values)) (ys ++ y ∷ [])
told_more R values ys place value y below is all one =
    let inside : place < length (map view values) = rw length-map below in
    let more = take_more (map view values) place (view value) inside in
    subst (λ front. AllZip R front (ys ++ y ∷ [])) (sym (more ∙ ap (λ one. take place (map view values) ++ one ∷ []) (value_at values place value below is)))
    (AllZip-push R (take place (map view values)) ys (view value) y all one)

-- all values were taken
pub all_taken : (values : List Value) (place : ℕ) → length values ≤ place → take place (map view values) ≡ map view values
all_taken values place past = take_all place (map view values) (rw length-map past)
