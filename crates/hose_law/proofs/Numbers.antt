-- What stands at numbers, from 1 on.
use Rattle.std.proofs.Common.{◌≡◌, ◌≢◌, ◌∙◌, ℕ, zero, suc, ◌+◌, ◌<◌, ◌≤◌, List, [], ◌∷◌, Bool, true, not, cond, nat_lt, Option, None, Some, is_none, length, get_or, set, refl, sym, ap, arith, option_map, inl, inr}
use Rattle.std.specs.List.{position, position_or_len}
use Rattle.std.proofs.lemmas.Bool.{cases_lt}
use Rattle.std.proofs.lemmas.List.{get_or-replicate, get_or-set_other, get_or-set_same, get_or_past, length-set, set-get_or}
use Rattle.std.proofs.lemmas.List.Quantifiers.{position-Some}
use Rattle.hose_graph.specs.declared.limits.TheConstants.{MOST_QUOTES}
use Rattle.hose_law.specs.Quotes.{at_number, free_number, none_held, with_number}

-- the numbers of two equal options are equal
pub some_is : (one other : ℕ) → Some one ≡ Some other → one ≡ other
some_is one other same = cc same

module _ {X : Type 0} where
  pub length_with : (quotes : List (Option X)) (n : ℕ) (quote : Option X) → length (with_number quotes n quote) ≡ length quotes
  length_with quotes zero quote = refl
  length_with quotes (suc i) quote = length-set quotes i quote

  pub at_with_same : (quotes : List (Option X)) (n : ℕ) (quote : Option X) → 1 ≤ n → n ≤ length quotes → at_number (with_number quotes n quote) n ≡ quote
  at_with_same quotes zero quote some most = absurd (omega (arith, some))
  at_with_same quotes (suc i) quote some most = get_or-set_same quotes i quote None (omega (arith, most))

  pub at_with_other : (quotes : List (Option X)) (n m : ℕ) (quote : Option X) → m ≢ n → at_number (with_number quotes n quote) m ≡ at_number quotes m
  at_with_other quotes zero m quote apart = refl
  at_with_other quotes (suc i) zero quote apart = refl
  at_with_other quotes (suc i) (suc j) quote apart = get_or-set_other quotes i j quote None (λ same. apart (ap suc same))

  -- nothing stands at 0 and past the last number
  pub some_at : (quotes : List (Option X)) (n : ℕ) (value : X) → at_number quotes n ≡ Some value → (1 ≤ n) × (n ≤ length quotes)
  some_at quotes zero value there = absurd (cc there)
  some_at quotes (suc i) value there = elim (cases_lt i (length quotes)) [
    | inl below ↦ (omega arith, omega (arith, below))
    | inr past ↦ absurd (cc (there, get_or_past quotes i None (omega (arith, past))))
  ]

  -- at the lowest free number nothing stands
  pub free_is_empty : (quotes : List (Option X)) (n : ℕ) → free_number quotes ≡ Some n → at_number quotes n ≡ None
  free_is_empty quotes n free = at (position is_none quotes) refl free
    where
      none_there : (found : Option X) → is_none found ≡ true → found ≡ None
      none_there None is = refl
      none_there (Some value) is = absurd (cc is)

      at : (found : Option ℕ) → found ≡ position is_none quotes → option_map (λ index. index + 1) found ≡ Some n → at_number quotes n ≡ None
      at None is free = absurd (cc free)
      at (Some i) is free =
          let number : n ≡ suc i = omega (arith, some_is (i + 1) n free) in
          ap (at_number quotes) number ∙ none_there (get_or quotes i None) (position-Some is_none quotes i None (sym is)).1

module _ {X Y : Type 0} where
  same_first : (xs : List (Option X)) (ys : List (Option Y)) → length xs ≡ length ys → ((i : ℕ) → i < length xs → is_none (get_or xs i None) ≡ is_none (get_or ys i None))
      → position_or_len is_none xs ≡ position_or_len is_none ys
  same_first [] [] same each = refl
  same_first (x ∷ xs) (y ∷ ys) same each =
      let rest = same_first xs ys (omega (arith, same)) (λ i below. each (suc i) (omega (arith, below))) in
      ap (λ (b : Bool). cond (not b) (1 + position_or_len is_none xs) 0) (each 0 (omega arith)) ∙ ap (λ (n : ℕ). cond (not (is_none y)) (1 + n) 0) rest
  same_first [] (y ∷ ys) same each = absurd (omega (arith, same))
  same_first (x ∷ xs) [] same each = absurd (omega (arith, same))

  -- the lowest free number is the same where the same numbers are free
  pub same_free : (xs : List (Option X)) (ys : List (Option Y)) → length xs ≡ length ys → ((n : ℕ) → is_none (at_number xs n) ≡ is_none (at_number ys n)) → free_number xs ≡ free_number ys
  same_free xs ys same each =
      let first = same_first xs ys same (λ i below. each (suc i)) in
      ap (λ (n : ℕ). option_map (λ index. index + 1) (cond (nat_lt n (length xs)) (Some n) None)) first
      ∙ ap (λ (n : ℕ). option_map (λ index. index + 1) (cond (nat_lt (position_or_len is_none ys) n) (Some (position_or_len is_none ys)) None)) same

module _ {X : Type 0} where
  -- nothing more at a number at which nothing stands
  pub with_none : (quotes : List (Option X)) (n : ℕ) → at_number quotes n ≡ None → with_number quotes n None ≡ quotes
  with_none quotes zero none = refl
  with_none quotes (suc i) none = ap (λ (q : Option X). set quotes i q) (sym none) ∙ set-get_or quotes i None

  -- nothing stands where none is held
  pub at_none_held : (n : ℕ) → at_number (none_held {X = X}) n ≡ None
  at_none_held zero = refl
  at_none_held (suc i) = elim (cases_lt i MOST_QUOTES) [
    | inl below ↦ get_or-replicate MOST_QUOTES i None None below
    | inr past ↦ get_or_past (none_held {X = X}) i None (omega (arith, past))
  ]
