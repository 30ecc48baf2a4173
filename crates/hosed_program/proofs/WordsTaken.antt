-- Words that are taken one after another.
use Rattle.std.proofs.Common.{◌≡◌, ℕ, zero, suc, ◌+◌, ◌<◌, ◌≤◌, List, [], ◌∷◌, ◌++◌, length, take, Option, None, Some, IfSome, IfOk, Result, Ok, Err, refl, sym, subst, arith}
use Rattle.std.proofs.lemmas.List.{length-take, take_all}
use Rattle.std.specs.Prelude.{slice_get}
use Rattle.std.specs.Str.{IsUtf8}
use Rattle.std.specs.declared.env.FillError.{FillError}
use Rattle.std.specs.declared.env.FillError.TheVariants.{NotPresent, TooLong}
use Rattle.hosed_program.specs.Given.{AreTextsOf, IsTextOf}
use Rattle.hosed_program.specs.steps.Given.{IsWordAt}

-- these texts are what was taken of the words before a place
pub record AreTaken (all : List (List ℕ)) (place : ℕ) (texts : List (List ℕ)) : Type 0 where
  pub within : place ≤ length all
  pub are : AreTextsOf (take place all) texts

-- the same where the words are told
abbrev pub AreTakenWhereTold : Option (List (List ℕ)) → ℕ → List (List ℕ) → Type 0
AreTakenWhereTold told place texts = IfSome told (λ all. AreTaken all place texts)

pub none_taken : (told : Option (List (List ℕ))) → AreTakenWhereTold told 0 []
none_taken None = tt
none_taken (Some all) = record { within = omega arith; are = tt }

-- one text more behind texts of a front of words
push : (words texts : List (List ℕ)) (place : ℕ) (word text : List ℕ) → slice_get words place ≡ Some word → AreTextsOf (take place words) texts → IsTextOf word text → AreTextsOf (take (suc place) words) (texts ++ text ∷ [])
push [] texts place word text there are is = absurd (cc there)
push (first ∷ words) [] zero word text there are is = (subst (λ (one : List ℕ). IsTextOf one text) (sym (cc there)) is, tt)
push (first ∷ words) (one ∷ texts) zero word text there are is = absurd are
push (first ∷ words) [] (suc place) word text there are is = absurd are
push (first ∷ words) (one ∷ texts) (suc place) word text there are is = (are.0, push words texts place word text there are.1 is)

push_next : (words texts : List (List ℕ)) (place : ℕ) (word text : List ℕ) → slice_get words place ≡ Some word → AreTextsOf (take place words) texts → IsTextOf word text → AreTextsOf (take (place + 1) words) (texts ++ text ∷ [])
push_next words texts place word text there are is =
    let next : suc place ≡ place + 1 = omega arith in
    subst (λ (n : ℕ). AreTextsOf (take n words) (texts ++ text ∷ [])) next (push words texts place word text there are is)

below : {X : Type 0} (xs : List X) (place : ℕ) (x : X) → slice_get xs place ≡ Some x → place < length xs
below [] place x is = absurd (cc is)
below (first ∷ xs) zero x is = omega arith
below (first ∷ xs) (suc place) x is = omega (arith, below xs place x is)

-- what stands at the front of bytes, so many as were filled, was taken as this text
pub record IsTakenAs (filled : Result ℕ FillError) (bytes text : List ℕ) : Type 0 where
  pub whole : IfOk filled (λ count. IsUtf8 (take count bytes) → text ≡ take count bytes)
  pub none : IfOk filled (λ count. (¬ IsUtf8 (take count bytes)) → text ≡ [])
  pub too_long : filled ≡ Err TooLong → text ≡ []
  pub present : filled ≡ Err NotPresent → ⊥

module _ (room : ℕ) (is_room : room ≡ 4096) where
  next_all : (all : List (List ℕ)) (place : ℕ) (texts : List (List ℕ)) (filled : Result ℕ FillError) (bytes text : List ℕ) → length bytes ≡ room → AreTaken all place texts → IsWordAt all place room bytes filled → IsTakenAs filled bytes text → AreTaken all (place + 1) (texts ++ text ∷ [])
  next_all all place texts (Ok count) bytes text long taken there took = record {
    within = omega (arith, below all place (take count bytes) there);
    are = push_next all texts place (take count bytes) text there taken.are (record { whole = λ short. took.whole; none = λ never. took.none (never (omega (arith, long, is_room, length-take count bytes))) });
  }
  next_all all place texts (Err TooLong) bytes text long taken there took = record {
    within = omega (arith, below all place there.0 there.1);
    are = push_next all texts place there.0 text there.1 taken.are (record { whole = λ short. absurd (omega (arith, short, there.2, is_room)); none = λ never. took.too_long refl });
  }
  next_all all place texts (Err NotPresent) bytes text long taken there took = absurd (took.present refl)

  -- one word more
  pub one_taken : (told : Option (List (List ℕ))) (place : ℕ) (texts : List (List ℕ)) (filled : Result ℕ FillError) (bytes text : List ℕ) → length bytes ≡ room → AreTakenWhereTold told place texts → IfSome told (λ all. IsWordAt all place room bytes filled) → IsTakenAs filled bytes text → AreTakenWhereTold told (place + 1) (texts ++ text ∷ [])
  one_taken None place texts filled bytes text long taken there took = tt
  one_taken (Some all) place texts filled bytes text long taken there took = next_all all place texts filled bytes text long taken there took

  -- the words end here
  pub all_taken : (told : Option (List (List ℕ))) (place : ℕ) (texts : List (List ℕ)) (filled : Result ℕ FillError) (bytes : List ℕ) → AreTakenWhereTold told place texts → IfSome told (λ all. IsWordAt all place room bytes filled) → filled ≡ Err NotPresent → (limit : ℕ) → IfSome told (λ all. length all < limit → AreTextsOf all texts)
  all_taken None place texts filled bytes taken there ends limit = tt
  all_taken (Some all) place texts filled bytes taken there ends limit = λ few.
      let beyond : length all ≤ place = subst (IsWordAt all place room bytes) ends there in
      subst (λ (front : List (List ℕ)). AreTextsOf front texts) (take_all place all beyond) taken.are

-- there are too many words
pub too_many : (told : Option (List (List ℕ))) (place : ℕ) (texts : List (List ℕ)) → AreTakenWhereTold told place texts → (limit : ℕ) → limit ≤ place → IfSome told (λ all. length all < limit → AreTextsOf all texts)
too_many None place texts taken limit many = tt
too_many (Some all) place texts taken limit many = λ few. absurd (omega (arith, few, many, taken.within))
