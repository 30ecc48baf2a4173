-- What a reader of a field answers, and what it leaves to be read.
use Rattle.std.specs.Prelude.{◌≡◌, ℕ, ◌+◌, ◌<◌, ◌≤◌, List, [], ◌∷◌, ◌++◌, length, Result, Ok, Err, Option, Some, None, ⊤}
use Rattle.byteorder.specs.Endian.{big_number}
use Rattle.hose_graph.specs.Limit.{IsUpTo}
use Rattle.hose_codec.specs.Fields.{pair_field}
use Rattle.hose_codec.specs.steps.Fields.{FitsPair}
use Rattle.hose_codec.specs.steps.Limits.{pair_bytes}
use Rattle.hose_codec.specs.declared.limits.CodecFault.{CodecFault}
use Rattle.hose_codec.specs.declared.limits.CodecFault.TheVariants.{Bad}

-- The bytes begin with the field of this value, which it may have, and the rest follows.
pub record Begins {X : Type 0} (field : X → List ℕ) (MayBe : X → Type 0) (value : X)
    (bytes rest : List ℕ) : Type 0 where
  pub may_be : MayBe value
  pub parts : bytes ≡ field value ++ rest

-- the field of no value begins the bytes
abbrev pub BeginsNone : {X : Type 0} → (X → List ℕ) → (X → Type 0) → List ℕ → Type 0
BeginsNone {X} field MayBe bytes =
    (value : X) (rest : List ℕ) → ¬ Begins field MayBe value bytes rest

-- What is read, as `view` sees it, is the value whose field begins the bytes `old`, and `new` is
-- what follows; or the field of no value begins them.
abbrev pub ReadsField : {V X : Type 0} → (X → List ℕ) → (X → Type 0) → (V → X) → List ℕ → List ℕ →
    Result V CodecFault → Type 0
ReadsField field MayBe view old new (Ok read) = Begins field MayBe (view read) old new
ReadsField field MayBe view old new (Err fault) = (fault ≡ Bad) × BeginsNone field MayBe old

-- What a reader that tells no fault reads is the value whose field begins the bytes `old`, and
-- `new` is what follows; or the field of no value begins them.
abbrev pub TakesField : {X : Type 0} → (X → List ℕ) → (X → Type 0) → List ℕ → List ℕ → Option X
    → Type 0
TakesField field MayBe old new (Some value) = Begins field MayBe value old new
TakesField field MayBe old new None = BeginsNone field MayBe old

-- What a reader of all that is left reads is the value whose field the bytes are; or they are the
-- field of no value.
abbrev pub ReadsWhole : {V X : Type 0} → (X → List ℕ) → (X → Type 0) → (V → X) → List ℕ →
    Result V CodecFault → Type 0
ReadsWhole field MayBe view old (Ok read) = Begins field MayBe (view read) old []
ReadsWhole {V} {X} field MayBe view old (Err fault) =
    (fault ≡ Bad) × ((value : X) → ¬ Begins field MayBe value old [])

-- a pair whose first number is from `least` on and below `bound`, and its second from 1 to `most`
pub record IsPairFrom (bound most least : ℕ) (pair : ℕ × ℕ) : Type 0 where
  pub later : least ≤ pair.0
  pub below : pair.0 < bound
  pub amount : IsUpTo most pair.1

-- pairs within these bounds, each with a greater first number than the one before it
abbrev pub ArePairsFrom : ℕ → ℕ → ℕ → List (ℕ × ℕ) → Type 0
ArePairsFrom bound most least [] = ⊤
ArePairsFrom bound most least (pair ∷ pairs) =
    IsPairFrom bound most least pair × ArePairsFrom bound most (pair.0 + 1) pairs

-- pairs within these bounds, as many as they are said to be
pub record AreCountedPairs (bound most count : ℕ) (pairs : List (ℕ × ℕ)) : Type 0 where
  pub counted : length pairs ≡ count
  pub ascending : ArePairsFrom bound most 0 pairs

-- A pair is taken from the front of the bytes `old`, and `new` is what follows; or there are too
-- few bytes for one.
abbrev pub TakesPair : List ℕ → List ℕ → Option (ℕ × ℕ) → Type 0
TakesPair old new (Some pair) = Begins pair_field FitsPair pair old new
TakesPair old new None = length old < pair_bytes

-- the pairs whose bytes these are
abbrev pub pairs_of : List ℕ → List (ℕ × ℕ)
pairs_of (a ∷ b ∷ c ∷ d ∷ e ∷ f ∷ bytes) =
    (big_number 2 (a ∷ b ∷ []), big_number 4 (c ∷ d ∷ e ∷ f ∷ [])) ∷ pairs_of bytes
pairs_of bytes = []
