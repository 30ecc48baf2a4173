-- The chain of a list of entries: one value of 32 bytes that says which entries they are, and in
-- which order: steps of proofs.
use Rattle.std.specs.Prelude.{◌≡◌, ◌≢◌, ℕ, List, [], ◌∷◌, ◌++◌, Contains}
use Rattle.sha2.specs.Sha256.{sha256}
use Rattle.hose_graph.specs.declared.entry.Entry.{Entry}
use Rattle.hose_codec.specs.Spelling.{spelling}

-- the strings that are hashed for the chain value after these items, from this value on
abbrev pub hashed_from : {X : Type 0} → (List ℕ → List ℕ) → (X → List ℕ) → List ℕ → List X →
    List (List ℕ)
hashed_from hash spell value [] = []
hashed_from hash spell value (item ∷ items) =
    (value ++ spell item) ∷ hashed_from hash spell (hash (value ++ spell item)) items

-- two different strings among these have one hash
pub record Collide (hash : List ℕ → List ℕ) (strings : List (List ℕ)) : Type 0 where
  pub one : List ℕ
  pub other : List ℕ
  pub one_there : Contains strings one
  pub other_there : Contains strings other
  pub differ : one ≢ other
  pub same : hash one ≡ hash other

-- the strings whose SHA-256 is taken for the chain value of these entries
abbrev pub hashed : List ℕ → List Entry → List (List ℕ)
hashed digest entries = hashed_from sha256 spelling digest entries
