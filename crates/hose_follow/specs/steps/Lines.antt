-- Lines of a connection: steps of proofs.
use Rattle.std.specs.Prelude.{◌≡◌, ◌≢◌, ℕ, List, [], ◌∷◌, ◌++◌, All, Contains}
use Rattle.std.specs.List.{flat_map}

-- the bytes have this line, whole
pub record HasLine (bytes line : List ℕ) : Type 0 where
  pub lines : List (List ℕ)
  pub rest : List ℕ
  pub cut : bytes ≡ flat_map (λ each. each ++ 10 ∷ []) lines ++ rest
  pub plain : All (All (λ byte. byte ≢ 10)) lines
  pub there : Contains lines line
