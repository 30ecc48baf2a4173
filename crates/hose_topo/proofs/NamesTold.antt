-- Names of nodes as a topology tells them.
use Rattle.std.proofs.Common.{◌≡◌, ℕ, List, [], get_or, Some, sym, ◌∙◌}
use Rattle.std.specs.Prelude.{slice_get}
use Rattle.std.proofs.lemmas.Option.{get_or_from_slice_get}

-- the bytes of the name of a node
pub name_told : (names : List (List ℕ)) (node : ℕ) (name bytes : List ℕ) → slice_get names node ≡ Some name → bytes ≡ name → bytes ≡ get_or names node []
name_told names node name bytes told same = same ∙ sym (get_or_from_slice_get names node name [] told)
