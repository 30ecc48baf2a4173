-- Rows of the first nodes, and one more.
use Rattle.std.proofs.Common.{◌≡◌, ◌∙◌, ℕ, ◌<◌, Bool, List, [], ◌∷◌, ◌++◌, Some, length, refl, sym, subst, inl, inr, arith, length-append}
use Rattle.std.specs.List.{slice_get}
use Rattle.std.proofs.lemmas.Bool.{cases_eq}
use Rattle.std.proofs.lemmas.List.{get_or_append_left, get_or_push}
use Rattle.std.proofs.lemmas.Option.{get_or_from_slice_get, slice_get_read, slice_get_within}
use Rattle.hose_graph.specs.Network.{Network}
use Rattle.hose_graph.specs.Row.{Distances}
use Rattle.hose_paths.specs.steps.Rows.{AreFirstRows, AreRows, IsRowOf}

-- what holds of each element and of one more
pub each_more : (P : ℕ → Distances → Type 0) (rows : List Distances) (new : Distances)
    → ((k : ℕ) (row : Distances) → slice_get rows k ≡ Some row → P k row) → P (length rows) new
    → (k : ℕ) (row : Distances) → slice_get (rows ++ new ∷ []) k ≡ Some row → P k row
each_more P rows new each last k row there =
    let within = slice_get_within (rows ++ new ∷ []) k row there in
    let read = get_or_from_slice_get (rows ++ new ∷ []) k row row there in
    elim (cases_eq k (length rows)) [
      | inl same ↦
          let is : new ≡ row = sym (get_or_push rows new row k (sym same)) ∙ read in
          subst (P k) is (subst (λ (n : ℕ). P n new) (sym same) last)
      | inr differ ↦
          let below : k < length rows = omega (arith, within, length-append rows (new ∷ []), differ) in
          each k row (slice_get_read rows (length rows) k row refl below (sym (sym (get_or_append_left rows (new ∷ []) row k below) ∙ read)))
    ]

-- the row of the next node may follow those of the first ones
pub first_more : (network : Network) (links : List Bool) (rows : List Distances) (new : Distances) → AreFirstRows network links rows → length rows < length network.nodes
    → IsRowOf network links (length rows) new → AreFirstRows network links (rows ++ new ∷ [])
first_more network links rows new first more is = record {
  few = omega (arith, length-append rows (new ∷ []), more);
  each = each_more (IsRowOf network links) rows new first.each is;
}

-- as many rows as nodes are all rows
pub all_rows : (network : Network) (links : List Bool) (rows : List Distances) → AreFirstRows network links rows → length rows ≡ length network.nodes
    → AreRows network links rows
all_rows network links rows first all = record { places = all; each = first.each }
