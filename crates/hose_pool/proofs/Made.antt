-- Rows that were all made are those of all nodes.
use Rattle.std.proofs.Common.{◌≡◌, ◌∙◌, ℕ, ◌<◌, Bool, List, Option, Some, Result, Ok, Err, IfOk, length, map, option_map, slice_index_or, ap, subst, sym, arith}
use Rattle.std.specs.List.{slice_get}
use Rattle.std.proofs.lemmas.List.{length-map}
use Rattle.std.proofs.lemmas.Option.{get_or_from_slice_get, slice_get-map, slice_get_within}
use Rattle.hose_graph.specs.Network.{Network}
use Rattle.hose_graph.specs.Row.{Distances}
use Rattle.hose_paths.specs.steps.Alike.{AreCostAlike}
use Rattle.hose_paths.specs.steps.Kept.{KeptRows}
use Rattle.hose_paths.specs.steps.Rows.{AreRows}
use Rattle.hose_paths.proofs.SameRows.{same_alike}
use Rattle.hose_pool.specs.steps.Rows.{IsMadeRow}

pub rows_made : (network : Network) (links : List Bool) (made : List (Option Distances)) (rows : List Distances) → map Some rows ≡ made → length made ≡ length network.nodes
    → ((root : ℕ) (none : Option Distances) → root < length made → IsMadeRow network links root (slice_index_or made root none)) → AreRows network links rows
rows_made network links made rows same nodes each = record {
  places = sym (length-map {A = Distances} {B = Option Distances} rows Some) ∙ ap length same ∙ nodes;
  each = λ root row there.
      let within = slice_get_within rows root row there in
      let size = sym (length-map {A = Distances} {B = Option Distances} rows Some) ∙ ap length same in
      let at : slice_get made root ≡ Some (Some row) = ap (λ (all : List (Option Distances)). slice_get all root) (sym same) ∙ slice_get-map Some rows root ∙ ap (option_map Some) there in
      let is : slice_index_or made root (Some row) ≡ Some row = get_or_from_slice_get made root (Some row) (Some row) at in
      subst (IsMadeRow network links root) is (each root (Some row) (omega arith));
}

-- new rows are of a network that is alike, as it is the same
pub built_alike : {E : Type 0} (top : Network) (made : Result KeptRows E) → IfOk made (λ (kept : KeptRows). kept.network ≡ top)
    → IfOk made (λ (kept : KeptRows). AreCostAlike kept.network top)
built_alike top (Ok kept) same = same_alike kept.network top same
built_alike top (Err e) same = tt
