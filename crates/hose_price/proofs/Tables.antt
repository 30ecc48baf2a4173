-- The networks of a sheet, and the tables over them, place after place.
use Rattle.std.proofs.Common.{◌≡◌, ◌∙◌, ℕ, ◌+◌, ◌<◌, Bool, List, [], ◌∷◌, ◌++◌, length, get_or, map, take, sym, ap}
use Rattle.std.proofs.lemmas.List.{map-append, take_more}
use Rattle.hose_graph.specs.Network.{Network}
use Rattle.hose_law.specs.Walk.{all_links}
use Rattle.hose_paths.specs.steps.Kept.{KeptRows}
use Rattle.hose_price.specs.declared.sheet.Column.{Column}
use Rattle.hose_price.specs.Sheet.{Sheet}

module _ (sheet : Sheet) where
  -- the networks up to a place
  abbrev pub networks_to : ℕ → List Network
  networks_to place = sheet.hops ∷ sheet.lengths ∷ map (λ (column : Column). column.top) (take place sheet.columns)

  -- one more
  to_more : (place : ℕ) (column : Column) → place < length sheet.columns → ((d : Column) → column ≡ get_or sheet.columns place d)
      → networks_to (place + 1) ≡ networks_to place ++ column.top ∷ []
  to_more place column inside is =
      let more = ap (map (λ (c : Column). c.top)) (take_more sheet.columns place column inside) ∙ map-append (λ (c : Column). c.top) (take place sheet.columns) (get_or sheet.columns place column ∷ []) in
      let last = ap (λ (c : Column). map (λ (d : Column). d.top) (take place sheet.columns) ++ c.top ∷ []) (sym (is column)) in
      ap (λ (networks : List Network). sheet.hops ∷ sheet.lengths ∷ networks) (more ∙ last)

  module _ (place : ℕ) (column : Column) (inside : place < length sheet.columns) (is : (d : Column) → column ≡ get_or sheet.columns place d) (tables : List KeptRows) (table : KeptRows) where
    pub networks_more : table.network ≡ column.top → map (λ (t : KeptRows). t.network) tables ≡ networks_to place
        → map (λ (t : KeptRows). t.network) (tables ++ table ∷ []) ≡ networks_to (place + 1)
    networks_more same are =
        map-append (λ (t : KeptRows). t.network) tables (table ∷ []) ∙ ap (λ (ns : List Network). ns ++ table.network ∷ []) are
        ∙ ap (λ (n : Network). networks_to place ++ n ∷ []) same ∙ sym (to_more place column inside is)

    pub links_more : table.links ≡ all_links column.top → map (λ (t : KeptRows). t.links) tables ≡ map all_links (networks_to place)
        → map (λ (t : KeptRows). t.links) (tables ++ table ∷ []) ≡ map all_links (networks_to (place + 1))
    links_more same are =
        map-append (λ (t : KeptRows). t.links) tables (table ∷ []) ∙ ap (λ (ls : List (List Bool)). ls ++ table.links ∷ []) are
        ∙ ap (λ (l : List Bool). map all_links (networks_to place) ++ l ∷ []) same ∙ sym (map-append all_links (networks_to place) (column.top ∷ []))
        ∙ sym (ap (map all_links) (to_more place column inside is))
