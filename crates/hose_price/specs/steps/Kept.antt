-- Tables of rows by the costs that a table of prices needs.
use Rattle.std.specs.Prelude.{◌≡◌, List, map, ◌∷◌}
use Rattle.hose_graph.specs.Network.{Network}
use Rattle.hose_law.specs.Walk.{all_links}
use Rattle.hose_paths.specs.steps.Kept.{KeptRows}
use Rattle.hose_price.specs.declared.sheet.Column.{Column}
use Rattle.hose_price.specs.Sheet.{Sheet}

-- the networks by whose costs a line is made
abbrev pub networks_of : Sheet → List Network
networks_of sheet = sheet.hops ∷ sheet.lengths ∷ map (λ (column : Column). column.top) sheet.columns

-- the tables are over all links of these networks, in order
pub record AreTablesOf (sheet : Sheet) (tables : List KeptRows) : Type 0 where
  pub networks : map (λ (table : KeptRows). table.network) tables ≡ networks_of sheet
  pub links : map (λ (table : KeptRows). table.links) tables ≡ map all_links (networks_of sheet)
