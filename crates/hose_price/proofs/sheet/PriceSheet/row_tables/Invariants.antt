-- Tables of the networks so far.
use Rattle.std.proofs.Common.{◌≡◌, ◌+◌, ◌≤◌, ◌∷◌, length, map, take, vec_capacity}
use Rattle.hose_law.specs.Walk.{all_links}
use Rattle.hose_price.proofs.sheet.PriceSheet.row_tables.Given as goal

abbrev pub invariant-loop-place : goal.invariant-loop-place
invariant-loop-place l = (map (λ table. table.network) l.tables.items ≡ l.self.hops ∷ l.self.lengths ∷ map (λ column. column.top) (take l.place l.self.columns))
    × (map (λ table. table.links) l.tables.items ≡ map all_links (l.self.hops ∷ l.self.lengths ∷ map (λ column. column.top) (take l.place l.self.columns)))
    × (length l.tables.items ≡ l.place + 2) × (length l.self.columns + 2 ≤ vec_capacity l.tables)
