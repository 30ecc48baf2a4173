-- A network under the costs of several tariffs, and what bounds are made of.
use Rattle.std.specs.Prelude.{◌≡◌, ℕ, ◌≤◌, List, length, All, ⊤}
use Rattle.hose_graph.specs.Network.{Network}
use Rattle.hose_graph.specs.Limits.{most_cost}
use Rattle.hose_tariff.specs.Fact.{IsPrice, IsPricedBy}
use Rattle.hose_price.specs.declared.sheet.Column.{Column}
use Rattle.hose_price.specs.Limits.{most_tariffs}

-- a link costs 1, whatever its length
abbrev pub costs_one : ℕ → ℕ → Type 0
costs_one length cost = cost ≡ 1

-- a link costs its length
abbrev pub costs_length : ℕ → ℕ → Type 0
costs_length length cost = cost ≡ length

-- a link may cost whatever it does
abbrev pub costs_something : ℕ → ℕ → Type 0
costs_something length cost = ⊤

-- The network; the same where each link costs 1, and where it costs its length; and the same by
-- each tariff.
pub record Sheet : Type 0 where
  pub network : Network
  pub hops : Network
  pub lengths : Network
  pub columns : List Column

-- the column is of the network by these costs, with these bounds
pub record IsColumnBy (prices : Network → Network → Type 0) (base per : ℕ) (network : Network)
    (column : Column) : Type 0 where
  pub is_base : column.base ≡ base
  pub is_per : column.per ≡ per
  pub top : prices network column.top

-- the column is of the network, each link of which costs what the column's bounds allow
pub record IsColumn (network : Network) (column : Column) : Type 0 where
  pub base : column.base ≤ most_cost
  pub per : column.per ≤ most_cost
  pub top : IsPricedBy (IsPrice column.base column.per) network column.top

-- each part is of the network, with the costs that its name says
pub record IsSheet (sheet : Sheet) : Type 0 where
  pub hops : IsPricedBy costs_one sheet.network sheet.hops
  pub lengths : IsPricedBy costs_length sheet.network sheet.lengths
  pub columns : All (IsColumn sheet.network) sheet.columns
  pub some : 1 ≤ length sheet.columns
  pub few : length sheet.columns ≤ most_tariffs
