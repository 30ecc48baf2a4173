-- The fields that entries are spelled with. Numbers stand highest byte first.
use Rattle.std.specs.Prelude.{ℕ, List, ◌∷◌, ◌++◌, length}
use Rattle.std.specs.List.{flat_map}
use Rattle.byteorder.specs.Endian.{big_bytes}
use Rattle.hose_graph.specs.Amounts.{ReservedLink}
use Rattle.hose_graph.specs.Hose.{Endpoint}
use Rattle.hose_graph.specs.Ascending.{IsAscending}
use Rattle.hose_graph.specs.Ranges.{AreInRanges}

-- a name: one byte of length, and its bytes
abbrev pub name_field : List ℕ → List ℕ
name_field name = length name ∷ name

-- an endpoint or an amount: two bytes of its node or link, and four of its rate or amount
abbrev pub pair_field : ℕ × ℕ → List ℕ
pair_field pair = big_bytes 2 pair.0 ++ big_bytes 4 pair.1

-- pairs, one after the other
abbrev pub pairs_field : List (ℕ × ℕ) → List ℕ
pairs_field pairs = flat_map pair_field pairs

-- the endpoints of a hose: one byte of their number, and each of them
abbrev pub ends_field : List Endpoint → List ℕ
ends_field ends = length ends ∷ pairs_field ends

-- amounts: two bytes of their number, and each of them
abbrev pub amounts_field : List ReservedLink → List ℕ
amounts_field amounts = big_bytes 2 (length amounts) ++ pairs_field amounts

-- the number of a VPN: four bytes
abbrev pub id_field : ℕ → List ℕ
id_field id = big_bytes 4 id

-- the number of a link: two bytes
abbrev pub link_field : ℕ → List ℕ
link_field link = big_bytes 2 link

-- amounts that the format has: in its ranges, with their links ascending
pub record AreFormatAmounts (amounts : List ReservedLink) : Type 0 where
  pub fit : AreInRanges amounts
  pub ascending : IsAscending amounts
