-- Amounts: what is reserved on links. Contracts see them as a list of links, each with its amount.
use Rattle.std.specs.Prelude.{ℕ}

-- a reserved link is a link and the amount that is reserved on it
abbrev pub ReservedLink : Type 0
ReservedLink = ℕ × ℕ

-- the link of a reserved link
abbrev pub link_of : ReservedLink → ℕ
link_of pair = pair.0

-- the amount of a reserved link
abbrev pub amount_of : ReservedLink → ℕ
amount_of pair = pair.1
