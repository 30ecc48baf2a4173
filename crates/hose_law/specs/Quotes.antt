-- The quotes that customers hold.
use Rattle.std.specs.Prelude.{ℕ, zero, suc, ◌+◌, List, Option, None, is_none, option_map, position, replicate, set, slice_index_or, if◌then◌else◌}
use Rattle.std.specs.Str.{bytes_eq}
use Rattle.hose_graph.specs.Hose.{Endpoint}
use Rattle.hose_graph.specs.Limits.{most_quotes}

-- a quote: the hose that was planned, and the place of the history at which it was
pub record HeldQuote : Type 0 where
  pub hose : List Endpoint
  pub place : ℕ

-- what a customer holds: a quote or none for each number, from 1 on
abbrev pub Holding : Type 0
Holding = List (Option HeldQuote)

-- nothing stands at any number that a quote can have
abbrev pub none_held : {X : Type 0} → List (Option X)
none_held = replicate most_quotes None

-- what stands at a number, where they begin with 1
abbrev pub at_number : {X : Type 0} → List (Option X) → ℕ → Option X
at_number quotes zero = None
at_number quotes (suc index) = slice_index_or quotes index None

-- what a customer holds, with this at a number
abbrev pub with_number : {X : Type 0} → List (Option X) → ℕ → Option X → List (Option X)
with_number quotes zero quote = quotes
with_number quotes (suc index) quote = set quotes index quote

-- the lowest number at which nothing stands
abbrev pub free_number : {X : Type 0} → List (Option X) → Option ℕ
free_number quotes = option_map (λ index. index + 1) (position is_none quotes)

-- ---- of all customers

-- what each customer holds, by name
abbrev pub Holdings : Type 0
Holdings = List ℕ → Holding

-- no customer holds a quote
abbrev pub nothing_held : Holdings
nothing_held = λ customer. none_held

-- with this held by a customer
abbrev pub with_held : Holdings → List ℕ → Holding → Holdings
with_held holdings customer held =
    λ name. if bytes_eq customer name then held else holdings name
