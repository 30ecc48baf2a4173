-- Amounts on the links of a tree, whichever they are, and whether they carry a hose.
use Rattle.std.specs.Prelude.{◌≡◌, ◌↔◌, ℕ, ◌≤◌, Bool, List, length, All, Contains}
use Rattle.std.specs.List.{zip}
use Rattle.hose_graph.specs.Amounts.{ReservedLink, link_of, amount_of}
use Rattle.hose_graph.specs.Ascending.{IsAscending}
use Rattle.hose_graph.specs.Hose.{Endpoint}
use Rattle.hose_graph.specs.Network.{Network}
use Rattle.hose_law.specs.Matrix.{IsWithinRates}
use Rattle.hose_law.specs.Route.{matrix_load}
use Rattle.hose_law.specs.Tree.{Growth, IsTree, IsTreeOver, JoinsHose, links_of}

-- the links of a tree, each beside its amount, for amounts of which there is one for each step
abbrev pub amounts_on : Growth → List ℕ → List ReservedLink
amounts_on tree amounts = zip (links_of tree) amounts

-- Amounts, one for each step, carry a hose on a tree: the tree joins the hose, and no matrix within
-- the rates puts more on a link than the link's amount.
pub record Carry (tree : Growth) (hose : List Endpoint) (amounts : List ℕ) : Type 0 where
  pub joins : JoinsHose tree hose
  pub places : length amounts ≡ length tree.steps
  pub enough : (matrix : List (List ℕ)) → IsWithinRates hose matrix
      → All (λ pair. matrix_load tree hose matrix (link_of pair) ≤ amount_of pair)
      (amounts_on tree amounts)

-- The pairs stand for amounts on a tree: they are its links with their amounts, in the order of
-- links.
pub record StandFor (tree : Growth) (amounts : List ℕ) (pairs : List ReservedLink) : Type 0 where
  pub ascending : IsAscending pairs
  pub each : (pair : ReservedLink) → Contains pairs pair ↔ Contains (amounts_on tree amounts) pair

-- the pairs stand for amounts that carry a hose on this tree
abbrev pub CarryOn : Growth → List Endpoint → List ReservedLink → Type 0
CarryOn tree hose pairs =
    (amounts : List ℕ) × StandFor tree amounts pairs × Carry tree hose amounts

-- the pairs stand for amounts that carry a hose on some tree over a set of links
pub record CarryOver (network : Network) (set : List Bool) (hose : List Endpoint)
    (pairs : List ReservedLink) : Type 0 where
  pub tree : Growth
  pub is_tree : IsTree network tree
  pub over : IsTreeOver set tree
  pub carries : CarryOn tree hose pairs
