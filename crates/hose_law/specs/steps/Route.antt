-- Routes on a tree, and what a matrix puts on its links: steps of proofs.
use Rattle.std.specs.Prelude.{◌≡◌, ◌↔◌, ℕ, Contains}
use Rattle.hose_law.specs.Tree.{Growth, IsOn, links_of}
use Rattle.hose_law.specs.Route.{is_on_route}

-- two trees have the same nodes and the same links
pub record AreSame (one other : Growth) : Type 0 where
  pub nodes : (v : ℕ) → IsOn one.start one.steps v ↔ IsOn other.start other.steps v
  pub links : (l : ℕ) → Contains (links_of one) l ↔ Contains (links_of other) l

-- each two nodes have the same route on both
abbrev pub HaveSameRoutes : Growth → Growth → Type 0
HaveSameRoutes one other =
    (u v l : ℕ) → IsOn one.start one.steps u → IsOn one.start one.steps v
    → is_on_route one u v l ≡ is_on_route other u v l
