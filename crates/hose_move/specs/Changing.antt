-- When a network goes on from another one, and which is the first change where it does not.
use Rattle.std.specs.Prelude.{◌≡◌, ◌⊎◌, ℕ, ◌<◌, Option, Some, None, slice_get}
use Rattle.hose_graph.specs.Network.{IsLinkOf, IsNodeOf, Network}
use Rattle.hose_graph.specs.declared.topology.Link.{Link}
use Rattle.hose_move.specs.declared.changing.NetworkChange.{NetworkChange}
use Rattle.hose_move.specs.declared.changing.NetworkChange.TheVariants as change

-- two links join the same nodes, whichever of them each names first
abbrev pub JoinSame : Link → Link → Type 0
JoinSame one other =
    ((one.a ≡ other.a) × (one.b ≡ other.b)) ⊎ ((one.a ≡ other.b) × (one.b ≡ other.a))

-- a number has the same name in both networks
abbrev pub HaveSameNode : Network → Network → ℕ → Type 0
HaveSameNode old new node = slice_get new.nodes node ≡ slice_get old.nodes node

-- both networks have a link of this number, and these two join the same nodes
abbrev pub HaveSameLink : Network → Network → ℕ → Type 0
HaveSameLink old new link = (one : Link) × (other : Link) × (slice_get old.links link ≡ Some one)
    × (slice_get new.links link ≡ Some other) × JoinSame one other

-- The new network goes on from the old one: its first nodes have the old ones' names in order, and
-- its first links join the same nodes in order. More may follow, and the numbers of its links may
-- be others.
pub record GoesOnFrom (old new : Network) : Type 0 where
  pub nodes : (node : ℕ) → IsNodeOf old node → HaveSameNode old new node
  pub links : (link : ℕ) → IsLinkOf old link → HaveSameLink old new link

-- this is the first node of the old network that does not stay
pub record IsChangedNode (old new : Network) (node : ℕ) : Type 0 where
  pub is_node : IsNodeOf old node
  pub changed : ¬ HaveSameNode old new node
  pub first : (earlier : ℕ) → earlier < node → HaveSameNode old new earlier

-- this is the first link of the old network that does not stay
pub record IsChangedLink (old new : Network) (link : ℕ) : Type 0 where
  pub is_link : IsLinkOf old link
  pub changed : ¬ HaveSameLink old new link
  pub first : (earlier : ℕ) → earlier < link → HaveSameLink old new earlier

-- The first change from the old network to the new one: a node, or a link where all nodes stay;
-- none where the new network goes on from the old one.
abbrev pub IsFirstChange : Network → Network → Option NetworkChange → Type 0
IsFirstChange old new None = GoesOnFrom old new
IsFirstChange old new (Some (change.Node node)) = IsChangedNode old new node
IsFirstChange old new (Some (change.Link link)) =
    ((node : ℕ) → IsNodeOf old node → HaveSameNode old new node) × IsChangedLink old new link
