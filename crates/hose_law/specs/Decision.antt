-- What the server decides of a hose at the room that a book leaves, and on which grounds.
use Rattle.std.specs.Prelude.{◌≡◌, ◌⊎◌, ℕ, ◌≤◌, Bool, true, false, List, [], ◌∷◌, length, replicate, slice_index, All, Contains, ◌↔◌}
use Rattle.std.specs.List.Sorted.{IsStrictlyIncreasing}
use Rattle.hose_graph.specs.Amounts.{ReservedLink, link_of, amount_of}
use Rattle.hose_graph.specs.Hose.{Endpoint, node_of}
use Rattle.hose_graph.specs.Network.{Network}
use Rattle.hose_law.specs.Walk.{Reaches}
use Rattle.hose_law.specs.CanonicalPlan.{IsCanonicalPlan}
use Rattle.hose_law.specs.Tree.{IsTreeReservation}
use Rattle.hose_law.specs.Book.{Book}
use Rattle.hose_law.specs.Room.{Room, room_of, safe_links}

-- each amount is at most what its link has free
abbrev pub Fits : List ℕ → List ReservedLink → Type 0
Fits free plan =
    All (λ (pair : ReservedLink). amount_of pair ≤ slice_index free (link_of pair)) plan

-- these amounts can be reserved: they are what the hose reserves on some tree of the room's links,
-- and fit
pub record CanBeReserved (network : Network) (room : Room) (hose : List Endpoint)
    (plan : List ReservedLink) : Type 0 where
  pub on_tree : IsTreeReservation network room.links hose plan
  pub fits : Fits room.free plan

-- this is the first plan, and it fits
pub record IsFirstFit (network : Network) (room : Room) (hose : List Endpoint)
    (plan : List ReservedLink) : Type 0 where
  pub is_plan : IsCanonicalPlan network room.links hose plan
  pub fits : Fits room.free plan

-- the first plan exists and fits
abbrev pub HasFirstFit : Network → Room → List Endpoint → Type 0
HasFirstFit network room hose = (plan : List ReservedLink) × IsFirstFit network room hose plan

-- the set of links over which a plan is allowed: that of the first plan where it exists and fits,
-- else the safe links
abbrev pub IsAllowed : Network → Room → List Endpoint → List Bool → Type 0
IsAllowed network room hose set =
    (HasFirstFit network room hose × (set ≡ room.links))
    ⊎ ((¬ HasFirstFit network room hose) × (set ≡ safe_links room hose))

-- The decision is to admit the hose with this plan over this set: the set is the one that is
-- allowed, and the plan is the canonical one over it. Over the safe links a plan always fits.
pub record IsPlannedOver (network : Network) (room : Room) (hose : List Endpoint)
    (set : List Bool) (plan : List ReservedLink) : Type 0 where
  pub allowed : IsAllowed network room hose set
  pub is_plan : IsCanonicalPlan network set hose plan

-- the decision is to admit the hose with this plan, over whichever set is allowed
abbrev pub IsPlanned : Network → Room → List Endpoint → List ReservedLink → Type 0
IsPlanned network room hose plan = (set : List Bool) × IsPlannedOver network room hose set plan

-- the nodes that a node reaches over a set of links, ascending
pub record IsReachedList (network : Network) (set : List Bool) (from : ℕ)
    (nodes : List ℕ) : Type 0 where
  pub ascending : IsStrictlyIncreasing nodes
  pub reached : (v : ℕ) → Contains nodes v ↔ Reaches network set from v

-- the lowest-numbered endpoint's node: a hose names its endpoints in ascending order
abbrev pub lowest_end : List Endpoint → ℕ
lowest_end [] = 0
lowest_end (end ∷ ends) = node_of end

-- The decision is to refuse the hose: there is no plan to admit it with, and the side is what the
-- lowest endpoint reaches over the safe links.
pub record IsRefused (network : Network) (room : Room) (hose : List Endpoint)
    (side : List ℕ) : Type 0 where
  pub no_plan : (plan : List ReservedLink) → ¬ IsPlanned network room hose plan
  pub is_side : IsReachedList network (safe_links room hose) (lowest_end hose) side

-- The grounds of a decision: the links in service, over which the first plan is made; whether the
-- first plan exists and fits; and where it does not, the safe links, else no link.
abbrev pub AreGrounds : Network → Room → List Endpoint → List Bool → Bool → List Bool → Type 0
AreGrounds network room hose service true safe =
    (service ≡ room.links) × HasFirstFit network room hose
    × (safe ≡ replicate (length network.links) false)
AreGrounds network room hose service false safe =
    (service ≡ room.links) × (¬ HasFirstFit network room hose) × (safe ≡ safe_links room hose)

-- the decisions on a hose at two books have the same grounds
pub record HaveEqualGrounds (network : Network) (one other : Book)
    (hose : List Endpoint) : Type 0 where
  pub service : List Bool
  pub fits : Bool
  pub safe : List Bool
  pub here : AreGrounds network (room_of network one) hose service fits safe
  pub there : AreGrounds network (room_of network other) hose service fits safe
