-- What is decided of a hose over the links in service and beside loads, as the planner answers it.
use Rattle.std.specs.Prelude.{◌≡◌, ◌↔◌, ℕ, ◌<◌, ◌&&◌, Bool, false, List, All, IsTrue, length, nat_le, slice_index, slice_index_or, if◌then◌else◌, ⊤}
use Rattle.hose_plan.specs.declared.decision.Grounds.{Grounds}
use Rattle.hose_plan.specs.declared.decision.Decision.{Decision}
use Rattle.hose_plan.specs.declared.decision.Decision.TheVariants.{Plan, Refused}
use Rattle.hose_graph.specs.Hose.{Endpoint}
use Rattle.hose_graph.specs.Network.{Network}
use Rattle.hose_law.specs.Book.{Book, loads_of}
use Rattle.hose_law.specs.CanonicalPlan.{IsRoot}
use Rattle.hose_law.specs.Cheapest.{IsCheapest}
use Rattle.hose_law.specs.Decision.{AreGrounds, CanBeReserved, HaveEqualGrounds, IsPlannedOver, IsRefused}
use Rattle.hose_law.specs.Plan.{plan_cost}
use Rattle.hose_law.specs.Room.{Room, first_links, free_rates, half_rate, room_of, safe_links}
use Rattle.hose_law.specs.Recent.{Change}
use Rattle.hose_law.specs.steps.Tracks.{IsNamedSince}
use Rattle.hose_plan.specs.steps.Rooting.{IsPlanOver}

-- the room beside loads: the first plan may be made over the links in service, and each link has
-- free what its load leaves of its capacity
abbrev pub room_beside : Network → List Bool → List ℕ → Room
room_beside network service loads =
    record { links = service; free = free_rates network loads }

-- these are the grounds of the decision, with the hose's first plan, or none where there is none
pub record AreGroundsOf (network : Network) (room : Room) (hose : List Endpoint)
    (grounds : Grounds) : Type 0 where
  pub first : IsPlanOver network room.links hose grounds.first
  pub half : grounds.half ≡ half_rate hose
  pub rests_on : AreGrounds network room hose grounds.service grounds.first_fits grounds.safe

-- these are the grounds of some hose at some room, with a place in service for each link
abbrev pub AreMade : Network → Grounds → Type 0
AreMade network grounds =
    (hose : List Endpoint) × (room : Room) × (length room.links ≡ length network.links)
    × AreGroundsOf network room hose grounds

-- a link is in service just where it was
abbrev pub IsServedStill : List Bool → List Bool → ℕ → Type 0
IsServedStill before now l = slice_index_or before l false ≡ slice_index_or now l false

-- the loads are those of before, but on the links that a pair of a later epoch names
abbrev pub AreLoadsSince : Network → List Change → ℕ → List ℕ → List ℕ → Type 0
AreLoadsSince network changes seen before now =
    (l : ℕ) → l < length network.links → (¬ IsNamedSince changes seen l)
    → slice_index before l ≡ slice_index now l

-- the links in service are those of before, but for the links that a pair of a later epoch names
abbrev pub AreServedSince : Network → List Change → ℕ → List Bool → List Bool → Type 0
AreServedSince network changes seen before now =
    (l : ℕ) → l < length network.links → (¬ IsNamedSince changes seen l)
    → IsServedStill before now l

-- these are the grounds of some hose over links in service and beside loads that were these, but on
-- the links that a pair of a later epoch names
pub record AreMadeSince (network : Network) (service : List Bool) (now : List ℕ)
    (grounds : Grounds) (changes : List Change) (seen : ℕ) : Type 0 where
  pub hose : List Endpoint
  pub served : List Bool
  pub before : List ℕ
  pub places : length served ≡ length network.links
  pub same_service : AreServedSince network changes seen served service
  pub same : AreLoadsSince network changes seen before now
  pub are : AreGroundsOf network (room_beside network served before) hose grounds

-- a link is in a set just where it is in service and has this much free beside loads
abbrev pub IsSafeStill : Network → List Bool → List ℕ → ℕ → List Bool → ℕ → Type 0
IsSafeStill network service loads half safe l =
    slice_index_or safe l false
    ≡ (slice_index_or service l false && nat_le half (slice_index (free_rates network loads) l))

-- the first plan fits just where it did, and where it does not fit the safe links are the same
abbrev pub HoldBySafe : Network → Room → List Endpoint → Grounds → Bool → Type 0
HoldBySafe network room hose grounds fits_as_before =
    IsTrue fits_as_before
    × (grounds.first_fits ≡ false → grounds.safe ≡ safe_links room hose)

-- says whether grounds of a hose at any earlier room are its grounds at the room beside these loads
abbrev pub TellsRooms : Network → List Bool → List ℕ → Grounds → Bool → Type 0
TellsRooms network service loads grounds told =
    (hose : List Endpoint) (earlier : Room) → AreGroundsOf network earlier hose grounds
    → (IsTrue told ↔ AreGroundsOf network (room_beside network service loads) hose grounds)

-- says whether the grounds of a hose at any earlier book equal those at a book of these loads
abbrev pub TellsBooks : Network → List Bool → List ℕ → Grounds → Bool → Type 0
TellsBooks network service loads grounds told =
    (hose : List Endpoint) (earlier now : Book)
    → service ≡ first_links network now → loads ≡ loads_of network now
    → AreGroundsOf network (room_of network earlier) hose grounds
    → (IsTrue told ↔ HaveEqualGrounds network earlier now hose)

-- the links over which grounds allow a plan: those of the first plan where it fits, else the safe
-- ones
abbrev pub allowed_links : Room → Grounds → List Bool
allowed_links room grounds = if grounds.first_fits then room.links else grounds.safe

-- the decision is this plan over the links that are allowed, at this cost and on these grounds; or
-- a refusal with this side
abbrev pub IsDecision : Network → Room → List Endpoint → Decision → Type 0
IsDecision network room hose (Plan grounds amounts cost) =
    IsPlannedOver network room hose (allowed_links room grounds) amounts
    × (cost ≡ plan_cost network amounts) × AreGroundsOf network room hose grounds
IsDecision network room hose (Refused side) = IsRefused network room hose side

-- what it admits can be reserved
abbrev pub IsSoundDecision : Network → Room → List Endpoint → Decision → Type 0
IsSoundDecision network room hose (Plan grounds amounts cost) =
    CanBeReserved network room hose amounts
IsSoundDecision network room hose (Refused side) = ⊤

-- what it admits is a cheapest way to carry the hose over the links that are allowed, and costs
-- what the root over them weighs
abbrev pub IsCheapestDecision : Network → Room → List Endpoint → Decision → Type 0
IsCheapestDecision network room hose (Plan grounds amounts cost) =
    IsCheapest network (allowed_links room grounds) hose amounts
    × ((root : ℕ) × IsRoot network (allowed_links room grounds) hose root cost)
IsCheapestDecision network room hose (Refused side) = ⊤

-- each node of its side is one of the network
abbrev pub NamesNodes : Network → Decision → Type 0
NamesNodes network (Plan grounds amounts cost) = ⊤
NamesNodes network (Refused side) = All (λ node. node < length network.nodes) side
