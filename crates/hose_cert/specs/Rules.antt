-- The rules of a certificate: numbers from which it is seen that no root weighs less than a plan
-- costs.
use Rattle.std.specs.Prelude.{◌≡◌, ◌⊎◌, ◌↔◌, ℕ, ◌+◌, ◌*◌, ◌<◌, ◌≤◌, Bool, not, List, ◌∷◌, Contains, length, map, sum_by, slice_index}
use Rattle.hose_graph.specs.Amounts.{ReservedLink}
use Rattle.hose_graph.specs.Hose.{Endpoint, node_of, rate_of}
use Rattle.hose_graph.specs.Network.{Network}
use Rattle.hose_law.specs.Plan.{plan_cost}
use Rattle.hose_law.specs.Tree.{IsTreeReservation}
use Rattle.hose_law.specs.Walk.{IsIn, Joins, all_links, cost_of}
use Rattle.hose_cert.specs.CertLine.{CertLine, cost_line, hose_line}
use Rattle.hose_cert.specs.Certificate.{left_out_in, numbers_in, used_in}

-- what a certificate claims: that this hose cannot be carried at less than this cost, which these
-- amounts have, by a tree without these links
pub record CertClaim : Type 0 where
  pub cost : ℕ
  pub hose : List Endpoint
  pub pairs : List ReservedLink
  pub without : List Bool

-- a set has the links that are named, and no other
pub record HasNamed (network : Network) (named : List ℕ) (set : List Bool) : Type 0 where
  pub places : length set ≡ length network.links
  pub has : (link : ℕ) → IsIn set link ↔ Contains named link

-- the links that a set has not
abbrev pub others_of : List Bool → List Bool
others_of set = map not set

-- the lines of a certificate claim this
pub record Claims (network : Network) (lines : List CertLine) (claim : CertClaim) : Type 0 where
  pub more : List CertLine
  pub front : lines ≡ cost_line claim.cost ∷ hose_line claim.hose ∷ more
  pub pairs : claim.pairs ≡ used_in lines
  pub without : HasNamed network (left_out_in lines) claim.without

-- The numbers of two nodes that a link of the set joins differ by no more than it costs. A link
-- joins its nodes both ways, so one direction says both.
abbrev pub DifferWithinCosts : Network → List Bool → List ℕ → Type 0
DifferWithinCosts network set numbers = (l u v : ℕ) → IsIn set l → Joins network l u v
    → slice_index numbers v ≤ slice_index numbers u + cost_of network l

-- what a hose weighs by the numbers of a root
abbrev pub weighed_by : List ℕ → List Endpoint → ℕ
weighed_by numbers hose =
    sum_by (λ (end : Endpoint). rate_of end * slice_index numbers (node_of end)) hose

module _ (network : Network) (lines : List CertLine) (claim : CertClaim) where
  -- each root's numbers are so
  abbrev pub AtEachRoot : (ℕ → List ℕ → Type 0) → Type 0
  AtEachRoot Is = (root : ℕ) → root < length network.nodes → Is root (numbers_in root lines)

  -- rule 2: the amounts are what the hose reserves on some tree that joins it
  abbrev pub ClaimsTree : Type 0
  ClaimsTree = IsTreeReservation network (all_links network) claim.hose claim.pairs

  -- rule 3: they cost what is claimed
  abbrev pub CostAsClaimed : Type 0
  CostAsClaimed = plan_cost network claim.pairs ≡ claim.cost

  -- rule 4: the number of each root at itself is 0
  abbrev pub StartAtRoots : Type 0
  StartAtRoots = AtEachRoot (λ root numbers. slice_index numbers root ≡ 0)

  -- rule 5: along a link that was not left out no number changes by more than the link's cost
  abbrev pub ChangeWithinCosts : Type 0
  ChangeWithinCosts =
      AtEachRoot (λ root numbers. DifferWithinCosts network (others_of claim.without) numbers)

  -- rule 6: by each root's numbers the hose weighs at least what is claimed
  abbrev pub WeighEnough : Type 0
  WeighEnough = AtEachRoot (λ root numbers. claim.cost ≤ weighed_by numbers claim.hose)

  -- The claim meets the rules 2 to 6.
  pub record MeetsRules : Type 0 where
    pub tree : ClaimsTree
    pub costs : CostAsClaimed
    pub roots : StartAtRoots
    pub changes : ChangeWithinCosts
    pub weighs : WeighEnough

  -- The claim breaks this rule, and meets those before it.
  abbrev pub BreaksFirst : ℕ → Type 0
  BreaksFirst rule =
      ((rule ≡ 2) × (¬ ClaimsTree))
      ⊎ ((rule ≡ 3) × ClaimsTree × (¬ CostAsClaimed))
      ⊎ ((rule ≡ 4) × ClaimsTree × CostAsClaimed × (¬ StartAtRoots))
      ⊎ ((rule ≡ 5) × ClaimsTree × CostAsClaimed × StartAtRoots × (¬ ChangeWithinCosts))
      ⊎ ((rule ≡ 6) × ClaimsTree × CostAsClaimed × StartAtRoots × ChangeWithinCosts
      × (¬ WeighEnough))
