-- What is written of a plan over all links: the lines of its certificate, and their text.
use Rattle.std.specs.Prelude.{◌≡◌, ℕ, ◌+◌, ◌-◌, ◌*◌, ◌/◌, ◌<◌, false, List, [], ◌∷◌, ◌++◌, Option, drop, length, map, replicate, take, unwrap_or}
use Rattle.std.specs.List.{flat_map, range_with_len}
use Rattle.hose_io.specs.Stream.{Grows}
use Rattle.hose_io.specs.Writing.{GrowsInPart}
use Rattle.hose_graph.specs.Amounts.{ReservedLink}
use Rattle.hose_graph.specs.Hose.{Endpoint}
use Rattle.hose_graph.specs.Network.{Network}
use Rattle.hose_graph.specs.Row.{Distances}
use Rattle.hose_law.specs.CanonicalPlan.{IsCanonicalPlan}
use Rattle.hose_law.specs.Plan.{plan_cost}
use Rattle.hose_law.specs.Row.{IsRow}
use Rattle.hose_law.specs.Walk.{all_links}
use Rattle.hose_proto.specs.ReplyText.{line_of}
use Rattle.hose_cert.specs.CertLine.{CertLine, cost_line, end_line, hose_line, line_text, numbers_from, pot_line, use_line}
use Rattle.hose_cert.specs.Rules.{CertClaim}
use Rattle.hose_cert.specs.Verdict.{IsValid}
use Rattle.hose_cert.specs.Limits.{line_numbers}

-- the text of lines, each of which a line feed ends
abbrev pub certificate_text : Network → List CertLine → List ℕ
certificate_text network lines = flat_map (λ line. line_of (line_text network line)) lines

-- ---- the lines of a plan

-- the numbers of a row: its distances, and this number where there is no walk
abbrev pub numbers_of : ℕ → List (Option ℕ) → List ℕ
numbers_of most dist = map (λ distance. unwrap_or distance most) dist

-- how many lines the numbers of a root take
abbrev pub blocks_of : Network → ℕ
blocks_of network = (length network.nodes + (line_numbers - 1)) / line_numbers

-- a line of the numbers of a root
abbrev pub block_line : Network → ℕ → List ℕ → ℕ → CertLine
block_line network root numbers block =
    let from = block * line_numbers in
    pot_line root from (take (numbers_from network from) (drop from numbers))

-- the lines of the numbers of a root, one after the other
abbrev pub root_lines : Network → ℕ → List ℕ → List CertLine
root_lines network root numbers =
    map (block_line network root numbers) (range_with_len 0 (blocks_of network))

-- the lines of so many roots
abbrev pub roots_lines : Network → ℕ → (ℕ → Distances) → ℕ → List CertLine
roots_lines network most row_of roots =
    flat_map (λ root. root_lines network root (numbers_of most (row_of root).dist))
    (range_with_len 0 roots)

-- the lines before those of the roots
abbrev pub first_lines : Network → List Endpoint → List ReservedLink → List CertLine
first_lines network hose plan =
    cost_line (plan_cost network plan) ∷ hose_line hose ∷ map use_line plan

-- all lines of the certificate of a plan, by the row of each root
abbrev pub plan_lines : Network → List Endpoint → List ReservedLink → (ℕ → Distances)
    → List CertLine
plan_lines network hose plan row_of =
    first_lines network hose plan
    ++ roots_lines network (plan_cost network plan) row_of (length network.nodes)
    ++ end_line ∷ []

-- ---- the certificate

-- these are the rows of the roots over all links
abbrev pub AreRootRows : Network → (ℕ → Distances) → Type 0
AreRootRows network row_of = (root : ℕ) → root < length network.nodes
    → IsRow network (all_links network) root (row_of root)

-- The text is the certificate of the hose's plan over all links. A network has one row for each
-- root, and a hose has one plan, so there is one text at most.
pub record IsPlanText (network : Network) (hose : List Endpoint) (plan : List ReservedLink)
    (text : List ℕ) : Type 0 where
  pub canonical : IsCanonicalPlan network (all_links network) hose plan
  pub row_of : ℕ → Distances
  pub rows : AreRootRows network row_of
  pub spelled : text ≡ certificate_text network (plan_lines network hose plan row_of)

-- what the certificate of a plan claims: the plan is the hose's, with no link left out
abbrev pub plan_claim : Network → List Endpoint → List ReservedLink → CertClaim
plan_claim network hose plan = record {
  cost = plan_cost network plan;
  hose = hose;
  pairs = plan;
  without = replicate (length network.links) false;
}

-- no plan of the hose over all links exists
abbrev pub HasNoPlan : Network → List Endpoint → Type 0
HasNoPlan network hose =
    (plan : List ReservedLink) → ¬ IsCanonicalPlan network (all_links network) hose plan

-- A sink was given this hose's whole certificate, which is valid, where it tells.
pub record GrowsByWhole (network : Network) (hose : List Endpoint) (old new : Option (List ℕ)) :
    Type 0 where
  pub plan : List ReservedLink
  pub text : List ℕ
  pub is_text : IsPlanText network hose plan text
  pub valid : IsValid network text (plan_claim network hose plan)
  pub out : Grows old new text

-- The hose has this plan, and a sink was given a part of its certificate that is not the whole.
pub record GrowsByPart (network : Network) (hose : List Endpoint) (old new : Option (List ℕ)) :
    Type 0 where
  pub plan : List ReservedLink
  pub canonical : IsCanonicalPlan network (all_links network) hose plan
  pub out : (text : List ℕ) → IsPlanText network hose plan text → GrowsInPart old new text

-- The hose has this plan, and a sink was given lines from the front of its certificate, each of
-- them whole.
pub record GrowsByLines (network : Network) (hose : List Endpoint) (old new : Option (List ℕ)) :
    Type 0 where
  pub plan : List ReservedLink
  pub canonical : IsCanonicalPlan network (all_links network) hose plan
  pub lines : List CertLine
  pub out : Grows old new (certificate_text network lines)
  pub front : (row_of : ℕ → Distances) → AreRootRows network row_of
      → (more : List CertLine) × (plan_lines network hose plan row_of ≡ lines ++ more)
