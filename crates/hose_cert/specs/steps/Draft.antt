-- What was read of a certificate so far.
use Rattle.std.specs.Prelude.{◌≡◌, ◌↔◌, ◌<◌, ◌≤◌, ◌++◌, ℕ, Bool, IsTrue, List, [], ◌∷◌, All, Contains, length, Option, None, Some, MatchOption, slice_index}
use Rattle.hose_words.specs.Numbers.{IsWithin}
use Rattle.hose_graph.specs.Amounts.{ReservedLink, amount_of, link_of}
use Rattle.hose_graph.specs.Ascending.{IsAscending, firsts}
use Rattle.hose_graph.specs.Hose.{Endpoint}
use Rattle.hose_graph.specs.Network.{Network, IsLinkOf}
use Rattle.hose_graph.specs.Limits.{most_amount, most_tree_links}
use Rattle.hose_proto.specs.Places.{IsHoseOf}
use Rattle.hose_cert.specs.CertLine.{CertLine, cost_line, end_line, hose_line, pot_line, use_line, without_line}
use Rattle.hose_cert.specs.Certificate.{FollowAll, IsCertificate, last_of, left_out_in, numbers_in, place_after, used_in}
use Rattle.hose_cert.specs.steps.CertLine.{AreWordsOf}
use Rattle.hose_cert.specs.steps.Judging.{AreUpToMost}
use Rattle.hose_cert.specs.Rules.{DifferWithinCosts, HasNamed, others_of, weighed_by}
use Rattle.hose_cert.specs.Limits.{most_number}
use Rattle.hose_cert.specs.declared.draft.Body.{Body}
use Rattle.hose_cert.specs.declared.draft.Draft.{Draft}
use Rattle.hose_cert.specs.declared.draft.Draft.TheVariants as draft
use Rattle.hose_cert.specs.declared.draft.Last.{Last}
use Rattle.hose_cert.specs.declared.draft.Last.TheVariants as last
use Rattle.hose_cert.specs.declared.rows.Rows.{Rows}

-- some words say this
abbrev pub IsSaid : Network → CertLine → Type 0
IsSaid network line = (words : List (List ℕ)) × AreWordsOf network words line

-- ---- the numbers

-- the flag tells whether this holds of all below an end
abbrev pub TellsBelow : ℕ → Bool → (ℕ → Type 0) → Type 0
TellsBelow end flag Is = IsTrue flag ↔ ((k : ℕ) → k < end → Is k)

-- The numbers of the roots below one were judged, and those of this root are being read.
pub record AreDraftRows (network : Network) (numbers : ℕ → List ℕ) (cost : ℕ) (hose : List Endpoint)
    (without : List Bool) (rows : Rows) : Type 0 where
  pub bound : rows.root ≤ length network.nodes
  pub row : numbers rows.root ≡ rows.row.items
  pub up_to : AreUpToMost rows.row.items
  pub later : (k : ℕ) → rows.root < k → numbers k ≡ []
  pub few : rows.root < length network.nodes → length rows.row.items < length network.nodes
  pub starts : TellsBelow rows.root rows.starts (λ k. slice_index (numbers k) k ≡ 0)
  pub changes : TellsBelow rows.root rows.changes
      (λ k. DifferWithinCosts network (others_of without) (numbers k))
  pub weighs : TellsBelow rows.root rows.weighs (λ k. cost ≤ weighed_by (numbers k) hose)

-- no number was read
abbrev pub HasNoRow : Rows → Type 0
HasNoRow rows = (rows.root ≡ 0) × (rows.row.items ≡ [])

-- ---- the last line

-- this was the last line, and what may come after it
abbrev pub IsLast : Network → List CertLine → Body → Last → Type 0
IsLast network lines body last.Hose =
    ((hose : List Endpoint) × (last_of None lines ≡ Some (hose_line hose)))
    × (body.pairs.items ≡ []) × (left_out_in lines ≡ []) × HasNoRow body.rows
IsLast network lines body (last.Use link) =
    ((amount : ℕ) × (last_of None lines ≡ Some (use_line (link, amount))))
    × All (λ pair. link_of pair ≤ link) body.pairs.items
    × (left_out_in lines ≡ []) × HasNoRow body.rows
IsLast network lines body (last.Without link) =
    (last_of None lines ≡ Some (without_line link)) × HasNoRow body.rows
IsLast network lines body last.Pot =
    (root : ℕ) × (from : ℕ) × (numbers : List ℕ)
    × (last_of None lines ≡ Some (pot_line root from numbers))
    × (place_after network (pot_line root from numbers)
    ≡ (body.rows.root, length body.rows.row.items))
IsLast network lines body last.End =
    (last_of None lines ≡ Some end_line) × (body.rows.root ≡ length network.nodes)

-- a link of the plan, with its amount
pub record IsUse (network : Network) (pair : ReservedLink) : Type 0 where
  pub link : IsLinkOf network (link_of pair)
  pub amount : IsWithin 1 most_amount (amount_of pair)

-- what was read after the lines of the cost and the hose, if anything was
pub record IsBody (network : Network) (lines : List CertLine) (body : Body) : Type 0 where
  pub more : List CertLine
  pub front : lines ≡ cost_line body.cost ∷ hose_line body.hose ∷ more
  pub follow : FollowAll network None lines
  pub last : IsLast network lines body body.last
  pub cost : body.cost ≤ most_number
  pub hose : IsHoseOf network body.hose
  pub pairs : body.pairs.items ≡ used_in lines
  pub uses : All (IsUse network) body.pairs.items
  pub ascending : IsAscending body.pairs.items
  pub few : length body.pairs.items ≤ most_tree_links
  pub without : HasNamed network (left_out_in lines) body.without
  pub apart : (link : ℕ) → Contains (left_out_in lines) link
      → Contains (firsts (used_in lines)) link → ⊥
  pub rows : AreDraftRows network (λ root. numbers_in root lines) body.cost body.hose body.without
      body.rows

-- ---- the draft

-- the lines that were read so far made this draft
abbrev pub IsDraftOf : Network → List CertLine → Draft → Type 0
IsDraftOf network lines draft.Start = lines ≡ []
IsDraftOf network lines (draft.Cost cost) = (lines ≡ cost_line cost ∷ []) × (cost ≤ most_number)
IsDraftOf network lines (draft.Body body) = IsBody network lines body

-- some lines made this draft
abbrev pub StandsSomehow : Network → Draft → Type 0
StandsSomehow network draft = (lines : List CertLine) × IsDraftOf network lines draft

-- after some lines this is what was read behind those of the cost and the hose
abbrev pub IsBodySomehow : Network → Body → Type 0
IsBodySomehow network body = (lines : List CertLine) × IsBody network lines body

-- no certificate goes on with this line
abbrev pub IsRefusedLine : Network → List CertLine → CertLine → Type 0
IsRefusedLine network lines line =
    (more : List CertLine) → IsCertificate network (lines ++ line ∷ more) → ⊥

-- a line was taken into a draft, or no certificate goes on with it
abbrev pub TakesCertLine : Network → Draft → CertLine → Option Draft → Type 0
TakesCertLine network old line next = (lines : List CertLine) → IsDraftOf network lines old
    → MatchOption next (IsRefusedLine network lines line) (IsDraftOf network (lines ++ line ∷ []))

-- a line was taken behind those of the cost and the hose, or no certificate goes on with it
abbrev pub TakesInto : Network → Body → CertLine → Option Body → Type 0
TakesInto network old line next = (lines : List CertLine) → IsBody network lines old
    → MatchOption next (IsRefusedLine network lines line) (IsBody network (lines ++ line ∷ []))

-- the draft is a whole certificate, or is none
abbrev pub IsWholeIf : Network → Draft → Option Body → Type 0
IsWholeIf network draft whole = (lines : List CertLine) → IsDraftOf network lines draft
    → MatchOption whole (IsCertificate network lines → ⊥)
    (λ body. IsBody network lines body × IsCertificate network lines
    × (body.rows.root ≡ length network.nodes))
