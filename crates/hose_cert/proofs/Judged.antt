-- What is found of a certificate of which all was read.
use Rattle.std.proofs.Common.{◌≡◌, ◌↔◌, ◌∙◌, ℕ, ◌<◌, Bool, true, false, IsTrue, List, length, refl, sym, inl, inr, arith}
use Rattle.std.proofs.lemmas.Bool.{false≢true}
use Rattle.hose_graph.specs.Network.{Network}
use Rattle.hose_cert.specs.CertLine.{CertLine}
use Rattle.hose_cert.specs.steps.Draft.{IsBody, TellsBelow}
use Rattle.hose_cert.specs.Rules.{BreaksFirst, ChangeWithinCosts, CertClaim, Claims, ClaimsTree, CostAsClaimed, StartAtRoots, WeighEnough}
use Rattle.hose_cert.specs.steps.Verdict.{IsFoundOf}
use Rattle.hose_cert.specs.declared.Verdict.TheVariants.{No, Yes}
use Rattle.hose_cert.specs.declared.draft.Body.{Body}

-- what a flag says where it is not set, and where it is
flag_off : {flag : Bool} {P : Type 0} → IsTrue flag ↔ P → flag ≡ false → P → ⊥
flag_off tells off holds = false≢true (sym off ∙ tells.1 holds)

flag_on : {flag : Bool} {P : Type 0} → IsTrue flag ↔ P → flag ≡ true → P
flag_on tells on = tells.0 on

-- ---- the claim

module _ (network : Network) (lines : List CertLine) (body : Body) (is : IsBody network lines body) (amounts : List (ℕ × ℕ)) (same : amounts ≡ body.pairs.items) where
  abbrev claim : CertClaim
  claim = record { cost = body.cost; hose = body.hose; pairs = amounts; without = body.without }

  claims : Claims network lines claim
  claims = record { more = is.more; front = is.front; pairs = same ∙ is.pairs; without = is.without }

  -- this rule is broken first
  pub broken : (rule : ℕ) → BreaksFirst network lines claim rule → IsFoundOf network lines (No rule)
  broken rule breaks = (claim, claims, breaks)

  module _ (all : body.rows.root ≡ length network.nodes) where
    told : (flag : Bool) (P : ℕ → Type 0) → TellsBelow body.rows.root flag P → IsTrue flag ↔ ((root : ℕ) → root < length network.nodes → P root)
    told flag P tells = (λ so root below. tells.0 so root (omega (arith, below, all)), λ each. tells.1 (λ root below. each root (omega (arith, below, all))))

    starts : IsTrue body.rows.starts ↔ StartAtRoots network lines claim
    starts = told body.rows.starts _ is.rows.starts

    changes : IsTrue body.rows.changes ↔ ChangeWithinCosts network lines claim
    changes = told body.rows.changes _ is.rows.changes

    weighs : IsTrue body.rows.weighs ↔ WeighEnough network lines claim
    weighs = told body.rows.weighs _ is.rows.weighs

    -- ---- what the flags come to

    module _ (tree : ClaimsTree network lines claim) (costs : CostAsClaimed network lines claim) where
      pub four_broken : body.rows.starts ≡ false → IsFoundOf network lines (No 4)
      four_broken off = broken 4 (inr (inr (inl (refl, tree, costs, flag_off starts off))))

      pub five_broken : body.rows.starts ≡ true → body.rows.changes ≡ false → IsFoundOf network lines (No 5)
      five_broken on off = broken 5 (inr (inr (inr (inl (refl, tree, costs, flag_on starts on, flag_off changes off)))))

      pub six_broken : body.rows.starts ≡ true → body.rows.changes ≡ true → body.rows.weighs ≡ false → IsFoundOf network lines (No 6)
      six_broken on on' off = broken 6 (inr (inr (inr (inr (refl, tree, costs, flag_on starts on, flag_on changes on', flag_off weighs off)))))

      pub all_met : body.rows.starts ≡ true → body.rows.changes ≡ true → body.rows.weighs ≡ true → IsFoundOf network lines (Yes body.hose body.without amounts body.cost)
      all_met on on' on'' = (claims, record { tree = tree; costs = costs; roots = flag_on starts on; changes = flag_on changes on'; weighs = flag_on weighs on'' })
