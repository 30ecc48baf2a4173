-- What is found of a text.
use Rattle.std.specs.Prelude.{◌≡◌, ◌⊎◌, ℕ, List, ⊤}
use Rattle.hose_graph.specs.Network.{Network}
use Rattle.hose_law.specs.Cheapest.{IsCheapest}
use Rattle.hose_cert.specs.CertLine.{CertLine}
use Rattle.hose_cert.specs.Certificate.{IsCertText}
use Rattle.hose_cert.specs.Rules.{BreaksFirst, CertClaim, Claims, MeetsRules, others_of}
use Rattle.hose_cert.specs.declared.Verdict.{Verdict}
use Rattle.hose_cert.specs.declared.Verdict.TheVariants.{Yes, No}

-- The text is a valid certificate of this claim.
pub record IsValid (network : Network) (text : List ℕ) (claim : CertClaim) : Type 0 where
  pub lines : List CertLine
  pub is_text : IsCertText network text lines
  pub claims : Claims network lines claim
  pub meets : MeetsRules network lines claim

-- The text is a certificate that breaks this rule first.
pub record IsBroken (network : Network) (text : List ℕ) (rule : ℕ) : Type 0 where
  pub lines : List CertLine
  pub claim : CertClaim
  pub is_text : IsCertText network text lines
  pub claims : Claims network lines claim
  pub breaks : BreaksFirst network lines claim rule

-- rule 1: the text is that of a certificate
abbrev pub IsNoText : Network → List ℕ → Type 0
IsNoText network text = (lines : List CertLine) → IsCertText network text lines → ⊥

-- A text is found to be a valid certificate, or to break this rule first.
abbrev pub IsVerdict : Network → List ℕ → Verdict → Type 0
IsVerdict network text (Yes hose without amounts cost) = IsValid network text
    (record { cost = cost; hose = hose; pairs = amounts; without = without })
IsVerdict network text (No rule) =
    ((rule ≡ 1) × IsNoText network text) ⊎ IsBroken network text rule

-- what is found valid is a cheapest way to carry the hose over the links that were not left out
abbrev pub AreCheapestFound : Network → Verdict → Type 0
AreCheapestFound network (Yes hose without amounts cost) =
    IsCheapest network (others_of without) hose amounts
AreCheapestFound network (No rule) = ⊤
