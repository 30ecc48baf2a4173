-- What is found of a text: steps of proofs.
use Rattle.std.specs.Prelude.{◌≡◌, List}
use Rattle.hose_graph.specs.Network.{Network}
use Rattle.hose_cert.specs.CertLine.{CertLine}
use Rattle.hose_cert.specs.Rules.{BreaksFirst, CertClaim, Claims, MeetsRules}
use Rattle.hose_cert.specs.declared.Verdict.{Verdict}
use Rattle.hose_cert.specs.declared.Verdict.TheVariants.{Yes, No}

-- of lines that stand in order this is found
abbrev pub IsFoundOf : Network → List CertLine → Verdict → Type 0
IsFoundOf network lines (Yes hose without amounts cost) =
    let claim : CertClaim =
    record { cost = cost; hose = hose; pairs = amounts; without = without } in
    Claims network lines claim × MeetsRules network lines claim
IsFoundOf network lines (No rule) =
    (claim : CertClaim) × Claims network lines claim × BreaksFirst network lines claim rule

-- the verdict is yes, to this claim
abbrev pub IsYesOf : Verdict → CertClaim → Type 0
IsYesOf (Yes hose without amounts cost) claim =
    claim ≡ record { cost = cost; hose = hose; pairs = amounts; without = without }
IsYesOf (No rule) claim = ⊥
