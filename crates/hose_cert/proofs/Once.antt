-- A text has the lines of one certificate at most, and these claim one thing.
use Rattle.std.proofs.Common.{◌≡◌, ◌∙◌, ℕ, Bool, true, false, IsTrue, List, [], ◌∷◌, inl, inr, get_or, refl, sym, subst, arith}
use Rattle.std.proofs.lemmas.List.{get_or_default, same_lists}
use Rattle.std.specs.List.{before_first, after_first}
use Rattle.hose_words.specs.Lines.{is_line_feed}
use Rattle.hose_graph.specs.Network.{Network, IsNetwork}
use Rattle.hose_cert.specs.CertLine.{CertLine}
use Rattle.hose_cert.specs.Certificate.{AreLines, left_out_in}
use Rattle.hose_cert.specs.Rules.{BreaksFirst, CertClaim, Claims, HasNamed, MeetsRules}
use Rattle.hose_cert.specs.Verdict.{IsVerdict, IsValid}
use Rattle.hose_cert.specs.steps.Verdict.{IsYesOf}
use Rattle.hose_cert.specs.declared.Verdict.{Verdict}
use Rattle.hose_cert.specs.declared.Verdict.TheVariants.{Yes, No}
use Rattle.hose_cert.proofs.Spelling.{line_once}

module _ (network : Network) (is : IsNetwork network) where
  pub lines_once : (text : List ℕ) (some others : List CertLine) → AreLines network text some → AreLines network text others → some ≡ others
  lines_once text [] [] are are' = refl
  lines_once text [] (other ∷ others) are are' = absurd (are'.0 are)
  lines_once text (line ∷ more) [] are are' = absurd (are.0 are')
  lines_once text (line ∷ more) (other ∷ others) are are' =
      let first : line ≡ other = line_once network is (before_first is_line_feed text) line other are.1 are'.1 in
      let rest : more ≡ others = lines_once (after_first is_line_feed text) more others are.2 are'.2 in
      λ i. first i ∷ rest i

-- ---- what lines claim

same_bool : (one other : Bool) → (IsTrue one → IsTrue other) → (IsTrue other → IsTrue one) → one ≡ other
same_bool true true on back = refl
same_bool true false on back = sym (on refl)
same_bool false true on back = back refl
same_bool false false on back = refl

sets_once : (network : Network) (named : List ℕ) (one other : List Bool) → HasNamed network named one → HasNamed network named other → one ≡ other
sets_once network named one other has has' =
    same_lists one other (has.places ∙ sym has'.places)
    (λ k d below. get_or_default one k d false below
    ∙ same_bool (get_or one k false) (get_or other k false) (λ so. (has'.has k).1 ((has.has k).0 so)) (λ so. (has.has k).1 ((has'.has k).0 so))
    ∙ sym (get_or_default other k d false (omega (arith, below, has.places, has'.places))))

pub claims_once : (network : Network) (lines : List CertLine) (one other : CertClaim) → Claims network lines one → Claims network lines other → one ≡ other
claims_once network lines one other claims claims' =
    let fronts = sym claims.front ∙ claims'.front in
    let cost : one.cost ≡ other.cost = cc fronts in
    let hose : one.hose ≡ other.hose = cc fronts in
    let pairs = claims.pairs ∙ sym claims'.pairs in
    let without = sets_once network (left_out_in lines) one.without other.without claims.without claims'.without in
    λ i. record { cost = cost i; hose = hose i; pairs = pairs i; without = without i }

breaks_no_rule : (network : Network) (lines : List CertLine) (claim : CertClaim) (rule : ℕ) → MeetsRules network lines claim → BreaksFirst network lines claim rule → ⊥
breaks_no_rule network lines claim rule meets (inl two) = two.1 meets.tree
breaks_no_rule network lines claim rule meets (inr (inl three)) = three.2 meets.costs
breaks_no_rule network lines claim rule meets (inr (inr (inl four))) = four.3 meets.roots
breaks_no_rule network lines claim rule meets (inr (inr (inr (inl five)))) = five.4 meets.changes
breaks_no_rule network lines claim rule meets (inr (inr (inr (inr six)))) = six.5 meets.weighs

-- a valid certificate is found valid
pub found_valid : (network : Network) → IsNetwork network → (text : List ℕ) (verdict : Verdict) (claim : CertClaim) → IsVerdict network text verdict → IsValid network text claim → IsYesOf verdict claim
found_valid network is text (Yes hose without amounts cost) claim found valid =
    let same = lines_once network is text valid.lines found.lines valid.is_text.are found.is_text.are in
    claims_once network found.lines claim (record { cost = cost; hose = hose; pairs = amounts; without = without }) (subst (λ ls. Claims network ls claim) same valid.claims) found.claims
found_valid network is text (No rule) claim (inl none) valid = none.1 valid.lines valid.is_text
found_valid network is text (No rule) claim (inr broken) valid =
    let same = lines_once network is text valid.lines broken.lines valid.is_text.are broken.is_text.are in
    let one = claims_once network broken.lines broken.claim claim broken.claims (subst (λ ls. Claims network ls claim) same valid.claims) in
    breaks_no_rule network broken.lines claim rule (subst (λ ls. MeetsRules network ls claim) same valid.meets) (subst (λ cl. BreaksFirst network broken.lines cl rule) one broken.breaks)
