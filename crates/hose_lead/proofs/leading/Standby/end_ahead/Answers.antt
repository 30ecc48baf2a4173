use Rattle.std.proofs.Common.{List, [], ◌∷◌, ◌++◌, ℕ, subst, sym}
use Rattle.std.specs.Prelude.{Contains}
use Rattle.std.proofs.lemmas.List.Elements.{Contains-push}
use Rattle.hose_follow.specs.Answers.{offered_text}
use Rattle.hose_follow.specs.declared.answers.Offered.TheVariants.{Want}
use Rattle.hose_lead.specs.declared.stage.Ending.TheVariants.{Ahead}
use Rattle.hose_lead.specs.steps.Standby.{StandbyState}
use Rattle.hose_lead.specs.steps.Taking.{Takes}
use Rattle.hose_lead.proofs.Taking.{takes_end}
use Rattle.hose_lead.proofs.leading.Standby.end_ahead.Goals as goal

pub returns-clause-takes : goal.returns-clause-takes
returns-clause-takes c = λ network list next is.
    let text = offered_text (Want next) in
    let told = λ (lines : List (List ℕ)). subst (λ (n : ℕ). Contains (lines ++ text ∷ []) (offered_text (Want n))) is (Contains-push lines text) in
    subst (λ (s : StandbyState). Takes network list text c.args.self.now s) (sym c.go.ensures) (takes_end network list c.args.self.now text (Ahead c.args.count) told)
