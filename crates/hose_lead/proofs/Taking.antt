-- What each answer makes of a connection.
use Rattle.std.proofs.Common.{◌≡◌, ◌∙◌, ℕ, ◌+◌, ◌≤◌, true, List, [], ◌∷◌, ◌++◌, Some, length, refl, sym, ap, subst, arith}
use Rattle.std.specs.Prelude.{Contains}
use Rattle.std.proofs.lemmas.List.Elements.{Contains-push}
use Rattle.hose_graph.specs.Network.{Network}
use Rattle.hose_graph.specs.declared.entry.Entry.{Entry}
use Rattle.hose_follow.specs.Answers.{offered_text}
use Rattle.hose_follow.specs.Packet.{Packet}
use Rattle.hose_follow.specs.declared.answers.Offered.{Offered}
use Rattle.hose_follow.specs.declared.answers.Offered.TheVariants.{Have, Want, Differs}
use Rattle.hose_lead.specs.Leading.{IsValueAt, no_value, Offers, probed, TellsEpoch}
use Rattle.hose_lead.specs.steps.Standby.{IsAt, StandbyState, TellsWhy}
use Rattle.hose_lead.specs.steps.Taking.{Knows, Takes}
use Rattle.hose_lead.proofs.Growing.{compared_more, handed_at, handed_more, may_heard_more, tells_more}
use Rattle.hose_lead.specs.declared.stage.Ending.{Ending}
use Rattle.hose_lead.specs.declared.stage.Stage.{Stage}
use Rattle.hose_lead.specs.declared.stage.Stage.TheVariants.{AskedEpoch, ToldEpoch, AskedValue, Following, Ended}

module _ (network : Network) (list : List Entry) (old : StandbyState) where
  -- a connection ends by an answer
  pub takes_end : (text : List ℕ) (why : Ending) → ((lines : List (List ℕ)) → TellsWhy (lines ++ text ∷ []) why) → Takes network list text old (record old { stage = Ended why })
  takes_end text why told = record {
    knows = λ lines packets knows. record {
      at = (handed_more network list lines text packets (handed_at network list lines packets old.heard old.stage knows.at), told lines);
      heard = may_heard_more network list lines text old.heard knows.heard;
    };
    same_line = refl;
    same_unsent = refl;
    same_handed = refl;
    same_answered = refl;
  }

  -- how many entries a follower has is told
  pub takes_epoch : (answer : Offered) (n start : ℕ) → old.stage ≡ AskedEpoch → answer ≡ Want n → n ≡ start + 1 → start ≤ length list
      → Takes network list (offered_text answer) old (record old { stage = ToldEpoch start })
  takes_epoch answer n start was is number within = record {
    knows = λ lines packets knows.
        let at = subst (λ (stage : Stage). IsAt network list lines packets old.heard stage) was knows.at in
        let told : TellsEpoch (lines ++ offered_text answer ∷ []) start = subst (λ (a : Offered). Contains (lines ++ offered_text answer ∷ []) (offered_text a)) (is ∙ ap Want number) (Contains-push lines (offered_text answer)) in
        record { at = (at.0, at.1, told, within); heard = may_heard_more network list lines (offered_text answer) old.heard knows.heard };
    same_line = refl;
    same_unsent = refl;
    same_handed = refl;
    same_answered = refl;
  }

  -- a follower is compared, and begins as the history does
  pub takes_compared : (answer : Offered) (at start : ℕ) (own given ours : List ℕ) → old.stage ≡ AskedValue start → answer ≡ Differs at own given → at ≡ start → given ≡ no_value → own ≡ ours
      → IsValueAt network list start ours → Takes network list (offered_text answer) old (record old { stage = Following start start; asks = true })
  takes_compared answer at start own given ours was is place zeros same value = record {
    knows = λ lines packets knows.
        let now = subst (λ (stage : Stage). IsAt network list lines packets old.heard stage) was knows.at in
        let exact : answer ≡ Differs start ours no_value = is ∙ ap (λ (n : ℕ). Differs n own given) place ∙ ap (λ (v : List ℕ). Differs start v given) same ∙ ap (λ (v : List ℕ). Differs start ours v) zeros in
        let told = subst (λ (a : Offered). Contains (lines ++ offered_text answer ∷ []) (offered_text a)) exact (Contains-push lines (offered_text answer)) in
        let offers : Offers network list start start packets = subst (Offers network list start start) (sym now.0) probed in
        record {
          at = (
            tells_more lines (offered_text answer) start now.2,
            record { own = ours; same = value; told = told },
            offers,
            omega arith,
            now.3,
          );
          heard = may_heard_more network list lines (offered_text answer) old.heard knows.heard;
        };
    same_line = refl;
    same_unsent = refl;
    same_handed = refl;
    same_answered = refl;
  }

  -- how many entries a follower has that was compared
  pub takes_have : (answer : Offered) (n start upto : ℕ) → old.stage ≡ Following start upto → answer ≡ Have n → n ≤ upto → Takes network list (offered_text answer) old (record old { heard = Some n })
  takes_have answer n start upto was is few = record {
    knows = λ lines packets knows.
        let now = subst (λ (stage : Stage). IsAt network list lines packets old.heard stage) was knows.at in
        let told = subst (λ (a : Offered). Contains (offered_text answer ∷ []) (offered_text a)) is (Contains-push [] (offered_text answer)) in
        record {
          at = at_have lines packets knows (offered_text answer);
          heard = record {
            earlier = lines;
            later = offered_text answer ∷ [];
            split = refl;
            start = start;
            compared = now.1;
            told = told;
            within = omega (arith, few, now.4);
          };
        };
    same_line = refl;
    same_unsent = refl;
    same_handed = refl;
    same_answered = refl;
  }
    where
      at_have : (lines : List (List ℕ)) (packets : List Packet) → Knows network list lines packets old → (text : List ℕ) → IsAt network list (lines ++ text ∷ []) packets (Some n) old.stage
      at_have lines packets knows text =
          let now = subst (λ (stage : Stage). IsAt network list lines packets old.heard stage) was knows.at in
          subst (λ (stage : Stage). IsAt network list (lines ++ text ∷ []) packets (Some n) stage) (sym was)
          (tells_more lines text start now.0, compared_more network list lines text start now.1, now.2, now.3, now.4)
