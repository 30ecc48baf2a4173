-- What the program's words come to, from what their command came to.
use Rattle.std.proofs.Common.{◌≡◌, ◌≢◌, ℕ, List, refl, subst, sym}
use Rattle.hose_outside.specs.Ending.{IsOut}
use Rattle.hose_outside.specs.Fault.{last_line}
use Rattle.hose_outside.specs.declared.fault.Fault.TheVariants.{Words}
use Rattle.hose_outside.specs.Parts.{Parts, Tellings, door_parts, parts}
use Rattle.hose_outside.specs.declared.why.Why.{Why}
use Rattle.hose_outside.specs.Reading.{PricedNames}
use Rattle.hose_words.specs.Words.{IsFirst}
use Rattle.hosed.specs.Failing.{FailsTask, FailsWords}
use Rattle.hosed.specs.Hosed.{HosedOutcome}
use Rattle.hosed.specs.Offline.{Does, Offer, OfflineOutcome}
use Rattle.hosed.specs.ServeOutcome.{ServeOutcome}
use Rattle.hosed.specs.steps.ServerDoor.{port_asked}
use Rattle.hosed.specs.ServerDoor.{DoorSeen}
use Rattle.hosed_requests.specs.ProgramWords.{AreWrongWords, AsksToServe, program_word}
use Rattle.hosed_requests.specs.steps.Arguments.{AreArgumentWords, ArgumentTask, IsFirstUnfit}
use Rattle.hosed_requests.specs.declared.verb.ProgramVerb.{ProgramVerb}
use Rattle.hosed_requests.specs.declared.verb.ProgramVerb.TheVariants as command
use Rattle.hosed_requests.proofs.ProgramShapes.{are_told, each_task, no_task, task_told, unfit_wrong}

-- words of which one is the first that is not allowed are wrong
pub are_wrong : (names words : List (List ℕ)) (number : ℕ) → IsFirstUnfit names words number → AreWrongWords names words
are_wrong names words number wrong = λ verb task are. no_task names words verb task number are wrong

module _ {I O C E : Type 0} (tells : Tellings I O C E) (offer : Offer) (before after : Parts I O C) (status : ℕ) (words : List (List ℕ)) where
  -- the command did what its task says, and does not end with the status of wrong words
  pub right_words : (verb : ProgramVerb) (task : ArgumentTask verb) → AreArgumentWords offer.pricing.names words verb task → status ≢ 1 → Does tells offer before after status verb (task_told offer.pricing.names verb task) → OfflineOutcome tells offer before after status words
  right_words verb task are not_1 done = record {
    words_at_1 = λ none. ((λ one. absurd (not_1 one)), λ wrong. absurd (wrong verb _ (are_told offer.pricing.names words verb task are)));
    wrong_words = λ wrong. absurd (wrong verb _ (are_told offer.pricing.names words verb task are));
    does = each_task offer.pricing.names words (Does tells offer before after status) verb task are done;
  }

  -- a proof may end with it
  pub proof_words : (task : ArgumentTask command.Prove) → AreArgumentWords offer.pricing.names words command.Prove task → Does tells offer before after status command.Prove (task_told offer.pricing.names command.Prove task) → OfflineOutcome tells offer before after status words
  proof_words task are done = record {
    words_at_1 = λ none. absurd (none _ (are_told offer.pricing.names words command.Prove task are));
    wrong_words = λ wrong. absurd (wrong command.Prove _ (are_told offer.pricing.names words command.Prove task are));
    does = each_task offer.pricing.names words (Does tells offer before after status) command.Prove task are done;
  }

  -- and wrong words do, and take nothing
  pub wrong_words : (number : ℕ) → IsFirstUnfit offer.pricing.names words number → after.input ≡ before.input → after.cabinet ≡ before.cabinet → status ≡ 1 → IsOut tells.sink before.output after.output (last_line (Words number))
      → OfflineOutcome tells offer before after status words
  wrong_words number wrong same_input same_cabinet is_1 out = record {
    words_at_1 = λ none. ((λ one. are_wrong offer.pricing.names words number wrong), λ all. is_1);
    wrong_words = λ all. (same_input, same_cabinet, (number, unfit_wrong offer.pricing.names words number wrong, out));
    does = λ verb task are. absurd (no_task offer.pricing.names words verb task number are wrong);
  }

-- what is told of the files of a command is of those that its words name
pub fails_words : {I O C E : Type 0} (tells : Tellings I O C E) (offer : Offer) (before after : Parts I O C) (why : Why) (words : List (List ℕ)) (verb : ProgramVerb) (task : ArgumentTask verb) → AreArgumentWords offer.pricing.names words verb task → FailsTask tells offer before after why verb (task_told offer.pricing.names verb task) → FailsWords tells offer before after why words
fails_words tells offer before after why words verb task are fails = record { of = each_task offer.pricing.names words (FailsTask tells offer before after why) verb task are fails }

-- wrong words name none
pub fails_none : {I O C E : Type 0} (tells : Tellings I O C E) (offer : Offer) (before after : Parts I O C) (why : Why) (words : List (List ℕ)) (number : ℕ) → IsFirstUnfit offer.pricing.names words number → FailsWords tells offer before after why words
fails_none tells offer before after why words number wrong = record { of = λ verb task are. absurd (no_task offer.pricing.names words verb task number are wrong) }

-- what is beside a command, told part by part as it was lent and as it comes back
pub told_of : {I O C E : Type 0} {tells : Tellings I O C E} {offer : Offer} {before was : Parts I O C} {status : ℕ} {words : List (List ℕ)} (after : Parts I O C) {input : I} {output : O} {cabinet : C} → before ≡ was → after.input ≡ input → after.output ≡ output → after.cabinet ≡ cabinet
    → OfflineOutcome tells offer before after status words → OfflineOutcome tells offer was (parts input output cabinet) status words
told_of {tells = tells} {offer = offer} {was = was} {status = status} {words = words} after lent input output cabinet outcome =
    subst (λ (now : Parts _ _ _). OfflineOutcome tells offer was now status words) (λ i. parts (input i) (output i) (cabinet i)) (subst (λ (old : Parts _ _ _). OfflineOutcome tells offer old after status words) lent outcome)

pub fails_of : {I O C E : Type 0} {tells : Tellings I O C E} {offer : Offer} {before was : Parts I O C} {why : Why} {words : List (List ℕ)} (after : Parts I O C) {input : I} {output : O} {cabinet : C} → before ≡ was → after.input ≡ input → after.output ≡ output → after.cabinet ≡ cabinet
    → FailsWords tells offer before after why words → FailsWords tells offer was (parts input output cabinet) why words
fails_of {tells = tells} {offer = offer} {was = was} {why = why} {words = words} after lent input output cabinet fails =
    subst (λ (now : Parts _ _ _). FailsWords tells offer was now why words) (λ i. parts (input i) (output i) (cabinet i)) (subst (λ (old : Parts _ _ _). FailsWords tells offer old after why words) lent fails)

-- what is beside a server, so told
pub served_of : {I O C E : Type 0} {tells : Tellings I O C E} {names : PricedNames} {port connections : ℕ} {before was : Parts I O C} {door door' : DoorSeen} {status : ℕ} (after : Parts I O C) {input : I} {output : O} {cabinet : C} → before ≡ was → after.input ≡ input → after.output ≡ output → after.cabinet ≡ cabinet
    → ServeOutcome tells names (port_asked port connections) (door_parts before door) (door_parts after door') status → ServeOutcome tells names (port_asked port connections) (door_parts was door) (door_parts (parts input output cabinet) door') status
served_of {tells = tells} {names = names} {port = port} {connections = connections} {was = was} {door = door} {door' = door'} {status = status} after lent input output cabinet outcome =
    subst (λ (now : Parts _ _ _). ServeOutcome tells names (port_asked port connections) (door_parts was door) (door_parts now door') status) (λ i. parts (input i) (output i) (cabinet i))
    (subst (λ (old : Parts _ _ _). ServeOutcome tells names (port_asked port connections) (door_parts old door) (door_parts after door') status) lent outcome)

-- words that do not ask to serve come to what they come to for every command that waits for nobody,
-- and the door is as it was
pub beside_door : {I O C E : Type 0} (tells : Tellings I O C E) (offer : Offer) (before after : Parts I O C) (door : DoorSeen) (status : ℕ) (words : List (List ℕ)) → (¬ AsksToServe words) → OfflineOutcome tells offer before after status words → HosedOutcome tells offer (door_parts before door) (door_parts after door) status words
beside_door tells offer before after door status words never outcome = record {
  offline = λ none. (outcome, refl);
  words_at_1 = λ asks. absurd (never asks);
  wrong_words = λ asks. absurd (never asks);
  serves = λ task are. absurd (never (subst (IsFirst (λ word. word ≡ program_word command.Serve)) (sym are.are) refl));
}
