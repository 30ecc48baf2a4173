-- What is told at the exit of a `?`.
use Rattle.std.proofs.Common.{◌≡◌, ℕ, List, Result, IfErr, subst}
use Rattle.std.specs.Result.{IsErrAnd}
use Rattle.std.proofs.lemmas.Result.{IfErr-weaker, err_from_is_err_and}
use Rattle.hose_words.specs.steps.Cursor.{Position, Took, IsWrong}
use Rattle.hose_words.specs.steps.Form.{Form, branch}
use Rattle.hose_words.proofs.Forms.{AreApart, wrong_chosen}
use Rattle.hose_proto.specs.steps.Reading.{IsFaultOf}
use Rattle.hose_proto.specs.declared.fault.ReadFault.{ReadFault}
use Rattle.hose_proto.specs.declared.fault.ReadFault.TheVariants.{Bad}

-- what is so of a fault is so at the exit that hands it on
pub handed : {T : Type 0} (P : ReadFault → Type 0) {fault : ReadFault} (result : Result T ReadFault) → IsErrAnd result (λ other. other ≡ fault) → P fault → IfErr result P
handed {T} P {fault} result gives is =
    let gave = err_from_is_err_and result gives in
    rw (gave.1, gave.2) is

-- a word that is wrong, told as a fault
pub is_told : {form : Form} {old : Position} {number : ℕ} → IsWrong form old number → IsFaultOf form old (Bad number)
is_told {form} {old} {number} is = record { word = λ other same. subst (IsWrong form old) (cc same) is }

-- what a fault tells of the words to come it tells of those before them
pub later_fault : {form rest : Form} {old new : Position} {fault : ReadFault} → ((number : ℕ) → IsWrong rest new number → IsWrong form old number) → IsFaultOf rest new fault → IsFaultOf form old fault
later_fault {form} {rest} {old} {new} {fault} later is = record { word = λ number told. later number (is.word number told) }

-- a fault after the word of a choice is one of the whole line
pub chosen_fault : {T : Type 0} {A : Type 0} {is : A → Type 0} {word_of : A → List ℕ} {old new : Position} (forms : A → Form) (result : Result T ReadFault) (choice : A) → is choice → AreApart is word_of
    → Took old new (word_of choice) → IfErr result (IsFaultOf (forms choice) new) → IfErr result (IsFaultOf (branch is word_of forms) old)
chosen_fault {T} {A} {is} {word_of} {old} {new} forms result choice there apart took =
    IfErr-weaker result (IsFaultOf (forms choice) new) (IsFaultOf (branch is word_of forms) old)
    (λ fault told. later_fault (λ number wrong. wrong_chosen {forms = forms} choice there apart took wrong) told)
