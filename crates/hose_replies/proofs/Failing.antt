-- Fields of a line: what is told of them at the exits of those that read them.
use Rattle.std.proofs.Common.{ℕ, List, [], ◌∷◌, refl}
use Rattle.hose_words.specs.steps.Cursor.{Position, TookAll, IsWrong}
use Rattle.hose_words.specs.steps.Form.{Form, anything, these}
use Rattle.hose_words.proofs.Forms.{wrong_both, wrong_nowhere, wrong_past, wrong_same}
use Rattle.hose_graph.specs.Network.{Network}
use Rattle.hose_replies.specs.steps.Fields.{Fields, HaveLists, form_of}
use Rattle.hose_replies.specs.steps.Reading.{FailsAt}
use Rattle.hose_proto.specs.declared.fault.ReadFault.{ReadFault}
use Rattle.hose_proto.specs.declared.fault.ReadFault.TheVariants.{Bad}
use Rattle.hose_proto.proofs.Faults.{is_told, later_fault}

-- a word that is wrong, told as a fault of the fields
pub failed : {network : Network} {fields : Fields} {old : Position} {number : ℕ} → IsWrong (form_of network fields) old number → FailsAt network fields old (Bad number)
failed {network} {fields} {old} {number} is = record { bad = is_told is; memory = λ same. absurd (cc same) }

-- a fault of the fields after some words is one of all
pub failed_later : {network : Network} {fields rest : Fields} {old new : Position} {fault : ReadFault} → ((number : ℕ) → IsWrong (form_of network rest) new number → IsWrong (form_of network fields) old number)
    → (HaveLists rest → HaveLists fields) → FailsAt network rest new fault → FailsAt network fields old fault
failed_later {network} {fields} {rest} {old} {new} {fault} later lists is = record { bad = later_fault later is.bad; memory = λ same. lists (is.memory same) }

-- ---- words that are known

-- what is wrong of them is so whatever may stand after them
pub these_wrong : (known : List (List ℕ)) (form : Form) {old : Position} {number : ℕ} → IsWrong (these known anything) old number → IsWrong (these known form) old number
these_wrong [] form {old} {number} wrong = wrong_nowhere wrong
these_wrong (word ∷ known) form {old} {number} wrong = wrong_both (λ _ rest. these_wrong known form rest) wrong

-- what is wrong after them
pub these_later : (known : List (List ℕ)) {form : Form} {old new : Position} {number : ℕ} → TookAll old new known → IsWrong form new number → IsWrong (these known form) old number
these_later [] {form} {old} {new} {number} took wrong = wrong_same took wrong
these_later (word ∷ known) {form} {old} {new} {number} took wrong = wrong_past took refl (λ _ more. these_later known more wrong)
