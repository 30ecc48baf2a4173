-- Lines that begin with a customer's name: what they tell, and which word of them is wrong.
use Rattle.std.proofs.Common.{◌≡◌, ◌∙◌, ℕ, ◌+◌, suc, List, ◌∷◌, sym, ap, subst, arith}
use Rattle.hose_words.specs.Words.{IsChoice, IsFirst, words_of}
use Rattle.hose_words.specs.Shapes.{IsFirstWrong, Shape, Tells, Values}
use Rattle.hose_words.specs.steps.Cursor.{Misses, Position, Took}
use Rattle.hose_words.proofs.Forms.{AreApart, IsFirst-weaker}
use Rattle.hose_words.proofs.ToldShapes.{IsFirm, firm_value, wrong_behind, wrong_first}
use Rattle.hose_graph.specs.Hose.{Endpoint}
use Rattle.hose_graph.specs.Name.{IsName}
use Rattle.hose_graph.specs.Network.{Network}
use Rattle.hose_graph.specs.declared.command.Command.{Command}
use Rattle.hose_proto.specs.Command.{AreEndsOf, IsCommand, command_shape, ends_shape}
use Rattle.hose_proto.proofs.CommandShapes.{firm_command, firm_ends, hose_told}
use Rattle.hose_offline.specs.ScriptLine.{IsAsking, customer_and, script_shape}
use Rattle.hose_offline.specs.SheetLine.{IsPricing, sheet_shape}

-- ---- which word is wrong

names_apart : AreApart IsName (λ name. name)
names_apart = record { apart = λ one other is is' same. same }

firm_customer : (shape : Shape) → IsFirm shape → IsFirm (customer_and shape)
firm_customer shape firm = firm_value IsName (λ name. name) (λ customer. shape) (λ customer is. firm)

pub firm_script : (network : Network) → IsFirm (script_shape network)
firm_script network = firm_customer (command_shape network) (firm_command network)

pub firm_sheet : (network : Network) → IsFirm (sheet_shape network)
firm_sheet network = firm_customer (ends_shape network) (firm_ends network)

-- the first word is no customer's name
pub no_customer : (shape : Shape) {start : Position} {number : ℕ} (words : List (List ℕ)) → start ≡ record { left = words; read = 0 } → Misses IsName start number → IsFirstWrong (customer_and shape) words number
no_customer shape {start} {number} words is misses =
    subst (λ (n : ℕ). IsFirstWrong (customer_and shape) words n) one (wrong_first words none)
  where
    one : 1 ≡ number
    one = omega (arith, misses.at, ap (λ (position : Position). position.read) is)

    none : IsFirst (IsChoice IsName (λ name. name)) words → ⊥
    none first = misses.none (subst (IsFirst IsName) (sym (ap (λ (position : Position). position.left) is))
        (IsFirst-weaker (IsChoice IsName (λ name. name)) IsName (λ word choice. subst IsName (sym choice.2) choice.1) words first))

-- a word after the customer's name is wrong
pub wrong_after_customer : (shape : Shape) {start next : Position} {customer : List ℕ} (words : List (List ℕ)) (number place : ℕ) → start ≡ record { left = words; read = 0 } → Took start next customer → IsName customer
    → number ≡ next.read + place → IsFirstWrong shape next.left place → IsFirstWrong (customer_and shape) words number
wrong_after_customer shape {start} {next} {customer} words number place is took is_name at wrong =
    subst (λ (n : ℕ). IsFirstWrong (customer_and shape) words n) later
    (subst (λ (all : List (List ℕ)). IsFirstWrong (customer_and shape) all (suc place)) (sym cut) (wrong_behind customer is_name names_apart next.left place wrong))
  where
    cut : words ≡ customer ∷ next.left
    cut = sym (ap (λ (position : Position). position.left) is) ∙ took.cut

    later : suc place ≡ number
    later = omega (arith, at, took.counted, ap (λ (position : Position). position.read) is)

-- ---- what a line tells

-- a customer's name, and words that tell something
told_after : (shape : Shape) {start next : Position} {customer : List ℕ} (words : List (List ℕ)) (told : Values shape) → start ≡ record { left = words; read = 0 } → Took start next customer → IsName customer
    → Tells shape next.left told → Tells (customer_and shape) words (customer, told)
told_after shape {start} {next} {customer} words told is took is_name tells = record {
  are = sym (ap (λ (position : Position). position.left) is) ∙ took.cut ∙ ap (λ (more : List (List ℕ)). customer ∷ more) tells.are;
  may = (is_name, tells.may);
}

-- a customer's name, and the words of a command
pub asking_told : (network : Network) (line customer : List ℕ) (command : Command) {start next : Position} → start ≡ record { left = words_of line; read = 0 } → Took start next customer → IsName customer → IsCommand network next.left command
    → IsAsking network line customer command
asking_told network line customer command is took is_name asks = (asks.0, told_after (command_shape network) (words_of line) asks.0 is took is_name asks.1, asks.2)

-- a customer's name, and the words of a hose
pub pricing_told : (network : Network) (line customer : List ℕ) (hose : List Endpoint) {start next : Position} → start ≡ record { left = words_of line; read = 0 } → Took start next customer → IsName customer → AreEndsOf network next.left hose
    → IsPricing network line customer hose
pricing_told network line customer hose {start} {next} is took is_name are =
    (are.ends, told_after (ends_shape network) (words_of line) are.ends is took is_name (hose_told network next.left hose are), are.same_ends, are.is_hose)
