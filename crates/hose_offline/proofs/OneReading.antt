-- A text is read in one way.
use Rattle.std.proofs.Common.{◌≡◌, ◌≢◌, ◌∙◌, ◌++◌, Bor, ℕ, suc, List, [], ◌∷◌, drop, refl, sym, ap, subst, arith, append_assoc, append-nil}
use Rattle.std.specs.List.{All, before_first, after_first}
use Rattle.hose_words.specs.Words.{words_of, IsFirst}
use Rattle.hose_words.specs.Shapes.{IsFirstWrong, Values, words_told}
use Rattle.hose_words.specs.Lines.{is_line_feed}
use Rattle.hose_words.specs.steps.Lines.{Shows}
use Rattle.hose_words.specs.declared.lines.Line.{Line}
use Rattle.hose_words.specs.declared.lines.Line.TheVariants as line
use Rattle.hose_words.proofs.Shapes.{first_word}
use Rattle.hose_words.proofs.ToldShapes.{told_not_wrong, wrong_unique}
use Rattle.hose_graph.specs.Name.{IsName}
use Rattle.hose_graph.specs.declared.command.Command.{Command}
use Rattle.hose_graph.specs.Network.{Network}
use Rattle.hose_law.specs.Script.{ReadLine}
use Rattle.hose_law.specs.Script.ReadLine.{Asks, IsBad, IsLong, Unread}
use Rattle.hose_proto.specs.Command.{IsCommand, command_shape}
use Rattle.hose_offline.specs.ScriptLine.{IsAsking, script_shape}
use Rattle.hose_offline.proofs.LineShapes.{firm_script}
use Rattle.hose_words.specs.Saying.{SayLines, no_line, one_more as one_line}
use Rattle.hose_offline.specs.Talking.{Says}
use Rattle.hose_offline.specs.steps.Talking.{SaysAlone, IsRead, SaysOneThing}

-- ---- one line

-- words ask for one command at most
pub record AskForOne (network : Network) (words : List (List ℕ)) : Type 0 where
  pub alone : (command other : Command) → IsCommand network words command → IsCommand network words other → command ≡ other

-- the words after the customer's name of a line that asks for something
abbrev behind : (network : Network) → Values (command_shape network) → List (List ℕ)
behind network told = words_told (command_shape network) told

-- where the words after a customer's name ask for one command at most
module _ (network : Network) (line : List ℕ) (one : (customer : List ℕ) (words : List (List ℕ)) → words_of line ≡ customer ∷ words → IsName customer → AskForOne network words) where
  -- a line asks for one thing at most, for one customer
  asking_same : (customer other : List ℕ) (command more : Command) → IsAsking network line customer command → IsAsking network line other more → (customer ≡ other) × (command ≡ more)
  asking_same customer other command more (told, tells, is) (told', tells', is') =
      let cuts : customer ∷ behind network told ≡ other ∷ behind network told' = sym tells.are ∙ tells'.are in
      let words : behind network told ≡ behind network told' = ap (drop 1) cuts in
      let asks : IsCommand network (behind network told) command = (told, record { are = refl; may = tells.may.1 }, is) in
      let asks' : IsCommand network (behind network told') more = (told', record { are = refl; may = tells'.may.1 }, is') in
      (ap first_word cuts, (one other (behind network told') tells'.are tells'.may.0).alone command more (subst (λ w. IsCommand network w command) words asks) asks')

  -- a line that asks for something has no word that is wrong
  asking_not_wrong : (customer : List ℕ) (command : Command) (word : ℕ) → IsAsking network line customer command → IsFirstWrong (script_shape network) (words_of line) word → ⊥
  asking_not_wrong customer command word asks wrong = told_not_wrong (script_shape network) (firm_script network) (words_of line) (customer, asks.0) word asks.1 wrong

  -- a line that is read says one thing
  says_one_thing : (one other : ReadLine) → Says network line one → Says network line other → IsRead one → IsRead other → one ≡ other
  says_one_thing (Asks customer command) (Asks other more) says says' read read' =
      let same = asking_same customer other command more says.1 says'.1 in
      λ i. Asks (same.0 i) (same.1 i)
  says_one_thing (Asks customer command) (IsBad word) says says' read read' = absurd (asking_not_wrong customer command word says.1 says'.1)
  says_one_thing (Asks customer command) IsLong says says' read read' = absurd (omega (arith, says.0, says'))
  says_one_thing (IsBad word) (Asks customer command) says says' read read' = absurd (asking_not_wrong customer command word says'.1 says.1)
  says_one_thing (IsBad word) (IsBad place) says says' read read' = ap IsBad (wrong_unique (script_shape network) (firm_script network) (words_of line) word place says.1 says'.1)
  says_one_thing (IsBad word) IsLong says says' read read' = absurd (omega (arith, says.0, says'))
  says_one_thing IsLong (Asks customer command) says says' read read' = absurd (omega (arith, says, says'.0))
  says_one_thing IsLong (IsBad word) says says' read read' = absurd (omega (arith, says, says'.0))
  says_one_thing IsLong IsLong says says' read read' = refl
  says_one_thing Unread other says says' read read' = absurd read
  says_one_thing (Asks customer command) Unread says says' read read' = absurd read'
  says_one_thing (IsBad word) Unread says says' read read' = absurd read'
  says_one_thing IsLong Unread says says' read read' = absurd read'

-- a line without a customer's name asks for nothing
pub nameless_alone : (network : Network) (line : List ℕ) → (IsFirst IsName (words_of line) → ⊥) → SaysOneThing network line
nameless_alone network line none = says_one_thing network line (λ customer words spelled is_name. absurd (none (subst (IsFirst IsName) (sym spelled) is_name)))

-- the words after a customer's name ask for one command at most
pub customer_alone : (network : Network) (line customer : List ℕ) (words : List (List ℕ)) → words_of line ≡ customer ∷ words → AskForOne network words → SaysOneThing network line
customer_alone network line customer words cut one = says_one_thing network line (λ other more spelled is_name.
    let cuts = sym cut ∙ spelled in
    let same : words ≡ more = cc in
    subst (AskForOne network) same one)

-- a line that is shown says one thing where what is shown does
pub text_alone : (top network : Network) (text : Bor (List ℕ)) (shown : Line) → top ≡ network → shown ≡ line.Text text → SaysOneThing top text.now → (bytes : List ℕ) → Shows shown bytes → SaysOneThing network bytes
text_alone top network text shown same is alone bytes shows =
    let there = subst (λ (l : Line). Shows l bytes) is shows in
    subst (λ (n : Network). SaysOneThing n bytes) same (subst (λ (b : List ℕ). SaysOneThing top b) there.1 alone)

-- ---- the lines of a text

-- the lines of a text, from the first on: each says this, and nothing is left behind the last
abbrev SayAll : Network → List ℕ → List ReadLine → Type 0
SayAll network text [] = text ≡ []
SayAll network text (line ∷ lines) = (text ≢ []) × Says network (before_first is_line_feed text) line × SayAll network (after_first is_line_feed text) lines

-- lines that are told at their end are told from the first on
from_first : (network : Network) {text rest : List ℕ} {lines : List ReadLine} (more : List ReadLine) → SayLines (λ _. Says network) text lines rest → SayAll network rest more → SayAll network text (lines ++ more)
from_first network more no_line all = all
from_first network {text = text} more (one_line {lines = lines} line before some says) all =
    subst (SayAll network text) (sym (append_assoc lines (line ∷ []) more)) (from_first network (line ∷ more) before (some, says, all))

-- the lines of a text, from the first on: each says one thing
pub data OneThingEach (network : Network) : List ℕ → Type 0 where
  no_more : OneThingEach network []
  first_line : {text : List ℕ} → SaysOneThing network (before_first is_line_feed text) → OneThingEach network (after_first is_line_feed text) → OneThingEach network text

-- lines of which each says one thing at most, up to where all that are left do
pub said_alone : {network : Network} {text rest : List ℕ} {lines : List ReadLine} → SayLines (λ _. SaysAlone network) text lines rest → OneThingEach network rest → OneThingEach network text
said_alone no_line each = each
said_alone (one_line line before some says) each = said_alone before (first_line says.1 each)

-- what they say
pub said_next : {network : Network} {text rest : List ℕ} {lines : List ReadLine} → SayLines (λ _. SaysAlone network) text lines rest → SayLines (λ _. Says network) text lines rest
said_next no_line = no_line
said_next (one_line line before some says) = one_line line (said_next before) some says.0

first_alone : {network : Network} {text : List ℕ} → text ≢ [] → OneThingEach network text → SaysOneThing network (before_first is_line_feed text) × OneThingEach network (after_first is_line_feed text)
first_alone some no_more = absurd (some refl)
first_alone some (first_line alone each) = (alone, each)

-- what a text says from its first line on is one thing, where all is read
all_unique : (network : Network) (text : List ℕ) (lines others : List ReadLine) → OneThingEach network text → SayAll network text lines → SayAll network text others → All IsRead lines → All IsRead others → lines ≡ others
all_unique network text [] [] each says says' read read' = refl
all_unique network text [] (o ∷ os) each says says' read read' = absurd (says'.0 says)
all_unique network text (l ∷ ls) [] each says says' read read' = absurd (says.0 says')
all_unique network text (l ∷ ls) (o ∷ os) each says says' read read' =
    let alone = first_alone says.0 each in
    let first = alone.0 l o says.1 says'.1 (read 0 l (omega arith)) (read' 0 o (omega arith)) in
    let rest = all_unique network (after_first is_line_feed text) ls os alone.1 says.2 says'.2 (λ k d below. read (suc k) d (omega (arith, below))) (λ k d below. read' (suc k) d (omega (arith, below))) in
    λ i. first i ∷ rest i

-- a whole text says one list of lines, where all of them are read
pub lines_unique : (network : Network) (text : List ℕ) (lines others : List ReadLine) → OneThingEach network text → SayLines (λ _. Says network) text lines [] → SayLines (λ _. Says network) text others [] → All IsRead lines → All IsRead others → lines ≡ others
lines_unique network text lines others each says says' read read' =
    all_unique network text lines others each (whole lines says) (whole others says') read read'
  where
    whole : (said : List ReadLine) → SayLines (λ _. Says network) text said [] → SayAll network text said
    whole said says = subst (SayAll network text) (append-nil said) (from_first network [] says refl)
