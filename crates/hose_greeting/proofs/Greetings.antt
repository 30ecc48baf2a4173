-- Greetings by their shape and by their form.
use Rattle.std.proofs.Common.{◌≡◌, ℕ, List, Result, IfErr, codes, refl}
use Rattle.std.specs.Result.{IsErrAnd}
use Rattle.std.proofs.lemmas.Result.{err_from_is_err_and}
use Rattle.hose_words.specs.Shapes.{IsFirstWrong, Tells}
use Rattle.hose_words.specs.steps.Cursor.{IsWrong, Position}
use Rattle.hose_words.specs.steps.Form.{finish, grammar_of, place}
use Rattle.hose_words.specs.declared.cursor.WrongWord.{WrongWord}
use Rattle.hose_words.proofs.Forms.{wrong_at_start}
use Rattle.hose_words.proofs.Shapes.{Agrees, agrees_end, agrees_place, wrong_of_form}
use Rattle.hose_words.proofs.ToldShapes.{IsFirm, firm_of, told_not_wrong}
use Rattle.hose_greeting.specs.SessionLines.{greeting_shape}
use Rattle.hose_greeting.specs.steps.Greeting.{greeting_form}

module _ (may : List ℕ → Type 0) where
  agrees_greeting : Agrees (greeting_shape may) (grammar_of (greeting_form may))
  agrees_greeting =
      agrees_place (λ word. word ≡ codes "hello") (place may finish) (λ word is. (word, is, refl)) (λ word is. is)
      (λ _ _. agrees_place may finish (λ word is. (word, is, refl)) (λ word is. is) (λ _ _. agrees_end))

  firm_greeting : IsFirm (greeting_shape may)
  firm_greeting = firm_of agrees_greeting

  -- the word that is told at an exit is the first that is wrong
  pub greeting_wrong : {T : Type 0} {start : Position} {error : WrongWord} (words : List (List ℕ)) (result : Result T WrongWord) → IsErrAnd result (λ other. other ≡ error) → start ≡ record { left = words; read = 0 }
      → IsWrong (greeting_form may) start error.number → IfErr result (λ wrong. IsFirstWrong (greeting_shape may) words wrong.number)
  greeting_wrong {T} {start} {error} words result gives is wrong =
      let gave = err_from_is_err_and result gives in
      rw (gave.1, gave.2) (wrong_of_form (greeting_shape may) (grammar_of (greeting_form may)) agrees_greeting words error.number (wrong_at_start words is wrong))

  -- a greeting has no word that is wrong
  pub greeting_not_wrong : (name : List ℕ) (words : List (List ℕ)) (word : ℕ) → Tells (greeting_shape may) words (codes "hello", (name, tt)) → IsFirstWrong (greeting_shape may) words word → ⊥
  greeting_not_wrong name words word tells wrong = told_not_wrong (greeting_shape may) firm_greeting words (codes "hello", (name, tt)) word tells wrong
