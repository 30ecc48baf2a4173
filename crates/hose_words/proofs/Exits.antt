-- What is told at the exit of a `?` that hands on a word that is wrong.
use Rattle.std.proofs.Common.{◌≡◌, Result, IfErr}
use Rattle.std.specs.Result.{IsErrAnd}
use Rattle.std.proofs.lemmas.Result.{err_from_is_err_and}
use Rattle.hose_words.specs.steps.Cursor.{Position, IsWrong}
use Rattle.hose_words.specs.steps.Form.{Form}
use Rattle.hose_words.specs.declared.cursor.WrongWord.{WrongWord}

-- the word that a form does not allow is the one that was told
pub still_wrong : {T : Type 0} {form : Form} {old : Position} {error : WrongWord} (result : Result T WrongWord) → IsErrAnd result (λ other. other ≡ error) → IsWrong form old error.number
    → IfErr result (λ wrong. IsWrong form old wrong.number)
still_wrong {T} {form} {old} {error} result gives is =
    let gave = err_from_is_err_and result gives in
    rw (gave.1, gave.2) is
