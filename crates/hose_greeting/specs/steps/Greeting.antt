-- The form of a greeting: steps of proofs.
use Rattle.std.specs.Prelude.{ℕ, List, codes}
use Rattle.hose_words.specs.steps.Form.{Form, finish, place, this}

-- the form of a greeting by a customer whose name meets a condition
abbrev pub greeting_form : (List ℕ → Type 0) → Form
greeting_form may = this (codes "hello") (place may finish)
