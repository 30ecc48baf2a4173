-- Who numbers lines: what it knows of each place, and the texts of its replies.
use Rattle.std.specs.Prelude.{ℕ, Bool, true, false, List, Option, None, Some, codes, slice_index_or}
use Rattle.cases_host.specs.declared.counter.Stage.{Stage}
use Rattle.cases_host.specs.declared.counter.Stage.TheVariants as stage

-- how many lines it has answered, what it knows of each place, whether it answers no more, the path
-- of its standby, what is to be sent to the standby, and whether lines wait for that
pub record Numbering : Type 0 where
  pub count : ℕ
  pub stages : List Stage
  pub ended : Bool
  pub standby : Option (List ℕ)
  pub unsent : List ℕ
  pub waits : Bool

-- what is known of who is at a place
abbrev pub stage_at : List Stage → ℕ → Stage
stage_at stages place = slice_index_or stages place stage.Known

-- no line of who is at this stage was answered yet
abbrev pub is_new_at : Stage → Bool
is_new_at stage.New = true
is_new_at stage.Known = false
is_new_at stage.Over = false

-- no line of who is at this stage is answered any more
abbrev pub is_over_at : Stage → Bool
is_over_at stage.New = false
is_over_at stage.Known = false
is_over_at stage.Over = true

-- the text of a reply, also of one for which there was no memory
abbrev pub text_of : Option (List ℕ) → List ℕ
text_of None = codes "no memory\n"
text_of (Some text) = text
