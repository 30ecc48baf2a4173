-- What the bytes of a line say that was read.
use Rattle.std.specs.Prelude.{List, ℕ, Result, Ok, Err}
use Rattle.hose_words.specs.steps.Lines.{Shows}
use Rattle.hose_words.specs.declared.lines.Line.{Line}
use Rattle.hose_graph.specs.declared.command.Reply.{Reply}
use Rattle.hose_law.specs.Transcript.{IsPlainReply, SessionLine}
use Rattle.hose_law.specs.Transcript.SessionLine.{Greets}
use Rattle.hose_greeting.specs.SessionLines.{SaysFirst}

-- whatever bytes a line shows say this
abbrev pub ShownSays : (List ℕ → SessionLine → Type 0) → Line → SessionLine → Type 0
ShownSays Is line said = (bytes : List ℕ) → Shows line bytes → Is bytes said

-- a first line is a greeting, or is refused with this reply
abbrev pub IsGreetedBy : Line → Result (List ℕ) Reply → Type 0
IsGreetedBy line (Ok name) = ShownSays SaysFirst line (Greets name)
IsGreetedBy line (Err reply) = (said : SessionLine) × ShownSays SaysFirst line said
    × IsPlainReply said reply
