-- What the bytes of a line say that was read: steps of proofs.
use Rattle.std.specs.Prelude.{List, ℕ, Result, Ok, Err}
use Rattle.hose_words.specs.steps.Lines.{Shows}
use Rattle.hose_words.specs.declared.lines.Line.{Line}
use Rattle.hose_graph.specs.declared.command.Reply.{Reply}
use Rattle.hose_law.specs.Transcript.{IsPlainReply, SessionLine}
use Rattle.hose_law.specs.Transcript.SessionLine.{Greets}
use Rattle.hose_clerk.specs.HostLines.{SaysFirstAt}
use Rattle.hose_clerk.specs.declared.doors.DoorRule.{DoorRule}

-- whatever bytes a line shows say this
abbrev pub ShownAs : {L : Type 0} → (List ℕ → L → Type 0) → Line → L → Type 0
ShownAs Is line said = (bytes : List ℕ) → Shows line bytes → Is bytes said

-- a first line is a greeting by one who may greet at a door, or is refused with this reply
abbrev pub IsGreetedAt : DoorRule → Line → Result (List ℕ) Reply → Type 0
IsGreetedAt rule line (Ok name) = ShownAs (SaysFirstAt rule) line (Greets name)
IsGreetedAt rule line (Err reply) = (said : SessionLine) × ShownAs (SaysFirstAt rule) line said
    × IsPlainReply said reply
