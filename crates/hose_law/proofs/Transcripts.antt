-- Transcripts along histories that go on.
use Rattle.std.proofs.Common.{◌≡◌, inl, inr, ℕ, ◌+◌, ◌≤◌, List, [], length, take, sym, subst, ap, ◌∙◌, arith}
use Rattle.std.proofs.lemmas.List.{take-append-le}
use mathlib.Core.List.{IsPrefix}
use Rattle.hose_graph.specs.declared.entry.Entry.{Entry}
use Rattle.hose_graph.specs.declared.command.Command.{Command}
use Rattle.hose_graph.specs.declared.command.Reply.{Reply}
use Rattle.hose_graph.specs.Network.{Network}
use Rattle.hose_law.specs.Answer.{IsStep}
use Rattle.hose_law.specs.Quotes.{Holding}
use Rattle.hose_law.specs.Transcript.{IsSessionStep, IsPlacedStep, IsTranscript, IsTranscriptStep, SessionLine, SessionState, Stage, session_state}
use Rattle.hose_law.specs.Transcript.SessionLine.{Greets, Asks, Leaves, IsBad, IsLong, Unread}
use Rattle.hose_law.specs.Transcript.Stage.{Waiting, Serving, Refused, Left}
use Rattle.hose_law.proofs.Fronts.{prefix_length}
use Rattle.hose_law.proofs.Lines.{steps_weaker}

pub front_longer : (history next : List Entry) (place : ℕ) → IsPrefix history next → place ≤ length history → take place history ≡ take place next
front_longer history next place (rest, same) there = sym (take-append-le place history rest there) ∙ ap (take place) same

-- a step at a place of a history is one at that place of a longer one
pub placed_longer : (network : Network) (epoch : ℕ) (history next : List Entry) (customer : List ℕ) (held : Holding) (command : Command) (reply : Reply) (left : Holding) (place after : ℕ) (own : List ℕ)
    → IsPrefix history next → IsPlacedStep network epoch history customer held command reply left place after own → IsPlacedStep network epoch next customer held command reply left place after own
placed_longer network epoch history next customer held command reply left place after own prefix step = record {
  next = step.next;
  there = omega (arith, step.there, longer);
  step = subst (λ (h : List Entry). IsStep network epoch h customer held command reply step.next left) (front_longer history next place prefix step.there) step.step;
  moves = elim step.moves [
    | inl stays ↦ inl (stays.0 ∙ front_longer history next place prefix step.there, stays.1, stays.2)
    | inr goes ↦ inr (omega (arith, goes.0, longer), goes.1 ∙ front_longer history next (place + 1) prefix (omega (arith, goes.0)), goes.2, goes.3)
  ];
}
  where
    longer : length history ≤ length next
    longer = prefix_length history next prefix

module _ (network : Network) (epoch : ℕ) (history longer : List Entry) (prefix : IsPrefix history longer) where
  step_longer : (stage : Stage) (line : SessionLine) (reply : Reply) (next : Stage) (from after : ℕ) (own : List ℕ)
      → IsSessionStep network epoch history stage line reply next from after own → IsSessionStep network epoch longer stage line reply next from after own
  step_longer Waiting (Greets customer) reply next from after own (a, b, c, d, e) = (a, omega (arith, b, prefix_length history longer prefix), c, d, e)
  step_longer Waiting (Asks command) reply next from after own is = is
  step_longer Waiting Leaves reply next from after own is = is
  step_longer Waiting (IsBad word) reply next from after own is = is
  step_longer Waiting IsLong reply next from after own is = is
  step_longer Waiting Unread reply next from after own is = is
  step_longer (Serving customer held) (Asks command) reply next from after own (place, left, later, step, goes) =
      (place, left, later, placed_longer network epoch history longer customer held command reply left place after own prefix step, goes)
  step_longer (Serving customer held) (Greets other) reply next from after own is = is
  step_longer (Serving customer held) Leaves reply next from after own is = is
  step_longer (Serving customer held) (IsBad word) reply next from after own is = is
  step_longer (Serving customer held) IsLong reply next from after own is = is
  step_longer (Serving customer held) Unread reply next from after own is = is
  step_longer Refused line reply next from after own is = is
  step_longer Left line reply next from after own is = is

  -- a transcript along a history is one along a longer one
  pub transcript_longer : (from : ℕ) (lines : List SessionLine) (replies : List Reply) (last : SessionState) → IsTranscript network epoch history from lines replies last → IsTranscript network epoch longer from lines replies last
  transcript_longer from lines replies last = steps_weaker (IsTranscriptStep network epoch history) (IsTranscriptStep network epoch longer) (λ line reply old new step. (step.0, step_longer old.stage line reply new.stage old.place new.place step.0 step.1, step.2)) lines replies (session_state Waiting from []) last
