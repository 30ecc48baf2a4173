use Rattle.std.proofs.Common.{◌≡◌, ◌+◌, ◌-◌, ◌≤◌, [], length}
use Rattle.hose_words.specs.declared.lines.TheConstants.{INPUT_LIMIT}
use Rattle.hose_talk.specs.Talk.{talk}
use Rattle.hose_talk.specs.steps.Talk.{HasTalked}
use Rattle.hose_talk.proofs.StillReading.{IsStillReading}
use Rattle.hose_talk.proofs.talking.converse.Given as goal

abbrev pub invariant-loop-lines : goal.invariant-loop-lines
invariant-loop-lines g l = record {
  talked : (from : g.A.Answers.origin) → g.A.Answers.comes from [] [] l.fn.answers → HasTalked g.A.Answers g.S.Source g.O.Sink from (talk l.fn.lines l.fn.output l.fn.answers) (talk l.lines l.output l.answers);
  about : g.A.Answers.about l.answers ≡ g.A.Answers.about l.fn.answers;
  fits : g.A.Answers.fits l.answers;
  below : l.lines.taken ≤ INPUT_LIMIT;
  still : IsStillReading g.S.Source g.O.Sink l.fn.lines l.lines l.fn.output l.output;
}

abbrev pub decreases-loop-lines : goal.decreases-loop-lines
decreases-loop-lines g l = INPUT_LIMIT + 1 - l.lines.taken + length l.lines.pending
