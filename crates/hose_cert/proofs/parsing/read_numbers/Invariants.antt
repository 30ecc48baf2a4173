-- The numbers so far are those of the words that came.
use Rattle.std.proofs.Common.{◌≡◌, ◌≤◌, ◌-◌, ◌++◌, decimal, length, map}
use Rattle.hose_cert.specs.steps.Judging.{AreUpToMost}
use Rattle.hose_cert.proofs.parsing.read_numbers.Given as goal

abbrev pub invariant-loop-words : goal.invariant-loop-words
invariant-loop-words l = record {
  cut : l.fn.words.left ≡ map decimal l.numbers.items ++ l.words.left;
  up_to : AreUpToMost l.numbers.items;
  few : length l.numbers.items ≤ l.count;
}

abbrev pub decreases-loop-words : goal.decreases-loop-words
decreases-loop-words l = l.count - length l.numbers.items
