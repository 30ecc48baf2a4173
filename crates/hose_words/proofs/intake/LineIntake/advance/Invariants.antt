use Rattle.std.proofs.Common.{◌-◌, ◌^◌}
use Rattle.hose_words.specs.steps.Intake.{reader_of}
use Rattle.hose_words.proofs.Coming.{HasCome}
use Rattle.hose_words.proofs.intake.LineIntake.advance.Given as goal

abbrev pub invariant-loop-self : goal.invariant-loop-self
invariant-loop-self g l =
    HasCome g.S.Source (reader_of l.fn.source l.fn.self) (reader_of l.source l.self) l.is_long

-- how many bytes may still be taken
abbrev pub decreases-loop-self : goal.decreases-loop-self
decreases-loop-self g l = 2 ^ 30 - l.self.taken
