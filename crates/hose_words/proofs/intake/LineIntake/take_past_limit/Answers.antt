use Rattle.std.proofs.Common.{rules}
use Rattle.hose_io.proofs.Calling.{HasGone-once}
use Rattle.hose_words.proofs.intake.LineIntake.take_past_limit.Goals as goal

pub returns-in-Ok-eq0 : goal.returns-in-Ok-eq0
returns-in-Ok-eq0 g c = search (rules, HasGone-once)
