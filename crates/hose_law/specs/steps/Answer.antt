-- What the sequential book answers to a command, and the steps that this allows: steps of proofs.
use Rattle.std.specs.Prelude.{⊤}
use Rattle.hose_graph.specs.declared.command.Command.{Command}
use Rattle.hose_graph.specs.declared.command.Command.TheVariants.{Quote, Take}

-- ---- steps

-- The commands that may change what their customer holds: all that do, as `step_keeps` shows of
-- every other one.
abbrev pub ChangesHeld : Command → Type 0
ChangesHeld (Quote hose) = ⊤
ChangesHeld (Take number) = ⊤
ChangesHeld command = ⊥
