use Rattle.hosed_program.proofs.Ruled.{flat_kept, hops_kept, long_kept}
use Rattle.hosed_program.proofs.rules.tariffs.Goals as goal

pub new-requires-clause-keeps : goal.new-requires-clause-keeps
new-requires-clause-keeps g c = flat_kept _ _ c.requires.flat

pub new-requires-2-clause-keeps : goal.new-requires-2-clause-keeps
new-requires-2-clause-keeps g c = hops_kept _ _ c.requires.hops

pub new-requires-3-clause-keeps : goal.new-requires-3-clause-keeps
new-requires-3-clause-keeps g c = long_kept _ _ c.requires.long
