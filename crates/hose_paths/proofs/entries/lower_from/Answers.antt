-- The entry was higher, or there was none.
use Rattle.std.proofs.Common.{refl, rules}
use Rattle.hose_paths.proofs.entries.lower_from.Goals as goal

pub returns-clause-lowered : goal.returns-clause-lowered
returns-clause-lowered c = (record { near = c.args.near; known = c.requires.near; less = search rules; lowered = refl }, refl)
