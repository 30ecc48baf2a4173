use Rattle.std.proofs.Common.{arith}
use Rattle.hose_words.proofs.WordLemmas.{few_words}
use Rattle.hose_words.proofs.cursor.Cursor.new.Goals as goal

pub invariant_of-result : goal.invariant_of-result
invariant_of-result c = omega (arith, few_words c.args.line.now)
