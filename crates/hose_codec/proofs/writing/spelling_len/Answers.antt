use Rattle.std.proofs.Common.{arith}
use Rattle.hose_codec.proofs.Entries.{length-admission}
use Rattle.hose_codec.proofs.writing.spelling_len.Goals as goal

pub returns-in-Admit : goal.returns-in-Admit
returns-in-Admit c =
    simp (c.bytes.ensures.value, c.ends.ensures.value, c.pairs.ensures.value, c.in-Admit.is)
    (omega (arith, length-admission c.in-Admit.customer c.in-Admit.hose c.in-Admit.amounts))
