use Rattle.std.proofs.Common.{arith}
use Rattle.hose_cert.proofs.Spelling.{not_from}
use Rattle.hose_cert.proofs.parsing.next_number.Goals as goal

pub returns-else-least-number-clause-none : goal.returns-else-least-number-clause-none
returns-else-least-number-clause-none c =
    not_from c.args.words.now.left c.number.new.self.left c.args.least c.args.end c.in-Ok.number c.in-Ok.ensures.ok.cut c.in-Ok.ensures.small (omega (arith, c.ranges.end)) c.else-least-number.either
