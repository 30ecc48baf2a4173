use Rattle.std.proofs.Common.{refl}
use Rattle.hose_cert.proofs.Spelling.{told_line}
use Rattle.hose_cert.proofs.parsing.read_line.Goals as goal

pub returns-clause-told : goal.returns-clause-told
returns-clause-told c = told_line c.args.top.now c.args.line.now c.new-words.result c.new-words.ensures c.read_words.result (c.if-not-is_spaced.ensures.0 refl) c.read_words.ensures.told
