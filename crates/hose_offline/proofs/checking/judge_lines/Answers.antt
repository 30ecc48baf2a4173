use Rattle.std.proofs.Common.{ap, arith}
use Rattle.hose_words.proofs.Saying.{rose_now}
use Rattle.hose_cert.specs.steps.Taking.{fault_in}
use Rattle.hose_offline.proofs.Judging.{found_told, long_told, read_not}
use Rattle.hose_offline.proofs.checking.judge_lines.Goals as goal

pub returns-clause-found : goal.returns-clause-found
returns-clause-found g c =
    let check = c.check_certificate.ensures in
    found_told g.S.Source c.args.lines.now c.check_certificate.new.lines c.args.top.now c.check_certificate.result c.requires.pending check.found check.all

pub returns-clause-read : goal.returns-clause-read
returns-clause-read g c = λ is.
    rose_now g.S.Source c.args.lines.now c.check_certificate.new.lines c.requires.fault (c.check_certificate.ensures.reads.read (ap fault_in is))

pub returns-clause-held : goal.returns-clause-held
returns-clause-held g c = λ never.
    let reads = c.check_certificate.ensures.reads in
    reads.on.unfailed (read_not c.args.lines.now.fault c.check_certificate.new.lines.fault c.check_certificate.result c.requires.fault reads.kept never)

pub returns-clause-too_long : goal.returns-clause-too_long
returns-clause-too_long g c =
    long_told c.check_certificate.result (c.check_certificate.ensures.reads.too_long (omega (arith, c.requires.taken)))

pub returns-clause-reads_on : goal.returns-clause-reads_on
returns-clause-reads_on g c = c.check_certificate.ensures.reads.on

pub returns-clause-limit : goal.returns-clause-limit
returns-clause-limit g c = c.check_certificate.ensures.reads.limit (omega (arith, c.requires.taken))
