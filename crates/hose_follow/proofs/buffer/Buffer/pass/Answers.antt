use Rattle.std.proofs.Common.{sym}
use Rattle.hose_io.proofs.Parts.{drop-slice_range}
use Rattle.hose_follow.proofs.buffer.Buffer.pass.Goals as goal

pub returns : goal.returns
returns c =
    let b = c.self.inside in
    rw (← c.self.view_is) (sym (drop-slice_range b.bytes.items b.start b.end c.args.count))
