use Rattle.std.proofs.Common.{arith, le_trans, rules}
use Rattle.hose_words.specs.Lines.{is_line_feed}
use Rattle.hose_io.proofs.Parts.{appended, unwrap_or_zero-le}
use Rattle.hose_words.proofs.BufferLemmas.{position_or_len-le-more}
use Rattle.hose_words.proofs.buffer.PendingBytes.fill.Goals as goal

pub invariant_of-self : goal.invariant_of-self
invariant_of-self g c =
    let b = c.self.inside in
    let count = unwrap_or_zero-le c.take_after-taken.result c.min-most.result c.take_after-taken.ensures.most in
    let kept = position_or_len-le-more is_line_feed b.bytes c.take_after-taken.new.bytes b.start b.end c.unwrap_or.result c.take_after-taken.ensures.before (omega arith) (omega arith) in
    record {
      line = c.self.invariant.line;
      line_inside = c.self.invariant.line_inside;
      pending = omega arith;
      pending_inside = omega (arith, count);
      searched_inside = omega arith;
      searched = le_trans c.self.invariant.searched kept;
    }

pub returns : goal.returns
returns g c =
    let b = c.self.inside in
    let took = c.take_after-taken.ensures in
    let count = unwrap_or_zero-le c.take_after-taken.result c.min-most.result took.most in
    record {
      most = search rules;
      taken = rw (← c.self.view_is, c.unwrap_or.ensures)
          (appended c.take_after-taken.result _ _ b.bytes c.take_after-taken.new.bytes b.start b.end took.before (omega arith) (omega (arith, count)) took.taken);
      none_only_at_end = took.none_only_at_end;
      met = took.met;
      went = took.went;
    }
