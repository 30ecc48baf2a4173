use Rattle.std.proofs.Common.{◌+◌, arith, sym, ap, ◌∙◌, refl}
use Rattle.std.specs.List.{slice_range}
use Rattle.hose_words.specs.Lines.{is_line_feed}
use Rattle.hose_io.proofs.Parts.{drop-slice_range, length-slice_range}
use Rattle.hose_words.proofs.BufferLemmas.{position_or_len-searched, take-slice_range}
use Rattle.hose_words.proofs.buffer.PendingBytes.cut_line.Goals as goal

pub invariant_of-self : goal.invariant_of-self
invariant_of-self c =
    let b = c.self.inside in
    let at = position_or_len-searched is_line_feed b.bytes b.start b.end b.searched c.len_before.result c.self.invariant.searched c.len_before.ensures.place in
    record {
      line = c.self.invariant.line;
      line_inside = c.self.invariant.line_inside;
      pending = c.self.invariant.pending;
      pending_inside = c.self.invariant.pending_inside;
      searched_inside = omega arith;
      searched = omega (arith, at);
    }

pub returns-then-self-len : goal.returns-then-self-len
returns-then-self-len c =
    let b = c.self.inside in
    let at = position_or_len-searched is_line_feed b.bytes b.start b.end b.searched c.len_before.result c.self.invariant.searched c.len_before.ensures.place in
    let whole = length-slice_range b.bytes b.start b.end (omega arith) in
    rw (← c.self.view_is) (omega (arith, at, whole), refl)

pub returns : goal.returns
returns c =
    let b = c.self.inside in
    let n = b.searched + c.len_before.result in
    let at = position_or_len-searched is_line_feed b.bytes b.start b.end b.searched c.len_before.result c.self.invariant.searched c.len_before.ensures.place in
    let whole = length-slice_range b.bytes b.start b.end (omega arith) in
    rw (← c.self.view_is, at) (
      omega (arith, whole),
      sym (take-slice_range b.bytes b.start b.end n (omega arith)),
      sym (drop-slice_range b.bytes b.start b.end (n + 1) ∙ ap (λ k. slice_range b.bytes k b.end) {y = b.start + n + 1} (omega arith)),
    )
