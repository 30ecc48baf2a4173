use Rattle.std.proofs.Common.{◌≡◌, ◌∙◌, List, ℕ, ap, arith, length, rules, take}
use Rattle.hose_io.proofs.Parts.{unwrap_or_zero-le}
use Rattle.hose_follow.proofs.Buffers.{appended_back}
use Rattle.hose_follow.proofs.buffer.Buffer.fill.Goals as goal

pub returns : goal.returns
returns g c =
    let b = c.self.inside in
    let took = c.take_after-taken.ensures in
    let new = c.take_after-taken.new.bytes in
    let count = unwrap_or_zero-le c.take_after-taken.result c.min-most.result took.most in
    let same = took.before ∙ ap (λ (l : List ℕ). take b.end l) c.deref_mut.ensures.value in
    let size : length new ≡ b.bytes.len = omega (arith, c.deref_mut.ensures.len) in
    record {
      most = search rules;
      taken = rw (← c.self.view_is, c.unwrap_or.ensures)
          (appended_back c.take_after-taken.result _ _ b.bytes.items new b.bytes.len b.start b.end size same (omega arith) (omega (arith, count)) took.taken);
      none_only_at_end = took.none_only_at_end;
      met = took.met;
      went = took.went;
    }
