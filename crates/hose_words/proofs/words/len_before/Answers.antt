use Rattle.std.proofs.Common.{◌==◌, sym, arith}
use Rattle.std.proofs.lemmas.Bool.{eq-eqb}
use Rattle.std.proofs.lemmas.List.Sums.{position_or_len_is}
use Rattle.hose_words.proofs.words.len_before.Goals as goal

pub returns-then-bytes-len-clause-place : goal.returns-then-bytes-len-clause-place
returns-then-bytes-len-clause-place c =
    sym (position_or_len_is (λ other. other == c.args.byte) c.args.bytes.now c.loop-len.len 0 (omega arith) c.loop-len.invariant (λ _. eq-eqb _ _ c.if-bytes-len.true))

pub returns-clause-place : goal.returns-clause-place
returns-clause-place c =
    sym (position_or_len_is (λ other. other == c.args.byte) c.args.bytes.now _ 0 (omega arith) (λ k below. c.loop-len.invariant k (omega arith)) (λ short. absurd (omega arith)))
