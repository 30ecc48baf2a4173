use Rattle.std.proofs.Common.{◌≢◌, All, take}
use Rattle.hose_host.proofs.lines.len_before_feed.Given as goal

abbrev pub invariant-loop-len : goal.invariant-loop-len
invariant-loop-len l = All (λ byte. byte ≢ 10) (take l.len l.bytes)
