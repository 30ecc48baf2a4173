use Rattle.std.proofs.Common.{Ok, Err, ap, subst, rules}
use Rattle.hose_offline.specs.CheckOutcome.{JudgesNamed}
use Rattle.hose_outside.specs.Parts.{tellings}
use Rattle.hose_outside.specs.steps.Parts.{held}
use Rattle.hose_outside.specs.Why.{why_status}
use Rattle.hose_offline.proofs.Judging.{checked}
use Rattle.hose_offline.proofs.checking.check.Goals as goal

pub returns-in-Ok : goal.returns-in-Ok
returns-in-Ok g c =
    let named = c.judge_named in
    let judges = subst (JudgesNamed (tellings g.I.Source g.O.Sink g.C.Cabinet g.C.Disk.Disk) (g.P.Prices.prices c.args.costs.now) c.args.topology.now (held c.args.outside.now) (held named.new.outside)) c.in-Ok.is named.ensures.judges in
    let outcome = checked _ _ _ _ (held named.new.outside) c.tell_verdict.new.output (why_status c.tell_verdict.result) (Ok c.in-Ok.verdict) (ap (λ b. b.now) named.ensures.output) judges c.tell_verdict.ensures.came in
    record { outcome = outcome; told = c.tell_verdict.ensures.told; fails = tt; not_words = search rules; out = search rules; keeps = search rules }

pub returns-in-Err : goal.returns-in-Err
returns-in-Err g c =
    let named = c.judge_named in
    let judges = subst (JudgesNamed (tellings g.I.Source g.O.Sink g.C.Cabinet g.C.Disk.Disk) (g.P.Prices.prices c.args.costs.now) c.args.topology.now (held c.args.outside.now) (held named.new.outside)) c.in-Err.is named.ensures.judges in
    let outcome = checked _ _ _ _ (held named.new.outside) c.end.new.output (why_status c.end.result) (Err c.in-Err.why) (ap (λ b. b.now) named.ensures.output) judges (c.end.ensures.status, c.end.ensures.last_line) in
    record { outcome = outcome; told = c.end.ensures.told; fails = tt; not_words = search rules; out = search rules; keeps = search rules }
