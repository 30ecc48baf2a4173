use Rattle.std.proofs.Common.{◌≡◌, ◌∙◌, List, [], ◌∷◌, ◌++◌, ap, rules, subst, sym}
use Rattle.std.proofs.lemmas.Result.{err_from_is_err_and}
use Rattle.hose_graph.specs.declared.entry.Entry.{Entry}
use Rattle.hose_move.specs.steps.Collecting.{HasPassed}
use Rattle.hose_move.proofs.Collected.{passed_all, passed_more, passed_until, wanting}
use Rattle.hose_move.proofs.Compared.{is_spelling}
use Rattle.hose_move.proofs.collecting.collect_next.Goals as goal

pub returns-in_err-ready-clause-collects : goal.returns-in_err-ready-clause-collects
returns-in_err-ready-clause-collects g c = λ was network passed.
    let read = c.in_err-ready.ensures.read was network _ passed.replaying in
    let told = err_from_is_err_and c.from_residual.result c.from_residual.ensures.1 in
    rw (told.1, told.2) (passed_until g.D.Disk was network g.met.D.Disk.counts_now c.args.replay.now c.next.new.self _ passed _ read c.in_err-ready.ensures.only)

pub returns-in_default-clause-collects : goal.returns-in_default-clause-collects
returns-in_default-clause-collects g c = λ was network passed.
    let read = c.in_ok-ready.ensures.read was network _ passed.replaying in
    passed_all g.D.Disk was network g.met.D.Disk.counts_now c.args.replay.now c.next.new.self _ passed (rw c.in_default.is at read)

pub returns-in_default-decode-clause-collects : goal.returns-in_default-decode-clause-collects
returns-in_default-decode-clause-collects g c = λ was network passed.
    let read = c.in_ok-ready.ensures.read was network _ passed.replaying in
    let more = passed_more g.D.Disk was network g.met.D.Disk.counts_now c.args.replay.now c.next.new.self _ passed c.in-Some.ready (rw c.in-Some.is at read) in
    wanting g.D.Disk was network g.met.D.Disk.counts_now c.next.new.self _ more.2

pub returns-in_default-push-clause-collects : goal.returns-in_default-push-clause-collects
returns-in_default-push-clause-collects g c = λ was network passed.
    let read = c.in_ok-ready.ensures.read was network _ passed.replaying in
    let more = passed_more g.D.Disk was network g.met.D.Disk.counts_now c.args.replay.now c.next.new.self _ passed c.in-Some.ready (rw c.in-Some.is at read) in
    wanting g.D.Disk was network g.met.D.Disk.counts_now c.next.new.self _ more.2

pub returns-clause-collects : goal.returns-clause-collects
returns-clause-collects g c = λ was network passed.
    let read = c.in_ok-ready.ensures.read was network _ passed.replaying in
    let more = passed_more g.D.Disk was network g.met.D.Disk.counts_now c.args.replay.now c.next.new.self _ passed c.in-Some.ready (rw c.in-Some.is at read) in
    let same = c.in-Ok.ensures.again more.0 (is_spelling more.0 c.in-Some.ready _ c.deref.ensures.value more.1) in
    let pushed : c.push.new.self.items ≡ c.args.entries.now.items ++ c.in-Ok.entry ∷ [] = search rules in
    let all : c.push.new.self.items ≡ c.args.entries.now.items ++ more.0 ∷ [] = pushed ∙ ap (λ (e : Entry). c.args.entries.now.items ++ e ∷ []) same in
    subst (λ (l : List Entry). HasPassed g.D.Disk was network c.next.new.self l) (sym all) more.2
