use Rattle.std.proofs.Common.{rules}
use Rattle.hose_talk.proofs.Inputs.{talks_by_input}
use Rattle.hose_talk.proofs.talking.hold_talk.Goals as goal

pub returns-clause-talks : goal.returns-clause-talks
returns-clause-talks g c = λ from begins.
    let by = g.A.Answers in
    let done = c.converse-ended in
    let about = by.about c.args.answers.now in
    talks_by_input g.S.Source g.O.Sink (by.says about) (by.text about) done.new.answers (by.comes from) by.over c.args.output.now done.new.output c.new-lines.result done.new.lines c.args.source.now _ (search rules) (search rules) (search rules)
    c.args.answers.now done.result (done.ensures.talks from begins)
