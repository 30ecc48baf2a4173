use Rattle.std.proofs.Common.{Bool, false, subst, sym, true, ◌∙◌}
use Rattle.hose_net.specs.declared.hold.Parting.{Parting}
use Rattle.hose_net.specs.declared.hold.Parting.TheVariants as parting
use Rattle.hose_host.specs.steps.Keeping.{KeepsHost, PartsHost, host_of}
use Rattle.hose_host.specs.steps.Seats.{AllFinished, Resting}
use Rattle.hose_host.proofs.Keepings.{asked_parts, host_then, is_true, parts_keeps, parts_then}
use Rattle.hose_host.proofs.ending.end.Goals as goal

pub returns-in-Asked-clause-keeps : goal.returns-in-Asked-clause-keeps
returns-in-Asked-clause-keeps g c = λ first parts.
    let mid = host_of c.args.network.now c.args.answers.now c.args.places.now in
    let last = host_of c.finish.new.network c.finish.new.answers c.finish.new.places in
    let yes = is_true (g.A.HostAnswers.ends c.finish.new.answers) (λ no. sym (c.finish.ensures.ends no) ∙ c.requires.asked c.in-Asked.is) in
    asked_parts g.N.Connections g.A.HostAnswers Resting (AllFinished true) first last
    (host_then g.N.Connections g.A.HostAnswers Resting Resting (AllFinished true) first mid last (parts_keeps g.N.Connections g.A.HostAnswers c.args.why Resting Resting first mid parts)
    (subst (λ (b : Bool). KeepsHost g.N.Connections g.A.HostAnswers Resting (AllFinished b) mid last) yes c.finish.ensures.keeps))

pub returns-then-is_ending-clause-keeps : goal.returns-then-is_ending-clause-keeps
returns-then-is_ending-clause-keeps g c = λ first parts.
    let mid = host_of c.args.network.now c.args.answers.now c.args.places.now in
    let last = host_of c.finish-in-Told.new.network c.finish-in-Told.new.answers c.finish-in-Told.new.places in
    let yes = sym c.is_ending.ensures ∙ c.if-is_ending.true in
    asked_parts g.N.Connections g.A.HostAnswers Resting (AllFinished true) first last
    (host_then g.N.Connections g.A.HostAnswers Resting Resting (AllFinished true) first mid last (parts_keeps g.N.Connections g.A.HostAnswers c.args.why Resting Resting first mid parts)
    (subst (λ (b : Bool). KeepsHost g.N.Connections g.A.HostAnswers Resting (AllFinished b) mid last) yes c.finish-in-Told.ensures.keeps))

pub returns-else-is_ending-clause-keeps : goal.returns-else-is_ending-clause-keeps
returns-else-is_ending-clause-keeps g c = λ first parts.
    let mid = host_of c.args.network.now c.args.answers.now c.args.places.now in
    let last = host_of c.finish-in-Told.new.network c.finish-in-Told.new.answers c.finish-in-Told.new.places in
    let no = sym c.is_ending.ensures ∙ c.if-is_ending.false in
    parts_then g.N.Connections g.A.HostAnswers parting.Told Resting Resting (AllFinished false) first mid last
    (subst (λ (w : Parting). PartsHost g.N.Connections g.A.HostAnswers w Resting Resting first mid) c.in-Told.is parts)
    (subst (λ (b : Bool). KeepsHost g.N.Connections g.A.HostAnswers Resting (AllFinished b) mid last) no c.finish-in-Told.ensures.keeps)

pub returns-in-Late-clause-keeps : goal.returns-in-Late-clause-keeps
returns-in-Late-clause-keeps g c = λ first parts.
    let mid = host_of c.args.network.now c.args.answers.now c.args.places.now in
    let last = host_of c.write_all.new.network c.write_all.new.answers c.write_all.new.places in
    parts_then g.N.Connections g.A.HostAnswers parting.Late Resting Resting (AllFinished true) first mid last
    (subst (λ (w : Parting). PartsHost g.N.Connections g.A.HostAnswers w Resting Resting first mid) c.in-Late.is parts) c.write_all.ensures.keeps

pub returns-in-Ahead-clause-keeps : goal.returns-in-Ahead-clause-keeps
returns-in-Ahead-clause-keeps g c = λ first parts.
    let mid = host_of c.args.network.now c.args.answers.now c.args.places.now in
    let last = host_of c.write_all-in-Ahead.new.network c.write_all-in-Ahead.new.answers c.write_all-in-Ahead.new.places in
    parts_then g.N.Connections g.A.HostAnswers (parting.Ahead c.in-Ahead.count) Resting Resting (AllFinished true) first mid last
    (subst (λ (w : Parting). PartsHost g.N.Connections g.A.HostAnswers w Resting Resting first mid) c.in-Ahead.is parts) c.write_all-in-Ahead.ensures.keeps
