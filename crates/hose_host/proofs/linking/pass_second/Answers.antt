use Rattle.std.proofs.Common.{ℕ, subst, true, ◌∙◌}
use Rattle.hose_host.specs.steps.Keeping.{KeepsLinkAt}
use Rattle.hose_host.specs.steps.Seats.{InRound}
use Rattle.hose_host.proofs.Keepings.{host_near, link_by, link_open, link_then, link_then_at, link_to}
use Rattle.hose_host.proofs.linking.pass_second.Goals as goal

pub returns-then-places-clause-keeps : goal.returns-then-places-clause-keeps
returns-then-places-clause-keeps g c = λ ended.
    let was = c.args.places.now in
    let now = c.tell_alone.new.places in
    let told = link_to g.N.Connections g.A.HostAnswers was.opened was.opened now.opened c.args.network.now c.args.network.now c.args.answers.now c.tell_alone.new.answers c.tell_alone.ensures.opened (link_by g.N.Connections g.A.HostAnswers was.opened c.args.network.now c.args.answers.now c.tell_alone.new.answers c.tell_alone.ensures.comes c.tell_alone.ensures.leaves) in
    host_near g.N.Connections g.A.HostAnswers (InRound ended) was.opened now.opened c.args.network.now c.send_more.new.network c.args.answers.now c.send_more.new.answers was.seats.items now.seats.items was.heard now.heard
    (link_then g.N.Connections g.A.HostAnswers was.opened now.opened now.opened c.args.network.now c.args.network.now c.send_more.new.network c.args.answers.now c.tell_alone.new.answers c.send_more.new.answers told
    (link_open g.N.Connections g.A.HostAnswers now.opened c.args.network.now c.send_more.new.network c.tell_alone.new.answers c.send_more.new.answers c.if-places.true c.send_more.ensures.keeps) was.heard) c.tell_alone.ensures.seats c.tell_alone.ensures.heard

pub returns-then-open_link-clause-keeps : goal.returns-then-open_link-clause-keeps
returns-then-open_link-clause-keeps g c = λ ended.
    let was = c.args.places.now in
    let now = c.tell_alone.new.places in
    let last = c.expect_start.new.places in
    let told = link_to g.N.Connections g.A.HostAnswers was.opened was.opened now.opened c.args.network.now c.args.network.now c.args.answers.now c.tell_alone.new.answers c.tell_alone.ensures.opened (link_by g.N.Connections g.A.HostAnswers was.opened c.args.network.now c.args.answers.now c.tell_alone.new.answers c.tell_alone.ensures.comes c.tell_alone.ensures.leaves) in
    let opened = subst (λ (h : ℕ). KeepsLinkAt g.N.Connections g.A.HostAnswers h now.opened c.args.network.now c.tell_alone.new.answers true c.open_link.new.network c.open_link.new.answers) c.tell_alone.ensures.heard (rw c.if-open_link.true at (c.open_link.ensures.keeps now.opened)) in
    host_near g.N.Connections g.A.HostAnswers (InRound ended) was.opened last.opened c.args.network.now c.expect_start.new.network c.args.answers.now c.open_link.new.answers was.seats.items last.seats.items was.heard last.heard
    (link_then_at g.N.Connections g.A.HostAnswers was.heard was.opened true last.opened c.args.network.now c.open_link.new.network c.expect_start.new.network c.args.answers.now c.open_link.new.answers c.open_link.new.answers
    (link_then_at g.N.Connections g.A.HostAnswers was.heard was.opened now.opened true c.args.network.now c.args.network.now c.open_link.new.network c.args.answers.now c.tell_alone.new.answers c.open_link.new.answers (told was.heard) opened)
    (link_to g.N.Connections g.A.HostAnswers true true last.opened c.open_link.new.network c.expect_start.new.network c.open_link.new.answers c.open_link.new.answers c.expect_start.ensures.opened (c.expect_start.ensures.keeps true) was.heard)) (c.expect_start.ensures.seats ∙ c.tell_alone.ensures.seats) (c.expect_start.ensures.heard ∙ c.tell_alone.ensures.heard)

pub returns-else-open_link-clause-keeps : goal.returns-else-open_link-clause-keeps
returns-else-open_link-clause-keeps g c = λ ended.
    let was = c.args.places.now in
    let now = c.tell_alone.new.places in
    let told = link_to g.N.Connections g.A.HostAnswers was.opened was.opened now.opened c.args.network.now c.args.network.now c.args.answers.now c.tell_alone.new.answers c.tell_alone.ensures.opened (link_by g.N.Connections g.A.HostAnswers was.opened c.args.network.now c.args.answers.now c.tell_alone.new.answers c.tell_alone.ensures.comes c.tell_alone.ensures.leaves) in
    let tried = subst (λ (h : ℕ). KeepsLinkAt g.N.Connections g.A.HostAnswers h now.opened c.args.network.now c.tell_alone.new.answers now.opened c.open_link.new.network c.open_link.new.answers) c.tell_alone.ensures.heard (rw c.if-open_link.false at (c.open_link.ensures.keeps now.opened)) in
    host_near g.N.Connections g.A.HostAnswers (InRound ended) was.opened now.opened c.args.network.now c.open_link.new.network c.args.answers.now c.open_link.new.answers was.seats.items now.seats.items was.heard now.heard
    (link_then_at g.N.Connections g.A.HostAnswers was.heard was.opened now.opened now.opened c.args.network.now c.args.network.now c.open_link.new.network c.args.answers.now c.tell_alone.new.answers c.open_link.new.answers (told was.heard) tried) c.tell_alone.ensures.seats c.tell_alone.ensures.heard
