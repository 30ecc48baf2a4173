use Rattle.std.proofs.Common.{rules, slice_set}
use Rattle.hose_host.specs.steps.Keeping.{at, hall}
use Rattle.hose_host.specs.steps.Seats.{AtRest, Resting}
use Rattle.hose_host.proofs.Keepings.{all_grow, all_quiet, all_rest, all_then, keeps_same}
use Rattle.hose_host.proofs.coming.come.Goals as goal

pub returns-then-not-admit-clause-keeps : goal.returns-then-not-admit-clause-keeps
returns-then-not-admit-clause-keeps g c = λ heard.
    let by_now = c.args.answers.now in
    let grown = c.free_place.new.seats.items in
    all_then g.N.Connections g.A.HostAnswers Resting Resting Resting (hall c.args.network.now by_now c.args.seats.now.items heard) (hall c.args.network.now by_now grown heard) (hall c.admit.new.network c.admit.new.answers (slice_set grown c.in-Some.place c.admit.new.seat) heard)
    (all_grow g.N.Connections g.A.HostAnswers heard c.args.network.now by_now c.args.seats.now.items grown c.free_place.ensures)
    (all_rest g.N.Connections g.A.HostAnswers heard c.in-Some.place c.args.network.now c.admit.new.network by_now c.admit.new.answers grown c.in-Some-get_mut.seat.now c.admit.new.seat (search rules) c.in-Some-get_mut.ensures.value (c.admit.ensures.keeps heard))

pub returns-else-not-admit-clause-keeps : goal.returns-else-not-admit-clause-keeps
returns-else-not-admit-clause-keeps g c = λ heard.
    let by_now = c.args.answers.now in
    let grown = c.free_place.new.seats.items in
    all_then g.N.Connections g.A.HostAnswers Resting Resting Resting (hall c.args.network.now by_now c.args.seats.now.items heard) (hall c.args.network.now by_now grown heard) (hall c.admit.new.network c.admit.new.answers (slice_set grown c.in-Some.place c.admit.new.seat) heard)
    (all_grow g.N.Connections g.A.HostAnswers heard c.args.network.now by_now c.args.seats.now.items grown c.free_place.ensures)
    (all_rest g.N.Connections g.A.HostAnswers heard c.in-Some.place c.args.network.now c.admit.new.network by_now c.admit.new.answers grown c.in-Some-get_mut.seat.now c.admit.new.seat (search rules) c.in-Some-get_mut.ensures.value (c.admit.ensures.keeps heard))

pub returns-then-not-is_lost-clause-keeps : goal.returns-then-not-is_lost-clause-keeps
returns-then-not-is_lost-clause-keeps g c = λ heard.
    let by_now = c.args.answers.now in
    let grown = c.free_place.new.seats.items in
    all_then g.N.Connections g.A.HostAnswers Resting Resting Resting (hall c.args.network.now by_now c.args.seats.now.items heard) (hall c.args.network.now by_now grown heard) (hall c.args.network.now by_now (slice_set grown c.in-Some.place c.in-Some-get_mut.seat.now) heard)
    (all_grow g.N.Connections g.A.HostAnswers heard c.args.network.now by_now c.args.seats.now.items grown c.free_place.ensures)
    (all_rest g.N.Connections g.A.HostAnswers heard c.in-Some.place c.args.network.now c.args.network.now by_now by_now grown c.in-Some-get_mut.seat.now c.in-Some-get_mut.seat.now (search rules) c.in-Some-get_mut.ensures.value (keeps_same g.N.Connections g.A.HostAnswers heard (AtRest heard c.in-Some-get_mut.seat.now.kept) (AtRest heard c.in-Some-get_mut.seat.now.kept) c.in-Some.place (at c.args.network.now by_now c.in-Some-get_mut.seat.now c.in-Some-get_mut.seat.now.kept) (λ life so. so)))

pub returns-in_default-clause-keeps : goal.returns-in_default-clause-keeps
returns-in_default-clause-keeps g c = λ heard.
    let by_now = c.args.answers.now in
    let grown = c.free_place.new.seats.items in
    all_then g.N.Connections g.A.HostAnswers Resting Resting Resting (hall c.args.network.now by_now c.args.seats.now.items heard) (hall c.args.network.now by_now grown heard) (hall c.put_off.new.self by_now grown heard)
    (all_grow g.N.Connections g.A.HostAnswers heard c.args.network.now by_now c.args.seats.now.items grown c.free_place.ensures)
    (all_quiet g.N.Connections g.A.HostAnswers heard Resting c.args.network.now c.put_off.new.self by_now grown c.put_off.ensures)

pub returns-in_default-get_mut-clause-keeps : goal.returns-in_default-get_mut-clause-keeps
returns-in_default-get_mut-clause-keeps g c = λ heard. all_grow g.N.Connections g.A.HostAnswers heard c.args.network.now c.args.answers.now c.args.seats.now.items c.free_place.new.seats.items c.free_place.ensures
