use Rattle.std.proofs.Common.{rules, sym, subst, true}
use Rattle.hose_host.specs.steps.Seats.{Releases, SeatState}
use Rattle.hose_host.proofs.Keepings.{released_seat}
use Rattle.hose_host.proofs.seat.Seat.release.Goals as goal

pub returns : goal.returns
returns c = subst (λ (s : SeatState). Releases c.args.heard c.args.self.now s true) (sym c.held_less.ensures) (released_seat c.args.self.now c.next_waiting.new.self c.append.new.self c.in-Some.waiting c.args.heard c.in-Some.ensures.later.0 c.in-Some.ensures.later.1 c.next_waiting.ensures.rest c.append.ensures.later (search rules))
