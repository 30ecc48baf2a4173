use Rattle.std.proofs.Common.{List, ℕ, subst, sym}
use Rattle.hose_host.specs.steps.Keeping.{Keeps, at}
use Rattle.hose_host.specs.steps.Seats.{Calm, Freed}
use Rattle.hose_host.proofs.Keepings.{keeps_same}
use Rattle.hose_host.proofs.serving.take_turn.Goals as goal

pub returns-then-has_kept-clause-keeps : goal.returns-then-has_kept-clause-keeps
returns-then-has_kept-clause-keeps g c = c.take_kept.ensures.keeps

pub returns-then-is_read-clause-keeps : goal.returns-then-is_read-clause-keeps
returns-then-is_read-clause-keeps g c = subst (λ (kept : List ℕ). Keeps g.N.Connections g.A.HostAnswers (Calm c.args.heard kept) (Freed c.args.heard c.read_piece.new.seat.kept) c.args.place c.args.heard (at c.args.network.now c.args.answers.now c.args.seat.now kept) (at c.read_piece.new.network c.read_piece.new.answers c.read_piece.new.seat c.read_piece.new.seat.kept)) (sym (c.has_kept.ensures.none c.if-has_kept.false)) c.read_piece.ensures.keeps

pub returns-else-is_read-clause-keeps : goal.returns-else-is_read-clause-keeps
returns-else-is_read-clause-keeps g c =
    let seat = c.args.seat.now in
    keeps_same g.N.Connections g.A.HostAnswers c.args.heard (Calm c.args.heard seat.kept) (Freed c.args.heard seat.kept) c.args.place (at c.args.network.now c.args.answers.now seat seat.kept) (λ life so. so.freed)
