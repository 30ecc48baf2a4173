use Rattle.std.proofs.Common.{◌≡◌, ◌∙◌, List, ℕ, Err, inl, refl, ap, subst, length, ◌-◌, arith}
use Rattle.std.proofs.lemmas.Result.{err_from_is_err_and}
use Rattle.hose_follow.specs.steps.Follower.{follower_tellings}
use Rattle.hose_follow.specs.Packet.{BeginsNoPacket, Packet}
use Rattle.hose_follow.specs.declared.following.FollowEnd.TheVariants.{Write}
use Rattle.hose_io.proofs.Streams.{Gives-nil}
use Rattle.hose_follow.proofs.Exchanges.{answers_with}
use Rattle.hose_follow.proofs.following.exchange.Goals as goal

pub returns-in-Bad : goal.returns-in-Bad
returns-in-Bad g c = (
  ap (λ (l : List ℕ). c.args.intake.now.taken - length l) c.pending-pending.ensures,
  inl (subst BeginsNoPacket c.pending-pending.ensures c.in-Bad.ensures),
  record { gives = Gives-nil (g.S.Source.content c.args.source.now); frame = refl },
  record { same_sink = refl; same_store = refl },
)

pub returns-in_ok-put_answer-in-Whole : goal.returns-in_ok-put_answer-in-Whole
returns-in_ok-put_answer-in-Whole g c =
    let packet : Packet = record { epoch = c.in-Whole.epoch; chain = c.in-Whole.chain; body = c.in-Whole.body.now } in
    inl (
      answers_with (follower_tellings g.S.Source g.O.Sink g.D.Disk) _ _ _ packet _ c.in-Whole.ensures.0 _ c.offer-answer.result c.pending-pending.ensures c.in-Whole.ensures.1 (omega arith) c.pass.ensures c.offer-answer.ensures c.in_ok-put_answer-in-Whole.ensures.ok refl refl,
      c.in_ok-put_answer-in-Whole.ensures.met.ok,
    )

pub returns-in_err-put_answer-in-Whole : goal.returns-in_err-put_answer-in-Whole
returns-in_err-put_answer-in-Whole g c =
    let packet : Packet = record { epoch = c.in-Whole.epoch; chain = c.in-Whole.chain; body = c.in-Whole.body.now } in
    let told = err_from_is_err_and c.from_residual.result c.from_residual.ensures.1 in
    let is : c.from_residual.result ≡ Err Write = told.1 ∙ ap Err told.2 in
    let met = c.in_err-put_answer-in-Whole.ensures.met in
    rw is (
      answers_with (follower_tellings g.S.Source g.O.Sink g.D.Disk) _ _ _ packet _ c.in-Whole.ensures.0 _ c.offer-answer.result c.pending-pending.ensures c.in-Whole.ensures.1 (omega arith) c.pass.ensures c.offer-answer.ensures c.in_err-put_answer-in-Whole.ensures.err refl refl,
      record { rose = met.failed refl; stays = met.stays },
    )
