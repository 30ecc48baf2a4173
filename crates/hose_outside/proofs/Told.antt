-- That the line which tells why a command ended is the last of what was put out.
use Rattle.std.proofs.Common.{List, ℕ, [], ◌++◌, Err, Ok, Result, inl, inr, refl, true, ◌∙◌, subst}
use Rattle.hose_io.proofs.Streams.{Grows-nil, Grows-append, GrowsInPart-after, GrowsInPart-append}
use Rattle.hose_io.specs.declared.Failed.{Failed}
use Rattle.hose_io.specs.declared.sink.Sink.{Ghosts as SinkGhosts}
use Rattle.hose_io.specs.steps.Writing.{IsPut}
use Rattle.hose_outside.specs.Ending.{IsOut}
use Rattle.hose_outside.specs.Why.{IsTold, why_line}
use Rattle.hose_outside.specs.declared.fault.Fault.TheVariants.{Write}
use Rattle.hose_outside.specs.declared.why.Why.{Why}
use Rattle.hose_outside.specs.declared.why.Why.TheVariants.{Done, Stopped}
use Rattle.hose_io.specs.Frame.{Frame, Rose}
use Rattle.hose_io.proofs.Frames.{Stays-next}

module _ {O : Type 0} (sink : SinkGhosts O) (now : O) where
  nothing_out : IsOut sink now now []
  nothing_out = inl (Grows-nil (sink.content now), refl)

  -- where all was done there is none
  pub told_done : IsTold sink now Done
  told_done = record { was = now; text = []; out = nothing_out }

  -- nor where the output failed
  pub told_failed : IsTold sink now (Stopped Write)
  told_failed = record { was = now; text = []; out = nothing_out }

  -- the line was put after a text
  pub told_after : (was : O) (text : List ℕ) (why : Why) → IsOut sink was now (text ++ why_line why) → IsTold sink now why
  told_after was text why out = record { was = was; text = text; out = out }

  -- the line was put alone
  pub told_alone : (was : O) (why : Why) → IsOut sink was now (why_line why) → IsTold sink now why
  told_alone was why out = record { was = was; text = []; out = out }

-- what was put is out, as far as putting it came
pub put_out : {O T : Type 0} (sink : SinkGhosts O) (was now : O) (text : List ℕ) (result : Result T Failed) → IsPut sink was now text result → IsOut sink was now text
put_out sink was now text (Ok done) put = inl (put.ok, put.met.ok)
put_out sink was now text (Err failed) put = inr (put.met.failed (refl {a = true}), put.err)

-- a text was put, and then another one
pub put_next : {S T U : Type 0} {sink : SinkGhosts S} {was mid now : S} (text more : List ℕ) (first : T) (result : Result U Failed) → IsPut {T = T} sink was mid text (Ok first) → IsPut sink mid now more result → IsPut sink was now (text ++ more) result
put_next {sink = sink} {now = now} text more first (Ok done) p q = record {
  ok = Grows-append _ _ _ text more p.ok q.ok;
  err = tt;
  met = record { stays = Stays-next p.met.stays q.met.stays; failed = λ err. absurd (cc err); ok = q.met.ok ∙ p.met.ok };
}
put_next {sink = sink} {now = now} text more first (Err failed) p q = record {
  ok = tt;
  err = GrowsInPart-after _ _ _ text more p.ok q.err;
  met = record { stays = Stays-next p.met.stays q.met.stays; failed = λ err. subst (λ (f : Frame). Rose f (sink.frame now)) p.met.ok (q.met.failed err); ok = tt };
}

-- a part of a text was put, and nothing after it
pub put_part : {S T U : Type 0} {sink : SinkGhosts S} {was now : S} (text more : List ℕ) (failed failed' : Failed) → IsPut {T = T} sink was now text (Err failed) → IsPut {T = U} sink was now (text ++ more) (Err failed')
put_part {sink = sink} text more failed failed' p = record {
  ok = tt;
  err = GrowsInPart-append _ _ text more p.err;
  met = record { stays = p.met.stays; failed = λ err. p.met.failed refl; ok = tt };
}
