use Rattle.std.proofs.Common.{ℕ, [], Option, None, arith}
use Rattle.std.specs.Prelude.{unwrap_or}
use Rattle.std.proofs.lemmas.List.{take_all}
use Rattle.std.proofs.lemmas.List.Folds.{flat_map-map}
use Rattle.hose_io.proofs.Gathering.{IsAdded-item}
use Rattle.hose_cert.specs.steps.Written.{number_text}
use Rattle.hose_cert.proofs.writing.add_numbers.Goals as goal

pub loop-distance-preserved : goal.loop-distance-preserved
loop-distance-preserved g c =
    IsAdded-item [] (λ (distance : Option ℕ). number_text (unwrap_or distance c.args.most)) c.args.dist.now c.loop-distance.distance-index None (omega arith) c.loop-distance.invariant
    (rw c.unwrap_or.ensures at c.add_numbered.ensures)

pub returns : goal.returns
returns g c =
    let all = take_all c.loop-distance.distance-index c.args.dist.now (omega (arith, c.loop-distance-test.false)) in
    rw (flat_map-map number_text (λ (distance : Option ℕ). unwrap_or distance c.args.most) c.args.dist.now) (rw all at c.loop-distance.invariant)
