use Rattle.std.proofs.Common.{take}
use Rattle.std.specs.Prelude.{unwrap_or}
use Rattle.std.specs.List.{flat_map}
use Rattle.hose_io.specs.steps.Gather.{IsAdded}
use Rattle.hose_cert.specs.steps.Written.{number_text}
use Rattle.hose_cert.proofs.writing.add_numbers.Given as goal

abbrev pub invariant-loop-distance : goal.invariant-loop-distance
invariant-loop-distance g l =
    IsAdded g.S.Sink l.fn.gather l.fn.sink l.gather l.sink (flat_map (λ distance. number_text (unwrap_or distance l.most)) (take l.distance-index l.dist))
