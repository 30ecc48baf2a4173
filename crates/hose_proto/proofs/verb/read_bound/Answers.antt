use Rattle.std.proofs.Common.{refl}
use Rattle.hose_words.proofs.Forms.{wrong_place, wrong_later}
use Rattle.hose_proto.proofs.Faults.{handed, is_told, later_fault}
use Rattle.hose_proto.proofs.verb.read_bound.Goals as goal

pub returns-in_err-known-clause-bad : goal.returns-in_err-known-clause-bad
returns-in_err-known-clause-bad c = handed _ c.from_residual.result c.from_residual.ensures.1 (is_told (wrong_place c.in_err-known.ensures.wrong))

pub returns-in_err-hose-clause-bad : goal.returns-in_err-hose-clause-bad
returns-in_err-hose-clause-bad c =
    handed _ c.from_residual-in_err-hose.result c.from_residual-in_err-hose.ensures.1
    (later_fault (λ number wrong. wrong_later c.in_ok-known.ensures.ok (c.in_ok-known.known, refl, c.in_ok-known.ensures.within) wrong) c.in_err-hose.ensures.bad)
