use Rattle.std.proofs.Common.{refl}
use Rattle.hose_words.proofs.Exits.{still_wrong}
use Rattle.hose_words.proofs.Forms.{wrong_place, wrong_later}
use Rattle.hose_proto.proofs.verb.read_id.Goals as goal

pub returns-in_err-id-clause-wrong : goal.returns-in_err-id-clause-wrong
returns-in_err-id-clause-wrong c = still_wrong c.from_residual.result c.from_residual.ensures.1 (wrong_place c.in_err-id.ensures.wrong)

pub returns-in_err-finish-clause-wrong : goal.returns-in_err-finish-clause-wrong
returns-in_err-finish-clause-wrong c =
    still_wrong c.from_residual-in_err-finish.result c.from_residual-in_err-finish.ensures.1
    (wrong_later c.in_ok-id.ensures.ok (c.in_ok-id.id, refl, c.in_ok-id.ensures.within) c.in_err-finish.ensures.wrong)
