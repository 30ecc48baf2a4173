use Rattle.std.proofs.Common.{refl, arith}
use Rattle.hose_cert.proofs.Changing.{all_kept}
use Rattle.hose_cert.proofs.rows.change_within.Goals as goal

pub returns-clause-within : goal.returns-clause-within
returns-clause-within c = (
  λ _. all_kept c.args.top.now c.args.without.now c.args.row.now c.loop-link.link c.requires.links (omega (arith, c.links-link-end.ensures.count, c.loop-link-test.false)) c.loop-link.invariant,
  λ _. refl,
)
