use Rattle.std.proofs.Common.{sym}
use Rattle.hose_proto.proofs.EndWords.{name_front, name_whole}
use Rattle.hose_proto.proofs.places.name_before_colon.Goals as goal

pub returns-in-Some : goal.returns-in-Some
returns-in-Some c = rw c.in-Some.ensures.spelled (sym (name_front c.in-Some.name.now _ c.in-Some.ensures.first))

pub returns-in-None : goal.returns-in-None
returns-in-None c = sym (name_whole c.args.word.now c.in-None.ensures.none)
