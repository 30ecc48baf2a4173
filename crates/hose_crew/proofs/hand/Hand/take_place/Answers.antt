use Rattle.std.proofs.Common.{rules}
use Rattle.hose_crew.proofs.Working.{begins_work}
use Rattle.hose_crew.proofs.hand.Hand.take_place.Goals as goal

pub returns : goal.returns
returns g c = record {
  works = record {
    place = c.args.place;
    has = search rules;
    works = begins_work _ _ _ _ c.requires.pass c.requires.share.0 c.requires.share.1 (search rules);
    room = search rules;
  };
}
