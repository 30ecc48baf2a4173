use Rattle.hose_book.proofs.Moving.{moved_first}
use Rattle.hose_book.proofs.live_vpns.first_after.Goals as goal

pub returns : goal.returns
returns c = moved_first c.args.vpns.now c.rotate_right.new.self c.args.start c.args.place c.requires.order c.requires.inside c.rotate_right.ensures.after
