use Rattle.hose_move.proofs.Statements.{entries_more}
use Rattle.hose_move.proofs.live.add_links_out.Goals as goal

pub loop-link-preserved : goal.loop-link-preserved
loop-link-preserved c = entries_more c.args.book.now.book c.loop-link.link c.args.entries.now.items c.loop-link.entries.items c.add_link_out.new.entries.items c.loop-link.invariant c.in_ok-add_link_out.ensures
