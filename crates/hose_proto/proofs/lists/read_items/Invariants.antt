use Rattle.std.proofs.Common.{length}
use Rattle.hose_words.specs.steps.Form.{list}
use Rattle.hose_words.proofs.Listing.{Listing}
use Rattle.hose_proto.proofs.lists.read_items.Given as goal

abbrev pub invariant-loop-items : goal.invariant-loop-items
invariant-loop-items g l = record {
  listing : Listing (g.L.Items.word_of l.top) (list (g.L.Items.word_of l.top) (g.L.Items.fine l.top) l.least) l.items.items l.fn.words l.words;
  so_far : g.L.Items.fine l.top l.items.items;
}

abbrev pub decreases-loop-items : goal.decreases-loop-items
decreases-loop-items g l = length l.words.left
