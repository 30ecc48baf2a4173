use Rattle.std.proofs.Common.{length}
use Rattle.hose_words.specs.steps.Form.{until}
use Rattle.hose_words.proofs.Listing.{Listing}
use Rattle.hose_replies.specs.steps.Fields.{Fields, form_of}
use Rattle.hose_replies.proofs.until.read_until.Given as goal

abbrev pub invariant-loop-items : goal.invariant-loop-items
invariant-loop-items g l = record {
  listing : (rest : Fields) → Listing (g.L.Items.word_of l.top) (until (g.L.Items.word_of l.top) (g.L.Items.fine l.top) l.least l.last (form_of l.top rest)) l.items.items l.fn.words l.words;
  so_far : g.L.Items.fine l.top l.items.items;
}

abbrev pub decreases-loop-items : goal.decreases-loop-items
decreases-loop-items g l = length l.words.left
