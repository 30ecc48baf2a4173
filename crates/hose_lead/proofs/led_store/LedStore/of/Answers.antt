use Rattle.std.proofs.Common.{◌∙◌, ap}
use Rattle.hose_graph.specs.Network.{Network}
use Rattle.hose_book.specs.Ledger.{Ledger}
use Rattle.hose_journal.specs.Chain.{chain}
use Rattle.hose_law.proofs.Epochs.{epoch_is}
use Rattle.hose_store.specs.Recovery.{digest_of}
use Rattle.hose_lead.proofs.led_store.LedStore.of.Goals as goal

pub returns-clause-is_of : goal.returns-clause-is_of
returns-clause-is_of g c = λ network list doubt same has. record {
  is_network = same;
  doubt = doubt;
  has = has;
  recent = c.new-recent.ensures.is network list (c.epoch.ensures.value ∙ ap (λ (l : Ledger). l.book.epoch) c.book.ensures ∙ epoch_is _ list has.book) (c.chain.ensures list doubt has ∙ ap (λ (n : Network). chain (digest_of n) list) same);
}
