-- What moving a journal comes to, step by step: steps of proofs.
use Rattle.hose_graph.specs.Network.{Network}
use Rattle.hose_outside.specs.Reading.{priced_names}
use Rattle.hose_copying.specs.CutOutcome.{CutNames, cut_names}
use Rattle.hose_copying.specs.declared.moving.Cut.{Cut}
use Rattle.hose_copying.specs.declared.moving.Journals.{Journals}
use Rattle.hose_outside.specs.declared.asked.Move.{Move}
use Rattle.hose_copying.specs.Moving.{MovedJournals, MoveNames, move_names, scope_of}

-- ---- what is moved

-- the journals of which one is moved into the other, and which entries
abbrev pub journals_at : Journals → MovedJournals
journals_at of = record { scope = of.scope; old = of.old.now; new = of.new.now }

-- what is moved by the program: its journals, and which entries
abbrev pub journals_of : Move → MovedJournals
journals_of of = record {
  scope = scope_of of.live;
  old = of.from.journal.now;
  new = of.to.journal.now;
}

-- what a move of the program names, at such prices
abbrev pub names_of : (Network → Network → Type 0) → Move → MoveNames
names_of prices of = move_names prices (scope_of of.live) of.from.topology.now of.from.journal.now
    of.to.topology.now of.to.journal.now

-- what a cut of the program names, at such prices
abbrev pub cut_of : (Network → Network → Type 0) → Cut → CutNames
cut_of prices of =
    cut_names (priced_names prices of.from.topology.now of.from.journal.now) of.count of.to.now
