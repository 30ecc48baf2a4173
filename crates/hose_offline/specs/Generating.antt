-- What comes of a generated script.
use Rattle.std.specs.Prelude.{List, [], map}
use Rattle.hose_graph.specs.declared.entry.Entry.{Entry}
use Rattle.hose_graph.specs.declared.command.Reply.{Reply}
use Rattle.hose_graph.specs.Network.{Network}
use Rattle.hose_law.specs.History.{IsDecided}
use Rattle.hose_law.specs.Quotes.{Holdings, nothing_held}
use Rattle.hose_law.specs.Script.{ReadLine, IsScript, WithoutDisk, WithoutMemory, script_state}
use Rattle.hose_law.specs.Script.ReadLine.{Asks}
use Rattle.hose_gen.specs.Generated.{Order}

-- the orders as lines of a script that were read
abbrev pub asked : List Order → List ReadLine
asked orders = map (λ (order : Order). Asks order.0 order.1) orders

-- Orders on a network are a script from the empty history on, whose entries are all decided. No
-- reply is for want of memory, and none for a failure of a disk.
pub record IsScriptOf (network : Network) (orders : List Order) (replies : List Reply)
    (history : List Entry) : Type 0 where
  pub left : Holdings
  pub script : IsScript network 0 (asked orders) replies (script_state [] nothing_held)
      (script_state history left)
  pub decided : IsDecided network 0 0 history
  pub memory : WithoutMemory replies
  pub disk : WithoutDisk replies
