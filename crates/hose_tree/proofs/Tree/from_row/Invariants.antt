-- The endpoints so far are attached.
use Rattle.std.proofs.Common.{◌≡◌, Bool, List, length, reverse, take}
use Rattle.hose_law.specs.Row.{IsRow}
use Rattle.hose_tree.proofs.Union.{HasAttached}
use Rattle.hose_tree.proofs.Tree.from_row.Given as goal

abbrev pub invariant-loop-node : goal.invariant-loop-node
invariant-loop-node l = record {
  places : length l.on.items ≡ length l.top.nodes;
  attached : (set : List Bool) → IsRow l.top set l.row.root l.row
      → HasAttached l.top set l.row.root (take l.node-index l.hose) (reverse l.steps.items) l.on.items;
}
