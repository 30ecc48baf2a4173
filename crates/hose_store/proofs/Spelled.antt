-- The entries of a history are entries of a journal.
use Rattle.std.proofs.Common.{ℕ, List, [], ◌∷◌, ◌++◌, Option, IfSome, subst, All}
use Rattle.std.proofs.lemmas.List.Elements.{All-cons, All-nil}
use Rattle.hose_graph.specs.declared.entry.Entry.{Entry}
use Rattle.hose_codec.specs.Spelling.{IsEntry}
use Rattle.hose_disk.specs.declared.disk.Disk.{Ghosts}
use Rattle.hose_journal.specs.Entries.{Item, TakesAny, entered, entries_in, sealed}
use Rattle.hose_journal.specs.Image.{AreItems}
use Rattle.hose_store.specs.steps.Store.{HasHistory, KeptStore}

items_spelled : (version : ℕ) (before items : List Item) → AreItems TakesAny version before items → All IsEntry (entries_in items)
items_spelled version before [] are = All-nil IsEntry
items_spelled version before (entered entry ∷ items) are = All-cons IsEntry entry (entries_in items) are.0.0 (items_spelled version (before ++ entered entry ∷ []) items are.1)
items_spelled version before (sealed ∷ items) are = items_spelled version (before ++ sealed ∷ []) items are.1

pub history_spelled : {D : Type 0} (disk : Ghosts D) (store : KeptStore D) (history : List Entry) (doubt : Option Entry) → HasHistory disk store history doubt → All IsEntry history × IfSome doubt IsEntry
history_spelled disk store history doubt has =
    let stands = has.journal in
    (subst (All IsEntry) stands.entries (items_spelled stands.version [] stands.items stands.are), stands.doubt_is)
