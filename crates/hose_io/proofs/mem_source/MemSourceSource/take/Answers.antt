use Rattle.std.proofs.Common.{rules, drop}
use Rattle.std.proofs.lemmas.List.{drop-drop, take_rest}
use Rattle.std.proofs.Math.Seq.{take-add}
use Rattle.hose_io.proofs.Streams.{GoesOnBy-next}
use Rattle.hose_io.proofs.mem_source.MemSourceSource.take.Goals as goal

pub returns-clause-taken : goal.returns-clause-taken
returns-clause-taken c =
    let count = c.min-count.result in
    let behind = drop count c.args.into.now in
    let copied = c.copy_from_slice.new.self in
    rw (← c.self.view_is)
    (GoesOnBy-next c.self.inside.bytes.items copied behind c.self.inside.taken count (search rules) (rw (c.copy_from_slice.ensures.after, take_rest, c.deref.ensures.value)))

pub returns-clause-after : goal.returns-clause-after
returns-clause-after c = rw (← c.self.view_is, c.next.ensures.later, take-add, ← drop-drop)
