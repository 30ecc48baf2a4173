use Rattle.hose_move.proofs.Compared.{compared_fault, compared_none, compared_some, never_none}
use Rattle.hose_move.proofs.comparing.compare_next.Goals as goal

pub returns-in-Ok-None-clause-compares : goal.returns-in-Ok-None-clause-compares
returns-in-Ok-None-clause-compares g c = λ was network replaying.
    let read = c.in-Ok-None.ensures.read was network _ replaying in
    compared_none g.D.Disk was network c.args.entries.now c.next.new.self c.args.place c.requires.few (rw c.in-Ok-None.field-0-is at read)

pub returns-in-Err-clause-compares : goal.returns-in-Err-clause-compares
returns-in-Err-clause-compares g c = λ was network replaying.
    compared_fault g.D.Disk was network c.args.entries.now c.next.new.self c.args.place _ (c.in-Err.ensures.read was network _ replaying)

pub returns-in-Ok-Some-clause-compares : goal.returns-in-Ok-Some-clause-compares
returns-in-Ok-Some-clause-compares g c = λ was network replaying.
    let read = c.in-Ok-Some.ensures.read was network _ replaying in
    compared_some g.D.Disk was network c.args.entries.now c.next.new.self c.args.place g.met.D.Disk.counts_now c.in-Ok-Some.given c.deref.result.now c.deref.ensures.value (rw c.in-Ok-Some.field-0-is at read) c.compare_entry.result c.compare_entry.ensures

pub returns-in-Ok-Some-clause-closed : goal.returns-in-Ok-Some-clause-closed
returns-in-Ok-Some-clause-closed g c = λ none. absurd (never_none c.args.entries.now c.args.place c.deref.result.now c.compare_entry.result c.compare_entry.ensures none)
