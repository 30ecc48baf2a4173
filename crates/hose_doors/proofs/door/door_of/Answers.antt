use Rattle.std.proofs.Common.{rules}
use Rattle.hose_doors.proofs.NoDoor.{no_door, no_path}
use Rattle.hose_doors.proofs.door.door_of.Goals as goal

pub returns-in-Some-split_once-clause-none : goal.returns-in-Some-split_once-clause-none
returns-in-Some-split_once-clause-none c = search (rules, no_door c.args.word.now c.split_once.result c.split_once.ensures.cases c.in_default.ensures.none (no_path c.is_socket_path.result c.as_bytes.result.now c.args.word.now c.is_socket_path.ensures c.if-is_socket_path.false c.as_bytes.ensures.value))

pub returns-in-None-clause-none : goal.returns-in-None-clause-none
returns-in-None-clause-none c = no_door c.args.word.now c.split_once.result c.split_once.ensures.cases c.in_default.ensures.none (no_path c.is_socket_path.result c.as_bytes.result.now c.args.word.now c.is_socket_path.ensures c.if-is_socket_path.false c.as_bytes.ensures.value) (rw c.in-None.is tt)
