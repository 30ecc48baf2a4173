use Rattle.std.proofs.Common.{◌+◌, ap, arith, length}
use Rattle.std.proofs.lemmas.Result.{err_from_is_err_and}
use Rattle.hose_codec.proofs.Entries.{length-spelling}
use Rattle.hose_follow.proofs.Shipped.{added_all, added_passed, added_until, added_wanted}
use Rattle.hose_follow.proofs.shipping.add_next.Goals as goal

pub returns-in_err-ready-clause-adds : goal.returns-in_err-ready-clause-adds
returns-in_err-ready-clause-adds g c = λ was network start has.
    let held = c.chain-value.ensures.held was network has.entries has.replaying in
    let read = c.in_err-ready.ensures.read was network has.entries has.replaying in
    let all = c.in_err-ready.ensures.until was network has.entries has.replaying in
    let told = err_from_is_err_and c.from_residual.result c.from_residual.ensures.1 in
    rw (told.1, told.2) (added_until g.S.Sink g.D.Disk was network c.args.from start c.args.replay.now c.args.gather.now c.args.sink.now has c.next.new.self _ held all read)

pub returns-in_default-clause-adds : goal.returns-in_default-clause-adds
returns-in_default-clause-adds g c = λ was network start has.
    let held = c.chain-value.ensures.held was network has.entries has.replaying in
    let read = c.in_ok-ready.ensures.read was network has.entries has.replaying in
    let none = rw c.in_default.is at read in
    added_all g.S.Sink g.D.Disk was network c.args.from start c.args.replay.now c.args.gather.now c.args.sink.now has c.next.new.self held none

pub returns-then-epoch-from-clause-adds : goal.returns-then-epoch-from-clause-adds
returns-then-epoch-from-clause-adds g c = λ was network start has.
    let read = c.in_ok-ready.ensures.read was network has.entries has.replaying in
    let next = rw c.in-Some.is at read in
    added_passed g.S.Sink g.D.Disk was network c.args.from start c.args.replay.now c.args.gather.now c.args.sink.now has c.next.new.self c.in-Some.ready (c.epoch-epoch.result + 1)
    next (omega (arith, c.epoch-epoch.ensures.given was network has.entries has.replaying)) (omega (arith, c.if-epoch-from.true))

pub add_packet-requires : goal.add_packet-requires
add_packet-requires g c =
    let read = c.in_ok-ready.ensures.read c.requires.0 c.requires.1 c.requires.2 c.requires.3 in
    let next = rw c.in-Some.is at read in
    omega (arith, ap length c.deref.ensures.value, ap length next.1.bytes, length-spelling next.0 next.1.is_entry)

pub returns-clause-adds : goal.returns-clause-adds
returns-clause-adds g c = λ was network start has.
    let read = c.in_ok-ready.ensures.read was network has.entries has.replaying in
    let next = rw c.in-Some.is at read in
    added_wanted g.S.Sink g.D.Disk was network c.args.from start c.args.replay.now c.args.gather.now c.args.sink.now has c.next.new.self c.in-Some.ready c.add_packet.new.gather c.add_packet.new.sink (c.epoch-epoch.result + 1) c.chain-value.result
    next (omega (arith, c.epoch-epoch.ensures.given was network has.entries has.replaying)) (c.chain-value.ensures.chain was network has.entries has.replaying)
    (omega (arith, c.if-epoch-from.false)) (rw c.deref.ensures.value at c.add_packet.ensures)
