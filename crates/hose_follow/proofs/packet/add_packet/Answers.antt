use Rattle.std.proofs.Common.{◌++◌, List, ℕ, subst}
use Rattle.byteorder.specs.Endian.{big_bytes}
use Rattle.std.proofs.Common.{length}
use Rattle.hose_io.specs.steps.Gather.{IsAdded}
use Rattle.hose_io.proofs.Gathering.{IsAdded-next}
use Rattle.hose_follow.proofs.packet.add_packet.Goals as goal

pub returns : goal.returns
returns g c =
    let rest = c.args.chain.now ++ c.args.body.now in
    let all = IsAdded-next c.add.ensures (IsAdded-next c.add-2.ensures (IsAdded-next c.add-3.ensures c.add-4.ensures)) in
    let sized = subst (λ (l : List ℕ). IsAdded g.S.Sink c.args.gather.now c.args.sink.now c.add-4.new.self c.add-4.new.sink (l ++ (c.epoch_field.result ++ rest))) c.length_field.ensures all in
    subst (λ (l : List ℕ). IsAdded g.S.Sink c.args.gather.now c.args.sink.now c.add-4.new.self c.add-4.new.sink (big_bytes 2 (length c.args.body.now) ++ (l ++ rest))) c.epoch_field.ensures sized
