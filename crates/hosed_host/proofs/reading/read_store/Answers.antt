use Rattle.std.proofs.Common.{[], refl, subst, sym}
use Rattle.hosed_host.specs.steps.Reading.{HasRead, IsReadInVain}
use Rattle.hosed_host.proofs.reading.read_store.Goals as goal

pub read_all-requires : goal.read_all-requires
read_all-requires g c =
    let opened = c.in-Ok.ensures.opened in
    (c.args.disk, c.args.topology, record { replaying = opened; last = c.new-recent.ensures.is c.args.topology [] refl (c.chain.ensures.chain c.args.disk c.args.topology [] opened) })

pub store_of-requires : goal.store_of-requires
store_of-requires g c =
    let opened = c.in-Ok.ensures.opened in
    let begun : HasRead g.D.Disk c.args.disk c.args.topology c.in-Ok.replay c.new-recent.result [] = record { replaying = opened; last = c.new-recent.ensures.is c.args.topology [] refl (c.chain.ensures.chain c.args.disk c.args.topology [] opened) } in
    (c.args.disk, c.args.topology, rw c.in-Ok-read_all.is at c.read_all.ensures c.args.disk c.args.topology begun)

pub returns-in-Ok-read_all : goal.returns-in-Ok-read_all
returns-in-Ok-read_all g c =
    let opened = c.in-Ok.ensures.opened in
    let begun : HasRead g.D.Disk c.args.disk c.args.topology c.in-Ok.replay c.new-recent.result [] = record { replaying = opened; last = c.new-recent.ensures.is c.args.topology [] refl (c.chain.ensures.chain c.args.disk c.args.topology [] opened) } in
    c.store_of.ensures c.args.disk c.args.topology (rw c.in-Ok-read_all.is at c.read_all.ensures c.args.disk c.args.topology begun)

pub returns-in-Err : goal.returns-in-Err
returns-in-Err g c = record { refused = c.in-Err.ensures.refused.0; opened = c.in-Err.ensures.refused.1 }

pub returns-in-Err-read_all : goal.returns-in-Err-read_all
returns-in-Err-read_all g c =
    let opened = c.in-Ok.ensures.opened in
    let begun : HasRead g.D.Disk c.args.disk c.args.topology c.in-Ok.replay c.new-recent.result [] = record { replaying = opened; last = c.new-recent.ensures.is c.args.topology [] refl (c.chain.ensures.chain c.args.disk c.args.topology [] opened) } in
    let vain = rw c.in-Err-read_all.is at c.read_all.ensures c.args.disk c.args.topology begun in
    subst (λ (left : g.row.D.Denot). IsReadInVain g.D.Disk c.args.disk c.args.topology left c.in-Err-read_all.fault) (sym c.stop.ensures) vain
