use Rattle.std.proofs.Common.{◌∙◌, sym}
use Rattle.hose_law.proofs.Epochs.{epoch_is}
use Rattle.hosed_host.proofs.LedOpenings.{led_of}
use Rattle.hosed_host.proofs.reading.store_of.Goals as goal

pub into_store-requires : goal.into_store-requires
into_store-requires g c =
    let all = c.requires.2 in
    (c.requires.0, c.requires.1, all.0, all.1.has.replaying, all.1.closed)

pub with_recent-requires : goal.with_recent-requires
with_recent-requires g c =
    let all = c.requires.2 in
    let is = c.in-Ok.ensures.becomes c.requires.0 c.requires.1 all.0 all.1.has.replaying in
    all.1.has.last.epoch ∙ sym (epoch_is _ all.0 is.has.book)

pub returns-in-Ok : goal.returns-in-Ok
returns-in-Ok g c = λ was network all.
    led_of g.D.Disk was network c.with_recent.result c.in-Ok.store c.args.recent all.0 c.with_recent.ensures.store c.with_recent.ensures.recent (c.in-Ok.ensures.becomes was network all.0 all.1.has.replaying) all.1.read all.1.has.last

pub returns-in-Err : goal.returns-in-Err
returns-in-Err g c = λ was network all.
    let failed = c.in-Err.ensures.failed was network all.0 all.1.has.replaying in
    record { refused = failed.0; opened = failed.1 }
