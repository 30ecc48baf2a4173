use Rattle.hosed_host.proofs.LedOpenings.{opens_led}
use Rattle.hosed_host.proofs.reading.open_led.Goals as goal

pub returns-in-Ok-clause-opens : goal.returns-in-Ok-clause-opens
returns-in-Ok-clause-opens g c =
    opens_led g.C.Cabinet g.C.Disk.Disk g.P.Premises.kind c.args.name.now c.args.cabinet.now c.open_journal.new.cabinet c.args.topology c.of.result c.in-Ok.store c.of.ensures.store c.of.ensures.is_of c.in-Ok.ensures.opens
