use Rattle.std.proofs.Common.{inl, inr, refl}
use Rattle.hose_copying.proofs.Lending.{is_lent, is_looked_for, is_not_found, is_not_lent}
use Rattle.hose_copying.proofs.moving.read_old.Goals as goal

-- the name is not there
pub returns-in_default-clause-reads : goal.returns-in_default-clause-reads
returns-in_default-clause-reads g c = inl (refl, is_not_found g.C.Cabinet c.args.cabinet.now c.text.new.self c.text.ensures.texts c.text.ensures.disks c.in_default.ensures.call)

-- its disk is not lent
pub returns-in_default-disk_to_read-clause-reads : goal.returns-in_default-disk_to_read-clause-reads
returns-in_default-disk_to_read-clause-reads g c = inr (
  c.text.new.self,
  is_looked_for g.C.Cabinet c.args.name.now c.args.cabinet.now c.text.new.self c.text.ensures.texts c.text.ensures.disks c.in-Ok.ensures.call (λ told none. absurd (cc (c.in-Ok.ensures.refused told none))),
  inl (refl, is_not_lent g.C.Cabinet c.text.new.self c.disk_to_read.new.self c.in_default-disk_to_read.ensures.same c.in_default-disk_to_read.ensures.call),
)

pub returns-clause-reads : goal.returns-clause-reads
returns-clause-reads g c =
    let taken = c.in-Ok-disk_to_read.ensures in
    let back = c.back.ensures in
    let read = c.read_journal-read in
    inr (
      c.text.new.self,
      is_looked_for g.C.Cabinet c.args.name.now c.args.cabinet.now c.text.new.self c.text.ensures.texts c.text.ensures.disks c.in-Ok.ensures.call (λ told none. absurd (cc (c.in-Ok.ensures.refused told none))),
      inr (
        read.result.0,
        c.as_read.ensures,
        is_lent g.C.Cabinet g.C.Disk.Disk c.args.name.now c.text.new.self c.disk_to_read.new.self c.back.new.self c.in-Ok-disk_to_read.disk read.result.1 _
            (record { content = taken.content; images = taken.images; moment = taken.moment; fresh = taken.opened; call = taken.call })
            c.disk_to_read.ensures.others c.disk_to_read.ensures.texts (record { held = back.held; never_falls = back.never_falls; call = back.call }) back.others back.texts
            (read.ensures.reads, read.ensures.unchanged, read.ensures.kept),
      ),
    )
