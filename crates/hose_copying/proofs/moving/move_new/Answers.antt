use Rattle.std.proofs.Common.{inl, inr, refl}
use Rattle.hose_move.proofs.Complete.{complete}
use Rattle.hose_copying.proofs.Lending.{is_lent, is_not_lent}
use Rattle.hose_copying.proofs.moving.move_new.Goals as goal

pub returns-in_default-clause-moves : goal.returns-in_default-clause-moves
returns-in_default-clause-moves g c = inl (refl, is_not_lent g.C.Cabinet c.args.cabinet.now c.disk.new.self c.in_default.ensures.same c.in_default.ensures.call)

pub returns-clause-moves : goal.returns-clause-moves
returns-clause-moves g c =
    let taken = c.in-Ok.ensures in
    let back = c.back.ensures in
    let moved = c.move_into-moved in
    inr (
      moved.result.0,
      c.as_moved.ensures,
      is_lent g.C.Cabinet g.C.Disk.Disk c.args.name.now c.args.cabinet.now c.disk.new.self c.back.new.self c.in-Ok.disk moved.result.1 _
          (record { content = taken.content; images = taken.images; moment = taken.moment; fresh = taken.opened; call = taken.call })
          c.disk.ensures.others c.disk.ensures.texts (record { held = back.held; never_falls = back.never_falls; call = back.call }) back.others back.texts (
            moved.ensures.moves,
            moved.ensures.only,
            λ bytes read part sound enough. complete g.C.Disk.Disk c.args.new.now c.in-Ok.disk moved.result.1 c.args.entries.now bytes read part sound moved.result.0 moved.ensures.moves enough,
          ),
    )
