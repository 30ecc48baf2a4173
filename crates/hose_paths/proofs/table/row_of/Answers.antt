-- Each kept row is the row of its place.
use Rattle.std.proofs.Common.{sym}
use Rattle.std.proofs.lemmas.Option.{slice_get_read}
use Rattle.hose_paths.proofs.table.row_of.Goals as goal

pub returns-clause-row : goal.returns-clause-row
returns-clause-row c =
    let rows = c.requires.rows in
    (rows.each c.args.root _ (slice_get_read c.args.rows.now _ c.args.root _ (sym rows.places) c.requires.is_node c.index-rows-root.is)).is_row

pub returns-clause-bounded : goal.returns-clause-bounded
returns-clause-bounded c =
    let rows = c.requires.rows in
    (rows.each c.args.root _ (slice_get_read c.args.rows.now _ c.args.root _ (sym rows.places) c.requires.is_node c.index-rows-root.is)).bounded
