-- The last row is the new one, and the others were there before.
use Rattle.std.proofs.Common.{◌≡◌, [], ◌∷◌, ◌++◌, arith, length-append}
use Rattle.hose_paths.specs.steps.Rows.{IsRowOf}
use Rattle.hose_paths.proofs.Firsts.{each_more}
use Rattle.hose_paths.proofs.whole.rows_of_all.Goals as goal

pub loop-root-preserved : goal.loop-root-preserved
loop-root-preserved c =
    let before = c.loop-root.invariant in
    let rows = c.loop-root.rows.items in
    let new = c.in_ok-with_tight_links.field-0 in
    let items : c.push.new.self.items ≡ rows ++ new ∷ [] = c.in_ok-push.ensures.items in
    rw items (
    record {
      places = omega (arith, length-append rows (new ∷ []), before.places);
      each =
          each_more (IsRowOf c.args.top.now c.args.links.now) rows new before.each
          (rw before.places (record { is_row = c.in_ok-with_tight_links.ensures.row c.loop-root.root c.in_ok-far.ensures.distances; bounded = c.in_ok-with_tight_links.ensures.bounded }));
    }
    )
