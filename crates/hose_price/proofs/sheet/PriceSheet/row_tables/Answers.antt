-- A table more.
use Rattle.std.proofs.Common.{◌≡◌, ◌∙◌, ℕ, ◌+◌, ◌<◌, ap, length, arith}
use Rattle.std.proofs.lemmas.List.{length_push}
use Rattle.hose_price.proofs.Tables.{links_more, networks_more}
use Rattle.hose_price.proofs.sheet.PriceSheet.row_tables.Goals as goal

pub loop-place-preserved : goal.loop-place-preserved
loop-place-preserved c =
    let sheet = c.args.self.now in
    let place = c.loop-place.place in
    let old = c.loop-place.invariant in
    let tables = c.loop-place.tables.items in
    let table = c.in_ok-of_all-3.field-0 in
    let column = c.column.result.now in
    let inside : place < length sheet.columns = omega (arith, c.loop-place-test.true, c.count-place-end.ensures.count) in
    let push = c.push_reserved-in-loop-place.ensures in
    rw push.items (
      networks_more sheet place column inside c.column.ensures.of tables table c.in_ok-of_all-3.ensures.network old.0,
      links_more sheet place column inside c.column.ensures.of tables table c.in_ok-of_all-3.ensures.links old.1,
      length_push tables table ∙ ap (λ (n : ℕ). n + 1) old.2 ∙ next place,
      omega (arith, old.3, push.capacity),
    )
  where
    next : (n : ℕ) → n + 2 + 1 ≡ n + 1 + 2
    next n = omega arith
