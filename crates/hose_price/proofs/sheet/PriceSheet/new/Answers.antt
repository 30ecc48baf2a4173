-- A column more.
use Rattle.std.proofs.Common.{◌∙◌, ℕ, ◌+◌, ap, arith}
use Rattle.std.proofs.lemmas.List.{length_push}
use Rattle.std.proofs.lemmas.List.Elements.{All-push}
use Rattle.hose_tariff.specs.Fact.{IsPricedBy}
use Rattle.hose_price.specs.declared.sheet.Column.{Column}
use Rattle.hose_price.specs.Sheet.{IsColumn, IsColumnBy}
use Rattle.hose_price.proofs.Pushed.{pushed_beside}
use Rattle.hose_price.proofs.sheet.PriceSheet.new.Goals as goal

pub loop-tariff-preserved : goal.loop-tariff-preserved
loop-tariff-preserved g c =
    let old = c.loop-tariff.invariant in
    let items = c.loop-tariff.columns.items in
    let added = c.in_ok-column_of.field-0 in
    let top = c.args.top.now in
    rw c.push_reserved.ensures.items (record {
      places = length_push items added ∙ ap (λ (n : ℕ). n + 1) old.places;
      room = omega (arith, old.room, c.push_reserved.ensures.capacity);
      columns = All-push (IsColumn top) items added old.columns c.in_ok-column_of.ensures.column;
      by = pushed_beside
          (λ tariff (column : Column). IsColumnBy (IsPricedBy (λ length cost. (goal.Fn-dyn g).post (tariff.rule.vtable, tariff.rule.value) (length, tt) cost)) tariff.base tariff.per top column)
          c.args.tariffs.now items added c.loop-tariff.tariff-index c.tariff-item.result old.places c.loop-tariff-test.true c.tariff-item.is c.in_ok-column_of.ensures.by old.by;
    })
