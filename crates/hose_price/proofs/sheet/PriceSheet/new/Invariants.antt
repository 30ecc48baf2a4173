-- A column for each tariff so far.
use Rattle.std.proofs.Common.{◌≡◌, ℕ, ◌<◌, ◌≤◌, length, slice_index_or, vec_capacity, All}
use Rattle.hose_tariff.specs.Fact.{IsPricedBy}
use Rattle.hose_price.specs.declared.sheet.Column.{Column}
use Rattle.hose_price.specs.Sheet.{IsColumn, IsColumnBy}
use Rattle.hose_price.proofs.sheet.PriceSheet.new.Given as goal

abbrev pub invariant-loop-tariff : goal.invariant-loop-tariff
invariant-loop-tariff g l = record {
  places : length l.columns.items ≡ l.tariff-index;
  room : length l.tariffs ≤ vec_capacity l.columns;
  columns : All (IsColumn l.top) l.columns.items;
  by : (k : ℕ) (column : Column) (tariff : _) → k < length l.columns.items
      → IsColumnBy (IsPricedBy (λ length cost. (goal.Fn-dyn g).post ((slice_index_or l.tariffs k tariff).rule.vtable, (slice_index_or l.tariffs k tariff).rule.value) (length, tt) cost))
      (slice_index_or l.tariffs k tariff).base (slice_index_or l.tariffs k tariff).per l.top (slice_index_or l.columns.items k column);
}
