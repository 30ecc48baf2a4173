-- A price for each column so far.
use Rattle.std.proofs.Common.{◌≡◌, ℕ, ◌<◌, ◌≤◌, length, slice_index_or, vec_capacity}
use Rattle.hose_price.specs.declared.priced.Price.{Price}
use Rattle.hose_price.specs.declared.sheet.Column.{Column}
use Rattle.hose_price.specs.Pricing.{IsPriceOf}
use Rattle.hose_price.proofs.sheet.PriceSheet.line.Given as goal

abbrev pub invariant-loop-place : goal.invariant-loop-place
invariant-loop-place g l = record {
  places : length l.prices.items ≡ l.place;
  room : length l.self.columns ≤ vec_capacity l.prices;
  each : (k : ℕ) (column : Column) (price : Price) → k < length l.prices.items
      → IsPriceOf l.self l.hose (slice_index_or l.self.columns k column) (slice_index_or l.prices.items k price);
}
