-- Each place below `link` has an answer of `f` for it.
use Rattle.std.proofs.Common.{◌≡◌, ℕ, ◌<◌, false, length, get_or}
use Rattle.hose_links.proofs.LinkSet.fill_where.Given as goal

abbrev pub invariant-loop-link : goal.invariant-loop-link
invariant-loop-link g l = record {
  len : length l.self-inside.places.items ≡ length l.initial.self-inside.places.items;
  answers : (k : ℕ) → k < l.link → goal.F-post g l.f k (get_or l.self-inside.places.items k false);
}
