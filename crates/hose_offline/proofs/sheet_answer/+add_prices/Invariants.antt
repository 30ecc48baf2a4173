use Rattle.std.proofs.Common.{length}
use Rattle.hose_offline.proofs.sheet_answer.+add_prices.Given as goal

abbrev pub decreases-add_prices : goal.decreases-add_prices
decreases-add_prices g l = length l.tariffs.now
