use Rattle.std.proofs.Common.{map}
use Rattle.std.specs.String.{string_bytes}
use Rattle.hosed_requests.proofs.Commands.{named_none, named_some}
use Rattle.hosed_requests.proofs.words.named_at.Goals as goal

pub returns-clause-some : goal.returns-clause-some
returns-clause-some g c = named_some (λ tariff. tariff.name) c.args.tariffs.now (map string_bytes c.args.words.now) c.as_bytes.result.now c.find.result c.find.ensures.first (rw c.as_bytes.ensures.value c.in_ok-word_at.ensures.some)

pub returns-clause-none : goal.returns-clause-none
returns-clause-none g c = named_none (λ tariff. tariff.name) c.args.tariffs.now (map string_bytes c.args.words.now) c.as_bytes.result.now c.find.result c.find.ensures.none (rw c.as_bytes.ensures.value c.in_ok-word_at.ensures.some)
