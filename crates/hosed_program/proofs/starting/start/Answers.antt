use Rattle.std.proofs.Common.{◌≡◌, inl, inr, map, refl, rules}
use Rattle.std.specs.String.{string_bytes}
use Rattle.hosed_requests.specs.HostWords.{AsksToHost}
use Rattle.hosed_program.proofs.starting.start.Goals as goal

pub returns-then-asks_to_host : goal.returns-then-asks_to_host
returns-then-asks_to_host g c =
    let same : c.deref.result.now ≡ c.in-Ok.words.items = search rules in
    let lent : c.deref-then-asks_to_host.result.now ≡ c.in-Ok.words.items = search rules in
    let asks : AsksToHost (map string_bytes c.in-Ok.words.items) = rw same at (c.asks_to_host.ensures.0 c.if-asks_to_host.true) in
    inl (
      map string_bytes c.in-Ok.words.items,
      c.in-Ok.ensures,
      record {
        others = λ never. absurd (never asks);
        host = λ _. (rw c.status.ensures (rw lent at c.host_ended-ended.ensures.outcome), refl);
      },
    )

pub returns-else-asks_to_host : goal.returns-else-asks_to_host
returns-else-asks_to_host g c =
    let same : c.deref.result.now ≡ c.in-Ok.words.items = search rules in
    let lent : c.deref-in-Ok.result.now ≡ c.in-Ok.words.items = search rules in
    let other : ¬ AsksToHost (map string_bytes c.deref.result.now) = λ asks. cc (c.asks_to_host.ensures.1 asks, c.if-asks_to_host.false) in
    let never : ¬ AsksToHost (map string_bytes c.in-Ok.words.items) = rw same at other in
    inl (
      map string_bytes c.in-Ok.words.items,
      c.in-Ok.ensures,
      record {
        others = λ _. (rw c.status-in-Ok.ensures (rw lent at c.program-ended.ensures.outcome), refl);
        host = λ asks. absurd (never asks);
      },
    )

pub returns-in-Err : goal.returns-in-Err
returns-in-Err g c = inr (c.no_memory.ensures.status, record { input = refl; cabinet = refl; door = refl }, c.no_memory.ensures.line)
