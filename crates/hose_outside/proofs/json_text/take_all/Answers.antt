use Rattle.std.proofs.Common.{rules, ◌≡◌, ◌∙◌, ◌+◌, ◌≤◌, ◌++◌, Err, take, drop, length, ap, arith, length-append}
use Rattle.std.proofs.lemmas.List.{take-append-le}
use Rattle.std.proofs.lemmas.Result.{err_from_is_err_and}
use Rattle.hose_io.specs.steps.Calls.{call_more, none_yet}
use Rattle.hose_io.proofs.Streams.{Gives-append}
use Rattle.hose_outside.specs.declared.fault.Fault.TheVariants as fault
use Rattle.hose_outside.specs.declared.json_text.TheConstants.{JSON_LIMIT}
use Rattle.hose_outside.proofs.JsonLemmas.{piece_more}
use Rattle.hose_outside.proofs.json_text.take_all.Goals as goal

pub loop-count-init : goal.loop-count-init
loop-count-init g c = search (rules, none_yet)

pub loop-count-preserved : goal.loop-count-preserved
loop-count-preserved g c = record {
  gives = rw (c.in_ok-extend_from_slice.ensures.items, take-append-le c.in-Ok.count c.take.new.into (drop c.min-room.result c.loop-count.piece) c.in-Ok.ensures.room)
      (Gives-append _ _ _ c.loop-count.bytes.items (take c.in-Ok.count c.take.new.into) c.loop-count.invariant.gives c.in-Ok.ensures.taken);
  short = search (rules, length-append);
  held = search rules;
  gone = call_more c.loop-count.invariant.gone c.take.ensures.went;
}

pub returns-in_default-clause-gone : goal.returns-in_default-clause-gone
returns-in_default-clause-gone g c = call_more c.loop-count.invariant.gone c.take.ensures.went

pub returns-then-count-eq0-clause-gone : goal.returns-then-count-eq0-clause-gone
returns-then-count-eq0-clause-gone g c = call_more c.loop-count.invariant.gone c.take.ensures.went

pub returns-then-len-count-clause-gone : goal.returns-then-len-count-clause-gone
returns-then-len-count-clause-gone g c = call_more c.loop-count.invariant.gone c.take.ensures.went

pub returns-in_err-extend_from_slice-clause-gone : goal.returns-in_err-extend_from_slice-clause-gone
returns-in_err-extend_from_slice-clause-gone g c = call_more c.loop-count.invariant.gone c.take.ensures.went

pub returns-then-len-count-clause-fault : goal.returns-then-len-count-clause-fault
returns-then-len-count-clause-fault g c =
    let bytes = c.loop-count.bytes.items in
    let more = piece_more _ _ _ bytes c.take.new.into c.in-Ok.count c.loop-count.invariant.gives c.in-Ok.ensures.taken (search rules) in
    let held : c.len-in-loop-count.result ≡ length bytes = search rules in
    let most : c.in-Ok.count + length bytes ≤ JSON_LIMIT + 1 = search rules in
    (bytes ++ take c.in-Ok.count c.take.new.into, more.0, omega (arith, more.1, held, c.if-len-count.true), omega (arith, more.1, most, c.loop-count.invariant.short))

pub returns-in_err-extend_from_slice-clause-fault : goal.returns-in_err-extend_from_slice-clause-fault
returns-in_err-extend_from_slice-clause-fault g c =
    let bytes = c.loop-count.bytes.items in
    let more = piece_more _ _ _ bytes c.take.new.into c.in-Ok.count c.loop-count.invariant.gives c.in-Ok.ensures.taken (search rules) in
    let held : c.len-in-loop-count.result ≡ length bytes = search rules in
    let told = err_from_is_err_and c.from_residual.result c.from_residual.ensures.1 in
    let is : c.from_residual.result ≡ Err fault.Memory = told.1 ∙ ap Err told.2 in
    rw is (bytes ++ take c.in-Ok.count c.take.new.into, more.0, omega (arith, more.1, held, c.if-len-count.false))
