use Rattle.std.proofs.Common.{◌≡◌, ◌≢◌, ◌∙◌, ℕ, length, rules, sym, ap, subst, arith}
use Rattle.std.specs.Prelude.{Err}
use Rattle.hose_codec.specs.declared.limits.CodecFault.{CodecFault}
use Rattle.hose_journal.specs.declared.layout.TheConstants.{DIGEST_BYTES}
use Rattle.hose_journal.specs.steps.AtGate.{HasNoFields}
use Rattle.hose_journal.specs.Entries.{value_in}
use Rattle.hose_journal.proofs.Parts.{by_fault, found_by, none_found, none_valued, same_width}
use Rattle.hose_journal.proofs.part.read_record.Goals as goal

pub returns-in_default : goal.returns-in_default
returns-in_default c = λ digest entries size value.
    let width : length c.value_part-width.result.now ≡ length (value_in c.args.chained c.args.value.now) = ap length c.value_part-width.ensures in
    let none : HasNoFields c.args.bytes.now (length c.value_part-width.result.now) = search (rules, c.in_default.ensures.none) in
    none_found c.args.chained digest entries size c.args.bytes.now c.args.value.now c.told-value (subst (λ (n : ℕ). HasNoFields c.args.bytes.now n) width none)

pub returns-then-not-is_same : goal.returns-then-not-is_same
returns-then-not-is_same c = λ digest entries size value.
    let next = c.chain_after-next.result in
    let long : length next ≡ DIGEST_BYTES = search rules in
    let fits = c.in-Some.ensures.width ∙ ap length c.value_part-width.ensures ∙ same_width c.args.chained c.args.value.now next (c.told-value ∙ sym long) in
    let differs : c.in-Some.fields.value.now ≢ value_in c.args.chained next = search (rules, c.value_part.ensures) in
    none_valued c.args.chained digest entries size c.args.bytes.now c.in-Some.fields.value.now c.in-Some.fields.body.now next c.in-Some.ensures.fields long fits
    (λ entry is. c.chain_after-next.ensures digest entries entry value is) differs

pub returns-in-Ok : goal.returns-in-Ok
returns-in-Ok c = λ digest entries size value.
    let next = c.chain_after-next.result in
    let long : length next ≡ DIGEST_BYTES = search rules in
    let fits = c.in-Some.ensures.width ∙ ap length c.value_part-width.ensures ∙ same_width c.args.chained c.args.value.now next (c.told-value ∙ sym long) in
    let same : c.in-Some.fields.value.now ≡ value_in c.args.chained next = search (rules, c.value_part.ensures) in
    found_by c.args.chained digest entries size c.args.bytes.now c.in-Some.fields.value.now c.in-Some.fields.body.now next c.in-Some.ensures.fields long fits
    (λ entry is. c.chain_after-next.ensures digest entries entry value is) _ same c.in-Ok.ensures.read (λ i. next) (omega (arith, c.in-Some.ensures.width))

pub returns-in-Err : goal.returns-in-Err
returns-in-Err c = λ digest entries size value.
    let next = c.chain_after-next.result in
    let long : length next ≡ DIGEST_BYTES = search rules in
    let fits = c.in-Some.ensures.width ∙ ap length c.value_part-width.ensures ∙ same_width c.args.chained c.args.value.now next (c.told-value ∙ sym long) in
    let same : c.in-Some.fields.value.now ≡ value_in c.args.chained next = search (rules, c.value_part.ensures) in
    by_fault c.args.chained digest entries size c.args.bytes.now c.in-Some.fields.value.now c.in-Some.fields.body.now next c.in-Some.ensures.fields long fits
    (λ entry is. c.chain_after-next.ensures digest entries entry value is) c.in-Err.fault same
    (λ bad. c.in-Err.ensures.bad.0 (ap (λ (f : CodecFault). Err f) bad)) (λ wanting. c.in-Err.ensures.memory (ap (λ (f : CodecFault). Err f) wanting))
