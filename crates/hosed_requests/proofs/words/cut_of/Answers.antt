use Rattle.std.proofs.Common.{◌≡◌, ℕ, ◌+◌, List, Err, arith, map, rules}
use Rattle.std.specs.String.{string_bytes}
use Rattle.hose_graph.specs.Limits.{most_epoch}
use Rattle.hosed_requests.specs.steps.Arguments.{Operands, number_operand}
use Rattle.hosed_requests.specs.steps.Arguments.Operand.{number_within, other_name}
use Rattle.hosed_requests.specs.steps.Arguments.Operands.{next_word, no_more}
use Rattle.hosed_requests.specs.declared.verb.ProgramVerb.TheVariants as command
use Rattle.hosed_requests.proofs.Commands.{named_journal_then, no_named_journal, no_number, no_other_name, took_to, value_then, verb_wrong}
use Rattle.hosed_requests.proofs.words.cut_of.Goals as goal

-- what stands after the number of entries, and after the journal
abbrev of_count : List ℕ → ℕ → Operands
of_count journal count = next_word (other_name journal) (λ new_journal. no_more)

abbrev of_journal : List ℕ → Operands
of_journal journal = number_operand 0 most_epoch (of_count journal)

pub returns-in_err-of : goal.returns-in_err-of
returns-in_err-of g c =
    let is : c.from_residual.result ≡ Err c.in_err-of.field-0.0 = search rules in
    rw is (verb_wrong _ command.Cut (map string_bytes c.args.words.now) _ tt c.requires (no_named_journal _ _ _ of_journal c.in_err-of.ensures.wrong))

pub returns-in_err-count : goal.returns-in_err-count
returns-in_err-count g c =
    let is : c.from_residual-in_err-count.result ≡ Err c.in_err-count.field-0.0 = search rules in
    rw is (verb_wrong _ command.Cut (map string_bytes c.args.words.now) _ tt c.requires (named_journal_then _ _ _ c.in_ok-of.at _ of_journal c.in_ok-of.ensures.ok (no_number 0 most_epoch (of_count _) c.in_err-count.ensures.wrong)))

pub returns-in_err-to : goal.returns-in_err-to
returns-in_err-to g c =
    let words = map string_bytes c.args.words.now in
    let is : c.from_residual-in_err-to.result ≡ Err c.in_err-to.field-0.0 = search rules in
    rw is (verb_wrong _ command.Cut words _ tt c.requires (named_journal_then _ words _ c.in_ok-of.at _ of_journal c.in_ok-of.ensures.ok
    (value_then (number_within 0 most_epoch) (of_count _) c.in_ok-count.count (c.in_ok-count.ensures.within, omega (arith, c.in_ok-count.ensures.within)) c.in_ok-count.ensures.ok
    (no_other_name _ (λ new_journal. no_more) c.in_err-to.ensures.wrong))))

pub returns-in_err-none_at : goal.returns-in_err-none_at
returns-in_err-none_at g c =
    let words = map string_bytes c.args.words.now in
    let is : c.from_residual-in_err-none_at.result ≡ Err c.in_err-none_at.field-0.0 = search rules in
    rw is (verb_wrong _ command.Cut words _ tt c.requires (named_journal_then _ words _ c.in_ok-of.at _ of_journal c.in_ok-of.ensures.ok
    (value_then (number_within 0 most_epoch) (of_count _) c.in_ok-count.count (c.in_ok-count.ensures.within, omega (arith, c.in_ok-count.ensures.within)) c.in_ok-count.ensures.ok
    (value_then (other_name _) (λ new_journal. no_more) c.in_ok-to.to.now c.in_ok-to.ensures.named (took_to words (c.in_ok-of.at + 1 + 1) (c.in_ok-of.at + 2) (omega arith) c.in_ok-to.ensures.ok) c.in_err-none_at.ensures.wrong))))
