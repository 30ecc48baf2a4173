use Rattle.std.proofs.Common.{◌∙◌, sym, arith}
use Rattle.hose_cert.proofs.Spelling.{numbers_left}
use Rattle.hose_cert.proofs.parsing.read_numbers.Goals as goal

pub returns-in_default-clause-told : goal.returns-in_default-clause-told
returns-in_default-clause-told c = λ numbers are.
    let left = numbers_left c.loop-words.numbers.items numbers c.loop-words.words.left (sym c.loop-words.invariant.cut ∙ are.0) are.2 (omega (arith, c.loop-words-test.true, are.1)) in
    let none = rw c.in_default.is at c.next_number.ensures.none in
    none left.0 left.1 left.2 (omega arith, omega (arith, left.3))
