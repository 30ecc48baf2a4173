use Rattle.std.proofs.Common.{◌∙◌, ◌+◌, ◌<◌, ◌^◌, Option, IfSome, IsFalse, List, ℕ, rules, refl, ap, subst, arith}
use Rattle.hose_journal.specs.declared.reading.Reading.{Reading}
use Rattle.hose_journal.specs.Entries.{TakesAny}
use Rattle.hose_journal.specs.Image.{IsDamaged}
use Rattle.hose_journal.proofs.Readings.{reads_end, reads_next, reads_told}
use Rattle.hose_journal.proofs.reading.Reading.read.Goals as goal

pub returns-then-self-clause-read : goal.returns-then-self-clause-read
returns-then-self-clause-read g c = λ digest entries reads. (reads_told g.D.Disk c.args.self.now digest entries reads c.args.self.now.gate c.args.self.now.fault, refl, search rules)

pub here-requires : goal.here-requires
here-requires g c =
    (c.requires.0, c.requires.1, c.in_ok-approach.ensures.approached c.requires.0 c.requires.1 c.requires.2, c.in_ok-approach.ensures.reaches, c.in_ok-approach.ensures.past)

pub overflow_add-self : goal.overflow_add-self
overflow_add-self g c =
    let disk = g.D.Disk in
    let mid = c.approach.new.self in
    let digest = c.requires.0 in
    let entries = c.requires.1 in
    let approached = c.in_ok-approach.ensures.approached digest entries c.requires.2 in
    let going : IsFalse mid.closed = ap (λ (r : Reading g.row.D.Denot). r.closed) c.approach.ensures.kept ∙ c.if-self.false in
    let seen = rw c.in-Ok-Some.field-0-is at (c.in-Ok-Some.ensures digest entries approached c.in_ok-approach.ensures.reaches c.in_ok-approach.ensures.past) in
    let next = reads_next disk mid digest entries c.in-Ok-Some.found approached going seen in
    let within : mid.gate + c.in-Ok-Some.found.distance < mid.end = next.within in
    let small : mid.end < 2 ^ 62 = approached.small in
    omega (arith, within, small)

pub returns-in-Ok-Some-clause-read : goal.returns-in-Ok-Some-clause-read
returns-in-Ok-Some-clause-read g c = λ digest entries reads.
    let disk = g.D.Disk in
    let mid = c.approach.new.self in
    let approached = c.in_ok-approach.ensures.approached digest entries reads in
    let going : IsFalse mid.closed = ap (λ (r : Reading g.row.D.Denot). r.closed) c.approach.ensures.kept ∙ c.if-self.false in
    let seen = rw c.in-Ok-Some.field-0-is at (c.in-Ok-Some.ensures digest entries approached c.in_ok-approach.ensures.reaches c.in_ok-approach.ensures.past) in
    (reads_next disk mid digest entries c.in-Ok-Some.found approached going seen, seen.0.found)

pub returns-in-Ok-None-clause-read : goal.returns-in-Ok-None-clause-read
returns-in-Ok-None-clause-read g c = λ digest entries reads.
    let disk = g.D.Disk in
    let mid = c.approach.new.self in
    let approached = c.in_ok-approach.ensures.approached digest entries reads in
    let seen = rw c.in-Ok-None.field-0-is at (c.in-Ok-None.ensures digest entries approached c.in_ok-approach.ensures.reaches c.in_ok-approach.ensures.past) in
    (reads_end disk mid digest entries seen, refl, refl)

pub returns-in-Err-Bad-clause-read : goal.returns-in-Err-Bad-clause-read
returns-in-Err-Bad-clause-read g c = λ digest entries reads.
    let approached = c.in_ok-approach.ensures.approached digest entries reads in
    let seen = rw c.in-Err-Bad.field-0-is at (c.in-Err-Bad.ensures digest entries approached c.in_ok-approach.ensures.reaches c.in_ok-approach.ensures.past) in
    (refl, subst (λ (content : Option (List ℕ)). IfSome content (IsDamaged TakesAny digest c.approach.new.self.gate entries)) c.approach.ensures.only.same seen)

pub returns-in-Err-Memory-clause-read : goal.returns-in-Err-Memory-clause-read
returns-in-Err-Memory-clause-read g c = λ digest entries reads.
    let approached = c.in_ok-approach.ensures.approached digest entries reads in
    let seen = rw c.in-Err-Memory.field-0-is at (c.in-Err-Memory.ensures digest entries approached c.in_ok-approach.ensures.reaches c.in_ok-approach.ensures.past) in
    (approached, ap (λ (r : Reading g.row.D.Denot). r.last) c.approach.ensures.kept, (seen.0, seen.1.found))
