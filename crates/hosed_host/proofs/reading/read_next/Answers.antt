use Rattle.std.proofs.Common.{◌≡◌, ◌∙◌, [], ◌∷◌, ◌++◌, rules}
use Rattle.std.proofs.lemmas.Result.{err_from_is_err_and}
use Rattle.hosed_host.proofs.reading.read_next.Goals as goal

pub take_in-requires-clause-next : goal.take_in-requires-clause-next
take_in-requires-clause-next g c =
    let has = c.requires.3 in
    let more = rw c.in-Some.is at c.in_ok-ready.ensures.read c.requires.0 c.requires.1 c.requires.2 has.replaying in
    let body : c.deref.result.now ≡ c.in-Some.ready.bytes.items = search rules in
    (c.requires.0, c.requires.1, c.requires.2, more.0, record { replaying = more.2; last = has.last; is_entry = more.1.is_entry; spelled = body ∙ more.1.bytes })

pub returns-in_err-ready-clause-reads : goal.returns-in_err-ready-clause-reads
returns-in_err-ready-clause-reads g c = λ was network entries has.
    let read = c.in_err-ready.ensures.read was network entries has.replaying in
    let told = err_from_is_err_and c.from_residual.result c.from_residual.ensures.1 in
    rw (told.1, told.2) (record { refused = read.0; opened = read.1 })

pub returns-in_default-clause-reads : goal.returns-in_default-clause-reads
returns-in_default-clause-reads g c = λ was network entries has.
    let all = rw c.in_default.is at c.in_ok-ready.ensures.read was network entries has.replaying in
    (entries, record { has = record { replaying = all.0; last = has.last }; read = all.1; closed = search rules })

pub returns-clause-reads : goal.returns-clause-reads
returns-clause-reads g c = λ was network entries has.
    let more = rw c.in-Some.is at c.in_ok-ready.ensures.read was network entries has.replaying in
    let body : c.deref.result.now ≡ c.in-Some.ready.bytes.items = search rules in
    (entries ++ more.0 ∷ [], c.take_in.ensures was network entries more.0 (record { replaying = more.2; last = has.last; is_entry = more.1.is_entry; spelled = body ∙ more.1.bytes }))
