use Rattle.std.proofs.Common.{◌≡◌, ◌∙◌, false, sym, true}
use Rattle.std.proofs.lemmas.Bool.{false≢true}
use Rattle.hose_move.proofs.Compared.{spelled_other, spelled_same}
use Rattle.hose_move.proofs.comparing.is_spelled.Goals as goal

pub returns-clause-same : goal.returns-clause-same
returns-clause-same c = λ ok entry spelled.
    let yes : c.is_same.result ≡ true = cc ok in
    spelled_same c.args.entry.now entry c.in_ok-own.own c.args.bytes.now c.in_ok-own.ensures (sym c.deref.ensures.value ∙ c.is_same.ensures.0 yes) spelled

pub returns-clause-other : goal.returns-clause-other
returns-clause-other c = λ ok entry spelled.
    let no_match : c.is_same.result ≡ false = cc ok in
    spelled_other c.args.entry.now entry c.in_ok-own.own c.args.bytes.now c.in_ok-own.ensures
    (λ same. false≢true (sym no_match ∙ c.is_same.ensures.1 (c.deref.ensures.value ∙ same))) spelled
