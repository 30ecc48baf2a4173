use Rattle.std.proofs.Common.{◌∙◌, ℕ, List, length, get_or, refl, ap, arith}
use Rattle.std.proofs.lemmas.List.FromFn.{get_or-map-range_with_len}
use Rattle.hose_law.specs.Book.{load_of}
use Rattle.hose_core.proofs.telling.link_state.Goals as goal

pub returns-clause-answer : goal.returns-clause-answer
returns-clause-answer c =
    let ledger = c.args.book.now in
    let load =
    ap (λ (loads : List ℕ). get_or loads c.args.link 0) c.loads.ensures.value
    ∙ get_or-map-range_with_len (load_of ledger.book) 0 (length ledger.network.links) c.args.link c.args.link 0 c.requires (omega arith) in
    (cc (c.from.ensures, load, c.is_out.ensures, c.epoch.ensures.value), refl)
