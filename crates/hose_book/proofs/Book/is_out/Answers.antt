use Rattle.std.proofs.Common.{◌≡◌, ◌∙◌, Bool, List, get_or, false, not, ap}
use Rattle.std.proofs.Math.Bool.{not-not}
use Rattle.hose_law.specs.Service.{is_out}
use Rattle.hose_law.proofs.Serving.{links_in_service-at}
use Rattle.hose_book.proofs.Book.is_out.Goals as goal

pub returns : goal.returns
returns c =
    let ledger = c.args.self.now in
    let out : Bool = is_out ledger.book.out c.args.link in
    let has : c.has.result ≡ not out =
    c.has.ensures ∙ ap (λ (links : List Bool). get_or links c.args.link false) c.service.ensures.value ∙ links_in_service-at ledger.network ledger.book.out c.args.link false c.requires in
    ap not has ∙ not-not out
