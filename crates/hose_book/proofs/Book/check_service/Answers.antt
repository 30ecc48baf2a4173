use Rattle.std.proofs.Common.{◌≡◌, ◌∙◌, ◌<◌, length, not, sym, ap, arith}
use Rattle.hose_graph.specs.Limits.{most_epoch}
use Rattle.hose_law.specs.Service.{LinkStands}
use Rattle.hose_book.specs.Ledger.{Ledger}
use Rattle.hose_book.specs.declared.checking.BookRefusal.TheVariants.{Already, Spent}
use Rattle.hose_book.proofs.Judging.{other_truth, same_truth, service_refused, service_sound}
use Rattle.hose_book.proofs.Book.check_service.Goals as goal

pub returns-then-is_out-down : goal.returns-then-is_out-down
returns-then-is_out-down c =
    let network = c.args.self.now.network in
    let inside : c.args.link < length network.links = omega (arith, c.if-link-links.false, c.links.ensures.count, ap (λ (s : Ledger). length s.network.links) c.self.view_is) in
    service_refused network c.args.self.now.book c.args.down c.args.link Already (inside, sym c.is_out.ensures ∙ same_truth _ _ c.if-is_out-down.true)

pub returns-then-self-eq-MOST_EPOCH : goal.returns-then-self-eq-MOST_EPOCH
returns-then-self-eq-MOST_EPOCH c =
    let network = c.args.self.now.network in
    let book = c.args.self.now.book in
    let inside : c.args.link < length network.links = omega (arith, c.if-link-links.false, c.links.ensures.count, ap (λ (s : Ledger). length s.network.links) c.self.view_is) in
    let stands : LinkStands network book c.args.link (not c.args.down) = (inside, sym c.is_out.ensures ∙ other_truth _ _ c.if-is_out-down.false) in
    let spent : book.epoch ≡ most_epoch = omega (arith, c.if-self-eq-MOST_EPOCH.true, ap (λ (s : Ledger). s.book.epoch) c.self.view_is) in
    service_refused network book c.args.down c.args.link Spent (stands, spent)

pub returns : goal.returns
returns c =
    let network = c.args.self.now.network in
    let book = c.args.self.now.book in
    let inside : c.args.link < length network.links = omega (arith, c.if-link-links.false, c.links.ensures.count, ap (λ (s : Ledger). length s.network.links) c.self.view_is) in
    let stands : LinkStands network book c.args.link (not c.args.down) = (inside, sym c.is_out.ensures ∙ other_truth _ _ c.if-is_out-down.false) in
    let left : book.epoch < most_epoch = omega (arith, c.if-self-eq-MOST_EPOCH.false, c.self.invariant.2, ap (λ (s : Ledger). s.book.epoch) c.self.view_is) in
    service_sound network book c.args.down c.args.link left stands
