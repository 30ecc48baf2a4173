use Rattle.std.proofs.Common.{◌≡◌, ◌<◌, ℕ, List, length, subst, ap, arith}
use Rattle.hose_graph.specs.Network.{Network}
use Rattle.hose_law.specs.Decision.{Fits}
use Rattle.hose_graph.specs.Limits.{most_live, most_epoch}
use Rattle.hose_law.specs.Room.{first_links, free_rates, room_of}
use Rattle.hose_law.specs.Tree.{IsTreeReservation}
use Rattle.hose_law.specs.Walk.{all_links}
use Rattle.hose_law.proofs.Bounds.{reserved_links}
use Rattle.hose_book.specs.Ledger.{Ledger}
use Rattle.hose_book.specs.steps.Refusal.{AreInService}
use Rattle.hose_book.proofs.Served.{over_served}
use Rattle.hose_book.proofs.Book.check_admission.Goals as goal

pub first_full_link-requires-clause-links : goal.first_full_link-requires-clause-links
first_full_link-requires-clause-links c =
    let network = c.self.inside.topology in
    reserved_links network c.self.invariant.0 (all_links network) c.args.hose.now c.args.amounts.now (c.is_reservation.ensures.0 c.if-not-is_reservation.false)

pub first_out-requires : goal.first_out-requires
first_out-requires c = λ k d inside.
    let network = c.self.inside.topology in
    let on = reserved_links network c.self.invariant.0 (all_links network) c.args.hose.now c.args.amounts.now (c.is_reservation.ensures.0 c.if-not-is_reservation.false) in
    omega (arith, on k d inside, ap (λ (s : Ledger). length s.network.links) c.self.view_is)

pub returns-in-None : goal.returns-in-None
returns-in-None c customer =
    let ledger = c.args.self.now in
    let hose = c.args.hose.now in
    let amounts = c.args.amounts.now in
    let inside : IsTreeReservation c.self.inside.topology (all_links c.self.inside.topology) hose amounts = c.is_reservation.ensures.0 c.if-not-is_reservation.false in
    let on_tree : IsTreeReservation ledger.network (all_links ledger.network) hose amounts =
    subst (λ (s : Ledger). IsTreeReservation s.network (all_links s.network) hose amounts) c.self.view_is inside in
    let served : AreInService (first_links ledger.network ledger.book) amounts = c.in_default.ensures.none in
    let fits_here : Fits (free_rates c.self.inside.topology c.loads.result.now) amounts = c.in-None.ensures.none in
    let network : c.self.inside.topology ≡ ledger.network = ap (λ (s : Ledger). s.network) c.self.view_is in
    let fits : Fits (room_of ledger.network ledger.book).free amounts =
    subst (λ (loads : List ℕ). Fits (free_rates ledger.network loads) amounts) c.loads.ensures.value (subst (λ (n : Network). Fits (free_rates n c.loads.result.now) amounts) network fits_here) in
    let left : ledger.book.epoch < most_epoch = omega (arith, c.if-self-eq-MOST_EPOCH.false, c.self.invariant.2, ap (λ (s : Ledger). s.book.epoch) c.self.view_is) in
    let few : length ledger.book.live < most_live = omega (arith, c.if-as_slice-ge-MOST_LIVE.false, ap length c.as_slice.ensures.value, ap (λ (s : Ledger). length s.book.live) c.self.view_is) in
    (left, few, record { on_tree = over_served ledger.network (all_links ledger.network) hose amounts on_tree (first_links ledger.network ledger.book) served; fits = fits })
