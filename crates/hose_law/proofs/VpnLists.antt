-- The numbers of a customer's live VPNs are those of the live VPNs that are the customer's, in the order of their admission.
use Rattle.std.proofs.Common.{◌≡◌, ◌↔◌, ◌∙◌, ℕ, ◌+◌, ◌<◌, Bool, List, [], length, get_or, filter, Contains, sym, ap, subst, arith}
use Rattle.std.specs.List.Sorted.{IsStrictlyIncreasing}
use Rattle.std.specs.Str.{bytes_eq}
use Rattle.std.proofs.lemmas.List.{get_or-map, get_or_default, length-map}
use Rattle.std.proofs.lemmas.List.Kept.{AllPairs-filter}
use Rattle.std.proofs.lemmas.Slice.Eq.{bytes_eq-Decides}
use Rattle.hose_graph.specs.declared.entry.Entry.{Entry}
use Rattle.hose_graph.specs.declared.entry.Vpn.{Vpn}
use Rattle.hose_graph.proofs.Members.{contains_filter, in_filter}
use Rattle.hose_law.specs.Answer.{AreVpnsOf}
use Rattle.hose_law.specs.Book.{Book, HasVpn}
use Rattle.hose_law.specs.History.{book_of}
use Rattle.hose_law.specs.Live.{Rise}
use Rattle.hose_law.specs.steps.VpnIds.{ids_of}
use Rattle.hose_law.proofs.LiveIds.{rising_ids}
use Rattle.hose_law.proofs.Unique.{vpns_unique}

module _ (customer : List ℕ) where
  abbrev is_own : Vpn → Bool
  is_own vpn = bytes_eq vpn.customer customer

  abbrev no_vpn : Vpn
  no_vpn = record { id = 0; customer = []; hose = []; amounts = [] }

  -- the numbers ascend where those of all do
  pub ids_ascend : (vpns : List Vpn) → Rise vpns → IsStrictlyIncreasing (ids_of customer vpns)
  ids_ascend vpns rise k inside =
      let own : List Vpn = filter is_own vpns in
      let long = length-map own (λ (v : Vpn). v.id) in
      let kept : Rise own = AllPairs-filter (λ (one other : Vpn). one.id < other.id) is_own vpns rise in
      let less = kept k (k + 1) no_vpn (omega arith) (omega (arith, long, inside)) in
      let here = get_or-map (λ (v : Vpn). v.id) own k no_vpn 0 (omega (arith, long, inside)) in
      let next = get_or-map (λ (v : Vpn). v.id) own (k + 1) no_vpn 0 (omega (arith, long, inside)) in
      omega (arith, less, here, next)

  module _ (book : Book) where
    -- each of the numbers is that of a live VPN of the customer's
    listed_live : (id : ℕ) → Contains (ids_of customer book.live) id → HasVpn book customer id
    listed_live id (k, below, is) =
        let own : List Vpn = filter is_own book.live in
        let vpn : Vpn = get_or own k no_vpn in
        let inside : k < length own = omega (arith, below, length-map own (λ (v : Vpn). v.id)) in
        let kept = in_filter is_own book.live vpn (k, inside, get_or_default own k vpn no_vpn inside) in
        let number : vpn.id ≡ id = sym (get_or-map (λ (v : Vpn). v.id) own k no_vpn id inside) ∙ is in
        (vpn, record { live = kept.0; is_id = number; is_customer = (bytes_eq-Decides vpn.customer customer).0 kept.1 })

    -- and each such VPN has its number among them
    live_listed : (id : ℕ) → HasVpn book customer id → Contains (ids_of customer book.live) id
    live_listed id (vpn, is) =
        let own : List Vpn = filter is_own book.live in
        let (k, inside, there) = contains_filter is_own book.live vpn is.live ((bytes_eq-Decides vpn.customer customer).1 is.is_customer) in
        (k, omega (arith, inside, length-map own (λ (v : Vpn). v.id)), get_or-map (λ (v : Vpn). v.id) own k vpn id inside ∙ ap (λ (v : Vpn). v.id) there ∙ is.is_id)

    -- where the numbers of the live VPNs rise, these are the customer's
    pub are_vpns : Rise book.live → AreVpnsOf book customer (ids_of customer book.live)
    are_vpns rise = record { ascending = ids_ascend book.live rise; exactly = λ id. (listed_live id, live_listed id) }

  -- In each book of a history these are the customer's, and no others.
  pub vpns_listed : (epoch : ℕ) (history : List Entry) (ids : List ℕ) → AreVpnsOf (book_of epoch history) customer ids ↔ (ids ≡ ids_of customer (book_of epoch history).live)
  vpns_listed epoch history ids =
      let book = book_of epoch history in
      let are = are_vpns book (rising_ids epoch history).rise in
      (λ others. vpns_unique book customer ids (ids_of customer book.live) others are, λ same. subst (AreVpnsOf book customer) (sym same) are)
