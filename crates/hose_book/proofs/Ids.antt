-- Where an id is among those of the live, which rise.
use Rattle.std.proofs.Common.{◌≡◌, ◌≢◌, ◌⊎◌, ◌∙◌, ℕ, ◌<◌, ◌≤◌, true, false, List, [], length, get_or, Option, Some, ltb, sym, ap, subst, inl, inr, arith}
use Rattle.std.specs.List.{Contains, slice_get}
use Rattle.std.specs.List.Sorted.{IsPartitionPoint, IsPartitionedBy}
use Rattle.std.specs.Option.{IsSomeAnd}
use Rattle.std.proofs.lemmas.Bool.{cases_lt, cases_eq, cases_order, ltb-true, lt-ltb, false≢true}
use Rattle.std.proofs.lemmas.List.{get_or_default}
use Rattle.std.proofs.lemmas.Option.{slice_get-get_or}
use Rattle.std.proofs.lemmas.Slice.Eq.{bytes_eq-Decides}
use Rattle.hose_graph.specs.declared.entry.Vpn.{Vpn}
use Rattle.hose_book.proofs.Releasing.{within}
use Rattle.std.proofs.lemmas.List.Elements.{All-nil}
use Rattle.std.specs.Str.{bytes_eq}
use Rattle.hose_law.specs.Book.{Book, HasVpn, IsLiveVpn}
use Rattle.hose_book.specs.Ledger.{Ledger}
use Rattle.hose_law.specs.Live.{Rise}
use Rattle.hose_law.specs.steps.Live.{HasRisingIds, IsBetween}

-- where nothing is live the ids rise
pub none_rise : (epoch : ℕ) (out : List ℕ) → HasRisingIds 0 (record { epoch = epoch; live = []; out = out })
none_rise epoch out = record { begun = omega arith; rise = λ i j d less inside. absurd (omega (arith, inside)); between = All-nil (IsBetween 0 epoch) }

module _ (live : List Vpn) (id : ℕ) (rise : Rise live) where
  -- those below an id come first
  pub below_first : IsPartitionedBy (λ (vpn : Vpn). ltb vpn.id id) live
  below_first i j d before inside is_below = elim (cases_lt i j) [
    | inl earlier ↦ lt-ltb (get_or live i d).id id (omega (arith, rise i j d earlier inside, ltb-true (get_or live j d).id id is_below))
    | inr same ↦ subst (λ (n : ℕ). ltb (get_or live n d).id id ≡ true) (omega (arith, before, same)) is_below
  ]

  module _ (place : ℕ) (point : IsPartitionPoint (λ (vpn : Vpn). ltb vpn.id id ≡ true) (λ (vpn : Vpn). ltb vpn.id id ≡ false) live place) where
    -- so the id is at that place or nowhere
    pub nowhere_else : (vpn : Vpn) → Contains live vpn → vpn.id ≡ id → (place < length live) × ((get_or live place vpn).id ≡ id)
    nowhere_else vpn (k, inside, is) same = at (cases_lt k place) (cases_eq k place)
      where
        here : (get_or live k vpn).id ≡ id
        here = ap (λ (v : Vpn). v.id) is ∙ same

        at : ((k < place) ⊎ (place ≤ k)) → ((k ≡ place) ⊎ (k ≢ place)) → (place < length live) × ((get_or live place vpn).id ≡ id)
        at (inl before) other =
            let less = ltb-true (get_or live k vpn).id id (point.0 k vpn (omega arith) before) in absurd (omega (arith, here, less))
        at (inr not_before) (inl there) = (omega (arith, inside, there), subst (λ (n : ℕ). (get_or live n vpn).id ≡ id) there here)
        at (inr not_before) (inr other) =
            let within : place < length live = omega (arith, not_before, inside) in
            let not_less : (get_or live place vpn).id < id → ⊥ = λ less. false≢true (sym (point.1 place vpn (omega arith) within) ∙ lt-ltb (get_or live place vpn).id id less) in
            let rises = rise place k vpn (omega (arith, not_before, other)) inside in
            absurd (not_less (omega (arith, rises, here)))

module _ (book : Book) (ledger : Ledger) (live : List Vpn) (customer : List ℕ) (id : ℕ) (same : live ≡ book.live) (is : book ≡ ledger.book) where
  -- where no live VPN has the id, the customer has none with it
  pub absent : ((vpn : Vpn) → Contains live vpn → vpn.id ≢ id) → HasVpn ledger.book customer id → ⊥
  absent none has =
      let here : HasVpn book customer id = subst (λ (b : Book). HasVpn b customer id) (sym is) has in
      none here.0 (subst (λ (l : List Vpn). Contains l here.0) (sym same) here.1.live) here.1.is_id

  module _ (rise : Rise book.live) (place : ℕ) (there : IsSomeAnd (slice_get live place) (λ (vpn : Vpn). vpn.id ≡ id)) where
    inside : place < length book.live
    inside = omega (arith, within live place (λ (vpn : Vpn). vpn.id ≡ id) there, ap length same)

    has_id : (vpn : Vpn) → vpn ≡ get_or book.live place vpn → vpn.id ≡ id
    has_id vpn read =
        let found : slice_get live place ≡ Some vpn = ap (λ (l : List Vpn). slice_get l place) same ∙ slice_get-get_or book.live place vpn inside ∙ ap Some (sym read) in
        subst (λ (o : Option Vpn). IsSomeAnd o (λ (v : Vpn). v.id ≡ id)) found there

    -- ids that rise are at one place each
    one_place : (vpn other : Vpn) → vpn ≡ get_or book.live place vpn → Contains book.live other → other.id ≡ id → other ≡ vpn
    one_place vpn other read (k, below, is_other) its = at (cases_order k place)
      where
        here : (get_or book.live k vpn).id ≡ id
        here = ap (λ (v : Vpn). v.id) (get_or_default book.live k vpn other below ∙ is_other) ∙ its

        there_too : (get_or book.live place vpn).id ≡ id
        there_too = ap (λ (v : Vpn). v.id) (sym read) ∙ has_id vpn read

        at : ((k ≡ place) ⊎ ((k < place) ⊎ (place < k))) → other ≡ vpn
        at (inl one) = sym is_other ∙ get_or_default book.live k other vpn below ∙ ap (λ (n : ℕ). get_or book.live n vpn) one ∙ sym read
        at (inr (inl before)) = absurd (omega (arith, rise k place vpn before inside, here, there_too))
        at (inr (inr later)) = absurd (omega (arith, rise place k vpn later below, here, there_too))

    -- nor where the one that has it is another's
    pub of_another : (vpn : Vpn) → vpn ≡ get_or book.live place vpn → bytes_eq vpn.customer customer ≡ false → HasVpn ledger.book customer id → ⊥
    of_another vpn read other has =
        let here : HasVpn book customer id = subst (λ (b : Book). HasVpn b customer id) (sym is) has in
        let one : here.0 ≡ vpn = one_place vpn here.0 read here.1.live here.1.is_id in
        false≢true (sym other ∙ (bytes_eq-Decides vpn.customer customer).1 (sym (ap (λ (v : Vpn). v.customer) one) ∙ here.1.is_customer))

    -- else it is the customer's
    pub of_customer : (vpn : Vpn) → vpn ≡ get_or book.live place vpn → bytes_eq vpn.customer customer ≡ true → IsSomeAnd (slice_get ledger.book.live place) (IsLiveVpn ledger.book customer id)
    of_customer vpn read its =
        let found : slice_get book.live place ≡ Some vpn = slice_get-get_or book.live place vpn inside ∙ ap Some (sym read) in
        let live_vpn : IsLiveVpn book customer id vpn = record {
          live = (place, inside, sym read);
          is_id = has_id vpn read;
          is_customer = (bytes_eq-Decides vpn.customer customer).0 its;
        } in
        subst (λ (b : Book). IsSomeAnd (slice_get b.live place) (IsLiveVpn b customer id)) is
        (subst (λ (o : Option Vpn). IsSomeAnd o (IsLiveVpn book customer id)) (sym found) live_vpn)
