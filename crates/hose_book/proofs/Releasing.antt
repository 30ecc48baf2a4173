-- A release by its place: where the ids of the live rise, it takes out the one VPN there.
use Rattle.std.proofs.Common.{◌≡◌, ◌<◌, ℕ, zero, suc, ◌+◌, Bool, true, false, List, [], ◌∷◌, Option, None, Some, length, get_or, filter, not, All, subst, sym, ap, ◌∙◌, refl, arith}
use Rattle.std.specs.List.{HoldsAt, flat_map, remove, slice_get}
use Rattle.std.specs.Option.{IsSomeAnd}
use Rattle.std.proofs.lemmas.Bool.{cond-true, cond-false}
use Rattle.std.proofs.lemmas.List.{append-nil}
use Rattle.std.proofs.lemmas.Bool.Decides.{Decides-not}
use Rattle.std.proofs.lemmas.Option.{none-some, same_Some, get_or_from_slice_get, slice_get_within, slice_get-get_or}
use Rattle.std.proofs.lemmas.List.Elements.{All-filter, All-head, All-tail, All-weaker}
use Rattle.std.proofs.lemmas.List.Sums.{sum_by-remove}
use Rattle.hose_graph.specs.declared.entry.Vpn.{Vpn}
use Rattle.hose_graph.specs.declared.entry.Entry.TheVariants.{Release}
use Rattle.hose_graph.specs.Network.{Network}
use Rattle.hose_law.specs.Book.{Book, IsLiveVpn, amount_on, load_of}
use Rattle.hose_law.specs.History.{is_vpn, next_book}
use Rattle.hose_law.specs.steps.Tracks.{touched_links}
use Rattle.hose_law.specs.Live.{Rise}
use Rattle.hose_graph.specs.Ascending.{firsts}
use Rattle.hose_book.specs.steps.Ledger.{IsKept}
use Rattle.hose_law.proofs.Releases.{IsVpnOf, is_vpn_decides}

-- a filter that all pass keeps all
all_kept : {X : Type 0} (test : X → Bool) (xs : List X) → All (λ x. test x ≡ true) xs → filter test xs ≡ xs
all_kept test [] pass = refl
all_kept {X} test (x ∷ xs) pass =
    let P : X → Type 0 = λ y. test y ≡ true in
    cond-true (test x) (x ∷ filter test xs) (filter test xs) (All-head P x xs pass) ∙ ap (λ (ys : List X). x ∷ ys) (all_kept test xs (All-tail P x xs pass))

-- the first id is below the others
first_below : (first : Vpn) (live : List Vpn) → Rise (first ∷ live) → All (λ (other : Vpn). first.id < other.id) live
first_below first live rise k d inside = rise 0 (suc k) d (omega arith) (omega (arith, inside))

rest_rises : (first : Vpn) (live : List Vpn) → Rise (first ∷ live) → Rise live
rest_rises first live rise i j d less inside = rise (suc i) (suc j) d (omega (arith, less)) (omega (arith, inside))

module _ (customer : List ℕ) (id : ℕ) where
  -- whether a release leaves a VPN
  abbrev stays : Vpn → Bool
  stays vpn = not (is_vpn customer id vpn)

  goes : (vpn : Vpn) → IsVpnOf customer id vpn → stays vpn ≡ false
  goes vpn is = ap not ((is_vpn_decides customer id vpn).1 is)

  other_is : (vpn : Vpn) → (IsVpnOf customer id vpn → ⊥) → is_vpn customer id vpn ≡ false
  other_is vpn other = is_other (is_vpn customer id vpn) refl
    where
      is_other : (b : Bool) → is_vpn customer id vpn ≡ b → b ≡ false
      is_other true is = absurd (other ((is_vpn_decides customer id vpn).0 is))
      is_other false is = refl

  others_stay : (vpn : Vpn) → (IsVpnOf customer id vpn → ⊥) → stays vpn ≡ true
  others_stay vpn other = (Decides-not (is_vpn customer id vpn) (is_vpn_decides customer id vpn)).1 other

  -- a filter that none passes keeps none
  none_kept : (test : Vpn → Bool) (vpns : List Vpn) → All (λ vpn. test vpn ≡ false) vpns → filter test vpns ≡ []
  none_kept test [] fail = refl
  none_kept test (vpn ∷ vpns) fail =
      let P : Vpn → Type 0 = λ v. test v ≡ false in
      cond-false (test vpn) (vpn ∷ filter test vpns) (filter test vpns) (All-head P vpn vpns fail) ∙ none_kept test vpns (All-tail P vpn vpns fail)

  -- the VPN with the number is the only one, since ids rise
  pub filter_finds : (live : List Vpn) (place : ℕ) (vpn : Vpn) → Rise live → slice_get live place ≡ Some vpn → IsVpnOf customer id vpn → filter (is_vpn customer id) live ≡ vpn ∷ []
  filter_finds [] place vpn rise there is = absurd (none-some vpn there)
  filter_finds (first ∷ live) zero vpn rise there is =
      let same : first ≡ vpn = same_Some first vpn there in
      let first_is : first.id ≡ id = ap (λ (v : Vpn). v.id) same ∙ is.0 in
      let found : is_vpn customer id first ≡ true = ap (is_vpn customer id) same ∙ (is_vpn_decides customer id vpn).1 is in
      let rest : All (λ (v : Vpn). is_vpn customer id v ≡ false) live =
      All-weaker (λ (v : Vpn). first.id < v.id) (λ (v : Vpn). is_vpn customer id v ≡ false) (λ v above. other_is v (λ both. omega (arith, both.0, first_is, above))) live (first_below first live rise) in
      cond-true (is_vpn customer id first) (first ∷ filter (is_vpn customer id) live) (filter (is_vpn customer id) live) found
      ∙ ap (λ (vs : List Vpn). first ∷ vs) (none_kept (is_vpn customer id) live rest) ∙ ap (λ (v : Vpn). v ∷ []) same
  filter_finds (first ∷ live) (suc place) vpn rise there is =
      let inside : place < length live = slice_get_within live place vpn there in
      let read : get_or live place vpn ≡ vpn = get_or_from_slice_get live place vpn vpn there in
      let below : first.id < (get_or live place vpn).id = first_below first live rise place vpn inside in
      let first_is_other : is_vpn customer id first ≡ false = other_is first (λ both. omega (arith, both.0, is.0, below, ap (λ (v : Vpn). v.id) read)) in
      cond-false (is_vpn customer id first) (first ∷ filter (is_vpn customer id) live) (filter (is_vpn customer id) live) first_is_other
      ∙ filter_finds live place vpn (rest_rises first live rise) there is

  -- so a release takes it out
  pub filter_removes : (live : List Vpn) (place : ℕ) (vpn : Vpn) → Rise live → slice_get live place ≡ Some vpn → IsVpnOf customer id vpn → filter stays live ≡ remove live place
  filter_removes [] place vpn rise there is = absurd (none-some vpn there)
  filter_removes (first ∷ live) zero vpn rise there is =
      let same : first ≡ vpn = same_Some first vpn there in
      let first_is : first.id ≡ id = ap (λ (v : Vpn). v.id) same ∙ is.0 in
      let first_goes : stays first ≡ false = ap stays same ∙ goes vpn is in
      let rest_stay : All (λ (v : Vpn). stays v ≡ true) live =
      All-weaker (λ (v : Vpn). first.id < v.id) (λ (v : Vpn). stays v ≡ true) (λ v above. others_stay v (λ both. omega (arith, both.0, first_is, above))) live (first_below first live rise) in
      cond-false (stays first) (first ∷ filter stays live) (filter stays live) first_goes ∙ all_kept stays live rest_stay
  filter_removes (first ∷ live) (suc place) vpn rise there is =
      let inside : place < length live = slice_get_within live place vpn there in
      let read : get_or live place vpn ≡ vpn = get_or_from_slice_get live place vpn vpn there in
      let below : first.id < (get_or live place vpn).id = first_below first live rise place vpn inside in
      let first_stays : stays first ≡ true = others_stay first (λ both. omega (arith, both.0, is.0, below, ap (λ (v : Vpn). v.id) read)) in
      cond-true (stays first) (first ∷ filter stays live) (filter stays live) first_stays
      ∙ ap (λ (vs : List Vpn). first ∷ vs) (filter_removes live place vpn (rest_rises first live rise) there is)

-- a place inside has something
past : (live : List Vpn) (place : ℕ) → place < length live → slice_get live place ≡ None → ⊥
past [] place inside none = omega (arith, inside)
past (first ∷ live) zero inside none = none-some first (sym none)
past (first ∷ live) (suc place) inside none = past live place (omega (arith, inside)) none

pub within : (live : List Vpn) (place : ℕ) (P : Vpn → Type 0) → IsSomeAnd (slice_get live place) P → place < length live
within [] place P some = absurd some
within (first ∷ live) zero P some = omega arith
within (first ∷ live) (suc place) P some = omega (arith, within live place P some)

module _ (book : Book) (customer : List ℕ) (id place : ℕ) where
  -- what a test finds at a place is the live VPN
  pub live_at : place < length book.live → HoldsAt (λ (v : Vpn). is_vpn customer id v ≡ true) book.live place → IsSomeAnd (slice_get book.live place) (IsLiveVpn book customer id)
  live_at inside holds = at (slice_get book.live place) refl
    where
      at : (found : Option Vpn) → slice_get book.live place ≡ found → IsSomeAnd found (IsLiveVpn book customer id)
      at None there = absurd (past book.live place inside there)
      at (Some vpn) there =
          let read : get_or book.live place vpn ≡ vpn = get_or_from_slice_get book.live place vpn vpn there in
          let is : IsVpnOf customer id vpn = (is_vpn_decides customer id vpn).0 (subst (λ (v : Vpn). is_vpn customer id v ≡ true) read (holds vpn)) in
          record { live = (place, inside, read); is_id = is.0; is_customer = is.1 }

  -- what is known of the VPN at the place: a release takes it out, and what it reserved
  pub record Taken (vpn : Vpn) : Type 0 where
    pub inside : place < length book.live
    pub is : IsLiveVpn book customer id vpn
    pub released : next_book book (Release customer id) ≡ record { epoch = book.epoch + 1; live = remove book.live place; out = book.out }
    pub touched : touched_links book (Release customer id) ≡ firsts vpn.amounts
    pub load_less : (l : ℕ) → load_of (next_book book (Release customer id)) l + amount_on l vpn.amounts ≡ load_of book l

  pub taken_at : (vpn : Vpn) → Rise book.live → IsSomeAnd (slice_get book.live place) (IsLiveVpn book customer id) → vpn ≡ get_or book.live place vpn → Taken vpn
  taken_at vpn rise asked read =
      let inside : place < length book.live = within book.live place (IsLiveVpn book customer id) asked in
      let there : slice_get book.live place ≡ Some vpn = slice_get-get_or book.live place vpn inside ∙ ap Some (sym read) in
      let is : IsLiveVpn book customer id vpn = subst (λ (o : Option Vpn). IsSomeAnd o (IsLiveVpn book customer id)) there asked in
      let released : next_book book (Release customer id) ≡ record { epoch = book.epoch + 1; live = remove book.live place; out = book.out } =
      ap (λ (live : List Vpn). record { epoch = book.epoch + 1; live = live; out = book.out }) (filter_removes customer id book.live place vpn rise there (is.is_id, is.is_customer)) in
      let less : (l : ℕ) → load_of (next_book book (Release customer id)) l + amount_on l vpn.amounts ≡ load_of book l = λ l.
      (let amount : Vpn → ℕ = λ v. amount_on l v.amounts in
      let out = sum_by-remove amount book.live place vpn inside in
      omega (arith, out, ap (λ (b : Book). load_of b l) released, ap amount read)) in
      let found = filter_finds customer id book.live place vpn rise there (is.is_id, is.is_customer) in
      let links : List Vpn → List ℕ = flat_map (λ (v : Vpn). firsts v.amounts) in
      let touched : touched_links book (Release customer id) ≡ firsts vpn.amounts = ap links found ∙ append-nil (firsts vpn.amounts) in
      record { inside = inside; is = is; released = released; touched = touched; load_less = less }

-- a VPN is taken out so too where it was found in the book of the ledger that a book is seen as
pub taken_in : (seen book : Book) (customer : List ℕ) (id place : ℕ) (vpn : Vpn) → book ≡ seen → Rise book.live
    → IsSomeAnd (slice_get seen.live place) (IsLiveVpn seen customer id) → vpn ≡ get_or book.live place vpn → Taken book customer id place vpn
taken_in seen book customer id place vpn same rise asked read =
    let here = subst (λ (b : Book). IsSomeAnd (slice_get b.live place) (IsLiveVpn b customer id)) (sym same) asked in
    taken_at book customer id place vpn rise here read

-- what a release leaves is kept as before
pub kept_left : (network : Network) (book : Book) (customer : List ℕ) (id : ℕ) → All (IsKept network) book.live → All (IsKept network) (next_book book (Release customer id)).live
kept_left network book customer id on = All-filter (stays customer id) (IsKept network) book.live on
