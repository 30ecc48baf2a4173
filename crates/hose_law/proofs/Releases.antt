-- A release takes out of the book the VPN of its number and customer, and nothing else.
use Rattle.std.proofs.Common.{◌≡◌, ◌≤◌, ◌==◌, ℕ, Bool, List, Contains, filter, not, sum_by, refl, arith}
use Rattle.std.specs.Bool.{Decides}
use Rattle.std.proofs.lemmas.Bool.Decides.{Decides-and, Decides-eqb, Decides-not}
use Rattle.std.proofs.lemmas.List.Filters.{sum_by-filter_both}
use Rattle.std.proofs.lemmas.Slice.Eq.{bytes_eq-Decides}
use Rattle.std.specs.Str.{bytes_eq}
use Rattle.hose_graph.specs.declared.entry.Vpn.{Vpn}
use Rattle.hose_graph.proofs.Members.{contains_filter}
use Rattle.hose_law.specs.Book.{amount_on}
use Rattle.hose_law.specs.History.{is_vpn}

-- the VPN has this number and is this customer's
abbrev pub IsVpnOf : List ℕ → ℕ → Vpn → Type 0
IsVpnOf customer id vpn = (vpn.id ≡ id) × (vpn.customer ≡ customer)

-- the test tells just that
pub is_vpn_decides : (customer : List ℕ) (id : ℕ) (vpn : Vpn) → Decides (is_vpn customer id vpn) (IsVpnOf customer id vpn)
is_vpn_decides customer id vpn =
    Decides-and (vpn.id == id) (bytes_eq vpn.customer customer) (Decides-eqb vpn.id id) (bytes_eq-Decides vpn.customer customer)

-- what a release of a number leaves of the live
abbrev pub left_live : List ℕ → ℕ → List Vpn → List Vpn
left_live customer id live = filter (λ vpn. not (is_vpn customer id vpn)) live

-- the other live VPNs are left
pub kept_by_release : (live : List Vpn) (customer : List ℕ) (id : ℕ) (vpn : Vpn) → Contains live vpn → (IsVpnOf customer id vpn → ⊥) → Contains (left_live customer id live) vpn
kept_by_release live customer id vpn there other =
    let passes = Decides-not (is_vpn customer id vpn) (is_vpn_decides customer id vpn) in
    contains_filter (λ v. not (is_vpn customer id v)) live vpn there (passes.1 other)

-- and they reserve no more on a link than all did
pub load_after_release : (live : List Vpn) (customer : List ℕ) (id l : ℕ) → sum_by (λ (v : Vpn). amount_on l v.amounts) (left_live customer id live) ≤ sum_by (λ (v : Vpn). amount_on l v.amounts) live
load_after_release live customer id l =
    let out : Vpn → Bool = λ v. is_vpn customer id v in
    let parts = sum_by-filter_both (λ v. not (out v)) (λ v. not (not (out v))) (λ _. refl) (λ (v : Vpn). amount_on l v.amounts) live in
    omega (arith, parts)
