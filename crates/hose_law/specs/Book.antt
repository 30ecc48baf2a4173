-- The book: what is admitted and live, what it reserves on each link, and which links are out of
-- service.
use Rattle.std.specs.Prelude.{◌≡◌, ℕ, ◌<◌, List, map, length, Contains, sum_by, if◌then◌else◌, ◌==◌}
use Rattle.std.specs.List.{range_with_len}
use Rattle.hose_graph.specs.declared.entry.Vpn.{Vpn}
use Rattle.hose_graph.specs.Amounts.{ReservedLink, link_of, amount_of}
use Rattle.hose_graph.specs.Network.{Network}
use Rattle.hose_law.specs.Walk.{capacity_of}

-- an epoch, which counts the accepted entries, the live VPNs in the order of their admission, and
-- the links that are out of service
pub record Book : Type 0 where
  pub epoch : ℕ
  pub live : List Vpn
  pub out : List ℕ

-- a live VPN is the one of this number, and is this customer's
pub record IsLiveVpn (book : Book) (customer : List ℕ) (id : ℕ) (vpn : Vpn) : Type 0 where
  pub live : Contains book.live vpn
  pub is_id : vpn.id ≡ id
  pub is_customer : vpn.customer ≡ customer

-- the customer has a live VPN of this number
abbrev pub HasVpn : Book → List ℕ → ℕ → Type 0
HasVpn book customer id = (vpn : Vpn) × IsLiveVpn book customer id vpn

-- what a plan reserves on a link
abbrev pub amount_on : ℕ → List ReservedLink → ℕ
amount_on l plan =
    sum_by (λ (pair : ReservedLink). if link_of pair == l then amount_of pair else 0) plan

-- a link's load: the sum of what the live VPNs reserve on it
abbrev pub load_of : Book → ℕ → ℕ
load_of book l = sum_by (λ (vpn : Vpn). amount_on l vpn.amounts) book.live

-- the load of each link
abbrev pub loads_of : Network → Book → List ℕ
loads_of network book = map (load_of book) (range_with_len 0 (length network.links))

-- a link carries more than it can
abbrev pub IsOversold : Network → Book → ℕ → Type 0
IsOversold network book l = capacity_of network l < load_of book l
