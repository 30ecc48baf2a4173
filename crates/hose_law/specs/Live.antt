-- How long an admitted VPN is live, and the ids of the live ones.
use Rattle.std.specs.Prelude.{◌≡◌, ◌≢◌, ℕ, ◌+◌, ◌<◌, ◌≤◌, ◌↔◌, List, length, take, AllPairs, Contains, Some, slice_get}
use Rattle.hose_graph.specs.declared.entry.Entry.{Entry}
use Rattle.hose_graph.specs.declared.entry.Entry.TheVariants.{Admit, Release}
use Rattle.hose_graph.specs.declared.entry.Vpn.{Vpn}
use Rattle.hose_graph.specs.Amounts.{ReservedLink}
use Rattle.hose_graph.specs.Hose.{Endpoint}
use Rattle.hose_law.specs.History.{book_of}

-- no entry after a place and before another is the customer's release of the number
abbrev pub NotReleased : List Entry → List ℕ → ℕ → ℕ → ℕ → Type 0
NotReleased history customer id from to =
    (j : ℕ) → from < j → j < to → slice_get history j ≢ Some (Release customer id)

-- What the admission at a place k made live stays so, and as it was admitted, at each later place
-- up to its customer's release of it. Its id is the epoch after its admission.
abbrev pub StaysLive : ℕ → List Entry → ℕ → Type 0
StaysLive epoch history k =
    (customer : List ℕ) (hose : List Endpoint) (amounts : List ReservedLink) (place : ℕ)
    → slice_get history k ≡ Some (Admit customer hose amounts) → k < place → place ≤ length history
    → NotReleased history customer (epoch + k + 1) k place
    → Contains (book_of epoch (take place history)).live
    (record { id = epoch + k + 1; customer = customer; hose = hose; amounts = amounts })

-- An admission before a place of a history made the VPN live just as it is, and no later entry
-- before that place is its customer's release of it.
pub record IsUnreleased (epoch : ℕ) (history : List Entry) (place : ℕ) (vpn : Vpn) : Type 0 where
  pub admission : ℕ
  pub before : admission < place
  pub admits : slice_get history admission ≡ Some (Admit vpn.customer vpn.hose vpn.amounts)
  pub is_id : vpn.id ≡ epoch + admission + 1
  pub not_released : NotReleased history vpn.customer vpn.id admission place

-- the ids of the live VPNs rise
abbrev pub Rise : List Vpn → Type 0
Rise live = AllPairs (λ (one other : Vpn). one.id < other.id) live

-- At a place of a history exactly the VPNs that are held there are live, each once, in the order of
-- their admission.
pub record AreLiveUnreleased (epoch : ℕ) (history : List Entry) (place : ℕ) : Type 0 where
  pub exactly : (vpn : Vpn)
      → Contains (book_of epoch (take place history)).live vpn
      ↔ IsUnreleased epoch history place vpn
  pub in_order : Rise (book_of epoch (take place history)).live
