-- How long an admitted VPN is live, and the ids of the live ones: steps of proofs.
use Rattle.std.specs.Prelude.{◌≡◌, ℕ, ◌<◌, ◌≤◌, List, All, Some, slice_get}
use Rattle.hose_graph.specs.declared.entry.Entry.{Entry}
use Rattle.hose_graph.specs.declared.entry.Entry.TheVariants.{Admit}
use Rattle.hose_graph.specs.declared.entry.Vpn.{Vpn}
use Rattle.hose_graph.specs.Amounts.{ReservedLink}
use Rattle.hose_graph.specs.Hose.{Endpoint}
use Rattle.hose_law.specs.Book.{Book}
use Rattle.hose_law.specs.Live.{Rise}

-- the entry at a place of a history is an admission
abbrev pub IsAdmission : List Entry → ℕ → Type 0
IsAdmission history place =
    (customer : List ℕ) × (hose : List Endpoint) × (amounts : List ReservedLink)
    × (slice_get history place ≡ Some (Admit customer hose amounts))

-- the number of a VPN is above a first epoch, and at most a last one
abbrev pub IsBetween : ℕ → ℕ → Vpn → Type 0
IsBetween first last vpn = (first < vpn.id) × (vpn.id ≤ last)

-- The ids of the live VPNs of a book that began at an epoch rise, from above this epoch up to the
-- book's.
pub record HasRisingIds (first : ℕ) (book : Book) : Type 0 where
  pub begun : first ≤ book.epoch
  pub rise : Rise book.live
  pub between : All (IsBetween first book.epoch) book.live
