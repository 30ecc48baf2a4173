-- Claims: all the memory that a take, a release or an order of the operator needs.
use Rattle.std.specs.Prelude.{◌≡◌, ℕ, Bool, List}
use Rattle.hose_graph.specs.Amounts.{ReservedLink}
use Rattle.hose_graph.specs.Hose.{Endpoint}
use Rattle.hose_graph.specs.declared.entry.Entry.{Entry}
use Rattle.hose_law.specs.Decision.{CanBeReserved, IsPlanned}
use Rattle.hose_law.specs.Room.{room_of}
use Rattle.hose_law.specs.steps.Service.{service_entry}
use Rattle.hose_book.specs.Ledger.{Ledger}
use Rattle.hose_graph.specs.declared.entry.Entry.TheVariants.{Admit, Release}
use Rattle.hose_book.specs.declared.books.Books.{Ghosts}
use Rattle.hose_core.specs.declared.claim.Claim.{Claim}
use Rattle.hose_core.specs.declared.claim.ReleaseClaim.{ReleaseClaim}
use Rattle.hose_core.specs.declared.claim.ServiceClaim.{ServiceClaim}
use Rattle.hose_core.specs.declared.quotes.Quote.{Quote}

-- the claim is for a customer to take this quote
pub record IsClaimOf {K R : Type 0} (books : Ghosts K R) (claim : Claim K R) (customer : List ℕ)
    (quote : Quote) : Type 0 where
  pub entry : claim.entry ≡ Admit customer quote.hose quote.amounts
  pub ready : books.fits claim.ready claim.entry
  pub told : claim.told ≡ quote.amounts

-- the claim is for a customer to release the VPN of this number
pub record IsReleaseClaim {K R : Type 0} (books : Ghosts K R) (claim : ReleaseClaim K R)
    (customer : List ℕ) (id : ℕ) : Type 0 where
  pub named : claim.customer ≡ customer
  pub numbered : claim.id ≡ id
  pub ready : books.fits claim.ready (Release customer id)

-- the claim is to take this link out of service, where `down` is true, or to put it back
pub record IsServiceClaim {K R : Type 0} (books : Ghosts K R) (claim : ServiceClaim K R)
    (down : Bool) (link : ℕ) : Type 0 where
  pub kind : claim.down ≡ down
  pub of : claim.link ≡ link
  pub ready : books.fits claim.ready (service_entry down link)

-- the entry admits a customer's hose with the plan that it has at a ledger, which can be reserved
pub record IsPlannedEntry (ledger : Ledger) (customer : List ℕ) (hose : List Endpoint)
    (plan : List ReservedLink) (entry : Entry) : Type 0 where
  pub admits : entry ≡ Admit customer hose plan
  pub planned : IsPlanned ledger.network (room_of ledger.network ledger.book) hose plan
  pub sound : CanBeReserved ledger.network (room_of ledger.network ledger.book) hose plan
