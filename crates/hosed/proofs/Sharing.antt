-- A store that was shared, from its opening to its closing.
use Rattle.std.proofs.Common.{◌≡◌, ◌∙◌, ◌⊎◌, inl, inr, ⊎_elim, ℕ, zero, suc, ◌≤◌, ◌<◌, List, [], ◌∷◌, length, Bool, IfSome, None, Option, Some, is_some, Result, Ok, nat_lt, refl, sym, ap, subst, arith, append-nil, length-append, Err}
use Rattle.std.specs.Prelude.{⊤}
use mathlib.Core.List.{IsPrefix}
use Rattle.hose_io.specs.declared.Failed.{Failed}
use Rattle.hose_io.specs.declared.sink.Sink.{Ghosts as SinkGhosts}
use Rattle.hose_graph.specs.Network.{Network}
use Rattle.hose_graph.specs.declared.entry.Entry.{Entry}
use Rattle.hose_law.specs.Book.{Book}
use Rattle.hose_law.specs.History.{AreFrom, EntryKind, IsDecidedAt, IsSound, book_of, next_book, opening_book}
use Rattle.hose_book.specs.Ledger.{IsLedgerOf, Ledger}
use Rattle.hose_disk.specs.declared.disk.Disk.{Ghosts as DiskGhosts}
use Rattle.hose_shared.specs.steps.Closing.{HasShared}
use Rattle.hose_store.specs.Beginning.{Beginning, IsOrOneMore}
use Rattle.hose_store.specs.steps.Beginning.{StandsFor}
use Rattle.hose_store.specs.steps.Store.{KeptStore}
use Rattle.hose_turn.specs.Faults.{end_of_count}
use Rattle.hose_turn.specs.declared.view.Tried.{Tried}
use Rattle.hose_turn.specs.Known.{Known}
use Rattle.hose_shared.specs.Trying.{IsTried}
use Rattle.hose_turn.specs.Places.{HasPlaces}
use Rattle.hose_outside.specs.OnDisk.{opening_of}
use Rattle.hose_outside.specs.steps.Journal.{IsJustOpened}
use Rattle.hose_outside.specs.declared.fault.Fault.{Fault}
use Rattle.hose_outside.specs.declared.fault.Fault.TheVariants.{Memory}
use Rattle.hosed.specs.ServerDoor.{DoorSeen, ServesBook, Speaks, StaysAsRead}
use Rattle.hosed.specs.steps.ServerDoor.{IsAnnounced, IsClosedOn, IsKeptOn, IsNoEntry, IsOpenedAs, IsOpening, Opened, OpensAt}
use Rattle.hose_store.proofs.Standing.{opened_stands}
use Rattle.hosed.specs.declared.server.ServerEnd.{ServerEnd}

-- a history without a place after its beginning is that beginning
no_more : (since history : List Entry) → IsPrefix since history → HasPlaces (length since) (length history) [] → history ≡ since
no_more since history ([], same) none = sym same ∙ append-nil since
no_more since history (entry ∷ more, same) none = absurd (at (nat_lt (length since) (length history)) refl)
  where
    longer : length since < length history
    longer = let size = ap length same in let parts = length-append since (entry ∷ more) in omega (arith, size, parts)

    at : (one : Bool) → nat_lt (length since) (length history) ≡ one → ⊥
    at one is = let here = none (length since) in grind (arith, longer, here)

-- a store that was just opened stands for the history for which its disk stood
pub just_opened : {E : Type 0} (disk : DiskGhosts E) (was : E) (network : Network) (store : KeptStore E) (opens : IsJustOpened disk IsDecidedAt was network store) → IsOpening disk was network opens.opened.history store
just_opened disk was network store opens =
    let laws = opens.lawful in
    record {
      read = opens.opened.read;
      stands = opened_stands disk IsNoEntry (disk.may_leave was) (opening_of disk network opens.opened.history was) was store opens.opened refl opens.images opens.stands.tells refl (laws.counts_now was) (laws.untold store.journal.disk) (omega arith) (laws.only_now was);
    }

-- what a server that gave up comes to: the journal stays as it was read
pub given_up : (network : Network) (IsKept : List Entry → List Entry → List Tried → Result ⊤ Failed → Type 0) (faults : ℕ) (Along : Known → Result ⊤ Failed → Type 0) (came : Result ServerEnd Fault) (why : Fault) → came ≡ Err why → StaysAsRead network IsKept → ServesBook network IsKept faults Along came
given_up network IsKept faults Along came why is stays = subst (ServesBook network IsKept faults Along) (sym is) stays

-- and it says why the door was not opened or not announced
pub not_announced : {O : Type 0} (sink : SinkGhosts O) (port : ℕ) (output output' : O) (was now : DoorSeen) (why : Fault) → IsAnnounced sink port output output' was now {T = ⊤} (Err why) → Speaks sink port output output' was now (Err why)
not_announced sink port output output' was now Memory is = absurd is
not_announced sink port output output' was now another is = is

-- also where the store was closed then, with the door as it was
pub gave_up : {O : Type 0} (sink : SinkGhosts O) (port : ℕ) (output output' : O) (was mid now : DoorSeen) (came : Result ServerEnd Fault) (why : Fault) → came ≡ Err why → now ≡ mid → IsAnnounced sink port output output' was mid {T = ⊤} (Err why) → Speaks sink port output output' was now came
gave_up sink port output output' was mid now came why is same announced =
    subst (Speaks sink port output output' was now) (sym is) (subst (λ (door : DoorSeen). Speaks sink port output output' was door (Err why)) (sym same) (not_announced sink port output output' was mid why announced))

-- a store stands for a history since any images that are no fewer
stands_had : {E : Type 0} (disk : DiskGhosts E) (Had Has : List ℕ → Type 0) (beginning : Beginning) (history : List Entry) (store : KeptStore E) → ((image : List ℕ) → Had image → Has image) → StandsFor disk IsNoEntry Had beginning history store
    → StandsFor disk IsNoEntry Has beginning history store
stands_had disk Had Has beginning history store more stands = record {
  doubt = stands.doubt;
  network = stands.network;
  has = stands.has;
  since = stands.since;
  added = stands.added;
  doubtful = stands.doubtful;
  later = stands.later;
  moments = λ image left. ⊎_elim (λ part. inl part) (λ had. inr (more image had)) (stands.moments image left);
  tells = stands.tells;
}

-- entries of one kind are of any kind that holds wherever it does
from_weaker : (One Other : EntryKind) (network : Network) → ((book : Book) (entry : Entry) → One network book entry → Other network book entry) → (book : Book) (since : ℕ) (entries : List Entry) → AreFrom One network book since entries → AreFrom Other network book since entries
from_weaker One Other network weaker book since [] are = tt
from_weaker One Other network weaker book zero (entry ∷ entries) are = (weaker book entry are.0, from_weaker One Other network weaker (next_book book entry) zero entries are.1)
from_weaker One Other network weaker book (suc since) (entry ∷ entries) are = from_weaker One Other network weaker (next_book book entry) since entries are

if_weaker : (P Q : Entry → Type 0) → ((entry : Entry) → P entry → Q entry) → (one : Option Entry) → IfSome one P → IfSome one Q
if_weaker P Q weaker None is = tt
if_weaker P Q weaker (Some entry) is = weaker entry is

-- a store stands for a history by entries of such a kind
stands_weaker : {E : Type 0} (disk : DiskGhosts E) (One Other : EntryKind) (Had : List ℕ → Type 0) (beginning : Beginning) (history : List Entry) (store : KeptStore E) → ((book : Book) (entry : Entry) → One beginning.network book entry → Other beginning.network book entry)
    → StandsFor disk One Had beginning history store → StandsFor disk Other Had beginning history store
stands_weaker disk One Other Had beginning history store weaker stands = record {
  doubt = stands.doubt;
  network = stands.network;
  has = stands.has;
  since = stands.since;
  added = from_weaker One Other beginning.network weaker (opening_book 0) (length beginning.since) history stands.added;
  doubtful = if_weaker (One beginning.network (book_of 0 history)) (Other beginning.network (book_of 0 history)) (weaker (book_of 0 history)) stands.doubt stands.doubtful;
  later = stands.later;
  moments = λ image left. ⊎_elim (λ part. inl (part.0, part.1, part.2, more part.0 image part.3)) (λ had. inr had) (stands.moments image left);
  tells = stands.tells;
}
  where
    more : (part : List Entry) (image : List ℕ) → IsOrOneMore One beginning.network part image → IsOrOneMore Other beginning.network part image
    more part image (inl is) = inl is
    more part image (inr one) = inr (one.0, weaker (book_of 0 part) one.0 one.1, one.2)

-- an opening that is named
module _ {E : Type 0} (disk : DiskGhosts E) (opened : Opened) (was : E) (first : KeptStore E) (named : IsOpenedAs disk opened was first) (since : List Entry) (store : KeptStore E) where
  abbrev network : Network
  network = first.ledger.network

  abbrev beginning : Beginning
  beginning = record { since = since; network = opened.network; moment = opened.moment; tells = is_some opened.content }

  same_beginning : beginning ≡ opening_of disk network since was
  same_beginning = rw (named.content, named.moment, named.network) refl

  pub opens_at : IsOpening disk was network since store → OpensAt disk opened since store
  opens_at opening = record {
    read = rw (named.content, named.network) opening.read;
    stands = subst (λ (b : Beginning). StandsFor disk IsNoEntry opened.had b since store) (sym same_beginning)
        (stands_had disk (disk.may_leave was) opened.had (opening_of disk network since was) since store (λ image one. (named.had image).1 one) opening.stands);
  }

  pub is_opening : OpensAt disk opened since store → IsOpening disk was network since store
  is_opening opens = record {
    read = rw (sym named.content, sym named.network) opens.read;
    stands = subst (λ (b : Beginning). StandsFor disk IsNoEntry (disk.may_leave was) b since store) same_beginning
        (stands_had disk opened.had (disk.may_leave was) beginning since store (λ image one. (named.had image).0 one) opens.stands);
  }

module _ {E : Type 0} (disk : DiskGhosts E) (was left : E) (network : Network) (closing : Result ⊤ Failed) where
  kept_from : (since history : List Entry) (tries : List Tried) (first store : KeptStore E) → IsOpening disk was network since first → StandsFor disk (IsTried history tries) (disk.may_leave was) (opening_of disk network since was) history store → IsClosedOn disk store left closing
      → IsKeptOn disk was left network since history tries closing
  kept_from since history tries first store opening stands closed = record {
    read = opening.read;
    begins = stands.since;
    decided = record { sound = subst (λ (n : Network). IsSound n 0 history) stands.network stands.has.sound; decided = from_weaker (IsTried history tries) IsDecidedAt network (λ book entry is. is.decided) (opening_book 0) (length since) history stands.added };
    told = closed.call.told;
    leaves = closed.leaves was (opening_of disk network since was) history tries stands;
  }

  -- a store that was opened and closed
  pub closed_at_once : (since : List Entry) (store : KeptStore E) → IsOpening disk was network since store → IsClosedOn disk store left closing → StaysAsRead network (IsKeptOn disk was left network)
  closed_at_once since store opening closed = record { since = since; closing = closing; kept = kept_from since since [] store store opening (stands_weaker disk IsNoEntry (IsTried since []) (disk.may_leave was) (opening_of disk network since was) since store (λ book entry none. absurd none) opening.stands) closed }

  -- a store that was shared between
  module _ (Begins : List Entry → KeptStore E → Type 0) (named : (since : List Entry) (store : KeptStore E) → Begins since store → IsOpening disk was network since store) (pass : Known) (first store : KeptStore E)
      (of : pass.origin.network ≡ network) (began : Begins pass.origin.since first) (shared : HasShared disk Begins pass store)
      (met : (pass.faults ≤ (disk.frame store.journal.disk).faults) ⊎ (end_of_count ≤ (disk.frame store.journal.disk).faults))
      (closed : IsClosedOn disk store left closing) where
    abbrev since : List Entry
    since = pass.origin.since

    abbrev IsMine : EntryKind
    IsMine = IsTried shared.history pass.tried

    -- what was tried is the pass's
    mine : (book : Book) (entry : Entry) → IsTried shared.history shared.tries network book entry → IsMine network book entry
    mine book entry is = record {
      decided = is.decided;
      before = is.before;
      begins = is.begins;
      is_book = is.is_book;
      is_tried = ⊎_elim (λ next. inl next) (λ tried. inr (tried.0, shared.whole.tried tried.0 tried.1, tried.2, tried.3)) is.is_tried;
    }

    kept : IsKeptOn disk was left network since shared.history pass.tried closing
    kept = kept_from since shared.history pass.tried first store (named since first began)
        (stands_weaker disk (IsTried shared.history shared.tries) IsMine (disk.may_leave was) (opening_of disk network since was) shared.history store mine
        (shared.stands (opening_of disk network since was) was refl (sym of) (λ one begins.
        stands_weaker disk IsNoEntry (IsTried shared.history shared.tries) (disk.may_leave was) (opening_of disk network since was) since one (λ book entry none. absurd none) (named since one begins).stands))) closed

    -- nothing was made along the pass
    pub stays_shared : pass.own ≡ [] → pass.tried ≡ [] → StaysAsRead network (IsKeptOn disk was left network)
    stays_shared none untried = record {
      since = since;
      closing = closing;
      kept = subst (λ (history : List Entry). IsKeptOn disk was left network since history [] closing)
          (no_more since shared.history kept.begins (subst (HasPlaces (length since) (length shared.history)) none shared.whole.own))
          (subst (λ (tries : List Tried). IsKeptOn disk was left network since shared.history tries closing) untried kept);
    }

    -- connections were served along it
    pub serves_shared : (Along : Known → Result ⊤ Failed → Type 0) (book : Ledger) (accepting : Result ⊤ Failed) → store.ledger ≡ book → Along pass accepting
        → ServesBook network (IsKeptOn disk was left network) (disk.frame left).faults Along (Ok (record { book = book; accepting = accepting; closing = closing }))
    serves_shared Along book accepting is served = record {
      history = shared.history;
      pass = pass;
      of = of;
      kept = kept;
      seen = shared.whole.seen;
      own = shared.whole.own;
      met = ⊎_elim (λ few. inl (omega (arith, few, closed.call.met.stays.never_falls))) (λ most. inr (omega (arith, most, closed.call.met.stays.never_falls))) met;
      served = served;
      is = subst (IsLedgerOf network 0 shared.history) is
          (record { is_network = shared.whole.stood.network ∙ of; is_book = shared.whole.stood.book });
    }
