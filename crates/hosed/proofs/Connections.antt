-- Connections that were served, by the cabinet that holds the disk of the journal.
use Rattle.std.proofs.Common.{◌≡◌, ◌⊎◌, ◌≤◌, refl, List, [], ◌∷◌, Result, Ok, Err, sym, ap, subst}
use Rattle.std.specs.Prelude.{ℕ, ⊤}
use Rattle.hose_io.specs.Frame.{Frame, Met}
use Rattle.hose_io.specs.declared.Failed.{Failed}
use Rattle.hose_graph.specs.Network.{IsNetwork, Network}
use Rattle.hose_graph.specs.declared.entry.Entry.{Entry}
use Rattle.hose_disk.specs.Cabinet.{CabinetFrame, object_of}
use Rattle.hose_store.specs.Recovery.{IsHistoryOf}
use Rattle.hose_turn.specs.declared.view.Tried.{Tried}
use Rattle.hose_turn.specs.Faults.{end_of_count}
use Rattle.hose_turn.specs.Known.{Known}
use Rattle.hose_shared.specs.Trying.{IsTried}
use Rattle.hose_outside.specs.CabinetText.{OnlyTextsRead}
use Rattle.hose_outside.specs.OnDisk.{CabinetWorked}
use Rattle.hose_outside.specs.Parts.{Tellings}
use Rattle.hose_outside.specs.declared.fault.Fault.{Fault}
use Rattle.hose_outside.proofs.Provided.{decided_provides}
use Rattle.hose_outside.proofs.TextsRead.{has_before, held_before}
use Rattle.hose_outside.proofs.PutBack.{IsPutBack, counts, held_as, left_as_kind}
use Rattle.hosed.specs.ServerDoor.{IsKeptIn, ServesBook, ServesByJournal}
use Rattle.hosed.specs.steps.ServerDoor.{IsKeptOn, ServesByStore}
use Rattle.hosed.specs.declared.server.ServerEnd.{ServerEnd}

-- lists that are the same begin alike
pub same_first : (one other : ℕ) (ones others : List ℕ) → one ∷ ones ≡ other ∷ others → one ≡ other
same_first one other ones others same = cc same

-- what serving comes to where a journal is kept one way, it comes to where it is so kept another way
serves_as : (network : Network) (One Other : List Entry → List Entry → List Tried → Result ⊤ Failed → Type 0) (faults faults' : ℕ) (Along : Known → Result ⊤ Failed → Type 0) (came : Result ServerEnd Fault) → ((since history : List Entry) (tries : List Tried) (closing : Result ⊤ Failed) → One since history tries closing → Other since history tries closing)
    → faults ≡ faults' → ServesBook network One faults Along came → ServesBook network Other faults' Along came
serves_as network One Other faults faults' Along (Ok end) kept same serves = record {
  history = serves.history;
  pass = serves.pass;
  of = serves.of;
  kept = kept serves.pass.origin.since serves.history serves.pass.tried end.closing serves.kept;
  seen = serves.seen;
  own = serves.own;
  met = subst (λ (count : ℕ). (serves.pass.faults ≤ count) ⊎ (end_of_count ≤ count)) same serves.met;
  served = serves.served;
  is = serves.is;
}
serves_as network One Other faults faults' Along (Err why) kept same stays = record { since = stays.since; closing = stays.closing; kept = kept stays.since stays.since [] stays.closing stays.kept }

module _ {I O C E : Type 0} (tells : Tellings I O C E) (name : List ℕ) (old mid new : C) (network : Network) (opened left : E)
    (back : IsPutBack tells.cabinet tells.disk name old mid new opened left) where
  kept_in : IsNetwork network → (since history : List Entry) (tries : List Tried) (closing : Result ⊤ Failed) → IsKeptOn tells.disk opened left network since history tries closing → IsKeptIn tells name old new network since history tries closing
  kept_in is since history tries closing has = record {
    begun = held_as tells.cabinet tells.disk name old mid new network opened left back (IsHistoryOf network since) has.read;
    begins = has.begins;
    decided = has.decided;
    met = counts tells.cabinet tells.disk name old mid new network opened left back closing has.told;
    left = left_as_kind tells.cabinet tells.disk name old mid new network opened left back (IsTried history tries) since history closing has.leaves;
    provides = decided_provides network is since history has.decided;
  }

  -- the disk is back
  pub served_in : (Along : Known → Result ⊤ Failed → Type 0) (came : Result ServerEnd Fault) → IsNetwork network → ServesByStore tells.disk opened left network Along came → ServesByJournal tells name old new network Along came
  served_in Along came is serves = serves_as network _ _ _ _ Along came (kept_in is) (sym (ap (λ (f : CabinetFrame). f.returned) back.in_place.call)) serves

-- where texts alone were read before, and no call of the cabinet failed
module _ {I O C E : Type 0} (tells : Tellings I O C E) (old mid new : C) (only : OnlyTextsRead tells.cabinet old mid) (same : CabinetWorked tells.cabinet old mid) (name : List ℕ) (network : Network) where
  kept_before : (since history : List Entry) (tries : List Tried) (closing : Result ⊤ Failed) → IsKeptIn tells name mid new network since history tries closing → IsKeptIn tells name old new network since history tries closing
  kept_before since history tries closing has = record {
    begun = held_before tells.cabinet tells.disk old mid new only name _ has.begun;
    begins = has.begins;
    decided = has.decided;
    met = subst (λ (f : Frame). Met f (object_of (tells.cabinet.frame new)) closing) same has.met;
    left = has_before tells.cabinet tells.disk old mid new only name _ has.left;
    provides = has.provides;
  }

  pub served_before : (Along : Known → Result ⊤ Failed → Type 0) (came : Result ServerEnd Fault) → ServesByJournal tells name mid new network Along came → ServesByJournal tells name old new network Along came
  served_before Along came serves = serves_as network _ _ _ _ Along came kept_before refl serves
