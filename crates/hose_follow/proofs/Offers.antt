-- Packets that are offered one after another.
use Rattle.std.proofs.Common.{◌≡◌, ◌∙◌, List, [], ◌∷◌, ◌++◌, Option, None, Some, refl, sym, ap, subst, inl, inr}
use Rattle.hose_graph.specs.Network.{Network}
use Rattle.hose_graph.specs.declared.entry.Entry.{Entry}
use Rattle.hose_law.specs.Book.{Book}
use Rattle.hose_law.specs.History.{IsSoundAt, book_of}
use Rattle.hose_book.specs.steps.GoingOn.{entry_more, none_yet as nothing_yet}
use Rattle.hose_book.specs.Ledger.{Ledger}
use Rattle.hose_book.specs.declared.books.Committed.TheVariants as committed
use Rattle.hose_disk.specs.declared.disk.Disk.{Ghosts}
use Rattle.hose_store.specs.steps.Commit.{IsLeft}
use Rattle.hose_store.specs.steps.Store.{HasHistory, KeptStore}
use Rattle.hose_follow.specs.steps.Chained.{LeadsOn}
use Rattle.hose_follow.specs.steps.Offering.{AreOffered, Brings, Enters, IsOffered, none_yet, packet_more}
use Rattle.hose_follow.specs.Packet.{Packet}
use Rattle.hose_follow.specs.declared.answers.Offered.{Offered}
use Rattle.hose_follow.specs.declared.answers.Offered.TheVariants.{Have, Want, Differs, Memory, Unsound, Disk}

module _ {D : Type 0} (disk : Ghosts D) (first : KeptStore D) (since : List Entry) where
  same_too : (middle now : KeptStore D) → now ≡ middle → LeadsOn disk first since middle → LeadsOn disk first since now
  same_too middle now same on = subst (LeadsOn disk first since) (sym same) on

  sound_in : (middle : KeptStore D) (packet : Packet) (entry : Entry) (on : LeadsOn disk first since middle) → Brings middle.ledger packet entry → IsSoundAt first.ledger.network (book_of 0 on.history) entry
  sound_in middle packet entry on brings =
      subst (λ (network : Network). IsSoundAt network (book_of 0 on.history) entry) on.network
      (subst (λ (book : Book). IsSoundAt middle.ledger.network book entry) on.has.book brings.sound)

  with_doubt : (middle now : KeptStore D) (packet : Packet) (entry : Entry) (on : LeadsOn disk first since middle) → Enters disk middle packet entry committed.Disk now → (doubt : Option Entry) → HasHistory disk now on.history doubt → LeadsOn disk first since now
  with_doubt middle now packet entry on enters doubt has =
      record {
        history = on.history;
        doubt = doubt;
        network = ap (λ (l : Ledger). l.network) enters.went.commits ∙ on.network;
        has = has;
        goes_on = entry_more entry committed.Disk on.goes_on (sound_in middle packet entry on enters.brings) enters.went;
      }

  -- an entry that was committed, or whose commit failed
  entered : (middle now : KeptStore D) (packet : Packet) (entry : Entry) → LeadsOn disk first since middle → Enters disk middle packet entry committed.Done now → LeadsOn disk first since now
  entered middle now packet entry on enters =
      record {
        history = on.history ++ entry ∷ [];
        doubt = None;
        network = ap (λ (l : Ledger). l.network) enters.went.commits ∙ on.network;
        has = enters.went.left on.history on.doubt on.has;
        goes_on = entry_more entry committed.Done on.goes_on (sound_in middle packet entry on enters.brings) enters.went;
      }

  failed : (middle now : KeptStore D) (packet : Packet) (entry : Entry) (on : LeadsOn disk first since middle) → Enters disk middle packet entry committed.Disk now → IsLeft disk on.history on.doubt entry committed.Disk now → LeadsOn disk first since now
  failed middle now packet entry on enters (inl has) = with_doubt middle now packet entry on enters on.doubt has
  failed middle now packet entry on enters (inr (inl has)) = with_doubt middle now packet entry on enters None has
  failed middle now packet entry on enters (inr (inr has)) = with_doubt middle now packet entry on enters (Some entry) has

  one_more : (middle now : KeptStore D) (packet : Packet) (answer : Offered) → LeadsOn disk first since middle → IsOffered disk middle packet answer now → LeadsOn disk first since now
  one_more middle now packet (Have n) on (inl past) = same_too middle now past.same on
  one_more middle now packet (Have n) on (inr (entry, _, enters)) = entered middle now packet entry on enters
  one_more middle now packet (Want n) on offered = same_too middle now offered.2 on
  one_more middle now packet (Differs at own given) on offered = same_too middle now offered.1 on
  one_more middle now packet Memory on offered = same_too middle now offered.2 on
  one_more middle now packet (Unsound epoch) on offered = same_too middle now offered.3 on
  one_more middle now packet (Disk at) on (entry, _, enters) = failed middle now packet entry on enters (enters.went.left on.history on.doubt on.has)

  pub leads_on : (doubt : Option Entry) (packets : List Packet) (answers : List Offered) (last : KeptStore D) → HasHistory disk first since doubt → AreOffered disk first packets answers last → LeadsOn disk first since last
  leads_on doubt packets answers last has none_yet =
      record { history = since; doubt = doubt; network = refl; has = has; goes_on = nothing_yet }
  leads_on doubt packets answers last has (packet_more packet answer before offered) =
      one_more _ last packet answer (leads_on doubt _ _ _ has before) offered
