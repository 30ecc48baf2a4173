-- What a follower's answers make of the history of its store.
use Rattle.std.proofs.Common.{◌≡◌, ◌∙◌, inl, inr, ℕ, ◌+◌, List, [], ◌∷◌, ◌++◌, Option, None, Some, length, length-append, append_assoc, append-nil, refl, sym, ap, subst, arith, Contains}
use Rattle.std.proofs.lemmas.List.Elements.{Contains-append_left, Contains-push}
use mathlib.Core.List.{IsPrefix}
use Rattle.hose_graph.specs.Network.{Network}
use Rattle.hose_graph.specs.declared.entry.Entry.{Entry}
use Rattle.hose_law.specs.Book.{Book}
use Rattle.hose_law.specs.History.{IsSoundAt, book_of}
use Rattle.hose_law.proofs.Epochs.{epoch_of}
use Rattle.hose_book.specs.steps.GoingOn.{GoesOn, entry_more, none_yet as nothing_yet}
use Rattle.hose_book.specs.Ledger.{Ledger}
use Rattle.hose_book.specs.declared.books.Committed.TheVariants as committed
use Rattle.hose_disk.specs.declared.disk.Disk.{Ghosts}
use Rattle.hose_journal.specs.Chain.{chain}
use Rattle.hose_store.specs.steps.Commit.{IsLeft, store_books}
use Rattle.hose_store.specs.Recovery.{digest_of}
use Rattle.hose_store.specs.steps.Store.{HasHistory, KeptStore}
use Rattle.hose_follow.specs.steps.Offering.{AreOffered, Brings, Enters, IsDue, IsOffered, none_yet as none_offered, packet_more as offered_more}
use Rattle.hose_follow.specs.Packet.{Packet, packets_bytes}
use Rattle.hose_follow.specs.declared.answers.Offered.{Offered}
use Rattle.hose_follow.specs.declared.answers.Offered.TheVariants.{Have, Want, Differs, Memory, Unsound, Disk}
use Rattle.hose_copying.specs.Following.{AnswersPacket, ArePacketsAnswered, BringsAt, IsBrought, IsDueAt, none_yet, packet_more}
use Rattle.hose_copying.proofs.Packets.{some_bytes}

-- where no byte was taken no packet was answered
pub none_answered : (network : Network) (since : List Entry) (packets : List Packet) (answers : List Offered) (history : List Entry) (rest : List ℕ) → ArePacketsAnswered network since packets answers history → packets_bytes packets ++ rest ≡ [] → history ≡ since
none_answered network since packets answers history rest none_yet same = refl
none_answered network since packets answers history rest (packet_more packet answer before at) same = absurd (some_bytes _ packet rest same)

module _ {D : Type 0} (disk : Ghosts D) (first : KeptStore D) (since : List Entry) (all : List Packet) where
  -- packets that were offered, each one of these, were answered so by a history, which the store has then
  pub record Leads (packets : List Packet) (answers : List Offered) (now : KeptStore D) : Type 0 where
    pub history : List Entry
    pub doubt : Option Entry
    pub same_network : now.ledger.network ≡ first.ledger.network
    pub has : HasHistory disk now history doubt
    pub goes_on : GoesOn (store_books disk) (IsBrought all) first.ledger.network since first history now
    pub answered : ArePacketsAnswered first.ledger.network since packets answers history
    pub begins : IsPrefix since history

  module _ (packets : List Packet) (answers : List Offered) (middle : KeptStore D) (on : Leads packets answers middle) where
    epoch : middle.ledger.book.epoch ≡ length on.history
    epoch = ap (λ (b : Book). b.epoch) on.has.book ∙ epoch_of on.history

    value : (given : List ℕ) → given ≡ chain (digest_of middle.ledger.network) on.history → given ≡ chain (digest_of first.ledger.network) on.history
    value given is = subst (λ (n : Network). given ≡ chain (digest_of n) on.history) on.same_network is

    due : (packet : Packet) → IsDue disk middle packet → IsDueAt first.ledger.network on.history packet
    due packet is = record {
      epoch = omega (arith, is.epoch, epoch);
      value = value packet.chain (is.chain on.history on.doubt on.has);
    }

    brings : (packet : Packet) (entry : Entry) → Brings middle.ledger packet entry → BringsAt first.ledger.network on.history packet entry
    brings packet entry is = record {
      spells = is.spells;
      sound = subst (λ (n : Network). IsSoundAt n (book_of 0 on.history) entry) on.same_network
          (subst (λ (book : Book). IsSoundAt middle.ledger.network book entry) on.has.book is.sound);
    }

    brought : (packet : Packet) (entry : Entry) → BringsAt first.ledger.network on.history packet entry → Brings middle.ledger packet entry
    brought packet entry is = record {
      spells = is.spells;
      sound = subst (λ (book : Book). IsSoundAt middle.ledger.network book entry) (sym on.has.book)
          (subst (λ (n : Network). IsSoundAt n (book_of 0 on.history) entry) (sym on.same_network) is.sound);
    }

    of_packet : (packet : Packet) (entry : Entry) → Contains all packet → IsDue disk middle packet → Brings middle.ledger packet entry → IsBrought all first.ledger.network (book_of 0 on.history) entry
    of_packet packet entry offered is bring = record {
      sound = (brings packet entry bring).sound;
      packet = packet;
      offered = offered;
      epoch = omega (arith, is.epoch, ap (λ (b : Book). b.epoch) on.has.book);
      spells = bring.spells;
    }

    -- the store was not touched
    stays : (now : KeptStore D) (packet : Packet) (answer : Offered) → now ≡ middle → AnswersPacket first.ledger.network on.history packet answer on.history → Leads (packets ++ packet ∷ []) (answers ++ answer ∷ []) now
    stays now packet answer same at = subst (Leads (packets ++ packet ∷ []) (answers ++ answer ∷ [])) (sym same) (record {
      history = on.history;
      doubt = on.doubt;
      same_network = on.same_network;
      has = on.has;
      goes_on = on.goes_on;
      answered = packet_more packet answer on.answered at;
      begins = on.begins;
    })

    -- an entry was committed
    entered : (now : KeptStore D) (packet : Packet) (entry : Entry) (n : ℕ) → Contains all packet → n ≡ packet.epoch → Enters disk middle packet entry committed.Done now → Leads (packets ++ packet ∷ []) (answers ++ Have n ∷ []) now
    entered now packet entry n offered is enters =
        let is_due = due packet enters.due in
        let bring = brings packet entry enters.brings in
        record {
          history = on.history ++ entry ∷ [];
          doubt = None;
          same_network = ap (λ (l : Ledger). l.network) enters.went.commits ∙ on.same_network;
          has = enters.went.left on.history on.doubt on.has;
          goes_on = entry_more entry committed.Done on.goes_on (of_packet packet entry offered enters.due enters.brings) enters.went;
          answered = packet_more packet (Have n) on.answered (inr (entry, is_due, bring, omega (arith, is, is_due.epoch, length-append on.history (entry ∷ [])), refl));
          begins = (on.begins.0 ++ entry ∷ [], sym (append_assoc since on.begins.0 (entry ∷ [])) ∙ ap (λ (l : List Entry). l ++ entry ∷ []) on.begins.1);
        }

    -- the disk failed at it
    with_doubt : (now : KeptStore D) (packet : Packet) (entry : Entry) (at : ℕ) (doubt : Option Entry) → Contains all packet → at ≡ length on.history → Enters disk middle packet entry committed.Disk now → HasHistory disk now on.history doubt
        → Leads (packets ++ packet ∷ []) (answers ++ Disk at ∷ []) now
    with_doubt now packet entry at doubt offered is enters has =
        let bring = brings packet entry enters.brings in
        record {
          history = on.history;
          doubt = doubt;
          same_network = ap (λ (l : Ledger). l.network) enters.went.commits ∙ on.same_network;
          has = has;
          goes_on = entry_more entry committed.Disk on.goes_on (of_packet packet entry offered enters.due enters.brings) enters.went;
          answered = packet_more packet (Disk at) on.answered ((entry, due packet enters.due, bring), is, refl);
          begins = on.begins;
        }

    failed : (now : KeptStore D) (packet : Packet) (entry : Entry) (at : ℕ) → Contains all packet → at ≡ length on.history → Enters disk middle packet entry committed.Disk now → IsLeft disk on.history on.doubt entry committed.Disk now → Leads (packets ++ packet ∷ []) (answers ++ Disk at ∷ []) now
    failed now packet entry at offered is enters (inl has) = with_doubt now packet entry at on.doubt offered is enters has
    failed now packet entry at offered is enters (inr (inl has)) = with_doubt now packet entry at None offered is enters has
    failed now packet entry at offered is enters (inr (inr has)) = with_doubt now packet entry at (Some entry) offered is enters has

    one_more : (now : KeptStore D) (packet : Packet) (answer : Offered) → Contains all packet → IsOffered disk middle packet answer now → Leads (packets ++ packet ∷ []) (answers ++ answer ∷ []) now
    one_more now packet (Have n) there (inl past) =
        stays now packet (Have n) past.same (inl (omega (arith, past.past, epoch), omega (arith, past.own, epoch), refl))
    one_more now packet (Have n) there (inr (entry, is, enters)) = entered now packet entry n there is enters
    one_more now packet (Want n) there offered =
        stays now packet (Want n) offered.2 (omega (arith, offered.0, epoch), omega (arith, offered.1, epoch), refl)
    one_more now packet (Differs at own given) there (other, same) = stays now packet (Differs at own given) same (
      record {
        epoch = omega (arith, other.epoch, epoch);
        own_value = value own (other.own on.history on.doubt on.has);
        given_value = other.given;
        differs = other.differs;
      },
      omega (arith, other.at, epoch),
      refl,
    )
    one_more now packet Memory there (is_due, some, same) = stays now packet Memory same (due packet is_due, some, refl)
    one_more now packet (Unsound told) there (is_due, none, is, same) =
        stays now packet (Unsound told) same (due packet is_due, (λ entry bring. none entry (brought packet entry bring)), is, refl)
    one_more now packet (Disk at) there (entry, is, enters) =
        failed now packet entry at there (omega (arith, is, epoch)) enters (enters.went.left on.history on.doubt on.has)

  pub leads : (doubt : Option Entry) (packets : List Packet) (answers : List Offered) (last : KeptStore D) → ((packet : Packet) → Contains packets packet → Contains all packet) → HasHistory disk first since doubt → AreOffered disk first packets answers last → Leads packets answers last
  leads doubt packets answers last within has none_offered = record {
    history = since;
    doubt = doubt;
    same_network = refl;
    has = has;
    goes_on = nothing_yet;
    answered = none_yet;
    begins = ([], append-nil since);
  }
  leads doubt packets answers last within has (offered_more {packets = front} packet answer before offered) =
      one_more _ _ _ (leads doubt _ _ _ (λ one there. within one (Contains-append_left front (packet ∷ []) one there)) has before) last packet answer (within packet (Contains-push front packet)) offered
