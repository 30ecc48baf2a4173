-- What hosting by a journal comes to, once its store was opened.
use Rattle.std.proofs.Common.{◌≡◌, ◌∙◌, inl, inr, ℕ, ◌≤◌, List, [], length, None, Some, Option, Bool, true, false, Result, Err, refl, sym, ap, subst, arith, append-nil, le_refl}
use Rattle.std.specs.Prelude.{not, option_map, ⊤}
use mathlib.Core.List.{IsPrefix}
use Rattle.hose_io.specs.declared.Failed.{Failed}
use Rattle.hose_net.specs.Story.{Exchange, IsHosted, Link, Terms, exchanges, no_link}
use Rattle.hose_net.specs.declared.hold.Parting.{Parting}
use Rattle.hose_net.specs.declared.hold.Parting.TheVariants as parting
use Rattle.hose_graph.specs.Network.{IsNetwork, Network}
use Rattle.hose_graph.specs.declared.entry.Entry.{Entry}
use Rattle.hose_law.specs.History.{IsDecided, IsDecidedAt, IsSound}
use Rattle.hose_law.proofs.Scripts.{decided_end}
use Rattle.hose_book.specs.Ledger.{HasBookOf, IsLedgerOf}
use Rattle.hose_book.specs.steps.GoingOn.{GoesOn, none_yet}
use Rattle.hose_clerk.specs.HostLines.{HostLine, SaysAt}
use Rattle.hose_clerk.specs.HostReplies.{host_text}
use Rattle.hose_clerk.specs.Hosting.{AreHostSteps, HostState, IsAheadBy, IsAskedOf, LeadsBy, TellsDisks, host_from}
use Rattle.hose_clerk.specs.declared.replies.HostReply.{HostReply}
use Rattle.hose_clerk.specs.declared.sessions.Session.{Session}
use Rattle.hose_clerk.specs.Tally.{no_tally}
use Rattle.hose_clerk.specs.declared.tally.Tally.{Tally}
use Rattle.hose_clerk.specs.declared.linking.StandbyAt.{StandbyAt}
use Rattle.hose_clerk.specs.steps.Answering.{GrowsWith, HasHosted}
use Rattle.hose_clerk.specs.steps.Hosting.{AreHosted}
use Rattle.hose_clerk.specs.steps.Linking.{LinkState, goes_alone, path_at}
use Rattle.hose_net.proofs.Laws.{hosted_on}
use Rattle.hose_disk.specs.Cabinet.{CabinetFrame}
use Rattle.hose_disk.specs.declared.disk.Disk.{Ghosts as DiskGhosts}
use Rattle.hose_store.specs.Recovery.{IsHistoryOf}
use Rattle.hose_store.specs.steps.Commit.{store_books}
use Rattle.hose_store.specs.Beginning.{IsOrInDoubt}
use Rattle.hose_store.specs.steps.Store.{IsAmid, KeptStore}
use Rattle.hose_lead.specs.LedStore.{LedState}
use Rattle.hose_lead.specs.steps.LedStore.{IsLedOf, led_books}
use Rattle.hose_lead.proofs.Led.{led_goes_on}
use Rattle.hose_store.proofs.Standing.{opened_stands, run_stands}
use Rattle.hose_outside.specs.OnDisk.{opening_of}
use Rattle.hose_outside.specs.Parts.{Tellings}
use Rattle.hose_outside.specs.steps.Journal.{ClosesJournal, OpensJournal}
use Rattle.hose_outside.proofs.Provided.{decided_provides}
use Rattle.hose_outside.proofs.Journals.{leaves_for, put_back}
use Rattle.hose_outside.proofs.PutBack.{IsPutBack, counts, held_as, left_as_kind}
use Rattle.hosed_host.specs.HostBook.{DoorTellings, HostsByJournal, HostsDoors, IsEndedFor, KeepsHosted, LeavesDoors, StandOnDisk, StaysUnhosted}
use Rattle.hosed_host.specs.HostDoors.{AreOpenedAt, DoorsAsked, StandbyPlace, is_required, may_be_alone}
use Rattle.hosed_host.specs.declared.hosting.HostEnd.{HostEnd}
use Rattle.hosed_host.specs.declared.hosting.NotHosted.{NotHosted}
use Rattle.hose_net.specs.declared.doors.Address.{Address}
use Rattle.hose_clerk.specs.declared.doors.DoorRule.{DoorRule}

module _ {I O C E : Type 0} (tells : Tellings I O C E) (name : List ℕ) (before mid after : C) (network : Network) (is : IsNetwork network) (store last : KeptStore E) (opens : OpensJournal tells.cabinet tells.disk IsDecidedAt name before mid network store) (closing : Result ⊤ Failed)
    (closes : ClosesJournal tells.cabinet tells.disk mid after last closing) where
  abbrev since : List Entry
  since = opens.opens.opened.history

  back : IsPutBack tells.cabinet tells.disk name before mid after opens.was closes.left
  back = put_back tells.cabinet tells.disk name before mid after network store IsDecidedAt opens last closing closes

  returned : (tells.cabinet.frame after).returned ≡ (tells.disk.frame closes.left).faults
  returned = ap (λ (f : CabinetFrame). f.returned) closes.back.call

  told_back : (was now : ℕ) (xs : List (Exchange HostLine HostReply)) → now ≤ (tells.disk.frame closes.left).faults → TellsDisks was xs now → TellsDisks 0 xs (tells.cabinet.frame after).returned
  told_back was now xs more (inl told) = inl (omega (arith, told, more, returned))
  told_back was now xs more (inr most) = inr (omega (arith, most, more, returned))

  -- lines were answered by the store that was opened, and it was closed
  pub keeps_made : (required : Bool) (state : HostState) (xs : List (Exchange HostLine HostReply)) (ended : Bool) → state.ended ≡ ended → AreHostSteps network required xs (host_from since) state → IsDecided network 0 (length since) state.history → IsPrefix since state.history
      → GoesOn (store_books tells.disk) (IsAskedOf required since xs) network since store state.history last → (was now : ℕ) → now ≤ (tells.disk.frame closes.left).faults → TellsDisks was xs now → KeepsHosted tells name before after network required since state.history xs ended closing
  keeps_made required state xs ended ends steps decided begins goes was now more told = record {
    begun = held_as tells.cabinet tells.disk name before mid after network opens.was closes.left back (IsHistoryOf network since) opens.opens.opened.read;
    begins = begins;
    state = state;
    leads = refl;
    steps = steps;
    ends = ends;
    decided = decided;
    told = told_back was now xs more told;
    met = counts tells.cabinet tells.disk name before mid after network opens.was closes.left back closing closes.call.told;
    left =
        let laws = opens.opens.lawful in
        left_as_kind tells.cabinet tells.disk name before mid after network opens.was closes.left back (IsAskedOf required since xs) since state.history closing
        (leaves_for tells.disk laws.counts_now laws.untold laws.only_now IsDecidedAt (IsAskedOf required since xs) network opens.was store opens.opens state.history last closes.left closing goes closes.closes);
    provides = decided_provides network is since state.history decided;
  }

  -- lines were answered by a clerk
  pub keeps_hosted : (required : Bool) (led after_all : LedState E) → led.store ≡ store → after_all.store ≡ last → (sessions : List Session) (ended : Bool) (tally : Tally) (by : LinkState) (xs : List (Exchange HostLine HostReply)) (link : Link) (hosted : HasHosted (led_books tells.disk) (IsLedOf tells.disk) required since led after_all sessions ended tally by xs link) → KeepsHosted tells name before after network required since hosted.hosted.state.history xs ended closing
  keeps_hosted required led after_all is_store is_last sessions ended tally by xs link hosted =
      let all = hosted.hosted in
      let same = ap (λ (kept : KeptStore E). kept.ledger.network) is_store ∙ opens.opens.opened.network in
      let run = led_goes_on tells.disk (IsAskedOf required since xs) led.store.ledger.network since led after_all all.state.history all.goes_on in
      let goes = subst (λ (kept : KeptStore E). GoesOn (store_books tells.disk) (IsAskedOf required since xs) network since kept all.state.history last) is_store
      (subst (λ (kept : KeptStore E). GoesOn (store_books tells.disk) (IsAskedOf required since xs) network since led.store all.state.history kept) is_last
      (subst (λ (n : Network). GoesOn (store_books tells.disk) (IsAskedOf required since xs) n since led.store all.state.history after_all.store) same run)) in
      keeps_made required all.state xs ended hosted.ends (subst (λ (n : Network). AreHostSteps n required xs (host_from since) all.state) same all.steps) (subst (λ (n : Network). IsDecided n 0 (length since) all.state.history) same all.decided) all.begins goes _ _ closes.call.met.stays.never_falls
      (subst (λ (kept : KeptStore E). TellsDisks (tells.disk.frame led.store.journal.disk).faults xs (tells.disk.frame kept.journal.disk).faults) is_last all.disks)

-- the journal was opened and closed, and no line was answered
pub stays_unhosted : {I O C E : Type 0} (tells : Tellings I O C E) (name : List ℕ) (before mid after : C) (network : Network) (is : IsNetwork network) (store : KeptStore E) (opens : OpensJournal tells.cabinet tells.disk IsDecidedAt name before mid network store) (closing : Result ⊤ Failed)
    → ClosesJournal tells.cabinet tells.disk mid after store closing → StaysUnhosted tells name before after network
stays_unhosted tells name before mid after network is store opens closing closes =
    let since = opens.opens.opened.history in
    let sound = subst (λ (n : Network). IsSound n 0 since) opens.opens.opened.network opens.opens.opened.has.sound in record {
      since = since;
      closing = closing;
      kept = keeps_made tells name before mid after network is store store opens closing closes false (host_from since) [] false refl refl (decided_end network 0 since sound) ([], append-nil since) none_yet 0 0 (omega arith) (inl (omega arith));
    }

-- no connection was let in
pub not_hosted : {I O C E D N : Type 0} (tells : Tellings I O C E) (by : DoorTellings D N E) (name : List ℕ) (asked : DoorsAsked) (before mid after : C) (network : Network) (is : IsNetwork network) (store : KeptStore E) (opens : OpensJournal tells.cabinet tells.disk IsDecidedAt name before mid network store) (closing : Result ⊤ Failed)
    → ClosesJournal tells.cabinet tells.disk mid after store closing → (was now : D) (why : NotHosted) → LeavesDoors by.doors asked was now why → HostsByJournal tells by name asked before after network was now (Err why)
not_hosted tells by name asked before mid after network is store opens closing closes was now why left = (stays_unhosted tells name before mid after network is store opens closing closes, left)

-- where nothing is being written
in_doubt : (network : Network) (history : List Entry) (doubt : Option Entry) (image : List ℕ) → IsAmid network history doubt None image → IsOrInDoubt network history doubt image
in_doubt network history doubt image (inl is) = inl is
in_doubt network history doubt image (inr (inl with)) = inr with
in_doubt network history doubt image (inr (inr none)) = absurd none

-- connections came to the doors, and lines were answered by a clerk that began with the store
module _ {I O C E D N : Type 0} (tells : Tellings I O C E) (by : DoorTellings D N E) (name : List ℕ) (asked : DoorsAsked) (before mid after : C) (network : Network) (is : IsNetwork network) (store last : KeptStore E) (opens : OpensJournal tells.cabinet tells.disk IsDecidedAt name before mid network store) (closing : Result ⊤ Failed)
    (closes : ClosesJournal tells.cabinet tells.disk mid after last closing) where
  abbrev beginning : List Entry
  beginning = opens.opens.opened.history

  same_network : (led : LedState E) → led.store ≡ store → led.store.ledger.network ≡ network
  same_network led is_store = ap (λ (kept : KeptStore E). kept.ledger.network) is_store ∙ opens.opens.opened.network

  -- a clerk that was made of a core over the store has answered nothing
  pub begun : (at_link : Bool → LinkState) (required given : Bool) → required ≡ given → (led : LedState E) → led.store ≡ store → IsLedOf tells.disk led network beginning
      → (first : LedState E) → first ≡ led → (clerk : LedState E) → clerk ≡ first → (sessions : List Session) (ended : Bool) (tally : Tally) → ended ≡ false → tally ≡ no_tally
      → ((since : List Entry) → IsSound first.store.ledger.network 0 since → HasBookOf 0 since first.store.ledger → IsLedOf tells.disk first first.store.ledger.network since
      → HasHosted (led_books tells.disk) (IsLedOf tells.disk) given since first first sessions false no_tally (at_link given) [] no_link)
      → HasHosted (led_books tells.disk) (IsLedOf tells.disk) required beginning clerk clerk sessions ended tally (at_link required) [] no_link
  begun at_link required given is_so led is_store is_led first same clerk is_clerk sessions ended tally is_ended none_counted none =
      let at : first.store ≡ store = ap (λ (one : LedState E). one.store) same ∙ is_store in
      let sound = subst (λ (kept : KeptStore E). IsSound kept.ledger.network 0 beginning) (sym at) opens.opens.opened.has.sound in
      let book = subst (λ (kept : KeptStore E). HasBookOf 0 beginning kept.ledger) (sym at) opens.opens.opened.has.book in
      let is_of = subst (λ (one : LedState E). IsLedOf tells.disk one first.store.ledger.network beginning) (sym same)
      (subst (λ (n : Network). IsLedOf tells.disk led n beginning) (sym (same_network first at)) is_led) in
      subst (λ (one : LedState E). HasHosted (led_books tells.disk) (IsLedOf tells.disk) required beginning one one sessions ended tally (at_link required) [] no_link) (sym is_clerk)
      (subst (λ (t : Tally). HasHosted (led_books tells.disk) (IsLedOf tells.disk) required beginning first first sessions ended t (at_link required) [] no_link) (sym none_counted)
      (subst (λ (e : Bool). HasHosted (led_books tells.disk) (IsLedOf tells.disk) required beginning first first sessions e no_tally (at_link required) [] no_link) (sym is_ended)
      (subst (λ (b : Bool). HasHosted (led_books tells.disk) (IsLedOf tells.disk) b beginning first first sessions false no_tally (at_link b) [] no_link) (sym is_so) (none beginning sound book is_of))))

  -- lines that were answered stand on the disk
  on_disk : (required : Bool) (led : LedState E) → led.store ≡ store → (xs : List (Exchange HostLine HostReply)) (kept : LedState E) → AreHosted (led_books tells.disk) led.store.ledger.network required beginning led kept xs → StandOnDisk tells.disk network required beginning xs kept
  on_disk required led is_store xs kept all =
      let same = same_network led is_store in
      let run = led_goes_on tells.disk (IsAskedOf required beginning xs) led.store.ledger.network beginning led kept all.state.history all.goes_on in
      let goes = subst (λ (first : KeptStore E). GoesOn (store_books tells.disk) (IsAskedOf required beginning xs) network beginning first all.state.history kept.store) is_store
      (subst (λ (n : Network). GoesOn (store_books tells.disk) (IsAskedOf required beginning xs) n beginning led.store all.state.history kept.store) same run) in
      let laws = opens.opens.lawful in
      let stands = opened_stands tells.disk (IsAskedOf required beginning xs) (tells.disk.may_leave opens.was) (opening_of tells.disk network beginning opens.was) opens.was store opens.opens.opened refl opens.opens.images opens.opens.stands.tells refl (laws.counts_now opens.was) (laws.untold store.journal.disk) (le_refl _) (laws.only_now opens.was) in
      let stood = run_stands tells.disk (IsAskedOf required beginning xs) (tells.disk.may_leave opens.was) (opening_of tells.disk network beginning opens.was) beginning store all.state.history kept.store stands goes in
      record {
        state = all.state;
        steps = subst (λ (n : Network). AreHostSteps n required xs (host_from beginning) all.state) same all.steps;
        doubt = stood.doubt;
        doubtful = stood.doubtful;
        now = λ image may. in_doubt network all.state.history stood.doubt image (subst (λ (n : Network). IsAmid n all.state.history stood.doubt None image) stood.network (stood.has.images image may));
      }

  -- what a clerk answers for at a network, which began with these books
  abbrev Clerks : Network → Option (List ℕ) → Bool → List DoorRule → LedState E → Terms N (LedState E) HostLine HostReply
  Clerks about path alone rules led = record {
    did = by.did;
    saw = by.saw;
    stands = λ xs kept. AreHosted (led_books tells.disk) led.store.ledger.network (not alone) beginning led kept xs;
    says = SaysAt about rules;
    text = host_text about;
    standby = path;
    may_be_alone = alone;
    leads = LeadsBy about (not alone) beginning;
    is_ahead = IsAheadBy about (not alone) beginning;
  }

  -- and for the standby that was asked for
  abbrev AskedOf : List DoorRule → LedState E → Terms N (LedState E) HostLine HostReply
  AskedOf rules led = Clerks network (option_map (λ (standby : StandbyPlace). standby.path) asked.standby) (may_be_alone asked.standby) rules led

  -- what lines and some link have come to
  abbrev HasCome : Bool → LedState E → LedState E → List Session → Bool → Tally → LinkState → List (Exchange HostLine HostReply) → Type 0
  HasCome required led left sessions ended tally at_link xs = (link : Link) × HasHosted (led_books tells.disk) (IsLedOf tells.disk) required beginning led left sessions ended tally at_link xs link

  -- the story of the connections is that of the network of the journal
  pub hosts_doors : (was between now : D) (one other : N) (end : HostEnd) (addresses : List Address) (rules : List DoorRule) (led left : LedState E) (sessions : List Session) (ended : Bool) (tally : Tally) (at_link : LinkState) (path : Option (List ℕ)) (alone : Bool)
      → led.store ≡ store → left.store ≡ last → path ≡ option_map (λ (standby : StandbyPlace). standby.path) asked.standby → alone ≡ may_be_alone asked.standby → AreOpenedAt asked addresses rules → IsEndedFor end.why ended
      → IsHosted (Clerks led.store.ledger.network path alone rules led) (HasCome (not alone) led left sessions ended tally at_link) end.why one other
      → by.doors.opens was addresses one between → by.doors.closes between other now → end.closing ≡ closing → end.book ≡ last.ledger → HostsDoors tells by name asked before after network was now end
  hosts_doors was between now one other end addresses rules led left sessions ended tally at_link path alone is_store is_last same_path same_alone as_asked ends hosted opened closed same_closing same_book =
      let come = made.comes_to.1 in
      let keeps = keeps_hosted tells name before mid after network is store last opens closing closes (is_required asked.standby) led left is_store is_last sessions ended tally at_link (exchanges made.story) made.comes_to.0 come in
      record {
        since = beginning;
        history = come.hosted.state.history;
        first = one;
        last = other;
        between = between;
        addresses = addresses;
        rules = rules;
        as_asked = as_asked;
        opened = opened;
        closed = closed;
        ended = ended;
        ends = ends;
        hosted = record {
          story = made.story;
          hosts = made.hosts;
          comes_to = subst (KeepsHosted tells name before after network (is_required asked.standby) beginning come.hosted.state.history (exchanges made.story) ended) (sym same_closing) keeps;
          settled = made.settled;
          parts = made.parts;
          alone = made.alone;
        };
        is = subst (IsLedgerOf network 0 come.hosted.state.history) (ap (λ (kept : KeptStore E). kept.ledger) is_last ∙ sym same_book) (record { is_network = come.network ∙ same_network led is_store; is_book = come.book });
      }
    where
      made : IsHosted (record (AskedOf rules led) { stands = StandOnDisk tells.disk network (is_required asked.standby) beginning }) (HasCome (is_required asked.standby) led left sessions ended tally at_link) end.why one other
      made = hosted_on (AskedOf rules led) one (StandOnDisk tells.disk network (is_required asked.standby) beginning) (HasCome (is_required asked.standby) led left sessions ended tally at_link) (HasCome (is_required asked.standby) led left sessions ended tally at_link) end.why (on_disk (is_required asked.standby) led is_store) (λ xs come. come) other (subst (λ (a : Bool). IsHosted (Clerks network (option_map (λ (standby : StandbyPlace). standby.path) asked.standby) a rules led) (HasCome (not a) led left sessions ended tally at_link) end.why one other) same_alone
          (subst (λ (p : Option (List ℕ)). IsHosted (Clerks network p alone rules led) (HasCome (not alone) led left sessions ended tally at_link) end.why one other) same_path
          (subst (λ (n : Network). IsHosted (Clerks n path alone rules led) (HasCome (not alone) led left sessions ended tally at_link) end.why one other) (same_network led is_store) hosted)))

-- whether the operator had ended a host
pub ended_for : (why : Parting) (ended : Bool) → (why ≡ parting.Asked → ended ≡ true) → (why ≡ parting.Told → ended ≡ false) → IsEndedFor why ended
ended_for parting.Asked ended asked told = asked refl
ended_for parting.Told ended asked told = told refl
ended_for parting.Late ended asked told = tt
ended_for (parting.Ahead count) ended asked told = tt

-- who awaits no standby goes on without one
pub alone_without : (awaited : Option StandbyAt) → path_at awaited ≡ None → goes_alone awaited ≡ true
alone_without None is = refl
alone_without (Some at) is = absurd (cc is)

-- what history such books are of goes on as entries are committed
pub led_grows : {E : Type 0} (disk : DiskGhosts E) → GrowsWith (led_books disk) (IsLedOf disk)
led_grows disk = λ network history old new entry result went is. went.grows network history is
