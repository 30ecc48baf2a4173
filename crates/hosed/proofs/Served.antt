-- What a server stands for, from what was read, what was served and what was told.
use Rattle.std.proofs.Common.{◌≡◌, ◌≢◌, ◌∙◌, ◌⊎◌, inl, inr, ℕ, List, Some, IsErr, Result, Ok, Err, refl, sym, ap, subst}
use Rattle.std.specs.Prelude.{⊤}
use Rattle.hose_io.specs.Frame.{Frame, Met, Rose}
use Rattle.hose_io.specs.declared.Failed.{Failed}
use Rattle.hose_io.specs.declared.sink.Sink.{Ghosts as SinkGhosts}
use Rattle.hose_graph.specs.Network.{Network}
use Rattle.hose_graph.specs.declared.entry.Entry.{Entry}
use Rattle.hose_crew.specs.Crew.{AreServed}
use Rattle.hose_audit.specs.Audit.{audit_text}
use Rattle.hose_store.specs.Recovery.{IsHistoryOf}
use Rattle.hose_outside.specs.NamedOutcome.{Purpose}
use Rattle.hose_outside.specs.Reading.{PricedNames, ReadsTopology}
use Rattle.hose_outside.specs.Ending.{EndsTold, IsOut, NoneFailed}
use Rattle.hose_outside.specs.Fault.{last_line, status_of}
use Rattle.hose_outside.specs.steps.Journal.{TouchesOnly}
use Rattle.hose_outside.specs.OnDisk.{CabinetFailed, JournalIsTold}
use Rattle.hose_outside.specs.Parts.{Parts, Tellings, door_parts}
use Rattle.hose_outside.specs.Unopened.{OpensNoJournal}
use Rattle.hose_outside.specs.steps.Ending.{IsWhyAfter}
use Rattle.hose_outside.specs.steps.Failing.{FailsOpened}
use Rattle.hose_outside.specs.declared.why.Why.{Why}
use Rattle.hose_turn.specs.Known.{Known}
use Rattle.hose_outside.specs.declared.fault.Fault.{Fault}
use Rattle.hose_outside.specs.declared.fault.Fault.TheVariants.{Cabinet, Door, Memory, Write}
use Rattle.hose_outside.proofs.Named.{named_not_1, named_not_read, named_read, no_store, no_topology, told_status}
use Rattle.hose_outside.proofs.Outcomes.{clash}
use Rattle.hosed.specs.ServeOutcome.{EndsServed, IsServed, ServeOutcome, first_failed}
use Rattle.hosed.specs.ServerDoor.{DoorSeen, ServesByJournal, Speaks}
use Rattle.hosed.specs.steps.ServerDoor.{IsWhyServed, port_asked}
use Rattle.hosed.specs.declared.server.ServerEnd.{ServerEnd}
use Rattle.hosed.proofs.Connections.{served_before}

-- a fault after the opening is the door's or the cabinet's
failed_is : (accepting closing : Result ⊤ Failed) (why : Fault) → first_failed accepting closing ≡ Err why → (why ≡ Door) ⊎ (why ≡ Cabinet)
failed_is (Err failed) closing why is = inl (cc is)
failed_is (Ok done) (Err failed) why is = inr (cc is)
failed_is (Ok done) (Ok closed) why is = absurd (cc is)

-- nothing is told after an output that failed
pub ends_unwritten : {O : Type 0} (sink : SinkGhosts O) (output : O) (why : Fault) → why ≡ Write → EndsServed sink output output 4 (Err why)
ends_unwritten sink output why is = subst (λ (one : Fault). EndsServed sink output output 4 (Err one)) (sym is) (refl, refl)

-- another fault is told by its last line
pub ends_unserved : {O : Type 0} (sink : SinkGhosts O) (output output' : O) (status : ℕ) (why : Fault) → why ≢ Write → status ≡ status_of why → IsOut sink output output' (last_line why) → EndsServed sink output output' status (Err why)
ends_unserved sink output output' status Write never is out = absurd (never refl)
ends_unserved sink output output' status another never is out = (is, out)

-- a server that opened its store ends with one of these
served_status : {O : Type 0} (sink : SinkGhosts O) (port : ℕ) (output mid left : O) (was now : DoorSeen) (status : ℕ) (came : Result ServerEnd Fault) → Speaks sink port output mid was now came → EndsServed sink mid left status came → (other : ℕ) → other ≢ 0 → other ≢ 4 → other ≢ 6 → other ≢ 7 → other ≢ 9 → status ≢ other
served_status sink port output mid left was now status (Err Memory) speaks ends other no_0 no_4 no_6 no_7 no_9 is = no_7 (sym is ∙ ends.0)
served_status sink port output mid left was now status (Err Door) speaks ends other no_0 no_4 no_6 no_7 no_9 is = no_9 (sym is ∙ ends.0)
served_status sink port output mid left was now status (Err Write) speaks ends other no_0 no_4 no_6 no_7 no_9 is = no_4 (sym is ∙ ends.0)
served_status sink port output mid left was now status (Err another) speaks ends other no_0 no_4 no_6 no_7 no_9 is = absurd speaks
served_status sink port output mid left was now status (Ok end) speaks ends other no_0 no_4 no_6 no_7 no_9 is =
    told_status sink mid left status (first_failed end.accepting end.closing) (audit_text end.book.network end.book.book) ends other no_0 no_4
    (λ why fault same. by why (failed_is end.accepting end.closing why fault) same) is
  where
    by : (why : Fault) → (why ≡ Door) ⊎ (why ≡ Cabinet) → status_of why ≢ other
    by why (inl door) same = no_9 (sym same ∙ ap status_of door)
    by why (inr cabinet) same = no_6 (sym same ∙ ap status_of cabinet)

-- of the journal it is told that it failed where closing did
pub serving_fails : {I O C E : Type 0} (tells : Tellings I O C E) (name : List ℕ) (old new : C) (network : Network) (Along : Known → Result ⊤ Failed → Type 0) (port : ℕ) (output mid : O) (was now : DoorSeen) (came : Result ServerEnd Fault) → ServesByJournal tells name old new network Along came → Speaks tells.sink port output mid was now came
    → (why : Why) → IsWhyServed came why → FailsOpened tells.cabinet old new why
serving_fails tells name old new network Along port output mid was now (Ok end) serves speaks why is = by end.accepting end.closing serves.kept.met.failed is
  where
    by : (accepting closing : Result ⊤ Failed) → (IsErr closing → CabinetFailed tells.cabinet old new) → IsWhyAfter (first_failed accepting closing) why → FailsOpened tells.cabinet old new why
    by (Err failed) closing met is' = subst (FailsOpened tells.cabinet old new) (sym is') tt
    by (Ok done) (Err failed) met is' = subst (FailsOpened tells.cabinet old new) (sym is') (met refl)
    by (Ok done) (Ok closed) met (inl is') = subst (FailsOpened tells.cabinet old new) (sym is') tt
    by (Ok done) (Ok closed) met (inr is') = subst (FailsOpened tells.cabinet old new) (sym is') tt
serving_fails tells name old new network Along port output mid was now (Err Memory) serves speaks why is = subst (FailsOpened tells.cabinet old new) (sym is) tt
serving_fails tells name old new network Along port output mid was now (Err Door) serves speaks why is = subst (FailsOpened tells.cabinet old new) (sym is) tt
serving_fails tells name old new network Along port output mid was now (Err Write) serves speaks why is = subst (FailsOpened tells.cabinet old new) (sym is) tt
serving_fails tells name old new network Along port output mid was now (Err another) serves speaks why is = absurd speaks

module _ {I O C E : Type 0} (tells : Tellings I O C E) (names : PricedNames) (port connections : ℕ) (before after : Parts I O C) (was now : DoorSeen) where
  abbrev purpose : Purpose
  purpose = record {
    IsFulfilled = IsServed tells names.journal (port_asked port connections) (door_parts before was) (door_parts after now);
    Untouched = now ≡ was;
    OthersHeld = ¬ Rose was.frame now.frame;
  }

  -- the words are not what is wrong
  pub serve_not_1 : (status : ℕ) → ServeOutcome tells names (port_asked port connections) (door_parts before was) (door_parts after now) status → status ≢ 1
  serve_not_1 status outcome = named_not_1 tells names before after purpose outcome.left status
      (λ network told. served_status tells.sink port before.output told.mid after.output was now status told.came told.speaks told.ends 1 (λ e. absurd (cc e)) (λ e. absurd (cc e)) (λ e. absurd (cc e)) (λ e. absurd (cc e)) (λ e. absurd (cc e))) outcome.named.ends

  -- no topology was read
  pub no_topology_read : (why : Fault) (status : ℕ) → ReadsTopology tells.cabinet before.cabinet after.cabinet names.prices names.topology (Err why) → status ≡ status_of why → IsOut tells.sink before.output after.output (last_line why) → now ≡ was → after.input ≡ before.input
      → ServeOutcome tells names (port_asked port connections) (door_parts before was) (door_parts after now) status
  no_topology_read why status reads is out same_door same_input = named_not_read tells names before after purpose why status (no_topology tells names before after why reads) is out same_door same_input

  module _ (read : C) (network : Network) (status : ℕ) (reads : ReadsTopology tells.cabinet before.cabinet read names.prices names.topology (Ok network)) (alone : TouchesOnly tells.cabinet names.journal read after.cabinet)
      (same_input : after.input ≡ before.input) where
    -- no store was opened
    pub not_opened : (why : Fault) → OpensNoJournal tells.cabinet tells.disk names.journal read after.cabinet network (Err why) → status ≡ status_of why → IsOut tells.sink before.output after.output (last_line why) → now ≡ was → ServeOutcome tells names (port_asked port connections) (door_parts before was) (door_parts after now) status
    not_opened why not is out same_door = named_not_read tells names before after purpose why status (no_store tells names before after read network why reads alone not) is out same_door same_input

    abbrev Failing : Type 0
    Failing = NoneFailed tells before after (¬ Rose was.frame now.frame)

    abbrev Serves : Result ServerEnd Fault → Type 0
    Serves one = ServesByJournal tells names.journal before.cabinet after.cabinet network (AreServed was.told now.told connections) one

    -- one was
    pub is_served : (mid : O) (came : Result ServerEnd Fault) → ServesByJournal tells names.journal read after.cabinet network (AreServed was.told now.told connections) came → Speaks tells.sink port before.output mid was now came → EndsServed tells.sink mid after.output status came
        → ServeOutcome tells names (port_asked port connections) (door_parts before was) (door_parts after now) status
    is_served mid came after_read speaks ends =
        named_read tells names before after purpose read network status reads alone same_input (record { mid = mid; came = came; serves = serves; speaks = speaks; ends = ends })
        (served_status tells.sink port before.output mid after.output was now status came speaks ends 8 (λ e. absurd (cc e)) (λ e. absurd (cc e)) (λ e. absurd (cc e)) (λ e. absurd (cc e)) (λ e. absurd (cc e)))
        (λ told held. completes came held serves speaks ends) (λ told held. refuses came held told serves speaks ends)
      where
        serves : Serves came
        serves = served_before tells before.cabinet read after.cabinet reads.only_texts reads.text.1 names.journal network _ came after_read

        ended : (accepting closing : Result ⊤ Failed) (text : List ℕ) → Failing → Met was.frame now.frame accepting → (IsErr closing → CabinetFailed tells.cabinet before.cabinet after.cabinet) → tells.sink.frame mid ≡ tells.sink.frame before.output
            → EndsTold tells.sink mid after.output status (first_failed accepting closing) text → (status ≡ 0) ⊎ (status ≡ 7)
        ended (Err failed) closing text held met closes same out = absurd (held.others (met.failed refl))
        ended (Ok done) (Err failed) text held met closes same out = absurd (held.keeping_it (closes refl))
        ended (Ok done) (Ok closed) text held met closes same (inl whole) = inl whole.0
        ended (Ok done) (Ok closed) text held met closes same (inr part) = absurd (held.writing (subst (λ (f : Frame). Rose f (tells.sink.frame after.output)) same part.1))

        completes : (one : Result ServerEnd Fault) → Failing → Serves one → Speaks tells.sink port before.output mid was now one → EndsServed tells.sink mid after.output status one → (status ≡ 0) ⊎ (status ≡ 7)
        completes (Ok end) held kept says out = ended end.accepting end.closing (audit_text end.book.network end.book.book) held says.0 kept.kept.met.failed says.3 out
        completes (Err Memory) held is says out = inr out.0
        completes (Err Door) held is says out = absurd (held.others says.3)
        completes (Err Write) held is says out = absurd (held.writing (subst (λ (o : O). Rose (tells.sink.frame before.output) (tells.sink.frame o)) (sym out.1) says.2))
        completes (Err another) held is says out = absurd says

        refuses : (one : Result ServerEnd Fault) → Failing → JournalIsTold tells.cabinet tells.disk before.cabinet (Some names.journal) (λ bytes. (history : List Entry) → ¬ IsHistoryOf network history bytes)
            → Serves one → Speaks tells.sink port before.output mid was now one → EndsServed tells.sink mid after.output status one → (status ≡ 5) ⊎ (status ≡ 7)
        refuses (Ok end) held told kept says out = absurd (clash tells.cabinet tells.disk before.cabinet after.cabinet names.journal _ _ (λ image is none. none kept.pass.origin.since is) kept.kept.begun told)
        refuses (Err Memory) held told is says out = inr out.0
        refuses (Err Door) held told is says out = absurd (held.others says.3)
        refuses (Err Write) held told is says out = absurd (held.writing (subst (λ (o : O). Rose (tells.sink.frame before.output) (tells.sink.frame o)) (sym out.1) says.2))
        refuses (Err another) held told is says out = absurd says
