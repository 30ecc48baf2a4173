-- What a host comes to, from what was read, what was hosted and what was told.
use Rattle.std.proofs.Common.{◌≡◌, ◌≢◌, ◌∙◌, ◌⊎◌, inl, inr, ℕ, List, [], Bool, false, Some, IsErr, Result, Ok, Err, refl, sym, subst}
use Rattle.std.specs.Prelude.{IfErr, ⊤}
use Rattle.hose_io.specs.Frame.{Frame, Met, Rose}
use Rattle.hose_io.specs.declared.Failed.{Failed}
use Rattle.hose_io.specs.declared.sink.Sink.{Ghosts as SinkGhosts}
use Rattle.hose_net.specs.Story.{Exchange, exchanges}
use Rattle.hose_graph.specs.Network.{Network}
use Rattle.hose_graph.specs.declared.entry.Entry.{Entry}
use Rattle.hose_clerk.specs.HostLines.{HostLine}
use Rattle.hose_clerk.specs.declared.replies.HostReply.{HostReply}
use Rattle.hose_audit.specs.Audit.{audit_text}
use Rattle.hose_disk.specs.Cabinet.{object_of}
use Rattle.hose_disk.specs.declared.cabinet.Cabinet.{Ghosts as CabinetGhosts}
use Rattle.hose_store.specs.Recovery.{IsHistoryOf}
use Rattle.hose_outside.specs.NamedOutcome.{Purpose}
use Rattle.hose_outside.specs.Reading.{PricedNames, ReadsTopology}
use Rattle.hose_outside.specs.CabinetText.{OnlyTextsRead}
use Rattle.hose_outside.specs.Ending.{EndsTold, IsOut, NoneFailed}
use Rattle.hose_outside.specs.Fault.{last_line, status_of}
use Rattle.hose_outside.specs.steps.Journal.{TouchesOnly}
use Rattle.hose_outside.specs.OnDisk.{CabinetFailed, CabinetWorked, JournalIsTold, OthersStay}
use Rattle.hose_outside.specs.Parts.{Parts, Tellings, door_parts}
use Rattle.hose_outside.specs.declared.fault.Fault.{Fault}
use Rattle.hose_outside.specs.declared.fault.Fault.TheVariants as fault
use Rattle.hose_outside.specs.declared.why.Why.{Why}
use Rattle.hose_outside.specs.declared.why.Why.TheVariants.{Stopped}
use Rattle.hose_outside.specs.steps.Ending.{IsWhyAfter}
use Rattle.hose_outside.proofs.Named.{named_not_1, named_not_read, named_read, no_store, no_topology}
use Rattle.hose_outside.proofs.TextsRead.{has_before, held_before}
use Rattle.hose_outside.proofs.Failing.{fails_then}
use Rattle.hose_outside.proofs.Outcomes.{clash}
use Rattle.hosed_host.specs.HostBook.{Announces, DoorTellings, EndsBy, EndsHosted, HostsByJournal, KeepsHosted, LeavesDoors}
use Rattle.hosed_host.specs.HostDoors.{DoorsAsked, is_required}
use Rattle.hosed_host.specs.HostOutcome.{FailsHost, HostOutcome, HostsConnections}
use Rattle.hosed_host.specs.steps.HostOutcome.{FailsHosting, HostsJournal, IsWhyOf, MayEnd, closed_as}
use Rattle.hosed_host.specs.declared.why.HostWhy.{HostWhy}
use Rattle.hosed_host.specs.declared.why.HostWhy.TheVariants as reason
use Rattle.hose_net.specs.declared.doors.Doors.{Ghosts as DoorsGhosts}
use Rattle.hose_net.specs.declared.hold.Parting.{Parting}
use Rattle.hose_net.specs.declared.hold.Parting.TheVariants as parting
use Rattle.hosed_host.specs.declared.hosting.HostEnd.{HostEnd}
use Rattle.hosed_host.specs.declared.hosting.NotHosted.{NotHosted}
use Rattle.hosed_host.specs.declared.hosting.NotHosted.TheVariants as none

-- ---- statuses

-- a host that opened its store ends with one of these
hosted_status : {O : Type 0} (sink : SinkGhosts O) (output left : O) (status : ℕ) (came : Result HostEnd NotHosted) → EndsHosted sink output left status came → (other : ℕ) → other ≢ 0 → other ≢ 4 → other ≢ 6 → other ≢ 7 → other ≢ 9 → other ≢ 16 → other ≢ 17 → status ≢ other
hosted_status sink output left status (Err none.Memory) ends other no_0 no_4 no_6 no_7 no_9 no_16 no_17 is = no_7 (sym is ∙ ends.0)
hosted_status sink output left status (Err (none.Door word trouble)) ends other no_0 no_4 no_6 no_7 no_9 no_16 no_17 is = no_9 (sym is ∙ ends.0)
hosted_status sink output left status (Err none.Write) ends other no_0 no_4 no_6 no_7 no_9 no_16 no_17 is = no_4 (sym is ∙ ends.0)
hosted_status sink output left status (Ok end) ends other no_0 no_4 no_6 no_7 no_9 no_16 no_17 is = by end.why end.closing ends
  where
    by : (why : Parting) (closing : Result ⊤ Failed) → EndsBy sink output left status (audit_text end.book.network end.book.book) why closing → ⊥
    by parting.Asked (Ok done) (inl whole) = no_0 (sym is ∙ whole.0)
    by parting.Asked (Ok done) (inr part) = no_4 (sym is ∙ part.0)
    by parting.Asked (Err failed) out = no_6 (sym is ∙ out.0)
    by parting.Told closing out = no_9 (sym is ∙ out.0)
    by parting.Late closing out = no_16 (sym is ∙ out.0)
    by (parting.Ahead count) closing out = no_17 (sym is ∙ out.0)

-- ---- the file and the door that are told

module _ (end : HostEnd) where
  -- a host that was asked to end tells of the journal that it failed where closing did
  pub asked_may : (closing : Result ⊤ Failed) (done : Result ⊤ Fault) → closing ≡ end.closing → done ≡ closed_as closing → (why : Why) → IsWhyAfter done why → MayEnd (Ok end) why
  asked_may (Ok closed) done same is why told = by why (subst (λ (d : Result ⊤ Fault). IsWhyAfter d why) is told)
    where
      by : (one : Why) → IsWhyAfter {T = ⊤} (Ok tt) one → MayEnd (Ok end) one
      by one (inl done') = subst (MayEnd (Ok end)) (sym done') tt
      by one (inr failed) = subst (MayEnd (Ok end)) (sym failed) tt
  asked_may (Err failed) done same is why told =
      subst (MayEnd (Ok end)) (sym (subst (λ (d : Result ⊤ Fault). IsWhyAfter d why) is told)) (end, refl, subst (λ (r : Result ⊤ Failed). IsErr r) same refl)

-- so what is told of it is so, and of a door
pub hosting_fails : {C E D N : Type 0} (cabinet : CabinetGhosts C E) (doors : DoorsGhosts D N) (asked : DoorsAsked) (old new : C) (was now : D) (came : Result HostEnd NotHosted) → ((end : HostEnd) → came ≡ Ok end → IsErr end.closing → CabinetFailed cabinet old new) → IfErr came (LeavesDoors doors asked was now) → (result : HostWhy) → IsWhyOf came result
    → FailsHosting cabinet doors asked (old, was) (new, now) result
hosting_fails cabinet doors asked old new was now came closes left (reason.Ended (Stopped fault.Text)) is = absurd is
hosting_fails cabinet doors asked old new was now came closes left (reason.Ended (Stopped fault.Cabinet)) (end, same, failed) = closes end same failed
hosting_fails cabinet doors asked old new was now came closes left (reason.Ended (Stopped other)) is = tt
hosting_fails cabinet doors asked old new was now came closes left (reason.Ended other) is = tt
hosting_fails cabinet doors asked old new was now came closes left (reason.Door word trouble) is = subst (λ (one : Result HostEnd NotHosted). IfErr one (LeavesDoors doors asked was now)) is left
hosting_fails cabinet doors asked old new was now came closes left reason.StandbyGone is = tt
hosting_fails cabinet doors asked old new was now came closes left (reason.StandbyAhead count) is = tt

-- and of its text, where no topology was read of it
pub host_fails : {I O C E D N : Type 0} (tells : Tellings I O C E) (by : DoorTellings D N E) (names : PricedNames) (asked : DoorsAsked) (before after : Parts I O C) (was now : D) (read : C) (network : Network) → ReadsTopology tells.cabinet before.cabinet read names.prices names.topology (Ok network) → OthersStay tells.cabinet names.journal read after.cabinet → (result : HostWhy)
    → FailsHosting tells.cabinet by.doors asked (read, was) (after.cabinet, now) result → FailsHost tells by names asked (door_parts before was) (door_parts after now) result
host_fails tells by names asked before after was now read network reads others (reason.Ended other) fails = fails_then tells names before after read network reads others other fails
host_fails tells by names asked before after was now read network reads others (reason.Door word trouble) fails = fails
host_fails tells by names asked before after was now read network reads others reason.StandbyGone fails = tt
host_fails tells by names asked before after was now read network reads others (reason.StandbyAhead count) fails = tt

-- ---- the last line

-- a host that was asked to end ends by what closing came to
pub ends_asked : {O : Type 0} (sink : SinkGhosts O) (was now : O) (status : ℕ) (text : List ℕ) (closing : Result ⊤ Failed) (done : Result ⊤ Fault) → done ≡ closed_as closing → EndsTold sink was now status done text → EndsBy sink was now status text parting.Asked closing
ends_asked sink was now status text (Ok closed) done is told = subst (λ (d : Result ⊤ Fault). EndsTold sink was now status d text) is told
ends_asked sink was now status text (Err failed) done is told = subst (λ (d : Result ⊤ Fault). EndsTold sink was now status d text) is told

-- ---- where texts alone were read before, and no call of the cabinet failed

module _ {I O C E D N : Type 0} (tells : Tellings I O C E) (by : DoorTellings D N E) (name : List ℕ) (asked : DoorsAsked) (old mid new : C) (only : OnlyTextsRead tells.cabinet old mid) (same : CabinetWorked tells.cabinet old mid) (network : Network) where
  keeps_before : (required : Bool) (since history : List Entry) (made : List (Exchange HostLine HostReply)) (ended : Bool) (closing : Result ⊤ Failed) → KeepsHosted tells name mid new network required since history made ended closing → KeepsHosted tells name old new network required since history made ended closing
  keeps_before required since history made ended closing has = record {
    begun = held_before tells.cabinet tells.disk old mid new only name _ has.begun;
    begins = has.begins;
    state = has.state;
    leads = has.leads;
    steps = has.steps;
    ends = has.ends;
    decided = has.decided;
    told = has.told;
    met = subst (λ (f : Frame). Met f (object_of (tells.cabinet.frame new)) closing) same has.met;
    left = has_before tells.cabinet tells.disk old mid new only name _ has.left;
    provides = has.provides;
  }

  hosts_before : (was now : D) (came : Result HostEnd NotHosted) → HostsByJournal tells by name asked mid new network was now came → HostsByJournal tells by name asked old new network was now came
  hosts_before was now (Ok end) hosts = record {
    since = hosts.since;
    history = hosts.history;
    first = hosts.first;
    last = hosts.last;
    between = hosts.between;
    addresses = hosts.addresses;
    rules = hosts.rules;
    as_asked = hosts.as_asked;
    opened = hosts.opened;
    closed = hosts.closed;
    ended = hosts.ended;
    ends = hosts.ends;
    hosted = record {
      story = hosts.hosted.story;
      hosts = hosts.hosted.hosts;
      comes_to = keeps_before (is_required asked.standby) hosts.since hosts.history (exchanges hosts.hosted.story) hosts.ended end.closing hosts.hosted.comes_to;
      settled = hosts.hosted.settled;
      parts = hosts.hosted.parts;
      alone = hosts.hosted.alone;
    };
    is = hosts.is;
  }
  hosts_before was now (Err why) (stays, left) = (record { since = stays.since; closing = stays.closing; kept = keeps_before false stays.since stays.since [] false stays.closing stays.kept }, left)

module _ {I O C E D N : Type 0} (tells : Tellings I O C E) (by : DoorTellings D N E) (names : PricedNames) (asked : DoorsAsked) (before after : Parts I O C) (was now : D) where
  -- what a host is for
  abbrev purpose : ℕ → Purpose
  purpose status = record {
    IsFulfilled = HostsConnections tells by names.journal asked (door_parts before was) (door_parts after now);
    Untouched = now ≡ was;
    OthersHeld = (status ≢ 9) × (status ≢ 16) × (status ≢ 17);
  }

  -- the words are not what is wrong
  pub host_not_1 : (status : ℕ) → HostOutcome tells by names asked (door_parts before was) (door_parts after now) status → status ≢ 1
  host_not_1 status outcome = named_not_1 tells names before after (purpose status) outcome.left status
      (λ network told. hosted_status tells.sink told.mid after.output status told.came told.ends 1 (λ e. absurd (cc e)) (λ e. absurd (cc e)) (λ e. absurd (cc e)) (λ e. absurd (cc e)) (λ e. absurd (cc e)) (λ e. absurd (cc e)) (λ e. absurd (cc e))) outcome.named.ends

  -- no topology was read
  pub no_topology_read : (why : Fault) (status : ℕ) → ReadsTopology tells.cabinet before.cabinet after.cabinet names.prices names.topology (Err why) → status ≡ status_of why → IsOut tells.sink before.output after.output (last_line why) → now ≡ was → after.input ≡ before.input
      → HostOutcome tells by names asked (door_parts before was) (door_parts after now) status
  no_topology_read why status reads is out same_doors same_input = named_not_read tells names before after (purpose status) why status (no_topology tells names before after why reads) is out same_doors same_input

  module _ (read : C) (network : Network) (status : ℕ) (reads : ReadsTopology tells.cabinet before.cabinet read names.prices names.topology (Ok network)) (alone : TouchesOnly tells.cabinet names.journal read after.cabinet)
      (same_input : after.input ≡ before.input) where
    abbrev Failing : Type 0
    Failing = NoneFailed tells before after ((status ≢ 9) × (status ≢ 16) × (status ≢ 17))

    abbrev Hosts : Result HostEnd NotHosted → Type 0
    Hosts one = HostsByJournal tells by names.journal asked before.cabinet after.cabinet network was now one

    hosted_ends : (mid : O) (why : Parting) (closing : Result ⊤ Failed) (text : List ℕ) → Failing → (IsErr closing → CabinetFailed tells.cabinet before.cabinet after.cabinet) → tells.sink.frame mid ≡ tells.sink.frame before.output
        → EndsBy tells.sink mid after.output status text why closing → (status ≡ 0) ⊎ (status ≡ 7)
    hosted_ends mid parting.Told closing text held closes same out = absurd (held.others.0 out.0)
    hosted_ends mid parting.Late closing text held closes same out = absurd (held.others.1 out.0)
    hosted_ends mid (parting.Ahead count) closing text held closes same out = absurd (held.others.2 out.0)
    hosted_ends mid parting.Asked (Err failed) text held closes same out = absurd (held.keeping_it (closes refl))
    hosted_ends mid parting.Asked (Ok closed) text held closes same (inl whole) = inl whole.0
    hosted_ends mid parting.Asked (Ok closed) text held closes same (inr part) = absurd (held.writing (subst (λ (f : Frame). Rose f (tells.sink.frame after.output)) same part.1))

    completes : (mid : O) (one : Result HostEnd NotHosted) → Failing → Hosts one → Announces tells.sink before.output mid one → EndsHosted tells.sink mid after.output status one → (status ≡ 0) ⊎ (status ≡ 7)
    completes mid (Ok end) held kept says out = hosted_ends mid end.why end.closing (audit_text end.book.network end.book.book) held kept.hosted.comes_to.met.failed says.1 out
    completes mid (Err none.Memory) held is says out = inr out.0
    completes mid (Err (none.Door word trouble)) held is says out = absurd (held.others.0 out.0)
    completes mid (Err none.Write) held is says out = absurd (held.writing (subst (λ (o : O). Rose (tells.sink.frame before.output) (tells.sink.frame o)) (sym out.1) says.1))

    refuses : (mid : O) (one : Result HostEnd NotHosted) → Failing → JournalIsTold tells.cabinet tells.disk before.cabinet (Some names.journal) (λ bytes. (history : List Entry) → ¬ IsHistoryOf network history bytes)
        → Hosts one → Announces tells.sink before.output mid one → EndsHosted tells.sink mid after.output status one → (status ≡ 5) ⊎ (status ≡ 7)
    refuses mid (Ok end) held told kept says out = absurd (clash tells.cabinet tells.disk before.cabinet after.cabinet names.journal _ _ (λ image is none. none kept.since is) kept.hosted.comes_to.begun told)
    refuses mid (Err none.Memory) held told is says out = inr out.0
    refuses mid (Err (none.Door word trouble)) held told is says out = absurd (held.others.0 out.0)
    refuses mid (Err none.Write) held told is says out = absurd (held.writing (subst (λ (o : O). Rose (tells.sink.frame before.output) (tells.sink.frame o)) (sym out.1) says.1))

    -- a journal was used, or not
    pub is_hosted : HostsJournal tells by names.journal asked (door_parts (record before { cabinet = read }) was) (door_parts after now) status network → HostOutcome tells by names asked (door_parts before was) (door_parts after now) status
    is_hosted (inr (why, is, not, out, same_doors)) = named_not_read tells names before after (purpose status) why status (no_store tells names before after read network why reads alone not) is out same_doors same_input
    is_hosted (inl told) =
        named_read tells names before after (purpose status) read network status reads alone same_input
        (record { mid = told.mid; came = told.came; hosts = hosts; announces = told.announces; ends = told.ends })
        (hosted_status tells.sink told.mid after.output status told.came told.ends 8 (λ e. absurd (cc e)) (λ e. absurd (cc e)) (λ e. absurd (cc e)) (λ e. absurd (cc e)) (λ e. absurd (cc e)) (λ e. absurd (cc e)) (λ e. absurd (cc e)))
        (λ journal held. completes told.mid told.came held hosts told.announces told.ends)
        (λ journal held. refuses told.mid told.came held journal hosts told.announces told.ends)
      where
        hosts : Hosts told.came
        hosts = hosts_before tells by names.journal asked before.cabinet read after.cabinet reads.only_texts reads.text.1 network was now told.came told.hosts
