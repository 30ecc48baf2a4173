-- Exchanges along a pass.
use Rattle.std.proofs.Common.{◌≡◌, inl, inr, ℕ, ◌+◌, ◌<◌, ◌≤◌, false, List, [], drop, length, take, Option, None, Some, refl, sym, ap, subst, arith, append-nil, ◌∙◌}
use Rattle.std.proofs.lemmas.List.{length-take-le, take-append-drop}
use Rattle.std.proofs.lemmas.List.Elements.{All-nil, All-weaker}
use Rattle.hose_words.specs.declared.lines.Line.{Line}
use Rattle.hose_graph.specs.Network.{Network}
use Rattle.hose_graph.specs.declared.command.Command.{Command}
use Rattle.hose_graph.specs.declared.command.Reply.{Reply}
use Rattle.hose_graph.specs.declared.command.Reply.TheVariants.{Welcome, Disk, Memory, Bad, Long, Bye}
use Rattle.hose_book.specs.declared.books.Committed.TheVariants.{Disk as Failing}
use Rattle.hose_law.specs.Quotes.{Holding, none_held}
use Rattle.hose_law.specs.Script.{one_if_disk}
use Rattle.hose_law.specs.Transcript.{IsPlainReply, IsSessionStep, SessionLine, Stage}
use Rattle.hose_law.specs.Transcript.SessionLine.{Greets, Asks, IsBad, IsLong, Leaves, Unread}
use Rattle.hose_law.specs.Transcript.Stage.{Left, Serving, Waiting}
use Rattle.hose_law.specs.Transcript.Stage.{Refused as StageRefused}
use Rattle.hose_law.proofs.Fronts.{prefix_length}
use Rattle.hose_core.specs.declared.quotes.Quote.{Quote}
use Rattle.hose_core.specs.steps.Holding.{AreHeld}
use Rattle.hose_core.specs.steps.Stepping.{committed_of}
use Rattle.hose_shared.specs.steps.Along.{HasEntryAt, StepsAlong}
use Rattle.hose_shared.specs.steps.Providing.{Customer, Provides}
use Rattle.hose_shared.specs.steps.Sharing.{HasSeenMore, IsSamePass}
use Rattle.hose_turn.specs.declared.view.Tried.{Tried}
use Rattle.hose_turn.specs.Known.{Known}
use Rattle.hose_shared.specs.Trying.{IsTriedBy}
use Rattle.hose_session.specs.steps.Ending.{customer_of, over_at}
use Rattle.hose_session.specs.steps.Exchanges.{AnswersAt, IsAskedAt, IsAt, IsExchange, IsPhaseAt, Progress, ServesOn}
use Rattle.hose_greeting.specs.steps.Shown.{ShownSays}
use Rattle.hose_greeting.specs.SessionLines.{SaysFirst, SaysLater}
use Rattle.hose_session.specs.declared.phase.Phase.{Phase}
use Rattle.hose_session.specs.declared.phase.Phase.TheVariants as phase

-- a failure of the disk is told only where the pass has met more faults
told_faults : (old new : ℕ) (reply : Reply) → (committed_of reply ≡ Failing → old < new) → old ≤ new → old + one_if_disk reply ≤ new
told_faults old new (Disk epoch) failed more = omega (arith, failed refl)
told_faults old new reply failed more = omega (arith, more)

module _ (network : Network) (old new : Known) (customer : List ℕ) (held : Holding) (command : Command) (answer : Reply) (along : StepsAlong network customer held command answer old new) where
  within : along.next ≤ length new.seen
  within = elim along.step.moves [
    | inl stays ↦ omega (arith, stays.1, along.step.there)
    | inr goes ↦ omega (arith, goes.0, goes.2)
  ]

  -- what was tried there was asked for by the command
  asked_there : (one : Tried) → IsTriedBy network (take along.place new.seen) customer held command answer one → IsAskedAt network new.seen (length old.seen) (Serving customer held) (Asks command) answer one
  asked_there one by = record {
    customer = customer;
    held = held;
    command = command;
    serves = refl;
    asks = refl;
    before = take along.place new.seen;
    begins = (drop along.place new.seen, take-append-drop along.place new.seen);
    later = omega (arith, along.later, length-take-le along.place new.seen along.step.there);
    asked = by;
  }

  -- a command that is answered along a pass makes an exchange
  pub along_exchange : IsExchange network old new (Serving customer held) (Asks command) answer (Serving customer along.left)
  along_exchange = record {
    added = along.added;
    step = λ from seen. (along.next, within, (along.place, along.left, omega (arith, seen, along.later), along.step, refl));
    entries = along.entries;
    same = along.same;
    own = along.own;
    tries = along.tries;
    tried = along.tried;
    asked = All-weaker (IsTriedBy network (take along.place new.seen) customer held command answer) (IsAskedAt network new.seen (length old.seen) (Serving customer held) (Asks command) answer) asked_there along.tries along.asked;
    faults = told_faults old.faults new.faults answer along.failed along.same.faults;
  }

-- a command of a customer was answered by a shared book
pub provided_exchange : {network : Network} {old new : Customer} {customer : List ℕ} {command : Command} {answer : Reply} → Provides network old new customer command answer → (held : Holding) → AreHeld network 0 old.pass.seen held old.quotes
    → ServesOn network old.pass new.pass customer held (Asks command) answer new.quotes
provided_exchange {network} {old} {new} {customer} {command} {answer} provides held are =
    let steps = provides.steps held are in
    record { left = steps.along.left; exchange = along_exchange network old.pass new.pass customer held command answer steps.along; holds = steps.holds }

-- a line that has no place in the history
module _ (network : Network) (pass : Known) (same : IsSamePass pass pass) where
  pub plain_exchange : (stage next : Stage) (said : SessionLine) (reply : Reply) → IsPlainReply said reply
      → ((from : ℕ) → IsSessionStep network 0 pass.seen stage said reply next from from []) → IsExchange network pass pass stage said reply next
  plain_exchange stage next said reply plain step = record {
    added = [];
    step = λ from seen. (from, seen, step from);
    entries = All-nil (HasEntryAt network pass.seen);
    same = same;
    own = sym (append-nil pass.own);
    tries = [];
    tried = sym (append-nil pass.tried);
    asked = All-nil (IsAskedAt network pass.seen (length pass.seen) stage said reply);
    faults = omega (arith, no_disk said plain);
  }
    where
      no_disk : (said : SessionLine) → IsPlainReply said reply → one_if_disk reply ≡ 0
      no_disk (Greets name) plain = absurd plain
      no_disk (Asks command) plain = absurd plain
      no_disk Leaves plain = ap one_if_disk plain
      no_disk (IsBad word) plain = ap one_if_disk plain
      no_disk IsLong plain = ap one_if_disk plain
      no_disk Unread plain = ap one_if_disk plain

  module _ (customer : List ℕ) (quotes : List (Option Quote)) (held : Holding) (are : AreHeld network 0 pass.seen held quotes) where
    abbrev Serves : SessionLine → Reply → Type 0
    Serves said reply = ServesOn network pass pass customer held said reply quotes

    here : (said : SessionLine) (reply : Reply) → IsPlainReply said reply → ((from : ℕ) → IsSessionStep network 0 pass.seen (Serving customer held) said reply (Serving customer held) from from []) → Serves said reply
    here said reply plain step = record { left = held; exchange = plain_exchange (Serving customer held) (Serving customer held) said reply plain step; holds = are }

    pub bad_exchange : (word : ℕ) (reply : Reply) → reply ≡ Bad word → Serves (IsBad word) reply
    bad_exchange word reply is = here (IsBad word) reply is (λ from. (is, refl, refl, refl))

    pub long_exchange : Serves IsLong Long
    long_exchange = here IsLong Long refl (λ from. (refl, refl, refl, refl))

    pub memory_exchange : Serves Unread Memory
    memory_exchange = here Unread Memory refl (λ from. (refl, refl, refl, refl))

  pub bye_exchange : (customer : List ℕ) (held : Holding) → IsExchange network pass pass (Serving customer held) Leaves Bye Left
  bye_exchange customer held = plain_exchange (Serving customer held) Left Leaves Bye refl (λ from. (refl, refl, refl, refl))

  -- a first line that is no greeting
  pub refused_exchange : (said : SessionLine) (reply : Reply) → IsPlainReply said reply → IsExchange network pass pass Waiting said reply StageRefused
  refused_exchange (Greets name) reply plain = absurd plain
  refused_exchange (Asks command) reply plain = absurd plain
  refused_exchange Leaves reply plain = plain_exchange Waiting StageRefused Leaves reply plain (λ from. (plain, refl, refl, refl))
  refused_exchange (IsBad word) reply plain = plain_exchange Waiting StageRefused (IsBad word) reply plain (λ from. (plain, refl, refl, refl))
  refused_exchange IsLong reply plain = plain_exchange Waiting StageRefused IsLong reply plain (λ from. (plain, refl, refl, refl))
  refused_exchange Unread reply plain = plain_exchange Waiting StageRefused Unread reply plain (λ from. (plain, refl, refl, refl))

-- a greeting is answered at the end of what the pass has seen then
pub greeted_exchange : (network : Network) (old new : Known) (customer : List ℕ) (at : ℕ) → at ≡ length new.seen → HasSeenMore old new → IsExchange network old new Waiting (Greets customer) (Welcome at) (Serving customer none_held)
greeted_exchange network old new customer at is more = record {
  added = [];
  step = λ from seen. (length new.seen, omega arith, (omega (arith, seen, prefix_length old.seen new.seen more.same.seen), omega arith, ap Welcome (omega (arith, is)), refl, refl));
  entries = All-nil (HasEntryAt network new.seen);
  same = more.same;
  own = more.own ∙ sym (append-nil old.own);
  tries = [];
  tried = more.tried ∙ sym (append-nil old.tried);
  asked = All-nil (IsAskedAt network new.seen (length old.seen) Waiting (Greets customer) (Welcome at));
  faults = omega (arith, more.same.faults);
}

-- ---- what a line comes to

module _ (network : Network) (old new : Known) (line : Line) (reply : Reply) (quotes : List (Option Quote)) where
  -- a customer was served on
  pub served_at : (customer : List ℕ) (held : Holding) (said : SessionLine) → ShownSays (SaysLater network) line said → ServesOn network old new customer held said reply quotes
      → AnswersAt network old (record { pass = new; phase = phase.Serving customer; quotes = quotes }) (Serving customer held) line reply
  served_at customer held said says serves = record { said = said; next = Serving customer serves.left; says = says; exchange = serves.exchange; at = (serves.left, refl, serves.holds) }

  -- a customer was greeted
  pub greeted_at : (customer : List ℕ) → AreHeld network 0 new.seen none_held quotes → ShownSays SaysFirst line (Greets customer) → IsExchange network old new Waiting (Greets customer) reply (Serving customer none_held)
      → AnswersAt network old (record { pass = new; phase = phase.Serving customer; quotes = quotes }) Waiting line reply
  greeted_at customer none says exchange = record { said = Greets customer; next = Serving customer none_held; says = says; exchange = exchange; at = (none_held, refl, none) }

  -- a first line was refused
  pub refused_at : (said : SessionLine) → ShownSays SaysFirst line said → IsExchange network old new Waiting said reply StageRefused → AnswersAt network old (record { pass = new; phase = phase.Refused; quotes = quotes }) Waiting line reply
  refused_at said says exchange = record { said = said; next = StageRefused; says = says; exchange = exchange; at = refl }

  -- a customer left
  pub left_at : (customer : List ℕ) (held : Holding) → ShownSays (SaysLater network) line Leaves → IsExchange network old new (Serving customer held) Leaves reply Left
      → AnswersAt network old (record { pass = new; phase = phase.Left; quotes = quotes }) (Serving customer held) line reply
  left_at customer held says exchange = record { said = Leaves; next = Left; says = says; exchange = exchange; at = refl }

-- what was answered to a customer who is served was answered in that phase
pub in_phase : (network : Network) (old new : Known) (quotes : List (Option Quote)) (stage : Stage) (line : Line) (reply : Reply) (at : Phase) (customer : List ℕ) → at ≡ phase.Serving customer
    → AnswersAt network old (record { pass = new; phase = phase.Serving customer; quotes = quotes }) stage line reply → AnswersAt network old (record { pass = new; phase = at; quotes = quotes }) stage line reply
in_phase network old new quotes stage line reply at customer is answers = subst (λ (p : Phase). AnswersAt network old (record { pass = new; phase = p; quotes = quotes }) stage line reply) (sym is) answers

-- who is not over and serves nobody waits
pub waits : (at : Phase) → over_at at ≡ false → customer_of at ≡ None → at ≡ phase.Waiting
waits phase.Waiting goes none = refl
waits (phase.Serving customer) goes none = absurd (cc none)
waits phase.Refused goes none = absurd (cc goes)
waits phase.Left goes none = absurd (cc goes)

-- and who serves somebody serves just this customer
pub serves_him : (at : Phase) (customer : List ℕ) → customer_of at ≡ Some customer → at ≡ phase.Serving customer
serves_him phase.Waiting customer some = absurd (cc some)
serves_him (phase.Serving name) customer some = ap phase.Serving (same_name name customer some)
  where
    same_name : (one other : List ℕ) → Some one ≡ Some other → one ≡ other
    same_name one other is = cc is
serves_him phase.Refused customer some = absurd (cc some)
serves_him phase.Left customer some = absurd (cc some)

-- whoever serves a customer answers at each stage that the session may be at, if at that customer's
pub of_served : (network : Network) (pass : Known) (was : Phase) (quotes : List (Option Quote)) (new : Progress) (line : Line) (reply : Reply) (name : List ℕ) → was ≡ phase.Serving name → ((held : Holding) → AreHeld network 0 pass.seen held quotes → AnswersAt network pass new (Serving name held) line reply)
    → (stage : Stage) → IsAt network (record { pass = pass; phase = was; quotes = quotes }) stage → AnswersAt network pass new stage line reply
of_served network pass was quotes new line reply name is answers stage at =
    let here = subst (λ (p : Phase). IsPhaseAt network pass.seen p quotes stage) is at in
    subst (λ (s : Stage). AnswersAt network pass new s line reply) (sym here.1) (answers here.0 here.2)

-- and so does whoever greets, if while it waits
pub of_greeted : (network : Network) (pass : Known) (was : Phase) (quotes : List (Option Quote)) (new : Progress) (line : Line) (reply : Reply) → was ≡ phase.Waiting → AnswersAt network pass new Waiting line reply
    → (stage : Stage) → IsAt network (record { pass = pass; phase = was; quotes = quotes }) stage → AnswersAt network pass new stage line reply
of_greeted network pass was quotes new line reply is answers stage at =
    let here = subst (λ (p : Phase). IsPhaseAt network pass.seen p quotes stage) is at in
    subst (λ (s : Stage). AnswersAt network pass new s line reply) (sym here.0) answers
