-- Marks of a link to a standby, as lines are answered and bytes are sent.
use Rattle.std.proofs.Common.{◌≡◌, ◌∙◌, inl, inr, ℕ, ◌+◌, ◌≤◌, Bool, true, false, List, [], ◌∷◌, ◌++◌, Option, None, Some, length, refl, sym, ap, subst, arith, append_assoc, append-nil, length-append, lt-ltb, le-ltb}
use Rattle.std.specs.Prelude.{IfSome, if◌then◌else◌}
use Rattle.hose_net.specs.Happening.{Gave}
use Rattle.hose_net.specs.Story.{Exchange, Link, link_after, link_answered, link_took, new_link, no_link}
use Rattle.hose_graph.specs.Network.{Network}
use Rattle.hose_graph.specs.declared.entry.Entry.{Entry}
use Rattle.hose_law.proofs.Entries.{next_epoch}
use Rattle.hose_book.specs.Ledger.{Ledger}
use Rattle.hose_core.specs.steps.Stepping.{IsSameOrNext}
use Rattle.hose_lead.specs.Leading.{Leads}
use Rattle.hose_lead.specs.steps.Standby.{IsLed, StandbyState}
use Rattle.hose_lead.proofs.Growing.{handed_at}
use Rattle.hose_lead.proofs.Leadings.{led_leads}
use Rattle.hose_clerk.specs.HostLines.{HostLine}
use Rattle.hose_clerk.specs.Hosting.{AreHostSteps, HostState, IsHostStep, LeadsAt, LeadsBy, host_from, needed}
use Rattle.hose_clerk.specs.declared.fence.Fence.{Fence}
use Rattle.hose_clerk.specs.declared.fence.Mark.{Mark}
use Rattle.hose_clerk.specs.declared.replies.HostReply.{HostReply}
use Rattle.hose_clerk.specs.steps.Linking.{AreMarks, ClearsBy, IsMark, IsOrdered, IsPassed, MarksBy, PassesAt, needed_of}

-- ---- the marks of a fence

module _ (Is : Mark → Type 0) where
  abbrev May : Option Mark → Type 0
  May mark = IfSome mark Is

  pub marks_none : (fence : Fence) → fence.mark ≡ None → fence.passed ≡ None → AreMarks Is fence
  marks_none fence one other = (subst May (sym one) tt, subst May (sym other) tt)

  same_marks : (old new : Fence) → new.mark ≡ old.mark → new.passed ≡ old.passed → AreMarks Is old → AreMarks Is new
  same_marks old new one other are = (subst May (sym one) are.0, subst May (sym other) are.1)

  pub marks_set : (mark : Mark) (old new : Fence) → MarksBy mark old new → Is mark → AreMarks Is old → AreMarks Is new
  marks_set mark old new (inl is) mine are = (subst May (sym is.0) mine, subst May (sym is.1) are.1)
  marks_set mark old new (inr is) mine are = same_marks old new is.0 is.1 are

  pub marks_clear : (old new : Fence) → ClearsBy old new → AreMarks Is old → AreMarks Is new
  marks_clear old new (inl is) are = (subst May (sym is.0) tt, subst May (sym is.1) are.0)
  marks_clear old new (inr is) are = same_marks old new is.0 is.1 are

module _ (One Other : Mark → Type 0) (weaker : (mark : Mark) → One mark → Other mark) where
  may_weaker : (mark : Option Mark) → IfSome mark One → IfSome mark Other
  may_weaker None is = tt
  may_weaker (Some mark) is = weaker mark is

  pub marks_weaker : (fence : Fence) → AreMarks One fence → AreMarks Other fence
  marks_weaker fence are = (may_weaker fence.mark are.0, may_weaker fence.passed are.1)

-- ---- what a link was sent before

-- what was sent while few lines were answered stays so
early_stays : (link : Link) (bytes : List ℕ) (many : ℕ) → many ≤ link.answered → (link_took link bytes).early many ≡ link.early many
early_stays link bytes many few = ap (λ (b : Bool). if b then link.early many ++ bytes else link.early many) (le-ltb link.answered many few)

pub ordered_none : IsOrdered no_link
ordered_none = record { ahead = λ many more. refl; rest = []; now = refl }

pub ordered_new : (answered : ℕ) → IsOrdered (new_link answered)
ordered_new answered = record { ahead = λ many more. refl; rest = []; now = refl }

pub ordered_gave : (link : Link) (bytes : List ℕ) → IsOrdered link → IsOrdered (link_after link (Gave bytes))
ordered_gave link bytes is = record { ahead = is.ahead; rest = is.rest; now = is.now }

pub ordered_took : (link : Link) (bytes : List ℕ) → IsOrdered link → IsOrdered (link_took link bytes)
ordered_took link bytes is = record {
  ahead = λ many more. ap (λ (b : Bool). if b then link.early many ++ bytes else link.early many) (lt-ltb link.answered many more) ∙ ap (λ (l : List ℕ). l ++ bytes) (is.ahead many more);
  rest = is.rest ++ bytes;
  now = ap (λ (l : List ℕ). l ++ (is.rest ++ bytes)) (early_stays link bytes link.answered (omega arith))
      ∙ sym (append_assoc (link.early link.answered) is.rest bytes)
      ∙ ap (λ (l : List ℕ). l ++ bytes) is.now;
}

pub ordered_answered : (link : Link) → IsOrdered link → IsOrdered (link_answered link)
ordered_answered link is = record {
  ahead = λ many more. is.ahead many (omega (arith, more));
  rest = [];
  now = append-nil (link.early (link.answered + 1)) ∙ is.ahead (link.answered + 1) (omega arith);
}

-- ---- how much a reply needs

entries_rise : (old new : Ledger) → IsSameOrNext old new → old.book.epoch ≤ new.book.epoch
entries_rise old new (inl same) =
    let is = ap (λ (l : Ledger). l.book.epoch) same in
    omega (arith, is)
entries_rise old new (inr next) =
    let is = ap (λ (l : Ledger). l.book.epoch) next.1 in
    omega (arith, is, next_epoch old.book next.0)

pub needed_rises : (required : Bool) (lines after : ℕ) (old new : Ledger) → lines ≤ after → IsSameOrNext old new → needed_of required lines old.book.epoch ≤ needed_of required after new.book.epoch
needed_rises true lines after old new more goes = more
needed_rises false lines after old new more goes = entries_rise old new goes

-- what is counted is what is to be heard where a host is
pub needed_is : (required : Bool) (state : HostState) (lines entries : ℕ) → state.tally.lines ≡ lines → length state.history ≡ entries → needed_of required lines entries ≡ needed required state
needed_is true state lines entries one other = sym one
needed_is false state lines entries one other = sym other

-- ---- one mark

-- one line more is answered
pub steps_push : (network : Network) (required : Bool) (xs : List (Exchange HostLine HostReply)) (x : Exchange HostLine HostReply) (first middle last : HostState)
    → AreHostSteps network required xs first middle → IsHostStep network required x middle last → AreHostSteps network required (xs ++ x ∷ []) first last
steps_push network required [] x first middle last steps step = (last, subst (λ (state : HostState). IsHostStep network required x state last) steps step, refl)
steps_push network required (one ∷ xs) x first middle last steps step = (steps.0, steps.1, steps_push network required xs x steps.0 middle last steps.2 step)

module _ (network : Network) (required : Bool) (since : List Entry) (xs : List (Exchange HostLine HostReply)) (state : HostState) where
  pub mark_took : (link : Link) (bytes : List ℕ) → link.answered ≡ length xs → (mark : Mark) → IsMark network required since xs state link.early mark → IsMark network required since xs state (link_took link bytes).early mark
  mark_took link bytes answered mark is =
      let few : length is.earlier ≤ link.answered = omega (arith, answered, ap (λ (l : List (Exchange HostLine HostReply)). length l) is.split, length-append is.earlier is.later) in
      record {
        earlier = is.earlier;
        later = is.later;
        split = is.split;
        past = is.past;
        before = is.before;
        after = is.after;
        lines = is.lines;
        had = is.had;
        told = is.told;
        begun = is.begun;
        are = is.are;
        rest = is.rest;
        within = ap (λ (l : List ℕ). l ++ is.rest) (early_stays link bytes (length is.earlier) few) ∙ is.within;
        numbered = is.numbered;
      }

  pub mark_more : (early : ℕ → List ℕ) (x : Exchange HostLine HostReply) (next : HostState) → IsHostStep network required x state next → (mark : Mark)
      → IsMark network required since xs state early mark → IsMark network required since (xs ++ x ∷ []) next early mark
  mark_more early x next step mark is = record {
    earlier = is.earlier;
    later = is.later ++ x ∷ [];
    split = ap (λ (l : List (Exchange HostLine HostReply)). l ++ x ∷ []) is.split ∙ append_assoc is.earlier is.later (x ∷ []);
    past = is.past;
    before = is.before;
    after = steps_push network required is.later x is.past state next is.after step;
    lines = is.lines;
    had = is.had;
    told = is.told;
    begun = is.begun;
    are = is.are;
    rest = is.rest;
    within = is.within;
    numbered = is.numbered;
  }

  -- a mark is made now
  pub mark_now : (link : Link) (standby : StandbyState) (mark : Mark) → AreHostSteps network required xs (host_from since) state → link.answered ≡ length xs → IsOrdered link → IsLed network state.history link.given link.sent standby
      → state.tally.lines ≡ mark.lines → length state.history ≤ mark.entries → mark.packets ≡ standby.handed → IsMark network required since xs state link.early mark
  mark_now link standby mark steps answered ordered led lines had packets = record {
    earlier = xs;
    later = [];
    split = sym (append-nil xs);
    past = state;
    before = steps;
    after = refl;
    lines = lines;
    had = had;
    told = led.lines;
    begun = led.packets;
    are = handed_at network state.history led.lines led.packets standby.heard standby.stage led.at;
    rest = ordered.rest ++ standby.unsent;
    within = ap (λ (n : ℕ). link.early n ++ (ordered.rest ++ standby.unsent)) (sym answered)
        ∙ sym (append_assoc (link.early link.answered) ordered.rest standby.unsent)
        ∙ ap (λ (l : List ℕ). l ++ standby.unsent) ordered.now
        ∙ led.handed;
    numbered = λ few. omega (arith, packets, led.numbered (omega (arith, few, packets)));
  }

-- ---- what is heard

module _ (network : Network) (since : List Entry) (xs : List (Exchange HostLine HostReply)) (state : HostState) (link : Link) where
  pub by_none : (required : Bool) → LeadsAt network required since xs link None → LeadsBy network required since xs link None
  by_none true leads = leads
  by_none false leads = leads

  pub by_entries : (required : Bool) (heard : Option ℕ) → required ≡ false → LeadsAt network required since xs link heard → LeadsBy network required since xs link heard
  by_entries true heard is leads = absurd (cc is)
  by_entries false heard is leads = leads

  -- a mark that the standby has passed
  pub by_mark : (required : Bool) (standby : StandbyState) (mark : Mark) → required ≡ true → IsLed network state.history link.given link.sent standby → IsMark network required since xs state link.early mark
      → IsPassed mark standby.answered standby.heard → LeadsBy network required since xs link (Some mark.lines)
  by_mark false standby mark is led made passed = absurd (cc is)
  by_mark true standby mark is led made passed = record {
    earlier = made.earlier;
    later = made.later;
    split = made.split;
    past = made.past;
    state = state;
    before = made.before;
    after = made.after;
    count = passed.count;
    leads = subst (λ (heard : Option ℕ). Leads network state.history link.given link.sent heard) passed.hears (led_leads network state.history link.given link.sent standby led);
    lines = made.lines;
    had = omega (arith, made.had, passed.entries);
    behind = record {
      told = made.told;
      first = made.begun;
      are = made.are;
      rest = made.rest;
      within = made.within;
      lines = led.lines;
      whole = record { rest = led.rest; cut = led.cut; plain = led.plain };
      more = omega (arith, made.numbered passed.few, passed.packets, led.counted);
    };
  }

  -- and the last one that it has passed
  pub by_passed : (required : Bool) (standby : StandbyState) (fence : Fence) (told : Option ℕ) → required ≡ true → IsLed network state.history link.given link.sent standby
      → AreMarks (IsMark network required since xs state link.early) fence → IfSome told (PassesAt fence standby.answered standby.heard) → IfSome told (λ many. LeadsBy network required since xs link (Some many))
  by_passed required standby fence None is led made passes = tt
  by_passed required standby fence (Some many) is led made passes =
      let mine = subst (λ (mark : Option Mark). IfSome mark (IsMark network required since xs state link.early)) passes.is made.1 in
      subst (λ (lines : ℕ). LeadsBy network required since xs link (Some lines)) passes.lines_of (by_mark required standby passes.mark is led mine passes.passed)
