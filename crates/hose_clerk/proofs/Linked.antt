-- What the link to a standby has come to, as it goes on.
use Rattle.std.proofs.Common.{◌≡◌, ◌∙◌, ℕ, ◌<◌, Bool, true, false, List, [], ◌++◌, None, Option, Some, take, refl, ap, arith, subst, sym}
use Rattle.std.specs.Prelude.{IfSome}
use Rattle.hose_net.specs.Happening.{Gave, Opened, Took}
use Rattle.hose_net.specs.Story.{Link, link_after, link_took, new_link}
use Rattle.hose_graph.specs.Network.{Network}
use Rattle.hose_graph.specs.declared.entry.Entry.{Entry}
use Rattle.hose_book.specs.declared.books.Books.{Ghosts}
use Rattle.hose_lead.specs.Leading.{Leads}
use Rattle.hose_lead.specs.steps.Standby.{IsLed, StandbyState}
use Rattle.hose_lead.specs.declared.stage.Ending.TheVariants.{Ahead}
use Rattle.hose_lead.specs.declared.stage.Stage.TheVariants.{Ended}
use Rattle.hose_lead.proofs.Leadings.{led_ahead, led_leads, sent_leads}
use Rattle.hose_law.proofs.Epochs.{epoch_is}
use Rattle.hose_clerk.specs.Hosting.{IsAheadBy, LeadsAt, LeadsBy}
use Rattle.hose_clerk.specs.declared.fence.Fence.{Fence}
use Rattle.hose_clerk.specs.declared.fence.Mark.{Mark}
use Rattle.hose_clerk.specs.declared.sessions.Session.{Session}
use Rattle.hose_clerk.specs.declared.tally.Tally.{Tally}
use Rattle.hose_clerk.specs.steps.Answering.{HasHosted}
use Rattle.hose_clerk.specs.steps.Linking.{AreMarks, ClearsBy, IsMark, IsOrdered, LinkState, MarksBy, PassesAt}
use Rattle.hose_clerk.proofs.Hosted.{Answered}
use Rattle.hose_clerk.proofs.Marks.{by_entries, by_none, by_passed, mark_now, mark_took, marks_clear, marks_none, marks_set, marks_weaker, ordered_gave, ordered_new, ordered_took}

-- a link leads its standby, of which nothing needs to be heard
leads_none : (network : Network) (list : List Entry) (given sent : List ℕ) (heard : Option ℕ) → Leads network list given sent heard → Leads network list given sent None
leads_none network list given sent heard leads = record {
  lines = leads.lines;
  whole = leads.whole;
  packets = leads.packets;
  unsent = leads.unsent;
  handed = leads.handed;
  are = leads.are;
  has = tt;
}

module _ {K R : Type 0} (books : Ghosts K R) (is_of : K → Network → List Entry → Type 0) (required : Bool) (since : List Entry) (first now : K) (sessions : List Session) (ended : Bool) (tally : Tally) (old : LinkState) (xs : List Answered) (before : Link)
    (was : HasHosted books is_of required since first now sessions ended tally old xs before) where
  abbrev network : Network
  network = (books.ledger first).network

  -- what marks are at a link that was sent so much
  abbrev Is : (ℕ → List ℕ) → Mark → Type 0
  Is early = IsMark network required since xs was.hosted.state early

  -- something happened at the link
  pub relinked : (new : LinkState) (after : Link) → IsLed network was.hosted.state.history after.given after.sent new.standby → new.required ≡ old.required → after.answered ≡ before.answered → IsOrdered after → AreMarks (Is after.early) new.fence
      → HasHosted books is_of required since first now sessions ended tally new xs after
  relinked new after led same answered ordered marks = record {
    hosted = was.hosted;
    book = was.book;
    network = was.network;
    sits = was.sits;
    ends = was.ends;
    counted = was.counted;
    history = was.history;
    led = led;
    requires = same ∙ was.requires;
    answered = answered ∙ was.answered;
    ordered = ordered;
    marks = marks;
  }

  -- it was opened anew
  pub reopened : (path : List ℕ) (new : LinkState) → IsLed network was.hosted.state.history [] [] new.standby → new.required ≡ old.required → new.fence.mark ≡ None → new.fence.passed ≡ None
      → HasHosted books is_of required since first now sessions ended tally new xs (link_after before (Opened path))
  reopened path new led same no_mark none_passed =
      relinked new (new_link before.answered) led same refl (ordered_new before.answered) (marks_none (Is (new_link before.answered).early) new.fence no_mark none_passed)

  -- it was sent bytes
  pub resent : (bytes : List ℕ) (new : LinkState) → IsLed network was.hosted.state.history before.given (before.sent ++ bytes) new.standby → new.required ≡ old.required → new.fence ≡ old.fence
      → HasHosted books is_of required since first now sessions ended tally new xs (link_after before (Took bytes))
  resent bytes new led same fence =
      relinked new (link_took before bytes) led same refl (ordered_took before bytes was.ordered)
      (subst (AreMarks (Is (link_took before bytes).early)) (sym fence)
      (marks_weaker (Is before.early) (Is (link_took before bytes).early) (mark_took network required since xs was.hosted.state before bytes was.answered) old.fence was.marks))

  -- a mark that is made now
  pub marked : (mark : Mark) → mark.lines ≡ tally.lines → mark.entries ≡ (books.ledger now).book.epoch → mark.packets ≡ old.standby.handed → Is before.early mark
  marked mark lines entries packets =
      let counted = ap (λ (t : Tally). t.lines) was.counted in
      let stands = epoch_is (books.ledger now).book was.hosted.state.history was.book in
      mark_now network required since xs was.hosted.state before old.standby mark was.hosted.steps was.answered was.ordered was.led (counted ∙ sym lines) (omega (arith, stands, entries)) packets

  -- what is to be sent was gathered, behind a mark or none
  pub gathered : (mark : Mark) (standby : StandbyState) (fence : Fence) → IsLed network was.hosted.state.history before.given before.sent standby → MarksBy mark old.fence fence
      → mark.lines ≡ tally.lines → mark.entries ≡ (books.ledger now).book.epoch → mark.packets ≡ old.standby.handed → HasHosted books is_of required since first now sessions ended tally (record old { standby = standby; fence = fence }) xs before
  gathered mark standby fence led set lines entries packets =
      relinked (record old { standby = standby; fence = fence }) before led refl refl was.ordered (marks_set (Is before.early) mark old.fence fence set (marked mark lines entries packets) was.marks)

  -- it gave bytes, by which a mark may be passed
  pub given_more : (bytes : List ℕ) (standby : StandbyState) (fence : Fence) → IsLed network was.hosted.state.history (before.given ++ bytes) before.sent standby → ClearsBy old.fence fence
      → HasHosted books is_of required since first now sessions ended tally (record old { standby = standby; fence = fence }) xs (link_after before (Gave bytes))
  given_more bytes standby fence led clears =
      relinked (record old { standby = standby; fence = fence }) (link_after before (Gave bytes)) led refl refl (ordered_gave before bytes was.ordered) (marks_clear (Is before.early) old.fence fence clears was.marks)

  -- what is heard by the link
  at_entries : LeadsAt network required since xs before old.standby.heard
  at_entries = (was.hosted.state, was.hosted.steps, led_leads network was.hosted.state.history before.given before.sent old.standby was.led)

  -- how many entries, where the standby is not required
  pub heard_by : (told : Option ℕ) → old.required ≡ false → told ≡ old.standby.heard → IfSome told (λ many. LeadsBy network required since xs before (Some many))
  heard_by None free is = tt
  heard_by (Some many) free is = by_entries network since xs was.hosted.state before required (Some many) (sym was.requires ∙ free)
      (subst (λ (heard : Option ℕ). LeadsAt network required since xs before heard) (sym is) at_entries)

  -- and behind how many lines, where it is
  pub passed_by : (told : Option ℕ) (answered : ℕ) (heard : Option ℕ) → old.required ≡ true → answered ≡ old.standby.answered → heard ≡ old.standby.heard → IfSome told (PassesAt old.fence answered heard)
      → IfSome told (λ many. LeadsBy network required since xs before (Some many))
  passed_by told answered heard must same_answered same_heard passes =
      by_passed network since xs was.hosted.state before required old.standby old.fence told (sym was.requires ∙ must) was.led was.marks
      (subst (λ (n : ℕ). IfSome told (PassesAt old.fence n old.standby.heard)) same_answered (subst (λ (h : Option ℕ). IfSome told (PassesAt old.fence answered h)) same_heard passes))

  -- and where more is sent of what is to be sent
  pub sends_by : (many : ℕ) → LeadsBy network required since xs (link_after before (Took (take many old.standby.unsent))) None
  sends_by many =
      let after = link_took before (take many old.standby.unsent) in
      by_none network since xs was.hosted.state after required
      (was.hosted.state, was.hosted.steps, leads_none network was.hosted.state.history after.given after.sent old.standby.heard (sent_leads network was.hosted.state.history before.given before.sent old.standby many was.led))

  -- the standby told that it has more entries than the book
  pub ahead_by : (count : ℕ) → old.standby.stage ≡ Ended (Ahead count) → (books.ledger now).book.epoch < count → IsAheadBy network required since xs before count
  ahead_by count is more = (
    was.hosted.state,
    was.hosted.steps,
    led_ahead network was.hosted.state.history before.given before.sent old.standby count was.led is
        (subst (λ (epoch : ℕ). epoch < count) (epoch_is (books.ledger now).book was.hosted.state.history was.book) more),
  )
