-- What stands at the end of a cut, told of what was before and after it.
use Rattle.std.proofs.Common.{◌≡◌, ◌≢◌, ◌∙◌, ◌⊎◌, inl, inr, ℕ, ◌<◌, ◌≤◌, List, Option, Result, Ok, Err, length, take, refl, sym, ap, subst, arith}
use Rattle.std.proofs.lemmas.Bool.{cases_lt}
use Rattle.std.proofs.lemmas.List.{length-take}
use Rattle.hose_io.specs.Frame.{Rose}
use Rattle.hose_graph.specs.Network.{Network}
use Rattle.hose_graph.specs.declared.entry.Entry.{Entry}
use Rattle.hose_journal.specs.Image.{Meaning}
use Rattle.hose_move.specs.declared.fault.MoveFault.{MoveFault}
use Rattle.hose_move.specs.declared.fault.MoveFault.TheVariants as moving
use Rattle.hose_law.specs.History.{IsSound}
use Rattle.hose_move.specs.declared.stating.Scope.TheVariants.{First}
use Rattle.hose_store.specs.Recovery.{IsHistoryOf, IsRecoveredAs}
use Rattle.hose_outside.specs.Reading.{ReadsTopology}
use Rattle.hose_outside.specs.CabinetText.{whole_text}
use Rattle.hose_copying.specs.CutOutcome.{CutNames, CutsNamed, HadHistory, HadLess, IsCut, IsCuttable, cut_journals}
use Rattle.hose_outside.specs.Fault.{status_of}
use Rattle.hose_copying.specs.MoveEnd.{EndsMoved, moved_done}
use Rattle.hose_outside.specs.MoveStop.{stop_status}
use Rattle.hose_copying.specs.MoveOutcome.{CanTake, IsOnlyRead}
use Rattle.hose_copying.specs.Moving.{MovesApart}
use Rattle.hose_outside.specs.OnDisk.{CabinetFailed, HadContent}
use Rattle.hose_outside.specs.Parts.{Parts, Tellings}
use Rattle.hose_outside.specs.TopologyTold.{TellsPriced, notation_of}
use Rattle.hose_outside.specs.declared.fault.Fault.{Fault}
use Rattle.hose_outside.specs.declared.fault.Fault.TheVariants as fault
use Rattle.hose_outside.specs.declared.move_stop.MoveStop.{MoveStop}
use Rattle.hose_outside.specs.declared.move_stop.MoveStop.TheVariants as stop
use Rattle.hose_copying.specs.declared.move_end.Moved.{Moved}
use Rattle.hose_copying.proofs.MoveComplete.{after_texts, apart_ends, ends_so, rose_out}
use Rattle.hose_copying.proofs.MoveEnds.{apart_not_1, done_status}
use Rattle.hose_outside.proofs.Outcomes.{topology_not_1, of_read}
use Rattle.hose_copying.proofs.MoveWhole.{entered, has_same, kept_apart, others_apart, read_between, read_same, same_next, same_texts, stop_not_0, tells_all, was_stated}

-- ---- the status of less

not_15 : (why : Fault) → status_of why ≡ 15 → ⊥
not_15 (fault.Words word) less = omega (arith, less)
not_15 another less = omega (arith, less)

moved_not_less : (entries found : ℕ) (moved : Result ℕ MoveFault) → Err (stop.Less entries) ≡ moved_done found moved → ⊥
moved_not_less entries found (Ok live) same = cc same
moved_not_less entries found (Err (moving.Store why)) same = cc same
moved_not_less entries found (Err (moving.Differs epoch)) same = cc same
moved_not_less entries found (Err (moving.Unsound epoch)) same = cc same
moved_not_less entries found (Err moving.Disk) same = cc same
moved_not_less entries found (Err moving.Memory) same = cc same

-- ---- the first entries

as_many : (count : ℕ) (history : List Entry) → count ≤ length (take count history) → count ≤ length history
as_many count history few = omega (arith, few, length-take count history)

fewer : (count : ℕ) (history : List Entry) → ¬ (count ≤ length (take count history)) → length history < count
fewer count history few = at (cases_lt (length history) count)
  where
    at : (length history < count) ⊎ (count ≤ length history) → length history < count
    at (inl less) = less
    at (inr more) = absurd (few (omega (arith, more, length-take count history)))

module _ {I O C E : Type 0} (tells : Tellings I O C E) (names : CutNames) (before after : Parts I O C) where
  -- ---- what was told of the old journal

  stood : (network : Network) (c1 : C) → ReadsTopology tells.cabinet before.cabinet c1 names.of.prices names.of.topology (Ok network) → (history : List Entry)
      → HadContent tells.cabinet tells.disk c1 names.of.journal (IsHistoryOf network history) → IsSound network 0 history → HadHistory tells.cabinet tells.disk names before.cabinet network history
  stood network c1 reads history had sound = record {
    told = tells_all (whole_text tells.cabinet before.cabinet names.of.topology) reads.left reads.taken (λ bytes. TellsPriced (notation_of names.of.topology) names.of.prices bytes network) reads.gives reads.text.2;
    had = has_same tells.cabinet tells.disk names.of.journal before.cabinet c1 _ (same_texts tells.cabinet tells.disk names.of.journal before.cabinet c1 reads.only_texts) had;
    sound = sound;
  }

  -- ---- all was cut off

  cut_named : (done : Moved) → CutsNamed tells names before after (Ok done) → IsCut tells.cabinet tells.disk names before.cabinet after.cabinet
  cut_named done (inl (why, same, reads, out)) = absurd (cc same)
  cut_named done (inr (network, c1, reads, moves)) =
      let has = entered tells (cut_journals names) (record before { cabinet = c1 }) after network network done moves in
      record {
        network = network;
        history = has.history;
        stood = stood network c1 reads has.history has.had has.sound;
        enough = as_many names.count has.history has.enough;
        images = has.images;
      }

  pub cut_whole : (done : Result Moved MoveStop) (was now : O) (status : ℕ) → CutsNamed tells names before after done → EndsMoved tells.sink was now status done → status ≡ 0 → IsCut tells.cabinet tells.disk names before.cabinet after.cabinet
  cut_whole (Ok done) was now status cuts ends is_0 = cut_named done cuts
  cut_whole (Err why) was now status cuts ends is_0 = absurd (stop_not_0 why (sym ends.0 ∙ is_0))

  -- ---- there were fewer

  less_apart : (entries : ℕ) (network : Network) (c1 : C) → ReadsTopology tells.cabinet before.cabinet c1 names.of.prices names.of.topology (Ok network)
      → MovesApart tells (cut_journals names) (record before { cabinet = c1 }) after network network (Err (stop.Less entries)) → HadLess tells.cabinet tells.disk names before.cabinet
  less_apart entries network c1 reads (inl (same, none, out)) = absurd (cc same)
  less_apart entries network c1 reads (inr (c2, seen, inl (why, same, not, out))) = absurd (cc same)
  less_apart entries network c1 reads (inr (c2, seen, inr (stated, c4, inl (same, none), enters))) = absurd (cc same)
  less_apart entries network c1 reads (inr (c2, seen, inr (stated, c4, inr (c3, looked, inl (same, none)), enters))) = absurd (cc same)
  less_apart entries network c1 reads (inr (c2, seen, inr (stated, c4, inr (c3, looked, inr (read, same, lent)), inl (few, same', out, held)))) =
      let was = was_stated tells.cabinet tells.disk names.of.journal (First names.count) c3 c4 network stated read same lent in
      let here = same_next tells.cabinet tells.disk names.of.journal c1 c2 c3 (same_texts tells.cabinet tells.disk names.of.journal c1 c2 seen.only_texts) (same_texts tells.cabinet tells.disk names.of.journal c2 c3 looked.only_texts) in
      record {
        network = network;
        history = was.history;
        stood = stood network c1 reads was.history (has_same tells.cabinet tells.disk names.of.journal c1 c3 _ here was.had) was.sound;
        less = fewer names.count was.history (subst (λ (es : List Entry). ¬ (names.count ≤ length es)) was.entries few);
      }
  less_apart entries network c1 reads (inr (c2, seen, inr (stated, c4, lends, inr (enough, inl (same', rose, part, held))))) = absurd (cc same')
  less_apart entries network c1 reads (inr (c2, seen, inr (stated, c4, lends, inr (enough, inr (out, worked, inl (same', none)))))) = absurd (cc same')
  less_apart entries network c1 reads (inr (c2, seen, inr (stated, c4, lends, inr (enough, inr (out, worked, inr (moved, same', lent')))))) = absurd (moved_not_less entries _ moved same')

  less_named : (why : MoveStop) → stop_status why ≡ 15 → CutsNamed tells names before after (Err why) → HadLess tells.cabinet tells.disk names before.cabinet
  less_named (stop.Old why) is cuts = absurd (not_15 why is)
  less_named (stop.New why) is cuts = absurd (not_15 why is)
  less_named (stop.Node node) is cuts = absurd (omega (arith, is))
  less_named (stop.Link link) is cuts = absurd (omega (arith, is))
  less_named (stop.Unsound epoch) is cuts = absurd (omega (arith, is))
  less_named (stop.Differs epoch) is cuts = absurd (omega (arith, is))
  less_named (stop.Less entries) is (inl (why, same, reads, out)) = absurd (cc same)
  less_named (stop.Less entries) is (inr (network, c1, reads, moves)) = less_apart entries network c1 reads moves

  pub cut_less : (done : Result Moved MoveStop) (was now : O) (status : ℕ) → CutsNamed tells names before after done → EndsMoved tells.sink was now status done → status ≡ 15 → HadLess tells.cabinet tells.disk names before.cabinet
  cut_less (Ok done) was now status cuts (inl whole) is = absurd (omega (arith, whole.0, is))
  cut_less (Ok done) was now status cuts (inr part) is = absurd (omega (arith, part.0, is))
  cut_less (Err why) was now status cuts ends is = less_named why (sym ends.0 ∙ is) cuts

  -- ---- the disks

  pub cut_kept : (done : Result Moved MoveStop) → CutsNamed tells names before after done → IsOnlyRead tells.cabinet tells.disk names.of.journal before.cabinet after.cabinet
  cut_kept done (inl (why, same, reads, out)) = read_same tells.cabinet tells.disk names.of.journal before.cabinet after.cabinet (same_texts tells.cabinet tells.disk names.of.journal before.cabinet after.cabinet reads.only_texts)
  cut_kept done (inr (network, c1, reads, moves)) =
      read_between tells.cabinet tells.disk names.of.journal before.cabinet c1 after.cabinet after.cabinet (same_texts tells.cabinet tells.disk names.of.journal before.cabinet c1 reads.only_texts)
      (kept_apart tells (cut_journals names) (record before { cabinet = c1 }) after network network done moves) (record { held = refl; tells = refl })

  pub cut_others : (name : List ℕ) → name ≢ names.of.journal → name ≢ names.new → (done : Result Moved MoveStop) → CutsNamed tells names before after done → tells.cabinet.held after.cabinet name ≡ tells.cabinet.held before.cabinet name
  cut_others name not_old not_new done (inl (why, same, reads, out)) = ap (λ (held : List ℕ → Option E). held name) reads.only_texts.disks
  cut_others name not_old not_new done (inr (network, c1, reads, moves)) =
      others_apart tells (cut_journals names) (record before { cabinet = c1 }) after network network name not_old not_new done moves ∙ ap (λ (held : List ℕ → Option E). held name) reads.only_texts.disks

  -- ---- the status

  pub cut_not_1 : (done : Result Moved MoveStop) → CutsNamed tells names before after done → done_status done ≡ 1 → ⊥
  cut_not_1 done (inl (why, same, reads, out)) one = topology_not_1 tells.cabinet before.cabinet after.cabinet names.of.prices names.of.topology why reads (sym (ap done_status same) ∙ one)
  cut_not_1 done (inr (network, c1, reads, moves)) one = apart_not_1 tells (cut_journals names) (record before { cabinet = c1 }) after network network done moves one

  pub cut_complete : (now : O) (network : Network) (c1 : C) (done : Result Moved MoveStop) (status : ℕ) → ((image : List ℕ) (one two : Meaning Entry) → IsRecoveredAs network image one → IsRecoveredAs network image two → one ≡ two)
      → ReadsTopology tells.cabinet before.cabinet c1 names.of.prices names.of.topology (Ok network) → MovesApart tells (cut_journals names) (record before { cabinet = c1 }) after network network done → EndsMoved tells.sink after.output now status done
      → IsCuttable tells.cabinet tells.disk names before.cabinet → ¬ Rose (tells.sink.frame before.output) (tells.sink.frame now) → ¬ CabinetFailed tells.cabinet before.cabinet after.cabinet → (status ≡ 0) ⊎ (status ≡ 7)
  cut_complete now network c1 done status one reads moves ends cuttable not_put none =
      ends_so tells before after now done status ends
      (apart_ends tells (cut_journals names) before.cabinet (record before { cabinet = c1 }) after network network one cuttable.apart reads.only_texts.stays
      (λ name Is told. after_texts tells.cabinet tells.disk name before.cabinet c1 Is reads.only_texts told)
      (λ rose. not_put (rose_out tells before after now done status ends rose)) none
      (of_read (notation_of names.of.topology) names.of.prices _ _ reads.taken network (λ network. CanTake tells.cabinet tells.disk (cut_journals names) before.cabinet network network) reads.gives reads.text.2 cuttable.takes)
      done moves)
      not_put
