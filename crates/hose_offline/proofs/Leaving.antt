-- What a run leaves, by what answering its lines comes to.
use Rattle.std.proofs.Common.{◌≡◌, ◌∙◌, ℕ, List, [], ◌++◌, MutBor, Option, Some, None, Result, Ok, Err, inl, inr, refl, sym, ap, subst}
use Rattle.std.specs.Prelude.{⊤}
use Rattle.hose_io.specs.steps.Borrowed.{borrowed}
use Rattle.hose_io.specs.declared.Failed.{Failed}
use Rattle.hose_io.specs.declared.source.Source.{Ghosts}
use Rattle.hose_io.specs.declared.sink.Sink.{Ghosts as SinkGhosts}
use Rattle.hose_words.specs.steps.Lines.{Reader}
use Rattle.hose_words.specs.Reading.{WhereTold}
use Rattle.hose_words.specs.steps.Reading.{ReadsOn}
use Rattle.hose_graph.specs.Network.{Network, IsNetwork}
use Rattle.hose_disk.specs.declared.cabinet.Cabinet.{Ghosts as CabinetGhosts}
use Rattle.hose_disk.specs.declared.disk.Disk.{Ghosts as DiskGhosts}
use Rattle.hose_store.specs.steps.Commit.{store_books}
use Rattle.hose_topo.specs.TopologyText.{IsTopologyText}
use Rattle.hose_offline.specs.OnDisk.{on_disk}
use Rattle.hose_outside.specs.Parts.{Parts, Tellings, parts, tellings}
use Rattle.hose_outside.specs.TopologyTold.{HasNetwork, HasText, TellsPriced}
use Rattle.hose_offline.specs.Run.{in_memory}
use Rattle.hose_offline.specs.RunOutcome.{InputWorked, RunLeaves}
use Rattle.hose_talk.specs.Talk.{talk}
use Rattle.hose_offline.specs.steps.Talking.{TalksInMemory, plain_books, talk_tellings}
use Rattle.hose_offline.specs.steps.TalkingOnDisk.{HasTalkedInCabinet, TalksInCabinet}
use Rattle.hose_outside.specs.declared.notation.Notation.TheVariants.{Lines}
use Rattle.hose_words.proofs.OnReading.{WhereTold-map}
use Rattle.hose_outside.specs.Unopened.{OpensNoJournal, first_of}
use Rattle.hose_outside.specs.declared.fault.Fault.{Fault}
use Rattle.hose_outside.specs.declared.fault.Fault.TheVariants as fault
use Rattle.hose_offline.proofs.Borrowed.{held_behind, rose_behind}
use Rattle.hose_offline.proofs.CutRuns.{cut_behind}
use Rattle.hose_offline.proofs.OneRun.{OneText}
use Rattle.hose_offline.proofs.Running.{never_told, ran, text_read}
use Rattle.hose_outside.proofs.TextsRead.{text_told}

module _ (prices : Network → Network → Type 0) {S O C E : Type 0} (source : Ghosts S) (sink : SinkGhosts O) (cabinet : CabinetGhosts C E) (disk : DiskGhosts E) (start middle last : Reader S) (told network : Network) (priced : prices told network) (output output' : O) (place place' : C) (is : IsNetwork network) (empty : start.pending ≡ [])
    (text : WhereTold (source.content start.source) (source.content middle.source) (λ input left. IsTopologyText (start.pending ++ input) told (middle.pending ++ left)))
    (one : WhereTold (source.content start.source) (source.content middle.source) (λ input left. OneText (start.pending ++ input) told (middle.pending ++ left)))
    (reads : ReadsOn source start middle) (none : middle.fault ≡ None) where
  abbrev Leaves : Option (List ℕ) → C → Result ⊤ Fault → Type 0
  Leaves journal after done = RunLeaves (tellings source sink cabinet disk) prices journal (parts start.source output place) (parts last.source output' after) done

  -- nothing was done after the topology
  has_read : (Is : Network → Type 0) → last ≡ middle → Is network → HasNetwork Lines prices (source.content start.source) (source.content last.source) Is
  has_read Is stays so = record {
    network = network;
    text = subst (λ (reader : Reader S). WhereTold (source.content start.source) (source.content reader.source) (λ input _. TellsPriced Lines prices input network)) (sym stays)
        (text_read prices source sink start middle last told network priced output output' is empty text one reads none);
    is = so;
  }

  has_text : last ≡ middle → HasText Lines (source.content start.source) (source.content last.source)
  has_text stays = subst (λ (reader : Reader S). HasText Lines (source.content start.source) (source.content reader.source)) (sym stays)
      (WhereTold-map (source.content start.source) (source.content middle.source) _ _ (text_read prices source sink start middle last told network priced output output' is empty text one reads none) (λ input left tells. (tells.0, tells.1)))

  input_held : last ≡ middle → source.frame last.source ≡ source.frame start.source
  input_held stays = ap (λ (reader : Reader S). source.frame reader.source) stays ∙ reads.unfailed (λ read. absurd (cc (none, read)))

  -- lines were answered by a book in memory
  pub leaves_in_memory : (done : Result ⊤ Fault) → ReadsOn source middle last → TalksInMemory (talk_tellings source sink plain_books) network (talk middle output tt) (talk last output' tt) done → Leaves None place done
  leaves_in_memory done more (inl (is_memory, stays, same)) =
      subst (Leaves None place) (sym is_memory) (inr (inl (has_text stays, refl)), input_held stays, same)
  leaves_in_memory done more (inr (first, now, serves)) =
      ran prices source sink start middle last told network priced output output' is empty text one reads none plain_books in_memory [] first now refl (λ history lines replies on told. never_told replies told) more
      (Leaves None place)
      (λ run held out. (run, held, out))
      (λ run out rose. (inr (Ok tt, run, out), rose))
      (λ run out held. (inr (Ok tt, run, out), held))
      (λ run held rose. ((Ok tt, run), held, rose)) done serves

  -- lines were answered by the book of a journal
  module _ (name : List ℕ) where
    served_leaves : (served : Result ⊤ Fault) (closing : Result ⊤ Failed) → ReadsOn source middle last → HasTalkedInCabinet (tellings source sink cabinet disk) name (parts middle output place) (parts last output' place') network served closing → Leaves (Some name) place' (first_of served closing)
    served_leaves served (Ok done) more has =
        ran prices source sink start middle last told network priced output output' is empty text one reads none (store_books disk) (on_disk cabinet disk place place' name (Ok done)) has.since has.first has.last has.begun has.keeps more
        (λ done. Leaves (Some name) place' done)
        (λ run held out. (run, held, out))
        (λ run out rose. (inr (Ok done, run, out), rose))
        (λ run out held. (inr (Ok done, run, out), held))
        (λ run held rose. ((Ok done, run), held, rose)) served has.talks
    served_leaves served (Err failed) more has =
        ran prices source sink start middle last told network priced output output' is empty text one reads none (store_books disk) (on_disk cabinet disk place place' name (Err failed)) has.since has.first has.last has.begun has.keeps more
        (λ done. Leaves (Some name) place' (first_of done (Err failed)))
        (λ run held out. (inr (refl, failed, run, held, out), run.run.keeps.met.failed refl))
        (λ run out rose. (inr (Err failed, run, out), rose))
        (λ run out held. (inr (Err failed, run, out), held))
        (λ run held rose. ((Err failed, run), held, rose)) served has.talks

    opens_none : (done : Result ⊤ Fault) → last ≡ middle → output' ≡ output → OpensNoJournal cabinet disk name place place' network done → Leaves (Some name) place' done
    opens_none (Ok tt) stays same why = absurd why
    opens_none (Err (fault.Other kept given)) stays same why = (has_read _ stays why, input_held stays, same)
    opens_none (Err (fault.Damaged at)) stays same why = (has_read _ stays (tt, why), input_held stays, same)
    opens_none (Err fault.Cabinet) stays same why = (inl (has_read _ stays why.0, input_held stays, same), why.1)
    opens_none (Err fault.Memory) stays same why = (inr (inr (has_read _ stays why)), input_held stays, same)
    opens_none (Err another) stays same why = absurd why

    pub leaves_in_cabinet : (done : Result ⊤ Fault) → ReadsOn source middle last → TalksInCabinet (tellings source sink cabinet disk) name (parts middle output place) (parts last output' place') network done → Leaves (Some name) place' done
    leaves_in_cabinet done more (inl (why, stays, same)) = opens_none done stays same why
    leaves_in_cabinet done more (inr (served, closing, has, told)) = subst (Leaves (Some name) place') (sym told) (served_leaves served closing more has)

-- the text of a network was read, and then there was no memory
pub starved : (prices : Network → Network → Type 0) {S O C E : Type 0} (source : Ghosts S) (sink : SinkGhosts O) (cabinet : CabinetGhosts C E) (disk : DiskGhosts E) (journal : Option (List ℕ)) (start middle : Reader S) (told : Network) (output : O) (place : C) → start.pending ≡ []
    → WhereTold (source.content start.source) (source.content middle.source) (λ input left. IsTopologyText (start.pending ++ input) told (middle.pending ++ left)) → ReadsOn source start middle → middle.fault ≡ None
    → RunLeaves (tellings source sink cabinet disk) prices journal (parts start.source output place) (parts middle.source output place) {T = ⊤} (Err fault.Memory)
starved prices source sink cabinet disk journal start middle told output place empty text reads none = (
  inr (inl (WhereTold-map (source.content start.source) (source.content middle.source) _ _ (text_told source start middle told empty text) (λ input left tells. (told, tells)), refl)),
  reads.unfailed (λ read. absurd (cc (none, read))),
  refl,
)

-- ---- an input behind a borrow

module _ {T O C E : Type 0} (tells : Tellings T O C E) (prices : Network → Network → Type 0) (journal : Option (List ℕ)) where
  -- what is told of the borrow
  abbrev lent : Tellings (MutBor T) O C E
  lent = tellings (borrowed tells.source) tells.sink tells.cabinet tells.disk

  module _ (before after : Parts (MutBor T) O C) where
    abbrev from : Parts T O C
    from = parts before.input.now before.output before.cabinet

    abbrev to : Parts T O C
    to = parts after.input.now after.output after.cabinet

    held : InputWorked lent before after → InputWorked tells from to
    held same = held_behind tells.source before.input after.input same

    left_behind : (done : Result ⊤ Fault) → RunLeaves lent prices journal before after done → RunLeaves tells prices journal from to done
    left_behind (Ok done) leaves = (leaves.0, held leaves.1, leaves.2)
    left_behind (Err (fault.Topology refusal)) leaves = (leaves.0, held leaves.1, leaves.2, leaves.3)
    left_behind (Err fault.Read) leaves = (leaves.0, rose_behind tells.source before.input after.input leaves.1)
    left_behind (Err fault.Write) leaves = ((leaves.0.0, cut_behind tells.source prices _ after.input _ _ _ _ leaves.0.1), held leaves.1, leaves.2)
    left_behind (Err (fault.Other kept given)) leaves = (leaves.0, held leaves.1, leaves.2)
    left_behind (Err (fault.Damaged at)) leaves = (leaves.0, held leaves.1, leaves.2)
    left_behind (Err fault.Cabinet) (inl read, failed) = (inl (read.0, held read.1, read.2), failed)
    left_behind (Err fault.Cabinet) (inr run, failed) = (inr (run.0, run.1, run.2, held run.3, run.4), failed)
    left_behind (Err fault.Memory) (inl none, worked, same) = (inl (ap (λ (b : MutBor T). b.now) none.0, none.1, none.2), held worked, same)
    left_behind (Err fault.Memory) (inr read, worked, same) = (inr read, held worked, same)
    left_behind (Err fault.TooLong) leaves = (leaves.0, held leaves.1)
    left_behind (Err another) leaves = absurd leaves

  -- what is left of the borrow is left of what is behind it
  pub leaves_behind : (before after : Parts (MutBor T) O C) (first last : T) → before.input.now ≡ first → after.input.now ≡ last → (done : Result ⊤ Fault) → RunLeaves lent prices journal before after done
      → RunLeaves tells prices journal (parts first before.output before.cabinet) (parts last after.output after.cabinet) done
  leaves_behind before after first last begun ended done leaves =
      subst (λ (now : T). RunLeaves tells prices journal (parts first before.output before.cabinet) (parts now after.output after.cabinet) done) ended
      (subst (λ (was : T). RunLeaves tells prices journal (parts was before.output before.cabinet) (to before after) done) begun (left_behind before after done leaves))
