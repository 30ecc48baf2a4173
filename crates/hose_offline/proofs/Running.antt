-- A run as a whole, from its topology and the exchanges behind it.
use Rattle.std.proofs.Common.{◌≡◌, ◌≢◌, ◌∙◌, ℕ, List, [], ◌∷◌, ◌++◌, IsFalse, Option, Some, None, Result, Ok, Err, inl, inr, refl, sym, ap, subst, arith}
use Rattle.std.specs.Prelude.{⊤}
use Rattle.std.proofs.lemmas.List.Elements.{All-cons, All-nil}
use Rattle.hose_io.specs.Stream.{Stream, Grows}
use Rattle.hose_io.specs.declared.source.Source.{Ghosts}
use Rattle.hose_words.specs.Lines.{StopsAfterLines}
use Rattle.hose_words.specs.steps.Lines.{Reader}
use Rattle.hose_words.specs.Reading.{WhereTold}
use Rattle.hose_words.specs.steps.Reading.{ReadsOn}
use Rattle.hose_words.specs.declared.lines.LineFault.{LineFault}
use Rattle.hose_words.specs.declared.lines.LineFault.TheVariants as line
use Rattle.hose_words.proofs.OnReading.{IsAfterLines-then, WhereTold-both, WhereTold-map, WhereTold-then}
use Rattle.hose_graph.specs.Network.{Network, IsNetwork}
use Rattle.hose_graph.specs.declared.entry.Entry.{Entry}
use Rattle.hose_graph.specs.declared.command.Reply.{Reply}
use Rattle.hose_graph.specs.declared.command.Reply.TheVariants.{Disk}
use Rattle.hose_law.specs.Script.{IsForDisk, ReadLine, WithoutDisk, one_if_disk}
use Rattle.hose_io.specs.Frame.{Rose}
use Rattle.hose_book.specs.steps.GoingOn.{GoesOn}
use Rattle.hose_book.specs.declared.books.Books.{Ghosts as BooksGhosts}
use Rattle.hose_io.specs.declared.sink.Sink.{Ghosts as SinkGhosts}
use Rattle.hose_offline.specs.RunOutcome.{RunLeaves}
use Rattle.hose_outside.specs.Parts.{Tellings, parts}
use Rattle.hose_offline.specs.Run.{HasRun, IsCutOff, IsRun, IsRunUpTo, Keeping}
use Rattle.hose_outside.specs.TopologyTold.{TellsNoNetwork, TellsPriced}
use Rattle.hose_words.specs.Saying.{IsAllTaken, SayLines}
use Rattle.hose_proto.specs.ReplyText.{line_of, reply_text}
use Rattle.hose_proto.specs.Replies.{CutsLast, texts_of}
use Rattle.hose_outside.specs.declared.notation.Notation.TheVariants.{Lines}
use Rattle.hose_outside.specs.declared.notation.Refusal.TheVariants.{Word}
use Rattle.hose_offline.specs.Talking.{done_of_talk, IsAskedBy, Says, TellsDisks}
use Rattle.hose_outside.specs.steps.Fault.{of_topology}
use Rattle.hose_talk.specs.Talk.{talk, AllOut, IsCutNear, LastCut, TalksTo, TalksUpTo}
use Rattle.hose_offline.specs.steps.Talking.{Talks, talk_tellings, book_terms}
use Rattle.hose_outside.proofs.Provided.{decided_provides}
use Rattle.hose_offline.proofs.CutRuns.{cut_in_run}
use Rattle.hose_talk.specs.steps.Talk.{IsCutByReader, KeepsFault}
use Rattle.hose_talk.specs.declared.talking.TalkEnd.{TalkEnd}
use Rattle.hose_talk.specs.declared.talking.TalkEnd.TheVariants as talk_end
use Rattle.hose_talk.specs.declared.talking.TalkFault.{TalkFault}
use Rattle.hose_talk.specs.declared.talking.TalkFault.TheVariants as talk_fault
use Rattle.hose_topo.specs.Reading.{StopsInTopology}
use Rattle.hose_topo.specs.steps.Reading.{fault_of}
use Rattle.hose_topo.specs.TopologyText.{IsTopologyText}
use Rattle.hose_outside.specs.declared.fault.Fault.{Fault}
use Rattle.hose_outside.specs.declared.fault.Fault.TheVariants as fault
use Rattle.hose_topo.specs.declared.fault.TopoFault.{TopoFault}
use Rattle.hose_topo.specs.declared.fault.TopoFault.TheVariants.{At, Read, TooLong, Memory as TopoMemory}
use Rattle.hose_offline.proofs.OneReading.{OneThingEach, no_more, said_alone, said_next}
use Rattle.hose_offline.proofs.OneRun.{OneInput, OneText, right_alone}
use Rattle.hose_outside.proofs.TextsRead.{text_told}

-- up to the end of the input
pub run_of : (prices : Network → Network → Type 0) (keeping : Keeping) (old new : Option Stream) (before after : Option (List ℕ)) (run : HasRun prices keeping old new IsAllTaken) → IsNetwork run.network
    → WhereTold old new (λ input _. OneInput input run.told run.network) → Grows before after (texts_of run.network run.replies) → IsRun prices keeping old new before after
run_of prices keeping old new before after run is one out = record {
  run = run;
  out = out;
  alone = λ memory disk. WhereTold-map old new _ _ (WhereTold-both old new _ _ one run.text)
      (λ input left both output right.
      let text = both.1 in
      right_alone prices run.told run.network run.since input text.0 output run.lines run.replies run.history run.left is both.0 text.2
      (subst (SayLines (λ _. Says run.network) text.0 run.lines) text.4.0 text.3) run.script (record { memory = memory; disk = disk }) right);
}

-- where a count never rises no failure of a disk is told
pub never_told : (replies : List Reply) → TellsDisks 0 replies 0 → WithoutDisk replies
never_told [] told = All-nil (λ reply. ¬ IsForDisk reply)
never_told (reply ∷ replies) (inr most) = absurd (omega (arith, most))
never_told (reply ∷ replies) (inl told) = All-cons (λ r. ¬ IsForDisk r) reply replies (is_none reply (omega (arith, told))) (never_told replies (inl (omega (arith, told))))
  where
    is_none : (reply : Reply) → one_if_disk reply ≡ 0 → ¬ IsForDisk reply
    is_none (Disk at) none disk = cc none
    is_none reply none disk = disk

-- ---- what a run leaves

-- where no topology was read
pub leaves_topology : {S O C E : Type 0} (T : Type 0) (tells : Tellings S O C E) (prices : Network → Network → Type 0) (journal : Option (List ℕ)) (start last : Reader S) (output : O) (place : C) (topology : TopoFault)
    → ((line word : ℕ) → topology ≡ At line word → TellsNoNetwork Lines (Word line word) (tells.source.content start.source) (tells.source.content last.source))
    → ((fault : LineFault) → topology ≡ fault_of fault → WhereTold (tells.source.content start.source) (tells.source.content last.source) (StopsInTopology fault))
    → (topology ≡ Read → Rose (tells.source.frame start.source) (tells.source.frame last.source)) → ((topology ≡ Read → ⊥) → tells.source.frame last.source ≡ tells.source.frame start.source) → (topology ≡ TopoMemory → last ≡ start)
    → RunLeaves tells prices journal (parts start.source output place) (parts last.source output place) {T = T} (Err (of_topology fault.Read topology))
leaves_topology T tells prices journal start last output place (At line word) wrong stopped read unfailed memory = (wrong line word refl, unfailed (λ is. absurd (cc is)), refl, refl)
leaves_topology T tells prices journal start last output place Read wrong stopped read unfailed memory = (inl (stopped line.Read refl, refl, refl), read refl)
leaves_topology T tells prices journal start last output place TooLong wrong stopped read unfailed memory = (inl (stopped line.TooLong refl, refl, refl), unfailed (λ is. absurd (cc is)))
leaves_topology {S = S} T tells prices journal start last output place TopoMemory wrong stopped read unfailed memory =
    (inl (ap (λ (reader : Reader S). reader.source) (memory refl), refl, refl), unfailed (λ is. absurd (cc is)), refl)

-- where a topology was read
module _ (prices : Network → Network → Type 0) {S O : Type 0} (source : Ghosts S) (sink : SinkGhosts O) (start middle last : Reader S) (told network : Network) (priced : prices told network) (output output' : O) (is : IsNetwork network) (empty : start.pending ≡ [])
    (text : WhereTold (source.content start.source) (source.content middle.source) (λ input left. IsTopologyText (start.pending ++ input) told (middle.pending ++ left)))
    (one : WhereTold (source.content start.source) (source.content middle.source) (λ input left. OneText (start.pending ++ input) told (middle.pending ++ left)))
    (reads : ReadsOn source start middle) (none : middle.fault ≡ None) where
  held_before : source.frame middle.source ≡ source.frame start.source
  held_before = reads.unfailed (λ read. absurd (cc (none, read)))

  -- the text of a network was read
  pub text_read : WhereTold (source.content start.source) (source.content middle.source) (λ input _. TellsPriced Lines prices input network)
  text_read = WhereTold-map (source.content start.source) (source.content middle.source) _ _ (text_told source start middle told empty text) (λ input left tells. (told, tells, priced))

  -- and then lines were answered
  module _ {K R : Type 0} (books : BooksGhosts K R) (keeping : Keeping) (since : List Entry) (first now : K) (begun : keeping.IsBegunWith network since)
      (keeps : (history : List Entry) (lines : List ReadLine) (replies : List Reply) → GoesOn books (IsAskedBy since lines replies) network since first history now → TellsDisks (books.frame first).faults replies (books.frame now).faults
      → keeping.Keeps (record { network = network; since = since; history = history; lines = lines; replies = replies }))
      (more : ReadsOn source middle last) where
    abbrev old_text : Option Stream
    old_text = source.content start.source

    abbrev new_text : Option Stream
    new_text = source.content last.source

    -- how much of what was to come was answered
    abbrev Answers : (List ℕ → List ℕ → List ℕ → Type 0) → (List Reply → Type 0) → Type 0
    Answers = TalksUpTo (book_terms (talk_tellings source sink books) network since (talk middle output first) (talk last output' now)) (tt {0})

    held_over : last.fault ≢ Some line.Read → source.frame last.source ≡ source.frame start.source
    held_over other = more.unfailed other ∙ held_before

    -- where `stops` says nothing of the text before
    whatever_before : (stops : List ℕ → List ℕ → Type 0) → WhereTold old_text (source.content middle.source) (λ _ _. (behind rest : List ℕ) → stops behind rest → stops behind rest)
    whatever_before stops = WhereTold-map old_text (source.content middle.source) _ _ text (λ _ _ _ _ _ same. same)

    -- what `stops` says behind the topology it says of the whole input
    abbrev has_run : (stops its : List ℕ → List ℕ → List ℕ → Type 0) (puts : List Reply → Type 0) → WhereTold old_text (source.content middle.source) (λ input left. (behind rest : List ℕ) → stops (middle.pending ++ left) behind rest → its (start.pending ++ input) behind rest)
        → (talks : Answers stops puts) → HasRun prices keeping old_text new_text its
    has_run stops its puts joins talks = record {
      told = told;
      network = network;
      priced = priced;
      since = since;
      history = talks.comes.history;
      lines = talks.lines;
      replies = talks.replies;
      begun = begun;
      begins = talks.comes.begins;
      text = WhereTold-then old_text (source.content middle.source) new_text reads.takes.0 _ _ _ reads.takes.1
          (WhereTold-both old_text (source.content middle.source) _ _ text joins) talks.said
          (λ a b c both said. (
            middle.pending ++ b,
            said.0,
            subst (λ (p : List ℕ). IsTopologyText (p ++ a) told (middle.pending ++ b)) empty both.0,
            said_next said.1,
            subst (λ (p : List ℕ). its (p ++ a) said.0 c) empty (both.1 said.0 c said.2),
          ));
      left = talks.comes.left;
      script = talks.comes.script;
      decided = talks.comes.decided;
      keeps = keeps talks.comes.history talks.lines talks.replies talks.comes.goes_on talks.comes.disks;
      provides = decided_provides network is since talks.comes.history talks.comes.decided;
    }

    -- each line after the topology says one thing
    one_input : (puts : List Reply → Type 0) → Answers IsAllTaken puts → WhereTold old_text new_text (λ input _. OneInput input told network)
    one_input puts talks = WhereTold-then old_text (source.content middle.source) new_text reads.takes.0 _ _ _ reads.takes.1 one talks.said
        (λ a b c alone said. record {
          rest = middle.pending ++ b;
          text = subst (λ (p : List ℕ). OneText (p ++ a) told (middle.pending ++ b)) empty alone;
          lines = said_alone said.1 (subst (OneThingEach network) (sym said.2.0) no_more);
        })

    run_until : (fault : LineFault) → IsFalse middle.ended → Answers (StopsAfterLines fault) (AllOut (λ reply. line_of (reply_text network reply)) sink output output')
        → IsRunUpTo prices keeping fault old_text new_text (sink.content output) (sink.content output')
    run_until fault before_end talks =
        let joins = WhereTold-map old_text (source.content middle.source) _
        (λ input left. (behind rest : List ℕ) → StopsAfterLines fault (middle.pending ++ left) behind rest → StopsAfterLines fault (start.pending ++ input) behind rest)
        (reads.whole none before_end)
        (λ input left lines behind rest stops. (IsAfterLines-then (start.pending ++ input) (middle.pending ++ left) behind lines stops.0, stops.1)) in
        record { run = has_run (StopsAfterLines fault) (StopsAfterLines fault) _ joins talks; out = talks.out }

    -- the last reply is cut off
    cut : (replies : List Reply) → LastCut (λ reply. line_of (reply_text network reply)) sink output output' replies → CutsLast network (sink.content output) (sink.content output') replies
    cut replies (whole, reply, same, count, less, grows) = (whole, reply, same, (count, less, grows))

    -- what answering them comes to, of the whole input
    pub ran : (P : Result ⊤ Fault → Type 0)
        → (IsRun prices keeping old_text new_text (sink.content output) (sink.content output') → source.frame last.source ≡ source.frame start.source → sink.frame output' ≡ sink.frame output → P (Ok tt))
        → (IsRunUpTo prices keeping line.Read old_text new_text (sink.content output) (sink.content output') → sink.frame output' ≡ sink.frame output → Rose (source.frame start.source) (source.frame last.source) → P (Err fault.Read))
        → (IsRunUpTo prices keeping line.TooLong old_text new_text (sink.content output) (sink.content output') → sink.frame output' ≡ sink.frame output → source.frame last.source ≡ source.frame start.source → P (Err fault.TooLong))
        → (IsCutOff prices keeping (IsCutNear source last.source) old_text new_text (sink.content output) (sink.content output') → source.frame last.source ≡ source.frame start.source → Rose (sink.frame output) (sink.frame output') → P (Err fault.Write))
        → (done : Result ⊤ Fault) → Talks (talk_tellings source sink books) network since (talk middle output first) (talk last output' now) done → P done
    ran P to_end at_read at_too_long at_write done (ended, is_done, kept, talks) = subst P (sym is_done) (at ended kept talks)
      where
        at : (end : Result TalkEnd TalkFault) → KeepsFault middle last end
            → TalksTo source sink (book_terms (talk_tellings source sink books) network since (talk middle output first) (talk last output' now)) (talk middle.source output (tt {0})) (talk last.source output' (tt {0})) end
            → P (done_of_talk end)
        at (Ok talk_end.Input) kept talks = to_end
            (run_of prices keeping old_text new_text (sink.content output) (sink.content output') (has_run IsAllTaken IsAllTaken _ (whatever_before (IsAllTaken [])) talks.0.0) is (one_input _ talks.0.0) talks.0.0.out)
            (held_over (λ read. absurd (cc (kept, read)))) talks.2
        at (Ok talk_end.Over) kept talks = absurd (cc talks.0.1)
        at (Err talk_fault.Read) kept talks = at_read (run_until line.Read kept.1 talks.0.0) talks.2 (rw held_before at talks.1)
        at (Err talk_fault.TooLong) kept talks = at_too_long (run_until line.TooLong kept.1 talks.0.0) talks.2 (held_over (λ read. absurd (cc (kept.0, read))))
        at (Err talk_fault.Write) kept talks = at_write (record { run = has_run (IsCutByReader source middle last) (IsCutNear source last.source) _ (cut_in_run source start middle last told empty text reads none more) talks.0; out = cut talks.0.replies talks.0.out })
            (held_over (λ read. absurd (cc (kept, read)))) talks.2
