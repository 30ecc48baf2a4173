-- Readings one behind the other, and what is told of them.
use Rattle.std.proofs.Common.{◌≡◌, ◌≢◌, ◌⊎◌, ◌∙◌, ℕ, ◌+◌, ◌≤◌, Bool, true, false, IsTrue, IsFalse, List, [], ◌∷◌, ◌++◌, length, Option, None, Some, IfSome, Result, Ok, Err, inl, inr, ⊎_elim, refl, sym, subst, ap, arith, append_assoc, length-append}
use Rattle.std.specs.List.{position_or_len}
use Rattle.std.proofs.lemmas.Bool.{cases_Bool}
use Rattle.std.proofs.lemmas.List.{length-drop}
use Rattle.hose_io.specs.Stream.{Stream, Gives}
use Rattle.hose_io.proofs.Calling.{HasGone-then}
use Rattle.hose_io.proofs.Frames.{Stays-none, Stays-next}
use Rattle.hose_io.specs.steps.Calls.{none_yet}
use Rattle.hose_io.specs.declared.source.Source.{Ghosts}
use Rattle.hose_words.specs.Lines.{IsAfterLines, PassesOver, is_line_feed}
use Rattle.hose_words.specs.steps.Lines.{GivesLine, IsAskedInLine, IsNext, KeepsLine, Reader, WhereAsked}
use Rattle.hose_words.specs.Reading.{WhereTold}
use Rattle.hose_words.specs.steps.Reading.{IsAskedAfterLines, ReadsOn}
use Rattle.hose_words.specs.declared.lines.Line.{Line}
use Rattle.hose_words.specs.declared.lines.LineFault.{LineFault}
use Rattle.hose_words.specs.declared.lines.LineFault.TheVariants.{Read, TooLong}
use Rattle.hose_io.proofs.Streams.{Gives-append, Gives-nil}

-- ---- what is told

-- where nothing was given
pub WhereTold-same : (content : Option Stream) (P : List ℕ → List ℕ → Type 0) → ((left : List ℕ) → P left left) → WhereTold content content P
WhereTold-same None P holds = tt
WhereTold-same (Some stream) P holds = holds stream.left

-- in other words
pub WhereTold-map : (old new : Option Stream) (P Q : List ℕ → List ℕ → Type 0) → WhereTold old new P → ((before after : List ℕ) → P before after → Q before after) → WhereTold old new Q
WhereTold-map None new P Q told other = tt
WhereTold-map (Some old) None P Q told other = tt
WhereTold-map (Some old) (Some new) P Q told other = other old.left new.left told

-- two facts of one stretch
pub WhereTold-both : (old new : Option Stream) (P Q : List ℕ → List ℕ → Type 0) → WhereTold old new P → WhereTold old new Q → WhereTold old new (λ before after. P before after × Q before after)
WhereTold-both None new P Q one other = tt
WhereTold-both (Some old) None P Q one other = tt
WhereTold-both (Some old) (Some new) P Q one other = (one, other)

-- two stretches of a source, one behind the other
pub WhereTold-then : (old mid new : Option Stream) (given : List ℕ) (P Q R : List ℕ → List ℕ → Type 0) → Gives old mid given
    → WhereTold old mid P → WhereTold mid new Q → ((before between after : List ℕ) → P before between → Q between after → R before after) → WhereTold old new R
WhereTold-then None mid new given P Q R gives p q both = tt
WhereTold-then (Some old) None new given P Q R gives p q both = absurd gives
WhereTold-then (Some old) (Some mid) None given P Q R gives p q both = tt
WhereTold-then (Some old) (Some mid) (Some new) given P Q R gives p q both = both old.left mid.left new.left p q

-- whole lines behind whole lines
pub IsAfterLines-then : (text middle rest : List ℕ) → IsAfterLines text middle → IsAfterLines middle rest → IsAfterLines text rest
IsAfterLines-then text middle rest (inl same) behind = subst (λ t. IsAfterLines t rest) (sym same) behind
IsAfterLines-then text middle rest (inr lines) (inl same) = inr (lines.0, lines.1 ∙ ap (λ t. lines.0 ++ 10 ∷ t) same)
IsAfterLines-then text middle rest (inr lines) (inr more) =
    inr (lines.0 ++ 10 ∷ more.0, lines.1 ∙ (ap (λ t. lines.0 ++ 10 ∷ t) more.1 ∙ sym (append_assoc lines.0 (10 ∷ more.0) (10 ∷ rest))))

-- ---- how far a reader has come

module _ {S : Type 0} (source : Ghosts S) where
  pub ReadsOn-start : (reader : Reader S) → ReadsOn source reader reader
  ReadsOn-start reader = record {
    takes = ([], Gives-nil (source.content reader.source), omega arith);
    whole = λ _ _. WhereTold-same (source.content reader.source) _ (λ left. inl refl);
    fault = λ none. none;
    read = λ read. read;
    ended = λ before. before;
    stays = Stays-none (source.frame reader.source);
    unfailed = λ _. refl;
    gone = none_yet;
    shorter = WhereTold-same (source.content reader.source) _ (λ left. omega arith);
    after_fault = λ _. refl;
    after_end = λ _. refl;
    asked = inl refl;
  }

  -- what is to come grows no longer by two stretches
  shorter_then : (old mid new : Reader S) → ReadsOn source old mid → ReadsOn source mid new
      → WhereTold (source.content old.source) (source.content new.source) (λ before after. length (new.pending ++ after) ≤ length (old.pending ++ before))
  shorter_then old mid new first second = WhereTold-then (source.content old.source) (source.content mid.source) (source.content new.source) first.takes.0 _ _ _ first.takes.1 first.shorter second.shorter
      (λ a b c here there. omega (arith, here, there))

  -- the source was asked in the first of two stretches, or not at all
  asked_first : (old mid new : Reader S) → ReadsOn source mid new → new.source ≡ mid.source → (mid.source ≡ old.source) ⊎ IsAskedAfterLines source old mid → (new.source ≡ old.source) ⊎ IsAskedAfterLines source old new
  asked_first old mid new second same (inl before) = inl (same ∙ before)
  asked_first old mid new second same (inr is) = inr (record {
    asked = is.asked;
    went = rw same is.went;
    lines = at (source.content old.source) (source.content is.asked) (source.content mid.source) (source.content new.source) second.takes.1 second.shorter is.lines;
  })
    where
      at : (before then middle after : Option Stream) → Gives middle after second.takes.0 → WhereTold middle after (λ was left. length (new.pending ++ left) ≤ length (mid.pending ++ was))
          → WhereAsked before then (λ was left. IfSome middle (λ now. (line : List ℕ) × IsAfterLines (old.pending ++ was) line × PassesOver line left × (length (mid.pending ++ now.left) ≤ length line)))
          → WhereAsked before then (λ was left. IfSome after (λ now. (line : List ℕ) × IsAfterLines (old.pending ++ was) line × PassesOver line left × (length (new.pending ++ now.left) ≤ length line)))
      at None then middle after gives shorter told = tt
      at (Some b) None middle after gives shorter told = absurd told
      at (Some b) (Some t) middle None gives shorter told = tt
      at (Some b) (Some t) None (Some n) gives shorter told = absurd gives
      at (Some b) (Some t) (Some m) (Some n) gives shorter told = (told.0, told.1, told.2, omega (arith, told.3, shorter))

  -- the source was asked in the second of two stretches, before which whole lines were given
  asked_second : (old mid new : Reader S) → ReadsOn source old mid → mid.fault ≡ None → IsFalse mid.ended → IsAskedAfterLines source mid new → IsAskedAfterLines source old new
  asked_second old mid new first none before is = record {
    asked = is.asked;
    went = is.went;
    lines = at (source.content old.source) (source.content mid.source) (source.content is.asked) first.takes.1 (first.whole none before) is.lines;
  }
    where
      behind : (after : Option Stream) (a b c : List ℕ) → IsAfterLines (old.pending ++ a) (mid.pending ++ b)
          → IfSome after (λ now. (line : List ℕ) × IsAfterLines (mid.pending ++ b) line × PassesOver line c × (length (new.pending ++ now.left) ≤ length line))
          → IfSome after (λ now. (line : List ℕ) × IsAfterLines (old.pending ++ a) line × PassesOver line c × (length (new.pending ++ now.left) ≤ length line))
      behind None a b c here there = tt
      behind (Some now) a b c here there = (there.0, IsAfterLines-then (old.pending ++ a) (mid.pending ++ b) there.0 here there.1, there.2, there.3)

      at : (told middle then : Option Stream) → Gives told middle first.takes.0 → WhereTold told middle (λ was left. IsAfterLines (old.pending ++ was) (mid.pending ++ left))
          → WhereAsked middle then (λ was left. IfSome (source.content new.source) (λ now. (line : List ℕ) × IsAfterLines (mid.pending ++ was) line × PassesOver line left × (length (new.pending ++ now.left) ≤ length line)))
          → WhereAsked told then (λ was left. IfSome (source.content new.source) (λ now. (line : List ℕ) × IsAfterLines (old.pending ++ was) line × PassesOver line left × (length (new.pending ++ now.left) ≤ length line)))
      at None middle then gives here there = tt
      at (Some b) None then gives here there = absurd gives
      at (Some b) (Some m) None gives here there = absurd there
      at (Some b) (Some m) (Some t) gives here there = behind (source.content new.source) b.left m.left t.left here there

  asked_then : (old mid new : Reader S) → ReadsOn source old mid → ReadsOn source mid new → (new.source ≡ old.source) ⊎ IsAskedAfterLines source old new
  asked_then old mid new first second = at mid.fault mid.ended refl refl second.asked
    where
      at : (fault : Option LineFault) (ended : Bool) → mid.fault ≡ fault → mid.ended ≡ ended → (new.source ≡ mid.source) ⊎ IsAskedAfterLines source mid new → (new.source ≡ old.source) ⊎ IsAskedAfterLines source old new
      at fault ended met over (inl same) = asked_first old mid new second same first.asked
      at (Some fault) ended met over (inr is) = asked_first old mid new second (second.after_fault (λ none. cc (none, met))) first.asked
      at None true met over (inr is) = asked_first old mid new second (second.after_end over) first.asked
      at None false met over (inr is) = inr (asked_second old mid new first met over is)

  still_ended : (old mid : Reader S) → ReadsOn source old mid → IsTrue old.ended → IsTrue mid.ended
  still_ended old mid first over = ⊎_elim (λ yes. yes) (λ no. absurd (cc (over, first.ended no))) (cases_Bool mid.ended)

  pub ReadsOn-then : (old mid new : Reader S) → ReadsOn source old mid → ReadsOn source mid new → ReadsOn source old new
  ReadsOn-then old mid new first second = record {
    takes = (
      first.takes.0 ++ second.takes.0,
      Gives-append _ _ _ _ _ first.takes.1 second.takes.1,
      omega (arith, first.takes.2, second.takes.2, length-append first.takes.0 second.takes.0),
    );
    whole = λ none before. WhereTold-then (source.content old.source) (source.content mid.source) (source.content new.source) first.takes.0 _ _ _ first.takes.1
        (first.whole (second.fault none) (second.ended before)) (second.whole none before)
        (λ a b c here there. IsAfterLines-then (old.pending ++ a) (mid.pending ++ b) (new.pending ++ c) here there);
    fault = λ none. first.fault (second.fault none);
    read = λ read. second.read (first.read read);
    ended = λ before. first.ended (second.ended before);
    stays = Stays-next first.stays second.stays;
    unfailed = λ other. second.unfailed other ∙ first.unfailed (λ read. other (second.read read));
    gone = HasGone-then first.gone second.gone;
    shorter = shorter_then old mid new first second;
    after_fault = λ met. second.after_fault (λ none. met (first.fault none)) ∙ first.after_fault met;
    after_end = λ over. second.after_end (still_ended old mid first over) ∙ first.after_end over;
    asked = asked_then old mid new first second;
  }

  -- what is to come grows no longer by a line that is given, and by none
  shorter_line : (line : Option Line) (text rest : List ℕ) → GivesLine line text rest → length rest ≤ length text
  shorter_line None text rest gives = rw (gives.0, gives.1) (omega arith)
  shorter_line (Some line) text rest gives = omega (arith, ap length gives.2, length-drop (position_or_len is_line_feed text + 1) text)

  -- what is kept at a fault is of what was to come
  shorter_fault : (fault : LineFault) (text pending left : List ℕ) → KeepsLine fault text pending → length (pending ++ left) ≤ length (text ++ left)
  shorter_fault Read text pending left keeps = omega (arith, ap length keeps.2, length-append keeps.0 pending, length-append pending left, length-append text left)
  shorter_fault TooLong text pending left keeps = omega (arith, ap length keeps.3, length-append keeps.0 (pending ++ keeps.1 ∷ []), length-append pending (keeps.1 ∷ []), length-append pending left, length-append text left)

  shorter_next : (old new : Reader S) (read : Result (Option Line) LineFault) → old.fault ≡ None → IsNext source old new read
      → WhereTold (source.content old.source) (source.content new.source) (λ before after. length (new.pending ++ after) ≤ length (old.pending ++ before))
  shorter_next old new (Ok line) none next = WhereTold-map (source.content old.source) (source.content new.source) _ _ (next.answer none) (λ before after gives. shorter_line line (old.pending ++ before) (new.pending ++ after) gives)
  shorter_next old new (Err fault) none next = at (source.content old.source) (source.content new.source) next.takes.1
    where
      at : (before after : Option Stream) → Gives before after next.takes.0 → WhereTold before after (λ was left. length (new.pending ++ left) ≤ length (old.pending ++ was))
      at None after gives = tt
      at (Some b) None gives = tt
      at (Some b) (Some a) gives =
          let keeps = shorter_fault fault (old.pending ++ next.takes.0) new.pending a.left (next.takes.3 none) in
          omega (arith, keeps, ap length gives.left, length-append old.pending b.left, length-append next.takes.0 a.left, length-append old.pending next.takes.0, length-append (old.pending ++ next.takes.0) a.left)

  asked_next : (old new : Reader S) → WhereTold (source.content old.source) (source.content new.source) (λ before after. length (new.pending ++ after) ≤ length (old.pending ++ before))
      → (new.source ≡ old.source) ⊎ IsAskedInLine source old new → (new.source ≡ old.source) ⊎ IsAskedAfterLines source old new
  asked_next old new shorter (inl same) = inl same
  asked_next old new shorter (inr is) = inr (record { asked = is.asked; went = is.went; lines = at (source.content old.source) (source.content is.asked) (source.content new.source) shorter is.part })
    where
      at : (before then after : Option Stream) → WhereTold before after (λ was left. length (new.pending ++ left) ≤ length (old.pending ++ was)) → WhereAsked before then (λ was left. PassesOver (old.pending ++ was) left)
          → WhereAsked before then (λ was left. IfSome after (λ now. (line : List ℕ) × IsAfterLines (old.pending ++ was) line × PassesOver line left × (length (new.pending ++ now.left) ≤ length line)))
      at None then after shorter part = tt
      at (Some b) None after shorter part = absurd part
      at (Some b) (Some t) None shorter part = tt
      at (Some b) (Some t) (Some n) shorter part = (old.pending ++ b.left, inl refl, part, shorter)

  -- after a fault a call changes nothing
  same_after_fault : (old new : Reader S) (read : Result (Option Line) LineFault) → IsNext source old new read → old.fault ≢ None → new ≡ old
  same_after_fault old new read next met = at old.fault refl next.after_fault
    where
      at : (fault : Option LineFault) → old.fault ≡ fault → IfSome fault (λ f. (read ≡ Err f) × (new ≡ old)) → new ≡ old
      at None none after = absurd (met none)
      at (Some f) is after = after.1

  next_shorter : (old new : Reader S) (read : Result (Option Line) LineFault) → IsNext source old new read
      → WhereTold (source.content old.source) (source.content new.source) (λ before after. length (new.pending ++ after) ≤ length (old.pending ++ before))
  next_shorter old new read next = at old.fault refl
    where
      at : (fault : Option LineFault) → old.fault ≡ fault → WhereTold (source.content old.source) (source.content new.source) (λ before after. length (new.pending ++ after) ≤ length (old.pending ++ before))
      at None none = shorter_next old new read none next
      at (Some f) is = rw (same_after_fault old new read next (λ none. cc (none, is))) (WhereTold-same (source.content old.source) _ (λ left. omega arith))

  pub ReadsOn-next : (old new : Reader S) (read : Result (Option Line) LineFault) → IsNext source old new read → ReadsOn source old new
  ReadsOn-next old new (Ok line) next = record {
    takes = (next.takes.0, next.takes.1, next.takes.2);
    whole = λ _. next.whole;
    fault = λ _. next.fault.0;
    read = λ read. absurd (cc (read, next.fault.0));
    ended = next.ended;
    stays = next.stays;
    unfailed = λ _. next.unfailed (λ err. absurd (cc err));
    gone = next.gone;
    shorter = next_shorter old new (Ok line) next;
    after_fault = λ met. ap (λ (r : Reader S). r.source) (same_after_fault old new (Ok line) next met);
    after_end = next.after_end;
    asked = asked_next old new (next_shorter old new (Ok line) next) next.asked;
  }
  ReadsOn-next old new (Err fault) next = record {
    takes = (next.takes.0, next.takes.1, next.takes.2);
    whole = λ none. absurd (cc (none, next.fault));
    fault = λ none. absurd (cc (none, next.fault));
    read = λ read.
        let kept = rw read at next.after_fault in
        ap (λ (reader : Reader S). reader.fault) kept.1;
    ended = next.ended;
    stays = next.stays;
    unfailed = λ other. next.unfailed (λ err. other (cc (err, next.fault)));
    gone = next.gone;
    shorter = next_shorter old new (Err fault) next;
    after_fault = λ met. ap (λ (r : Reader S). r.source) (same_after_fault old new (Err fault) next met);
    after_end = next.after_end;
    asked = asked_next old new (next_shorter old new (Err fault) next) next.asked;
  }
