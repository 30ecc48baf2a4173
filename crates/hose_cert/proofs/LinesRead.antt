-- How far the reading of a certificate has come, and what the next line makes of that.
use Rattle.std.proofs.Common.{◌≡◌, ◌≢◌, ◌⊎◌, ◌∙◌, ℕ, ◌-◌, ◌^◌, ◌<◌, ◌≤◌, Bool, List, [], ◌∷◌, ◌++◌, Option, None, Some, Result, Ok, Err, inl, inr, refl, sym, ap, subst, arith, append_assoc, append-nil}
use Rattle.std.specs.Prelude.{IsErrAnd}
use Rattle.std.proofs.lemmas.Result.{err_from_is_err_and}
use Rattle.std.specs.List.{before_first, after_first}
use Rattle.std.proofs.lemmas.Bool.{cases_lt}
use Rattle.hose_io.specs.declared.source.Source.{Ghosts}
use Rattle.hose_words.specs.Lines.{is_line_feed}
use Rattle.hose_words.specs.steps.Lines.{GivesLine, IsNext, Reader}
use Rattle.hose_words.specs.Reading.{WhereTold}
use Rattle.hose_words.specs.steps.Reading.{ReadsOn}
use Rattle.hose_words.specs.declared.lines.Line.{Line}
use Rattle.hose_words.specs.declared.lines.Line.TheVariants.{Text, Long}
use Rattle.hose_words.specs.declared.lines.LineFault.{LineFault}
use Rattle.hose_words.specs.declared.lines.LineFault.TheVariants as line
use Rattle.hose_words.specs.declared.lines.TheConstants.{INPUT_LIMIT}
use Rattle.hose_words.proofs.OnReading.{ReadsOn-next, ReadsOn-start, ReadsOn-then, WhereTold-same, WhereTold-then}
use Rattle.hose_io.specs.Frame.{Rose}
use Rattle.hose_graph.specs.Network.{Network, IsNetwork}
use Rattle.hose_cert.specs.CertLine.{CertLine, IsLine}
use Rattle.hose_cert.specs.Certificate.{AreLines, IsCertText, IsCertificate}
use Rattle.hose_cert.specs.steps.CertLine.{SaysLine}
use Rattle.hose_cert.specs.steps.Draft.{IsRefusedLine, IsWholeIf, IsDraftOf}
use Rattle.hose_cert.specs.steps.Fault.{fault_of_line}
use Rattle.hose_cert.specs.steps.Taking.{Comes, IsTextOf, KeepsReadingFault, PassesOne, ReadsCertText, ReadsUpTo, IsNextStep, fault_in}
use Rattle.hose_cert.specs.declared.draft.Body.{Body}
use Rattle.hose_cert.specs.declared.draft.Draft.{Draft}
use Rattle.hose_cert.specs.declared.draft.Draft.TheVariants.{Start}
use Rattle.hose_cert.specs.declared.fault.CertFault.{CertFault}
use Rattle.hose_cert.specs.declared.fault.CertFault.TheVariants.{Read, TooLong, Memory}
use Rattle.hose_cert.specs.declared.reading.LineStep.{LineStep}
use Rattle.hose_cert.specs.declared.reading.LineStep.TheVariants.{More, Refused, Over}
use Rattle.hose_cert.proofs.LineTexts.{line_said, said_line}
use Rattle.hose_cert.proofs.Spelling.{line_once}

-- ---- the lines of a text

module _ (network : Network) where
  comes_none : (text : List ℕ) → Comes network text [] text
  comes_none text = record { on = λ more are. are; back = λ all are. (all, refl, are) }

  -- one line more, where it says one thing
  comes_more : (text rest : List ℕ) (lines : List CertLine) (line : CertLine) → IsNetwork network → Comes network text lines rest → rest ≢ [] → IsLine network (before_first is_line_feed rest) line
      → Comes network text (lines ++ line ∷ []) (after_first is_line_feed rest)
  comes_more text rest lines line is comes some here = record {
    on = λ more are. subst (AreLines network text) (sym (append_assoc lines (line ∷ []) more)) (comes.on (line ∷ more) (some, here, are));
    back = λ all are. let left = comes.back all are in at left.0 left.1 left.2;
  }
    where
      at : {all : List CertLine} (more : List CertLine) → all ≡ lines ++ more → AreLines network rest more
          → (others : List CertLine) × (all ≡ (lines ++ line ∷ []) ++ others) × AreLines network (after_first is_line_feed rest) others
      at [] cut none = absurd (some none)
      at (first ∷ more) cut (_, there, are) =
          let same : first ≡ line = line_once network is (before_first is_line_feed rest) first line there here in
          (more, cut ∙ ap (λ (l : CertLine). lines ++ l ∷ more) same ∙ sym (append_assoc lines (line ∷ []) more), are)

  -- no certificate goes on as the text does
  comes_refused : (text rest : List ℕ) (lines : List CertLine) → Comes network text lines rest → rest ≢ [] → ((line : CertLine) → IsLine network (before_first is_line_feed rest) line → IsRefusedLine network lines line)
      → (all : List CertLine) → IsCertText network text all → ⊥
  comes_refused text rest lines comes some refuse all is = let left = comes.back all is.are in at left.0 left.1 left.2
    where
      at : (more : List CertLine) → all ≡ lines ++ more → AreLines network rest more → ⊥
      at [] cut none = some none
      at (first ∷ more) cut (_, there, are) = refuse first there more (subst (IsCertificate network) cut is.whole)

  -- nothing comes after the lines
  comes_all : (text : List ℕ) (lines : List CertLine) → Comes network text lines [] → (all : List CertLine) → AreLines network text all → all ≡ lines
  comes_all text lines comes all are = let left = comes.back all are in at left.0 left.1 left.2
    where
      at : (more : List CertLine) → all ≡ lines ++ more → AreLines network [] more → all ≡ lines
      at [] cut none = cut ∙ append-nil lines
      at (first ∷ more) cut are = absurd (are.0 refl)

  comes_whole : (text : List ℕ) (lines : List CertLine) → Comes network text lines [] → IsCertificate network lines → IsTextOf network text lines
  comes_whole text lines comes whole = record {
    is_text = record { are = subst (AreLines network text) (append-nil lines) (comes.on [] refl); whole = whole };
    alone = λ others is. comes_all text lines comes others is.are;
  }

  comes_no_text : (text : List ℕ) (lines : List CertLine) → Comes network text lines [] → (IsCertificate network lines → ⊥) → (all : List CertLine) → IsCertText network text all → ⊥
  comes_no_text text lines comes none all is = none (subst (IsCertificate network) (comes_all text lines comes all is.are) is.whole)

-- ---- the reader

module _ {S : Type 0} (source : Ghosts S) where
  pub up_to_start : (old : Reader S) → ReadsUpTo source old old None
  up_to_start old = record {
    on = ReadsOn-start source old;
    kept = refl;
    read = λ is. absurd (cc is);
    too_long = λ few. (λ is. absurd (cc is), λ many. absurd (omega (arith, few, many)));
    limit = λ few. few;
  }

  -- the fault of a line that was read
  abbrev fault_of : Result (Option Line) LineFault → Option CertFault
  fault_of (Ok line) = None
  fault_of (Err fault) = Some (fault_of_line fault)

  pub up_to_next : (old new : Reader S) (read : Result (Option Line) LineFault) → IsNext source old new read → ReadsUpTo source old new (fault_of read)
  up_to_next old new (Ok line) next = record {
    on = ReadsOn-next source old new (Ok line) next;
    kept = next.fault.1 ∙ sym next.fault.0;
    read = λ is. absurd (cc is);
    too_long = λ _. (λ is. absurd (cc is), λ many. absurd (cc (next.too_long.1 many)));
    limit = λ _. next.limit;
  }
  up_to_next old new (Err line.Read) next = record {
    on = ReadsOn-next source old new (Err line.Read) next;
    kept = next.fault;
    read = λ _. next.read refl;
    too_long = λ _. (λ is. absurd (cc is), λ many. absurd (cc (next.too_long.1 many)));
    limit = λ _. next.limit;
  }
  up_to_next old new (Err line.TooLong) next = record {
    on = ReadsOn-next source old new (Err line.TooLong) next;
    kept = next.fault;
    read = λ is. absurd (cc is);
    too_long = λ _. (λ _. next.too_long.0 refl, λ _. refl);
    limit = λ _. next.limit;
  }

  kept_then : (a b c : Option LineFault) (end : Option CertFault) → b ≡ a → KeepsReadingFault b c end → KeepsReadingFault a c end
  kept_then a b c None same kept = kept ∙ same
  kept_then a b c (Some Read) same kept = kept
  kept_then a b c (Some TooLong) same kept = kept
  kept_then a b c (Some Memory) same kept = kept ∙ same

  rose_since : (old mid new : Reader S) → ReadsUpTo source old mid None → ReadsOn source mid new → (mid.fault ≡ Some line.Read) ⊎ Rose (source.frame mid.source) (source.frame new.source)
      → (old.fault ≡ Some line.Read) ⊎ Rose (source.frame old.source) (source.frame new.source)
  rose_since old mid new first on (inl was) = inl (sym first.kept ∙ was)
  rose_since old mid new first on (inr rose) = inr (record { rose = at rose.rose })
    where
      at : ((source.frame mid.source).faults < (source.frame new.source).faults) ⊎ (2 ^ 64 - 1 ≤ (source.frame new.source).faults)
          → ((source.frame old.source).faults < (source.frame new.source).faults) ⊎ (2 ^ 64 - 1 ≤ (source.frame new.source).faults)
      at (inl above) = inl (omega (arith, above, first.on.stays.never_falls))
      at (inr end) = inr end

  pub up_to_then : (old mid new : Reader S) (end : Option CertFault) → ReadsUpTo source old mid None → ReadsUpTo source mid new end → ReadsUpTo source old new end
  up_to_then old mid new end first second = record {
    on = ReadsOn-then source old mid new first.on second.on;
    kept = kept_then old.fault mid.fault new.fault end first.kept second.kept;
    read = λ is. rose_since old mid new first second.on (second.read is);
    too_long = λ few. second.too_long (within (first.too_long few));
    limit = λ few. second.limit (first.limit few);
  }
    where
      within : ((None ≡ Some TooLong) → INPUT_LIMIT < mid.taken) × (INPUT_LIMIT < mid.taken → None ≡ Some TooLong) → mid.taken ≤ INPUT_LIMIT
      within told = elim (cases_lt INPUT_LIMIT mid.taken) [
        | inl many ↦ absurd (cc (told.1 many))
        | inr few ↦ few
      ]

  -- want of memory after a line was read leaves the reader as it is
  pub up_to_memory : (old new : Reader S) → ReadsUpTo source old new None → ReadsUpTo source old new (Some Memory)
  up_to_memory old new up = record {
    on = up.on;
    kept = up.kept;
    read = λ is. absurd (cc is);
    too_long = λ few. (λ is. absurd (cc is), λ many. absurd (cc ((up.too_long few).1 many)));
    limit = up.limit;
  }

  -- the next line came to a fault
  pub up_to_taken : (network : Network) (draft : Draft) (old new : Reader S) (step : Result LineStep CertFault) → IsNextStep source network draft old new step → ReadsUpTo source old new (fault_in step)
  up_to_taken network draft old new (Ok step) (Ok read, next, takes) = up_to_next old new (Ok read) next
  up_to_taken network draft old new (Err fault) (Ok (Some (Text shown)), next, takes) =
      subst (λ (f : CertFault). ReadsUpTo source old new (Some f)) (sym takes) (up_to_memory old new (up_to_next old new (Ok (Some (Text shown))) next))
  up_to_taken network draft old new (Err fault) (Ok (Some Long), next, takes) = absurd takes
  up_to_taken network draft old new (Err fault) (Ok None, next, takes) = absurd takes
  up_to_taken network draft old new (Ok step) (Err met, next, takes) = absurd takes
  up_to_taken network draft old new (Err fault) (Err met, next, takes) = subst (λ (f : CertFault). ReadsUpTo source old new (Some f)) (sym takes) (up_to_next old new (Err met) next)

  -- a fault that was handed on
  pub still_up_to : {T : Type 0} (old new : Reader S) (result : Result T CertFault) (met : CertFault) → IsErrAnd result (λ other. other ≡ met) → ReadsUpTo source old new (Some met) → ReadsUpTo source old new (fault_in result)
  still_up_to {T} old new result met gives up =
      let gave = err_from_is_err_and result gives in
      let is : result ≡ Err met = gave.1 ∙ ap Err gave.2 in
      subst (λ (r : Result T CertFault). ReadsUpTo source old new (fault_in r)) (sym is) up

  -- a line was passed over, or there was none
  pub up_to_passed : (old new : Reader S) (passed : Result Bool CertFault) → PassesOne source old new passed → ReadsUpTo source old new (fault_in passed)
  up_to_passed old new (Ok more) (Ok read, next, p) = up_to_next old new (Ok read) next
  up_to_passed old new (Ok more) (Err met, next, p) = absurd p
  up_to_passed old new (Err fault) (Ok (Some shown), next, p) = absurd p
  up_to_passed old new (Err fault) (Ok None, next, p) = absurd p
  up_to_passed old new (Err fault) (Err met, next, p) = subst (λ (f : CertFault). ReadsUpTo source old new (Some f)) (sym p) (up_to_next old new (Err met) next)

  -- ---- how far the reading has come

  -- the lines that were read made this draft, and are the text's up to here
  pub record HasRead (network : Network) (old now : Reader S) (draft : Draft) : Type 0 where
    pub lines : List CertLine
    pub stands : IsDraftOf network lines draft
    pub up_to : ReadsUpTo source old now None
    pub comes : WhereTold (source.content old.source) (source.content now.source) (λ was left. Comes network (old.pending ++ was) lines (now.pending ++ left))

  pub has_none : (network : Network) (old : Reader S) → HasRead network old old Start
  has_none network old = record {
    lines = [];
    stands = refl;
    up_to = up_to_start old;
    comes = WhereTold-same (source.content old.source) _ (λ left. comes_none network (old.pending ++ left));
  }

  module _ (network : Network) (is : IsNetwork network) (old now new : Reader S) (draft : Draft) (has : HasRead network old now draft) where
    -- what follows where a line more was given
    told_line : (read : Option Line) (R : List ℕ → List ℕ → Type 0) → IsNext source now new (Ok read)
        → ((was between left : List ℕ) → Comes network (old.pending ++ was) has.lines (now.pending ++ between) → GivesLine read (now.pending ++ between) (new.pending ++ left) → R was left)
        → WhereTold (source.content old.source) (source.content new.source) R
    told_line read R next then =
        WhereTold-then (source.content old.source) (source.content now.source) (source.content new.source) has.up_to.on.takes.0
        (λ was between. Comes network (old.pending ++ was) has.lines (now.pending ++ between)) (λ between left. GivesLine read (now.pending ++ between) (new.pending ++ left)) R
        has.up_to.on.takes.1 has.comes (next.answer next.fault.0) then

    pub has_more : (more : Draft) → IsNextStep source network draft now new (Ok (More more)) → HasRead network old new more
    has_more more (Ok (Some (Text shown)), next, takes) = record {
      lines = has.lines ++ takes.0 ∷ [];
      stands = takes.2 has.lines has.stands;
      up_to = up_to_then old now new None has.up_to (up_to_next now new (Ok (Some (Text shown))) next);
      comes = told_line (Some (Text shown)) _ next (λ was between left comes gives.
          subst (Comes network (old.pending ++ was) (has.lines ++ takes.0 ∷ [])) (sym gives.2)
          (comes_more network (old.pending ++ was) (now.pending ++ between) has.lines takes.0 is comes gives.0
          (line_said network is _ takes.0 gives.1.0 (subst (λ bytes. SaysLine network bytes takes.0) gives.1.1 takes.1))));
    }
    has_more more (Ok (Some Long), next, takes) = absurd takes
    has_more more (Ok None, next, takes) = absurd takes
    has_more more (Err fault, next, takes) = absurd takes

    pub has_refused : IsNextStep source network draft now new (Ok Refused)
        → WhereTold (source.content old.source) (source.content new.source) (λ was _. (lines : List CertLine) → IsCertText network (old.pending ++ was) lines → ⊥)
    has_refused (Ok (Some (Text shown)), next, refuse) = told_line (Some (Text shown)) _ next (λ was between left comes gives.
        comes_refused network (old.pending ++ was) (now.pending ++ between) has.lines comes gives.0
        (λ line there. refuse has.lines has.stands line (subst (λ bytes. SaysLine network bytes line) (sym gives.1.1) (said_line network is _ line there))))
    has_refused (Ok (Some Long), next, takes) = told_line (Some Long) _ next (λ was between left comes gives.
        comes_refused network (old.pending ++ was) (now.pending ++ between) has.lines comes gives.0 (λ line there. absurd (omega (arith, gives.1, there.short))))
    has_refused (Ok None, next, takes) = absurd takes
    has_refused (Err fault, next, takes) = absurd takes

    -- all was read, so the draft is the text's, if it is whole
    pub has_all : (last : Draft) (whole : Option Body) → IsNextStep source network draft now new (Ok (Over last)) → IsWholeIf network last whole → ReadsCertText source network old new (Ok whole)
    has_all last None (Ok None, next, same) whole_if = told_line None _ next (λ was between left comes gives.
        comes_no_text network (old.pending ++ was) has.lines (subst (Comes network (old.pending ++ was) has.lines) gives.0 comes) (whole_if has.lines (subst (IsDraftOf network has.lines) (sym same) has.stands)))
    has_all last (Some body) (Ok None, next, same) whole_if =
        let made = whole_if has.lines (subst (IsDraftOf network has.lines) (sym same) has.stands) in (
          has.lines,
          made.0,
          made.2,
          made.1,
          told_line None _ next (λ was between left comes gives. comes_whole network (old.pending ++ was) has.lines (subst (Comes network (old.pending ++ was) has.lines) gives.0 comes) made.1),
          told_line None _ next (λ was between left comes gives. gives.1),
        )
    has_all last whole (Ok (Some (Text shown)), next, takes) whole_if = absurd takes
    has_all last whole (Ok (Some Long), next, takes) whole_if = absurd takes
    has_all last whole (Err fault, next, takes) whole_if = absurd takes
