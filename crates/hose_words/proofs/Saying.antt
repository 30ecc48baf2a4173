-- Lines of a source that say something, one after the other.
use Rattle.std.proofs.Common.{◌≡◌, ◌≢◌, ◌⊎◌, inl, inr, ℕ, List, [], ◌∷◌, ◌++◌, Option, None, Some, Ok, Err, refl, sym, ◌∙◌, ap, subst, arith, length, length-append, append-nil}
use Rattle.std.proofs.lemmas.Grind.{flat_map-append}
use Rattle.std.proofs.lemmas.List.{nil_from_length}
use Rattle.std.specs.Prelude.{IfSome, ⊤}
use Rattle.std.specs.List.{before_first, after_first, flat_map}
use Rattle.hose_io.specs.Frame.{Rose}
use Rattle.hose_io.specs.Stream.{Stream}
use Rattle.hose_io.specs.declared.source.Source.{Ghosts}
use Rattle.hose_words.specs.Lines.{IsAfterLines, StopsAfterLines, is_line_feed}
use Rattle.hose_words.specs.steps.Lines.{GivesLine, IsNext, Reader, Shows}
use Rattle.hose_words.specs.Reading.{WhereTold}
use Rattle.hose_words.specs.steps.Reading.{ReadsOn}
use Rattle.hose_words.specs.Saying.{IsAllTaken, SayLines, no_line, one_more}
use Rattle.hose_words.specs.steps.Saying.{IsOver, SaysUpTo, StopsReading, TakesLine}
use Rattle.hose_words.specs.declared.lines.Line.{Line}
use Rattle.hose_words.specs.declared.lines.LineFault.{LineFault}
use Rattle.hose_words.specs.declared.lines.LineFault.TheVariants as line_fault
use Rattle.hose_words.proofs.OnReading.{WhereTold-both, WhereTold-map, WhereTold-then}

-- one item more, and its part
pub flat_map-last : {A B : Type 0} (f : A → List B) (items : List A) (last : A) → flat_map f (items ++ last ∷ []) ≡ flat_map f items ++ f last
flat_map-last f items last = flat_map-append f items (last ∷ []) ∙ ap (λ t. flat_map f items ++ t) (append-nil (f last))

behind_nothing : (xs ys : List ℕ) → xs ++ ys ≡ [] → ys ≡ []
behind_nothing xs ys none = nil_from_length ys (omega (arith, ap length none, length-append xs ys))

-- nothing is said at first
pub said_none : {L : Type 0} (Says : List L → List ℕ → L → Type 0) (pending : List ℕ) (content : Option Stream) → WhereTold content content (λ was left. SayLines Says (pending ++ was) [] (pending ++ left))
said_none Says pending None = tt
said_none Says pending (Some stream) = no_line

module _ {S : Type 0} (source : Ghosts S) where
  -- the next line of a reader is so, where what is shown is
  pub takes_line : (old new : Reader S) (shown : Line) (Is : List ℕ → Type 0) → IsNext source old new (Ok (Some shown)) → ((bytes : List ℕ) → Shows shown bytes → Is bytes) → TakesLine source old new Is
  takes_line old new shown Is next shows = at (source.content old.source) (source.content new.source) (next.answer next.fault.0)
    where
      at : (before after : Option Stream) → IfSome before (λ b. IfSome after (λ a. GivesLine (Some shown) (old.pending ++ b.left) (new.pending ++ a.left)))
          → WhereTold before after (λ was now. (old.pending ++ was ≢ []) × Is (before_first is_line_feed (old.pending ++ was)) × (new.pending ++ now ≡ after_first is_line_feed (old.pending ++ was)))
      at None after gives = tt
      at (Some b) None gives = tt
      at (Some b) (Some a) gives = (gives.0, shows (before_first is_line_feed (old.pending ++ b.left)) gives.1, gives.2)

  -- a fault of reading that was not met before was met now
  pub rose_now : (old new : Reader S) → old.fault ≡ None → (old.fault ≡ Some line_fault.Read) ⊎ Rose (source.frame old.source) (source.frame new.source) → Rose (source.frame old.source) (source.frame new.source)
  rose_now old new none (inl read) = absurd (cc (none, read))
  rose_now old new none (inr rose) = rose

  pub met_fault : (old new : Reader S) (met : LineFault) → old.fault ≡ None → IsNext source old new (Err met) → StopsReading source old new met
  met_fault old new met none next = record { stops = next.answer none; before_end = next.before_end none refl; kept = next.fault }

-- Lines that were to come at a start said this, and more may be taken.
module _ {S L : Type 0} (source : Ghosts S) (Says : List L → List ℕ → L → Type 0) (start now new : Reader S) (lines : List L)
    (said : WhereTold (source.content start.source) (source.content now.source) (λ was left. SayLines Says (start.pending ++ was) lines (now.pending ++ left))) (reads : ReadsOn source start now) where
  -- one line more
  pub said_more : (line : L) (Is : List ℕ → Type 0) → TakesLine source now new Is → ((bytes : List ℕ) → Is bytes → Says lines bytes line)
      → WhereTold (source.content start.source) (source.content new.source) (λ was left. SayLines Says (start.pending ++ was) (lines ++ line ∷ []) (new.pending ++ left))
  said_more line Is taken says =
      WhereTold-then (source.content start.source) (source.content now.source) (source.content new.source) reads.takes.0 _ _ _ reads.takes.1 said taken
      (λ a b c before here. subst (SayLines Says (start.pending ++ a) (lines ++ line ∷ [])) (sym here.2) (one_more line before here.0 (says _ here.1)))

  up_to : (front : List ℕ → List ℕ → Type 0) (stops : List ℕ → List ℕ → List ℕ → Type 0)
      → WhereTold (source.content start.source) (source.content now.source) (λ was left. front (start.pending ++ was) (now.pending ++ left))
      → WhereTold (source.content now.source) (source.content new.source) (λ was left. (text : List ℕ) → front text (now.pending ++ was) → stops text (now.pending ++ was) left)
      → SaysUpTo source start new Says lines stops
  up_to front stops fronts ends = WhereTold-then (source.content start.source) (source.content now.source) (source.content new.source) reads.takes.0 _ _ _ reads.takes.1
      (WhereTold-both (source.content start.source) (source.content now.source) _ _ said fronts) ends
      (λ a b c told end. (now.pending ++ b, told.0, end (start.pending ++ a) told.1))

  -- no line is left
  pub said_all : IsOver source now new → SaysUpTo source start new Says lines IsAllTaken
  said_all over = up_to (λ _ _. ⊤) IsAllTaken (WhereTold-map (source.content start.source) (source.content now.source) _ _ said (λ _ _ _. tt))
      (WhereTold-map (source.content now.source) (source.content new.source) _ _ over.ended (λ was left ended text _. (ended.0, behind_nothing new.pending left ended.1)))

  -- reading met a fault: the lines before all ended with line feeds, as a source is asked no more after one that did not
  pub said_until : (fault : LineFault) → now.fault ≡ None → StopsReading source now new fault → SaysUpTo source start new Says lines (StopsAfterLines fault)
  said_until fault none met = up_to IsAfterLines (StopsAfterLines fault) (reads.whole none met.before_end)
      (WhereTold-map (source.content now.source) (source.content new.source) _ _ met.stops (λ was left stops text lines. (lines, stops)))
