-- How far the reading of a topology has come, and what the next line makes of that.
use Rattle.std.proofs.Common.{◌≡◌, ◌∙◌, ℕ, ◌+◌, ◌≤◌, List, ◌++◌, Bor, Option, None, Some, Result, Ok, Err, inl, inr, refl, sym, ap, subst, arith, length}
use Rattle.std.specs.List.{after_first}
use Rattle.hose_io.specs.Stream.{Stream}
use Rattle.hose_io.specs.declared.source.Source.{Ghosts}
use Rattle.hose_words.specs.Words.{words_of}
use Rattle.hose_words.specs.Lines.{StopsAt, StopsAfterLines, is_line_feed}
use Rattle.hose_words.specs.steps.Lines.{Reader, GivesLine, IsNext}
use Rattle.hose_words.specs.Reading.{WhereTold}
use Rattle.hose_words.specs.steps.Reading.{ReadsOn}
use Rattle.hose_words.specs.declared.lines.Line.{Line}
use Rattle.hose_words.specs.declared.lines.Line.TheVariants.{Text, Long}
use Rattle.hose_words.specs.declared.lines.LineFault.{LineFault}
use Rattle.hose_words.specs.declared.lines.TheConstants.{INPUT_LIMIT}
use Rattle.hose_words.proofs.OnReading.{ReadsOn-next, ReadsOn-start, ReadsOn-then, WhereTold-both, WhereTold-map, WhereTold-same, WhereTold-then}
use Rattle.hose_graph.specs.Network.{Network, IsNetwork}
use Rattle.hose_words.specs.declared.lines.LineFault.TheVariants.{Read, TooLong}
use Rattle.hose_topo.specs.steps.Reading.{fault_of}
use Rattle.hose_topo.specs.steps.Taken.{TakesRead, TakesNext}
use Rattle.hose_words.proofs.Shapes.{wrong_of_form}
use Rattle.hose_topo.specs.TopologyText.{HasLine, AddLines, no_more, no_network, IsTopologyText, IsWrongLine, IsWrongAt, line_shape}
use Rattle.hose_topo.specs.steps.TopologyText.{line_grammar}
use Rattle.hose_topo.proofs.LinesTold.{adds_told, end_told}
use Rattle.hose_topo.specs.declared.line.Taken.{Taken}
use Rattle.hose_topo.specs.declared.line.Taken.TheVariants.{Added, End, Wrong}
use Rattle.hose_topo.proofs.TopologyLines.{AddLines-push, no_topology, topology_unique}
use Rattle.hose_topo.proofs.WrongWord.{agrees_line, wrong_line}

-- ---- what a line is that was given

-- the words of the first line, where it is shown
HasLine-shown : (shown : Bor (List ℕ)) (text rest : List ℕ) → GivesLine (Some (Text shown)) text rest → HasLine text (words_of shown.now)
HasLine-shown shown text rest gives = record {
  some = gives.0;
  short = gives.1.0;
  is_split = ap words_of gives.1.1;
}

-- a line that was read as wrong is wrong
is_wrong : (read : Option Line) (text rest : List ℕ) (was now : Network) (word : ℕ) → IsNetwork was → GivesLine read text rest → TakesRead (Ok read) (Ok (Wrong word)) was now → IsWrongLine was text word
is_wrong None text rest was now word is gives takes = inl (gives.0, takes.0)
is_wrong (Some Long) text rest was now word is gives takes = inr (inl (gives.1, takes.0))
is_wrong (Some (Text shown)) text rest was now word is gives takes =
    inr (inr (words_of shown.now, HasLine-shown shown text rest gives, takes.0, wrong_of_form (line_shape was) (line_grammar was) (agrees_line was is) (words_of shown.now) word takes.1))

-- whatever was given, what stands after the first line is left
left_after : (read : Option Line) (text rest : List ℕ) → GivesLine read text rest → rest ≡ after_first is_line_feed text
left_after None text rest gives = rw (gives.0, gives.1) refl
left_after (Some line) text rest gives = gives.2

-- what holds of whatever is left holds where it is told
pub told_all : (old new : Option Stream) (P : List ℕ → List ℕ → Type 0) → ((before after : List ℕ) → P before after) → WhereTold old new P
told_all None new P holds = tt
told_all (Some old) None P holds = tt
told_all (Some old) (Some new) P holds = holds old.left new.left

-- faults of reading are told apart by what they are called
pub fault_of_is : (one other : LineFault) → fault_of one ≡ fault_of other → one ≡ other
fault_of_is Read Read is = refl
fault_of_is Read TooLong is = absurd (cc is)
fault_of_is TooLong Read is = absurd (cc is)
fault_of_is TooLong TooLong is = refl

-- ---- how far the reading has come

module _ {S : Type 0} (source : Ghosts S) where
  -- the lines that were read, as many as counted, made this network, and no fault was met
  pub record HasRead (old now : Reader S) (count : ℕ) (network : Network) : Type 0 where
    pub on : ReadsOn source old now
    pub fault : now.fault ≡ old.fault
    pub lines : WhereTold (source.content old.source) (source.content now.source) (λ before after. AddLines no_network (old.pending ++ before) count network (now.pending ++ after))
    pub bytes : count + length now.pending + old.taken ≤ length old.pending + now.taken
    pub few : count ≤ length old.pending + INPUT_LIMIT + 1

  pub HasRead-start : (old : Reader S) → HasRead old old 0 no_network
  HasRead-start old = record {
    on = ReadsOn-start source old;
    fault = refl;
    lines = WhereTold-same (source.content old.source) _ (λ left. no_more);
    bytes = omega arith;
    few = omega arith;
  }

  -- what follows where a line more was given
  told_line : (old now new : Reader S) (count : ℕ) (was : Network) (line : Option Line) (R : List ℕ → List ℕ → Type 0) → HasRead old now count was → IsNext source now new (Ok line)
      → ((before between after : List ℕ) → AddLines no_network (old.pending ++ before) count was (now.pending ++ between) → GivesLine line (now.pending ++ between) (new.pending ++ after) → R before after)
      → WhereTold (source.content old.source) (source.content new.source) R
  told_line old now new count was line R has next then =
      WhereTold-then (source.content old.source) (source.content now.source) (source.content new.source) has.on.takes.0
      (λ before between. AddLines no_network (old.pending ++ before) count was (now.pending ++ between))
      (λ between after. GivesLine line (now.pending ++ between) (new.pending ++ after)) R
      has.on.takes.1 has.lines (next.answer next.fault.0) then

  -- ---- what the next line makes of it

  pub reads_on : (old now new : Reader S) (count : ℕ) (was next : Network) (taken : Result Taken LineFault) → HasRead old now count was → TakesNext source now new taken was next → ReadsOn source old new
  reads_on old now new count was next taken has (read, given, takes) = ReadsOn-then source old now new has.on (ReadsOn-next source now new read given)

  pub added : (old now new : Reader S) (count : ℕ) (was next : Network) → HasRead old now count was → TakesNext source now new (Ok Added) was next → HasRead old new (count + 1) next
  added old now new count was next has (Ok (Some (Text shown)), given, adds) = record {
    on = ReadsOn-then source old now new has.on (ReadsOn-next source now new _ given);
    fault = given.fault.1 ∙ (sym given.fault.0 ∙ has.fault);
    lines = told_line old now new count was (Some (Text shown)) _ has given (λ before between after lines gives.
        subst (AddLines no_network (old.pending ++ before) (count + 1) next) (sym gives.2) (AddLines-push (words_of shown.now) next lines (HasLine-shown shown _ _ gives) (adds_told was (words_of shown.now) next adds)));
    bytes = omega (arith, has.bytes, given.progress);
    few = omega (arith, has.bytes, given.progress, given.limit);
  }
  added old now new count was next has (Ok (Some Long), given, takes) = absurd takes
  added old now new count was next has (Ok None, given, takes) = absurd takes
  added old now new count was next has (Err fault, given, takes) = absurd takes

  pub ended : (old now new : Reader S) (count : ℕ) (was next : Network) → HasRead old now count was → TakesNext source now new (Ok End) was next
      → WhereTold (source.content old.source) (source.content new.source) (λ before after. IsTopologyText (old.pending ++ before) next (new.pending ++ after))
  ended old now new count was next has (Ok (Some (Text shown)), given, takes) =
      told_line old now new count was (Some (Text shown)) _ has given (λ before between after lines gives. record {
        end = now.pending ++ between;
        count = count;
        words = words_of shown.now;
        lines = rw takes.1 lines;
        line = HasLine-shown shown _ _ gives;
        is_end = rw takes.1 (end_told was (words_of shown.now) takes.0);
        left = gives.2;
      })
  ended old now new count was next has (Ok (Some Long), given, takes) = absurd takes
  ended old now new count was next has (Ok None, given, takes) = absurd takes
  ended old now new count was next has (Err fault, given, takes) = absurd takes

  pub ended_alone : (old now new : Reader S) (count : ℕ) (was next : Network) → HasRead old now count was → TakesNext source now new (Ok End) was next
      → WhereTold (source.content old.source) (source.content new.source) (λ before after. (other : Network) (rest : List ℕ) → IsTopologyText (old.pending ++ before) other rest
      → (other ≡ next) × (rest ≡ new.pending ++ after))
  ended_alone old now new count was next has takes =
      WhereTold-map (source.content old.source) (source.content new.source) _ _ (ended old now new count was next has takes)
      (λ before after text other rest there. topology_unique (old.pending ++ before) other next rest (new.pending ++ after) there text)

  -- the reader met a fault after lines that add to a network
  pub stopped : (old now new : Reader S) (count : ℕ) (was next : Network) (fault : LineFault) → HasRead old now count was → TakesNext source now new (Err fault) was next → old.fault ≡ None
      → WhereTold (source.content old.source) (source.content new.source) (λ before after. (network : Network) × (lines : ℕ) × (rest : List ℕ)
      × AddLines no_network (old.pending ++ before) lines network rest × StopsAfterLines fault (old.pending ++ before) rest after)
  stopped old now new count was next fault has (Err same, given, takes) none =
      let before_end = given.before_end (has.fault ∙ none) refl in
      WhereTold-then (source.content old.source) (source.content now.source) (source.content new.source) has.on.takes.0 _ _ _ has.on.takes.1
      (WhereTold-both (source.content old.source) (source.content now.source) _ _ has.lines (has.on.whole (has.fault ∙ none) before_end))
      (given.answer (has.fault ∙ none))
      (λ before between after lines stops. (was, count, now.pending ++ between, lines.0, (lines.1, subst (λ f. StopsAt f (now.pending ++ between) after) (sym takes.0) stops)))
  stopped old now new count was next fault has (Ok (Some (Text shown)), given, takes) none = absurd takes
  stopped old now new count was next fault has (Ok (Some Long), given, takes) none = absurd takes
  stopped old now new count was next fault has (Ok None, given, takes) none = absurd takes

  pub wrong : (old now new : Reader S) (count word : ℕ) (was next : Network) → IsNetwork was → HasRead old now count was → TakesNext source now new (Ok (Wrong word)) was next
      → WhereTold (source.content old.source) (source.content new.source) (λ before after. IsWrongAt (old.pending ++ before) (count + 1) word (new.pending ++ after))
  wrong old now new count word was next is has (Ok read, given, takes) =
      told_line old now new count was read _ has given (λ before between after lines gives. record {
        network = was;
        count = count;
        here = now.pending ++ between;
        lines = lines;
        is_line = refl;
        wrong = is_wrong read _ _ was next word is gives takes;
        left = left_after read _ _ gives;
      })
  wrong old now new count word was next is has (Err fault, given, takes) = absurd takes

  pub no_text : (old now new : Reader S) (count word : ℕ) (was next : Network) → IsNetwork was → HasRead old now count was → TakesNext source now new (Ok (Wrong word)) was next
      → WhereTold (source.content old.source) (source.content new.source) (λ before _. (network : Network) (rest : List ℕ) → IsTopologyText (old.pending ++ before) network rest → ⊥)
  no_text old now new count word was next is has (Ok read, given, takes) =
      told_line old now new count was read _ has given (λ before between after lines gives.
      no_topology (old.pending ++ before) (now.pending ++ between) count was lines (wrong_line was (now.pending ++ between) word is (is_wrong read _ _ was next word is gives takes)))
  no_text old now new count word was next is has (Err fault, given, takes) = absurd takes
