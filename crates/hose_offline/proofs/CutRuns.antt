-- A run whose last reply was cut off: when its input was asked last.
use Rattle.std.proofs.Common.{◌≡◌, ◌⊎◌, ℕ, ◌+◌, ◌<◌, ◌≤◌, IsTrue, IsFalse, List, [], ◌∷◌, ◌++◌, length, Option, None, Some, IfSome, IsSomeAnd, MutBor, inl, inr, ⊎_elim, ap, arith, length-append}
use Rattle.std.proofs.lemmas.Bool.{cases_Bool, cases_lt}
use Rattle.std.proofs.lemmas.List.{length-drop, nil_from_length}
use Rattle.std.specs.List.{position_or_len}
use Rattle.hose_io.specs.Stream.{Stream}
use Rattle.hose_io.specs.steps.Borrowed.{borrowed}
use Rattle.hose_io.specs.declared.source.Source.{Ghosts}
use Rattle.hose_words.specs.Asking.{IsAskedBefore, IsWithinLines}
use Rattle.hose_words.specs.Lines.{IsAfterLines, PassesOver, is_line_feed}
use Rattle.hose_words.specs.Reading.{WhereTold}
use Rattle.hose_words.specs.steps.Lines.{Reader, WhereAsked}
use Rattle.hose_words.specs.steps.Reading.{IsAskedAfterLines, ReadsOn}
use Rattle.hose_words.proofs.OnReading.{IsAfterLines-then, WhereTold-both, WhereTold-map}
use Rattle.hose_graph.specs.Network.{Network}
use Rattle.hose_topo.specs.TopologyText.{AddLines, IsTopologyText, no_more, one_more}
use Rattle.hose_talk.specs.Talk.{IsCutNear}
use Rattle.hose_talk.specs.steps.Talk.{IsCutByReader}
use Rattle.hose_offline.specs.Run.{HasRun, IsCutOff, Keeping}

-- ---- lengths

after_shorter : (text line : List ℕ) → IsAfterLines text line → length line ≤ length text
after_shorter text line (inl same) = omega (arith, ap length same)
after_shorter text line (inr (front, same)) = omega (arith, ap length same, length-append front (10 ∷ line))

added_shorter : {first last : Network} {text rest : List ℕ} {count : ℕ} → AddLines first text count last rest → length rest ≤ length text
added_shorter no_more = omega arith
added_shorter {text = text} (one_more words has adds more) = omega (arith, added_shorter more, length-drop (position_or_len is_line_feed text + 1) text)

-- a topology takes a line at least
topology_shorter : (text rest : List ℕ) (network : Network) → IsTopologyText text network rest → length rest < length text
topology_shorter text rest network is =
    let some : 0 < length is.end = ⊎_elim (λ more. more) (λ none. absurd (is.line.some (nil_from_length is.end (omega (arith, none))))) (cases_lt 0 (length is.end)) in
    omega (arith, added_shorter is.lines, ap length is.left, length-drop (position_or_len is_line_feed is.end + 1) is.end, some)

and_some : (o : Option Stream) (P Q : Stream → Type 0) → ((s : Stream) → P s → Q s) → IsSomeAnd o P → IsSomeAnd o Q
and_some None P Q other is = absurd is
and_some (Some stream) P Q other is = other stream is

-- ---- after a topology

module _ {S : Type 0} (source : Ghosts S) (start middle last : Reader S) (told : Network) (empty : start.pending ≡ [])
    (text : WhereTold (source.content start.source) (source.content middle.source) (λ input left. IsTopologyText (start.pending ++ input) told (middle.pending ++ left)))
    (reads : ReadsOn source start middle) (none : middle.fault ≡ None) (more : ReadsOn source middle last) where
  -- the source was asked last while the topology was read
  earlier : (middle.source ≡ start.source) ⊎ IsAskedAfterLines source start middle
      → WhereTold (source.content start.source) (source.content middle.source) (λ input left. (behind : List ℕ) → last.source ≡ middle.source → length behind < length (middle.pending ++ left) → IsAskedBefore source last.source (start.pending ++ input) behind)
  earlier (inl before) = at (source.content start.source) (source.content middle.source) (ap source.content before) text
    where
      at : (was now : Option Stream) → now ≡ was → WhereTold was now (λ input left. IsTopologyText (start.pending ++ input) told (middle.pending ++ left))
          → WhereTold was now (λ input left. (behind : List ℕ) → last.source ≡ middle.source → length behind < length (middle.pending ++ left) → IsAskedBefore source last.source (start.pending ++ input) behind)
      at None now is read = tt
      at (Some w) None is read = tt
      at (Some w) (Some n) is read = λ behind same less.
          let all : n.left ≡ w.left = cc is in
          absurd (omega (arith, topology_shorter (start.pending ++ w.left) (middle.pending ++ n.left) told read, ap length empty, ap length all, length-append start.pending w.left, length-append middle.pending n.left))
  earlier (inr is) = WhereTold-map (source.content start.source) (source.content middle.source) _ _
      (at (source.content start.source) (source.content is.asked) (source.content middle.source) is.lines)
      (λ input left within behind same less. (is.asked, rw same is.went, within behind less))
    where
      at : (was then now : Option Stream) → WhereAsked was then (λ input left. IfSome now (λ after. (line : List ℕ) × IsAfterLines (start.pending ++ input) line × PassesOver line left × (length (middle.pending ++ after.left) ≤ length line)))
          → WhereTold was now (λ input left. (behind : List ℕ) → length behind < length (middle.pending ++ left) → IsSomeAnd then (λ stream. IsWithinLines (start.pending ++ input) behind stream.left))
      at None then now lines = tt
      at (Some w) then None lines = tt
      at (Some w) None (Some n) lines = absurd lines
      at (Some w) (Some t) (Some n) lines = λ behind less. (lines.0, lines.1, lines.2, omega (arith, less, lines.3))

  -- how the whole input stands where a reply was cut off, by how it stands behind the topology
  pub cut_in_run : WhereTold (source.content start.source) (source.content middle.source) (λ input left. (behind rest : List ℕ)
      → IsCutByReader source middle last (middle.pending ++ left) behind rest → IsCutNear source last.source (start.pending ++ input) behind rest)
  cut_in_run = ⊎_elim at_end before_end (cases_Bool middle.ended)
    where
      less : (left behind : List ℕ) → ((last.source ≡ middle.source) × (length behind < length (middle.pending ++ left))) ⊎ IsAskedBefore source last.source (middle.pending ++ left) behind → length behind < length (middle.pending ++ left)
      less left behind (inl (same, is)) = is
      less left behind (inr (asked, went, within)) = at (source.content asked) within
        where
          at : (o : Option Stream) → IsSomeAnd o (λ stream. IsWithinLines (middle.pending ++ left) behind stream.left) → length behind < length (middle.pending ++ left)
          at None is = absurd is
          at (Some stream) is = omega (arith, is.3, after_shorter (middle.pending ++ left) is.0 is.1)

      Goal : Type 0
      Goal = WhereTold (source.content start.source) (source.content middle.source) (λ input left. (behind rest : List ℕ)
          → IsCutByReader source middle last (middle.pending ++ left) behind rest → IsCutNear source last.source (start.pending ++ input) behind rest)

      at_end : IsTrue middle.ended → Goal
      at_end ended = WhereTold-map (source.content start.source) (source.content middle.source) _ _ (earlier reads.asked)
          (λ input left asked behind rest cut. (cut.0, asked behind (more.after_end ended) (less left behind cut.1)))

      before_end : IsFalse middle.ended → Goal
      before_end before = WhereTold-map (source.content start.source) (source.content middle.source) _ _
          (WhereTold-both (source.content start.source) (source.content middle.source) _ _ (reads.whole none before) (earlier reads.asked))
          (λ input left both behind rest cut. (cut.0, by input left behind both.0 (both.1 behind) cut.1))
        where
          by : (input left behind : List ℕ) → IsAfterLines (start.pending ++ input) (middle.pending ++ left) → (last.source ≡ middle.source → length behind < length (middle.pending ++ left) → IsAskedBefore source last.source (start.pending ++ input) behind) → ((last.source ≡ middle.source) × (length behind < length (middle.pending ++ left))) ⊎ IsAskedBefore source last.source (middle.pending ++ left) behind
              → IsAskedBefore source last.source (start.pending ++ input) behind
          by input left behind whole asked (inl (same, is)) = asked same is
          by input left behind whole earlier (inr (asked, went, within)) = (asked, went, and_some (source.content asked) _ _ (λ stream is. (is.0, IsAfterLines-then (start.pending ++ input) (middle.pending ++ left) is.0 whole is.1, is.2, is.3)) within)

-- ---- in other words

module _ (prices : Network → Network → Type 0) (keeping : Keeping) (old new : Option Stream) where
  -- a run whose lines end in other words
  pub run_ending : (stops its : List ℕ → List ℕ → List ℕ → Type 0) → ((text rest left : List ℕ) → stops text rest left → its text rest left) → HasRun prices keeping old new stops → HasRun prices keeping old new its
  run_ending stops its other run = record {
    told = run.told;
    network = run.network;
    priced = run.priced;
    since = run.since;
    history = run.history;
    lines = run.lines;
    replies = run.replies;
    begun = run.begun;
    begins = run.begins;
    text = WhereTold-map old new _ _ run.text (λ input left text. (text.0, text.1, text.2, text.3, other input text.1 left text.4));
    left = run.left;
    script = run.script;
    decided = run.decided;
    keeps = run.keeps;
    provides = run.provides;
  }

-- what is told of a borrow is told of the source behind it
pub cut_behind : {T : Type 0} (source : Ghosts T) (prices : Network → Network → Type 0) (keeping : Keeping) (last : MutBor T) (old new : Option Stream) (before after : Option (List ℕ)) → IsCutOff prices keeping (IsCutNear (borrowed source) last) old new before after
    → IsCutOff prices keeping (IsCutNear source last.now) old new before after
unfolding run_ending
cut_behind source prices keeping last old new before after cut = record {
  run = run_ending prices keeping old new (IsCutNear (borrowed source) last) (IsCutNear source last.now) (λ text rest left is. (is.0, (is.1.0.now, is.1.1, is.1.2))) cut.run;
  out = cut.out;
}
