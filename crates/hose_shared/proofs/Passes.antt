-- Passes that go on.
use Rattle.std.proofs.Common.{◌≡◌, ◌⊎◌, inl, inr, ℕ, ◌+◌, ◌<◌, ◌≤◌, All, List, [], ◌∷◌, ◌++◌, length, take, Option, None, Some, IfSome, refl, sym, ap, subst, ◌∙◌, arith, append_assoc}
use Rattle.std.specs.List.{slice_get}
use Rattle.std.proofs.lemmas.Bool.Decides.{nat_tests}
use Rattle.std.proofs.lemmas.List.{get_or_append_left, length-append}
use Rattle.std.proofs.lemmas.List.Elements.{All-cons, All-nil, All-weaker}
use Rattle.std.proofs.lemmas.Option.{get_or_from_slice_get, slice_get-get_or, slice_get_within}
use Rattle.std.proofs.Math.Seq.{get_or-append_seam, take-append_seam}
use mathlib.Core.List.{IsPrefix}
use Rattle.hose_io.specs.Frame.{Frame}
use Rattle.hose_graph.specs.declared.entry.Entry.{Entry}
use Rattle.hose_graph.specs.declared.command.Command.{Command}
use Rattle.hose_graph.specs.declared.command.Reply.{Reply}
use Rattle.hose_graph.specs.Network.{Network}
use Rattle.hose_law.specs.Answer.{IsStepOf, with_entry}
use Rattle.hose_law.specs.History.{IsDecidedAt, book_of}
use Rattle.hose_law.specs.Quotes.{Holding}
use Rattle.hose_law.proofs.Fronts.{front_of, prefix_length, prefix_on, prefix_same}
use Rattle.hose_law.proofs.Transcripts.{front_longer}
use Rattle.hose_book.specs.steps.Commit.{IsMet}
use Rattle.hose_book.specs.declared.books.Committed.{Committed}
use Rattle.hose_book.specs.declared.books.Committed.TheVariants.{Done, Disk}
use Rattle.hose_turn.specs.Faults.{end_of_count}
use Rattle.hose_turn.specs.steps.Faults.{rise}
use Rattle.hose_turn.specs.declared.view.Tried.{Tried}
use Rattle.hose_turn.specs.Known.{Known}
use Rattle.hose_shared.specs.Trying.{IsTriedBy}
use Rattle.hose_turn.specs.steps.Known.{HasOwnPlaces}
use Rattle.hose_shared.specs.steps.Along.{HasEntryAt, IsCheapestEntry, StepsAlong}
use Rattle.hose_shared.specs.steps.Sharing.{HasSeenMore, IsSamePass}
use Rattle.hose_shared.specs.steps.Turns.{StepsAt, place_of}

-- ---- beginnings

pub prefix_joined : (all : List Entry) (joined : Option Entry) → IsPrefix all (with_entry all joined)
prefix_joined all None = prefix_same all
prefix_joined all (Some entry) = (entry ∷ [], refl)

-- ---- faults

pub met_above : (before after : Frame) (result : Committed) → IsMet before result after → before.faults ≤ after.faults
met_above before after Done same = let is = ap (λ (f : Frame). f.faults) same in omega arith
met_above before after Disk met = met.0.never_falls

rises : (floor count : ℕ) → (floor < count) ⊎ (end_of_count ≤ count) → rise floor count ≡ 1
rises floor count rose = grind (arith, nat_tests)

pub failed_rise : (before after : Frame) (result : Committed) → IsMet before result after → result ≡ Disk → rise before.faults after.faults ≡ 1
failed_rise before after Done met is = absurd (cc is)
failed_rise before after Disk met is = rises before.faults after.faults met.1.rose

-- ---- passes

pub same_on : (one two three : Known) → IsSamePass one two → IsSamePass two three → IsSamePass one three
same_on one two three here there = record {
  turn = there.turn ∙ here.turn;
  origin = there.origin ∙ here.origin;
  share = there.share ∙ here.share;
  seen = prefix_on one.seen two.seen three.seen here.seen there.seen;
  faults = let a = here.faults in let b = there.faults in omega arith;
  places = there.places;
}

pub more_on : (one two three : Known) → HasSeenMore one two → HasSeenMore two three → HasSeenMore one three
more_on one two three here there = record { same = same_on one two three here.same there.same; own = there.own ∙ here.own; tried = there.tried ∙ here.tried }

module _ (network : Network) (customer : List ℕ) (held : Holding) (command : Command) (answer : Reply) where
  -- a step of a pass that had seen more
  abbrev pub along_on : (one two three : Known) → HasSeenMore one two → StepsAlong network customer held command answer two three → StepsAlong network customer held command answer one three
  along_on one two three more along = record {
    place = along.place;
    next = along.next;
    left = along.left;
    added = along.added;
    step = along.step;
    entries = along.entries;
    later = let a = prefix_length one.seen two.seen more.same.seen in let b = along.later in omega arith;
    same = same_on one two three more.same along.same;
    own = along.own ∙ ap (λ (own : List ℕ). own ++ along.added) more.own;
    tries = along.tries;
    tried = along.tried ∙ ap (λ (tried : List Tried). tried ++ along.tries) more.tried;
    asked = along.asked;
    failed = λ is. let a = more.same.faults in let b = along.failed is in omega arith;
  }

  pub moves : (before seen : List Entry) (joined : Option Entry) → IsPrefix (with_entry before joined) seen
      → ((with_entry before joined ≡ take (length before) seen) × (length (with_entry before joined) ≡ length before) × (place_of before joined ≡ []))
      ⊎ ((length before < length seen) × (with_entry before joined ≡ take (length before + 1) seen) × (length (with_entry before joined) ≡ length before + 1) × (place_of before joined ≡ length before ∷ []))
  moves before seen None (rest, same) = inl (sym (ap (take (length before)) (sym same) ∙ take-append_seam before rest), refl, refl)
  moves before seen (Some entry) (rest, same) =
      let one : length (before ++ entry ∷ []) ≡ length before + 1 = length-append before (entry ∷ []) in
      let all = length-append (before ++ entry ∷ []) rest in
      let whole = ap length same in
      inr (omega arith, sym (ap (λ (n : ℕ). take n seen) (sym one) ∙ ap (take (length (before ++ entry ∷ []))) (sym same) ∙ take-append_seam (before ++ entry ∷ []) rest), one, refl)

  pub entry_there : (before seen : List Entry) (joined : Option Entry) → IsPrefix (with_entry before joined) seen → take (length before) seen ≡ before → IfSome joined (IsDecidedAt network (book_of 0 before))
      → IfSome joined (IsCheapestEntry network (book_of 0 before)) → All (HasEntryAt network seen) (place_of before joined)
  entry_there before seen None prefix front decided cheapest = All-nil (HasEntryAt network seen)
  entry_there before seen (Some entry) (rest, same) front decided cheapest =
      let split : before ++ entry ∷ rest ≡ seen = sym (append_assoc before (entry ∷ []) rest) ∙ same in
      let within : length before < length (before ++ entry ∷ rest) = let a = length-append before (entry ∷ rest) in omega arith in
      let there = slice_get-get_or (before ++ entry ∷ rest) (length before) entry within ∙ ap Some (get_or-append_seam before entry rest entry) in
      All-cons (HasEntryAt network seen) (length before) [] (record {
        entry = entry;
        there = subst (λ (all : List Entry). slice_get all (length before) ≡ Some entry) split there;
        decided = subst (λ (all : List Entry). IsDecidedAt network (book_of 0 all) entry) (sym front) decided;
        cheapest = subst (λ (all : List Entry). IsCheapestEntry network (book_of 0 all) entry) (sym front) cheapest;
      }) (All-nil (HasEntryAt network seen))

  -- a step after all that a pass has seen is one along its history
  abbrev pub along_of : (one two three : Known) → HasSeenMore one two → StepsAt network customer held command answer two.seen two three → StepsAlong network customer held command answer one three
  along_of one two three more at =
      let front : take (length two.seen) three.seen ≡ two.seen = front_of two.seen three.seen (prefix_on two.seen (with_entry two.seen at.joined) three.seen (prefix_joined two.seen at.joined) at.seen) in
      record {
        place = length two.seen;
        next = length (with_entry two.seen at.joined);
        left = at.after;
        added = place_of two.seen at.joined;
        step = record {
          next = with_entry two.seen at.joined;
          there = prefix_length two.seen three.seen (prefix_on two.seen (with_entry two.seen at.joined) three.seen (prefix_joined two.seen at.joined) at.seen);
          step = (at.entry, subst (λ (all : List Entry). IsStepOf network 0 all customer held command answer at.entry (with_entry two.seen at.joined) at.after) (sym front) at.step);
          moves = moves two.seen three.seen at.joined at.seen;
        };
        entries = entry_there two.seen three.seen at.joined at.seen front at.decided at.cheapest;
        later = prefix_length one.seen two.seen more.same.seen;
        same = same_on one two three more.same at.same;
        own = at.own ∙ ap (λ (own : List ℕ). own ++ place_of two.seen at.joined) more.own;
        tries = at.tries;
        tried = at.tried ∙ ap (λ (tried : List Tried). tried ++ at.tries) more.tried;
        asked = subst (λ (all : List Entry). All (IsTriedBy network all customer held command answer) at.tries) (sym front) at.asked;
        failed = λ is. let a = more.same.faults in let b = at.failed is in omega arith;
      }

-- a pass that took its turn
pub locked_more : (pass holder : Known) → holder ≡ record pass { seen = holder.seen } → IsPrefix pass.seen holder.seen → HasOwnPlaces holder → HasSeenMore pass holder
locked_more pass holder is seen places = record {
  same = record {
    turn = ap (λ (k : Known). k.turn) is;
    origin = ap (λ (k : Known). k.origin) is;
    share = ap (λ (k : Known). k.share) is;
    seen = seen;
    faults = let a = ap (λ (k : Known). k.faults) is in omega arith;
    places = places;
  };
  own = ap (λ (k : Known). k.own) is;
  tried = ap (λ (k : Known). k.tried) is;
}

-- a pass that gave it on
pub unlocked_more : (pass holder new : Known) (more : ℕ) → HasSeenMore pass holder → new ≡ record holder { faults = holder.faults + more } → HasSeenMore pass new
unlocked_more pass holder new more seen is = more_on pass holder new seen (record {
  same = record {
    turn = ap (λ (k : Known). k.turn) is;
    origin = ap (λ (k : Known). k.origin) is;
    share = ap (λ (k : Known). k.share) is;
    seen = subst (IsPrefix holder.seen) (sym (ap (λ (k : Known). k.seen) is)) (prefix_same holder.seen);
    faults = let a = ap (λ (k : Known). k.faults) is in omega arith;
    places = subst HasOwnPlaces (sym is) seen.same.places;
  };
  own = ap (λ (k : Known). k.own) is;
  tried = ap (λ (k : Known). k.tried) is;
})

-- a pass that took no turn
pub more_same : (pass : Known) → HasOwnPlaces pass → HasSeenMore pass pass
more_same pass places = record { same = record { turn = refl; origin = refl; share = refl; seen = prefix_same pass.seen; faults = omega arith; places = places }; own = refl; tried = refl }

-- ---- entries

-- what stands at a place stands there in a longer history
pub entry_longer : (network : Network) (history longer : List Entry) (place : ℕ) → IsPrefix history longer → HasEntryAt network history place → HasEntryAt network longer place
entry_longer network history longer place (rest, same) at = record {
  entry = at.entry;
  there = subst (λ (all : List Entry). slice_get all place ≡ Some at.entry) same
      (slice_get-get_or (history ++ rest) place at.entry (omega (arith, within, length-append history rest)) ∙ ap Some (get_or_append_left history rest at.entry place within ∙ get_or_from_slice_get history place at.entry at.entry at.there));
  decided = subst (λ (all : List Entry). IsDecidedAt network (book_of 0 all) at.entry) front at.decided;
  cheapest = subst (λ (all : List Entry). IsCheapestEntry network (book_of 0 all) at.entry) front at.cheapest;
}
  where
    within : place < length history
    within = slice_get_within history place at.entry at.there

    front : take place history ≡ take place longer
    front = front_longer history longer place (rest, same) (omega (arith, within))

-- and so at all places
pub entries_longer : (network : Network) (history longer : List Entry) (places : List ℕ) → IsPrefix history longer → All (HasEntryAt network history) places → All (HasEntryAt network longer) places
entries_longer network history longer places prefix all = All-weaker (HasEntryAt network history) (HasEntryAt network longer) (λ place there. entry_longer network history longer place prefix there) places all
