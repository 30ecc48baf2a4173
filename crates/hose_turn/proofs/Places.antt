-- Some of the places of a history, each once.
use Rattle.std.proofs.Common.{◌≡◌, ℕ, ◌+◌, ◌≤◌, List, [], ◌∷◌, ◌++◌, length, refl, arith}
use Rattle.std.proofs.lemmas.List.Sums.{sum_by-append}
use Rattle.std.proofs.lemmas.Bool.Decides.{nat_tests}
use mathlib.Core.List.{IsPrefix}
use Rattle.hose_graph.specs.declared.entry.Entry.{Entry}
use Rattle.hose_turn.specs.declared.view.View.{View}
use Rattle.hose_turn.specs.steps.Views.{glued, settled, IsAtRest}
use Rattle.hose_turn.proofs.Prefix.{prefix_length}
use Rattle.hose_turn.specs.Places.{times, one_within}
use Rattle.hose_turn.specs.steps.Places.{HasSomePlaces, AreApart}

pub times-append : (place : ℕ) (xs ys : List ℕ) → times place (xs ++ ys) ≡ times place xs + times place ys
times-append place xs ys = sum_by-append _ xs ys

pub one_within-push : (first last place : ℕ) → first ≤ last → one_within first (last + 1) place ≡ one_within first last place + times place (last ∷ [])
one_within-push first last place le = grind (arith, nat_tests)

pub one_within-none : (first place : ℕ) → one_within first first place ≡ 0
one_within-none first place = grind (arith, nat_tests)

one_within-one : (first last place : ℕ) → one_within first last place ≤ 1
one_within-one first last place = grind (arith, nat_tests)

-- where two have a place once together, and each has it below a bound, they have it once below what neither bound is above
one_within-both : (first last since one after other longer place a b : ℕ) → a + b ≤ one_within first last place → a ≤ one_within since one place → b ≤ one_within after other place
    → one ≤ longer → other ≤ longer → a + b ≤ one_within first longer place
one_within-both first last since one after other longer place a b both mine theirs le le' = grind (arith, nat_tests)

pub no_places : (first last : ℕ) → HasSomePlaces first last []
no_places first last place = omega arith

pub places_both : (first last since one after other longer : ℕ) (places others : List ℕ) → HasSomePlaces first last (places ++ others) → HasSomePlaces since one places → HasSomePlaces after other others
    → one ≤ longer → other ≤ longer → HasSomePlaces first longer (places ++ others)
places_both first last since one after other longer places others both mine theirs le le' place =
    let sum = times-append place places others in
    let whole = one_within-both first last since one after other longer place (times place places) (times place others) (let a = both place in omega arith) (mine place) (theirs place) le le' in omega arith

pub places_apart : (first last : ℕ) (places others : List ℕ) → HasSomePlaces first last (places ++ others) → AreApart places others
places_apart first last places others both place = let a = both place in let b = times-append place places others in let c = one_within-one first last place in omega arith

-- what a join leaves, once it looked at what it was told
pub rests_both : (view theirs : View) (longer : List Entry) (last : ℕ) → IsAtRest view → IsAtRest theirs → IsPrefix view.seen longer → IsPrefix theirs.seen longer
    → HasSomePlaces (length view.origin.since) last (view.own ++ theirs.own) → IsAtRest (settled (glued view theirs) longer)
rests_both view theirs longer last mine other seen told owned = record {
  live = let a = mine.live in omega arith;
  ticket = mine.ticket;
  turn = mine.turn;
  told = refl;
  own = places_both (length view.origin.since) last (length view.origin.since) (length view.seen) (length theirs.origin.since) (length theirs.seen) (length longer) view.own theirs.own owned mine.own other.own
      (prefix_length view.seen longer seen) (prefix_length theirs.seen longer told);
}
