-- Words of the doors of a host, judged one after the other.
use Rattle.std.proofs.Common.{◌≡◌, ◌∙◌, ◌⊎◌, ℕ, ◌+◌, ◌-◌, ◌<◌, ◌≤◌, List, [], ◌∷◌, ◌++◌, inl, inr, zero, suc, length, drop, get_or, refl, sym, subst, arith, length-append}
use mathlib.Core.List.{map-id}
use Rattle.std.specs.List.{All}
use Rattle.std.proofs.lemmas.List.{get_or_at, get_or_default}
use Rattle.std.proofs.lemmas.List.Elements.{All-nil, All-push}
use Rattle.hose_doors.specs.Doors.{NamesDoor}
use Rattle.hose_doors.specs.steps.Doors.{AreDoorsUpTo}
use Rattle.hose_doors.specs.Limits.{most_doors}
use Rattle.hose_words.specs.steps.Cursor.{IsWrong}
use Rattle.hose_words.specs.steps.Form.{Follows, grammar_of}
use Rattle.hose_words.specs.steps.Grammar.{IsFirstNotAllowed}
use Rattle.hose_words.proofs.Passing.{All-front, IsClosed, Passes, pass_list}
use Rattle.hosed_requests.specs.HostWords.{AreDoorWords}
use Rattle.hosed_requests.specs.steps.HostForms.{doors_form}
use Rattle.hosed_requests.specs.steps.ProgramWords.{at_word}

-- ---- one door more

-- a word of a door as it is
abbrev same_word : List ℕ → List ℕ
same_word word = word

last_is : (P : List ℕ → Type 0) (words : List (List ℕ)) (word : List ℕ) → All P (words ++ word ∷ []) → P word
last_is P words word all = subst P (get_or_at words word [] [] (length words) refl) (all (length words) [] (omega (arith, length-append words (word ∷ []))))

door_more : (front : List (List ℕ)) (word : List ℕ) → All NamesDoor front → length front < most_doors → NamesDoor word → AreDoorWords (front ++ word ∷ [])
door_more front word doors room door = record {
  few = omega (arith, room, length-append front (word ∷ []));
  doors = All-push NamesDoor front word doors door;
}

door_follows : (front : List (List ℕ)) (word : List ℕ) → AreDoorWords (front ++ word ∷ []) → Follows doors_form front word
door_follows front word are = (front ++ word ∷ [], sym (map-id (front ++ word ∷ [])), are)

-- what follows is one door more
follows_door : (front : List (List ℕ)) (word : List ℕ) → Follows doors_form front word → AreDoorWords (front ++ word ∷ [])
follows_door front word (items, same, are) = subst AreDoorWords (sym (same ∙ map-id items)) are

-- ---- the first that is none

-- after so many words that name doors, the next one does not, or would be one too many
next_wrong : (front words : List (List ℕ)) (count : ℕ) → All NamesDoor front → length front + count ≤ most_doors → ((k : ℕ) → k < count → NamesDoor (get_or words k [])) → count < length words
    → (length front + count ≡ most_doors) ⊎ (NamesDoor (get_or words count []) → ⊥) → IsFirstNotAllowed (grammar_of doors_form) front words (length front + count + 1)
next_wrong front [] count doors few named below ends = absurd (omega (arith, below))
next_wrong front (word ∷ words) zero doors few named below (inl full) =
    inr ((λ follows. omega (arith, full, (follows_door front word follows).few, length-append front (word ∷ []))), omega arith)
next_wrong front (word ∷ words) zero doors few named below (inr never) =
    inr ((λ follows. never (last_is NamesDoor front word (follows_door front word follows).doors)), omega arith)
next_wrong front (word ∷ words) (suc count) doors few named below ends =
    let door : NamesDoor word = named 0 (omega arith) in
    let are = door_more front word doors (omega (arith, few)) door in
    let more : length (front ++ word ∷ []) ≡ length front + 1 = length-append front (word ∷ []) in
    let rest = next_wrong (front ++ word ∷ []) words count are.doors (omega (arith, few, more)) (λ k within. named (suc k) (omega (arith, within))) (omega (arith, below)) (later ends more) in
    inl (door_follows front word are, subst (λ (n : ℕ). IsFirstNotAllowed (grammar_of doors_form) (front ++ word ∷ []) words n) (omega (arith, more)) rest)
  where
    later : (length front + suc count ≡ most_doors) ⊎ (NamesDoor (get_or words count []) → ⊥) → length (front ++ word ∷ []) ≡ length front + 1 → (length (front ++ word ∷ []) + count ≡ most_doors) ⊎ (NamesDoor (get_or words count []) → ⊥)
    later (inl full) more = inl (omega (arith, full, more))
    later (inr never) more = inr never

-- the word after the last one that names a door is wrong, wherever they stand
pub door_wrong : (words doors : List (List ℕ)) (at count : ℕ) → 1 ≤ at → doors ≡ drop (at - 1) words → AreDoorsUpTo doors count → count < length doors → IsWrong doors_form (at_word at words) (at + count)
door_wrong words doors at count some is told below = record {
  place = count + 1;
  at = omega (arith, some);
  wrong = subst (λ (left : List (List ℕ)). IsFirstNotAllowed (grammar_of doors_form) [] left (count + 1)) is
      (subst (λ (n : ℕ). IsFirstNotAllowed (grammar_of doors_form) [] doors n) (omega arith) (next_wrong [] doors count (All-nil NamesDoor) (omega (arith, told.few)) told.named below (from_none (told.ends below))));
}
  where
    from_none : (count ≡ most_doors) ⊎ (NamesDoor (get_or doors count []) → ⊥) → (length {A = List ℕ} [] + count ≡ most_doors) ⊎ (NamesDoor (get_or doors count []) → ⊥)
    from_none (inl full) = inl (omega (arith, full))
    from_none (inr never) = inr never

-- there is no door
pub no_door_there : (words doors : List (List ℕ)) (at : ℕ) → 1 ≤ at → doors ≡ drop (at - 1) words → length doors ≡ 0 → IsWrong doors_form (at_word at words) at
no_door_there words doors at some is none = record {
  place = 1;
  at = omega (arith, some);
  wrong = subst (λ (left : List (List ℕ)). IsFirstNotAllowed (grammar_of doors_form) [] left 1) is (empty doors none);
}
  where
    empty : (left : List (List ℕ)) → length left ≡ 0 → IsFirstNotAllowed (grammar_of doors_form) [] left 1
    empty [] none = ((λ whole. omega (arith, whole)), refl)
    empty (word ∷ left) none = absurd (omega (arith, none))

-- ---- all of them

-- where all words name doors they are those of a host
pub all_doors : (doors : List (List ℕ)) (count : ℕ) → AreDoorsUpTo doors count → length doors ≤ count → AreDoorWords doors
all_doors doors count told all = record {
  few = omega (arith, told.few, all);
  doors = λ k d below. subst NamesDoor (get_or_default doors k [] d below) (told.named k (omega (arith, below, all)));
}

pub doors_closed : IsClosed AreDoorWords
doors_closed = record {
  front = λ xs ys some are. record { few = omega (arith, are.few, length-append xs ys); doors = All-front NamesDoor xs ys are.doors };
}

-- none of them is wrong
pub doors_pass : (doors : List (List ℕ)) → 1 ≤ length doors → AreDoorWords doors → Passes doors_form doors
doors_pass doors some are = subst (Passes doors_form) (map-id doors) (pass_list doors_closed some are)
