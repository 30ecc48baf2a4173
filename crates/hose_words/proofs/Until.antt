-- Words of a list that a word ends.
use Rattle.std.proofs.Common.{◌≡◌, ◌≢◌, ◌⊎◌, ℕ, ◌+◌, ◌≤◌, suc, List, [], ◌∷◌, ◌++◌, length, map, inl, inr, refl, sym, subst, arith, append_assoc, append-nil, length-append}
use Rattle.std.specs.List.{All}
use Rattle.std.proofs.lemmas.List.{length-map}
use Rattle.hose_words.specs.steps.Grammar.{IsFirstNotAllowed}
use Rattle.hose_words.specs.steps.Form.{Form, until, FollowsUntil, WholeUntil, Follows, IsWhole, TellsItems, grammar_of}
use Rattle.hose_words.specs.steps.Cursor.{Position, Took, IsWrong}
use Rattle.hose_words.proofs.Forms.{GoesOnAs, wrong_front}
use Rattle.hose_words.proofs.Listing.{Listing}

-- no word of these ends a list
abbrev pub HasNoLast : List ℕ → List (List ℕ) → Type 0
HasNoLast last words = All (λ word. word ≢ last) words

no_last_more : (last first : List ℕ) (words : List (List ℕ)) → HasNoLast last (first ∷ words) → HasNoLast last words
no_last_more last first words free = λ k d below. free (suc k) d (omega (arith, below))

module _ (tells : List (List ℕ) → Type 0) (least : ℕ) (last : List ℕ) (follows : List (List ℕ) → List ℕ → Type 0) where
  -- a word of the list or its end may come after words of the list
  pub until_more : (listed before : List (List ℕ)) (word : List ℕ) → HasNoLast last before → tells (listed ++ (before ++ word ∷ [])) ⊎ ((least ≤ length listed + length before) × (word ≡ last))
      → FollowsUntil tells least last follows listed before word
  until_more listed [] word free (inl told) = inl told
  until_more listed [] word free (inr (enough, is)) = inr (omega (arith, enough), is)
  until_more listed (first ∷ before) word free (inl told) =
      inr (free 0 first (omega arith), until_more (listed ++ first ∷ []) before word (no_last_more last first before free) (inl (subst tells (sym (append_assoc listed (first ∷ []) (before ++ word ∷ []))) told)))
  until_more listed (first ∷ before) word free (inr (enough, is)) =
      inr (free 0 first (omega arith), until_more (listed ++ first ∷ []) before word (no_last_more last first before free) (inr (omega (arith, enough, length-append listed (first ∷ [])), is)))

  -- and no other word
  pub until_only : (listed before : List (List ℕ)) (word : List ℕ) → HasNoLast last before → FollowsUntil tells least last follows listed before word
      → tells (listed ++ (before ++ word ∷ [])) ⊎ ((least ≤ length listed + length before) × (word ≡ last))
  until_only listed [] word free (inl told) = inl told
  until_only listed [] word free (inr (enough, is)) = inr (omega (arith, enough), is)
  until_only listed (first ∷ before) word free (inl (is, rest)) = absurd (free 0 first (omega arith) is)
  until_only listed (first ∷ before) word free (inr (other, rest)) = wider (until_only (listed ++ first ∷ []) before word (no_last_more last first before free) rest)
    where
      wider : tells ((listed ++ first ∷ []) ++ (before ++ word ∷ [])) ⊎ ((least ≤ length (listed ++ first ∷ []) + length before) × (word ≡ last))
          → tells (listed ++ ((first ∷ before) ++ word ∷ [])) ⊎ ((least ≤ length listed + length (first ∷ before)) × (word ≡ last))
      wider (inl told) = inl (subst tells (append_assoc listed (first ∷ []) (before ++ word ∷ [])) told)
      wider (inr (enough, is)) = inr (omega (arith, enough, length-append listed (first ∷ [])), is)

  -- after the end of the list comes what may stand there
  until_past : (listed seen before : List (List ℕ)) (word : List ℕ) → HasNoLast last seen → follows before word → FollowsUntil tells least last follows listed (seen ++ last ∷ before) word
  until_past listed [] before word free may = inl (refl, may)
  until_past listed (first ∷ seen) before word free may =
      inr (free 0 first (omega arith), until_past (listed ++ first ∷ []) seen before word (no_last_more last first seen free) may)

  past_only : (listed seen before : List (List ℕ)) (word : List ℕ) → HasNoLast last seen → FollowsUntil tells least last follows listed (seen ++ last ∷ before) word → follows before word
  past_only listed [] before word free (inl (is, may)) = may
  past_only listed [] before word free (inr (other, rest)) = absurd (other refl)
  past_only listed (first ∷ seen) before word free (inl (is, may)) = absurd (free 0 first (omega arith) is)
  past_only listed (first ∷ seen) before word free (inr (other, rest)) = past_only (listed ++ first ∷ []) seen before word (no_last_more last first seen free) rest

module _ (last : List ℕ) (whole : List (List ℕ) → Type 0) where
  whole_past : (seen before : List (List ℕ)) → HasNoLast last seen → whole before → WholeUntil last whole (seen ++ last ∷ before)
  whole_past [] before free is = inl (refl, is)
  whole_past (first ∷ seen) before free is = inr (free 0 first (omega arith), whole_past seen before (no_last_more last first seen free) is)

  whole_only : (seen before : List (List ℕ)) → HasNoLast last seen → WholeUntil last whole (seen ++ last ∷ before) → whole before
  whole_only [] before free (inl (is, rest)) = rest
  whole_only [] before free (inr (other, rest)) = absurd (other refl)
  whole_only (first ∷ seen) before free (inl (is, rest)) = absurd (free 0 first (omega arith) is)
  whole_only (first ∷ seen) before free (inr (other, rest)) = whole_only seen before (no_last_more last first seen free) rest

  -- words of the list alone are no whole line
  pub no_whole_list : (seen : List (List ℕ)) → HasNoLast last seen → WholeUntil last whole seen → ⊥
  no_whole_list [] free is = is
  no_whole_list (first ∷ seen) free (inl (is, rest)) = free 0 first (omega arith) is
  no_whole_list (first ∷ seen) free (inr (other, rest)) = no_whole_list seen (no_last_more last first seen free) rest

pub after_until : {A : Type 0} (word_of : A → List ℕ) (fine : List A → Type 0) (least : ℕ) (last : List ℕ) (form : Form) (seen : List (List ℕ)) → HasNoLast last seen
    → GoesOnAs (grammar_of (until word_of fine least last form)) (seen ++ last ∷ []) (grammar_of form)
after_until word_of fine least last form seen free = record {
  follow = λ before word may.
      past_only (TellsItems word_of fine) least last (Follows form) [] seen before word free
      (subst (λ w. FollowsUntil (TellsItems word_of fine) least last (Follows form) [] w word) (append_assoc seen (last ∷ []) before) may);
  follow_back = λ before word may.
      subst (λ w. FollowsUntil (TellsItems word_of fine) least last (Follows form) [] w word) (sym (append_assoc seen (last ∷ []) before))
      (until_past (TellsItems word_of fine) least last (Follows form) [] seen before word free may);
  whole = λ before is. whole_only last (IsWhole form) seen before free (subst (WholeUntil last (IsWhole form)) (append_assoc seen (last ∷ []) before) is);
  whole_back = λ before is. subst (WholeUntil last (IsWhole form)) (sym (append_assoc seen (last ∷ []) before)) (whole_past last (IsWhole form) seen before free is);
}

-- what is wrong after the word that ends a list
pub wrong_past_last : {A : Type 0} (word_of : A → List ℕ) (fine : List A → Type 0) (least : ℕ) (last : List ℕ) (form : Form) (items : List A) (old mid new : Position) (number : ℕ)
    → HasNoLast last (map word_of items) → Listing word_of (until word_of fine least last form) items old mid → Took mid new last → least ≤ length items
    → IsWrong form new number → IsWrong (until word_of fine least last form) old number
wrong_past_last word_of fine least last form items old mid new number free listing took enough wrong =
    let whole = until word_of fine least last form in
    let words = map word_of items in
    let place : ℕ = length (words ++ last ∷ []) + wrong.place in
    let follows = until_more (TellsItems word_of fine) least last (Follows form) [] words last free (inr (omega (arith, enough, length-map items word_of), refl)) in
    let front = wrong_front (grammar_of whole) (grammar_of form) (words ++ last ∷ []) [] new.left wrong.place (after_until word_of fine least last form words free) wrong.wrong in
    let after = subst (λ w. IsFirstNotAllowed (grammar_of whole) w new.left place) (append-nil (words ++ last ∷ [])) front in
    record {
      place = place;
      at = omega (arith, wrong.at, took.counted, listing.took.counted, length-append words (last ∷ []));
      wrong = listing.goes_on place (subst (λ w. IsFirstNotAllowed (grammar_of whole) words w place) (sym took.cut) (inl (follows, after)));
    }
