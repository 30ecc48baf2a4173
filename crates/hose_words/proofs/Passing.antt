-- Words that pass a form: none of them is wrong.
use Rattle.std.proofs.Common.{◌≡◌, ◌≢◌, ℕ, ◌+◌, ◌≤◌, List, [], ◌∷◌, ◌++◌, length, map, inl, inr, refl, sym, subst, arith, append_assoc, append-nil, length-append}
use Rattle.std.specs.List.{All}
use Rattle.std.proofs.Math.ListN.{get_or-append}
use Rattle.std.proofs.lemmas.List.{length-map, map-append}
use Rattle.hose_words.specs.steps.Grammar.{IsFirstNotAllowed}
use Rattle.hose_words.specs.steps.Form.{Form, finish, place, branch, maybe, list, until, Follows, TellsItems, grammar_of, these}
use Rattle.hose_words.proofs.Forms.{AreApart, GoesOnAs, after_branch, after_place, front_wrong}
use Rattle.hose_words.proofs.Until.{HasNoLast, after_until, until_more}

-- none of the words is wrong
pub record Passes (form : Form) (words : List (List ℕ)) : Type 0 where
  pub none : (place : ℕ) → IsFirstNotAllowed (grammar_of form) [] words place → ⊥

pub pass_finish : Passes finish []
pass_finish = record { none = λ place wrong. wrong.0 refl }

-- the first word may stand at the start of a form, and those after it pass what may stand there
pass_first : (form rest : Form) (word : List ℕ) (words : List (List ℕ)) → Follows form [] word → GoesOnAs (grammar_of form) (word ∷ []) (grammar_of rest) → Passes rest words → Passes form (word ∷ words)
pass_first form rest word words follows on pass = record { none = here }
  where
    here : (n : ℕ) → IsFirstNotAllowed (grammar_of form) [] (word ∷ words) n → ⊥
    here n (inl (may, wrong)) = let back = front_wrong (grammar_of form) (grammar_of rest) (word ∷ []) [] words n on wrong in pass.none back.0 back.2
    here n (inr (never, at)) = never follows

pub pass_place : {passes : List ℕ → Type 0} {form : Form} {word : List ℕ} {words : List (List ℕ)} → passes word → Passes form words → Passes (place passes form) (word ∷ words)
pass_place {passes} {form} {word} {words} is pass = pass_first (place passes form) form word words is (after_place passes form word) pass

pub pass_branch : {A : Type 0} {is : A → Type 0} {word_of : A → List ℕ} {forms : A → Form} {words : List (List ℕ)} (choice : A) → is choice → AreApart is word_of → Passes (forms choice) words
    → Passes (branch is word_of forms) (word_of choice ∷ words)
pass_branch {A} {is} {word_of} {forms} {words} choice there are pass =
    pass_first (branch is word_of forms) (forms choice) (word_of choice) words (choice, there, refl) (after_branch is word_of forms choice there are) pass

pub pass_these : (known : List (List ℕ)) (form : Form) (words : List (List ℕ)) → Passes form words → Passes (these known form) (known ++ words)
pass_these [] form words pass = pass
pass_these (word ∷ known) form words pass = pass_place refl (pass_these known form words pass)

pub pass_nothing : {form : Form} → Passes (maybe form) []
pass_nothing {form} = record { none = λ place wrong. wrong.0 tt }

pub pass_maybe : {form : Form} {word : List ℕ} {words : List (List ℕ)} → Passes form (word ∷ words) → Passes (maybe form) (word ∷ words)
pass_maybe {form} {word} {words} pass = record { none = λ place wrong. pass.none place (at_front place wrong) }
  where
    -- after a first word both forms are one
    goes_on : (before : List (List ℕ)) (first : List ℕ) (more : List (List ℕ)) (n : ℕ) → IsFirstNotAllowed (grammar_of (maybe form)) (first ∷ before) more n → IsFirstNotAllowed (grammar_of form) (first ∷ before) more n
    goes_on before first [] n is = is
    goes_on before first (next ∷ more) n (inl (follows, is)) = inl (follows, goes_on (before ++ next ∷ []) first more n is)
    goes_on before first (next ∷ more) n (inr never) = inr never

    at_front : (n : ℕ) → IsFirstNotAllowed (grammar_of (maybe form)) [] (word ∷ words) n → IsFirstNotAllowed (grammar_of form) [] (word ∷ words) n
    at_front n (inl (follows, is)) = inl (follows, goes_on [] word words n is)
    at_front n (inr never) = inr never

-- ---- lists

-- what holds of all holds of those at the front
pub All-front : {X : Type 0} (P : X → Type 0) (xs ys : List X) → All P (xs ++ ys) → All P xs
All-front P xs ys all = λ k d below. subst P (get_or-append xs ys d k below) (all k d (omega (arith, below, length-append xs ys)))

-- what may stand in a list may stand without its last items
pub record IsClosed {A : Type 0} (fine : List A → Type 0) : Type 0 where
  pub front : (xs ys : List A) → 1 ≤ length xs → fine (xs ++ ys) → fine xs

list_passes : {A : Type 0} (word_of : A → List ℕ) (fine : List A → Type 0) (least : ℕ) → IsClosed fine → (front items : List A) → least ≤ length front + length items → fine (front ++ items) → (n : ℕ)
    → IsFirstNotAllowed (grammar_of (list word_of fine least)) (map word_of front) (map word_of items) n → ⊥
list_passes word_of fine least closed front [] enough is n wrong = wrong.0 (omega (arith, enough, length-map front word_of))
list_passes word_of fine least closed front (x ∷ xs) enough is n (inl (follows, wrong)) =
    list_passes word_of fine least closed (front ++ x ∷ []) xs (omega (arith, enough, length-append front (x ∷ []))) (subst fine (sym (append_assoc front (x ∷ []) xs)) is) n
    (subst (λ w. IsFirstNotAllowed (grammar_of (list word_of fine least)) w (map word_of xs) n) (sym (map-append word_of front (x ∷ []))) wrong)
list_passes word_of fine least closed front (x ∷ xs) enough is n (inr (never, at)) =
    never (front ++ x ∷ [], sym (map-append word_of front (x ∷ [])), closed.front (front ++ x ∷ []) xs (omega (arith, length-append front (x ∷ []))) (subst fine (sym (append_assoc front (x ∷ []) xs)) is))

pub pass_list : {A : Type 0} {word_of : A → List ℕ} {fine : List A → Type 0} {least : ℕ} {items : List A} → IsClosed fine → least ≤ length items → fine items → Passes (list word_of fine least) (map word_of items)
pass_list {A} {word_of} {fine} {least} {items} closed enough is = record { none = list_passes word_of fine least closed [] items (omega (arith, enough)) is }

module _ {A : Type 0} (word_of : A → List ℕ) (fine : List A → Type 0) (least : ℕ) (last : List ℕ) (form : Form) (words : List (List ℕ)) (closed : IsClosed fine) (pass : Passes form words) where
  -- none of the words that are left is wrong after the items in front
  until_passes : (front items : List A) → HasNoLast last (map word_of (front ++ items)) → least ≤ length front + length items → fine (front ++ items) → (n : ℕ)
      → IsFirstNotAllowed (grammar_of (until word_of fine least last form)) (map word_of front) (map word_of items ++ last ∷ words) n → ⊥
  until_passes front [] free enough is n (inl (follows, wrong)) =
      let seen = map word_of front in
      let none : HasNoLast last seen = subst (λ f. HasNoLast last (map word_of f)) (append-nil front) free in
      let after = subst (λ w. IsFirstNotAllowed (grammar_of (until word_of fine least last form)) w words n) (sym (append-nil (seen ++ last ∷ []))) wrong in
      let back = front_wrong (grammar_of (until word_of fine least last form)) (grammar_of form) (seen ++ last ∷ []) [] words n (after_until word_of fine least last form seen none) after in
      pass.none back.0 back.2
  until_passes front [] free enough is n (inr (never, at)) =
      let none : HasNoLast last (map word_of front) = subst (λ f. HasNoLast last (map word_of f)) (append-nil front) free in
      never (until_more (TellsItems word_of fine) least last (Follows form) [] (map word_of front) last none (inr (omega (arith, enough, length-map front word_of), refl)))
  until_passes front (x ∷ xs) free enough is n (inl (follows, wrong)) =
      let same : front ++ x ∷ xs ≡ (front ++ x ∷ []) ++ xs = sym (append_assoc front (x ∷ []) xs) in
      until_passes (front ++ x ∷ []) xs (subst (λ f. HasNoLast last (map word_of f)) same free) (omega (arith, enough, length-append front (x ∷ []))) (subst fine same is) n
      (subst (λ w. IsFirstNotAllowed (grammar_of (until word_of fine least last form)) w (map word_of xs ++ last ∷ words) n) (sym (map-append word_of front (x ∷ []))) wrong)
  until_passes front (x ∷ xs) free enough is n (inr (never, at)) =
      let same : front ++ x ∷ xs ≡ (front ++ x ∷ []) ++ xs = sym (append_assoc front (x ∷ []) xs) in
      never (until_more (TellsItems word_of fine) least last (Follows form) [] (map word_of front) (word_of x) (in_front front (x ∷ xs) free)
      (inl (front ++ x ∷ [], sym (map-append word_of front (x ∷ [])), closed.front (front ++ x ∷ []) xs (omega (arith, length-append front (x ∷ []))) (subst fine same is))))
    where
      in_front : (xs ys : List A) → HasNoLast last (map word_of (xs ++ ys)) → HasNoLast last (map word_of xs)
      in_front xs ys free = All-front (λ word. word ≢ last) (map word_of xs) (map word_of ys) (subst (HasNoLast last) (map-append word_of xs ys) free)

  pub pass_until : (items : List A) → HasNoLast last (map word_of items) → least ≤ length items → fine items → Passes (until word_of fine least last form) (map word_of items ++ last ∷ words)
  pass_until items free enough is = record { none = until_passes [] items free (omega (arith, enough)) is }
