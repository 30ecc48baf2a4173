-- The words of a line, from its front.
use Rattle.std.proofs.Common.{◌≡◌, ℕ, ◌+◌, ◌<◌, ◌≤◌, Bool, true, false, nat_lt, eqb, not, List, [], ◌∷◌, length, get_or, take, drop, sym, ap, ◌∙◌, arith, ⊎_elim}
use Rattle.std.specs.List.{position_or_len, slice_split, filter, All}
use Rattle.std.proofs.lemmas.List.{drop_more, drop_all, take_all, length-take-le}
use Rattle.std.proofs.lemmas.List.Sums.{prefix_len-le-length, passes_at_first, fails_before_first, count_by-le-length, length-filter}
use Rattle.std.proofs.lemmas.List.Splits.{slice_split_none, slice_split_first, slice_split-cons_yes, length-slice_split}
use Rattle.std.proofs.lemmas.Bool.{lt-ltb, cases_lt, cond-true}
use Rattle.hose_words.specs.Words.{words_of}

abbrev is_space : ℕ → Bool
is_space byte = eqb byte 32

abbrev is_word : List ℕ → Bool
is_word part = nat_lt 0 (length part)

words_of-space : (b : ℕ) (bs : List ℕ) → is_space b ≡ true → words_of (b ∷ bs) ≡ words_of bs
words_of-space b bs space = ap (filter is_word) (slice_split-cons_yes is_space b bs space)

filter-word : (part : List ℕ) (parts : List (List ℕ)) → 0 < length part → filter is_word (part ∷ parts) ≡ part ∷ filter is_word parts
filter-word part parts some = cond-true (is_word part) _ _ (lt-ltb 0 (length part) some)

words_of-then_space : (bs : List ℕ) → 0 < position_or_len is_space bs → position_or_len is_space bs < length bs → words_of bs ≡ take (position_or_len is_space bs) bs ∷ words_of (drop (position_or_len is_space bs) bs)
words_of-then_space bs some short =
    let n = position_or_len is_space bs in
    let parts = slice_split_first is_space bs 0 short in
    let word : 0 < length (take n bs) = omega (arith, length-take-le n bs (omega arith)) in
    let rest : words_of (drop n bs) ≡ words_of (drop (n + 1) bs) = rw (drop_more bs n 0 short) (words_of-space (get_or bs n 0) (drop (n + 1) bs) (passes_at_first is_space bs 0 short)) in
    ap (filter is_word) parts ∙ (filter-word (take n bs) (slice_split is_space (drop (n + 1) bs)) word ∙ ap (λ ws. take n bs ∷ ws) (sym rest))

words_of-to_end : (bs : List ℕ) → position_or_len is_space bs ≡ length bs → 0 < length bs → words_of bs ≡ bs ∷ []
words_of-to_end bs at some =
    let none : All (λ b. is_space b ≡ false) bs = λ k d below. fails_before_first is_space bs k d (omega arith) in
    ap (filter is_word) (slice_split_none is_space bs none) ∙ filter-word bs [] some

-- the first word goes up to the first space
pub words_of-word : (bs : List ℕ) → 0 < position_or_len is_space bs → words_of bs ≡ take (position_or_len is_space bs) bs ∷ words_of (drop (position_or_len is_space bs) bs)
words_of-word bs some =
    let n = position_or_len is_space bs in
    let bound : n ≤ length bs = prefix_len-le-length (λ b. not (is_space b)) bs in
    ⊎_elim (λ short. words_of-then_space bs some short)
    (λ whole. rw (take_all n bs whole, drop_all n bs whole) (words_of-to_end bs (omega arith) (omega arith)))
    (cases_lt n (length bs))

-- a line has no more words than bytes, and one
pub few_words : (line : List ℕ) → length (words_of line) ≤ length line + 1
few_words line =
    let parts = slice_split is_space line in
    omega (arith, length-filter is_word parts, count_by-le-length is_word parts, length-slice_split is_space line, count_by-le-length is_space line)
