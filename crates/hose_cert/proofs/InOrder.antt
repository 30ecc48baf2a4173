-- The lines of a plan stand in order, and say together what they are written for.
use Rattle.std.proofs.Common.{suc, zero, ◌≡◌, ◌≢◌, ◌∙◌, ℕ, ◌+◌, ◌-◌, ◌*◌, ◌<◌, ◌≤◌, List, [], ◌∷◌, ◌++◌, Option, None, Some, length, map, take, drop, eqb, inl, inr, refl, sym, ap, subst, arith, append-nil}
use Rattle.std.specs.Prelude.{nat_lt}
use Rattle.std.specs.List.{flat_map, range_with_len, slice_index}
use Rattle.std.proofs.lemmas.Bool.{cases_lt, cond-false, cond-true, eq-eqb, le-ltb, lt-ltb, ne_eqb}
use Rattle.std.proofs.lemmas.Grind.{flat_map-append}
use Rattle.std.proofs.lemmas.List.Folds.{flat_map-map}
use Rattle.std.proofs.lemmas.List.{drop-drop, drop_all, length-drop, take-append-drop}
use Rattle.hose_graph.specs.Ascending.{IsAscending, firsts}
use Rattle.hose_graph.specs.Network.{Network}
use Rattle.hose_cert.specs.CertLine.{CertLine, cost_line, end_line, hose_line, numbers_from, pot_line, use_line}
use Rattle.hose_cert.specs.Certificate.{FollowAll, MayFollow, last_of, left_out_by, left_out_in, numbers_by, numbers_in, place_after, used_by, used_in}
use Rattle.hose_cert.specs.Written.{block_line, blocks_of, root_lines}
use Rattle.hose_cert.specs.declared.statement.TheConstants.{LINE_NUMBERS}

-- ---- lists of lists

flat_map_in : {X Y Z : Type 0} (f : Y → List Z) (g : X → List Y) (xs : List X) → flat_map f (flat_map g xs) ≡ flat_map (λ x. flat_map f (g x)) xs
flat_map_in f g [] = refl
flat_map_in f g (x ∷ xs) = flat_map-append f (g x) (flat_map g xs) ∙ ap (λ (zs : List _). flat_map f (g x) ++ zs) (flat_map_in f g xs)

-- where only one number brings something, all of them bring that
only_one : {X : Type 0} (f : ℕ → List X) (one a n : ℕ) → ((k : ℕ) → k ≢ one → f k ≡ []) → a ≤ one → one < a + n → flat_map f (range_with_len a n) ≡ f one
only_one f one a zero none least below = absurd (omega (arith, least, below))
only_one {X} f one a (suc n) none least below = elim (cases_lt a one) [
  | inl before ↦
      ap (λ (xs : List X). xs ++ flat_map f (range_with_len (a + 1) n)) (none a (λ same. omega (arith, before, same)))
      ∙ only_one f one (a + 1) n none (omega (arith, before)) (omega (arith, below))
  | inr past ↦
      let here : a ≡ one = omega (arith, least, past) in
      ap (λ (xs : List X). f a ++ xs) (nothing (a + 1) n (omega (arith, past))) ∙ append-nil (f a) ∙ ap f here
]
  where
    nothing : (b m : ℕ) → one < b → flat_map f (range_with_len b m) ≡ []
    nothing b zero past = refl
    nothing b (suc m) past = λ i. none b (λ same. omega (arith, past, same)) i ++ nothing (b + 1) m (omega (arith, past)) i

-- ---- lines after others

module _ (network : Network) where
  follow_both : (last : Option CertLine) (lines more : List CertLine) → FollowAll network last lines → FollowAll network (last_of last lines) more → FollowAll network last (lines ++ more)
  follow_both last [] more follow then = then
  follow_both last (line ∷ lines) more follow then = (follow.0, follow_both (Some line) lines more follow.1 then)

  last_both : (last : Option CertLine) (lines more : List CertLine) → last_of last (lines ++ more) ≡ last_of (last_of last lines) more
  last_both last [] more = refl
  last_both last (line ∷ lines) more = last_both (Some line) lines more

  -- ---- the lines of a plan's links

  uses_follow : (pair : ℕ × ℕ) (pairs : List (ℕ × ℕ)) → IsAscending (pair ∷ pairs) → FollowAll network (Some (use_line pair)) (map use_line pairs)
  uses_follow pair [] rises = tt
  uses_follow pair (next ∷ pairs) rises = (rises 0 (omega arith), uses_follow next pairs rest)
    where
      rest : IsAscending (next ∷ pairs)
      rest k below =
          let all : List ℕ = firsts (pair ∷ next ∷ pairs) in
          let shifted : suc k + 1 ≡ suc (k + 1) = omega arith in
          subst (λ (m : ℕ). slice_index all (suc k) < slice_index all m) shifted (rises (suc k) (omega (arith, below)))

  last_use : (pair : ℕ × ℕ) (pairs : List (ℕ × ℕ)) → (one : ℕ × ℕ) × (last_of (Some (use_line pair)) (map use_line pairs) ≡ Some (use_line one))
  last_use pair [] = (pair, refl)
  last_use pair (next ∷ pairs) = last_use next pairs

  -- ---- the lines of a root

  module _ (root : ℕ) (numbers : List ℕ) where
    abbrev line : ℕ → CertLine
    line = block_line network root numbers

    abbrev some : ℕ → ℕ → List CertLine
    some block count = map line (range_with_len block count)

    -- a line follows the one before it
    next_block : (block : ℕ) → block + 1 < blocks_of network → MayFollow network (Some (line block)) (line (block + 1))
    next_block block below =
        let from : ℕ = block * LINE_NUMBERS in
        let on : from + LINE_NUMBERS < length network.nodes = omega (arith, below) in
        let same : (block + 1) * LINE_NUMBERS ≡ from + LINE_NUMBERS = omega arith in
        ap (λ (at : ℕ). (root, at)) same ∙ sym (cond-true (nat_lt (from + LINE_NUMBERS) (length network.nodes)) (root, from + LINE_NUMBERS) (root + 1, 0) (lt-ltb (from + LINE_NUMBERS) (length network.nodes) on))

    -- the last one leads to the next root
    past_blocks : (block : ℕ) → block + 1 ≡ blocks_of network → place_after network (line block) ≡ (root + 1, 0)
    past_blocks block is =
        let from : ℕ = block * LINE_NUMBERS in
        cond-false (nat_lt (from + LINE_NUMBERS) (length network.nodes)) (root, from + LINE_NUMBERS) (root + 1, 0) (le-ltb (from + LINE_NUMBERS) (length network.nodes) (omega (arith, is)))

    blocks_follow : (last : Option CertLine) (block count : ℕ) → block + count ≤ blocks_of network → (1 ≤ count → MayFollow network last (line block)) → FollowAll network last (some block count)
    blocks_follow last block zero within may = tt
    blocks_follow last block (suc count) within may =
        (may (omega arith), blocks_follow (Some (line block)) (block + 1) count (omega (arith, within)) (λ more. next_block block (omega (arith, within, more))))

    last_block : (last : Option CertLine) (block count end : ℕ) → block + count ≡ end → last_of last (some block (suc count)) ≡ Some (line end)
    last_block last block zero end is = ap (λ (b : ℕ). Some (line b)) (omega (arith, is))
    last_block last block (suc count) end is = last_block (Some (line block)) (block + 1) count end (omega (arith, is))

  -- ---- the lines of all roots

  -- the numbers of a root may come next
  abbrev LeadsTo : Option CertLine → ℕ → Type 0
  LeadsTo last root = (numbers : List ℕ) → MayFollow network last (pot_line root 0 numbers)

  module _ (numbers : ℕ → List ℕ) (any : 1 ≤ length network.nodes) where
    abbrev lines_of : ℕ → List CertLine
    lines_of root = root_lines network root (numbers root)

    last_root : (last : Option CertLine) (root : ℕ) → last_of last (lines_of root) ≡ Some (block_line network root (numbers root) (blocks_of network - 1))
    last_root last root =
        let blocks : ℕ = blocks_of network - 1 in
        let all : blocks_of network ≡ suc blocks = omega (arith, any) in
        ap (λ (count : ℕ). last_of last (map (block_line network root (numbers root)) (range_with_len 0 count))) all
        ∙ last_block root (numbers root) last 0 blocks blocks (omega arith)

    last_place : (root : ℕ) → place_after network (block_line network root (numbers root) (blocks_of network - 1)) ≡ (root + 1, 0)
    last_place root = past_blocks root (numbers root) (blocks_of network - 1) (omega (arith, any))

    leads_on : (last : Option CertLine) (root : ℕ) → LeadsTo (last_of last (lines_of root)) (root + 1)
    leads_on last root more = subst (λ (l : Option CertLine). MayFollow network l (pot_line (root + 1) 0 more)) (sym (last_root last root)) (sym (last_place root))

    roots_follow : (last : Option CertLine) (root count : ℕ) → LeadsTo last root → FollowAll network last (flat_map lines_of (range_with_len root count))
    roots_follow last root zero leads = tt
    roots_follow last root (suc count) leads =
        follow_both last (lines_of root) (flat_map lines_of (range_with_len (root + 1) count))
        (blocks_follow root (numbers root) last 0 (blocks_of network) (omega arith) (λ _. leads _))
        (roots_follow (last_of last (lines_of root)) (root + 1) count (leads_on last root))

    -- the end follows the last root
    ends_follow : (last : Option CertLine) (root count : ℕ) → root + suc count ≡ length network.nodes → MayFollow network (last_of last (flat_map lines_of (range_with_len root (suc count)))) end_line
    ends_follow last root zero is =
        let one : last_of last (lines_of root ++ []) ≡ Some (block_line network root (numbers root) (blocks_of network - 1)) =
        ap (last_of last) (append-nil (lines_of root)) ∙ last_root last root in
        let all : root + 1 ≡ length network.nodes = omega (arith, is) in
        subst (λ (l : Option CertLine). MayFollow network l end_line) (sym one) (last_place root ∙ ap (λ (k : ℕ). (k, 0)) all)
    ends_follow last root (suc count) is =
        subst (λ (l : Option CertLine). MayFollow network l end_line) (sym (last_both last (lines_of root) (flat_map lines_of (range_with_len (root + 1) (suc count)))))
        (ends_follow (last_of last (lines_of root)) (root + 1) count (omega (arith, is)))

-- ---- what lines say together

nothing_in : {X Y : Type 0} (f : X → List Y) (xs : List X) → ((x : X) → f x ≡ []) → flat_map f xs ≡ []
nothing_in f [] none = refl
nothing_in f (x ∷ xs) none = λ i. none x i ++ nothing_in f xs none i

module _ (network : Network) (numbers : ℕ → List ℕ) where
  abbrev all_of : ℕ → List CertLine
  all_of count = flat_map (λ root. root_lines network root (numbers root)) (range_with_len 0 count)

  -- the numbers of the roots say nothing of other things
  none_of_roots : {X : Type 0} (f : CertLine → List X) → ((root from : ℕ) (more : List ℕ) → f (pot_line root from more) ≡ []) → (count : ℕ) → flat_map f (all_of count) ≡ []
  none_of_roots f none count =
      flat_map_in f (λ root. root_lines network root (numbers root)) (range_with_len 0 count)
      ∙ nothing_in (λ root. flat_map f (root_lines network root (numbers root))) (range_with_len 0 count)
      (λ root. flat_map-map f (block_line network root (numbers root)) (range_with_len 0 (blocks_of network))
      ∙ nothing_in (λ block. f (block_line network root (numbers root) block)) (range_with_len 0 (blocks_of network)) (λ block. none root _ _))

  -- the lines of a root say its numbers
  module _ (root : ℕ) (places : length (numbers root) ≡ length network.nodes) where
    abbrev own : ℕ → ℕ → List CertLine
    own block count = map (block_line network root (numbers root)) (range_with_len block count)

    joined : (block count : ℕ) → block + count ≡ blocks_of network → flat_map (numbers_by root) (own block count) ≡ drop (block * LINE_NUMBERS) (numbers root)
    joined block zero is = sym (drop_all (block * LINE_NUMBERS) (numbers root) (omega (arith, is, places)))
    joined block (suc count) is =
        (λ i. cond-true (eqb root root) front [] (eq-eqb root root refl) i ++ joined (block + 1) count (omega (arith, is)) i)
        ∙ ap (λ (xs : List ℕ). front ++ xs) rest ∙ take-append-drop (numbers_from network from) (drop from (numbers root))
      where
        from : ℕ
        from = block * LINE_NUMBERS

        front : List ℕ
        front = take (numbers_from network from) (drop from (numbers root))

        rest : drop ((block + 1) * LINE_NUMBERS) (numbers root) ≡ drop (numbers_from network from) (drop from (numbers root))
        rest = elim (cases_lt (length network.nodes) (from + LINE_NUMBERS)) [
          | inl past ↦
              drop_all ((block + 1) * LINE_NUMBERS) (numbers root) (omega (arith, places, past))
              ∙ sym (drop_all (numbers_from network from) (drop from (numbers root)) (omega (arith, places, past, length-drop from (numbers root))))
          | inr on ↦
              let here : (block + 1) * LINE_NUMBERS ≡ from + numbers_from network from = omega (arith, on) in
              ap (λ (k : ℕ). drop k (numbers root)) here ∙ sym (drop-drop (numbers_from network from) from (numbers root))
        ]

    pub said_by_roots : (count : ℕ) → root < count → flat_map (numbers_by root) (all_of count) ≡ numbers root
    said_by_roots count below =
        flat_map_in (numbers_by root) (λ k. root_lines network k (numbers k)) (range_with_len 0 count)
        ∙ only_one (λ k. flat_map (numbers_by root) (root_lines network k (numbers k))) root 0 count others (omega arith) (omega (arith, below))
        ∙ joined 0 (blocks_of network) (omega arith)
      where
        others : (k : ℕ) → k ≢ root → flat_map (numbers_by root) (root_lines network k (numbers k)) ≡ []
        others k differ =
            flat_map-map (numbers_by root) (block_line network k (numbers k)) (range_with_len 0 (blocks_of network))
            ∙ nothing_in (λ block. numbers_by root (block_line network k (numbers k) block)) (range_with_len 0 (blocks_of network))
            (λ block. cond-false (eqb root k) _ [] (ne_eqb root k (λ same. differ (sym same))))

-- ---- the lines of a plan

module _ (network : Network) (numbers : ℕ → List ℕ) (cost : ℕ) (hose plan : List (ℕ × ℕ)) where
  abbrev head : List CertLine
  head = cost_line cost ∷ hose_line hose ∷ map use_line plan

  abbrev roots : List CertLine
  roots = all_of network numbers (length network.nodes)

  abbrev whole : List CertLine
  whole = head ++ roots ++ end_line ∷ []

  -- what all of them say is what their parts say
  parts : {X : Type 0} (f : CertLine → List X) → flat_map f whole ≡ (flat_map f head ++ flat_map f roots) ++ flat_map f (end_line ∷ [])
  parts f = flat_map-append f (head ++ roots) (end_line ∷ []) ∙ ap (λ (xs : List _). xs ++ flat_map f (end_line ∷ [])) (flat_map-append f head roots)

  pub used_plan : used_in whole ≡ plan
  used_plan =
      parts used_by ∙ append-nil (flat_map used_by head ++ flat_map used_by roots)
      ∙ ap (λ (xs : List (ℕ × ℕ)). flat_map used_by head ++ xs) (none_of_roots network numbers used_by (λ root from more. refl) (length network.nodes))
      ∙ append-nil (flat_map used_by head) ∙ uses_used plan
    where
      uses_used : (pairs : List (ℕ × ℕ)) → flat_map used_by (map use_line pairs) ≡ pairs
      uses_used [] = refl
      uses_used (pair ∷ pairs) = ap (λ (ps : List (ℕ × ℕ)). pair ∷ ps) (uses_used pairs)

  pub left_out_none : left_out_in whole ≡ []
  left_out_none =
      parts left_out_by ∙ append-nil (flat_map left_out_by head ++ flat_map left_out_by roots)
      ∙ (λ i. (flat_map-map left_out_by use_line plan ∙ nothing_in (λ (pair : ℕ × ℕ). left_out_by (use_line pair)) plan (λ pair. refl)) i
      ++ none_of_roots network numbers left_out_by (λ root from more. refl) (length network.nodes) i)

  pub said_by_plan : (root : ℕ) → root < length network.nodes → length (numbers root) ≡ length network.nodes → numbers_in root whole ≡ numbers root
  said_by_plan root node places =
      parts (numbers_by root) ∙ append-nil (flat_map (numbers_by root) head ++ flat_map (numbers_by root) roots)
      ∙ (λ i. (flat_map-map (numbers_by root) use_line plan ∙ nothing_in (λ (pair : ℕ × ℕ). numbers_by root (use_line pair)) plan (λ pair. refl)) i
      ++ said_by_roots network numbers root places (length network.nodes) node i)

  pub last_plan : last_of None whole ≡ Some end_line
  last_plan = last_both network None (head ++ roots) (end_line ∷ [])

module _ (network : Network) (numbers : ℕ → List ℕ) (cost : ℕ) (hose : List (ℕ × ℕ)) where
  -- the lines of a plan that has a link stand in order
  pub follow_plan : (plan : List (ℕ × ℕ)) → 1 ≤ length network.nodes → 1 ≤ length plan → IsAscending plan → FollowAll network None (whole network numbers cost hose plan)
  follow_plan [] any some rises = absurd (omega (arith, some))
  follow_plan (pair ∷ pairs) any some rises =
      follow_both network None (start ++ rest) (end_line ∷ []) (follow_both network None start rest (tt, (tt, (tt, uses_follow network pair pairs rises))) after) (ends, tt)
    where
      start : List CertLine
      start = head network numbers cost hose (pair ∷ pairs)

      rest : List CertLine
      rest = roots network numbers cost hose (pair ∷ pairs)

      one : (last : ℕ × ℕ) × (last_of None start ≡ Some (use_line last))
      one = last_use network pair pairs

      after : FollowAll network (last_of None start) rest
      after =
          subst (λ (l : Option CertLine). FollowAll network l rest) (sym one.1)
          (roots_follow network numbers any (Some (use_line one.0)) 0 (length network.nodes) (λ more. (refl, refl)))

      ends : MayFollow network (last_of None (start ++ rest)) end_line
      ends =
          let count : ℕ = length network.nodes - 1 in
          let all : suc count ≡ length network.nodes = omega (arith, any) in
          subst (λ (l : Option CertLine). MayFollow network l end_line) (sym (last_both network None start rest))
          (subst (λ (n : ℕ). MayFollow network (last_of (last_of None start) (all_of network numbers n)) end_line) all (ends_follow network numbers any (last_of None start) 0 count (omega (arith, any))))
