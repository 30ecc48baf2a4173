-- What was added of a certificate that is being written, with a line or a root more.
use Rattle.std.proofs.Common.{suc, zero, ◌≡◌, ◌∙◌, ℕ, ◌+◌, ◌<◌, ◌≤◌, List, [], ◌∷◌, ◌++◌, Option, map, take, drop, inl, inr, refl, sym, ap, subst, arith, append-nil}
use Rattle.std.specs.Prelude.{cond, unwrap_or}
use Rattle.std.proofs.Math.Dec.{eqb}
use Rattle.std.proofs.lemmas.Bool.{cases_lt, cond-false, cond-true, eq-eqb, ne_eqb}
use Rattle.std.specs.List.{flat_map, range_with_len}
use Rattle.std.proofs.lemmas.List.{take-map, drop-map}
use Rattle.std.proofs.lemmas.Grind.{flat_map-append}
use Rattle.hose_io.specs.steps.Gather.{Gathered, IsAdded}
use Rattle.hose_io.specs.declared.sink.Sink.{Ghosts}
use Rattle.hose_io.proofs.Gathering.{IsAdded-next, IsAdded-none}
use Rattle.hose_graph.specs.Network.{Network}
use Rattle.hose_graph.specs.Row.{Distances}
use Rattle.hose_law.specs.Row.{IsRow}
use Rattle.hose_law.specs.Walk.{all_links}
use Rattle.hose_cert.specs.steps.Adding.{AddsRoots}
use Rattle.hose_cert.specs.CertLine.{CertLine}
use Rattle.hose_cert.specs.Written.{numbers_of, root_lines, roots_lines, certificate_text}

-- ---- numbers one after the other

range_more : (a n j : ℕ) → a + n ≡ j → range_with_len a (suc n) ≡ range_with_len a n ++ j ∷ []
range_more a zero j is = ap (λ (k : ℕ). k ∷ []) (omega (arith, is))
range_more a (suc n) j is = ap (λ (ks : List ℕ). a ∷ ks) (range_more (a + 1) n j (omega (arith, is)))

pub range_split : (m n : ℕ) → range_with_len 0 (m + n) ≡ range_with_len 0 m ++ range_with_len m n
range_split m n = from 0 m m (omega arith)
  where
    from : (a k b : ℕ) → a + k ≡ b → range_with_len a (k + n) ≡ range_with_len a k ++ range_with_len b n
    from a zero b is = (λ i. range_with_len (from_none i) (none_more i))
      where
        from_none : a ≡ b
        from_none = omega (arith, is)

        none_more : zero + n ≡ n
        none_more = omega arith
    from a (suc k) b is =
        let more : suc k + n ≡ suc (k + n) = omega arith in
        ap (range_with_len a) more ∙ ap (λ (ks : List ℕ). a ∷ ks) (from (a + 1) k b (omega (arith, is)))

-- what comes of one number more
pub flat_map_range : {X : Type 0} (f : ℕ → List X) (n : ℕ) → flat_map f (range_with_len 0 (n + 1)) ≡ flat_map f (range_with_len 0 n) ++ f n
flat_map_range {X} f n =
    let one : n + 1 ≡ suc n = omega arith in
    ap (λ (m : ℕ). flat_map f (range_with_len 0 m)) one ∙ ap (flat_map f) (range_more 0 n n (omega arith)) ∙ flat_map-append f (range_with_len 0 n) (n ∷ [])
    ∙ ap (λ (ys : List X). flat_map f (range_with_len 0 n) ++ ys) (append-nil (f n))

-- functions that agree on the numbers make one list of them
pub flat_map_agree : {X : Type 0} (f g : ℕ → List X) (a n : ℕ) → ((k : ℕ) → a ≤ k → k < a + n → f k ≡ g k) → flat_map f (range_with_len a n) ≡ flat_map g (range_with_len a n)
flat_map_agree f g a zero same = refl
flat_map_agree f g a (suc n) same =
    λ i. same a (omega arith) (omega arith) i ++ flat_map_agree f g (a + 1) n (λ k least below. same k (omega (arith, least)) (omega (arith, below))) i

-- ---- texts

pub text_append : (network : Network) (lines more : List CertLine) → certificate_text network (lines ++ more) ≡ certificate_text network lines ++ certificate_text network more
text_append network lines more = flat_map-append _ lines more

-- the text of one number more was added
pub IsAdded-number : {S : Type 0} {sink : Ghosts S} {g0 g1 g2 : Gathered} {s0 s1 s2 : S} (f : ℕ → List ℕ) (n : ℕ) → IsAdded sink g0 s0 g1 s1 (flat_map f (range_with_len 0 n)) → IsAdded sink g1 s1 g2 s2 (f n)
    → IsAdded sink g0 s0 g2 s2 (flat_map f (range_with_len 0 (n + 1)))
IsAdded-number {sink = sink} {g0 = g0} {g2 = g2} {s0 = s0} {s2 = s2} f n before now =
    subst (IsAdded sink g0 s0 g2 s2) (sym (flat_map_range f n)) (IsAdded-next before now)

-- ---- the numbers of a line

-- the numbers of some distances
pub numbers_between : (most from count given : ℕ) (dist : List (Option ℕ)) → count ≡ given → numbers_of most (take given (drop from dist)) ≡ take count (drop from (numbers_of most dist))
numbers_between most from count given dist same =
    let f : Option ℕ → ℕ = λ (distance : Option ℕ). unwrap_or distance most in
    sym (ap (λ (m : ℕ). take m (drop from (map f dist))) same ∙ ap (take given) (drop-map f from dist) ∙ take-map f given (drop from dist))

-- ---- roots

module _ {S : Type 0} (sink : Ghosts S) (network : Network) (most : ℕ) where
  -- no lines were added
  pub no_roots : (g : Gathered) (s : S) → AddsRoots sink network most g s g s 0
  no_roots g s = record {
    row_of = λ root. record { root = root; dist = []; tight = [] };
    rows = λ root below. absurd (omega (arith, below));
    added = IsAdded-none sink g s;
  }

  -- the lines of one root more were added
  pub roots_more : (g0 g1 g2 : Gathered) (s0 s1 s2 : S) (made : ℕ) (row : Distances) → AddsRoots sink network most g0 s0 g1 s1 made → IsRow network (all_links network) made row
      → IsAdded sink g1 s1 g2 s2 (certificate_text network (root_lines network made (numbers_of most row.dist))) → AddsRoots sink network most g0 s0 g2 s2 (made + 1)
  roots_more g0 g1 g2 s0 s1 s2 made row before is_row now = record {
    row_of = next;
    rows = is_next;
    added = subst (IsAdded sink g0 s0 g2 s2) (sym text) (IsAdded-next before.added now);
  }
    where
      next : ℕ → Distances
      next k = cond (eqb k made) row (before.row_of k)

      older : (k : ℕ) → k < made → next k ≡ before.row_of k
      older k below = cond-false (eqb k made) row (before.row_of k) (ne_eqb k made (λ same. omega (arith, below, same)))

      newest : next made ≡ row
      newest = cond-true (eqb made made) row (before.row_of made) (eq-eqb made made refl)

      is_next : (k : ℕ) → k < made + 1 → IsRow network (all_links network) k (next k)
      is_next k below = elim (cases_lt k made) [
        | inl earlier ↦ subst (IsRow network (all_links network) k) (sym (older k earlier)) (before.rows k earlier)
        | inr last ↦
            let same : made ≡ k = omega (arith, below, last) in
            subst (λ (r : ℕ). IsRow network (all_links network) r (next r)) same (subst (IsRow network (all_links network) made) (sym newest) is_row)
      ]

      lines_at : (ℕ → Distances) → ℕ → List CertLine
      lines_at row_of root = root_lines network root (numbers_of most (row_of root).dist)

      text : certificate_text network (roots_lines network most next (made + 1)) ≡ certificate_text network (roots_lines network most before.row_of made) ++ certificate_text network (root_lines network made (numbers_of most row.dist))
      text =
          ap (certificate_text network) (flat_map_range (lines_at next) made) ∙ text_append network (roots_lines network most next made) (lines_at next made)
          ∙ (λ i. certificate_text network (flat_map_agree (lines_at next) (lines_at before.row_of) 0 made (λ k least below. ap (λ (r : Distances). root_lines network k (numbers_of most r.dist)) (older k (omega (arith, below)))) i)
          ++ certificate_text network (root_lines network made (numbers_of most (newest i).dist)))
