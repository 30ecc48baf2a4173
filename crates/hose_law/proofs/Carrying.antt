-- Amounts that carry a hose on a tree: what the hose reserves does, and none that are smaller do.
use Rattle.std.proofs.Common.{◌≡◌, ◌∙◌, ℕ, ◌<◌, ◌≤◌, ◌↔◌, Bool, List, [], length, get_or, map, sym, ap, arith}
use Rattle.std.specs.List.{All, Contains, range_with_len, zip}
use Rattle.std.proofs.lemmas.List.{get_or-map, length-map}
use Rattle.std.proofs.lemmas.List.Elements.{All-contains, All-contains_itself, All-weaker}
use Rattle.std.proofs.lemmas.List.FromFn.{get_or-map-range_with_len, length-map-range_with_len}
use Rattle.std.proofs.lemmas.Slice.Zip.{get_or-zip, length-zip}
use Rattle.hose_graph.specs.Network.{Network}
use Rattle.hose_law.specs.Carries.{Carry, CarryOn, CarryOver, amounts_on}
use Rattle.hose_law.specs.Matrix.{IsWithinRates}
use Rattle.hose_law.specs.Route.{matrix_load}
use Rattle.hose_law.specs.Tree.{Growth, IsReservation, IsTreeReservation, JoinsHose, links_of, smaller_side}
use Rattle.hose_law.proofs.Crossing.{load-le}
use Rattle.hose_law.proofs.PairedOff.{standing, paired_within, paired_load}

-- a list beside what a function makes of it
beside : (f : ℕ → ℕ) (xs : List ℕ) (pair : ℕ × ℕ) → Contains (zip xs (map f xs)) pair ↔ (Contains xs pair.0 × (pair.1 ≡ f pair.0))
beside f xs pair = (there, back)
  where
    there : Contains (zip xs (map f xs)) pair → Contains xs pair.0 × (pair.1 ≡ f pair.0)
    there (k, within, same) =
        let below : k < length xs = omega (arith, within, length-zip xs (map f xs)) in
        let at = get_or-zip xs (map f xs) k pair below (omega (arith, below, length-map xs f)) in
        let first : get_or xs k pair.0 ≡ pair.0 = sym (ap (λ (p : ℕ × ℕ). p.0) at) ∙ ap (λ (p : ℕ × ℕ). p.0) same in
        let second : get_or (map f xs) k pair.1 ≡ pair.1 = sym (ap (λ (p : ℕ × ℕ). p.1) at) ∙ ap (λ (p : ℕ × ℕ). p.1) same in
        ((k, below, first), sym second ∙ get_or-map f xs k pair.0 pair.1 below ∙ ap f first)

    back : Contains xs pair.0 × (pair.1 ≡ f pair.0) → Contains (zip xs (map f xs)) pair
    back ((k, below, first), second) =
        let mapped : k < length (map f xs) = omega (arith, below, length-map xs f) in
        let at = get_or-zip xs (map f xs) k pair below mapped in
        let value : get_or (map f xs) k pair.1 ≡ pair.1 = get_or-map f xs k pair.0 pair.1 below ∙ ap f first ∙ sym second in
        (k, omega (arith, below, mapped, length-zip xs (map f xs)), at ∙ ap (λ (x : ℕ). (x, get_or (map f xs) k pair.1)) first ∙ ap (λ (x : ℕ). (pair.0, x)) value)

module _ (tree : Growth) (hose : List (ℕ × ℕ)) where
  -- What a hose reserves on a tree that joins it carries it.
  pub reserved_carry : (pairs : List (ℕ × ℕ)) → JoinsHose tree hose → IsReservation tree hose pairs → CarryOn tree hose pairs
  reserved_carry pairs joins reserves =
      let smaller : ℕ → ℕ = smaller_side tree hose in
      let amounts : List ℕ = map smaller (links_of tree) in
      let on = amounts_on tree amounts in (
        amounts,
        record {
          ascending = reserves.ascending;
          each = λ pair. (
            λ there. (beside smaller (links_of tree) pair).1 ((reserves.each pair.0 pair.1).0 there),
            λ there. (reserves.each pair.0 pair.1).1 ((beside smaller (links_of tree) pair).0 there),
          );
        },
        record {
          joins = joins;
          places = length-map (links_of tree) smaller ∙ length-map tree.steps (λ step. step.link);
          enough = λ matrix within.
              All-weaker (Contains on) (λ (pair : ℕ × ℕ). matrix_load tree hose matrix pair.0 ≤ pair.1)
              (λ pair there. enough_on matrix within pair ((beside smaller (links_of tree) pair).0 there)) on (All-contains_itself on);
        },
      )
    where
      enough_on : (matrix : List (List ℕ)) → IsWithinRates hose matrix → (pair : ℕ × ℕ) → Contains (links_of tree) pair.0 × (pair.1 ≡ smaller_side tree hose pair.0)
          → matrix_load tree hose matrix pair.0 ≤ pair.1
      enough_on matrix within pair is = let most = load-le tree hose matrix within pair.0 in omega (arith, most, is.1)

  -- the heaviest matrix of a link
  heaviest : ℕ → List (List ℕ)
  heaviest l = map (λ i. map (standing tree hose l i) (range_with_len 0 (length hose))) (range_with_len 0 (length hose))

  heaviest_within : (l : ℕ) → IsWithinRates hose (heaviest l) × (matrix_load tree hose (heaviest l) l ≡ smaller_side tree hose l)
  unfolding heaviest
  heaviest_within l = (
    paired_within tree hose l (heaviest l) off (length-map-range_with_len row 0 n)
        (All-weaker (Contains (heaviest l)) (λ (r : List ℕ). length r ≡ n) is_row (heaviest l) (All-contains_itself (heaviest l))),
    paired_load tree hose l (heaviest l) off,
  )
    where
      n : ℕ
      n = length hose

      row : ℕ → List ℕ
      row i = map (standing tree hose l i) (range_with_len 0 n)

      off : (i j : ℕ) → i < n → j < n → get_or (get_or (heaviest l) i []) j 0 ≡ standing tree hose l i j
      off i j i_below j_below =
          ap (λ (r : List ℕ). get_or r j 0) (get_or-map-range_with_len row 0 n i i [] i_below (omega arith))
          ∙ get_or-map-range_with_len (standing tree hose l i) 0 n j j 0 j_below (omega arith)

      is_row : (r : List ℕ) → Contains (heaviest l) r → length r ≡ n
      is_row r (k, within, same) =
          let below : k < n = omega (arith, within, length-map-range_with_len row 0 n) in
          ap length (sym same ∙ get_or-map-range_with_len row 0 n k k r below (omega arith)) ∙ length-map-range_with_len (standing tree hose l k) 0 n

  -- Amounts that carry a hose are at least what it reserves.
  pub carry_least : (amounts : List ℕ) → Carry tree hose amounts → All (λ (pair : ℕ × ℕ). smaller_side tree hose pair.0 ≤ pair.1) (amounts_on tree amounts)
  carry_least amounts carries =
      All-weaker (Contains (amounts_on tree amounts)) (λ (pair : ℕ × ℕ). smaller_side tree hose pair.0 ≤ pair.1) least (amounts_on tree amounts) (All-contains_itself (amounts_on tree amounts))
    where
      least : (pair : ℕ × ℕ) → Contains (amounts_on tree amounts) pair → smaller_side tree hose pair.0 ≤ pair.1
      least pair there =
          let heavy = heaviest_within pair.0 in
          let enough = All-contains (λ (p : ℕ × ℕ). matrix_load tree hose (heaviest pair.0) p.0 ≤ p.1) (amounts_on tree amounts) pair (carries.enough (heaviest pair.0) heavy.0) there in
          omega (arith, enough, heavy.1)

-- So is what a hose reserves on some tree that joins it.
pub reservation_carries : (network : Network) (set : List Bool) (hose pairs : List (ℕ × ℕ)) → IsTreeReservation network set hose pairs → CarryOver network set hose pairs
reservation_carries network set hose pairs reservation = record {
  tree = reservation.tree;
  is_tree = reservation.is_tree;
  over = reservation.over;
  carries = reserved_carry reservation.tree hose pairs reservation.joins reservation.reserves;
}
