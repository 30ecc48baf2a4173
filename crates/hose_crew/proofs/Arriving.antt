-- Connections that arrive, one after another.
use Rattle.std.proofs.Common.{◌≡◌, ◌∙◌, ℕ, zero, suc, ◌+◌, List, [], ◌∷◌, drop, is_some, false, Option, None, Some, Result, subst, sym, arith}
use Rattle.std.proofs.Math.Numerals.{suc-eq-add-one}
use Rattle.hose_io.specs.Connections.{Connections}
use Rattle.hose_io.specs.steps.Connections.{Accepts}
use Rattle.hose_io.specs.Frame.{Frame}
use Rattle.hose_io.specs.Stream.{Stream}
use Rattle.hose_io.specs.declared.Failed.{Failed}
use Rattle.hose_crew.specs.steps.Desk.{AreArrived, GoesSo, Started}

drop_next : (xs ys : List (List ℕ)) (x : List ℕ) (n : ℕ) → x ∷ ys ≡ drop n xs → ys ≡ drop (suc n) xs
drop_next [] ys x zero same = cc same
drop_next (z ∷ xs) ys x zero same = cc same
drop_next [] ys x (suc n) same = cc same
drop_next (z ∷ xs) ys x (suc n) same = drop_next xs ys x n same

pub one_arrived : (was old new : Option Connections) (count : ℕ) (input : Option Stream) (output : Option (List ℕ)) (number : ℕ) → AreArrived was old count → Accepts old new input output number → AreArrived was new (count + 1)
one_arrived None None None count input output number is next = tt
one_arrived None None (Some new) count input output number is next = absurd next
one_arrived None (Some old) new count input output number is next = absurd is
one_arrived (Some was) None new count input output number is next = absurd is
one_arrived (Some was) (Some old) None count input output number is next = absurd next
one_arrived (Some was) (Some old) (Some new) count input output number is next = record {
  accepted = omega (arith, next.accepted, is.accepted);
  coming = subst (λ (n : ℕ). new.coming ≡ drop n was.coming) (suc-eq-add-one count) (drop_next was.coming new.coming next.bytes count (sym next.first ∙ is.coming));
  ended = next.ended ∙ is.ended;
}

-- accepting goes on with a door that did not fail
pub goes_on : {T : Type 0} (start : Started) (old new : Frame) (told told' : Option Connections) (count count' : ℕ) (stopped : Option (Result T Failed)) → is_some stopped ≡ false → GoesSo start old told count stopped → new ≡ old
    → GoesSo start new told' count' stopped
goes_on start old new told told' count count' None none goes same = same ∙ goes
goes_on start old new told told' count count' (Some result) none goes same = cc none

-- what has arrived is told alike by a door that tells the same
pub tells_the_same : (was old new : Option Connections) (count : ℕ) → new ≡ old → AreArrived was old count → AreArrived was new count
tells_the_same was old new count same arrived = subst (λ told. AreArrived was told count) (sym same) arrived
