-- Grounds that are the same on each link that a pair of a later epoch names are the same on all.
use Rattle.std.proofs.Common.{◌≡◌, ◌∙◌, ℕ, ◌-◌, ◌<◌, ◌&&◌, Bool, true, false, List, length, get_or, refl, sym, ap, subst}
use Rattle.std.specs.Prelude.{nat_le, slice_index, slice_index_or}
use Rattle.std.proofs.lemmas.Bool.{false≢true}
use Rattle.std.proofs.lemmas.List.{ext_get_or}
use Rattle.std.proofs.lemmas.List.Elements.{at_from_Contains}
use Rattle.hose_graph.specs.Network.{Network}
use Rattle.hose_law.specs.Decision.{AreGrounds}
use Rattle.hose_law.specs.Room.{free_rates}
use Rattle.hose_law.specs.steps.Tracks.{IsNamedSince}
use Rattle.hose_law.specs.Walk.{capacity_of}
use Rattle.hose_law.proofs.Rooms.{free_rates-at}
use Rattle.hose_plan.specs.declared.decision.Grounds.{Grounds}
use Rattle.hose_plan.specs.steps.Planning.{AreMade, AreMadeSince, AreServedSince, IsSafeStill, IsServedStill, room_beside}
use Rattle.hose_plan.proofs.EqualGrounds.{safe_at, service_is}

-- truth values that cannot differ are equal
same_values : (a b : Bool) → ¬ ¬ (a ≡ b) → a ≡ b
same_values true true not = refl
same_values false false not = refl
same_values true false not = absurd (not (λ same. false≢true (sym same)))
same_values false true not = absurd (not (λ same. false≢true same))

module _ (network : Network) (changes : List (ℕ × ℕ)) (seen : ℕ) (before now : ℕ → Bool) where
  -- the link that a pair names, where it is of a later epoch and names one, has the truth value that it had
  abbrev pub IsSettledBy : ℕ × ℕ → Type 0
  IsSettledBy pair = seen < pair.0 → pair.1 < length network.links → before pair.1 ≡ now pair.1

  -- so has each link where each pair's has, and each that none names
  settled_by : ((l : ℕ) → l < length network.links → (¬ IsNamedSince changes seen l) → before l ≡ now l)
      → ((k : ℕ) → k < length changes → IsSettledBy (get_or changes k (0, 0))) → (l : ℕ) → l < length network.links → before l ≡ now l
  settled_by others each l inside =
      same_values _ _
      (λ differ.
      differ (others l inside
      (λ named.
      let place = at_from_Contains changes (named.0, l) named.2 in
      differ (subst IsSettledBy (place.2 (0, 0)) (each place.0 place.1) named.1 inside))))

module _ (network : Network) (service : List Bool) (changes : List (ℕ × ℕ)) (seen : ℕ) where
  -- the link that a pair names, where it is of a later epoch and names one, is in service just where it was
  abbrev pub IsServedAgain : List Bool → ℕ × ℕ → Type 0
  IsServedAgain served pair = seen < pair.0 → pair.1 < length network.links → IsServedStill served service pair.1

  pub all_served : (served : List Bool) → length served ≡ length network.links → length service ≡ length network.links → AreServedSince network changes seen served service
      → ((k : ℕ) → k < length changes → IsServedAgain served (get_or changes k (0, 0))) → served ≡ service
  all_served served places long others each =
      let settled = settled_by network changes seen (λ l. slice_index_or served l false) (λ l. slice_index_or service l false) others each in
      ext_get_or false served service (places ∙ sym long) (λ l below. settled l (subst (λ (n : ℕ). l < n) places below))

module _ (network : Network) (service : List Bool) (now : List ℕ) (changes : List (ℕ × ℕ)) (seen : ℕ) where
  -- the link that a pair names, where it is of a later epoch and names one, is in the set just where it was
  abbrev pub IsSettled : ℕ → List Bool → ℕ × ℕ → Type 0
  IsSettled half safe pair = seen < pair.0 → pair.1 < length network.links → IsSafeStill network service now half safe pair.1

  pub all_settled : (half : ℕ) (safe : List Bool) → ((l : ℕ) → l < length network.links → (¬ IsNamedSince changes seen l) → IsSafeStill network service now half safe l)
      → ((k : ℕ) → k < length changes → IsSettled half safe (get_or changes k (0, 0))) → (l : ℕ) → l < length network.links → IsSafeStill network service now half safe l
  all_settled half safe others each =
      settled_by network changes seen (λ l. slice_index_or safe l false) (λ l. slice_index_or service l false && nat_le half (slice_index (free_rates network now) l)) others each

  module _ (grounds : Grounds) (made : AreMadeSince network service now grounds changes seen) where
    pub made_before : AreMade network grounds
    made_before = (made.hose, room_beside network made.served made.before, made.places, made.are)

    -- the links in service of the grounds are those of before
    pub served_before : AreServedSince network changes seen grounds.service service
    served_before l inside unnamed =
        ap (λ (set : List Bool). slice_index_or set l false)
        (service_is network (room_beside network made.served made.before) made.hose grounds.service grounds.first_fits grounds.safe made.are.rests_on)
        ∙ made.same_service l inside unnamed

    -- a link that no pair of a later epoch names is safe just where it was, as it has the load that it had and is in service just where it was
    pub others_settled : grounds.first_fits ≡ false → (l : ℕ) → l < length network.links → (¬ IsNamedSince changes seen l)
        → IsSafeStill network service now grounds.half grounds.safe l
    others_settled unfit l inside unnamed =
        let were = subst (λ (b : Bool). AreGrounds network (room_beside network made.served made.before) made.hose grounds.service b grounds.safe) unfit made.are.rests_on in
        safe_at network made.served made.before made.hose made.places grounds.half grounds.safe made.are.half were.2 l inside
        ∙ ap (λ (b : Bool). b && nat_le grounds.half (slice_index (free_rates network made.before) l)) (made.same_service l inside unnamed)
        ∙ ap (λ (n : ℕ). slice_index_or service l false && nat_le grounds.half n)
        (free_rates-at network made.before l inside ∙ ap (λ (load : ℕ). capacity_of network l - load) (made.same l inside unnamed) ∙ sym (free_rates-at network now l inside))
