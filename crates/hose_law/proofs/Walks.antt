-- Walks that go on by a link, and sets of nodes that no walk leaves.
use Rattle.std.proofs.Common.{◌≡◌, ◌⊎◌, ℕ, Bool, List, [], ◌∷◌, ◌++◌, Option, None, Some, refl, sym, subst, inl, inr}
use Rattle.std.specs.Option.{IsSomeAnd}
use Rattle.std.specs.List.{slice_get}
use Rattle.hose_graph.specs.declared.topology.Link.{Link}
use Rattle.hose_graph.specs.Network.{Network}
use Rattle.hose_law.specs.Walk.{IsIn, Joins, IsWalk, Reaches}
use Rattle.hose_law.specs.steps.Walk.{IsClosedSide}

-- no walk over the set leaves a side that is closed
pub stays : (network : Network) (set side : List Bool) → IsClosedSide network set side → (u v : ℕ) (walk : List ℕ) → IsWalk network set u v walk → IsIn side u → IsIn side v
stays network set side closed u v [] same here = subst (IsIn side) same here
stays network set side closed u v (l ∷ walk) along here =
    stays network set side closed along.0 v walk along.3 (closed l u along.0 along.1 along.2 here)

-- one walk after another
joined : (network : Network) (set : List Bool) (u x v : ℕ) (front back : List ℕ) → IsWalk network set u x front → IsWalk network set x v back → IsWalk network set u v (front ++ back)
joined network set u x v [] back same along = subst (λ (n : ℕ). IsWalk network set n v back) (sym same) along
joined network set u x v (l ∷ front) back along behind =
    (along.0, along.1, along.2, joined network set along.0 x v front back along.3 behind)

pub reaches_itself : (network : Network) (set : List Bool) (u : ℕ) → Reaches network set u u
reaches_itself network set u = ([], refl)

pub reaches_on : (network : Network) (set : List Bool) (u x v : ℕ) → Reaches network set u x → Reaches network set x v → Reaches network set u v
reaches_on network set u x v first second = (first.0 ++ second.0, joined network set u x v first.0 second.0 first.1 second.1)

pub reaches_along : (network : Network) (set : List Bool) (u v l : ℕ) → IsIn set l → Joins network l u v → Reaches network set u v
reaches_along network set u v l there joins = (l ∷ [], (v, there, joins, refl))

-- a link joins its nodes whichever comes first
turned_at : (link : Option Link) (u v : ℕ)
    → IsSomeAnd link (λ (k : Link). ((k.a ≡ u) × (k.b ≡ v)) ⊎ ((k.a ≡ v) × (k.b ≡ u)))
    → IsSomeAnd link (λ (k : Link). ((k.a ≡ v) × (k.b ≡ u)) ⊎ ((k.a ≡ u) × (k.b ≡ v)))
turned_at None u v joins = joins
turned_at (Some k) u v (inl forward) = inr forward
turned_at (Some k) u v (inr backward) = inl backward

pub joins_turned : (network : Network) (l u v : ℕ) → Joins network l u v → Joins network l v u
joins_turned network l u v joins = turned_at (slice_get network.links l) u v joins

-- walks over a set go both ways
pub reaches_back : (network : Network) (set : List Bool) (u v : ℕ) → Reaches network set u v → Reaches network set v u
reaches_back network set u v reach = back u v reach.0 reach.1
  where
    back : (u v : ℕ) (walk : List ℕ) → IsWalk network set u v walk → Reaches network set v u
    back u v [] same = ([], sym same)
    back u v (l ∷ walk) along =
        reaches_on network set v along.0 u (back along.0 v walk along.3)
        (reaches_along network set along.0 u l along.1 (joins_turned network l u along.0 along.2))
