-- Sessions by their places.
use Rattle.std.proofs.Common.{◌∙◌, ℕ, zero, suc, ◌≤◌, List, [], ◌∷◌, ◌++◌, length, refl}
use Rattle.std.proofs.lemmas.List.{get_or_past}
use Rattle.hose_clerk.specs.declared.sessions.Session.{Session}
use Rattle.hose_clerk.specs.declared.sessions.Session.TheVariants.{Over}
use Rattle.hose_clerk.specs.steps.Sessions.{IsPut, LeavesAll}

-- where there is no place no one is
pub none_there : (sessions : List Session) (place : ℕ) → length sessions ≤ place → IsPut sessions place Over sessions
none_there sessions place past = record { here = get_or_past sessions place Over past; others = λ other apart. refl }

-- a place more, where no one is
pub leaves_push : (sessions : List Session) → LeavesAll sessions (sessions ++ Over ∷ [])
leaves_push [] zero = refl
leaves_push [] (suc place) = refl
leaves_push (first ∷ sessions) zero = refl
leaves_push (first ∷ sessions) (suc place) = leaves_push sessions place

-- one session was put after the other
pub put_then : (old middle new : List Session) (place : ℕ) (one other : Session) → IsPut old place one middle → IsPut middle place other new → IsPut old place other new
put_then old middle new place one other first second = record {
  here = second.here;
  others = λ elsewhere apart. second.others elsewhere apart ∙ first.others elsewhere apart;
}

-- and after places were made
pub put_after : (old middle new : List Session) (place : ℕ) (session : Session) → LeavesAll old middle → IsPut middle place session new → IsPut old place session new
put_after old middle new place session leaves put = record {
  here = put.here;
  others = λ other apart. put.others other apart ∙ leaves other;
}
