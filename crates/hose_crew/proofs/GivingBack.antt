-- Connections that come back to a door, one after another.
use Rattle.std.proofs.Common.{◌≡◌, ◌∙◌, ℕ, suc, ◌+◌, List, [], ◌∷◌, ◌++◌, length, map, IsTrue, IsSome, is_some, Option, None, Some, refl, sym, ap, subst, arith, length-append, append_assoc, append-nil}
use Rattle.hose_io.specs.Connections.{Connection, Connections}
use Rattle.hose_io.specs.steps.Connections.{MayComeBack}
use Rattle.hose_session.specs.Accounts.{AccountFor}
use Rattle.hose_turn.specs.Known.{Known}
use Rattle.hose_crew.specs.steps.Desk.{AreArrived}
use Rattle.hose_crew.specs.steps.Hands.{Accounts, AllComeBack, AllMayComeBack, AreBack}

pub none_back : (told : Option Connections) → AllComeBack told told []
none_back None = tt
none_back (Some all) = ([], refl, rw (append-nil all.ended) refl)

-- a list of connections that are told, split
first_told : (connections : List Connection) (before : List (Option Connection)) (one : Option Connection) (after : List (Option Connection)) → before ++ one ∷ after ≡ map Some connections → IsSome one
first_told [] [] one after same = absurd (cc same)
first_told [] (x ∷ before) one after same = absurd (cc same)
first_told (c ∷ connections) [] None after same = absurd (cc same)
first_told (c ∷ connections) [] (Some one) after same = refl
first_told (c ∷ connections) (x ∷ before) one after same = first_told connections before one after (cc same)

sizes : (connections : List Connection) → length (map (λ (one : Connection). Some one) connections) ≡ length connections
sizes [] = refl
sizes (one ∷ connections) = ap (λ (n : ℕ). suc n) (sizes connections)

same_told : (one two : List Connection) → map (λ (c : Connection). Some c) one ≡ map (λ (c : Connection). Some c) two → one ≡ two
same_told [] [] same = refl
same_told [] (y ∷ two) same = absurd (cc same)
same_told (x ∷ one) [] same = absurd (cc same)
same_told (x ∷ one) (y ∷ two) same = cc (same_told one two (cc same), same)

-- the next may come back
pub may_next : (old now : Option Connections) (all before after : List (Option Connection)) (one : Option Connection) → all ≡ before ++ one ∷ after → AllMayComeBack old all → AllComeBack old now before → MayComeBack now one
may_next None None all before after one split may back = tt
may_next None (Some now) all before after one split may back = absurd back
may_next (Some old) None all before after one split may back = absurd back
may_next (Some old) (Some now) all before after one split may back = (
  (let room = may.0 in
      let size = ap (λ (c : Connections). length c.ended) back.2 ∙ length-append old.ended back.0 in
      let told = ap length back.1 ∙ sizes back.0 in
      let whole = ap length split ∙ length-append before (one ∷ after) in
      let same : now.accepted ≡ old.accepted = ap (λ (c : Connections). c.accepted) back.2 in
      omega (arith, size, told, whole, same, room)),
  first_told may.1 before one after (sym split ∙ may.2),
)

-- ---- what a worker ended

module _ (start was now : Option Connections) (total amount : ℕ) (pass other : Known) (ended : List (Option Connection)) (arrived : AreArrived start was total) (back : AreBack was now amount pass) (accounts : IsTrue (is_some start) → Accounts ended other) where
  pub back_all : (next : Option Connections) (both : Known) (count : ℕ) → AllComeBack now next ended → count ≡ amount + length ended
      → ((connections others : List Connection) → AccountFor connections pass → AccountFor others other → AccountFor (connections ++ others) both)
      → AreBack was next count both
  back_all next both count came counted joined = at start was now next arrived back accounts came
    where
      at : (start was now next : Option Connections) → AreArrived start was total → AreBack was now amount pass → (IsTrue (is_some start) → Accounts ended other) → AllComeBack now next ended → AreBack was next count both
      at start None None None arrived back accounts came = tt
      at start None None (Some next) arrived back accounts came = absurd came
      at start None (Some now) next arrived back accounts came = absurd back
      at start (Some was) None next arrived back accounts came = absurd back
      at start (Some was) (Some now) None arrived back accounts came = absurd came
      at None (Some was) (Some now) (Some next) arrived back accounts came = absurd arrived
      at (Some start) (Some was) (Some now) (Some next) arrived back accounts came =
          let told = accounts refl in
          let same = same_told told.connections came.0 (sym told.are ∙ came.1) in (
            back.0 ++ came.0,
            rw (came.2, back.1, append_assoc was.ended back.0 came.0) refl,
            omega (arith, length-append back.0 came.0, back.2, counted, ap length came.1, sizes came.0),
            joined back.0 came.0 back.3 (subst (λ (cs : List Connection). AccountFor cs other) same told.account),
          )
