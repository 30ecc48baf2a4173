-- Words that name no door.
use Rattle.std.proofs.Common.{◌≡◌, ◌↔◌, ◌⊎◌, ⊎_elim, ℕ, ◌+◌, ◌<◌, List, [], Bool, false, true, IsTrue, Option, None, Some, Bor, get_or, subst, sym, arith}
use Rattle.std.specs.Prelude.{MatchOption, ⊤}
use Rattle.std.proofs.lemmas.Bool.{cases_lt}
use Rattle.std.proofs.lemmas.Str.Pattern.{IsSplitOnceResult, split_after}
use Rattle.hose_graph.specs.Name.{IsName}
use Rattle.hose_words.specs.Numbers.{IsWithin}
use Rattle.hose_words.specs.steps.Form.{TellsNumber}
use Rattle.hose_doors.specs.Doors.{IsSocketPath, NamesDoor}
use Rattle.hose_doors.specs.declared.door.HostDoor.TheVariants as door

-- a word that was looked at is no path
pub no_path : (is : Bool) (looked word : List ℕ) → (IsTrue is ↔ IsSocketPath looked) → is ≡ false → looked ≡ word → ¬ IsSocketPath word
no_path is looked word told not same may = cc (not, told.1 (subst IsSocketPath (sym same) may))

-- a word that is neither a port nor a path, and no path and a name round its first `=`
pub no_door : (word : List ℕ) (split : Option (Bor (List ℕ) × Bor (List ℕ))) → IsSplitOnceResult 61 word split → (¬ TellsNumber (IsWithin 1 65535) word) → (¬ IsSocketPath word) → MatchOption split ⊤ (λ x. IsSocketPath x.0.now → ¬ IsName x.1.now) → ¬ NamesDoor word
no_door word split is no_port path none (door.Port port, same, may) = no_port (port, same, may)
no_door word split is no_port path none (door.Path one, same, may) = path (subst IsSocketPath (sym same) may)
no_door word split is no_port path none (door.Bound one name, same, may) = by split (split_after 61 word one.now name split is (omega arith) same (λ i below. may.0.plain i 0 below)) none
  where
    by : (found : Option (Bor (List ℕ) × Bor (List ℕ))) → MatchOption found ⊥ (λ x. (x.0.now ≡ one.now) × (x.1.now ≡ name)) → MatchOption found ⊤ (λ x. IsSocketPath x.0.now → ¬ IsName x.1.now) → ⊥
    by None after none = after
    by (Some x) after none = none (subst IsSocketPath (sym after.0) may.0) (subst IsName (sym after.1) may.1)

-- one word more names a door
pub named_more : (words : List (List ℕ)) (place : ℕ) → ((k : ℕ) → k < place → NamesDoor (get_or words k [])) → NamesDoor (get_or words place []) → (k : ℕ) → k < place + 1 → NamesDoor (get_or words k [])
named_more words place before here k below = ⊎_elim (λ less. before k less) (λ least. subst (λ (n : ℕ). NamesDoor (get_or words n [])) (omega (arith, below, least)) here) (cases_lt k place)

-- a word of which it is told that it names a door
pub names_told : (is : Bool) (word : List ℕ) → (IsTrue is ↔ NamesDoor word) → is ≡ true → NamesDoor word
names_told is word told so = told.0 so
