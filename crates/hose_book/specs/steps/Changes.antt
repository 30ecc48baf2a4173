-- The changes that a book keeps: which links recent entries touched.
use Rattle.std.specs.Prelude.{◌≡◌, ℕ, ◌+◌, ◌<◌, ◌≤◌, List, [], ◌++◌, All, AllPairs, length, if◌then◌else◌, nat_lt}
use Rattle.hose_law.specs.Recent.{Change, Recent}
use Rattle.hose_law.specs.steps.Tracks.{changes_of}
use Rattle.hose_book.specs.steps.Limits.{most_changes}

-- a change comes at no earlier epoch than those before it
abbrev pub AreInOrder : List Change → Type 0
AreInOrder changes = AllPairs (λ (one other : Change). one.0 ≤ other.0) changes

-- the changes of one epoch ascend by their links
abbrev pub AscendByLinks : List Change → Type 0
AscendByLinks changes = AllPairs (λ (one other : Change). one.0 ≡ other.0 → one.1 < other.1) changes

-- no change is of a later epoch than this
abbrev pub AreUpTo : ℕ → List Change → Type 0
AreUpTo epoch changes = All (λ (change : Change). change.0 ≤ epoch) changes

-- each change is of a later epoch than this
abbrev pub AreSince : ℕ → List Change → Type 0
AreSince epoch changes = All (λ (change : Change). epoch < change.0) changes

-- no change is recent
abbrev pub opening_recent : ℕ → Recent
opening_recent epoch = record { floor = epoch; changes = [] }

-- The recent changes once an entry after an epoch has touched links. Where they would be too many,
-- the earlier ones go, and the floor rises.
abbrev pub with_changes : Recent → ℕ → List ℕ → Recent
with_changes recent epoch links =
    if nat_lt most_changes (length recent.changes + length links)
    then record { floor = epoch; changes = changes_of (epoch + 1) links }
    else record {
      floor = recent.floor;
      changes = recent.changes ++ changes_of (epoch + 1) links;
    }
