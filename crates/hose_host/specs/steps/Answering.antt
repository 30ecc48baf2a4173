-- How all exchanges come on by a line that is answered.
use Rattle.std.specs.Prelude.{◌≡◌, ◌≢◌, ℕ, Bool, List, [], ◌∷◌, ◌++◌}
use Rattle.hose_net.specs.Story.{Exchange}
use Rattle.hose_words.specs.declared.lines.Line.{Line}
use Rattle.hose_words.specs.steps.Lines.{Shows}

-- A line was answered that came from a place by a door, the first of its connection or not:
-- whatever bytes it shows, they say something, and what all exchanges had come to comes on by this
-- one, whose reply needs so much.
abbrev pub AnswersAt : {L R A : Type 0} → (comes then_comes : List (Exchange L R) → A → Type 0)
    → (Bool → ℕ → List ℕ → L → Type 0) → ℕ → ℕ → Line → Bool → ℕ → A → A → R → Type 0
AnswersAt {L} {R} comes then_comes Says place door line first needs old new reply =
    (before : List (Exchange L R)) (bytes : List ℕ) → Shows line bytes → comes before old
    → (said : L) × Says first door bytes said × then_comes (before ++ record {
      place = place;
      door = door;
      first = first;
      line = bytes;
      said = said;
      reply = reply;
      needs = needs;
    } ∷ []) new

-- all places but one are as they were: whether a line was answered, and whether one is still
abbrev pub LeavesOthers : {A : Type 0} → (A → ℕ → Bool) → (A → ℕ → Bool) → ℕ → A → A → Type 0
LeavesOthers is_new over place old new = (other : ℕ) → other ≢ place
    → (is_new new other ≡ is_new old other) × (over new other ≡ over old other)

-- all places are as they were, what lines are about, how much a reply needs, and whether lines wait
pub record LeavesPlaces {A S : Type 0} (is_new over : A → ℕ → Bool) (about : A → S)
    (count : A → ℕ) (waits : A → Bool) (old new : A) : Type 0 where
  pub same_new : (place : ℕ) → is_new new place ≡ is_new old place
  pub same_over : (place : ℕ) → over new place ≡ over old place
  pub same_about : about new ≡ about old
  pub same_count : count new ≡ count old
  pub same_waits : waits new ≡ waits old
