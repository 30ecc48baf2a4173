-- What a seat at the table knows, and what each step makes of it.
use Rattle.std.specs.Prelude.{◌≡◌, ◌⊎◌, ℕ, ◌+◌, ◌-◌, ◌<◌, false, true, List, [], ◌∷◌, ◌++◌, length, None, Some}
use Rattle.atomic_table.specs.Seated.{TableId}
use Rattle.hose_graph.specs.declared.entry.Entry.{Entry}
use Rattle.hose_turn.specs.declared.view.View.{View}
use Rattle.hose_turn.specs.declared.view.Origin.{Origin}
use Rattle.hose_turn.specs.declared.view.Tried.{Tried}
use Rattle.hose_turn.specs.steps.Limits.{all_shares}
use Rattle.hose_turn.specs.Known.{Known}
use Rattle.hose_turn.specs.steps.Places.{HasSomePlaces}

-- stands for an origin where there is none yet
abbrev pub no_origin : Origin
no_origin = record {
  first = 0;
  since = [];
  network = record { nodes = []; links = [] };
}

-- a seat that knows nothing, as it is left by a join
abbrev pub nobody : View
nobody = record {
  origin = no_origin;
  share = 0;
  ticket = None;
  has_turn = false;
  seen = [];
  told = [];
  own = [];
  tried = [];
  all_tried = [];
  faults = 0;
  floor = 0;
}

-- The first seat before it has its origin: no pass with a ticket has share 0.
abbrev pub unborn : View
unborn = record nobody { ticket = Some 0 }

-- the first pass as it has the turn, with its ticket and the count of faults of the value
abbrev pub opener : Origin → ℕ → ℕ → View
opener origin ticket floor = record nobody {
  origin = origin;
  share = all_shares;
  ticket = Some ticket;
  has_turn = true;
  seen = origin.since;
  floor = floor;
}

-- the view of a pass
abbrev pub view_of : List View → View
view_of [] = nobody
view_of (view ∷ views) = view

-- what callers see of a pass
abbrev pub known_of : TableId → View → Known
known_of turn view = record {
  turn = turn;
  origin = view.origin;
  share = view.share;
  seen = view.seen;
  own = view.own;
  tried = view.tried;
  faults = view.faults;
}

-- no lock
abbrev pub no_lock : TableId
no_lock = record {
  words = 0;
  slots = 0;
  views_name = 0;
  atom = 0;
  block = 0;
  offset = 0;
  slot_names = [];
}

-- the lock of a pass that is there; one that stands in for another pass is of none
abbrev pub lock_of : TableId → List View → TableId
lock_of turn [] = no_lock
lock_of turn (view ∷ views) = turn

-- The pass is there, has no ticket and not the turn, and has looked at all that it was told. Each
-- of its own places is one that it has seen, and none stands twice.
pub record IsAtRest (view : View) : Type 0 where
  pub live : 0 < view.share
  pub ticket : view.ticket ≡ None
  pub turn : view.has_turn ≡ false
  pub told : view.told ≡ []
  pub own : HasSomePlaces (length view.origin.since) (length view.seen) view.own

-- a pass that does nothing just now
pub record IsResting (views : List View) : Type 0 where
  pub one : views ≡ view_of views ∷ []
  pub rests : IsAtRest (view_of views)

-- a pass that does nothing just now, or one that stands in for another
abbrev pub IsIdle : List View → Type 0
IsIdle views = (views ≡ []) ⊎ IsResting views

-- what is seen of one that stands in for another
abbrev pub no_pass : Known
no_pass = known_of no_lock nobody

-- one share less
abbrev pub cut : View → View
cut view = record view { share = view.share - 1 }

-- a new pass, which has seen what the other has
abbrev pub branch : View → View
branch view = record nobody { origin = view.origin; share = 1; seen = view.seen }

-- a pass and what it takes in of another one
abbrev pub glued : View → View → View
glued view other = record view {
  share = view.share + other.share;
  told = other.seen;
  own = view.own ++ other.own;
  tried = view.tried ++ other.tried;
  faults = view.faults + other.faults;
}

-- a pass that looked at what it was told
abbrev pub settled : View → List Entry → View
settled view longer = record view { seen = longer; told = [] }

-- a pass that drew a ticket
abbrev pub drew : View → ℕ → View
drew view ticket = record view { ticket = Some ticket }

-- a pass whose turn has come, with all that was tried and the count of faults of the value that it
-- took
abbrev pub turned : View → List Entry → List Tried → ℕ → View
turned view history tries floor =
    record view { has_turn = true; seen = history; all_tried = tries; floor = floor }

-- a pass that counted an entry, whose place is the number of entries before it
abbrev pub counted : View → Entry → View
counted view entry = record view {
  seen = view.seen ++ entry ∷ [];
  own = view.own ++ length view.seen ∷ [];
}

-- an entry that is tried where a pass has seen the whole list
abbrev pub tried_at : List Entry → Entry → Tried
tried_at seen entry = record { place = length seen; entry = entry }

-- a pass whose entry was not taken
abbrev pub failed : View → Entry → View
failed view entry = record view {
  tried = view.tried ++ tried_at view.seen entry ∷ [];
  all_tried = view.all_tried ++ tried_at view.seen entry ∷ [];
}

-- a pass that gave its turn on, with more faults
abbrev pub passed_on : View → ℕ → View
passed_on view more = record view { ticket = None; has_turn = false; faults = view.faults + more }
