-- What the calls of a host keep: steps of proofs.
use Rattle.std.specs.Prelude.{◌≡◌, ◌≢◌, ℕ, ◌<◌, ◌≤◌, All, Bool, true, false, List, length, slice_index_or}
use Rattle.hose_host.specs.declared.answers.HostAnswers.{Ghosts}
use Rattle.hose_net.specs.declared.connections.Connections.{Ghosts as ConnectionsGhosts}
use mathlib.Core.List.{IsPrefix}
use Rattle.hose_net.specs.declared.hold.Hold.TheVariants.{Alone}
use Rattle.hose_net.specs.declared.hold.Parting.{Parting}
use Rattle.hose_net.specs.Story.{Hosts, Life, Link, MayAnswer, PartsFor, Step, Terms, bound_in, bound_of, exchanges, hold_in, is_empty, life, link_in}
use Rattle.hose_host.specs.declared.places.Places.{Places}
use Rattle.hose_host.specs.steps.Seats.{SeatState, Sits}

-- where a host is with one connection, of which these bytes were got and are not looked at yet
pub record At (N A : Type 0) : Type 0 where
  pub network : N
  pub by : A
  pub seat : SeatState
  pub coming : List ℕ

-- where a host is with one connection, as one
abbrev pub at : {N A : Type 0} → N → A → SeatState → List ℕ → At N A
at network by seat coming = record { network = network; by = by; seat = seat; coming = coming }

-- where a host is with all connections, and how much a reply may need that is sent
pub record Hall (N A : Type 0) : Type 0 where
  pub network : N
  pub by : A
  pub seats : List SeatState
  pub heard : ℕ

-- where a host is with all connections, as one
abbrev pub hall : {N A : Type 0} → N → A → List SeatState → ℕ → Hall N A
hall network by seats heard = record { network = network; by = by; seats = seats; heard = heard }

-- where a host is with all connections, and whether its link is open
pub record Host (N A : Type 0) : Type 0 where
  pub hall : Hall N A
  pub opened : Bool

-- where a host is with all connections and its link, as one
abbrev pub housed : {N A : Type 0} → N → A → List SeatState → ℕ → Bool → Host N A
housed network by seats heard opened = record {
  hall = hall network by seats heard;
  opened = opened;
}

-- where a host is that keeps this of its connections
abbrev pub host_of : {N A : Type 0} → N → A → Places → Host N A
host_of network by places = housed network by places.seats.items places.heard places.opened

module _ {N A R B : Type 0} (net : ConnectionsGhosts N) (by : Ghosts A R B) where
  -- what a host is about that answers by this answerer
  abbrev pub terms_of : by.origin → by.subject → Terms N B by.said R
  terms_of from topic = record {
    did = net.did;
    saw = net.saw B;
    stands = by.stands from;
    says = by.says topic;
    text = by.text topic;
    standby = by.standby_at topic;
    may_be_alone = by.goes_alone topic;
    leads = by.leads from;
    is_ahead = by.is_ahead from;
  }

  -- A host stands at the end of this story, and knows of whom it answered no line. What it knows of
  -- the link is of the one that is there, and how many lines were answered.
  pub record Stands (first : N) (from : by.origin) (topic : by.subject)
      (story : List (Step by.said R)) (heard : ℕ) (network : N) (answers : A) : Type 0 where
    pub hosts : Hosts (terms_of from topic) first story network
    pub link : Link
    pub comes : by.comes from (exchanges story) link answers
    pub links : (link_in story).here ≡ true → link ≡ link_in story
    pub answered : link.answered ≡ (link_in story).answered
    pub about : by.about answers ≡ topic
    pub hears : bound_in story ≡ heard
    pub alone : heard ≡ bound_of Alone → hold_in story ≡ Alone
    pub within : All (λ exchange. exchange.needs ≤ by.count answers) (exchanges story)
    pub may : by.waits answers ≡ false → MayAnswer (terms_of from topic) story
    pub knows : (place : ℕ) → (life place story).here ≡ true
        → by.is_new answers place ≡ is_empty (life place story).own

  -- a story that went on at one place, and how whoever is there is then
  pub record GoesOnAt (Then : Life by.said R → SeatState → Type 0) (place : ℕ) (first : N)
      (from : by.origin) (topic : by.subject) (story : List (Step by.said R)) (heard : ℕ)
      (now : At N A) : Type 0 where
    pub later : List (Step by.said R)
    pub onward : IsPrefix story later
    pub links : (link_in later).here ≡ (link_in story).here
    pub others : (other : ℕ) → other ≢ place → life other later ≡ life other story
    pub stands : Stands first from topic later heard now.network now.by
    pub sits : Sits (by.text topic) heard (life place later) now.seat now.coming
    pub ends : Then (life place later) now.seat

  -- a call keeps what a host is, with the connection at this place, if it is so, and it is then so
  abbrev pub Keeps : (Life by.said R → SeatState → Type 0) → (Life by.said R → SeatState → Type 0)
      → ℕ → ℕ → At N A → At N A → Type 0
  Keeps First Then place heard old new = (first : N) (from : by.origin) (topic : by.subject)
      (story : List (Step by.said R)) → Stands first from topic story heard old.network old.by
      → Sits (by.text topic) heard (life place story) old.seat old.coming
      → First (life place story) old.seat → GoesOnAt Then place first from topic story heard new

  -- how whoever is at a place is, where so much was heard
  abbrev pub How : Type 1
  How = ℕ → ℕ → Life by.said R → SeatState → Type 0

  -- each seat stands for whoever is at its place, who is so, and no one is elsewhere
  pub record AllSit (Is : How) (topic : by.subject) (heard : ℕ) (story : List (Step by.said R))
      (seats : List SeatState) : Type 0 where
    pub sit : (place : ℕ) (seat : SeatState) → place < length seats → Sits (by.text topic) heard
        (life place story) (slice_index_or seats place seat) (slice_index_or seats place seat).kept
    pub rest : (place : ℕ) (seat : SeatState) → place < length seats
        → Is place heard (life place story) (slice_index_or seats place seat)
    pub beyond : (place : ℕ) → length seats ≤ place → (life place story).here ≡ false

  -- a story that went on, of which something more is said
  pub record GoesOn (Also : List (Step by.said R) → Type 0) (Then : How) (first : N)
      (from : by.origin) (topic : by.subject) (story : List (Step by.said R)) (now : Hall N A)
      : Type 0 where
    pub later : List (Step by.said R)
    pub onward : IsPrefix story later
    pub also : Also later
    pub stands : Stands first from topic later now.heard now.network now.by
    pub sit : AllSit Then topic now.heard later now.seats

  -- a call keeps what a host is, if all connections are so, and they are then so; the link is not
  -- opened or closed
  abbrev pub KeepsAll : How → How → Hall N A → Hall N A → Type 0
  KeepsAll First Then old new = (first : N) (from : by.origin) (topic : by.subject)
      (story : List (Step by.said R)) → Stands first from topic story old.heard old.network old.by
      → AllSit First topic old.heard story old.seats
      → GoesOn (λ later. (link_in later).here ≡ (link_in story).here) Then first from topic story
      new

  -- a link is there where it is said to be open
  abbrev pub IsOpen : Bool → List (Step by.said R) → Type 0
  IsOpen opened story = opened ≡ true → (link_in story).here ≡ true

  -- a call keeps what a host is, if all connections are so, and they are then so
  abbrev pub KeepsHost : How → How → Host N A → Host N A → Type 0
  KeepsHost First Then old new = (first : N) (from : by.origin) (topic : by.subject)
      (story : List (Step by.said R))
      → Stands first from topic story old.hall.heard old.hall.network old.hall.by
      → IsOpen old.opened story → AllSit First topic old.hall.heard story old.hall.seats
      → GoesOn (IsOpen new.opened) Then first from topic story new.hall

  -- a call keeps what a host is, and the host ends then for this reason
  abbrev pub PartsHost : Parting → How → How → Host N A → Host N A → Type 0
  PartsHost why First Then old new = (first : N) (from : by.origin) (topic : by.subject)
      (story : List (Step by.said R))
      → Stands first from topic story old.hall.heard old.hall.network old.hall.by
      → IsOpen old.opened story → AllSit First topic old.hall.heard story old.hall.seats
      → (on : GoesOn (IsOpen new.opened) Then first from topic story new.hall)
      × PartsFor (terms_of from topic) on.later why

  -- a story that went on at the link alone
  pub record GoesOnLink (opened : Bool) (first : N) (from : by.origin) (topic : by.subject)
      (story : List (Step by.said R)) (heard : ℕ) (network : N) (answers : A) : Type 0 where
    pub later : List (Step by.said R)
    pub onward : IsPrefix story later
    pub same : (place : ℕ) → life place later ≡ life place story
    pub stands : Stands first from topic later heard network answers
    pub there : IsOpen opened later

  -- a call keeps what a host is, where so much was heard, and things happen at the link alone
  abbrev pub KeepsLinkAt : ℕ → Bool → N → A → Bool → N → A → Type 0
  KeepsLinkAt heard was old by_old opened new by_new = (first : N) (from : by.origin)
      (topic : by.subject) (story : List (Step by.said R))
      → Stands first from topic story heard old by_old → IsOpen was story
      → GoesOnLink opened first from topic story heard new by_new

  -- and whatever was heard
  abbrev pub KeepsLink : Bool → N → A → Bool → N → A → Type 0
  KeepsLink was old by_old opened new by_new =
      (heard : ℕ) → KeepsLinkAt heard was old by_old opened new by_new
