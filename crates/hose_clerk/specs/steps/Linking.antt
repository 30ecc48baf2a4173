-- The standby that a host awaits: steps of proofs.
use Rattle.std.specs.Prelude.{◌≡◌, ◌⊎◌, ℕ, ◌-◌, ◌^◌, ◌<◌, ◌≤◌, Bool, true, false, List, ◌++◌, None, Option, Some, IfSome, length, not}
use Rattle.std.specs.String.{string_bytes}
use Rattle.hose_net.specs.Story.{Exchange, Link}
use Rattle.hose_graph.specs.Network.{Network}
use Rattle.hose_graph.specs.declared.entry.Entry.{Entry}
use Rattle.hose_follow.specs.Packet.{Packet, packets_bytes}
use Rattle.hose_lead.specs.Leading.{AreHandedOut}
use Rattle.hose_lead.specs.steps.Standby.{StandbyState}
use Rattle.hose_clerk.specs.HostLines.{HostLine}
use Rattle.hose_clerk.specs.Hosting.{AreHostSteps, HostState, host_from}
use Rattle.hose_clerk.specs.declared.fence.Fence.{Fence}
use Rattle.hose_clerk.specs.declared.fence.Mark.{Mark}
use Rattle.hose_clerk.specs.declared.linking.StandbyAt.{StandbyAt}
use Rattle.hose_clerk.specs.declared.replies.HostReply.{HostReply}

-- the path of a standby's Unix socket, if there is a standby
abbrev pub path_at : Option StandbyAt → Option (List ℕ)
path_at None = None
path_at (Some at) = Some (string_bytes at.path)

-- replies are told without a standby
abbrev pub goes_alone : Option StandbyAt → Bool
goes_alone None = true
goes_alone (Some at) = not at.or_stop

-- no reply is told without a standby
abbrev pub is_required : Option StandbyAt → Bool
is_required awaited = not (goes_alone awaited)

-- how much has to be heard of a standby before a reply is sent, where so many lines were answered
-- and so many entries stand
abbrev pub needed_of : Bool → ℕ → ℕ → ℕ
needed_of true lines entries = lines
needed_of false lines entries = entries

-- ---- marks

-- a mark was passed, by how many lines a standby gave and how many entries it is heard to have
pub record IsPassed (mark : Mark) (answered : ℕ) (heard : Option ℕ) : Type 0 where
  pub count : ℕ
  pub hears : heard ≡ Some count
  pub entries : mark.entries ≤ count
  pub packets : mark.packets < answered
  pub few : mark.packets < 2 ^ 64 - 1

-- the mark that stands for all is passed, and was made where so many lines were answered
pub record PassesAt (fence : Fence) (answered : ℕ) (heard : Option ℕ) (lines : ℕ) : Type 0 where
  pub mark : Mark
  pub is : fence.passed ≡ Some mark
  pub lines_of : mark.lines ≡ lines
  pub passed : IsPassed mark answered heard

-- a mark stands where there was none before, or all marks are as they were
abbrev pub MarksBy : Mark → Fence → Fence → Type 0
MarksBy mark old new = ((new.mark ≡ Some mark) × (new.passed ≡ old.passed))
    ⊎ ((new.mark ≡ old.mark) × (new.passed ≡ old.passed))

-- the mark that is awaited stands for all before, or all marks are as they were
abbrev pub ClearsBy : Fence → Fence → Type 0
ClearsBy old new = ((new.mark ≡ None) × (new.passed ≡ old.mark))
    ⊎ ((new.mark ≡ old.mark) × (new.passed ≡ old.passed))

-- Marks of a fence are such.
abbrev pub AreMarks : (Mark → Type 0) → Fence → Type 0
AreMarks Is fence = IfSome fence.mark Is × IfSome fence.passed Is

-- what a host keeps of its standby: whether it is required, how far its link is, and the marks of
-- this
pub record LinkState : Type 0 where
  pub required : Bool
  pub standby : StandbyState
  pub fence : Fence

-- what a host keeps of its standby, as one
abbrev pub link_state : Option StandbyAt → StandbyState → Fence → LinkState
link_state awaited standby fence = record {
  required = is_required awaited;
  standby = standby;
  fence = fence;
}

-- A mark was made at a moment of a story: as many lines were answered, so many entries stood, and
-- what the standby was sent until then is of no more packets than it says.
pub record IsMark (network : Network) (required : Bool) (since : List Entry)
    (exchanges : List (Exchange HostLine HostReply)) (state : HostState) (early : ℕ → List ℕ)
    (mark : Mark) : Type 0 where
  pub earlier : List (Exchange HostLine HostReply)
  pub later : List (Exchange HostLine HostReply)
  pub split : exchanges ≡ earlier ++ later
  pub past : HostState
  pub before : AreHostSteps network required earlier (host_from since) past
  pub after : AreHostSteps network required later past state
  pub lines : past.tally.lines ≡ mark.lines
  pub had : length past.history ≤ mark.entries
  pub told : List (List ℕ)
  pub begun : List Packet
  pub are : AreHandedOut network past.history told begun
  pub rest : List ℕ
  pub within : early (length earlier) ++ rest ≡ packets_bytes begun
  pub numbered : mark.packets < 2 ^ 64 - 1 → length begun ≤ mark.packets

-- What a link was sent while fewer lines were answered than until now is what it was sent by now,
-- for each number above; and for this one a beginning of it.
pub record IsOrdered (link : Link) : Type 0 where
  pub ahead : (many : ℕ) → link.answered < many → link.early many ≡ link.sent
  pub rest : List ℕ
  pub now : link.early link.answered ++ rest ≡ link.sent
