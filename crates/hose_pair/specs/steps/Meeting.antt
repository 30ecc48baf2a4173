-- What a host and a follower do where all that `law_standby` supposes holds at once.
use Rattle.std.specs.Prelude.{◌≡◌, ℕ, true, List, [], ◌∷◌, codes}
use Rattle.hose_graph.specs.Network.{Network}
use Rattle.hose_graph.specs.declared.entry.Entry.{Entry}
use Rattle.hose_disk.specs.declared.disk.Disk.{Ghosts}
use Rattle.hose_follow.specs.Replication.{IsLeader}
use Rattle.hose_net.specs.Story.{Exchange, hold_in}
use Rattle.hose_net.specs.declared.hold.Hold.TheVariants.{Upto}
use Rattle.hose_clerk.specs.HostLines.{HostLine}
use Rattle.hose_clerk.specs.Hosting.{HostState}
use Rattle.hose_clerk.specs.declared.replies.HostReply.{HostReply}
use Rattle.hose_pair.specs.steps.Standing.{About, Goes, MayLeave, ServesAtLink, Standing, WasTold}

-- A follower that began without an order, and a host that entered one and sent a byte of its reply,
-- where how replies are held was last heard of that follower; and an image that a stop of the
-- follower may leave from then on. Each clause of `law_standby` speaks of this, where it speaks of
-- such a host: of an image that there is it tells that the order is there.
pub record IsMet {N B D : Type 0} (about : About N B) (disk : Ghosts D) : Type 0 where
  pub start : Standing D
  pub told : Standing D
  pub end : Standing D
  pub exchange : Exchange HostLine HostReply
  pub state : HostState
  pub image : List ℕ
  pub was : WasTold about disk [] start told exchange state
  pub goes : Goes about disk told end
  pub leader_then : IsLeader about.network told.host.history
  pub leader : IsLeader about.network end.host.history
  pub leaves : MayLeave disk about.network end image
  pub order : Entry
  pub entered : state.history ≡ order ∷ []
  pub count : ℕ
  pub held : hold_in told.story ≡ Upto count
  pub serves : about.may_be_alone ≡ true → ServesAtLink about told

-- two nodes, of which the second is named so, and a link between them
abbrev pub two_nodes : List ℕ → Network
two_nodes name = record {
  nodes = codes "a" ∷ name ∷ [];
  links = record { a = 0; b = 1; capacity = 1; length = 1; cost = 1 } ∷ [];
}
