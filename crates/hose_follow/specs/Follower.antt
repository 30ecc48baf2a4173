-- A follower: what it reads, what it answers on, and its store.
use Rattle.hose_io.specs.Frame.{Frame, Rose, Stays}

-- A call on the object failed: its count of faults rose, and it is the object that it was.
pub record Faulted (before after : Frame) : Type 0 where
  pub rose : Rose before after
  pub stays : Stays before after
