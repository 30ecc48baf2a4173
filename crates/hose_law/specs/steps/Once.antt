-- Orders that can be given again: of the admissions that a customer binds to one number, which of
-- them a history has.
use Rattle.std.specs.Prelude.{◌≡◌, ℕ, ◌+◌, ◌<◌, List, Some, slice_get, take}
use Rattle.hose_graph.specs.declared.command.Reply.{Reply}
use Rattle.hose_graph.specs.declared.entry.Entry.{Entry}
use Rattle.hose_graph.specs.Hose.{Endpoint}
use Rattle.hose_graph.specs.Network.{Network}
use Rattle.hose_law.specs.Answer.{IsAfterAnswer}
use Rattle.hose_law.specs.History.{book_of}
use Rattle.hose_law.specs.Live.{NotReleased}

-- the entry at a place of a history is that of an admission which a customer bound to a number
pub record IsBoundAdmission (network : Network) (epoch : ℕ) (history : List Entry)
    (customer : List ℕ) (known place : ℕ) : Type 0 where
  pub hose : List Endpoint
  pub reply : Reply
  pub entry : Entry
  pub there : slice_get history place ≡ Some entry
  pub answer : IsAfterAnswer network (book_of epoch (take place history)) customer known hose
      reply (Some entry)

-- Of the admissions that a customer binds to one number a history has one at most, unless the
-- customer releases the VPN of the first before the other.
abbrev pub AdmitsOnce : Network → ℕ → List Entry → List ℕ → ℕ → Type 0
AdmitsOnce network epoch history customer known = (one other : ℕ) → one < other
    → IsBoundAdmission network epoch history customer known one
    → IsBoundAdmission network epoch history customer known other
    → ¬ NotReleased history customer (epoch + one + 1) one other
