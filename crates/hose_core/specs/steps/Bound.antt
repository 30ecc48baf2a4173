-- Admissions, which may be bound to the number of their customer's newest VPN.
use Rattle.std.specs.Prelude.{◌≡◌, ◌≢◌, ℕ, Bool, true, false, IfSome, List, Option, None, Some}
use Rattle.hose_graph.specs.Hose.{Endpoint}
use Rattle.hose_graph.specs.declared.command.Command.{Command}
use Rattle.hose_graph.specs.declared.command.Command.TheVariants.{Admit, AdmitAfter}
use Rattle.hose_graph.specs.declared.command.Reply.{Reply}
use Rattle.hose_graph.specs.declared.command.Reply.TheVariants.{Newest, Stale}
use Rattle.hose_law.specs.Answer.{IsNewest}
use Rattle.hose_law.specs.Book.{Book}

-- the command to admit a hose, bound to a number or to none
abbrev pub admission_command : Option ℕ → List Endpoint → Command
admission_command None hose = Admit hose
admission_command (Some known) hose = AdmitAfter known hose

-- the number that an admission is bound to, if it is bound, is that of the customer's newest VPN
abbrev pub HasNewest : Book → List ℕ → Option ℕ → Type 0
HasNewest book customer known = IfSome known (IsNewest book customer)

-- the reply to an admission that is bound to a number tells another one, which is that of the
-- customer's newest VPN
abbrev pub TellsNewest : Book → List ℕ → Option ℕ → Reply → Type 0
TellsNewest book customer (Some known) (Newest id at) =
    (at ≡ book.epoch) × (id ≢ known) × IsNewest book customer id
TellsNewest book customer known reply = ⊥

-- the reply is that a quote went stale
abbrev pub is_stale : Reply → Bool
is_stale (Stale seen now) = true
is_stale reply = false
