-- Orders of the operator: a link is taken out of service, where this is true, or put back.
use Rattle.std.specs.Prelude.{ℕ, Bool, true, false}
use Rattle.hose_graph.specs.declared.command.Command.{Command}
use Rattle.hose_graph.specs.declared.command.Command.TheVariants as command
use Rattle.hose_graph.specs.declared.command.Reply.{Reply}
use Rattle.hose_graph.specs.declared.command.Reply.TheVariants as reply

-- the command to do so
abbrev pub service_command : Bool → ℕ → Command
service_command true link = command.Down link
service_command false link = command.Up link

-- the reply that tells it, with the epoch after it
abbrev pub service_reply : Bool → ℕ → ℕ → Reply
service_reply true link at = reply.Down link at
service_reply false link at = reply.Up link at
