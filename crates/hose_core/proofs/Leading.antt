-- Where a step leads: its entry is decided, and the history has it unless what keeps the book failed.
use Rattle.std.proofs.Common.{◌≡◌, ℕ, List, Option, None, Some, IfSome}
use Rattle.hose_graph.specs.Network.{Network}
use Rattle.hose_graph.specs.declared.command.Command.{Command}
use Rattle.hose_graph.specs.declared.entry.Entry.{Entry}
use Rattle.hose_graph.specs.declared.command.Reply.{Reply}
use Rattle.hose_graph.specs.declared.command.Reply.TheVariants.{Disk, Memory}
use Rattle.hose_law.specs.Answer.{IsStepOf}
use Rattle.hose_law.specs.History.{IsDecidedAt, book_of}
use Rattle.hose_law.specs.steps.History.{IsSoundWith}
use Rattle.hose_law.specs.Quotes.{Holding}
use Rattle.hose_law.proofs.Steps.{step_decided, step_stays}
use Rattle.hose_core.specs.steps.Stepping.{committed_of, history_with}

module _ (network : Network) (epoch : ℕ) (history : List Entry) (customer : List ℕ) (held : Holding) (command : Command) where
  abbrev Is : Reply → Option Entry → List Entry → Holding → Type 0
  Is reply entry next after = IsStepOf network epoch history customer held command reply entry next after

  entry_leads : (reply : Reply) (entry : Entry) (next : List Entry) (after : Holding) → Is reply (Some entry) next after → next ≡ history_with history (Some entry) (committed_of reply)
  entry_leads (Disk at) entry next after step = step.3
  entry_leads Memory entry next after step = absurd (cc step.1)
  entry_leads reply entry next after step = step.1

  pub leads : (reply : Reply) (entry : Option Entry) (next : List Entry) (after : Holding) → Is reply entry next after → next ≡ history_with history entry (committed_of reply)
  leads reply None next after step = step_stays network epoch history customer held command reply next after step
  leads reply (Some entry) next after step = entry_leads reply entry next after step

  pub decided : (reply : Reply) (entry : Option Entry) (next : List Entry) (after : Holding) → Is reply entry next after → IsSoundWith network (book_of epoch history) entry → IfSome entry (IsDecidedAt network (book_of epoch history))
  decided reply None next after step sound = tt
  decided reply (Some entry) next after step sound = step_decided network epoch history customer held command reply entry next after step sound
