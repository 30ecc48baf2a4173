-- Scripts of lines and their replies.
use Rattle.std.specs.Prelude.{◌≡◌, ℕ, ◌+◌, List, [], ◌∷◌, All, ⊤}
use Rattle.hose_graph.specs.declared.entry.Entry.{Entry}
use Rattle.hose_graph.specs.declared.command.Command.{Command}
use Rattle.hose_graph.specs.declared.command.Reply.{Reply}
use Rattle.hose_graph.specs.declared.command.Reply.TheVariants.{Disk, Memory, Bad, Long}
use Rattle.hose_graph.specs.Network.{Network}
use Rattle.hose_law.specs.Answer.{IsStep}
use Rattle.hose_law.specs.Lines.{AreSteps}
use Rattle.hose_law.specs.Quotes.{Holding, Holdings, with_held}

-- A line as it was read: a customer's command, or what stands in its place. A bad line is told by
-- its first word that is not allowed.
pub data ReadLine : Type 0 where
  Asks : List ℕ → Command → ReadLine
  IsBad : ℕ → ReadLine
  IsLong : ReadLine
  Unread : ReadLine

-- the reply that stands for a line which is no command
abbrev pub IsFixedReply : ReadLine → Reply → Type 0
IsFixedReply (Asks customer command) reply = ⊥
IsFixedReply (IsBad word) reply = reply ≡ Bad word
IsFixedReply IsLong reply = reply ≡ Long
IsFixedReply Unread reply = reply ≡ Memory

-- where a script is: the history, and what each customer holds
pub record ScriptState : Type 0 where
  pub history : List Entry
  pub holdings : Holdings

-- where a script is, of its parts
abbrev pub script_state : List Entry → Holdings → ScriptState
script_state history holdings = record { history = history; holdings = holdings }

-- One line of a script: a step of its customer's command, or a reply that changes nothing.
abbrev pub IsLineStep : Network → ℕ → ReadLine → Reply → ScriptState → ScriptState → Type 0
IsLineStep network epoch (Asks customer command) reply old new = (held : Holding)
    × IsStep network epoch old.history customer (old.holdings customer) command reply new.history
    held
    × (new.holdings ≡ with_held old.holdings customer held)
IsLineStep network epoch line reply old new = IsFixedReply line reply × (new ≡ old)

-- The lines, in order, are steps one after the other, from a history and what is held there on to a
-- history and what is held then.
abbrev pub IsScript : Network → ℕ → List ReadLine → List Reply → ScriptState → ScriptState → Type 0
IsScript network epoch = AreSteps (IsLineStep network epoch)

-- the reply is for want of memory
abbrev pub IsForMemory : Reply → Type 0
IsForMemory Memory = ⊤
IsForMemory reply = ⊥

-- the reply is for a failure of the disk
abbrev pub IsForDisk : Reply → Type 0
IsForDisk (Disk at) = ⊤
IsForDisk reply = ⊥

-- no reply is for want of memory
abbrev pub WithoutMemory : List Reply → Type 0
WithoutMemory replies = All (λ reply. ¬ IsForMemory reply) replies

-- no reply is for a failure of the disk
abbrev pub WithoutDisk : List Reply → Type 0
WithoutDisk replies = All (λ reply. ¬ IsForDisk reply) replies

-- how many failures of the disk a reply tells: 1 or 0
abbrev pub one_if_disk : Reply → ℕ
one_if_disk (Disk at) = 1
one_if_disk reply = 0

-- how many of the replies are for a failure of the disk
abbrev pub disks_in : List Reply → ℕ
disks_in [] = 0
disks_in (reply ∷ replies) = disks_in replies + one_if_disk reply
