-- What the lines after a topology say, and what is answered to them.
use Rattle.std.specs.Prelude.{◌≡◌, ◌⊎◌, ℕ, ◌+◌, ◌-◌, ◌^◌, ◌<◌, ◌≤◌, List, length, slice_get, take, Some, Result, Ok, Err, ⊤}
use Rattle.hose_words.specs.Shapes.{IsFirstWrong}
use Rattle.hose_words.specs.Words.{words_of}
use Rattle.hose_words.specs.Limits.{line_limit}
use Rattle.hose_graph.specs.declared.entry.Entry.{Entry}
use Rattle.hose_graph.specs.declared.command.Command.{Command}
use Rattle.hose_graph.specs.declared.command.Reply.{Reply}
use Rattle.hose_graph.specs.Network.{Network}
use Rattle.hose_law.specs.Answer.{IsStepOf}
use Rattle.hose_law.specs.Book.{Book}
use Rattle.hose_law.specs.History.{IsDecidedAt, book_of}
use Rattle.hose_law.specs.Quotes.{Holding, Holdings, nothing_held}
use Rattle.hose_law.specs.Script.{IsScript, ReadLine, disks_in, script_state}
use Rattle.hose_law.specs.Script.ReadLine.{Asks, IsBad, IsLong, Unread}
use Rattle.hose_offline.specs.ScriptLine.{IsAsking, WantsMemory, script_shape}
use Rattle.hose_talk.specs.declared.talking.TalkEnd.{TalkEnd}
use Rattle.hose_talk.specs.declared.talking.TalkFault.{TalkFault}
use Rattle.hose_talk.specs.declared.talking.TalkFault.TheVariants as talk_fault
use Rattle.hose_outside.specs.declared.fault.Fault.{Fault}
use Rattle.hose_outside.specs.declared.fault.Fault.TheVariants.{Read, Write, TooLong}

-- What a line of bytes says: a customer's command, a first word that is not allowed, or too much;
-- or it is left unread for want of memory, which its command may take.
abbrev pub Says : Network → List ℕ → ReadLine → Type 0
Says network bytes (Asks customer command) =
    (length bytes ≤ line_limit) × IsAsking network bytes customer command
Says network bytes (IsBad word) = (length bytes ≤ line_limit)
    × IsFirstWrong (script_shape network) (words_of bytes) word
Says network bytes IsLong = line_limit < length bytes
Says network bytes Unread = (length bytes ≤ line_limit) × WantsMemory (words_of bytes)

-- Failures of a disk were told at most as often as a count rose, or it stands at its type's end.
abbrev pub TellsDisks : ℕ → List Reply → ℕ → Type 0
TellsDisks before replies after = (before + disks_in replies ≤ after) ⊎ (2 ^ 64 - 1 ≤ after)

-- The entry is decided at the book, and one of the lines asks for it: the lines before that one
-- lead, as a script from this history on where no customer held a quote, to a history of this book;
-- the reply to the line is that of a step there, by what its customer holds then, whose answer has
-- this entry. So its commit was answered as the book answers, or as one that the disk failed to
-- keep.
pub record IsAskedBy (since : List Entry) (lines : List ReadLine) (replies : List Reply)
    (network : Network) (book : Book) (entry : Entry) : Type 0 where
  pub decided : IsDecidedAt network book entry
  pub place : ℕ
  pub customer : List ℕ
  pub command : Command
  pub reply : Reply
  pub line : slice_get lines place ≡ Some (Asks customer command)
  pub answer : slice_get replies place ≡ Some reply
  pub history : List Entry
  pub is_book : book_of 0 history ≡ book
  pub held : Holdings
  pub before : IsScript network 0 (take place lines) (take place replies)
      (script_state since nothing_held) (script_state history held)
  pub next : List Entry
  pub after : Holding
  pub step : IsStepOf network 0 history customer (held customer) command reply (Some entry) next
      after

-- what answering lines came to, as a command tells it
abbrev pub done_of_talk : Result TalkEnd TalkFault → Result ⊤ Fault
done_of_talk (Ok end) = Ok tt
done_of_talk (Err talk_fault.Read) = Err Read
done_of_talk (Err talk_fault.TooLong) = Err TooLong
done_of_talk (Err talk_fault.Write) = Err Write
