-- What answering lines by the book of a journal comes to.
use Rattle.std.specs.Prelude.{◌≡◌, ◌⊎◌, List, ℕ, Result, ⊤}
use Rattle.hose_io.specs.declared.Failed.{Failed}
use Rattle.hose_words.specs.steps.Lines.{Reader}
use Rattle.hose_graph.specs.Network.{Network}
use Rattle.hose_graph.specs.declared.entry.Entry.{Entry}
use Rattle.hose_graph.specs.declared.command.Reply.{Reply}
use Rattle.hose_law.specs.Script.{ReadLine}
use Rattle.hose_book.specs.steps.GoingOn.{GoesOn}
use Rattle.hose_store.specs.steps.Commit.{store_books}
use Rattle.hose_store.specs.Recovery.{IsHistoryOf}
use Rattle.hose_store.specs.steps.Store.{KeptStore}
use Rattle.hose_outside.specs.OnDisk.{HadContent}
use Rattle.hose_offline.specs.OnDisk.{KeptOnDisk}
use Rattle.hose_outside.specs.Parts.{Parts, Tellings}
use Rattle.hose_offline.specs.Run.{script_run}
use Rattle.hose_outside.specs.Unopened.{OpensNoJournal, first_of}
use Rattle.hose_talk.specs.Talk.{talk}
use Rattle.hose_offline.specs.Talking.{IsAskedBy, TellsDisks}
use Rattle.hose_offline.specs.steps.Talking.{Talks, talk_tellings}
use Rattle.hose_outside.specs.declared.fault.Fault.{Fault}

-- The lines of a reader are answered by the book of the journal of this name.
module _ {S O C E : Type 0} (tells : Tellings S O C E) (name : List ℕ)
    (before after : Parts (Reader S) O C) (network : Network) where
  -- Lines were answered by the book of the journal, which was closed and put back then.
  pub record HasTalkedInCabinet (answered : Result ⊤ Fault) (closing : Result ⊤ Failed) :
      Type 0 where
    pub since : List Entry
    pub first : KeptStore E
    pub last : KeptStore E
    pub begun : HadContent tells.cabinet tells.disk before.cabinet name
        (IsHistoryOf network since)
    pub talks : Talks (talk_tellings tells.source tells.sink (store_books tells.disk)) network since
        (talk before.input before.output first) (talk after.input after.output last) answered
    pub keeps : (history : List Entry) (lines : List ReadLine) (replies : List Reply)
        → GoesOn (store_books tells.disk) (IsAskedBy since lines replies) network since first
        history last
        → TellsDisks (tells.disk.frame first.journal.disk).faults replies
        (tells.disk.frame last.journal.disk).faults
        → KeptOnDisk tells.cabinet tells.disk name before.cabinet after.cabinet closing
        (script_run network since history lines replies)

  -- no store was opened, and nothing was read or written; or lines were answered by its book
  abbrev pub TalksInCabinet : Result ⊤ Fault → Type 0
  TalksInCabinet result =
      (OpensNoJournal tells.cabinet tells.disk name before.cabinet after.cabinet network result
      × (after.input ≡ before.input) × (after.output ≡ before.output))
      ⊎ ((answered : Result ⊤ Fault) × (closing : Result ⊤ Failed)
      × HasTalkedInCabinet answered closing × (result ≡ first_of answered closing))
