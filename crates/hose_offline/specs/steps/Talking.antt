-- What the lines after a topology say, and what is answered to them: steps of proofs.
use Rattle.std.specs.Prelude.{◌≡◌, ◌⊎◌, ℕ, false, List, [], length, Result, Err, ⊤}
use mathlib.Core.List.{IsPrefix}
use Rattle.hose_io.specs.Frame.{Stays}
use Rattle.hose_io.specs.declared.sink.Sink.{Ghosts as SinkGhosts}
use Rattle.hose_io.specs.declared.source.Source.{Ghosts}
use Rattle.hose_words.specs.Shapes.{IsFirstWrong}
use Rattle.hose_words.specs.Words.{words_of}
use Rattle.hose_words.specs.steps.Lines.{Reader}
use Rattle.hose_words.specs.steps.Saying.{SaysUpTo}
use Rattle.hose_words.specs.declared.lines.Line.{Line}
use Rattle.hose_words.specs.declared.lines.Line.TheVariants as line
use Rattle.hose_graph.specs.declared.entry.Entry.{Entry}
use Rattle.hose_graph.specs.declared.command.Reply.{Reply}
use Rattle.hose_graph.specs.Network.{Network}
use Rattle.hose_law.specs.History.{IsDecided}
use Rattle.hose_law.specs.Quotes.{Holdings, nothing_held}
use Rattle.hose_law.specs.Script.{ReadLine, IsFixedReply, IsScript, script_state}
use Rattle.hose_law.specs.Script.ReadLine.{Asks, IsBad, IsLong, Unread}
use Rattle.hose_offline.specs.Talking.{done_of_talk, IsAskedBy, Says, TellsDisks}
use Rattle.hose_offline.specs.ScriptLine.{IsAsking, WantsMemory, script_shape}
use Rattle.hose_proto.specs.ReplyText.{line_of, reply_text}
use Rattle.hose_talk.specs.Talk.{TalksTo, Terms, Talk, talk}
use Rattle.hose_talk.specs.steps.Talk.{IsCutByReader, KeepsFault}
use Rattle.hose_talk.specs.declared.talking.TalkEnd.{TalkEnd}
use Rattle.hose_talk.specs.declared.talking.TalkFault.{TalkFault}
use Rattle.hose_book.specs.steps.Commit.{Commits, IsMet, unfailing}
use Rattle.hose_book.specs.steps.GoingOn.{GoesOn}
use Rattle.hose_book.specs.declared.books.Books.{Ghosts as BooksGhosts}
use Rattle.hose_book.specs.declared.books.Plain.{Plain}
use Rattle.hose_core.specs.steps.Holding.{State}
use Rattle.hose_core.specs.steps.Stepping.{FitsHistory, Steps, committed_of}
use Rattle.hose_outside.specs.declared.fault.Fault.{Fault}
use Rattle.hose_outside.specs.declared.fault.Fault.TheVariants as fault

-- what a line says, as a reader of lines gives it
abbrev pub SaysRead : Network → Line → ReadLine → Type 0
SaysRead network (line.Text bytes) (Asks customer command) =
    IsAsking network bytes.now customer command
SaysRead network (line.Text bytes) (IsBad word) =
    IsFirstWrong (script_shape network) (words_of bytes.now) word
SaysRead network (line.Text bytes) Unread = WantsMemory (words_of bytes.now)
SaysRead network line.Long IsLong = ⊤
SaysRead network _ _ = ⊥

-- the line was read
abbrev pub IsRead : ReadLine → Type 0
IsRead Unread = ⊥
IsRead _ = ⊤

-- but for being left unread, the line says one thing at most
abbrev pub SaysOneThing : Network → List ℕ → Type 0
SaysOneThing network bytes = (one other : ReadLine) → Says network bytes one
    → Says network bytes other → IsRead one → IsRead other → one ≡ other

-- a line says this, and nothing else but that it was left unread
abbrev pub SaysAlone : Network → List ℕ → ReadLine → Type 0
SaysAlone network bytes said = Says network bytes said × SaysOneThing network bytes

-- A core answered a line: a command by a step at each history that the core fits, and any other
-- line with the reply that stands for it, which changes nothing. A failure of a disk raised the
-- count of the books.
abbrev pub AnswersLine : {K R : Type 0} → BooksGhosts K R → State K → State K → ReadLine → Reply
    → Type 0
AnswersLine books old new (Asks customer command) answer =
    Steps books old new customer command answer
    × ((books.ledger new.books).network ≡ (books.ledger old.books).network)
    × IsMet (books.frame old.books) (committed_of answer) (books.frame new.books)
AnswersLine books old new line answer = IsFixedReply line answer × (new ≡ old)

-- Lines that were answered from a history on, where no customer held a quote: the replies are those
-- of a script, whose history goes on from the first one by entries that are decided, that the lines
-- ask for and that were committed. Failures of a disk were told no more often than the count of the
-- books rose.
pub record AreAnswered {K R : Type 0} (books : BooksGhosts K R) (network : Network)
    (since : List Entry) (first last : K) (lines : List ReadLine) (replies : List Reply) :
    Type 0 where
  pub history : List Entry
  pub left : Holdings
  pub script : IsScript network 0 lines replies (script_state since nothing_held)
      (script_state history left)
  pub decided : IsDecided network 0 (length since) history
  pub begins : IsPrefix since history
  pub goes_on : GoesOn books (IsAskedBy since lines replies) network since first history last
  pub stays : Stays (books.frame first) (books.frame last)
  pub disks : TellsDisks (books.frame first).faults replies (books.frame last).faults

-- A core answered lines from a history on, by books that were first so: its books fit the history
-- that the replies lead to, on the same network.
pub record HasAnsweredLines {K R : Type 0} (books : BooksGhosts K R) (since : List Entry)
    (first core : State K) (lines : List ReadLine) (replies : List Reply) : Type 0 where
  pub answered : AreAnswered books (books.ledger first.books).network since first.books core.books
      lines replies
  pub fits : FitsHistory books core 0 answered.history answered.left
  pub network : (books.ledger core.books).network ≡ (books.ledger first.books).network

-- what each part of a talk tells, whose lines are answered by books
pub record TalkTellings (S O K R : Type 0) : Type 1 where
  pub source : Ghosts S
  pub sink : SinkGhosts O
  pub books : BooksGhosts K R

-- what each part of a talk tells, of its parts
abbrev pub talk_tellings : {S O K R : Type 0} → Ghosts S → SinkGhosts O → BooksGhosts K R
    → TalkTellings S O K R
talk_tellings source sink books = record { source = source; sink = sink; books = books }

module _ {S O K R : Type 0} (tells : TalkTellings S O K R) (network : Network)
    (since : List Entry) (before after : Talk (Reader S) O K) where
  -- the terms of a talk whose replies are those of books, on a network and from a history on: each
  -- line says one thing at most, but for being left unread
  abbrev pub book_terms : Terms ReadLine ⊤ Reply
  book_terms = record {
    tells = λ stops lines.
        SaysUpTo tells.source before.lines after.lines (λ _. SaysAlone network) lines stops;
    cut = IsCutByReader tells.source before.lines after.lines;
    comes = λ lines replies _.
        AreAnswered tells.books network since before.by after.by lines replies;
    over = λ _. false;
    text = λ reply. line_of (reply_text network reply);
  }

  -- What answering all lines comes to, as a talk on these terms. The reader keeps a fault of
  -- reading that ended it.
  abbrev pub Talks : Result ⊤ Fault → Type 0
  Talks result = (ended : Result TalkEnd TalkFault) × (result ≡ done_of_talk ended)
      × KeepsFault before.lines after.lines ended × TalksTo tells.source tells.sink book_terms
      (talk before.lines.source before.output (tt {0}))
      (talk after.lines.source after.output (tt {0})) ended

-- a book in memory as books
abbrev pub plain_books : BooksGhosts Plain ⊤
plain_books = record {
  ledger = λ plain. plain.book;
  frame = λ _. unfailing;
  fits = λ _ _. ⊤;
  went = λ old entry result new. Commits old.book entry result new.book;
}

-- There was no memory for a book or for rows, and nothing was done; or lines were answered from an
-- empty book on, by this book and then that.
abbrev pub TalksInMemory : {S O : Type 0} → TalkTellings S O Plain ⊤ → Network
    → Talk (Reader S) O ⊤ → Talk (Reader S) O ⊤ → Result ⊤ Fault → Type 0
TalksInMemory tells network before after result =
    ((result ≡ Err fault.Memory) × (after.lines ≡ before.lines) × (after.output ≡ before.output))
    ⊎ ((first : Plain) × (last : Plain) × Talks tells network []
    (talk before.lines before.output first) (talk after.lines after.output last) result)
