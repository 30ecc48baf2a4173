-- How a line of one session is answered, and what all lines have come to: steps of proofs.
use Rattle.std.specs.Prelude.{◌≡◌, ◌⊎◌, ℕ, Bool, false, List, IfSome, ⊤, Option, length}
use Rattle.hose_net.specs.Story.{Exchange, Link}
use Rattle.hose_words.specs.Words.{IsChoice, IsFirst, words_of}
use Rattle.hose_words.specs.Shapes.{IsFirstWrong}
use Rattle.hose_words.specs.declared.lines.Line.{Line}
use Rattle.hose_graph.specs.Network.{Network}
use Rattle.hose_graph.specs.declared.command.Command.{Command}
use Rattle.hose_graph.specs.declared.command.Reply.{Reply}
use Rattle.hose_graph.specs.declared.entry.Entry.{Entry}
use Rattle.hose_graph.specs.steps.Naming.{NamesPlaces}
use Rattle.hose_law.specs.Answer.{IsStepOf}
use Rattle.hose_law.specs.History.{IsDecidedAt, book_of}
use Rattle.hose_law.specs.steps.History.{IsSoundWith}
use Rattle.hose_law.specs.Quotes.{Holding, Holdings}
use Rattle.hose_law.specs.Transcript.{Stage}
use Rattle.hose_law.specs.Transcript.SessionLine.{Greets, Asks, Leaves, IsBad, IsLong, Unread}
use Rattle.hose_law.specs.Transcript.Stage.{Serving, Waiting}
use Rattle.hose_book.specs.Ledger.{HasBookOf, Ledger}
use Rattle.hose_book.specs.steps.Commit.{IsMet, history_after}
use Rattle.hose_book.specs.declared.books.Books.{Ghosts}
use Rattle.hose_book.specs.declared.books.Committed.{Committed}
use Rattle.hose_lead.specs.steps.Standby.{IsLed}
use Rattle.hose_core.specs.steps.Holding.{AreAllKept, AreHeld, quotes_in}
use Rattle.hose_core.specs.steps.Stepping.{Goes, IsSameOrNext, committed_of, history_with}
use Rattle.hose_proto.specs.Command.{IsCommand, TakesMemory, command_shape, verb_word}
use Rattle.hose_greeting.specs.SessionLines.{IsBye}
use Rattle.hose_clerk.specs.HostLines.{HostLine, IsCount, IsEnd}
use Rattle.hose_clerk.specs.HostLines.HostLine.{Counts, Ends, Speaks}
use Rattle.hose_clerk.specs.Hosting.{IsHostAnswer, disks_told}
use Rattle.hose_clerk.specs.steps.Hosting.{AreHosted}
use Rattle.hose_clerk.specs.steps.Linking.{AreMarks, IsMark, IsOrdered, LinkState}
use Rattle.hose_clerk.specs.declared.replies.HostReply.{HostReply}
use Rattle.hose_clerk.specs.declared.replies.HostReply.TheVariants as reply
use Rattle.hose_clerk.specs.declared.tally.Tally.{Tally}
use Rattle.hose_clerk.specs.declared.sessions.Client.{Client}
use Rattle.hose_clerk.specs.declared.sessions.Session.{Session}
use Rattle.hose_clerk.specs.declared.sessions.Session.TheVariants as session
use Rattle.hose_clerk.specs.steps.Sessions.{is_new_at, session_at}
use Rattle.hose_clerk.specs.steps.Shown.{ShownAs}

-- each node and each link that a reply names is one of the network
abbrev pub NamesOf : Network → HostReply → Type 0
NamesOf network (reply.Told told) = NamesPlaces network told
NamesOf network (reply.Ending at) = ⊤
NamesOf network (reply.Figures figures) = ⊤

-- what the text of a later line says
abbrev pub SaysText : Network → List ℕ → HostLine → Type 0
SaysText network text (Speaks (Greets name)) = ⊥
SaysText network text (Speaks (Asks command)) = IsCommand network (words_of text) command
SaysText network text (Speaks Leaves) = IsBye text
SaysText network text (Speaks (IsBad word)) = (¬ IsBye text)
    × IsFirstWrong (command_shape network) (words_of text) word
    × (¬ IsEnd text) × (¬ IsCount text)
SaysText network text (Speaks IsLong) = ⊥
SaysText network text (Speaks Unread) = IsFirst (IsChoice TakesMemory verb_word) (words_of text)
SaysText network text Ends = IsEnd text
SaysText network text Counts = IsCount text

-- ---- a session at a history

-- a session serves a client at a history, with the quotes that are held there
pub record IsServing (network : Network) (history : List Entry) (client : Client) (stage : Stage) :
    Type 0 where
  pub holdings : Holdings
  pub serves : stage ≡ Serving client.name (holdings client.name)
  pub held : (customer : List ℕ)
      → AreHeld network 0 history (holdings customer) (quotes_in client.quotes customer)

-- a session is so far at a history, where it serves a client
abbrev pub FitsStage : Network → List Entry → Session → Stage → Type 0
FitsStage network history session.New stage = ⊤
FitsStage network history (session.Serving client) stage = IsServing network history client stage
FitsStage network history session.Over stage = ⊤

-- a session is so far before a line of it is answered
abbrev pub IsBefore : Network → List Entry → Session → Stage → Type 0
IsBefore network history session.New stage = stage ≡ Waiting
IsBefore network history (session.Serving client) stage = IsServing network history client stage
IsBefore network history session.Over stage = ⊥

-- what a session holds was made before a ledger
abbrev pub IsSessionKept : Ledger → Session → Type 0
IsSessionKept ledger session.New = ⊤
IsSessionKept ledger (session.Serving client) = AreAllKept ledger client.quotes
IsSessionKept ledger session.Over = ⊤

-- and what each session holds
abbrev pub AreSessionsKept : Ledger → List Session → Type 0
AreSessionsKept ledger sessions = (place : ℕ) → IsSessionKept ledger (session_at sessions place)

-- ---- one line

-- A command of a customer whom a session serves was answered by a step at a history.
pub record HasAsked {K R : Type 0} (books : Ghosts K R) (old new : K) (history : List Entry)
    (stage : Stage) (said : HostLine) (told : HostReply) (next : List Entry) : Type 0 where
  pub customer : List ℕ
  pub held : Holding
  pub command : Command
  pub answer : Reply
  pub serves : stage ≡ Serving customer held
  pub asks : said ≡ Speaks (Asks command)
  pub tells : told ≡ reply.Told answer
  pub entry : Option Entry
  pub after : Holding
  pub step : IsStepOf (books.ledger old).network 0 history customer held command answer entry next
      after
  pub sound : IsSoundWith (books.ledger old).network (book_of 0 history) entry
  pub decided : IfSome entry (IsDecidedAt (books.ledger old).network (book_of 0 history))
  pub goes : Goes books old answer entry new
  pub leads : next ≡ history_with history entry (committed_of answer)
  pub met : IsMet (books.frame old) (committed_of answer) (books.frame new)

-- nothing changed, and no failure of a disk was told
pub record HasStayed {K : Type 0} (old new : K) (history : List Entry) (told : HostReply)
    (next : List Entry) : Type 0 where
  pub same : new ≡ old
  pub stays : next ≡ history
  pub no_disk : disks_told told ≡ 0

-- A line of a session that is so far was answered at a history, and the session fits what this led
-- to.
pub record HasReplied {K R : Type 0} (books : Ghosts K R) (tally : Tally) (old new : K)
    (history : List Entry) (stage : Stage) (said : HostLine) (told : HostReply)
    (session : Session) : Type 0 where
  pub next : List Entry
  pub after : Stage
  pub answer : IsHostAnswer (books.ledger old).network tally history stage said told next after
  pub sits : FitsStage (books.ledger new).network next session after
  pub book : HasBookOf 0 next (books.ledger new)
  pub changes : HasStayed old new history told next
      ⊎ HasAsked books old new history stage said told next

-- A line of a session that says this was answered, after those that were counted, at each history
-- that the books stand for.
pub record AnswersTo {K R : Type 0} (books : Ghosts K R) (tally : Tally) (old new : K)
    (session : Session) (said : HostLine) (told : HostReply) (left : Session) : Type 0 where
  pub replied : (history : List Entry) (stage : Stage) → HasBookOf 0 history (books.ledger old)
      → IsBefore (books.ledger old).network history session stage
      → HasReplied books tally old new history stage said told left
  pub network : (books.ledger new).network ≡ (books.ledger old).network
  pub goes : IsSameOrNext (books.ledger old) (books.ledger new)
  pub kept : IsSessionKept (books.ledger new) left
  pub known : is_new_at left ≡ false
  pub names : NamesOf (books.ledger old).network told

-- A line of a session was answered, which says something.
pub record AnswersSession {K R : Type 0} (books : Ghosts K R) (Says : List ℕ → HostLine → Type 0)
    (tally : Tally) (old new : K) (session : Session) (line : Line) (told : HostReply)
    (left : Session) : Type 0 where
  pub said : HostLine
  pub says : ShownAs Says line said
  pub answers : AnswersTo books tally old new session said told left

-- and of its text this is known
pub record AnswersText {K R : Type 0} (books : Ghosts K R) (tally : Tally) (books_now : K)
    (session : Session) (text : List ℕ) (told : HostReply) (left : Session) : Type 0 where
  pub said : HostLine
  pub says : SaysText (books.ledger books_now).network text said
  pub answers : AnswersTo books tally books_now books_now session said told left

-- ---- all lines

-- of what history books are goes on as entries are committed to them
abbrev pub GrowsWith : {K R : Type 0} → Ghosts K R → (K → Network → List Entry → Type 0) → Type 0
GrowsWith {K} books is_of = (network : Network) (history : List Entry) (old new : K)
    (entry : Entry) (result : Committed) → books.went old entry result new
    → is_of old network history → is_of new network (history_after history entry result)

-- Lines were answered from a history on, by books that were first so, and have come to these: each
-- session fits where the host is, and the replies were counted. The books are of the history there,
-- and what a link to a standby gave and was sent has led to how far it is, and its marks were made.
pub record HasHosted {K R : Type 0} (books : Ghosts K R)
    (is_of : K → Network → List Entry → Type 0) (required : Bool) (since : List Entry)
    (first now : K) (sessions : List Session) (ended : Bool) (tally : Tally) (by : LinkState)
    (exchanges : List (Exchange HostLine HostReply)) (link : Link) : Type 0 where
  pub hosted : AreHosted books (books.ledger first).network required since first now exchanges
  pub book : HasBookOf 0 hosted.state.history (books.ledger now)
  pub network : (books.ledger now).network ≡ (books.ledger first).network
  pub sits : (place : ℕ) → FitsStage (books.ledger now).network hosted.state.history
      (session_at sessions place) (hosted.state.stages place)
  pub ends : hosted.state.ended ≡ ended
  pub counted : hosted.state.tally ≡ tally
  pub history : is_of now (books.ledger first).network hosted.state.history
  pub led : IsLed (books.ledger first).network hosted.state.history link.given link.sent by.standby
  pub requires : by.required ≡ required
  pub answered : link.answered ≡ length exchanges
  pub ordered : IsOrdered link
  pub marks : AreMarks (IsMark (books.ledger first).network required since exchanges hosted.state
      link.early) by.fence
