-- The words that the program is run with: steps of proofs.
use Rattle.std.specs.Prelude.{◌≡◌, ℕ, ◌-◌, List, None, Option, drop, map, option_map}
use Rattle.hose_words.specs.steps.Cursor.{Position}
use Rattle.std.specs.String.{string_bytes}
use Rattle.hosed_requests.specs.declared.verb.ProgramVerb.TheVariants as command
use Rattle.hosed_requests.specs.declared.words.Request.{Request}
use Rattle.hosed_requests.specs.declared.words.Request.TheVariants.{Audit, Check, Cut, Follow, Generate, Move, Price, Prove, Run, Ship}
use Rattle.hosed_requests.specs.declared.words.OfJournal.{OfJournal}
use Rattle.hosed_requests.specs.declared.words.ServeRequest.{ServeRequest}
use Rattle.hosed_requests.specs.ProgramWords.{first_end}
use Rattle.hosed_requests.specs.steps.Arguments.{AreArgumentWords, ArgumentTask}

-- ---- the words of each command

-- what names a topology and a journal, as a task
abbrev pub journal_task : OfJournal → ArgumentTask command.Audit
journal_task of = (of.tariff, of.names.topology.now, (of.names.journal.now, tt))

-- the tariff that a request chooses
abbrev pub tariff_in : Request → Option ℕ
tariff_in (Run tariff journal) = tariff
tariff_in (Audit of) = of.tariff
tariff_in (Generate sizes) = None
tariff_in (Prove of ends first) = of.tariff
tariff_in (Check of) = of.tariff
tariff_in (Price topology) = None
tariff_in (Ship of from) = of.tariff
tariff_in (Follow of) = of.tariff
tariff_in (Move tariff of) = tariff
tariff_in (Cut of count to) = of.tariff

module _ (names words : List (List ℕ)) where
  -- the words are those of this request
  abbrev pub AreWordsOf : Request → Type 0
  AreWordsOf (Run tariff journal) =
      AreArgumentWords names words command.Run (tariff, option_map (λ name. name.now) journal)
  AreWordsOf (Audit of) = AreArgumentWords names words command.Audit (journal_task of)
  AreWordsOf (Generate sizes) = AreArgumentWords names words command.Generate
      (sizes.seed, (sizes.nodes, (sizes.links, (sizes.hoses, tt))))
  AreWordsOf (Prove of ends first) = AreArgumentWords names words command.Prove
      (of.tariff, of.topology.now, map string_bytes ends.now) × (first ≡ first_end of.tariff)
  AreWordsOf (Check of) =
      AreArgumentWords names words command.Check (of.tariff, of.topology.now, tt)
  AreWordsOf (Price topology) =
      AreArgumentWords names words command.Price (tt {0}, topology.now, tt)
  AreWordsOf (Ship of from) = AreArgumentWords names words command.Ship
      (of.tariff, of.names.topology.now, (of.names.journal.now, (from, tt)))
  AreWordsOf (Follow of) = AreArgumentWords names words command.Follow (journal_task of)
  AreWordsOf (Move tariff of) = AreArgumentWords names words command.Move (
    (tariff, of.live),
    of.from.topology.now,
    (of.from.journal.now, (of.to.topology.now, (of.to.journal.now, tt))),
  )
  AreWordsOf (Cut of count to) = AreArgumentWords names words command.Cut
      (of.tariff, of.names.topology.now, (of.names.journal.now, (count, (to.now, tt))))

-- what a server is to do
abbrev pub task_of : ServeRequest → ArgumentTask command.Serve
task_of of =
    (of.tariff, of.topology.now, (of.journal.now, (of.port, (of.connections, (of.workers, tt)))))

-- the words are those of a server
abbrev pub AreServeWords : List (List ℕ) → List (List ℕ) → ServeRequest → Type 0
AreServeWords names words request = AreArgumentWords names words command.Serve (task_of request)

-- ---- which words are wrong

-- the words from that of a number on are to come, counted from 1
abbrev pub at_word : ℕ → List (List ℕ) → Position
at_word number words = record { left = drop (number - 1) words; read = number - 1 }
