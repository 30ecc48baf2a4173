-- A talk whose lines are answered by books, as a command tells it.
use Rattle.std.specs.Prelude.{⊤}
use Rattle.std.proofs.Common.{◌≡◌, List, Result, false, refl}
use Rattle.hose_io.specs.declared.sink.Sink.{Ghosts as SinkGhosts}
use Rattle.hose_io.specs.declared.source.Source.{Ghosts}
use Rattle.hose_words.specs.steps.Lines.{Reader}
use Rattle.hose_words.specs.steps.Saying.{SaysUpTo}
use Rattle.hose_graph.specs.declared.command.Reply.{Reply}
use Rattle.hose_graph.specs.declared.entry.Entry.{Entry}
use Rattle.hose_graph.specs.Network.{Network}
use Rattle.hose_law.specs.Script.{ReadLine}
use Rattle.hose_talk.specs.Talk.{TalksTo, Terms, talk}
use Rattle.hose_talk.specs.steps.Talk.{IsCutByReader, KeepsFault}
use Rattle.hose_talk.specs.declared.talking.TalkEnd.{TalkEnd}
use Rattle.hose_talk.specs.declared.talking.TalkFault.{TalkFault}
use Rattle.hose_talk.proofs.Retold.{talks_as}
use Rattle.hose_book.specs.declared.books.Books.{Ghosts as BooksGhosts}
use Rattle.hose_core.specs.steps.Holding.{State}
use Rattle.hose_proto.specs.ReplyText.{line_of, reply_text}
use Rattle.hose_offline.specs.Talking.{done_of_talk}
use Rattle.hose_offline.specs.steps.Talking.{AreAnswered, HasAnsweredLines, SaysAlone, Talks, talk_tellings}
use Rattle.hose_outside.specs.declared.fault.Fault.{Fault}

module _ {S O K R A : Type 0} (source : Ghosts S) (sink : SinkGhosts O) (books : BooksGhosts K R) (since : List Entry) (first : State K) (core_of : A → State K) (start last : Reader S) (output output' : O) where
  abbrev network : Network
  network = (books.ledger first.books).network

  -- the terms of who answers by a core, which was first so
  abbrev core_terms : Terms ReadLine A Reply
  core_terms = record {
    tells = λ stops lines. SaysUpTo source start last (λ _. SaysAlone network) lines stops;
    cut = IsCutByReader source start last;
    comes = λ lines replies now. HasAnsweredLines books since first (core_of now) lines replies;
    over = λ _. false;
    text = λ reply. line_of (reply_text network reply);
  }

  -- what of the core is known is so of its books
  pub talks_told : (was now : A) (result : Result ⊤ Fault) (ended : Result TalkEnd TalkFault) → result ≡ done_of_talk ended → KeepsFault start last ended → TalksTo source sink core_terms (talk start.source output was) (talk last.source output' now) ended
      → Talks (talk_tellings source sink books) network since (talk start output first.books) (talk last output' (core_of now).books) result
  talks_told was now result ended same keeps talks = (
    ended,
    same,
    keeps,
    talks_as source sink core_terms (λ stops lines. SaysUpTo source start last (λ _. SaysAlone network) lines stops) (λ lines replies _. AreAnswered books network since first.books (core_of now).books lines replies) (λ _. false) start.source last.source output output' was now (tt {0}) (tt {0})
        (λ stops lines says. says) (λ lines replies has. has.answered) refl ended talks,
  )
