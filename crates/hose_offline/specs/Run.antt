-- A run from its first byte to its last.
use Rattle.std.specs.Prelude.{◌≡◌, ℕ, List, [], length, Option}
use mathlib.Core.List.{IsPrefix}
use Rattle.hose_io.specs.Stream.{Stream, Grows}
use Rattle.hose_words.specs.Lines.{StopsAfterLines}
use Rattle.hose_words.specs.declared.lines.LineFault.{LineFault}
use Rattle.hose_graph.specs.declared.entry.Entry.{Entry}
use Rattle.hose_graph.specs.declared.command.Reply.{Reply}
use Rattle.hose_graph.specs.Network.{Network}
use Rattle.hose_law.specs.History.{IsDecided}
use Rattle.hose_law.specs.Quotes.{Holdings, nothing_held}
use Rattle.hose_law.specs.Script.{ReadLine, IsScript, WithoutDisk, WithoutMemory, script_state}
use Rattle.hose_topo.specs.TopologyText.{IsTopologyText}
use Rattle.hose_words.specs.Reading.{WhereTold}
use Rattle.hose_proto.specs.Replies.{CutsLast, texts_of}
use Rattle.hose_words.specs.Saying.{IsAllTaken, SayLines}
use Rattle.hose_offline.specs.Talking.{Says}
use Rattle.hose_outside.specs.Provides.{Provides}

-- lines that were answered on a network from a history on: the history that they led to, and their
-- replies
pub record ScriptRun : Type 0 where
  pub network : Network
  pub since : List Entry
  pub history : List Entry
  pub lines : List ReadLine
  pub replies : List Reply

-- the run of a script, of its parts
abbrev pub script_run : Network → List Entry → List Entry → List ReadLine → List Reply → ScriptRun
script_run network since history lines replies =
    record { network = network; since = since; history = history; lines = lines; replies = replies }

-- Where a run keeps its book: the history with which it may begin, and what holds of a script that
-- was run from there.
pub record Keeping : Type 1 where
  pub IsBegunWith : Network → List Entry → Type 0
  pub Keeps : ScriptRun → Type 0

-- a run keeps its book in memory: it begins with nothing, and no reply is for a failure of a disk
abbrev pub in_memory : Keeping
in_memory = record {
  IsBegunWith = λ network since. since ≡ [];
  Keeps = λ run. WithoutDisk run.replies;
}

-- This output is right for this input, a book of this history, and this network: the input is the
-- text of one that prices make this of, and then lines; the output is the replies of their script
-- from this history on, none of which is for want of memory or for a failure of a disk.
pub record IsRightFor (prices : Network → Network → Type 0) (network : Network)
    (since : List Entry) (input output : List ℕ) : Type 0 where
  pub told : Network
  pub rest : List ℕ
  pub lines : List ReadLine
  pub replies : List Reply
  pub history : List Entry
  pub topology : IsTopologyText input told rest
  pub priced : prices told network
  pub said : SayLines (λ _. Says network) rest lines []
  pub left : Holdings
  pub script : IsScript network 0 lines replies (script_state since nothing_held)
      (script_state history left)
  pub memory : WithoutMemory replies
  pub disk : WithoutDisk replies
  pub out : output ≡ texts_of network replies

-- The input is the text of a network, of which prices make this one, and then lines that were
-- answered: the replies are those of the script of the lines from the history with which the book
-- began, where no customer holds a quote. The history that it leads to goes on from there, is
-- sound, and decided from there on, and provides what it is to. `stops` says how the input stands
-- to what comes after the lines and to what is left.
pub record HasRun (prices : Network → Network → Type 0) (keeping : Keeping)
    (old new : Option Stream) (stops : List ℕ → List ℕ → List ℕ → Type 0) : Type 0 where
  pub told : Network
  pub network : Network
  pub priced : prices told network
  pub since : List Entry
  pub history : List Entry
  pub lines : List ReadLine
  pub replies : List Reply
  pub begun : keeping.IsBegunWith network since
  pub begins : IsPrefix since history
  pub text : WhereTold old new (λ input left. (lines_text rest : List ℕ)
      × IsTopologyText input told lines_text × SayLines (λ _. Says network) lines_text lines rest
      × stops input rest left)
  pub left : Holdings
  pub script : IsScript network 0 lines replies (script_state since nothing_held)
      (script_state history left)
  pub decided : IsDecided network 0 (length since) history
  pub keeps : keeping.Keeps (script_run network since history lines replies)
  pub provides : Provides network since history

-- The input was read to its end, and the output has the replies to its lines. Without a reply for
-- want of memory or for a failure of a disk no other output is right for the input and the history
-- at the beginning.
pub record IsRun (prices : Network → Network → Type 0) (keeping : Keeping) (old new : Option Stream)
    (before after : Option (List ℕ)) : Type 0 where
  pub run : HasRun prices keeping old new IsAllTaken
  pub out : Grows before after (texts_of run.network run.replies)
  pub alone : WithoutMemory run.replies → WithoutDisk run.replies → WhereTold old new (λ input _.
      (output : List ℕ) → IsRightFor prices run.network run.since input output
      → output ≡ texts_of run.network run.replies)

-- Reading stopped at a fault after the topology and whole lines, and the output has the replies to
-- these lines.
pub record IsRunUpTo (prices : Network → Network → Type 0) (keeping : Keeping)
    (fault : LineFault) (old new : Option Stream) (before after : Option (List ℕ)) : Type 0 where
  pub run : HasRun prices keeping old new (StopsAfterLines fault)
  pub out : Grows before after (texts_of run.network run.replies)

-- The output was cut off in a reply: it has the replies before, and a part of this one. `cut` says
-- how the input stands to what comes after the lines.
pub record IsCutOff (prices : Network → Network → Type 0) (keeping : Keeping)
    (cut : List ℕ → List ℕ → List ℕ → Type 0) (old new : Option Stream)
    (before after : Option (List ℕ)) : Type 0 where
  pub run : HasRun prices keeping old new cut
  pub out : CutsLast run.network before after run.replies
