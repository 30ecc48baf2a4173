-- What a line of a topology's text did to the network that was read so far. Each answer comes
-- exactly where it is the right one.
use Rattle.std.specs.Prelude.{◌≡◌, ℕ, List, [], Option, None, Some, Result, Ok, Err}
use Rattle.hose_io.specs.declared.source.Source.{Ghosts}
use Rattle.hose_words.specs.Words.{words_of}
use Rattle.hose_words.specs.steps.Grammar.{IsFirstNotAllowed}
use Rattle.hose_words.specs.steps.Lines.{Reader, IsNext}
use Rattle.hose_words.specs.declared.lines.Line.{Line}
use Rattle.hose_words.specs.declared.lines.Line.TheVariants.{Text, Long}
use Rattle.hose_words.specs.declared.lines.LineFault.{LineFault}
use Rattle.hose_graph.specs.Network.{Network}
use Rattle.hose_topo.specs.TopologyText.{IsPassedOver}
use Rattle.hose_topo.specs.steps.TopologyText.{AddsByKind, IsLastLine, line_grammar}
use Rattle.hose_topo.specs.declared.line.Taken.{Taken}
use Rattle.hose_topo.specs.declared.line.Taken.TheVariants.{Added, End, Wrong}

-- a line of these words
abbrev pub TakesWords : Taken → Network → List (List ℕ) → Network → Type 0
TakesWords Added was words now = AddsByKind was words now
TakesWords End was words now = IsLastLine was words × (now ≡ was)
TakesWords (Wrong word) was words now =
    (¬ IsPassedOver words) × IsFirstNotAllowed (line_grammar was) [] words word × (now ≡ was)

-- what was read as the next line: a long line is wrong, and so is the end of the text, and a fault
-- is handed on
abbrev pub TakesRead : Result (Option Line) LineFault → Result Taken LineFault
    → Network → Network → Type 0
TakesRead (Ok (Some (Text line))) (Ok taken) was now = TakesWords taken was (words_of line.now) now
TakesRead (Ok (Some Long)) (Ok (Wrong word)) was now = (word ≡ 0) × (now ≡ was)
TakesRead (Ok None) (Ok (Wrong word)) was now = (word ≡ 1) × (now ≡ was)
TakesRead (Err fault) (Err same) was now = (same ≡ fault) × (now ≡ was)
TakesRead read taken was now = ⊥

-- the next line of a reader
abbrev pub TakesNext : {S : Type 0} → Ghosts S → Reader S → Reader S → Result Taken LineFault
    → Network → Network → Type 0
TakesNext source old new taken was now =
    (read : Result (Option Line) LineFault)
    × IsNext source old new read × TakesRead read taken was now
