-- What reading a certificate's lines does to a reader, and what is known of the text then.
use Rattle.std.specs.Prelude.{◌≡◌, ◌⊎◌, ◌↔◌, ◌+◌, ◌<◌, ◌≤◌, ℕ, Bool, true, false, List, [], ◌∷◌, ◌++◌, length, Option, None, Some, Result, Ok, Err, ⊤}
use Rattle.hose_io.specs.Frame.{Rose}
use Rattle.hose_io.specs.declared.source.Source.{Ghosts}
use Rattle.hose_words.specs.steps.Lines.{Reader, IsNext}
use Rattle.hose_words.specs.Reading.{WhereTold}
use Rattle.hose_words.specs.steps.Reading.{ReadsOn}
use Rattle.hose_words.specs.declared.lines.Line.{Line}
use Rattle.hose_words.specs.declared.lines.Line.TheVariants.{Text, Long}
use Rattle.hose_words.specs.declared.lines.LineFault.{LineFault}
use Rattle.hose_words.specs.declared.lines.LineFault.TheVariants as line
use Rattle.hose_words.specs.Limits.{input_limit}
use Rattle.hose_graph.specs.Network.{Network}
use Rattle.hose_cert.specs.CertLine.{CertLine}
use Rattle.hose_cert.specs.Certificate.{AreLines, IsCertText, IsCertificate}
use Rattle.hose_cert.specs.steps.CertLine.{SaysLine}
use Rattle.hose_cert.specs.steps.Draft.{IsBody, IsRefusedLine, IsDraftOf}
use Rattle.hose_cert.specs.steps.Fault.{fault_of_line}
use Rattle.hose_cert.specs.declared.draft.Body.{Body}
use Rattle.hose_cert.specs.declared.draft.Draft.{Draft}
use Rattle.hose_cert.specs.declared.fault.CertFault.{CertFault}
use Rattle.hose_cert.specs.declared.fault.CertFault.TheVariants.{Read, TooLong, Memory}
use Rattle.hose_cert.specs.declared.reading.LineStep.{LineStep}
use Rattle.hose_cert.specs.declared.reading.LineStep.TheVariants.{More, Refused, Over}

-- ---- the reader

-- the fault that ended it, if one did
abbrev pub fault_in : {T : Type 0} → Result T CertFault → Option CertFault
fault_in (Ok value) = None
fault_in (Err fault) = Some fault

-- A fault of reading is kept. Else the reader has the fault that it had, which is none where the
-- input was read to its end.
abbrev pub KeepsReadingFault : Option LineFault → Option LineFault → Option CertFault → Type 0
KeepsReadingFault old new None = new ≡ old
KeepsReadingFault old new (Some Read) = new ≡ Some line.Read
KeepsReadingFault old new (Some TooLong) = new ≡ Some line.TooLong
KeepsReadingFault old new (Some Memory) = new ≡ old

-- Lines were read, up to this fault if there is one.
pub record ReadsUpTo {S : Type 0} (source : Ghosts S) (old new : Reader S)
    (fault : Option CertFault) : Type 0 where
  pub on : ReadsOn source old new
  pub kept : KeepsReadingFault old.fault new.fault fault
  -- a call of the source failed, now or before
  pub read : fault ≡ Some Read
      → (old.fault ≡ Some line.Read) ⊎ Rose (source.frame old.source) (source.frame new.source)
  -- exactly where the source gave more than 1 GiB
  pub too_long : old.taken ≤ input_limit → (fault ≡ Some TooLong) ↔ (input_limit < new.taken)
  pub limit : old.taken ≤ input_limit + 1 → new.taken ≤ input_limit + 1

-- nothing is left
abbrev pub IsAllRead : {S : Type 0} → Ghosts S → Reader S → Reader S → Type 0
IsAllRead source old new = WhereTold (source.content old.source) (source.content new.source)
    (λ _ left. new.pending ++ left ≡ [])

-- ---- the next line

-- what a line that is shown came to
abbrev pub IsDraftStep : Network → Draft → List ℕ → LineStep → Type 0
IsDraftStep network old bytes (More new) = (line : CertLine) × SaysLine network bytes line
    × ((lines : List CertLine) → IsDraftOf network lines old
    → IsDraftOf network (lines ++ line ∷ []) new)
IsDraftStep network old bytes Refused = (lines : List CertLine) → IsDraftOf network lines old
    → (line : CertLine) → SaysLine network bytes line → IsRefusedLine network lines line
IsDraftStep network old bytes (Over new) = ⊥

-- what was read as the next line, and what it came to
abbrev pub IsReadStep : Network → Draft → Result (Option Line) LineFault → Result LineStep CertFault
    → Type 0
IsReadStep network old (Ok (Some (Text line))) (Ok step) = IsDraftStep network old line.now step
IsReadStep network old (Ok (Some (Text line))) (Err fault) = fault ≡ Memory
IsReadStep network old (Ok (Some Long)) (Ok Refused) = ⊤
IsReadStep network old (Ok None) (Ok (Over new)) = new ≡ old
IsReadStep network old (Err met) (Err fault) = fault ≡ fault_of_line met
IsReadStep network old read step = ⊥

-- the next line of a reader
abbrev pub IsNextStep : {S : Type 0} → Ghosts S → Network → Draft → Reader S → Reader S
    → Result LineStep CertFault → Type 0
IsNextStep source network draft old new step = (read : Result (Option Line) LineFault)
    × IsNext source old new read × IsReadStep network draft read step

-- ---- the text

-- the lines at the front of a text are these and no others, and the rest of the text is left
pub record Comes (network : Network) (text : List ℕ) (lines : List CertLine) (rest : List ℕ)
    : Type 0 where
  pub on : (more : List CertLine) → AreLines network rest more
      → AreLines network text (lines ++ more)
  pub back : (all : List CertLine) → AreLines network text all
      → (more : List CertLine) × (all ≡ lines ++ more) × AreLines network rest more

-- the text is that of a certificate with these lines, and of no other
pub record IsTextOf (network : Network) (text : List ℕ) (lines : List CertLine) : Type 0 where
  pub is_text : IsCertText network text lines
  pub alone : (others : List CertLine) → IsCertText network text others → others ≡ lines

-- All was read and is a certificate's text; or what comes next, or that nothing does, shows that it
-- is none.
abbrev pub ReadsCertText : {S : Type 0} → Ghosts S → Network → Reader S → Reader S
    → Result (Option Body) CertFault → Type 0
ReadsCertText source network old new (Ok (Some body)) = (lines : List CertLine)
    × IsBody network lines body × (body.rows.root ≡ length network.nodes)
    × IsCertificate network lines
    × WhereTold (source.content old.source) (source.content new.source)
    (λ was _. IsTextOf network (old.pending ++ was) lines)
    × IsAllRead source old new
ReadsCertText source network old new (Ok None) =
    WhereTold (source.content old.source) (source.content new.source) (λ was _.
    (lines : List CertLine) → IsCertText network (old.pending ++ was) lines → ⊥)
ReadsCertText source network old new (Err fault) = ⊤

-- the next line was passed over, or there was none
abbrev pub PassesRead : Result (Option Line) LineFault → Result Bool CertFault → Type 0
PassesRead (Ok (Some line)) (Ok more) = more ≡ true
PassesRead (Ok None) (Ok more) = more ≡ false
PassesRead (Err met) (Err fault) = fault ≡ fault_of_line met
PassesRead read passed = ⊥

-- what the answer says is so of the next line that was to come: it was passed over, or there was
-- none, or reading met a fault
abbrev pub PassesOne : {S : Type 0} → Ghosts S → Reader S → Reader S → Result Bool CertFault
    → Type 0
PassesOne source old new passed = (read : Result (Option Line) LineFault)
    × IsNext source old new read × PassesRead read passed
