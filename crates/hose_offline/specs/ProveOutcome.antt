-- What stands after `prove`, by what ended it.
use Rattle.std.specs.Prelude.{◌≡◌, ◌⊎◌, ℕ, ◌+◌, List, codes, Result, Ok, Err, ⊤}
use Rattle.hose_io.specs.Frame.{Rose}
use Rattle.hose_io.specs.Stream.{Grows}
use Rattle.hose_io.specs.Writing.{GrowsInPart}
use Rattle.hose_io.specs.declared.sink.Sink.{Ghosts as SinkGhosts}
use Rattle.hose_graph.specs.Hose.{Endpoint}
use Rattle.hose_graph.specs.Network.{Network}
use Rattle.hose_cert.specs.Written.{GrowsByLines, GrowsByPart, GrowsByWhole, HasNoPlan}
use Rattle.hose_proto.specs.Command.{AreEndsOf}
use Rattle.hose_proto.specs.EndWords.{IsFirstUnknown}
use Rattle.hose_proto.specs.ReplyText.{line_of}
use Rattle.hose_outside.specs.Ending.{EndsAfter, OutputWorked}
use Rattle.hose_offline.specs.Named.{ReadsThen}
use Rattle.hose_outside.specs.Parts.{Parts, Tellings}
use Rattle.hose_outside.specs.declared.fault.Fault.{Fault}
use Rattle.hose_outside.specs.declared.fault.Fault.TheVariants.{Memory, Words, Write}

-- ---- the output

-- the line that tells that there is no plan
abbrev pub none_line : List ℕ
none_line = line_of (codes "none")

module _ {O : Type 0} (sink : SinkGhosts O) (output output' : O) (network : Network) where
  -- The hose's certificate is out, whole and valid; or the hose has no plan, and that line is out.
  abbrev pub IsProved : List Endpoint → Type 0
  IsProved hose =
      (GrowsByWhole network hose (sink.content output) (sink.content output')
      ⊎ (HasNoPlan network hose × Grows (sink.content output) (sink.content output') none_line))
      × OutputWorked sink output output'

  -- the output failed, and a part is out of the certificate, or of the line that there is no plan
  abbrev pub IsProofCut : List Endpoint → Type 0
  IsProofCut hose =
      (GrowsByPart network hose (sink.content output) (sink.content output')
      ⊎ (HasNoPlan network hose
      × GrowsInPart (sink.content output) (sink.content output') none_line))
      × Rose (sink.frame output) (sink.frame output')

  -- memory was wanting, and nothing is out, or whole lines from the front of the certificate are
  abbrev pub IsProofStarved : List Endpoint → Type 0
  IsProofStarved hose = ((output' ≡ output)
      ⊎ GrowsByLines network hose (sink.content output) (sink.content output'))
      × OutputWorked sink output output'

  -- what writing the certificate of a hose comes to
  abbrev pub PutsProof : {T : Type 0} → List Endpoint → Result T Fault → Type 0
  PutsProof hose (Ok _) = IsProved hose
  PutsProof hose (Err Write) = IsProofCut hose
  PutsProof hose (Err Memory) = IsProofStarved hose
  PutsProof hose (Err _) = ⊥

-- ---- the endpoints

-- the words of a hose's endpoints, of which the first is the program's word of this number
pub record EndsFrom : Type 0 where
  pub words : List (List ℕ)
  pub first : ℕ

-- the words of a hose's endpoints, and which of the program's words is the first of them
abbrev pub ends_from : List (List ℕ) → ℕ → EndsFrom
ends_from words first = record { words = words; first = first }

-- why they are the endpoints of no hose: the word of this number is the first whose name is that of
-- no node, or memory was wanting
abbrev pub IsNoHose : EndsFrom → Network → Fault → Type 0
IsNoHose ends network (Words word) =
    (place : ℕ) × (word ≡ ends.first + place) × IsFirstUnknown network ends.words place
IsNoHose ends network Memory = ⊤
IsNoHose ends network _ = ⊥

module _ {O : Type 0} (sink : SinkGhosts O) (ends : EndsFrom) (network : Network)
    (output output' : O) where
  -- The words are the endpoints of a hose, of whose certificate this is told; or they are those of
  -- none, why is told, and nothing is out.
  abbrev pub ProvesWords : {T : Type 0} → Result T Fault → Type 0
  ProvesWords result = ((hose : List Endpoint) × AreEndsOf network ends.words hose
      × PutsProof sink output output' network hose result)
      ⊎ ((why : Fault) × (result ≡ Err why) × IsNoHose ends network why × (output' ≡ output))

-- ---- the topology

module _ {I O C E : Type 0} (tells : Tellings I O C E) (prices : Network → Network → Type 0)
    (topology : List ℕ) (ends : EndsFrom) (before after : Parts I O C) where
  -- A topology was read, and the endpoints taken as those of its network and the certificate
  -- written; or not. The input was left alone.
  pub record ProveOutcome (status : ℕ) : Type 0 where
    pub proves : EndsAfter tells.sink after.output status (λ left.
        ReadsThen tells prices topology before (record after { output = left })
        (λ network. ProvesWords tells.sink ends network before.output left))
    pub input : after.input ≡ before.input
