-- What stands after `price`, by what ended it.
use Rattle.std.specs.Prelude.{◌≡◌, ◌⊎◌, ◌↔◌, ℕ, ◌+◌, ◌<◌, ◌≤◌, List, length, map, false, Result, Err, slice_index_or, ⊤}
use Rattle.hose_io.specs.Stream.{Gives}
use Rattle.hose_talk.specs.Talk.{IsCutNear, TalksTo, TellsOf, talk}
use Rattle.hose_talk.specs.declared.talking.TalkEnd.{TalkEnd}
use Rattle.hose_talk.specs.declared.talking.TalkFault.{TalkFault}
use Rattle.hose_words.specs.Limits.{input_limit}
use Rattle.hose_graph.specs.Network.{Network}
use Rattle.hose_proto.specs.ReplyText.{line_of}
use Rattle.hose_price.specs.Sheet.{IsColumnBy, IsSheet, Sheet}
use Rattle.hose_price.specs.declared.sheet.Column.{Column}
use Rattle.hose_outside.specs.Ending.{EndsAfter}
use Rattle.hose_offline.specs.Talking.{done_of_talk}
use Rattle.hose_offline.specs.Named.{ReadsThen}
use Rattle.hose_outside.specs.Parts.{Parts, Tellings}
use Rattle.hose_offline.specs.SheetLine.{AnswersSheet, answer_text}
use Rattle.hose_outside.specs.TopologyTold.{own_costs}
use Rattle.hose_outside.specs.declared.fault.Fault.{Fault}
use Rattle.hose_outside.specs.declared.fault.Fault.TheVariants.{Memory, TooLong}

-- ---- the input

-- What answering the lines of an input by a sheet comes to, as a talk, where tariffs have these
-- names: what a line says is its answer, and the answers are the replies.
abbrev pub AnswersInput : {I O C E : Type 0} → Tellings I O C E → List (List ℕ) → Sheet
    → Parts I O C → Parts I O C → Result TalkEnd TalkFault → Type 0
AnswersInput tells names sheet before after = TalksTo tells.source tells.sink (record {
  tells = TellsOf (λ _. AnswersSheet sheet) (tells.source.content before.input)
      (tells.source.content after.input);
  cut = IsCutNear tells.source after.input;
  comes = λ said answers _. said ≡ answers;
  over = λ _. false;
  text = λ answer. line_of (answer_text names answer);
}) (talk before.input before.output (tt {0})) (talk after.input after.output (tt {0}))

-- ---- the topology and the input

module _ {T : Type 0} (prices : T → Network → Network → Type 0) (base per : T → ℕ)
    (tariffs : List T) where
  -- The sheet is of the network: beside it, it has the network where each link costs 1, and where
  -- it costs its length, and a column for each tariff, with its costs and the bounds of them.
  pub record IsSheetBy (network : Network) (sheet : Sheet) : Type 0 where
    pub of : sheet.network ≡ network
    pub is_sheet : IsSheet sheet
    pub places : length sheet.columns ≡ length tariffs
    pub columns : (k : ℕ) (column : Column) (tariff : T) → k < length tariffs
        → IsColumnBy (prices (slice_index_or tariffs k tariff))
        (base (slice_index_or tariffs k tariff)) (per (slice_index_or tariffs k tariff)) network
        (slice_index_or sheet.columns k column)

-- the tariffs under which hoses are priced: the sheets that are made of a network, and their names
pub record Pricing : Type 1 where
  pub makes : Network → Sheet → Type 0
  pub names : List (List ℕ)

module _ {T : Type 0} (prices : T → Network → Network → Type 0) (name : T → List ℕ)
    (base per : T → ℕ) (tariffs : List T) where
  -- those of tariffs with such prices, names and bounds
  abbrev pub pricing_of : Pricing
  pricing_of = record { makes = IsSheetBy prices base per tariffs; names = map name tariffs }

module _ {I O C E : Type 0} (tells : Tellings I O C E) (pricing : Pricing) where
  -- There was no memory for a sheet or for rows, nothing was taken of the input, and nothing is
  -- out; or the lines of the input were answered by a sheet of the network.
  abbrev pub AnswersBySheet : Parts I O C → Parts I O C → Network → Result ⊤ Fault → Type 0
  AnswersBySheet before after network result = ((result ≡ Err Memory)
      × (after.input ≡ before.input) × (after.output ≡ before.output))
      ⊎ ((sheet : Sheet) × pricing.makes network sheet × (ended : Result TalkEnd TalkFault)
      × (result ≡ done_of_talk ended)
      × AnswersInput tells pricing.names sheet before after ended)

  -- how the lines of the input were answered, and what was taken of it
  pub record PricesInput (before after : Parts I O C) (network : Network)
      (result : Result ⊤ Fault) : Type 0 where
    pub taken : List ℕ
    pub gives : Gives (tells.source.content before.input) (tells.source.content after.input) taken
    pub limit : length taken ≤ input_limit + 1
    -- more than the limit was taken exactly where that is told
    pub too_long : (result ≡ Err TooLong) ↔ (input_limit < length taken)
    pub answers : AnswersBySheet before after network result

  -- A topology was read and the lines of the input answered by its network, or not.
  abbrev pub PriceOutcome : List ℕ → Parts I O C → Parts I O C → ℕ → Type 0
  PriceOutcome topology before after status = EndsAfter tells.sink after.output status (λ left.
      ReadsThen tells own_costs topology before (record after { output = left })
      (PricesInput before (record after { output = left })))
