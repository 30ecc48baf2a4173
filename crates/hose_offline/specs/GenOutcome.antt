-- What stands after `gen`, by its status.
use Rattle.std.specs.Prelude.{◌≡◌, ◌⊎◌, ℕ, List, Ok, ⊤}
use Rattle.hose_io.specs.declared.sink.Sink.{Ghosts as SinkGhosts}
use Rattle.hose_graph.specs.declared.entry.Entry.{Entry}
use Rattle.hose_graph.specs.declared.command.Reply.{Reply}
use Rattle.hose_graph.specs.Network.{Network}
use Rattle.hose_law.specs.History.{book_of}
use Rattle.hose_gen.specs.Generated.{Order, generated_network, generated_script}
use Rattle.hose_outside.specs.Ending.{EndsTold, IsOut}
use Rattle.hose_outside.specs.Fault.{last_line}
use Rattle.hose_offline.specs.Generating.{IsScriptOf}
use Rattle.hose_outside.specs.Parts.{Parts, Tellings}
use Rattle.hose_offline.specs.Tally.{tally_line, tally_of}
use Rattle.hose_outside.specs.declared.fault.Fault.TheVariants.{Memory}
use Rattle.hose_outside.specs.declared.asked.Sizes.{Sizes}

-- the network of these sizes
abbrev pub network_of_sizes : Sizes → Network
network_of_sizes sizes = generated_network sizes.seed sizes.nodes sizes.links

-- the script of these sizes
abbrev pub script_of_sizes : Sizes → List Order
script_of_sizes sizes = generated_script sizes.seed sizes.nodes sizes.links sizes.hoses

-- the line that tells these replies and the history that they lead to
abbrev pub summary_of_replies : Sizes → List Reply → List Entry → List ℕ
summary_of_replies sizes replies history =
    tally_line sizes.seed sizes.hoses (tally_of replies (book_of 0 history).epoch)

-- The summary of a generated script: it was answered from the empty history of its network on, and
-- the line tells its replies and the history that they lead to. No other replies and no other
-- history have another line.
pub record IsSummary (sizes : Sizes) (line : List ℕ) : Type 0 where
  pub replies : List Reply
  pub history : List Entry
  pub script : IsScriptOf (network_of_sizes sizes) (script_of_sizes sizes) replies history
  pub tells : line ≡ summary_of_replies sizes replies history
  pub alone : (others : List Reply) (other : List Entry)
      → IsScriptOf (network_of_sizes sizes) (script_of_sizes sizes) others other
      → line ≡ summary_of_replies sizes others other

-- The summary is out; or the output failed in it; or there was no memory, and the last line says
-- so.
abbrev pub EndsSummary : Sizes → {O : Type 0} → SinkGhosts O → O → O → ℕ → Type 0
EndsSummary sizes sink output output' status = ((line : List ℕ) × IsSummary sizes line
    × EndsTold {T = ⊤} sink output output' status (Ok tt) line)
    ⊎ ((status ≡ 7) × IsOut sink output output' (last_line Memory))

module _ {I O C E : Type 0} (tells : Tellings I O C E) (sizes : Sizes) (before after : Parts I O C)
  where
    -- The summary of the script of these sizes was written, and nothing else was done.
    pub record GenOutcome (status : ℕ) : Type 0 where
      pub ends : EndsSummary sizes tells.sink before.output after.output status
      pub input : after.input ≡ before.input
      pub cabinet : after.cabinet ≡ before.cabinet
