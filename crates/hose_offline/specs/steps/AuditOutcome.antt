-- What stands after `audit`, by what ended it: steps of proofs.
use Rattle.std.specs.Prelude.{◌≡◌, ◌⊎◌, ℕ, List, Err}
use Rattle.hose_graph.specs.Network.{Network}
use Rattle.hose_outside.specs.Ending.{IsOut}
use Rattle.hose_outside.specs.Fault.{last_line, status_of}
use Rattle.hose_outside.specs.Parts.{Parts, Tellings}
use Rattle.hose_outside.specs.Unopened.{OpensNoJournal}
use Rattle.hose_outside.specs.declared.fault.Fault.{Fault}
use Rattle.hose_offline.specs.AuditOutcome.{IsAudited}

-- ---- an audit

module _ {I O C E : Type 0} (tells : Tellings I O C E) (journal : List ℕ)
    (before after : Parts I O C) where
  -- What the audit of a journal comes to: it is told, or no store was opened, and the last line
  -- tells why.
  abbrev pub AuditsJournal : ℕ → Network → Type 0
  AuditsJournal status network = IsAudited tells journal before after status network
      ⊎ ((why : Fault) × (status ≡ status_of why)
      × OpensNoJournal tells.cabinet tells.disk journal before.cabinet after.cabinet network
      (Err why)
      × IsOut tells.sink before.output after.output (last_line why))
