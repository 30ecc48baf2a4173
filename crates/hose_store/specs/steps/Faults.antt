-- A fault of a journal, as a store tells it.
use Rattle.hose_journal.specs.declared.fault.JournalFault.{JournalFault}
use Rattle.hose_journal.specs.declared.fault.JournalFault.TheVariants as journal
use Rattle.hose_store.specs.declared.fault.StoreFault.{StoreFault}
use Rattle.hose_store.specs.declared.fault.StoreFault.TheVariants as store

-- what a fault of a journal is for a store
abbrev pub store_fault : JournalFault → StoreFault
store_fault journal.Disk = store.Disk
store_fault (journal.Other kept given) = store.Other kept given
store_fault (journal.Damaged at) = store.Damaged at
store_fault journal.Memory = store.Memory
