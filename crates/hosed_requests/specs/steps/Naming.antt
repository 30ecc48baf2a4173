-- What the words of a command name: steps of proofs.
use Rattle.std.specs.Prelude.{List, ℕ, Option, None}
use Rattle.hose_outside.specs.declared.fault.Fault.{Fault}
use Rattle.hose_outside.specs.declared.fault.Fault.TheVariants.{Cabinet, Text}
use Rattle.hosed_requests.specs.Naming.{TaskNames}

-- the file that is meant where a fault tells of one at which the cabinet failed
abbrev pub failed_file : TaskNames → Fault → Option (List ℕ)
failed_file named Text = named.topology
failed_file named Cabinet = named.journal
failed_file named _ = None
