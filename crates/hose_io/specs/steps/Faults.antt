-- The counts of the calls of a form in memory that failed.
use Rattle.std.specs.Prelude.{ℕ, []}
use Rattle.hose_io.specs.Count.{one_more}
use Rattle.hose_io.specs.Frame.{Frame}
use Rattle.hose_io.specs.declared.faults.Faults.{Faults}

-- the counts before any call has failed
abbrev pub no_faults : Faults
no_faults = record { count = 0; starved = 0 }

-- the counts after one more call that failed
abbrev pub one_fault : Faults → Faults
one_fault faults = record faults { count = one_more faults.count }

-- the counts after one more call that found no memory
abbrev pub one_starved : Faults → Faults
one_starved faults = record (one_fault faults) { starved = one_more faults.starved }

-- the frame of a form in memory that has failed so often, and has this number
abbrev pub faults_frame : Faults → ℕ → Frame
faults_frame faults number = record { faults = faults.count; number = number; loan = [] }
