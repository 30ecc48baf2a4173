-- What happens as it is told what is ready, and as a write is not made.
use Rattle.std.specs.Prelude.{ℕ, List, [], ◌∷◌}
use Rattle.hose_net.specs.Happening.{Happening, Late, Linked, Refused, Stopped}
use Rattle.hose_net.specs.declared.connections.Pause.{Pause}
use Rattle.hose_net.specs.declared.connections.Pause.TheVariants as pause
use Rattle.hose_net.specs.declared.connections.Ready.{Ready}
use Rattle.hose_net.specs.declared.connections.Ready.TheVariants as ready

-- what happened, where this is told to be ready
abbrev pub told_by : Ready → List Happening
told_by (ready.Door door) = []
told_by (ready.Place place) = []
told_by ready.Link = []
told_by ready.Second = []
told_by ready.Late = Linked Late ∷ []
told_by ready.Stop = Stopped ∷ []

-- what happened, where a write at a place came to this
abbrev pub paused_by : ℕ → Pause → List Happening
paused_by place pause.NotNow = Refused place ∷ []
paused_by place pause.Over = []
