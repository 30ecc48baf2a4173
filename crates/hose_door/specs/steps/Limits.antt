-- The address of a door over a port, and how long it waits for a peer, which definitions cite in
-- place of the code's constants.
use Rattle.std.specs.Prelude.{ℕ, List, [], ◌∷◌}

-- the address at which a port is opened, 127.0.0.1, which this machine's own programs alone reach
abbrev pub door_address : List ℕ
door_address = 127 ∷ 0 ∷ 0 ∷ 1 ∷ []

-- for how many seconds a peer may say nothing
abbrev pub read_seconds : ℕ
read_seconds = 600

-- for how many seconds a peer may take nothing of what it is told
abbrev pub write_seconds : ℕ
write_seconds = 60
