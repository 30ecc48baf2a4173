-- The numbers of a packet, and the limit of what a follower reads. Definitions cite these in place
-- of the code's constants.
use Rattle.std.specs.Prelude.{ℕ}

-- the bytes of a body's length
abbrev pub body_length_bytes : ℕ
body_length_bytes = 2

-- the bytes of an epoch
abbrev pub epoch_bytes : ℕ
epoch_bytes = 4

-- the bytes of a chain value
abbrev pub value_bytes : ℕ
value_bytes = 32

-- the bytes before a packet's body
abbrev pub front_bytes : ℕ
front_bytes = 38

-- the greatest number of bytes that are read: 1 GiB
abbrev pub follow_limit : ℕ
follow_limit = 1073741824
