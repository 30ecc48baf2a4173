-- How the places of a buffer stand to one another.
use Rattle.std.specs.Prelude.{◌≡◌, ◌≤◌, length}
use Rattle.hose_follow.specs.declared.buffer.TheConstants.{ROOM_BYTES}
use Rattle.hose_follow.specs.declared.buffer.Buffer.TheInside.{Inside}

-- The bytes are as many as the buffer has room for, and those that are pending lie within it.
pub record ArePlacesInOrder (buffer : Inside) : Type 0 where
  pub size : length buffer.bytes.items ≡ ROOM_BYTES
  pub pending : buffer.start ≤ buffer.end
  pub inside : buffer.end ≤ ROOM_BYTES
