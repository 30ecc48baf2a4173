-- The words that name the doors of a host.
use Rattle.std.specs.Prelude.{◌≡◌, ◌≢◌, ◌≤◌, ℕ, List, ◌∷◌, ◌++◌, All, Contains, Option, None, Some, decimal, get_or, length}
use Rattle.hose_graph.specs.Name.{IsName}
use Rattle.hose_words.specs.Numbers.{IsWithin}
use Rattle.hose_net.specs.declared.doors.Address.{Address}
use Rattle.hose_net.specs.declared.doors.Address.TheVariants as address
use Rattle.hose_doors.specs.declared.door.HostDoor.{HostDoor}
use Rattle.hose_doors.specs.declared.door.HostDoor.TheVariants as door

-- a word may be the path of a socket: it has a slash, which tells it from a port, at most 107
-- bytes, which the system has room for, and no `=`, after which a name would stand
pub record IsSocketPath (word : List ℕ) : Type 0 where
  pub slash : Contains word 47
  pub short : length word ≤ 107
  pub plain : All (λ byte. byte ≢ 61) word
  pub no_option : get_or word 0 0 ≢ 45

-- the word of a door: a port, a path, or a path with the name that alone may be said there
abbrev pub door_word : HostDoor → List ℕ
door_word (door.Port port) = decimal port
door_word (door.Path path) = path.now
door_word (door.Bound path name) = path.now ++ 61 ∷ name

-- a door may be so
abbrev pub IsDoor : HostDoor → Type 0
IsDoor (door.Port port) = IsWithin 1 65535 port
IsDoor (door.Path path) = IsSocketPath path.now
IsDoor (door.Bound path name) = IsSocketPath path.now × IsName name

-- the one name that may be said at a door, if it is bound to one
abbrev pub bound_name : HostDoor → Option (List ℕ)
bound_name (door.Port port) = None
bound_name (door.Path path) = None
bound_name (door.Bound path name) = Some name

-- an address is that of a door
abbrev pub IsAt : Address → HostDoor → Type 0
IsAt (address.Port port) (door.Port other) = port ≡ other
IsAt (address.Port port) (door.Path path) = ⊥
IsAt (address.Port port) (door.Bound path name) = ⊥
IsAt (address.Path path) (door.Port port) = ⊥
IsAt (address.Path path) (door.Path other) = path.now ≡ other.now
IsAt (address.Path path) (door.Bound other name) = path.now ≡ other.now

-- a door of this word is opened at this address, and is bound to this name, if it is
abbrev pub OpensAs : List ℕ → Address → Option (List ℕ) → Type 0
OpensAs word at bound = (door : HostDoor) × (word ≡ door_word door) × IsDoor door × IsAt at door
    × (bound ≡ bound_name door)

-- a word names a door
abbrev pub NamesDoor : List ℕ → Type 0
NamesDoor word = (door : HostDoor) × (word ≡ door_word door) × IsDoor door
