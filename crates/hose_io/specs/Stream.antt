-- What the calls of sources and sinks do to the bytes that these tell of.
use Rattle.std.specs.Prelude.{◌≡◌, ℕ, List, [], ◌++◌, Option, None, Some, ⊤}

-- the bytes that a source has given, and those that it has left
pub record Stream : Type 0 where
  pub taken : List ℕ
  pub left : List ℕ

-- a stream after its next bytes were given
pub record GoesOnBy (old new : Stream) (bytes : List ℕ) : Type 0 where
  pub taken : new.taken ≡ old.taken ++ bytes
  pub left : old.left ≡ bytes ++ new.left

-- A source gave these bytes, where it tells; whether it tells stays as it was.
abbrev pub Gives : Option Stream → Option Stream → List ℕ → Type 0
Gives None None bytes = ⊤
Gives None (Some new) bytes = ⊥
Gives (Some old) None bytes = ⊥
Gives (Some old) (Some new) bytes = GoesOnBy old new bytes

-- a source has nothing left, where it tells
abbrev pub IsAtEnd : Option Stream → Type 0
IsAtEnd None = ⊤
IsAtEnd (Some stream) = stream.left ≡ []

-- A sink was given these bytes, where it tells; whether it tells stays as it was.
abbrev pub Grows : Option (List ℕ) → Option (List ℕ) → List ℕ → Type 0
Grows None None bytes = ⊤
Grows None (Some new) bytes = ⊥
Grows (Some old) None bytes = ⊥
Grows (Some old) (Some new) bytes = new ≡ old ++ bytes
