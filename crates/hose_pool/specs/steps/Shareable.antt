-- What `Sync` says of a type.
use Rattle.std.specs.Prelude.{ℕ}
use base.Fml.{Lft, Fml}
use base.Shift.{Keyless}

-- What a reference to a value of the type holds is the same for every thread. It is said of this
-- alone and not of the whole type, so that it reads alike wherever the type stands for a parameter.
abbrev pub IsShared : {D : Type 0} → (D → ℕ → ℕ → Lft → Fml) → Type 0
IsShared {D} holds = (x : D) (b o : ℕ) (κ : Lft) → Keyless (holds x b o κ)
