-- What a hasher holds, and the laws of a text that it takes piece by piece.
use Rattle.std.specs.Prelude.{ℕ, List, [], ◌++◌}
use Rattle.std.proofs.Common.{sym, subst, append_assoc, append-nil}
use Rattle.sha2.specs.Hashers.{Holds256}
use Rattle.sha2.specs.declared.Sha256.{Sha256}

-- a hasher took this text after all that it held
abbrev pub Hashes : Sha256 → Sha256 → List ℕ → Type 0
Hashes old new text = (held : List ℕ) → Holds256 old held → Holds256 new (held ++ text)

-- a hasher took nothing, in no piece
pub Hashes-none : (hasher : Sha256) → Hashes hasher hasher []
Hashes-none hasher = λ held holds.
    subst (λ (text : List ℕ). Holds256 hasher text) (sym (append-nil held)) holds

-- a hasher took one text after another, piece by piece
pub Hashes-next : (a b c : Sha256) (first more : List ℕ) → Hashes a b first → Hashes b c more
    → Hashes a c (first ++ more)
Hashes-next a b c first more p q = λ held holds.
    subst (λ (text : List ℕ). Holds256 c text) (append_assoc held first more)
    (q (held ++ first) (p held holds))
