-- The numbers of a journal's layout, which definitions cite in place of the code's constants.
use Rattle.std.specs.Prelude.{ℕ, List, [], ◌∷◌}

-- the gate that is open: a record follows
abbrev pub open_gate : ℕ
open_gate = 1

-- the mark after the first gate: `HOSE`
abbrev pub head_mark : List ℕ
head_mark = 72 ∷ 79 ∷ 83 ∷ 69 ∷ []

-- where the version stands
abbrev pub version_place : ℕ
version_place = 5

-- the version of records without chain values
abbrev pub plain_version : ℕ
plain_version = 1

-- the version of records with chain values
abbrev pub chained_version : ℕ
chained_version = 2

-- the bytes of a digest and of a chain value
abbrev pub digest_bytes : ℕ
digest_bytes = 32

-- what the body of a seal begins with
abbrev pub seal_kind : ℕ
seal_kind = 5

-- the bytes of a seal's body
abbrev pub seal_body_bytes : ℕ
seal_body_bytes = 33

-- the bytes of a journal without a record
abbrev pub empty_bytes : ℕ
empty_bytes = 39

-- the bytes of a record's length
abbrev pub length_bytes : ℕ
length_bytes = 4
