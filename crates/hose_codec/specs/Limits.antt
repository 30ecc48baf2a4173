-- The numbers of the spelling of entries, which definitions cite in place of the code's constants.
use Rattle.std.specs.Prelude.{ℕ}

-- the byte that an admission's spelling begins with
abbrev pub admit_kind : ℕ
admit_kind = 1

-- the byte that a release's spelling begins with
abbrev pub release_kind : ℕ
release_kind = 2

-- the byte with which the spelling begins of an entry that takes a link out of service
abbrev pub down_kind : ℕ
down_kind = 3

-- the byte with which the spelling begins of an entry that puts a link back
abbrev pub up_kind : ℕ
up_kind = 4

-- the greatest number of bytes of an entry
abbrev pub most_spelling : ℕ
most_spelling = 3471
