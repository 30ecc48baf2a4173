-- Names of nodes and of customers, which contracts see as their bytes.
use Rattle.std.specs.Prelude.{ℕ, ◌≤◌, ◌==◌, ◌||◌, Bool, List, length}
use Rattle.std.specs.Char.{is_ascii_digit, is_ascii_lowercase}
use Rattle.std.specs.List.{AllPass}
use Rattle.hose_graph.specs.Limits.{most_name_bytes}

-- a byte that a name may have: `a` to `z`, `0` to `9` or `-`
abbrev pub is_name_byte : ℕ → Bool
is_name_byte byte = is_ascii_lowercase byte || is_ascii_digit byte || byte == 45

-- These bytes are a name: at least one and no more than the limit, each one that a name may have.
pub record IsName (bytes : List ℕ) : Type 0 where
  pub some : 1 ≤ length bytes
  pub short : length bytes ≤ most_name_bytes
  pub allowed : AllPass is_name_byte bytes
