-- The chain of a list of entries: one value of 32 bytes that says which entries they are, and in
-- which order.
use Rattle.std.specs.Prelude.{ℕ, List, [], ◌∷◌, ◌++◌}
use Rattle.sha2.specs.Sha256.{sha256}
use Rattle.hose_graph.specs.declared.entry.Entry.{Entry}
use Rattle.hose_codec.specs.Spelling.{spelling}

-- the value after these items, from this value on: the hash of the value so far and the next
-- item's spelling, and so on
abbrev pub chain_from : {X : Type 0} → (List ℕ → List ℕ) → (X → List ℕ) → List ℕ → List X → List ℕ
chain_from hash spell value [] = value
chain_from hash spell value (item ∷ items) =
    chain_from hash spell (hash (value ++ spell item)) items

-- The chain value of these entries under the digest of a topology: the digest where there is none,
-- and with one entry more the SHA-256 of the value before it and its spelling.
abbrev pub chain : List ℕ → List Entry → List ℕ
chain digest entries = chain_from sha256 spelling digest entries
