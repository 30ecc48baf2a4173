-- The spelling of an entry: a byte for its kind, and its fields in order. Nothing follows the last
-- of them: steps of proofs.
use Rattle.std.specs.Prelude.{ℕ, List, Result, Ok, Err}
use Rattle.hose_graph.specs.declared.entry.Entry.{Entry}
use Rattle.hose_codec.specs.declared.limits.CodecFault.{CodecFault}
use Rattle.hose_codec.specs.declared.limits.CodecFault.TheVariants.{Bad, Memory}
use Rattle.hose_codec.specs.Spelling.{IsSpelling}

-- These bytes are the spelling of no entry.
abbrev pub IsNoSpelling : List ℕ → Type 0
IsNoSpelling bytes = (entry : Entry) → ¬ IsSpelling entry bytes

-- What is decoded is the entry that the bytes spell. Else there is no such entry, or memory was
-- wanting for it.
abbrev pub Decodes : List ℕ → Result Entry CodecFault → Type 0
Decodes bytes (Ok entry) = IsSpelling entry bytes
Decodes bytes (Err Bad) = IsNoSpelling bytes
Decodes bytes (Err Memory) = (entry : Entry) × IsSpelling entry bytes
