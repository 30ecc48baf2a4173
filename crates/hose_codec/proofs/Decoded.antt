-- What is decoded is the only entry that the bytes spell.
use Rattle.std.proofs.Common.{◌≡◌, ℕ, List, [], ◌++◌, Result, Ok, Err}
use Rattle.std.specs.Prelude.{IfOk}
use Rattle.hose_graph.specs.declared.entry.Entry.{Entry}
use Rattle.hose_codec.specs.declared.limits.CodecFault.{CodecFault}
use Rattle.hose_codec.specs.Spelling.{spelling, IsEntry, IsSpelling}
use Rattle.hose_codec.specs.steps.Spelling.{Decodes}
use Rattle.hose_graph.specs.steps.Ranges.{IsInRanges}
use Rattle.hose_codec.proofs.Entries.{in_ranges, only_entry, same_entry}

pub again : (bytes : List ℕ) (result : Result Entry CodecFault) → Decodes bytes result → (entry : Entry) → IsSpelling entry bytes → IfOk result (λ read. read ≡ entry)
again bytes (Ok read) decodes entry is = same_entry read entry bytes decodes is
again bytes (Err fault) decodes entry is = tt

pub alone : (bytes : List ℕ) (result : Result Entry CodecFault) → Decodes bytes result
    → IfOk result (λ entry. (other : Entry) (rest : List ℕ) → IsEntry other → bytes ≡ spelling other ++ rest → (other ≡ entry) × (rest ≡ []))
alone bytes (Ok entry) decodes = λ other rest is begins. only_entry entry other bytes rest decodes is begins
alone bytes (Err fault) decodes = tt

pub fits : (bytes : List ℕ) (result : Result Entry CodecFault) → Decodes bytes result → IfOk result IsInRanges
fits bytes (Ok entry) decodes = in_ranges entry decodes.is_entry
fits bytes (Err fault) decodes = tt
