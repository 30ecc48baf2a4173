-- Calls of a source, one after another.
use Rattle.hose_io.specs.declared.source.Source.{Ghosts}

-- A source before some calls of it, and after them: of what lies behind it, each of them did what
-- the source says of a call.
pub data HasGone {S : Type 0} (source : Ghosts S) (first : S) : S → Type 0 where
  none_yet : HasGone source first first
  call_more : {middle now : S} → HasGone source first middle → source.went middle now
      → HasGone source first now
