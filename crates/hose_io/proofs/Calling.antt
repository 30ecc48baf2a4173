-- Laws of calls of a source, for callers that make several.
use Rattle.hose_io.specs.steps.Calls.{HasGone, call_more, none_yet}
use Rattle.hose_io.specs.declared.source.Source.{Ghosts}

-- one call was made
pub HasGone-once : {S : Type 0} (source : Ghosts S) {old new : S} → source.went old new → HasGone source old new
HasGone-once source went = call_more none_yet went

-- calls were made after others
pub HasGone-then : {S : Type 0} {source : Ghosts S} {first middle now : S} → HasGone source first middle → HasGone source middle now → HasGone source first now
HasGone-then before none_yet = before
HasGone-then before (call_more calls went) = call_more (HasGone-then before calls) went

-- What each call keeps is kept by all: it holds where none was made, and goes on over one more.
pub HasGone-keeps : {S : Type 0} {source : Ghosts S} (Keeps : S → S → Type 0) → ((s : S) → Keeps s s) → ((a b c : S) → Keeps a b → source.went b c → Keeps a c)
    → {first now : S} → HasGone source first now → Keeps first now
HasGone-keeps Keeps none more none_yet = none _
HasGone-keeps Keeps none more (call_more calls went) = more _ _ _ (HasGone-keeps Keeps none more calls) went
