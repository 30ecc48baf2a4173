-- How a session ends.
use Rattle.std.specs.Prelude.{ℕ, Bool, true, false, List, Option, None, Some, Result, Ok, Err}
use Rattle.hose_talk.specs.declared.talking.TalkEnd.{TalkEnd}
use Rattle.hose_talk.specs.declared.talking.TalkFault.{TalkFault}
use Rattle.hose_talk.specs.declared.talking.TalkFault.TheVariants as talk_fault
use Rattle.hose_session.specs.declared.phase.Phase.{Phase}
use Rattle.hose_session.specs.declared.phase.Phase.TheVariants as phase
use Rattle.hose_session.specs.declared.ending.SessionEnd.{SessionEnd}
use Rattle.hose_session.specs.declared.ending.SessionEnd.TheVariants.{End, Bye, NoHello, Read, Write, TooLong}

-- the customer who is served
abbrev pub customer_of : Phase → Option (List ℕ)
customer_of phase.Waiting = None
customer_of (phase.Serving name) = Some name
customer_of phase.Refused = None
customer_of phase.Left = None

-- no line is answered any more
abbrev pub over_at : Phase → Bool
over_at phase.Waiting = false
over_at (phase.Serving name) = false
over_at phase.Refused = true
over_at phase.Left = true

-- how a session ends that is so far when its talk ends without a fault
abbrev pub end_at : Phase → SessionEnd
end_at phase.Waiting = NoHello
end_at (phase.Serving name) = End
end_at phase.Refused = NoHello
end_at phase.Left = Bye

-- how a session ends that is so far when its talk ends so
abbrev pub end_after : Phase → Result TalkEnd TalkFault → SessionEnd
end_after at (Ok end) = end_at at
end_after at (Err talk_fault.Read) = Read
end_after at (Err talk_fault.TooLong) = TooLong
end_after at (Err talk_fault.Write) = Write
