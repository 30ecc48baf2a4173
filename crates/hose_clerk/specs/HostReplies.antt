-- The texts of the replies of a host.
use Rattle.std.specs.Prelude.{ℕ, List, [], ◌++◌, None, Option, Some, codes, decimal}
use Rattle.hose_graph.specs.Network.{Network}
use Rattle.hose_proto.specs.ReplyText.{line_of, reply_text}
use Rattle.hose_clerk.specs.declared.figures.Figures.{Figures}
use Rattle.hose_clerk.specs.declared.times.Times.{Times}
use Rattle.hose_clerk.specs.declared.replies.HostReply.{HostReply}
use Rattle.hose_clerk.specs.declared.replies.HostReply.TheVariants as reply

-- words, and the number after them
abbrev pub numbered : List ℕ → ℕ → List ℕ
numbered words number = words ++ decimal number

-- how many connections and lines there were
abbrev pub comers_text : Figures → List ℕ
comers_text figures =
    numbered (codes "figures connections ") figures.connections
    ++ numbered (codes " ever ") figures.ever
    ++ numbered (codes " lines ") figures.tally.lines

-- how many orders there were, by their replies
abbrev pub orders_text : Figures → List ℕ
orders_text figures =
    numbered (codes " admitted ") figures.tally.admitted
    ++ numbered (codes " refused ") figures.tally.refused
    ++ numbered (codes " released ") figures.tally.released
    ++ numbered (codes " down ") figures.tally.down
    ++ numbered (codes " up ") figures.tally.up

-- how many failures there were
abbrev pub failures_text : Figures → List ℕ
failures_text figures =
    numbered (codes " disk ") figures.tally.disk
    ++ numbered (codes " memory ") figures.tally.memory
    ++ numbered (codes " lost ") figures.lost

-- how many orders and quotes were timed, how long they took, and how many of them longer than this
abbrev pub times_text : Times → List ℕ
times_text times =
    numbered (codes " timed ") times.timed
    ++ numbered (codes " took ") times.took
    ++ numbered (codes " over-100us ") times.over_100us
    ++ numbered (codes " over-1ms ") times.over_1ms
    ++ numbered (codes " over-10ms ") times.over_10ms
    ++ numbered (codes " over-100ms ") times.over_100ms
    ++ numbered (codes " over-1s ") times.over_1s
    ++ numbered (codes " over-10s ") times.over_10s

-- how many entries a standby was heard to have, where replies wait for one, and 1 where the host
-- goes on without it, else 0
abbrev pub standby_text : Option ℕ → ℕ → List ℕ
standby_text None alone = []
standby_text (Some heard) alone =
    numbered (codes " standby ") heard ++ numbered (codes " alone ") alone

-- what was counted, how long ago the last sync was, the epoch, and how far a standby is
abbrev pub figures_text : Figures → List ℕ
figures_text figures =
    comers_text figures ++ orders_text figures ++ failures_text figures
    ++ times_text figures.times ++ numbered (codes " synced ") figures.since_sync
    ++ numbered (codes " at ") figures.at ++ standby_text figures.standby figures.alone

-- the line that tells what was counted
abbrev pub figures_line : Figures → List ℕ
figures_line figures = line_of (figures_text figures)

-- the line that tells that the host ends, at an epoch
abbrev pub ending_line : ℕ → List ℕ
ending_line at = line_of (codes "ending at " ++ decimal at)

-- the text of a reply, with its line feed
abbrev pub host_text : Network → HostReply → List ℕ
host_text network (reply.Told told) = line_of (reply_text network told)
host_text network (reply.Ending at) = ending_line at
host_text network (reply.Figures figures) = figures_line figures
