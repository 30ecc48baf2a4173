-- What a reply is for: the one place that lists all replies where none is asked for by itself.
use Rattle.std.specs.Prelude.{ℕ}
use Rattle.hose_graph.specs.declared.command.Reply.{Reply}
use Rattle.hose_graph.specs.declared.command.Reply.TheVariants.{Welcome, Admitted, Quoted, Refused, Stale, Released, NoVpn, NoQuote, TooMany, Shown, Vpns, Newest, LinkState, Down, Up, Already, Denied, Full, Spent, Disk, Memory, Bad, Long, Bye}

-- The kinds: what a book answers to a command; that the disk failed to keep the entry of such an
-- answer, at an epoch; that memory is wanting; and what is told of a line that is no command.
pub data ReplyKind : Type 0 where
  ByTheBook : ReplyKind
  ForDisk : ℕ → ReplyKind
  ForMemory : ReplyKind
  ForNoCommand : ReplyKind

-- the kind of a reply
abbrev pub kind_of : Reply → ReplyKind
kind_of (Welcome at) = ForNoCommand
kind_of (Admitted id cost at amounts) = ByTheBook
kind_of (Quoted quote cost at amounts) = ByTheBook
kind_of (Refused at side) = ByTheBook
kind_of (Stale seen now) = ByTheBook
kind_of (Released id at) = ByTheBook
kind_of (NoVpn id at) = ByTheBook
kind_of (NoQuote quote at) = ByTheBook
kind_of (TooMany at) = ByTheBook
kind_of (Shown id cost at hose amounts) = ByTheBook
kind_of (Vpns at ids) = ByTheBook
kind_of (Newest id at) = ByTheBook
kind_of (LinkState link load out at) = ByTheBook
kind_of (Down link at) = ByTheBook
kind_of (Up link at) = ByTheBook
kind_of (Already link at) = ByTheBook
kind_of (Denied at) = ByTheBook
kind_of (Full at) = ByTheBook
kind_of (Spent at) = ByTheBook
kind_of (Disk at) = ForDisk at
kind_of Memory = ForMemory
kind_of (Bad word) = ForNoCommand
kind_of Long = ForNoCommand
kind_of Bye = ForNoCommand
