-- The nodes and links that commands and replies name.
use Rattle.std.specs.Prelude.{◌≤◌, All, ⊤}
use Rattle.hose_graph.specs.declared.command.Command.{Command}
use Rattle.hose_graph.specs.declared.command.Command.TheVariants as command
use Rattle.hose_graph.specs.declared.command.Reply.{Reply}
use Rattle.hose_graph.specs.declared.command.Reply.TheVariants as reply
use Rattle.hose_graph.specs.Limits.{most_epoch}
use Rattle.hose_graph.specs.Hose.{node_of}
use Rattle.hose_graph.specs.Network.{Network, IsLinkOf, IsNodeOf}

-- Each node and each link that the command names is one of the network, and the number of a VPN to
-- be released, or of one that is known as the newest, is one that there can be.
abbrev pub AsksOf : Network → Command → Type 0
AsksOf network (command.Admit hose) = All (λ end. IsNodeOf network (node_of end)) hose
AsksOf network (command.AdmitAfter known hose) =
    (known ≤ most_epoch) × All (λ end. IsNodeOf network (node_of end)) hose
AsksOf network (command.Quote hose) = All (λ end. IsNodeOf network (node_of end)) hose
AsksOf network (command.Take number) = ⊤
AsksOf network (command.Release id) = id ≤ most_epoch
AsksOf network (command.Show id) = ⊤
AsksOf network command.Vpns = ⊤
AsksOf network (command.Link link) = IsLinkOf network link
AsksOf network (command.Down link) = IsLinkOf network link
AsksOf network (command.Up link) = IsLinkOf network link

-- each node and each link that the reply names is one of the network, but for links of amounts
abbrev pub NamesPlaces : Network → Reply → Type 0
NamesPlaces network (reply.Welcome at) = ⊤
NamesPlaces network (reply.Admitted id cost at amounts) = ⊤
NamesPlaces network (reply.Quoted quote cost at amounts) = ⊤
NamesPlaces network (reply.Refused at side) = All (IsNodeOf network) side
NamesPlaces network (reply.Stale seen now) = ⊤
NamesPlaces network (reply.Released id at) = ⊤
NamesPlaces network (reply.NoVpn id at) = ⊤
NamesPlaces network (reply.NoQuote quote at) = ⊤
NamesPlaces network (reply.TooMany at) = ⊤
NamesPlaces network (reply.Shown id cost at hose amounts) =
    All (λ end. IsNodeOf network (node_of end)) hose
NamesPlaces network (reply.Vpns at ids) = ⊤
NamesPlaces network (reply.Newest id at) = ⊤
NamesPlaces network (reply.LinkState link load out at) = IsLinkOf network link
NamesPlaces network (reply.Down link at) = IsLinkOf network link
NamesPlaces network (reply.Up link at) = IsLinkOf network link
NamesPlaces network (reply.Already link at) = IsLinkOf network link
NamesPlaces network (reply.Denied at) = ⊤
NamesPlaces network (reply.Full at) = ⊤
NamesPlaces network (reply.Spent at) = ⊤
NamesPlaces network (reply.Disk at) = ⊤
NamesPlaces network reply.Memory = ⊤
NamesPlaces network (reply.Bad word) = ⊤
NamesPlaces network reply.Long = ⊤
NamesPlaces network reply.Bye = ⊤
