-- The words of replies, by cases.
use Rattle.std.specs.Prelude.{ℕ, List, [], ◌∷◌, ◌++◌, Bool, true, false, Option, None, Some, map, codes, decimal, slice_get}
use Rattle.hose_graph.specs.Amounts.{ReservedLink, amount_of, link_of}
use Rattle.hose_graph.specs.Network.{Network, name_of}
use Rattle.hose_graph.specs.declared.topology.Link.{Link}
use Rattle.hose_graph.specs.declared.command.Reply.{Reply}
use Rattle.hose_graph.specs.declared.command.Reply.TheVariants.{Welcome, Admitted, Quoted, Refused, Stale, Released, NoVpn, NoQuote, TooMany, Shown, Vpns, Newest, LinkState, Down, Up, Already, Denied, Full, Spent, Disk, Memory, Bad, Long, Bye}
use Rattle.hose_proto.specs.Places.{end_word}

-- a link and its amount: `LINK:AMOUNT`
abbrev pub pair_word : ReservedLink → List ℕ
pair_word pair = decimal (link_of pair) ++ codes ":" ++ decimal (amount_of pair)

-- what a network tells of a link: its nodes, its capacity and its cost
abbrev pub words_of_link : Network → Option Link → List (List ℕ)
words_of_link network None = []
words_of_link network (Some link) =
    name_of network link.a ∷ name_of network link.b
    ∷ codes "capacity" ∷ decimal link.capacity ∷ codes "cost" ∷ decimal link.cost ∷ []

-- at an epoch, and of what then
abbrev pub at_epoch : ℕ → List (List ℕ)
at_epoch at = codes "at" ∷ decimal at ∷ []

-- whether a link is out of service at an epoch
abbrev pub service_words : Bool → ℕ → List (List ℕ)
service_words true at = codes "out" ∷ at_epoch at
service_words false at = at_epoch at

-- a number, what it costs, an epoch, and what then
abbrev pub costed : ℕ → ℕ → ℕ → List (List ℕ) → List (List ℕ)
costed id cost at words = decimal id ∷ codes "cost" ∷ decimal cost ∷ codes "at" ∷ decimal at ∷ words

-- amounts on links
abbrev pub amounts_words : List ReservedLink → List (List ℕ)
amounts_words amounts = codes "links" ∷ map pair_word amounts

-- the words of a reply
abbrev pub reply_words : Network → Reply → List (List ℕ)
reply_words network (Welcome at) = codes "welcome" ∷ at_epoch at
reply_words network (Admitted id cost at amounts) =
    codes "admitted" ∷ costed id cost at (amounts_words amounts)
reply_words network (Quoted quote cost at amounts) =
    codes "quoted" ∷ costed quote cost at (amounts_words amounts)
reply_words network (Refused at side) =
    codes "refused" ∷ codes "at" ∷ decimal at ∷ codes "side" ∷ map (name_of network) side
reply_words network (Stale seen now) = codes "stale" ∷ decimal seen ∷ decimal now ∷ []
reply_words network (Released id at) = codes "released" ∷ decimal id ∷ at_epoch at
reply_words network (NoVpn id at) = codes "no" ∷ codes "vpn" ∷ decimal id ∷ at_epoch at
reply_words network (NoQuote quote at) = codes "no" ∷ codes "quote" ∷ decimal quote ∷ at_epoch at
reply_words network (TooMany at) = codes "too" ∷ codes "many" ∷ codes "quotes" ∷ at_epoch at
reply_words network (Shown id cost at hose amounts) = codes "vpn"
    ∷ costed id cost at (codes "ends" ∷ map (end_word network) hose ++ amounts_words amounts)
reply_words network (Vpns at ids) = codes "vpns" ∷ map decimal ids ++ at_epoch at
reply_words network (Newest id at) = codes "newest" ∷ decimal id ∷ at_epoch at
reply_words network (LinkState link load out at) = codes "link" ∷ decimal link
    ∷ words_of_link network (slice_get network.links link)
    ++ codes "load" ∷ decimal load ∷ service_words out at
reply_words network (Down link at) = codes "down" ∷ decimal link ∷ at_epoch at
reply_words network (Up link at) = codes "up" ∷ decimal link ∷ at_epoch at
reply_words network (Already link at) = codes "already" ∷ decimal link ∷ at_epoch at
reply_words network (Denied at) = codes "denied" ∷ at_epoch at
reply_words network (Full at) = codes "full" ∷ at_epoch at
reply_words network (Spent at) = codes "spent" ∷ at_epoch at
reply_words network (Disk at) = codes "disk" ∷ at_epoch at
reply_words network Memory = codes "memory" ∷ []
reply_words network (Bad word) = codes "bad" ∷ decimal word ∷ []
reply_words network Long = codes "long" ∷ []
reply_words network Bye = codes "bye" ∷ []
