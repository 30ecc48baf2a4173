-- The texts of replies.
use Rattle.std.specs.Prelude.{ℕ, List, [], ◌∷◌, ◌++◌, Option, None, Some, codes, decimal}
use Rattle.std.specs.List.{flat_map}
use Rattle.hose_graph.specs.Amounts.{ReservedLink, amount_of, link_of}
use Rattle.hose_graph.specs.Hose.{Endpoint, node_of, rate_of}
use Rattle.hose_graph.specs.Network.{Network, name_of}
use Rattle.hose_graph.specs.declared.topology.Link.{Link}
use Rattle.hose_graph.specs.declared.command.Reply.{Reply}
use Rattle.hose_proto.specs.ReplyWords.{reply_words}

-- a link and its amount
abbrev pub pair_text : ReservedLink → List ℕ
pair_text pair = codes " " ++ decimal (link_of pair) ++ codes ":" ++ decimal (amount_of pair)

-- the name of a node
abbrev pub node_text : Network → ℕ → List ℕ
node_text network node = codes " " ++ name_of network node

-- an endpoint: its node's name, and its rate
abbrev pub end_text : Network → Endpoint → List ℕ
end_text network end = node_text network (node_of end) ++ codes ":" ++ decimal (rate_of end)

-- a link's nodes, and what it can carry and costs
abbrev pub link_text : Network → Option Link → List ℕ
link_text network None = []
link_text network (Some link) =
    node_text network link.a ++ node_text network link.b
    ++ codes " capacity " ++ decimal link.capacity ++ codes " cost " ++ decimal link.cost

-- words with a space before each
abbrev pub spaced : List (List ℕ) → List ℕ
spaced words = flat_map (λ word. 32 ∷ word) words

-- words with a space between each two
abbrev pub joined : List (List ℕ) → List ℕ
joined [] = []
joined (word ∷ words) = word ++ spaced words

-- the text of a reply
abbrev pub reply_text : Network → Reply → List ℕ
reply_text network reply = joined (reply_words network reply)

-- a line of output: a text and a line feed
abbrev pub line_of : List ℕ → List ℕ
line_of text = text ++ 10 ∷ []
