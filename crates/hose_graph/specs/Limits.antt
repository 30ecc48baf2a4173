-- The numbers and the name that are fixed for every network, hose and book. Definitions cite these
-- and no constant of the code, so that a change of a constant changes no statement.
use Rattle.std.specs.Prelude.{ℕ, List, codes}

-- the greatest number of nodes of a network
abbrev pub most_nodes : ℕ
most_nodes = 512

-- the greatest number of links of a network
abbrev pub most_links : ℕ
most_links = 2048

-- the greatest number of bytes of a name
abbrev pub most_name_bytes : ℕ
most_name_bytes = 16

-- the greatest capacity of a link
abbrev pub most_capacity : ℕ
most_capacity = 1000000000

-- the greatest length of a link
abbrev pub most_length : ℕ
most_length = 1000000

-- the greatest cost of a link
abbrev pub most_cost : ℕ
most_cost = 1000000

-- the least number of endpoints of a hose
abbrev pub least_ends : ℕ
least_ends = 2

-- the greatest number of endpoints of a hose
abbrev pub most_ends : ℕ
most_ends = 64

-- the greatest rate of an endpoint
abbrev pub most_rate : ℕ
most_rate = 1000000

-- the greatest epoch, and so the greatest number of a VPN
abbrev pub most_epoch : ℕ
most_epoch = 4000000000

-- the greatest number of live VPNs
abbrev pub most_live : ℕ
most_live = 20000

-- the greatest number of quotes that a customer can hold at once
abbrev pub most_quotes : ℕ
most_quotes = 16

-- the greatest number of links of a tree: one less than there can be nodes
abbrev pub most_tree_links : ℕ
most_tree_links = 511

-- the greatest amount on a link: half of the greatest sum of rates
abbrev pub most_amount : ℕ
most_amount = 32000000

-- the name of the one customer who may take links out of service and put them back
abbrev pub operator : List ℕ
operator = codes "operator"
