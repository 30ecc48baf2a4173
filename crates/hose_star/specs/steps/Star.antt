-- The star of three links, a hose on it, its tree, a matrix and the book: what examples speak of.
use Rattle.std.specs.Prelude.{ℕ, List, [], ◌∷◌}
use Rattle.hose_graph.specs.Amounts.{ReservedLink}
use Rattle.hose_graph.specs.Hose.{Endpoint}
use Rattle.hose_graph.specs.Network.{Network}
use Rattle.hose_graph.specs.declared.entry.Vpn.{Vpn}
use Rattle.hose_graph.specs.declared.topology.Link.{Link}
use Rattle.hose_graph.specs.declared.topology.Step.{Step}
use Rattle.hose_law.specs.Book.{Book}
use Rattle.hose_law.specs.Tree.{Growth}

-- the link that joins a node to `h`, whose number is 3, at this cost
abbrev pub star_link : ℕ → ℕ → Link
star_link node cost = record { a = node; b = 3; capacity = 10; length = cost; cost = cost }

-- the network, whose nodes are called `a`, `b`, `c` and `h`
abbrev pub star : Network
star = record {
  nodes = (97 ∷ []) ∷ (98 ∷ []) ∷ (99 ∷ []) ∷ (104 ∷ []) ∷ [];
  links = star_link 0 1 ∷ star_link 1 2 ∷ star_link 2 3 ∷ [];
}

-- the hose a:3 b:4 c:5
abbrev pub star_hose : List Endpoint
star_hose = (0, 3) ∷ (1, 4) ∷ (2, 5) ∷ []

-- the step from `h` along a link to the node of the same number
abbrev pub star_step : ℕ → Step
star_step link = record { link = link; old = 3; new = link }

-- the tree of all three links, which grows from `h`
abbrev pub star_tree : Growth
star_tree = record { start = 3; steps = star_step 0 ∷ star_step 1 ∷ star_step 2 ∷ [] }

-- a matrix of the hose: `a` sends 2 to `b` and 1 to `c`, and `b` sends 2 to `c`
abbrev pub star_matrix : List (List ℕ)
star_matrix = (0 ∷ 2 ∷ 1 ∷ []) ∷ (0 ∷ 0 ∷ 2 ∷ []) ∷ (0 ∷ 0 ∷ 0 ∷ []) ∷ []

-- what the hose reserves: 3 on link 0, 4 on link 1 and 5 on link 2
abbrev pub star_plan : List ReservedLink
star_plan = (0, 3) ∷ (1, 4) ∷ (2, 5) ∷ []

-- the VPN of this hose, as the first one of the customer `acme`
abbrev pub star_vpn : Vpn
star_vpn =
    record { id = 1; customer = 97 ∷ 99 ∷ 109 ∷ 101 ∷ []; hose = star_hose; amounts = star_plan }

-- the book once it is admitted
abbrev pub star_book : Book
star_book = record { epoch = 1; live = star_vpn ∷ []; out = [] }
