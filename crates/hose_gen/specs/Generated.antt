-- The network and the script that four numbers make: a seed, and how many nodes, links and hoses
-- there are. What is drawn for one thing begins at the state that the thing before it left.
use Rattle.std.specs.Prelude.{ℕ, zero, suc, ◌+◌, ◌-◌, ◌%◌, nat_lt, nat_le, ◌==◌, Bool, List, [], ◌∷◌, ◌++◌, codes, decimal, if◌then◌else◌}
use Rattle.std.specs.List.{flat_map, list_any}
use Rattle.hose_graph.specs.Hose.{Endpoint, node_of}
use Rattle.hose_graph.specs.Network.{Network}
use Rattle.hose_graph.specs.declared.command.Command.{Command}
use Rattle.hose_graph.specs.declared.command.Command.TheVariants.{Admit, Release}
use Rattle.hose_graph.specs.declared.topology.Link.{Link}
use Rattle.hose_gen.specs.Draws.{draw, drawn}

-- ---- nodes

-- the name of a node
abbrev pub node_name : ℕ → List ℕ
node_name node = codes "n" ++ decimal node

-- the names of the first nodes
abbrev pub node_names : ℕ → List (List ℕ)
node_names zero = []
node_names (suc node) = node_names node ++ node_name node ∷ []

-- ---- links

-- a link joins a node to one before it, until each node is joined; those after it join any two
abbrev pub joins_next : ℕ → ℕ → Bool
joins_next nodes link = nat_lt link (nodes - 1)

-- a link between two nodes: its capacity is drawn, and then its length, which is its cost
abbrev pub link_between : ℕ → ℕ → ℕ → Link × ℕ
link_between a b state =
    let room = draw 9001 state in
    let way = draw 100 room.1 in
    let long = 1 + way.0 in
    (record { a = a; b = b; capacity = 1000 + room.0; length = long; cost = long }, way.1)

-- a number that leaves out another one, of which one less could be drawn
abbrev pub passing : ℕ → ℕ → ℕ
passing out number = if nat_le out number then number + 1 else number

-- the link that joins the next node: its other end is drawn
abbrev pub joining_link : ℕ → ℕ → Link × ℕ
joining_link link state =
    let b = draw (link + 1) state in link_between (link + 1) b.0 b.1

-- a link between any two nodes: both ends are drawn
abbrev pub further_link : ℕ → ℕ → Link × ℕ
further_link nodes state =
    let a = draw nodes state in
    let b = draw (nodes - 1) a.1 in
    link_between a.0 (passing a.0 b.0) b.1

-- a link that is drawn at a state
abbrev pub link_at : ℕ → ℕ → ℕ → Link × ℕ
link_at nodes link state =
    if joins_next nodes link then joining_link link state else further_link nodes state

-- the first links
abbrev pub first_links : ℕ → ℕ → ℕ → List Link × ℕ
first_links nodes seed links = drawn (λ link before. link_at nodes link) seed links

-- the network of a seed, with so many nodes and links
abbrev pub generated_network : ℕ → ℕ → ℕ → Network
generated_network seed nodes links = record {
  nodes = node_names nodes;
  links = (first_links nodes seed links).0;
}

-- ---- hoses

-- one of the endpoints is at the node
abbrev pub has_node : List Endpoint → ℕ → Bool
has_node ends node = list_any (λ end. node_of end == node) ends

-- the first of a node and those that follow it, round the network, at which no endpoint is; so many
-- are looked at
abbrev pub free_node : ℕ → List Endpoint → ℕ → ℕ → ℕ
free_node nodes ends node zero = node
free_node nodes ends node (suc more) =
    if has_node ends node then free_node nodes ends ((node + 1) % nodes) more else node

-- an endpoint that is drawn at a state: its node, which none of those before it is at, and its rate
abbrev pub endpoint_at : ℕ → List Endpoint → ℕ → Endpoint × ℕ
endpoint_at nodes ends state =
    let node = draw nodes state in
    let rate = draw 20 node.1 in
    ((free_node nodes ends node.0 nodes, 1 + rate.0), rate.1)

-- the first endpoints, in the order in which they are drawn
abbrev pub first_ends : ℕ → ℕ → ℕ → List Endpoint × ℕ
first_ends nodes state count = drawn (λ end before. endpoint_at nodes before) state count

-- an endpoint among others, which are in order of nodes
abbrev pub placed : Endpoint → List Endpoint → List Endpoint
placed end [] = end ∷ []
placed end (first ∷ more) =
    if nat_lt (node_of end) (node_of first) then end ∷ (first ∷ more) else first ∷ placed end more

-- endpoints in order of nodes
abbrev pub in_order : List Endpoint → List Endpoint
in_order [] = []
in_order (end ∷ more) = placed end (in_order more)

-- ---- orders

-- an order is a customer's command
abbrev pub Order : Type 0
Order = List ℕ × Command

-- the name of a customer
abbrev pub customer_name : ℕ → List ℕ
customer_name customer = codes "c" ++ decimal customer

-- the admission that is drawn at a state: its customer, how many endpoints there are, and these
abbrev pub admission_at : ℕ → ℕ → Order × ℕ
admission_at nodes state =
    let customer = draw 8 state in
    let count = draw 4 customer.1 in
    let ends = first_ends nodes count.1 (2 + count.0) in
    ((customer_name customer.0, Admit (in_order ends.0)), ends.1)

-- the release that is drawn at a state, after a hose
abbrev pub release_at : ℕ → ℕ → Order × ℕ
release_at hose state =
    let customer = draw 8 state in
    let id = draw (hose + 1) customer.1 in
    ((customer_name customer.0, Release (1 + id.0)), id.1)

-- a release follows each fifth hose
abbrev pub is_followed : ℕ → Bool
is_followed hose = hose % 5 == 4

-- what is ordered for a hose from a state on
abbrev pub orders_at : ℕ → ℕ → ℕ → List Order × ℕ
orders_at nodes hose state =
    let admission = admission_at nodes state in
    let release = release_at hose admission.1 in
    if is_followed hose then (admission.0 ∷ release.0 ∷ [], release.1)
    else (admission.0 ∷ [], admission.1)

-- what is ordered for each of the first hoses
abbrev pub first_orders : ℕ → ℕ → ℕ → List (List Order) × ℕ
first_orders nodes state hoses = drawn (λ hose before. orders_at nodes hose) state hoses

-- the script of a seed, for a network of so many nodes and links, with so many hoses; it is drawn
-- after the links
abbrev pub generated_script : ℕ → ℕ → ℕ → ℕ → List Order
generated_script seed nodes links hoses =
    flat_map (λ orders. orders) (first_orders nodes (first_links nodes seed links).1 hoses).0
