-- What is written of a book: its epoch, each link, each live VPN, and what all of them cost.
use Rattle.std.specs.Prelude.{ℕ, ◌*◌, List, ◌++◌, codes, decimal, length, slice_get, sum_by}
use Rattle.std.specs.List.{flat_map, range_with_len}
use Rattle.hose_graph.specs.Network.{Network}
use Rattle.hose_graph.specs.declared.entry.Vpn.{Vpn}
use Rattle.hose_law.specs.Book.{Book, load_of}
use Rattle.hose_law.specs.Plan.{plan_cost}
use Rattle.hose_law.specs.Walk.{cost_of}
use Rattle.hose_proto.specs.ReplyText.{end_text, link_text, pair_text}

-- the numbers of all links, in order
abbrev pub link_numbers : Network → List ℕ
link_numbers network = range_with_len 0 (length network.links)

-- the line of the epoch
abbrev pub epoch_line : Book → List ℕ
epoch_line book = codes "epoch " ++ decimal book.epoch ++ codes "\n"

-- the line of a link: its number, what it is, and its load
abbrev pub load_line : Network → Book → ℕ → List ℕ
load_line network book l =
    codes "link " ++ decimal l ++ link_text network (slice_get network.links l)
    ++ codes " load " ++ decimal (load_of book l) ++ codes "\n"

-- the line of a live VPN: its number, its customer, its cost, its endpoints, and its amounts
abbrev pub vpn_line : Network → Vpn → List ℕ
vpn_line network vpn =
    codes "vpn " ++ decimal vpn.id ++ codes " " ++ vpn.customer
    ++ codes " cost " ++ decimal (plan_cost network vpn.amounts)
    ++ codes " ends" ++ flat_map (end_text network) vpn.hose
    ++ codes " links" ++ flat_map pair_text vpn.amounts ++ codes "\n"

-- what a link's load costs
abbrev pub load_cost : Network → Book → ℕ → ℕ
load_cost network book l = load_of book l * cost_of network l

-- what all live VPNs cost: the sum over all links of what their loads cost
abbrev pub total_cost : Network → Book → ℕ
total_cost network book = sum_by (load_cost network book) (link_numbers network)

-- the last line: how many VPNs are live, and what they cost
abbrev pub live_line : Network → Book → List ℕ
live_line network book =
    codes "live " ++ decimal (length book.live)
    ++ codes " cost " ++ decimal (total_cost network book) ++ codes "\n"

-- the whole text: the epoch, all links in order, all live VPNs in the order of their admission, and
-- the last line
abbrev pub audit_text : Network → Book → List ℕ
audit_text network book =
    epoch_line book ++ flat_map (load_line network book) (link_numbers network)
    ++ flat_map (vpn_line network) book.live ++ live_line network book
