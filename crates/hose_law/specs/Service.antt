-- Links in service and out of it. A book keeps those that are out, so that it begins without a
-- network: all links are in service then.
use Rattle.std.specs.Prelude.{◌≡◌, ℕ, ◌==◌, Bool, true, false, not, List, [], ◌∷◌, ◌++◌, filter, length, map}
use Rattle.std.specs.List.{list_any, range_with_len}
use Rattle.hose_graph.specs.Network.{Network, IsLinkOf}
use Rattle.hose_law.specs.Book.{Book}

-- the link is one of those that are out
abbrev pub is_out : List ℕ → ℕ → Bool
is_out out l = list_any (λ other. other == l) out

-- the set of links in service where these are out
abbrev pub links_in_service : Network → List ℕ → List Bool
links_in_service network out =
    map (λ l. not (is_out out l)) (range_with_len 0 (length network.links))

-- the links that are out of service once one more is taken out
abbrev pub taken_out : List ℕ → ℕ → List ℕ
taken_out out link = out ++ link ∷ []

-- the links that are out of service once one of them is put back
abbrev pub put_back : List ℕ → ℕ → List ℕ
put_back out link = filter (λ other. not (other == link)) out

-- at a book this is a link of the network, and out of service where this is true, else in service
abbrev pub LinkStands : Network → Book → ℕ → Bool → Type 0
LinkStands network book link out = IsLinkOf network link × (is_out book.out link ≡ out)

-- at a book this is a link of the network that is in service
abbrev pub IsInService : Network → Book → ℕ → Type 0
IsInService network book link = LinkStands network book link false

-- at a book this is a link of the network that is out of service
abbrev pub IsOutOfService : Network → Book → ℕ → Type 0
IsOutOfService network book link = LinkStands network book link true
