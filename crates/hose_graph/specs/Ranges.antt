-- The ranges of the numbers of an entry, as far as its type leaves them open.
use Rattle.std.specs.Prelude.{◌<◌, ◌≤◌, List, All, length}
use Rattle.hose_graph.specs.Limits.{most_amount, most_links, most_tree_links}
use Rattle.hose_graph.specs.Amounts.{ReservedLink, amount_of, link_of}
use Rattle.hose_graph.specs.Limit.{IsUpTo}

-- an amount is on a link that a network can have, and within the limit
pub record IsAmount (pair : ReservedLink) : Type 0 where
  pub link : link_of pair < most_links
  pub amount : IsUpTo most_amount (amount_of pair)

-- there are some amounts, no more than a tree has links, and each is within the limits
pub record AreInRanges (amounts : List ReservedLink) : Type 0 where
  pub some : 1 ≤ length amounts
  pub few : length amounts ≤ most_tree_links
  pub within : All IsAmount amounts
