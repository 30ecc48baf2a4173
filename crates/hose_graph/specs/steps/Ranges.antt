-- The ranges of the numbers of an entry, as far as its type leaves them open: steps of proofs.
use Rattle.std.specs.Prelude.{◌<◌, ◌≤◌}
use Rattle.hose_graph.specs.declared.entry.Entry.{Entry}
use Rattle.hose_graph.specs.declared.entry.Entry.TheVariants.{Admit, Release, Down, Up}
use Rattle.hose_graph.specs.Limits.{most_epoch, most_links}
use Rattle.hose_graph.specs.Ranges.{AreInRanges}

-- the entry's numbers are in their ranges
abbrev pub IsInRanges : Entry → Type 0
IsInRanges (Admit customer hose amounts) = AreInRanges amounts
IsInRanges (Release customer id) = id ≤ most_epoch
IsInRanges (Down link) = link < most_links
IsInRanges (Up link) = link < most_links
