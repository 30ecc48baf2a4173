-- `==` at each place decides whether the lists are equal.
use Rattle.std.specs.Cmp.{booleans_Decides}
use Rattle.std.proofs.lemmas.Slice.Eq.{slice_eq-Decides}
use Rattle.hose_links.proofs.LinkSet.same.Goals as goal

pub returns : goal.returns
returns c = rw (← c.self.view_is, ← c.other.view_is) (slice_eq-Decides booleans_Decides _ _ _ c.eq.ensures)
