-- `==` at each place decides whether the lists are equal.
use Rattle.std.proofs.Common.{rules, ◌≡◌, ap}
use Rattle.std.specs.Prelude.{Decides}
use Rattle.std.proofs.lemmas.Slice.Eq.{slice_eq-Decides, bytes_eq-Decides}
use Rattle.hose_graph.specs.Network.{Network}
use Rattle.hose_graph.specs.declared.topology.Link.{Link}
use Rattle.hose_graph.specs.contracts.topology.LinkPartialEq.TheImpl as links
use Rattle.hose_graph.proofs.topology.Topology.same.Goals as goal

links_decide : (a b : Link) → Decides (links.eq-value.it a b) (a ≡ b)
links_decide a b = ((λ yes. search rules), (λ same. search rules))

pub returns-then-eq : goal.returns-then-eq
returns-then-eq c =
    let names = slice_eq-Decides bytes_eq-Decides c.self.inside.names.items c.other.inside.names.items c.eq.result c.eq.ensures in
    let links = slice_eq-Decides links_decide c.self.inside.links.items c.other.inside.links.items c.eq-then-eq.result c.eq-then-eq.ensures in
    rw (← c.self.view_is, ← c.other.view_is) (
      (λ yes. let same_names = names.0 c.if-eq.true in let same_links = links.0 yes in search rules),
      (λ same. links.1 (ap (λ (network : Network). network.links) same)),
    )

pub returns-else-eq : goal.returns-else-eq
returns-else-eq c =
    let names = slice_eq-Decides bytes_eq-Decides c.self.inside.names.items c.other.inside.names.items c.eq.result c.eq.ensures in
    rw (← c.self.view_is, ← c.other.view_is) ((λ yes. search rules), (λ same. names.1 (ap (λ (network : Network). network.nodes) same)))
