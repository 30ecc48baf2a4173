use Rattle.std.proofs.Common.{◌≡◌, ◌∙◌, ℕ, suc, ◌+◌, [], ◌∷◌, ◌++◌, length, ap, arith}
use Rattle.hose_graph.specs.Network.{Network}
use Rattle.hose_graph.specs.declared.topology.Link.{Link}
use Rattle.hose_gen.specs.Generated.{first_links, link_at, node_names}
use Rattle.hose_gen.proofs.Counted.{length-first_links}
use Rattle.hose_gen.proofs.Numbered.{length-node_names}
use Rattle.hose_gen.proofs.links.add_links.Goals as goal

pub push_link-requires-clause-room : goal.push_link-requires-clause-room
push_link-requires-clause-room c =
    let same = ap (λ (n : Network). length n.links) c.loop-number.invariant.0 in
    omega (arith, same, length-first_links c.args.nodes c.args.draws.now.state c.loop-number.number, c.loop-number-test.true, c.requires.few_links)

pub push_link-requires-clause-is_link : goal.push_link-requires-clause-is_link
push_link-requires-clause-is_link c =
    let same = ap (λ (n : Network). length n.nodes) c.loop-number.invariant.0 in
    c.draw_link-link.ensures.is_link c.loop-number.top (same ∙ length-node_names c.args.nodes)

pub loop-number-preserved : goal.loop-number-preserved
loop-number-preserved c =
    let nodes = c.args.nodes in
    let number = c.loop-number.number in
    let made = first_links nodes c.args.draws.now.state number in
    let link = c.draw_link-link.result in
    let one : number + 1 ≡ suc number = omega arith in
    let here : link ≡ (link_at nodes number made.1).0 =
    c.draw_link-link.ensures.link ∙ ap (λ (x : ℕ). (link_at nodes number x).0) c.loop-number.invariant.1 in
    rw one (
      c.push_link.ensures.added
          ∙ ap (λ (n : Network). record n { links = n.links ++ link ∷ [] }) c.loop-number.invariant.0
          ∙ ap (λ (l : Link). record { nodes = node_names nodes; links = made.0 ++ l ∷ [] }) here,
      c.draw_link-link.ensures.state ∙ ap (λ (x : ℕ). (link_at nodes number x).1) c.loop-number.invariant.1,
    )
