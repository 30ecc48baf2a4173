use Rattle.std.proofs.Common.{subst, sym, map}
use Rattle.std.specs.String.{string_bytes}
use Rattle.std.specs.List.Sorted.{IsPermutation}
use Rattle.hose_graph.specs.steps.Hose.{MakesHose}
use Rattle.hose_offline.proofs.EndsFound.{ends_make_hose, ends_of_hose}
use Rattle.hose_offline.proofs.proving.hose_of.Goals as goal

pub from_ends-requires : goal.from_ends-requires
from_ends-requires c =
    subst MakesHose (sym c.deref.ensures.value)
    (ends_make_hose c.args.top.now c.nodes-nodes.ensures.network (map string_bytes c.args.ends.words.now) c.in_ok-found.found.items c.in_ok-found.ensures.ends c.requires.ends)

pub returns-clause-hose : goal.returns-clause-hose
returns-clause-hose c =
    let moved = subst (λ others. IsPermutation others c.in_ok-hose.hose) c.deref.ensures.value c.in_ok-hose.ensures.same_ends in
    ends_of_hose c.args.top.now c.nodes-nodes.ensures.network (map string_bytes c.args.ends.words.now) c.in_ok-found.found.items c.in_ok-found.ensures.ends c.in_ok-hose.hose c.requires.ends moved c.in_ok-hose.ensures.hose

pub returns-clause-nodes : goal.returns-clause-nodes
returns-clause-nodes c = (returns-clause-hose c).is_hose.nodes
