use Rattle.std.proofs.Common.{◌∙◌, ◌∷◌, ◌++◌, codes, map, sym, subst}
use Rattle.std.specs.List.Sorted.{IsPermutation}
use Rattle.hose_graph.specs.steps.Hose.{MakesHose}
use Rattle.hose_proto.specs.Places.{end_word}
use Rattle.hose_proto.proofs.Hoses.{hose_made, makes_hose, same_hose}
use Rattle.hose_replies.proofs.Items.{new_in_order, ends_go_on}
use Rattle.hose_replies.proofs.ListsUntil.{ends_no_links}
use Rattle.hose_replies.proofs.lists.TheEndsLineFields.read.Goals as goal

pub read_until-requires-clause-goes_on : goal.read_until-requires-clause-goes_on
read_until-requires-clause-goes_on g c = ends_go_on c.args.top.now c.requires

pub read_until-requires-clause-apart : goal.read_until-requires-clause-apart
read_until-requires-clause-apart g c = λ ends are. ends_no_links c.args.top.now ends

pub from_ends-requires : goal.from_ends-requires
from_ends-requires g c =
    let network = c.args.top.now in
    let ends = c.in_ok-ends.ends.items in
    subst MakesHose (sym c.deref.ensures.value) (makes_hose network ends (new_in_order network ends c.in_ok-ends.ensures.fine) c.in_ok-ends.ensures.enough)

pub returns-clause-ok : goal.returns-clause-ok
returns-clause-ok g c =
    let network = c.args.top.now in
    let ends = c.in_ok-ends.ends.items in
    let are = c.in_ok-ends.ensures.fine in
    let moved = subst (λ others. IsPermutation others c.in_ok-hose.hose) c.deref.ensures.value c.in_ok-hose.ensures.same_ends in
    let same = same_hose ends c.in_ok-hose.hose moved are.in_order.ascending c.in_ok-hose.ensures.hose.ascending in
    let rest = c.in_ok-rest.ensures.ok in
    record {
      sound = (hose_made network ends c.in_ok-hose.hose (new_in_order network ends are) moved c.in_ok-hose.ensures.hose, rest.sound);
      spelled = c.in_ok-ends.ensures.told ∙ (λ i. map (end_word network) (same i) ++ codes "links" ∷ rest.spelled i);
    }
