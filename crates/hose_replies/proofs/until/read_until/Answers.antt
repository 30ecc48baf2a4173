use Rattle.std.proofs.Common.{◌≤◌, ◌∙◌, ◌++◌, ap, length, map, subst}
use Rattle.hose_words.proofs.Until.{wrong_past_last}
use Rattle.hose_replies.specs.steps.Fields.{no_more, form_of}
use Rattle.hose_replies.specs.steps.Reading.{MissesUntil}
use Rattle.hose_proto.proofs.Faults.{handed, is_told}
use Rattle.hose_replies.proofs.ListsUntil.{until_item, wrong_until}
use Rattle.hose_replies.proofs.until.read_until.Goals as goal

pub returns-in_err-item-clause-bad : goal.returns-in_err-item-clause-bad
returns-in_err-item-clause-bad g c =
    let network = c.args.top.now in
    let free = c.requires.apart c.loop-items.items.items c.loop-items.invariant.so_far in
    let misses = subst (λ others. MissesUntil (g.L.Items.word_of network) (g.L.Items.may_come network others) c.args.least c.args.last.now others c.loop-items.words c.in_err-item.field-0.0.number) c.deref.ensures.value c.in_err-item.ensures.wrong in
    handed _ c.from_residual.result c.from_residual.ensures.1 (λ rest. is_told (wrong_until free (c.loop-items.invariant.listing rest) (c.requires.goes_on c.loop-items.items.items c.loop-items.invariant.so_far) misses))

pub loop-items-preserved : goal.loop-items-preserved
loop-items-preserved g c =
    let free = c.requires.apart c.loop-items.items.items c.loop-items.invariant.so_far in
    let came = rw c.in-Some.is at c.in_ok-item.ensures.next in
    let may = subst (λ others. g.L.Items.may_come c.args.top.now others c.in-Some.item) c.deref.ensures.value came.1 in
    let are = (c.requires.goes_on c.loop-items.items.items c.loop-items.invariant.so_far).more c.in-Some.item may in
    rw c.in_ok-push.ensures.items (record { listing = λ rest. until_item free (c.loop-items.invariant.listing rest) came.0 are; so_far = are })

pub returns-clause-told : goal.returns-clause-told
returns-clause-told g c =
    let ended = rw c.in_default.is at c.in_ok-item.ensures.ended in
    (c.loop-items.invariant.listing no_more).took.cut ∙ ap (λ w. map (g.L.Items.word_of c.args.top.now) c.loop-items.items.items ++ w) ended.0.cut

pub returns-clause-later : goal.returns-clause-later
returns-clause-later g c rest place wrong =
    let network = c.args.top.now in
    let items = c.loop-items.items.items in
    let free = c.requires.apart c.loop-items.items.items c.loop-items.invariant.so_far in
    let ended = rw c.in_default.is at c.in_ok-item.ensures.ended in
    wrong_past_last (g.L.Items.word_of network) (g.L.Items.fine network) c.args.least c.args.last.now (form_of network rest) items c.args.words.now c.loop-items.words c.next_until.new.words place free
    (c.loop-items.invariant.listing rest) ended.0 (subst (λ others. c.args.least ≤ length others) c.deref.ensures.value ended.1) wrong
