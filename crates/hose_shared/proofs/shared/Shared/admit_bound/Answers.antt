use Rattle.std.proofs.Common.{◌≡◌, ◌∙◌, ℕ, List, Option, Err, IfSome, Ok, ap, rules, subst, sym}
use Rattle.hose_graph.specs.Hose.{Endpoint}
use Rattle.hose_graph.specs.steps.Naming.{NamesPlaces}
use Rattle.hose_graph.specs.Network.{Network}
use Rattle.hose_law.specs.History.{book_of}
use Rattle.hose_law.specs.Quotes.{none_held}
use Rattle.hose_law.specs.steps.Plan.{AreNodes}
use Rattle.hose_core.specs.steps.Bound.{admission_command}
use Rattle.hose_core.specs.steps.Planning.{IsPlannedFor}
use Rattle.hose_core.specs.declared.admitting.Admission.{Admission}
use Rattle.hose_shared.specs.steps.Along.{AnswersAlong, IsNotTried, IsTried}
use Rattle.hose_shared.specs.steps.Sharing.{SharedBook}
use Rattle.hose_shared.proofs.Bound.{untried_done, untried_names, untried_step}
use Rattle.hose_shared.proofs.Entries.{admit_turn, nodes_here, stays_along}
use Rattle.hose_shared.proofs.Passes.{along_of, along_on, more_on}
use Rattle.hose_shared.proofs.shared.Shared.admit_bound.Goals as goal

abbrev the_admission : Option ℕ → List Endpoint → Admission
the_admission known hose = record { known = known; hose = hose }

pub returns-in-Err : goal.returns-in-Err
returns-in-Err g c =
    let network = c.args.self.now.network in
    let customer = c.args.caller.now.customer.now in
    let asked = c.args.asked in
    let seen = c.plan-planned.result.1 in
    let reply = c.in-Err.reply in
    let none : IsNotTried network (book_of 0 seen.seen) customer c.loop.asked.known c.loop.asked.hose reply = rw c.in-Err.is at c.plan-planned.ensures.planned in
    let mine = subst (λ (a : Admission). IsNotTried network (book_of 0 seen.seen) customer a.known a.hose reply) c.loop.invariant.0 none in
    record {
      steps = λ held. stays_along held (more_on c.args.pass c.loop.pass seen c.loop.invariant.1 c.plan-planned.ensures.more) (untried_done network seen.seen customer asked.known asked.hose reply mine)
          (untried_step network seen.seen customer asked.known asked.hose reply held mine);
      names = untried_names network seen.seen customer asked.known asked.hose reply mine;
    }

pub take_planned-tried-requires-clause-planned : goal.take_planned-tried-requires-clause-planned
take_planned-tried-requires-clause-planned g c =
    let planned : IsPlannedFor c.args.self.now.network (book_of 0 c.plan-planned.result.1.seen) c.loop.asked.hose c.in-Ok.quote = rw c.in-Ok.is at c.plan-planned.ensures.planned in
    planned.made

pub loop-preserved : goal.loop-preserved
loop-preserved g c =
    let network = c.args.self.now.network in
    let known = c.loop.asked.known in
    let seen = c.plan-planned.result.1 in
    let later = c.take_planned-tried.result.1 in
    let planned : IsPlannedFor network (book_of 0 seen.seen) c.loop.asked.hose c.in-Ok.quote = rw c.in-Ok.is at c.plan-planned.ensures.planned in
    let tried : IsTried network c.args.caller.now.customer.now known c.in-Ok.quote.hose seen later (Err c.in-Err-tried.hose) = rw c.in-Err-tried.is at c.take_planned-tried.ensures in
    let same = ap (λ (hose : List Endpoint). the_admission known hose) (tried.0 ∙ planned.of) in
    (same ∙ c.loop.invariant.0, more_on c.args.pass c.loop.pass later c.loop.invariant.1 (more_on c.loop.pass seen later c.plan-planned.ensures.more tried.1))

pub returns-in-Ok-tried : goal.returns-in-Ok-tried
returns-in-Ok-tried g c =
    let network = c.args.self.now.network in
    let customer = c.args.caller.now.customer.now in
    let known = c.loop.asked.known in
    let seen = c.plan-planned.result.1 in
    let later = c.take_planned-tried.result.1 in
    let quote = c.in-Ok.quote in
    let reply = c.in-Ok-tried.reply in
    let planned : IsPlannedFor network (book_of 0 seen.seen) c.loop.asked.hose quote = rw c.in-Ok.is at c.plan-planned.ensures.planned in
    let tried : IsTried network customer known quote.hose seen later (Ok reply) = rw c.in-Ok-tried.is at c.take_planned-tried.ensures in
    let more = more_on c.args.pass c.loop.pass seen c.loop.invariant.1 c.plan-planned.ensures.more in
    let along : AnswersAlong network customer (admission_command known quote.hose) reply c.args.pass later = record {
      steps = λ held. along_on network customer held (admission_command known quote.hose) reply c.args.pass seen later more (tried.steps held);
      names = tried.names;
    } in
    let here = subst (λ (hose : List Endpoint). AnswersAlong network customer (admission_command known hose) reply c.args.pass later) planned.of along in
    subst (λ (a : Admission). AnswersAlong network customer (admission_command a.known a.hose) reply c.args.pass later) c.loop.invariant.0 here

pub admit_with_rows-reply-requires-clause-nodes : goal.admit_with_rows-reply-requires-clause-nodes
admit_with_rows-reply-requires-clause-nodes g c =
    let same = ap (λ (k : _). k.store.ledger.network) (c.value_mut.ensures.value ∙ sym c.begin_turn-held.ensures.value) in
    let asked = subst (λ (a : Admission). AreNodes c.args.self.now.network a.hose) (sym c.loop.invariant.0) c.requires.nodes in
    nodes_here c.loop.asked.hose c.args.self.now.network c.value_mut.result.now.store.ledger.network (same ∙ c.begin_turn-held.ensures.network) asked

pub admit_with_rows-reply-requires-clause-table : goal.admit_with_rows-reply-requires-clause-table
admit_with_rows-reply-requires-clause-table g c =
    let same = ap (λ (k : _). k.store.ledger.network) (c.value_mut.ensures.value ∙ sym c.begin_turn-held.ensures.value) in
    let there : IfSome c.as_ref-table.result (λ table. table.now.network ≡ c.self.inside.topology) = search rules in
    subst (λ (n : Network). IfSome c.as_ref-table.result (λ table. table.now.network ≡ n)) (ap (λ (s : SharedBook). s.network) c.self.view_is ∙ sym (same ∙ c.begin_turn-held.ensures.network)) there

pub end_turn-pass-requires-clause-answers : goal.end_turn-pass-requires-clause-answers
end_turn-pass-requires-clause-answers g c =
    let same = ap (λ (k : _). k.store) (c.value_mut.ensures.value ∙ sym c.begin_turn-held.ensures.value) in
    let customer = c.args.caller.now.customer.now in
    let asked = c.loop.asked in
    let called = c.admit_with_rows-reply.ensures in
    (customer, none_held, admission_command asked.known asked.hose, admit_turn c.begin_turn-held.ensures.begins same called.answered _ customer none_held asked called)

pub returns : goal.returns
returns g c =
    let network = c.args.self.now.network in
    let customer = c.args.caller.now.customer.now in
    let asked = c.loop.asked in
    let answer = c.admit_with_rows-reply.result.0 in
    let called = c.admit_with_rows-reply.ensures in
    let same = ap (λ (k : _). k.store) (c.value_mut.ensures.value ∙ sym c.begin_turn-held.ensures.value) in
    let more = more_on c.args.pass c.loop.pass _ c.loop.invariant.1 c.begin_turn-held.ensures.more in
    let along : AnswersAlong network customer (admission_command asked.known asked.hose) answer c.args.pass c.end_turn-pass.result = record {
      steps = λ held.
          along_of _ customer held _ _ _ _ _ more
          (c.end_turn-pass.ensures customer held (admission_command asked.known asked.hose) (admit_turn c.begin_turn-held.ensures.begins same called.answered _ customer held asked called));
      names = subst (λ (n : Network). NamesPlaces n answer) (ap (λ (s : _). s.ledger.network) same ∙ c.begin_turn-held.ensures.network) called.answered.names;
    } in
    subst (λ (a : Admission). AnswersAlong network customer (admission_command a.known a.hose) answer c.args.pass c.end_turn-pass.result) c.loop.invariant.0 along
