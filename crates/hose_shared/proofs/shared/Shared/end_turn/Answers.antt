use Rattle.std.proofs.Common.{◌≡◌, ◌≤◌, ◌∙◌, ◌++◌, ◌∷◌, [], ℕ, List, ap, subst, sym}
use Rattle.std.specs.Prelude.{option_map}
use Rattle.hose_book.specs.Ledger.{Ledger}
use Rattle.hose_book.specs.declared.books.Committed.TheVariants.{Disk, Done}
use Rattle.hose_core.specs.steps.Stepping.{committed_of}
use Rattle.hose_graph.specs.Network.{IsNetwork}
use Rattle.hose_turn.specs.declared.view.Tried.{Tried}
use Rattle.hose_turn.specs.Known.{Known}
use Rattle.hose_turn.specs.steps.Held.{floor_of, holder, tries_of, value_of}
use Rattle.hose_turn.specs.steps.Known.{with_own_entry, with_tried}
use Rattle.hose_turn.specs.steps.Views.{tried_at}
use Rattle.hose_shared.specs.steps.Keeping.{StandsShared}
use Rattle.hose_shared.specs.steps.Sharing.{SharedBook}
use Rattle.hose_shared.specs.steps.Turns.{faults_in}
use Rattle.hose_shared.proofs.Turned.{counted, failed_stands, failed_steps, none_stands, none_steps, one_stands, one_steps, passed_counted, same_stands, turn_above, uncounted, untold, untold_same}
use Rattle.hose_shared.proofs.shared.Shared.end_turn.Goals as goal

-- no entry is told

pub unlock-requires-clause-faults : goal.unlock-requires-clause-faults
unlock-requires-clause-faults g c = let turn = c.requires.answers.3 in turn_above c.requires.begun turn

pub unlock-requires-clause-stands : goal.unlock-requires-clause-stands
unlock-requires-clause-stands g c =
    let turn = c.requires.answers.3 in
    let none = ap (λ (e : _). option_map (λ (one : _). one.value) e) c.in_default.is in
    same_stands c.requires.begun turn (untold_same c.requires.begun turn none)

pub returns-in_default : goal.returns-in_default
returns-in_default g c = λ customer held command turn.
    let none = ap (λ (e : _). option_map (λ (one : _). one.value) e) c.in_default.is in
    none_steps c.requires.begun turn c.args.self.now.network
    (subst IsNetwork (ap (λ (s : SharedBook). s.network) c.self.view_is) c.self.invariant.0) c.requires.network c.unlock.result c.unlock.ensures.places
    (untold c.requires.begun turn none) c.unlock.ensures.passed

-- or it was refused

pub unlock-requires-then-is_refused-clause-faults : goal.unlock-requires-then-is_refused-clause-faults
unlock-requires-then-is_refused-clause-faults g c =
    let turn = c.requires.answers.3 in
    let above = turn_above c.requires.begun turn in
    subst (λ (f : ℕ). f ≤ faults_in g.D.Disk (value_of c.fail.new.held).store) (sym c.fail.ensures.floor)
    (subst (λ (v : _). floor_of c.args.held ≤ faults_in g.D.Disk v.store) (sym c.fail.ensures.value) above)

pub unlock-requires-then-is_refused-clause-stands : goal.unlock-requires-then-is_refused-clause-stands
unlock-requires-then-is_refused-clause-stands g c =
    let known = holder c.args.held in
    let entry = c.in-Some.entry.value in
    let turn = c.requires.answers.3 in
    let some = ap (λ (e : _). option_map (λ (one : _). one.value) e) c.in-Some.is in
    let failed : committed_of c.args.reply.now ≡ Disk = rw c.if-is_refused.true at c.is_refused.ensures in
    let stood = failed_stands c.requires.begun turn entry some failed in
    subst (λ (k : Known). StandsShared g.D.Disk g.B.Begun.begins k.origin k.seen (tries_of c.fail.new.held) (value_of c.fail.new.held).store) (sym c.fail.ensures.tried)
    (subst (λ (tries : List Tried). StandsShared g.D.Disk g.B.Begun.begins known.origin known.seen tries (value_of c.fail.new.held).store) (sym c.fail.ensures.tries)
    (subst (λ (v : _). StandsShared g.D.Disk g.B.Begun.begins known.origin known.seen (tries_of c.args.held ++ tried_at known.seen entry ∷ []) v.store) (sym c.fail.ensures.value) stood))

pub returns-then-is_refused : goal.returns-then-is_refused
returns-then-is_refused g c = λ customer held command turn.
    let known = holder c.args.held in
    let store = (value_of c.args.held).store in
    let entry = c.in-Some.entry.value in
    let some = ap (λ (e : _). option_map (λ (one : _). one.value) e) c.in-Some.is in
    let failed : committed_of c.args.reply.now ≡ Disk = rw c.if-is_refused.true at c.is_refused.ensures in
    let counts = ap (λ (k : _). faults_in g.D.Disk k.store) c.fail.ensures.value in
    failed_steps c.requires.begun turn c.args.self.now.network
    (subst IsNetwork (ap (λ (s : SharedBook). s.network) c.self.view_is) c.self.invariant.0) c.requires.network c.unlock-then-is_refused.result c.unlock-then-is_refused.ensures.places entry some failed
    (passed_counted (with_tried known entry) (holder c.fail.new.held) c.unlock-then-is_refused.result (floor_of c.args.held) (floor_of c.fail.new.held) (faults_in g.D.Disk store) (faults_in g.D.Disk (value_of c.fail.new.held).store) c.fail.ensures.tried c.fail.ensures.floor counts c.unlock-then-is_refused.ensures.passed)

-- or it did not join

pub unlock-requires-then-epoch-clause-faults : goal.unlock-requires-then-epoch-clause-faults
unlock-requires-then-epoch-clause-faults g c = let turn = c.requires.answers.3 in turn_above c.requires.begun turn

pub unlock-requires-then-epoch-clause-stands : goal.unlock-requires-then-epoch-clause-stands
unlock-requires-then-epoch-clause-stands g c =
    let turn = c.requires.answers.3 in
    let done : committed_of c.args.reply.now ≡ Done = rw c.if-is_refused.false at c.is_refused.ensures in
    let here = c.epoch.ensures.value ∙ ap (λ (l : Ledger). l.book.epoch) (c.book.ensures ∙ ap (λ (k : _). k.store.ledger) c.value.ensures) in
    none_stands c.requires.begun turn done (uncounted c.requires.begun turn (sym here ∙ c.if-epoch.true))

pub returns-then-epoch : goal.returns-then-epoch
returns-then-epoch g c = λ customer held command turn.
    let here = c.epoch.ensures.value ∙ ap (λ (l : Ledger). l.book.epoch) (c.book.ensures ∙ ap (λ (k : _). k.store.ledger) c.value.ensures) in
    none_steps c.requires.begun turn c.args.self.now.network
    (subst IsNetwork (ap (λ (s : SharedBook). s.network) c.self.view_is) c.self.invariant.0) c.requires.network c.unlock-then-epoch.result c.unlock-then-epoch.ensures.places
    (uncounted c.requires.begun turn (sym here ∙ c.if-epoch.true)) c.unlock-then-epoch.ensures.passed

-- or it did

pub count-requires-clause-stands : goal.count-requires-clause-stands
count-requires-clause-stands g c =
    let turn = c.requires.answers.3 in
    let some = ap (λ (e : _). option_map (λ (one : _). one.value) e) c.in-Some.is in
    let done : committed_of c.args.reply.now ≡ Done = rw c.if-is_refused.false at c.is_refused.ensures in
    let here = c.epoch.ensures.value ∙ ap (λ (l : Ledger). l.book.epoch) (c.book.ensures ∙ ap (λ (k : _). k.store.ledger) c.value.ensures) in
    one_stands c.requires.begun turn c.in-Some.entry.value done (counted c.requires.begun turn c.in-Some.entry.value some (λ same. c.if-epoch.false (here ∙ same)))

pub unlock-requires-2-clause-faults : goal.unlock-requires-2-clause-faults
unlock-requires-2-clause-faults g c =
    let turn = c.requires.answers.3 in
    let above = turn_above c.requires.begun turn in
    subst (λ (f : ℕ). f ≤ faults_in g.D.Disk (value_of c.count.new.held).store) (sym c.count.ensures.floor)
    (subst (λ (v : _). floor_of c.args.held ≤ faults_in g.D.Disk v.store) (sym c.count.ensures.value) above)

pub unlock-requires-2-clause-stands : goal.unlock-requires-2-clause-stands
unlock-requires-2-clause-stands g c =
    let known = holder c.args.held in
    let entry = c.in-Some.entry.value in
    let turn = c.requires.answers.3 in
    let some = ap (λ (e : _). option_map (λ (one : _). one.value) e) c.in-Some.is in
    let done : committed_of c.args.reply.now ≡ Done = rw c.if-is_refused.false at c.is_refused.ensures in
    let here = c.epoch.ensures.value ∙ ap (λ (l : Ledger). l.book.epoch) (c.book.ensures ∙ ap (λ (k : _). k.store.ledger) c.value.ensures) in
    let stood = one_stands c.requires.begun turn entry done (counted c.requires.begun turn entry some (λ same. c.if-epoch.false (here ∙ same))) in
    subst (λ (k : Known). StandsShared g.D.Disk g.B.Begun.begins k.origin k.seen (tries_of c.count.new.held) (value_of c.count.new.held).store) (sym c.count.ensures.counted)
    (subst (λ (tries : List Tried). StandsShared g.D.Disk g.B.Begun.begins known.origin (known.seen ++ entry ∷ []) tries (value_of c.count.new.held).store) (sym c.count.ensures.tries)
    (subst (λ (v : _). StandsShared g.D.Disk g.B.Begun.begins known.origin (known.seen ++ entry ∷ []) (tries_of c.args.held) v.store) (sym c.count.ensures.value) stood))

pub returns : goal.returns
returns g c = λ customer held command turn.
    let known = holder c.args.held in
    let store = (value_of c.args.held).store in
    let entry = c.in-Some.entry.value in
    let some = ap (λ (e : _). option_map (λ (one : _). one.value) e) c.in-Some.is in
    let here = c.epoch.ensures.value ∙ ap (λ (l : Ledger). l.book.epoch) (c.book.ensures ∙ ap (λ (k : _). k.store.ledger) c.value.ensures) in
    let counts = ap (λ (k : _). faults_in g.D.Disk k.store) c.count.ensures.value in
    one_steps c.requires.begun turn c.args.self.now.network
    (subst IsNetwork (ap (λ (s : SharedBook). s.network) c.self.view_is) c.self.invariant.0) c.requires.network c.unlock-2.result c.unlock-2.ensures.places entry
    (counted c.requires.begun turn entry some (λ same. c.if-epoch.false (here ∙ same)))
    (passed_counted (with_own_entry known entry) (holder c.count.new.held) c.unlock-2.result (floor_of c.args.held) (floor_of c.count.new.held) (faults_in g.D.Disk store) (faults_in g.D.Disk (value_of c.count.new.held).store) c.count.ensures.counted c.count.ensures.floor counts c.unlock-2.ensures.passed)
