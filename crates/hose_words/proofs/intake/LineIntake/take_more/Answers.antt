use Rattle.std.proofs.Common.{Ok, ap, refl, rules}
use Rattle.hose_io.specs.steps.Calls.{none_yet}
use Rattle.hose_words.proofs.Coming.{MeetsEnd-now}
use Rattle.hose_words.proofs.intake.LineIntake.take_more.Goals as goal

pub returns-then-self : goal.returns-then-self
returns-then-self g c = search (rules, none_yet)

pub returns-in-Ok-eq0 : goal.returns-in-Ok-eq0
returns-in-Ok-eq0 g c =
    let filled = c.in-Ok-eq0.ensures in
    let none = c.in-Ok-eq0.field-0-test in
    rw (← c.self.view_is)
    (MeetsEnd-now g.S.Source _ _ _ (rw c.make_room.ensures.pending at filled.taken) none (filled.none_only_at_end (ap Ok none)) refl
    (rw (← c.self.view_is) at c.requires.fault) refl filled.met.ok filled.went c.if-self.false)
