use Rattle.std.specs.Prelude.{option_map}
use Rattle.std.proofs.Common.{◌≡◌, ◌∙◌, refl, rules, sym}
use Rattle.hose_io.proofs.Frames.{Stays-next}
use Rattle.hose_io.specs.steps.Borrowed.{borrowed}
use Rattle.hose_outside.specs.Parts.{parts, tellings}
use Rattle.hose_offline.proofs.Borrowed.{same_borrow, stays_behind}
use Rattle.hose_offline.proofs.Leaving.{leaves_behind}
use Rattle.hose_offline.proofs.RunOutcomes.{none_named, run_not_1}
use Rattle.hose_offline.proofs.RunEnds.{run_comes, takes_behind}
use Rattle.hose_offline.proofs.answering.run.Goals as goal

pub returns-clause-outcome : goal.returns-clause-outcome
returns-clause-outcome g c =
    let lines = c.new-lines.result in
    let done = c.run_lines-done in
    let run = done.ensures in
    let kept = run.keeps in
    let first = c.args.input.now in
    let now = done.new.lines.source.now in
    let borrow = same_borrow g.I.Source lines.source done.new.lines.source kept.stay.input in
    let began : lines.source.now ≡ first = search rules in
    let given : now ≡ c.input-1.given.0 = search rules in
    let leaves = leaves_behind (tellings g.I.Source g.O.Sink g.C.Cabinet g.C.Disk.Disk) (g.P.Prices.prices c.args.costs.now) (option_map (λ name. name.now) c.args.journal) (parts lines.source c.args.output.now c.args.cabinet.now) (parts done.new.lines.source done.new.output done.new.cabinet) first now began refl done.result run.leaves in
    run_comes (tellings g.I.Source g.O.Sink g.C.Cabinet g.C.Disk.Disk) (g.P.Prices.prices c.args.costs.now) (option_map (λ name. name.now) c.args.journal) (parts first c.args.output.now c.args.cabinet.now) now done.new.output done.new.cabinet done.result leaves c.end.new.output _ given
    (takes_behind g.I.Source lines done.new.lines first done.result began (search rules) kept.reads_on kept.limit kept.too_long) kept.absent (λ none. run.in_memory (none_named (λ name. name.now) c.args.journal none)) kept.others c.end.ensures.last_line c.end.ensures.output c.end.ensures.status

pub returns-clause-not_words : goal.returns-clause-not_words
returns-clause-not_words g c = λ one.
    let done = c.run_lines-done in
    run_not_1 (tellings (borrowed g.I.Source) g.O.Sink g.C.Cabinet g.C.Disk.Disk) (g.P.Prices.prices c.args.costs.now) (option_map (λ name. name.now) c.args.journal) (parts c.new-lines.result.source c.args.output.now c.args.cabinet.now) (parts done.new.lines.source done.new.output done.new.cabinet) done.result done.ensures.leaves (sym c.end.ensures.status ∙ one)

pub returns-clause-back : goal.returns-clause-back
returns-clause-back g c = c.run_lines-done.ensures.keeps.back

pub returns-clause-stay : goal.returns-clause-stay
returns-clause-stay g c =
    let lines = c.new-lines.result in
    let done = c.run_lines-done in
    let stay = done.ensures.keeps.stay in
    let borrow = same_borrow g.I.Source lines.source done.new.lines.source stay.input in
    record {
      input = stays_behind g.I.Source lines.source done.new.lines.source _ _ (search rules) (search rules) stay.input;
      output = Stays-next stay.output c.end.ensures.output;
      cabinet = stay.cabinet;
    }
