use Rattle.std.proofs.Common.{◌∙◌, inl, inr, refl, rules, subst, sym}
use Rattle.hose_outside.specs.Why.{why_status}
use Rattle.hose_store.proofs.OneMeaning.{recovered_once}
use Rattle.hose_outside.specs.Reading.{ReadsTopology}
use Rattle.hose_copying.specs.MoveOutcome.{MoveOutcome}
use Rattle.hose_copying.specs.Moving.{MovesNamed}
use Rattle.hose_copying.specs.steps.Moving.{names_of}
use Rattle.hose_outside.specs.Parts.{parts, tellings}
use Rattle.hose_outside.specs.steps.Parts.{held}
use Rattle.hose_outside.specs.declared.move_stop.MoveStop.TheVariants.{Old}
use Rattle.std.specs.Prelude.{Err}
use Rattle.hose_copying.proofs.Failing.{move_fails}
use Rattle.hose_copying.proofs.MoveComplete.{completes, old_refused}
use Rattle.hose_copying.proofs.MoveEnds.{move_not_1}
use Rattle.hose_copying.proofs.MoveWhole.{kept_named, others_named, whole_of}
use Rattle.hose_copying.proofs.moving.move_journal.Goals as goal

pub returns-in-Ok : goal.returns-in-Ok
returns-in-Ok g c =
    let tells = tellings g.I.Source g.O.Sink g.C.Cabinet g.C.Disk.Disk in
    let names = names_of (g.P.Prices.prices c.args.costs.now) c.args.of in
    let before = held c.args.outside.now in
    let moved = c.move_from-moved in
    let left = held moved.new.outside in
    let ended = c.end_move.ensures.came in
    let reads = subst (ReadsTopology g.C.Cabinet before.cabinet c.read_topology.new.cabinet names.prices names.topology) c.in-Ok.is c.read_topology.ensures.reads in
    let moves : MovesNamed tells names before left moved.result = inr (c.in-Ok.old, c.read_topology.new.cabinet, reads, moved.ensures.moves) in
    let outcome : MoveOutcome tells names before (parts left.input c.end_move.new.output left.cabinet) (why_status c.end_move.result) = record {
      left = left.output;
      done = moved.result;
      moves = moves;
      ends = ended;
      whole = whole_of tells names before left _ _ _ _ moves ended;
      old_kept = kept_named tells names before left _ moves;
      others = λ name not_old not_new. others_named tells names before left name not_old not_new _ moves;
      complete = λ movable none. completes tells before left _ names c.in-Ok.old c.read_topology.new.cabinet _ _ (recovered_once c.in-Ok.old) reads moved.ensures.moves ended movable none.writing none.keeping_it;
      input = moved.ensures.input;
    } in
    let fails = move_fails tells names before (parts left.input c.end_move.new.output left.cabinet) left.output moved.result moves c.end_move.result c.end_move.ensures.is in
    record { outcome = outcome; told = c.end_move.ensures.told; fails = fails; not_words = move_not_1 _ _ _ _ _ outcome; out = moved.ensures.back ∙ sym c.requires.none_out; keeps = search rules }

pub returns-in-Err : goal.returns-in-Err
returns-in-Err g c =
    let tells = tellings g.I.Source g.O.Sink g.C.Cabinet g.C.Disk.Disk in
    let names = names_of (g.P.Prices.prices c.args.costs.now) c.args.of in
    let before = held c.args.outside.now in
    let left = parts before.input before.output c.read_topology.new.cabinet in
    let done = Err (Old c.in-Err.why) in
    let ended = c.end_move-in-Err.ensures.came in
    let reads = subst (ReadsTopology g.C.Cabinet before.cabinet c.read_topology.new.cabinet names.prices names.topology) c.in-Err.is c.read_topology.ensures.reads in
    let moves : MovesNamed tells names before left done = inl (c.in-Err.why, refl, reads, refl) in
    let outcome : MoveOutcome tells names before (parts before.input c.end_move-in-Err.new.output left.cabinet) (why_status c.end_move-in-Err.result) = record {
      left = before.output;
      done = done;
      moves = moves;
      ends = ended;
      whole = whole_of tells names before left done _ _ _ moves ended;
      old_kept = kept_named tells names before left done moves;
      others = λ name not_old not_new. others_named tells names before left name not_old not_new done moves;
      complete = λ movable none. inr (ended.0 ∙ old_refused tells.cabinet before.cabinet c.read_topology.new.cabinet names.prices names.topology c.in-Err.why reads movable.servable none.keeping_it);
      input = refl;
    } in
    let fails = move_fails tells names before (parts before.input c.end_move-in-Err.new.output left.cabinet) before.output done moves c.end_move-in-Err.result c.end_move-in-Err.ensures.is in
    record { outcome = outcome; told = c.end_move-in-Err.ensures.told; fails = fails; not_words = move_not_1 _ _ _ _ _ outcome; out = search rules; keeps = search rules }
