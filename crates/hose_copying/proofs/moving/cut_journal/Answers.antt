use Rattle.std.proofs.Common.{◌∙◌, inl, inr, refl, rules, subst, sym}
use Rattle.std.specs.Prelude.{Err}
use Rattle.hose_store.proofs.OneMeaning.{recovered_once}
use Rattle.hose_outside.specs.Reading.{ReadsTopology}
use Rattle.hose_copying.specs.CutOutcome.{CutOutcome, CutsNamed}
use Rattle.hose_outside.specs.Parts.{parts, tellings}
use Rattle.hose_outside.specs.Why.{why_status}
use Rattle.hose_copying.specs.steps.Moving.{cut_of}
use Rattle.hose_outside.specs.steps.Parts.{held}
use Rattle.hose_outside.specs.declared.move_stop.MoveStop.TheVariants.{Old}
use Rattle.hose_copying.proofs.CutWhole.{cut_complete, cut_kept, cut_less, cut_not_1, cut_others, cut_whole}
use Rattle.hose_copying.proofs.Failing.{cut_fails}
use Rattle.hose_copying.proofs.MoveComplete.{old_refused}
use Rattle.hose_copying.proofs.MoveEnds.{ends_not_1}
use Rattle.hose_copying.proofs.moving.cut_journal.Goals as goal

pub returns-in-Ok : goal.returns-in-Ok
returns-in-Ok g c =
    let tells = tellings g.I.Source g.O.Sink g.C.Cabinet g.C.Disk.Disk in
    let names = cut_of (g.P.Prices.prices c.args.costs.now) c.args.of in
    let before = held c.args.outside.now in
    let moved = c.move_apart-moved in
    let left = held moved.new.outside in
    let ended = c.end_move.ensures.came in
    let reads = subst (ReadsTopology g.C.Cabinet before.cabinet c.read_topology.new.cabinet names.of.prices names.of.topology) c.in-Ok.is c.read_topology.ensures.reads in
    let cuts : CutsNamed tells names before left moved.result = inr (c.in-Ok.network, c.read_topology.new.cabinet, reads, moved.ensures.moves) in
    let outcome : CutOutcome tells names before (parts left.input c.end_move.new.output left.cabinet) (why_status c.end_move.result) = record {
      left = left.output;
      done = moved.result;
      cuts = cuts;
      ends = ended;
      whole = cut_whole tells names before left _ _ _ _ cuts ended;
      less = cut_less tells names before left _ _ _ _ cuts ended;
      old_kept = cut_kept tells names before left _ cuts;
      others = λ name not_old not_new. cut_others tells names before left name not_old not_new _ cuts;
      complete = λ cuttable none. cut_complete tells names before left _ c.in-Ok.network c.read_topology.new.cabinet _ _ (recovered_once c.in-Ok.network) reads moved.ensures.moves ended cuttable none.writing none.keeping_it;
      input = moved.ensures.input;
    } in
    let fails = cut_fails tells names before (parts left.input c.end_move.new.output left.cabinet) left.output moved.result cuts c.end_move.result c.end_move.ensures.is in
    record { outcome = outcome; told = c.end_move.ensures.told; fails = fails; not_words = ends_not_1 tells.sink left.output c.end_move.new.output (why_status c.end_move.result) moved.result ended (cut_not_1 tells names before left moved.result cuts); out = moved.ensures.back ∙ sym c.requires.none_out; keeps = search rules }

pub returns-in-Err : goal.returns-in-Err
returns-in-Err g c =
    let tells = tellings g.I.Source g.O.Sink g.C.Cabinet g.C.Disk.Disk in
    let names = cut_of (g.P.Prices.prices c.args.costs.now) c.args.of in
    let before = held c.args.outside.now in
    let left = parts before.input before.output c.read_topology.new.cabinet in
    let done = Err (Old c.in-Err.why) in
    let ended = c.end_move-in-Err.ensures.came in
    let reads = subst (ReadsTopology g.C.Cabinet before.cabinet c.read_topology.new.cabinet names.of.prices names.of.topology) c.in-Err.is c.read_topology.ensures.reads in
    let cuts : CutsNamed tells names before left done = inl (c.in-Err.why, refl, reads, refl) in
    let outcome : CutOutcome tells names before (parts before.input c.end_move-in-Err.new.output left.cabinet) (why_status c.end_move-in-Err.result) = record {
      left = before.output;
      done = done;
      cuts = cuts;
      ends = ended;
      whole = cut_whole tells names before left done _ _ _ cuts ended;
      less = cut_less tells names before left done _ _ _ cuts ended;
      old_kept = cut_kept tells names before left done cuts;
      others = λ name not_old not_new. cut_others tells names before left name not_old not_new done cuts;
      complete = λ cuttable none. inr (ended.0 ∙ old_refused tells.cabinet before.cabinet c.read_topology.new.cabinet names.of.prices names.of.topology c.in-Err.why reads cuttable.servable none.keeping_it);
      input = refl;
    } in
    let fails = cut_fails tells names before (parts before.input c.end_move-in-Err.new.output left.cabinet) before.output done cuts c.end_move-in-Err.result c.end_move-in-Err.ensures.is in
    record { outcome = outcome; told = c.end_move-in-Err.ensures.told; fails = fails; not_words = ends_not_1 tells.sink before.output c.end_move-in-Err.new.output (why_status c.end_move-in-Err.result) done ended (cut_not_1 tells names before left done cuts); out = search rules; keeps = search rules }
