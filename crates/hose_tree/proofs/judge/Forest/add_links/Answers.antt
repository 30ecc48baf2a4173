use Rattle.std.proofs.Common.{ℕ, ◌+◌, ◌≤◌, [], length, take, get_or, arith}
use Rattle.std.proofs.lemmas.List.Elements.{All-weaker}
use Rattle.hose_tree.specs.steps.Peeling.{IsPossible}
use Rattle.hose_tree.proofs.Forests.{MOST, MOST_SMALL, forest_more, next_more, room, small_room}
use Rattle.hose_tree.proofs.judge.Forest.add_links.Goals as goal

pub add_link-requires-clause-degrees : goal.add_link-requires-clause-degrees
add_link-requires-clause-degrees c =
    small_room c.args.top.now (λ pair. 1) c.args.pairs.now c.loop-number.number-index 1 c.loop-number.self.degrees (λ k d below. omega arith) c.requires.few (omega arith)
    c.loop-number.invariant.degrees

pub add_link-requires-clause-links : goal.add_link-requires-clause-links
add_link-requires-clause-links c =
    let pairs = c.args.pairs.now in
    let links = length c.args.top.now.links in
    let each : (pair : ℕ × ℕ) → IsPossible links c.args.total pair → pair.0 ≤ MOST_SMALL = λ pair is. omega (arith, is.link, c.requires.network.few_links) in
    small_room c.args.top.now (λ pair. pair.0) pairs c.loop-number.number-index (get_or pairs c.loop-number.number-index (0, 0)).0 c.loop-number.self.links
    (All-weaker (IsPossible links c.args.total) (λ (pair : ℕ × ℕ). pair.0 ≤ MOST_SMALL) each pairs c.requires.possible) c.requires.few
    (each _ (c.requires.possible c.loop-number.number-index (0, 0) c.loop-number-test.true)) c.loop-number.invariant.links

pub add_link-requires-clause-amounts : goal.add_link-requires-clause-amounts
add_link-requires-clause-amounts c =
    let pairs = c.args.pairs.now in
    let links = length c.args.top.now.links in
    let each : (pair : ℕ × ℕ) → IsPossible links c.args.total pair → pair.1 ≤ MOST = λ pair is. omega (arith, is.within, c.requires.total) in
    room c.args.top.now (λ pair. pair.1) pairs c.loop-number.number-index (get_or pairs c.loop-number.number-index (0, 0)).1 c.loop-number.self.amounts
    (All-weaker (IsPossible links c.args.total) (λ (pair : ℕ × ℕ). pair.1 ≤ MOST) each pairs c.requires.possible) c.requires.few
    (each _ (c.requires.possible c.loop-number.number-index (0, 0) c.loop-number-test.true)) c.loop-number.invariant.amounts

pub loop-number-preserved : goal.loop-number-preserved
loop-number-preserved c =
    let pairs = c.args.pairs.now in
    let i = c.loop-number.number-index in
    forest_more c.args.top.now [] (take i pairs) (take (i + 1) pairs) (get_or pairs i (0, 0)) (next_more c.args.top.now pairs i c.loop-number-test.true)
    c.link.result c.link.ensures.value c.loop-number.self c.add_link.new.self c.add_link.ensures c.loop-number.invariant
