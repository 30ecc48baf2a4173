use Rattle.std.proofs.Common.{◌≡◌, ◌∙◌, ◌<◌, ◌++◌, ℕ, Option, length, take, drop, slice_index_or, ap, arith, rules}
use Rattle.std.proofs.lemmas.List.{take_at}
use Rattle.std.proofs.lemmas.Result.{IfOk-weaker}
use Rattle.hose_graph.specs.Row.{Distances}
use Rattle.hose_pool.specs.steps.Rows.{IsMadeRow}
use Rattle.hose_pool.proofs.Made.{rows_made}
use Rattle.hose_pool.proofs.rows.all_rows.Goals as goal

pub returns : goal.returns
returns g c =
    let made = c.in_ok-made.made in
    let new = c.for_each_mut.new.s in
    let kept : length new ≡ length c.deref_mut.result.now = search rules in
    let each : (root : ℕ) (none : Option Distances) → root < length c.deref_mut.result.now → IsMadeRow c.args.top.now c.args.links.now root (slice_index_or new root none) = search rules in
    let size : length new ≡ length c.args.top.now.nodes = kept ∙ ap length c.deref_mut.ensures.value ∙ c.in_ok-made.ensures ∙ c.nodes-nodes.ensures.count in
    let long = kept ∙ c.deref_mut.ensures.len in
    let back : take made.len (new ++ drop (length new) made.items) ≡ new = take_at new (drop (length new) made.items) made.len (omega (arith, long)) in
    IfOk-weaker c.all_made.result _ _
    (λ rows told. rows_made c.args.top.now c.args.links.now new rows.items (told ∙ back) size (λ root none within. each root none (omega (arith, within, kept)))) c.all_made.ensures
