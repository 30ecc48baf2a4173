-- At the start the root alone has an entry.
use Rattle.std.proofs.Common.{◌≡◌, ◌∙◌, ℕ, None, length, replicate, ap, rules}
use Rattle.hose_paths.proofs.Made.{IsFound-start}
use Rattle.hose_paths.proofs.settling.start.Goals as goal

pub returns-clause-found : goal.returns-clause-found
returns-clause-found c links =
    let n = length c.args.top.now.nodes in
    let empty : c.in_ok-dist.dist.items ≡ replicate n None =
    c.in_ok-dist.ensures.items_if_clones_equal (search rules) ∙ ap (λ (k : ℕ). replicate k None) c.nodes.ensures.count in
    rw empty (IsFound-start c.args.top.now links c.args.root n c.requires.is_node)
