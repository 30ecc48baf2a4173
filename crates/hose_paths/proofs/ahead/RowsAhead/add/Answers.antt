use Rattle.std.proofs.Common.{◌≡◌, ℕ, ◌<◌, length, subst, arith, rules}
use Rattle.hose_paths.specs.steps.Rows.{IsRowOf}
use Rattle.hose_paths.proofs.Firsts.{first_more}
use Rattle.hose_paths.proofs.ahead.RowsAhead.add.Goals as goal

pub invariant_of-self-2 : goal.invariant_of-self-2
invariant_of-self-2 c =
    let ahead = c.self.inside in
    let rows = ahead.rows.items in
    let made : c.len-made.result ≡ length rows = search rules in
    let nodes : c.nodes-nodes.result ≡ length ahead.top.nodes = search rules in
    let more : length rows < length ahead.top.nodes = omega (arith, made, nodes, c.if-made-nodes.false) in
    let next = subst (λ (n : ℕ). IsRowOf ahead.top ahead.links n c.in_ok-row.row) made (record { is_row = c.in_ok-row.ensures.row; bounded = c.in_ok-row.ensures.bounded }) in
    (c.self.invariant.0, rw c.in_ok-push.ensures.items (first_more ahead.top ahead.links rows c.in_ok-row.row c.self.invariant.1 more next))
