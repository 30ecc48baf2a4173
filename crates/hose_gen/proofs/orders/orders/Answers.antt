use Rattle.std.proofs.Common.{rules, ◌≡◌, ◌∙◌, ℕ, suc, ◌+◌, List, [], ◌∷◌, ◌++◌, append-nil, sym, ap, arith}
use Rattle.std.specs.List.{flat_map}
use Rattle.std.proofs.lemmas.Grind.{flat_map-append}
use Rattle.hose_gen.specs.Generated.{Order, first_orders, orders_at}
use Rattle.hose_gen.proofs.orders.orders.Goals as goal

-- the orders of one hose more
joined_more : (all : List (List Order)) (one : List Order) → flat_map (λ made. made) (all ++ one ∷ []) ≡ flat_map (λ made. made) all ++ one
joined_more all one = flat_map-append (λ (made : List Order). made) all (one ∷ []) ∙ ap (λ (os : List Order). flat_map (λ made. made) all ++ os) (append-nil one)

pub loop-hose-preserved : goal.loop-hose-preserved
loop-hose-preserved c =
    let nodes = c.args.nodes in
    let start = c.args.draws.now.state in
    let hose = c.loop-hose.hose in
    let was = c.loop-hose.invariant in
    let before = first_orders nodes start hose in
    let one : hose + 1 ≡ suc hose = omega arith in
    rw one (
      c.in_ok-add_orders.ensures.orders ∙ ap (λ (os : List Order). os ++ (orders_at nodes hose c.loop-hose.draws.state).0) was.0
          ∙ ap (λ (x : ℕ). flat_map (λ made. made) before.0 ++ (orders_at nodes hose x).0) was.1
          ∙ sym (joined_more before.0 (orders_at nodes hose before.1).0),
      c.in_ok-add_orders.ensures.state ∙ ap (λ (x : ℕ). (orders_at nodes hose x).1) was.1,
      λ network is. c.in_ok-add_orders.ensures.asks network is (was.2 network is),
    )

pub returns-clause-orders : goal.returns-clause-orders
returns-clause-orders c =
    let all : c.loop-hose.hose ≡ c.args.hoses = search rules in
    c.loop-hose.invariant.0 ∙ ap (λ (n : ℕ). flat_map (λ made. made) (first_orders c.args.nodes c.args.draws.now.state n).0) all
