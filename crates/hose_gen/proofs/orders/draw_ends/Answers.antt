use Rattle.std.proofs.Common.{rules, ◌≡◌, ◌<◌, ◌∙◌, ℕ, suc, List, [], ◌∷◌, ◌++◌, length, ap, arith}
use Rattle.std.proofs.lemmas.List.{length_push}
use Rattle.std.proofs.lemmas.List.Elements.{All-push}
use Rattle.hose_graph.specs.Hose.{Endpoint, IsEnd, node_of}
use Rattle.hose_gen.specs.Generated.{endpoint_at, first_ends}
use Rattle.hose_gen.proofs.Free.{distinct_more}
use Rattle.hose_gen.proofs.orders.draw_ends.Goals as goal

pub loop-draws-preserved : goal.loop-draws-preserved
loop-draws-preserved c =
    let nodes = c.args.nodes in
    let start = c.args.draws.now.state in
    let before = c.loop-draws.ends.items in
    let k = length before in
    let end = c.draw_end-end.result in
    let was = c.loop-draws.invariant in
    let pushed : c.push.new.self.items ≡ before ++ end ∷ [] = search rules in
    let seen : c.deref.result.now ≡ before = search rules in
    let small : k < c.args.count = search rules in
    let more : length (before ++ end ∷ []) ≡ suc k = omega (arith, length_push before end) in
    let free = c.draw_end-end.ensures.free (rw seen (omega (arith, small, c.requires.counted.1))) in
    let made = first_ends nodes start k in
    let here : end ≡ (endpoint_at nodes made.0 made.1).0 =
    c.draw_end-end.ensures.end ∙ ap (λ (es : List Endpoint). (endpoint_at nodes es c.loop-draws.draws.state).0) (seen ∙ was.0) ∙ ap (λ (x : ℕ). (endpoint_at nodes made.0 x).0) was.1 in
    rw pushed (
      rw more (ap (λ (es : List Endpoint). es ++ end ∷ []) was.0 ∙ ap (λ (e : Endpoint). made.0 ++ e ∷ []) here),
      rw more (c.draw_end-end.ensures.state ∙ ap (λ (es : List Endpoint). (endpoint_at nodes es c.loop-draws.draws.state).1) (seen ∙ was.0) ∙ ap (λ (x : ℕ). (endpoint_at nodes made.0 x).1) was.1),
      omega (arith, small, more),
      distinct_more before end was.3 (rw seen at free),
      All-push IsEnd before end was.4 c.draw_end-end.ensures.fits,
      All-push (λ other. node_of other < nodes) before end was.5 c.draw_end-end.ensures.within,
    )
