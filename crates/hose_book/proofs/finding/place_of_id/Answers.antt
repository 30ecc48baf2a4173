use Rattle.std.proofs.Common.{rules, ◌≡◌, ◌∙◌, ltb, ap, refl, arith}
use Rattle.std.proofs.lemmas.Fn.{answers_by}
use Rattle.std.proofs.lemmas.List.{get_or_default}
use Rattle.hose_graph.specs.declared.entry.Vpn.{Vpn}
use Rattle.hose_book.proofs.Ids.{below_first, nowhere_else}
use Rattle.hose_book.proofs.finding.place_of_id.Goals as goal
use Rattle.hose_book.proofs.finding.place_of_id.Goals.{then-place-live-via-then-place-live, then-place-live-via-else-place-live+then-live-place}

pub returns-then-place-live-clause-none : goal.returns-then-place-live-clause-none
returns-then-place-live-clause-none c none vpn there same =
    let live = c.args.live.now in
    let id = c.args.id in
    let point = c.partition_point-place.ensures.partitioned (λ (v : Vpn). ltb v.id id) (answers_by _ _ (λ f. f.0.now ≡ id) (λ f a r g called same. (rw (← same) (search rules), search rules)) _ refl) (below_first live id c.requires) in
    let found = nowhere_else live id c.requires c.partition_point-place.result point vpn there same in
    elim c.then-place-live.branch [
      | then-place-live-via-then-place-live w ↦ omega (arith, w.if-place-live.true, found.0)
      | then-place-live-via-else-place-live+then-live-place w ↦ w.if-live-place.true (ap (λ (v : Vpn). v.id) (get_or_default live c.partition_point-place.result w.index-live-place.result vpn found.0) ∙ found.1)
    ]
