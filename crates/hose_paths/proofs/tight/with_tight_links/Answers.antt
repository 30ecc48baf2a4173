-- The distances and the links that are tight by them are the row.
use Rattle.std.proofs.Common.{◌≡◌, ◌∙◌, ℕ, List, Option, length, sym, ap, subst}
use Rattle.std.proofs.lemmas.List.{with_items_is}
use Rattle.hose_paths.specs.steps.Table.{IsLowestTight, entry}
use Rattle.hose_paths.proofs.Made.{row_made}
use Rattle.hose_paths.proofs.tight.with_tight_links.Goals as goal

pub returns-clause-row : goal.returns-clause-row
returns-clause-row c root has =
    let network = c.args.top.now in
    let links = c.args.links.now in
    let row = c.args.row.now in
    let tight = c.mark_tight_links.new.tight in
    let own : c.in_ok-dist.dist.items ≡ row.dist = c.in_ok-dist.ensures.items ∙ c.dist_of-far.ensures in
    let same_len : length tight ≡ length c.in_ok-tight.tight.items = c.mark_tight_links.auto.tight ∙ ap length c.deref_mut.ensures.value in
    let tight_places : length tight ≡ length network.nodes = same_len ∙ sym c.in_ok-tight.tight.ok.0 ∙ c.in_ok-tight.ensures.len ∙ c.nodes.ensures.count in
    let tight_is = with_items_is c.in_ok-tight.tight tight (same_len ∙ sym c.in_ok-tight.tight.ok.0) in
    let lowest : (v : ℕ) → IsLowestTight network links row.dist v (entry tight v) =
    λ v. subst (λ (table : List (Option ℕ)). IsLowestTight network links table v (entry tight v)) c.dist_of-far.ensures (c.mark_tight_links.ensures.lowest v) in
    rw (c.root_of.ensures, own, tight_is) (row_made network c.nodes.ensures.network links root row tight has tight_places lowest)
