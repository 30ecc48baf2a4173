-- Nodes and links of a network that stay in another one.
use Rattle.std.proofs.Common.{◌≡◌, ◌∙◌, ℕ, ◌<◌, ◌≤◌, List, length, Some, None, sym, arith, subst, ⊎_elim, ◌+◌}
use Rattle.std.proofs.lemmas.Bool.{cases_lt}
use Rattle.std.specs.List.{slice_get}
use Rattle.std.proofs.lemmas.Option.{slice_get_past}
use Rattle.hose_graph.specs.Network.{Network}
use Rattle.hose_graph.specs.declared.topology.Link.{Link}
use Rattle.hose_move.specs.Changing.{JoinSame, HaveSameLink, HaveSameNode}

some_of : {X : Type 0} (x y : X) → Some x ≡ Some y → x ≡ y
some_of x y same = cc same

none_some : {X : Type 0} (x : X) → None ≡ Some x → ⊥
none_some x same = absurd (cc same)

pub same_node : (old new : Network) (node : ℕ) (was is : List ℕ) → slice_get old.nodes node ≡ Some was → slice_get new.nodes node ≡ Some is → HaveSameNode old new node → was ≡ is
same_node old new node was is at_old at_new same = some_of was is (sym at_old ∙ sym same ∙ at_new)

-- a link that is there no more does not stay
pub no_link : (old new : Network) (link : ℕ) → length new.links ≤ link → ¬ HaveSameLink old new link
no_link old new link past stays = none_some stays.1 (sym (slice_get_past new.links link past) ∙ stays.3)

pub same_links : (old new : Network) (link : ℕ) (was is : Link) → slice_get old.links link ≡ Some was → slice_get new.links link ≡ Some is → HaveSameLink old new link → JoinSame was is
same_links old new link was is at_old at_new stays =
    let first : stays.0 ≡ was = some_of stays.0 was (sym stays.2 ∙ at_old) in
    let second : stays.1 ≡ is = some_of stays.1 is (sym stays.3 ∙ at_new) in
    rw (sym first, sym second) stays.4

-- what holds below a number and of it holds below the next one
pub below_more : (P : ℕ → Type 0) (k : ℕ) → ((j : ℕ) → j < k → P j) → P k → (j : ℕ) → j < k + 1 → P j
below_more P k below here j less =
    ⊎_elim (λ low. below j low)
    (λ high. let same : k ≡ j = omega (arith, high, less) in subst P same here)
    (cases_lt j k)
