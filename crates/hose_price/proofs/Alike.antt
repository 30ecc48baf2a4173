-- Networks of one network by different costs: they have the same walks and trees.
use Rattle.std.proofs.Common.{◌≡◌, ◌⊎◌, ◌∙◌, ℕ, zero, suc, ◌<◌, true, List, [], ◌∷◌, length, map, replicate, sym, ap, subst}
use Rattle.std.specs.List.{AllZip, slice_get}
use Rattle.std.specs.Option.{IsSomeAnd}
use Rattle.std.specs.Prelude.{slice_index}
use Rattle.std.proofs.lemmas.List.Elements.{length_all_zip}
use Rattle.hose_graph.specs.Network.{Network}
use Rattle.hose_graph.specs.declared.topology.Link.{Link}
use Rattle.hose_graph.specs.declared.topology.Step.{Step}
use Rattle.hose_law.specs.Tree.{Grow}
use Rattle.hose_law.specs.Walk.{Joins, all_links, cost_of}
use Rattle.hose_tariff.specs.Fact.{IsPricedBy, IsPricedLink}

-- the link joins the two nodes
abbrev Ends : ℕ → ℕ → Link → Type 0
Ends u v link = ((link.a ≡ u) × (link.b ≡ v)) ⊎ ((link.a ≡ v) × (link.b ≡ u))

module _ (answers : ℕ → ℕ → Type 0) where
  -- a link with another cost has the same ends
  ends_back : (link priced : Link) → IsPricedLink answers link priced → (u v : ℕ) → Ends u v priced → Ends u v link
  ends_back link priced is u v ends = subst (Ends u v) is.same ends

  ends_there : (link priced : Link) → IsPricedLink answers link priced → (u v : ℕ) → Ends u v link → Ends u v priced
  ends_there link priced is u v ends = subst (Ends u v) (sym is.same) ends

  joined_back : (links priced : List Link) → AllZip (IsPricedLink answers) links priced → (l u v : ℕ) → IsSomeAnd (slice_get priced l) (Ends u v) → IsSomeAnd (slice_get links l) (Ends u v)
  joined_back [] [] are l u v joins = absurd joins
  joined_back [] (y ∷ ys) are l u v joins = absurd are
  joined_back (x ∷ xs) [] are l u v joins = absurd are
  joined_back (x ∷ xs) (y ∷ ys) are zero u v joins = ends_back x y are.0 u v joins
  joined_back (x ∷ xs) (y ∷ ys) are (suc l) u v joins = joined_back xs ys are.1 l u v joins

  joined_there : (links priced : List Link) → AllZip (IsPricedLink answers) links priced → (l u v : ℕ) → IsSomeAnd (slice_get links l) (Ends u v) → IsSomeAnd (slice_get priced l) (Ends u v)
  joined_there [] [] are l u v joins = absurd joins
  joined_there [] (y ∷ ys) are l u v joins = absurd are
  joined_there (x ∷ xs) [] are l u v joins = absurd are
  joined_there (x ∷ xs) (y ∷ ys) are zero u v joins = ends_there x y are.0 u v joins
  joined_there (x ∷ xs) (y ∷ ys) are (suc l) u v joins = joined_there xs ys are.1 l u v joins

  -- there are as many links
  pub priced_links : (network priced : Network) → IsPricedBy answers network priced → all_links priced ≡ all_links network
  priced_links network priced is = ap (λ (n : ℕ). replicate n true) (sym (length_all_zip (IsPricedLink answers) network.links priced.links is.links))

-- the one has the nodes of the other, and its links join the same
pub record AreAlike (one other : Network) : Type 0 where
  pub nodes : one.nodes ≡ other.nodes
  pub joins : (l u v : ℕ) → Joins one l u v → Joins other l u v
  pub links : all_links one ≡ all_links other

-- two networks of one network are alike
pub alike : (answers rules : ℕ → ℕ → Type 0) (network one other : Network) → IsPricedBy answers network one → IsPricedBy rules network other → AreAlike one other
alike answers rules network one other is also = record {
  nodes = is.nodes ∙ sym also.nodes;
  joins = λ l u v joins. joined_there rules network.links other.links also.links l u v (joined_back answers network.links one.links is.links l u v joins);
  links = priced_links answers network one is ∙ sym (priced_links rules network other also);
}

-- steps that grow in the one grow in the other
pub grow_alike : (one other : Network) → AreAlike one other → (start : ℕ) (steps : List Step) → Grow one start steps → Grow other start steps
grow_alike one other are start [] grows = subst (λ (nodes : List (List ℕ)). start < length nodes) are.nodes grows
grow_alike one other are start (step ∷ earlier) grows =
    (grow_alike one other are start earlier grows.0, grows.1, grows.2, are.joins step.link step.old step.new grows.3)

-- what holds of the answers of two rules for one length holds of the costs of each link, and of those of a link that is not there
module _ (one two : ℕ → ℕ → Type 0) (Holds : ℕ → ℕ → Type 0) (both : (length c d : ℕ) → one length c → two length d → Holds c d) (none : Holds 0 0) where
  link_costs : (link first second : Link) → IsPricedLink one link first → IsPricedLink two link second → Holds first.cost second.cost
  link_costs link first second is also =
      let here : first.cost ≡ is.cost = ap (λ (l : Link). l.cost) is.same in
      let there : second.cost ≡ also.cost = ap (λ (l : Link). l.cost) also.same in
      rw (here, there) (both link.length is.cost also.cost is.answered also.answered)

  costs_paired : (links first second : List Link) → AllZip (IsPricedLink one) links first → AllZip (IsPricedLink two) links second
      → (l : ℕ) → Holds (slice_index (map (λ (link : Link). link.cost) first) l) (slice_index (map (λ (link : Link). link.cost) second) l)
  costs_paired [] [] [] is also l = none
  costs_paired [] (y ∷ ys) second is also l = absurd is
  costs_paired [] [] (z ∷ zs) is also l = absurd also
  costs_paired (x ∷ xs) [] second is also l = absurd is
  costs_paired (x ∷ xs) (y ∷ ys) [] is also l = absurd also
  costs_paired (x ∷ xs) (y ∷ ys) (z ∷ zs) is also zero = link_costs x y z is.0 also.0
  costs_paired (x ∷ xs) (y ∷ ys) (z ∷ zs) is also (suc l) = costs_paired xs ys zs is.1 also.1 l

  pub costs_both : (network first second : Network) → IsPricedBy one network first → IsPricedBy two network second → (l : ℕ) → Holds (cost_of first l) (cost_of second l)
  costs_both network first second is also l = costs_paired network.links first.links second.links is.links also.links l
