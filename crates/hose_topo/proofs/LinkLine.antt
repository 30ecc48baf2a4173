-- A link line tells one link.
use Rattle.std.proofs.Common.{◌≡◌, ◌≢◌, ◌∙◌, ℕ, List, [], ◌∷◌, ◌++◌, codes, decimal, inl, inr, sym, ap, arith, length}
use Rattle.std.specs.List.{AllPairs}
use Rattle.std.proofs.lemmas.Fmt.{decimal_injective}
use Rattle.hose_graph.specs.Network.{Network, IsLink, name_of}
use Rattle.hose_graph.specs.declared.topology.Link.{Link}
use Rattle.hose_graph.proofs.NodesByName.{same_name}
use Rattle.hose_topo.specs.steps.TopologyText.{TellsLink, link_words}

-- the first word of a link line
pub link_first : (network : Network) (words : List (List ℕ)) (link : Link) → TellsLink network words link → (rest : List (List ℕ)) × (words ≡ codes "link" ∷ rest)
link_first network words link (inl tells) = (name_of network link.a ∷ name_of network link.b ∷ decimal link.capacity ∷ decimal link.length ∷ [], tells.0)
link_first network words link (inr tells) = (name_of network link.a ∷ name_of network link.b ∷ decimal link.capacity ∷ decimal link.length ∷ decimal link.cost ∷ [], tells)

module _ (network : Network) (differ : AllPairs ◌≢◌ network.nodes) (one two : Link) (is : IsLink network one) (is' : IsLink network two) where
  -- what two links tell without their costs is the same
  record AreAlike : Type 0 where
    a : one.a ≡ two.a
    b : one.b ≡ two.b
    capacity : one.capacity ≡ two.capacity
    distance : one.length ≡ two.length

  alike : name_of network one.a ≡ name_of network two.a → name_of network one.b ≡ name_of network two.b → decimal one.capacity ≡ decimal two.capacity → decimal one.length ≡ decimal two.length → AreAlike
  alike a b capacity distance = record {
    a = same_name network one.a two.a differ is.in_range.a is'.in_range.a a;
    b = same_name network one.b two.b differ is.in_range.b is'.in_range.b b;
    capacity = decimal_injective one.capacity two.capacity (omega (arith, is.in_range.capacity)) (omega (arith, is'.in_range.capacity)) capacity;
    distance = decimal_injective one.length two.length (omega (arith, is.in_range.distance)) (omega (arith, is'.in_range.distance)) distance;
  }

  same : AreAlike → one.cost ≡ two.cost → one ≡ two
  same are cost = λ i. record { a = are.a i; b = are.b i; capacity = are.capacity i; length = are.distance i; cost = cost i }

  pub same_link : (words : List (List ℕ)) → TellsLink network words one → TellsLink network words two → one ≡ two
  same_link words (inl (first, cost)) (inl (second, cost')) =
      let line : link_words network one ≡ link_words network two = sym first ∙ second in
      let are = alike (cc line) (cc line) (cc line) (cc line) in
      same are (cost ∙ are.distance ∙ sym cost')
  same_link words (inl (first, cost)) (inr second) = absurd (omega (arith, ap length (sym first ∙ second)))
  same_link words (inr first) (inl (second, cost)) = absurd (omega (arith, ap length (sym first ∙ second)))
  same_link words (inr first) (inr second) =
      let line : link_words network one ++ decimal one.cost ∷ [] ≡ link_words network two ++ decimal two.cost ∷ [] = sym first ∙ second in
      same (alike (cc line) (cc line) (cc line) (cc line))
      (decimal_injective one.cost two.cost (omega (arith, is.in_range.cost)) (omega (arith, is'.in_range.cost)) (cc line))
