-- What a line does, by its shape and by its kind.
use Rattle.std.proofs.Common.{◌≡◌, ◌∙◌, ℕ, List, [], ◌∷◌, ◌++◌, Option, None, Some, inl, inr, refl, sym, ap, arith}
use Rattle.std.specs.Option.{unwrap_or}
use Rattle.hose_words.specs.Shapes.{Tells, Values}
use Rattle.hose_graph.specs.Network.{Network}
use Rattle.hose_graph.specs.declared.topology.Link.{Link}
use Rattle.hose_topo.specs.TopologyText.{AddsLine, EndsText, line_shape, with_told}
use Rattle.hose_topo.specs.steps.TopologyText.{AddsByKind, AddsLink, AddsNode, IsLastLine, TellsLink}
use Rattle.hose_topo.specs.declared.line.LineKind.TheVariants as kind

-- the line that ends a text
pub end_told : (network : Network) (words : List (List ℕ)) → IsLastLine network words → EndsText network words
end_told network words end = record { are = end.0; may = (end.1, tt) }

pub end_back : (network : Network) (words : List (List ℕ)) → EndsText network words → IsLastLine network words
end_back network words end = (end.are, end.may.0)

module _ (network : Network) (words : List (List ℕ)) (next : Network) where
  abbrev Told : Type 0
  Told = (told : Values (line_shape network)) × Tells (line_shape network) words told × (with_told network told ≡ Some next)

  node_told : AddsNode network words next → Told
  node_told adds = ((kind.Node, (adds.name, tt)), record { are = adds.line; may = (adds.room, ((adds.is_name, adds.is_new), tt)) }, ap Some (sym adds.added))

  link_told : AddsLink network words next → Told
  link_told adds = by adds.tells
    where
      link : Link
      link = adds.link

      with_cost : (cost : ℕ) → link.cost ≡ cost → record network { links = network.links ++ record { a = link.a; b = link.b; capacity = link.capacity; length = link.length; cost = cost } ∷ [] } ≡ next
      with_cost cost same = ap (λ (c : ℕ). record network { links = network.links ++ record { a = link.a; b = link.b; capacity = link.capacity; length = link.length; cost = c } ∷ [] }) (sym same) ∙ sym adds.added

      by : TellsLink network words adds.link → Told
      by (inl (line, same)) = (
        (kind.Link, (link.a, (link.b, (link.capacity, (link.length, None))))),
        record {
          are = line;
          may = (adds.room, (adds.is_link.in_range.a, ((adds.is_link.in_range.b, λ same. adds.is_link.no_loop (sym same)), (adds.is_link.in_range.capacity, (adds.is_link.in_range.distance, tt)))));
        },
        ap Some (with_cost link.length same),
      )
      by (inr line) = (
        (kind.Link, (link.a, (link.b, (link.capacity, (link.length, Some link.cost))))),
        record {
          are = line;
          may = (adds.room, (adds.is_link.in_range.a, ((adds.is_link.in_range.b, λ same. adds.is_link.no_loop (sym same)), (adds.is_link.in_range.capacity, (adds.is_link.in_range.distance, adds.is_link.in_range.cost)))));
        },
        ap Some (with_cost link.cost refl),
      )

  pub adds_told : AddsByKind network words next → AddsLine network words next
  adds_told (inl passed) = inl passed
  adds_told (inr (inl node)) = inr (node_told node)
  adds_told (inr (inr link)) = inr (link_told link)

  is_next : (one : Network) → Some one ≡ Some next → next ≡ one
  is_next one same = sym (ap (λ (some : Option Network). unwrap_or some one) same)

  back : (told : Values (line_shape network)) → Tells (line_shape network) words told → with_told network told ≡ Some next → AddsByKind network words next
  back (kind.Node, (name, _)) tells same = inr (inl (record {
    name = name;
    line = tells.are;
    is_name = tells.may.1.0.0;
    is_new = tells.may.1.0.1;
    room = tells.may.0;
    added = is_next _ same;
  }))
  back (kind.Link, (a, (b, (capacity, (length, None))))) tells same = inr (inr (record {
    link = record { a = a; b = b; capacity = capacity; length = length; cost = length };
    tells = inl (tells.are, refl);
    is_link = record {
      in_range = record {
        a = tells.may.1.0;
        b = tells.may.1.1.0.0;
        capacity = tells.may.1.1.1.0;
        distance = tells.may.1.1.1.1.0;
        cost = (omega (arith, tells.may.1.1.1.1.0), omega (arith, tells.may.1.1.1.1.0));
      };
      no_loop = λ same. tells.may.1.1.0.1 (sym same);
    };
    room = tells.may.0;
    added = is_next _ same;
  }))
  back (kind.Link, (a, (b, (capacity, (length, Some cost))))) tells same = inr (inr (record {
    link = record { a = a; b = b; capacity = capacity; length = length; cost = cost };
    tells = inr tells.are;
    is_link = record {
      in_range = record {
        a = tells.may.1.0;
        b = tells.may.1.1.0.0;
        capacity = tells.may.1.1.1.0;
        distance = tells.may.1.1.1.1.0;
        cost = tells.may.1.1.1.1.1;
      };
      no_loop = λ same. tells.may.1.1.0.1 (sym same);
    };
    room = tells.may.0;
    added = is_next _ same;
  }))
  back (kind.End, _) tells same = absurd (cc same)

  pub adds_back : AddsLine network words next → AddsByKind network words next
  adds_back (inl passed) = inl passed
  adds_back (inr (told, tells, same)) = back told tells same
