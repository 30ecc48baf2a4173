-- The canonical text of a topology is the text of that topology.
use Rattle.std.proofs.Common.{◌≡◌, ◌∙◌, ℕ, ◌+◌, ◌<◌, ◌≤◌, List, [], ◌∷◌, ◌++◌, length, get_or, codes, decimal, refl, sym, ap, subst, inl, inr, arith, append_assoc, append-nil}
use Rattle.std.specs.List.{flat_map}
use Rattle.std.proofs.lemmas.Fmt.{length-decimal-le}
use Rattle.std.proofs.lemmas.List.{length-append, get_or_append_left, get_or_at}
use Rattle.hose_words.proofs.Spaced.{AreWords, IsWord, IsWord-allowed, IsWord-decimal, IsWord-known, line_no_feed, spaced}
use Rattle.hose_words.specs.declared.lines.TheConstants.{LINE_LIMIT}
use Rattle.hose_graph.specs.Name.{IsName, is_name_byte}
use Rattle.hose_graph.specs.Network.{Network, IsNetwork, IsLink, name_of}
use Rattle.hose_graph.specs.declared.topology.Link.{Link}
use Rattle.hose_topo.specs.Canonical.{node_line, link_line, canonical_text}
use Rattle.hose_topo.specs.TopologyText.{AddsLine, AddLines, no_more, one_more, no_network, IsTopologyText}
use Rattle.hose_topo.specs.steps.TopologyText.{AddsLink, AddsNode, link_words}
use Rattle.hose_topo.proofs.LinesTold.{adds_told, end_told}
use Rattle.hose_topo.proofs.FirstLineText.{after_feed, spelled_line}

-- some number of lines add to a network, one after the other
abbrev AddsAll : Network → List ℕ → Network → List ℕ → Type 0
AddsAll first text last rest = (count : ℕ) × AddLines first text count last rest

-- a line before others
line_then : (network next last : Network) (line rest left_over : List ℕ) (words : List (List ℕ)) → 32 ∷ line ≡ spaced words → AreWords words → length line ≤ LINE_LIMIT → AddsLine network words next
    → AddsAll next rest last left_over → AddsAll network (line ++ 10 ∷ rest) last left_over
line_then network next last line rest left_over words is are short adds more = (
  more.0 + 1,
  one_more words (spelled_line line rest words is are short) adds
      (subst (λ text. AddLines next text more.0 last left_over) (sym (after_feed line rest (line_no_feed line words is are))) more.1),
)

-- a name is one word
IsWord-name : (name : List ℕ) → IsName name → IsWord name
IsWord-name name is = IsWord-allowed is_name_byte name refl refl is.allowed (omega (arith, is.some))

-- an element of a list stands at its place in the whole
at_place : {X : Type 0} (before : List X) (x : X) (after whole : List X) (d : X) → before ++ x ∷ after ≡ whole → get_or whole (length before) d ≡ x
at_place before x after whole d same = ap (λ l. get_or l (length before) d) (sym same) ∙ get_or_at before x after d (length before) refl

-- there is such a place
place_within : {X : Type 0} (before : List X) (x : X) (after whole : List X) → before ++ x ∷ after ≡ whole → length before < length whole
place_within before x after whole same = omega (arith, length-append before (x ∷ after), ap length same)

-- ---- nodes

-- a node of a network has a name
node_name : (network : Network) (before : List (List ℕ)) (name : List ℕ) (after : List (List ℕ)) → IsNetwork network → before ++ name ∷ after ≡ network.nodes → IsName name
node_name network before name after is whole =
    subst IsName (at_place before name after network.nodes name whole) (is.names (length before) name (place_within before name after network.nodes whole))

-- the line of a node adds that node
adds_node : (network : Network) (before : List (List ℕ)) (name : List ℕ) (after : List (List ℕ)) → IsNetwork network → before ++ name ∷ after ≡ network.nodes
    → AddsNode (record { nodes = before; links = [] }) (codes "node" ∷ name ∷ []) (record { nodes = before ++ name ∷ []; links = [] })
adds_node network before name after is whole =
    let within = place_within before name after network.nodes whole in
    let at = at_place before name after network.nodes name whole in
    record {
      name = name;
      line = refl;
      is_name = node_name network before name after is whole;
      is_new = λ there. is.differ there.0 (length before) name there.1 within
          (ap (λ l. get_or l there.0 name) (sym whole) ∙ get_or_append_left before (name ∷ after) name there.0 there.1 ∙ there.2 ∙ sym at);
      room = omega (arith, is.few_nodes, within);
      added = refl;
    }

node_words : (name : List ℕ) → IsName name → AreWords (codes "node" ∷ name ∷ [])
node_words name is = (IsWord-known (codes "node") refl (omega arith), (IsWord-name name is, tt))

-- the lines of nodes, left_over those of the nodes before them
add_nodes : (network last : Network) (left_over text : List ℕ) (before after : List (List ℕ)) → IsNetwork network → before ++ after ≡ network.nodes
    → AddsAll (record { nodes = network.nodes; links = [] }) text last left_over → AddsAll (record { nodes = before; links = [] }) (flat_map node_line after ++ text) last left_over
add_nodes network last left_over text before [] is whole more =
    let all : before ≡ network.nodes = sym (append-nil before) ∙ whole in
    subst (λ nodes. AddsAll (record { nodes = nodes; links = [] }) text last left_over) (sym all) more
add_nodes network last left_over text before (name ∷ after) is whole more =
    let named = node_name network before name after is whole in
    let rest = add_nodes network last left_over text (before ++ name ∷ []) after is (append_assoc before (name ∷ []) after ∙ whole) more in
    let line : (codes "node" ++ 32 ∷ name) ++ 10 ∷ (flat_map node_line after ++ text) ≡ flat_map node_line (name ∷ after) ++ text = simp append_assoc in
    subst (λ t. AddsAll (record { nodes = before; links = [] }) t last left_over) line
    (line_then _ _ last (codes "node" ++ 32 ∷ name) (flat_map node_line after ++ text) left_over (codes "node" ∷ name ∷ []) (simp append-nil) (node_words name named) (omega (arith, named.short))
    (adds_told _ _ _ (inr (inl (adds_node network before name after is whole)))) rest)

-- ---- links

-- a link's line, without its line feed
abbrev link_body : Network → Link → List ℕ
link_body network link =
    codes "link" ++ 32 ∷ (name_of network link.a ++ 32 ∷ (name_of network link.b
    ++ 32 ∷ (decimal link.capacity ++ 32 ∷ (decimal link.length ++ 32 ∷ decimal link.cost))))

-- its words
abbrev all_words : Network → Link → List (List ℕ)
all_words network link = link_words network link ++ decimal link.cost ∷ []

are_words : (network : Network) (link : Link) → IsNetwork network → IsLink network link → AreWords (all_words network link)
are_words network link is can = (
  IsWord-known (codes "link") refl (omega arith),
  (
    IsWord-name _ (is.names link.a [] can.in_range.a),
    (
      IsWord-name _ (is.names link.b [] can.in_range.b),
      (IsWord-decimal link.capacity (omega (arith, can.in_range.capacity)), (IsWord-decimal link.length (omega (arith, can.in_range.distance)), (IsWord-decimal link.cost (omega (arith, can.in_range.cost)), tt))),
    ),
  ),
)

link_short : (network : Network) (link : Link) → IsNetwork network → IsLink network link → length (link_body network link) ≤ LINE_LIMIT
link_short network link is can =
    let a = is.names link.a [] can.in_range.a in
    let b = is.names link.b [] can.in_range.b in
    let capacity : length (decimal link.capacity) ≤ 10 = length-decimal-le 10 link.capacity (omega arith) (omega (arith, can.in_range.capacity)) (omega (arith, can.in_range.capacity)) in
    let distance : length (decimal link.length) ≤ 10 = length-decimal-le 10 link.length (omega arith) (omega (arith, can.in_range.distance)) (omega (arith, can.in_range.distance)) in
    let cost : length (decimal link.cost) ≤ 10 = length-decimal-le 10 link.cost (omega arith) (omega (arith, can.in_range.cost)) (omega (arith, can.in_range.cost)) in
    simp length-append (omega (arith, a.short, b.short, capacity, distance, cost))

-- a link of a network is one that it can have
link_at : (network : Network) (before : List Link) (link : Link) (after : List Link) → IsNetwork network → before ++ link ∷ after ≡ network.links → IsLink network link
link_at network before link after is whole =
    subst (IsLink network) (at_place before link after network.links link whole) (is.links (length before) link (place_within before link after network.links whole))

-- the line of a link adds that link
adds_link : (network : Network) (before : List Link) (link : Link) (after : List Link) → IsNetwork network → before ++ link ∷ after ≡ network.links
    → AddsLink (record { nodes = network.nodes; links = before }) (all_words network link) (record { nodes = network.nodes; links = before ++ link ∷ [] })
adds_link network before link after is whole =
    let within = place_within before link after network.links whole in
    let can = link_at network before link after is whole in
    record {
      link = link;
      tells = inr refl;
      is_link = record {
        in_range = record { a = can.in_range.a; b = can.in_range.b; capacity = can.in_range.capacity; distance = can.in_range.distance; cost = can.in_range.cost };
        no_loop = can.no_loop;
      };
      room = omega (arith, is.few_links, within);
      added = refl;
    }

-- the lines of links, left_over those of the links before them
add_links : (network : Network) (left_over : List ℕ) (before after : List Link) → IsNetwork network → before ++ after ≡ network.links
    → AddsAll (record { nodes = network.nodes; links = before }) (flat_map (link_line network) after ++ left_over) network left_over
add_links network left_over before [] is whole =
    let all : before ≡ network.links = sym (append-nil before) ∙ whole in
    subst (λ links. AddsAll (record { nodes = network.nodes; links = links }) left_over network left_over) (sym all) (0, no_more)
add_links network left_over before (link ∷ after) is whole =
    let adds = adds_link network before link after is whole in
    let can = link_at network before link after is whole in
    let rest = add_links network left_over (before ++ link ∷ []) after is (append_assoc before (link ∷ []) after ∙ whole) in
    let line : link_body network link ++ 10 ∷ (flat_map (link_line network) after ++ left_over) ≡ flat_map (link_line network) (link ∷ after) ++ left_over = simp append_assoc in
    subst (λ t. AddsAll (record { nodes = network.nodes; links = before }) t network left_over) line
    (line_then _ _ network (link_body network link) (flat_map (link_line network) after ++ left_over) left_over (all_words network link) (simp (append_assoc, append-nil)) (are_words network link is can)
    (link_short network link is can) (adds_told _ _ _ (inr (inr adds))) rest)

-- ---- the whole text

-- the canonical text of a topology, whatever follows it, is the text of that topology, and what follows it is left
pub canonical_reads : (network : Network) (rest : List ℕ) → IsNetwork network → 0 < length network.nodes → IsTopologyText (canonical_text network ++ rest) network rest
canonical_reads network rest is some =
    let left_over : List ℕ = codes "end" ++ 10 ∷ rest in
    let links = add_links network left_over [] network.links is refl in
    let all = add_nodes network network left_over (flat_map (link_line network) network.links ++ left_over) [] network.nodes is refl links in
    let text : flat_map node_line network.nodes ++ (flat_map (link_line network) network.links ++ left_over) ≡ canonical_text network ++ rest = simp append_assoc in
    let end_words : AreWords (codes "end" ∷ []) = (IsWord-known (codes "end") refl (omega arith), tt) in
    record {
      end = left_over;
      count = all.0;
      words = codes "end" ∷ [];
      lines = subst (λ t. AddLines no_network t all.0 network left_over) text all.1;
      line = spelled_line (codes "end") rest (codes "end" ∷ []) refl end_words (omega arith);
      is_end = end_told network _ (refl, some);
      left = sym (after_feed (codes "end") rest (line_no_feed (codes "end") (codes "end" ∷ []) refl end_words));
    }
