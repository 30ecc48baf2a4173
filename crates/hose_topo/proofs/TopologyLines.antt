-- Lines of a topology's text, one after the other, and the one topology that they tell.
use Rattle.std.proofs.Common.{◌≡◌, ◌≢◌, ◌∙◌, ℕ, ◌+◌, List, [], ◌∷◌, ◌++◌, codes, get_or, refl, sym, ap, subst, inl, inr, arith}
use Rattle.std.specs.List.{AllPairs, after_first}
use Rattle.std.proofs.lemmas.List.{get_or_default}
use Rattle.std.proofs.lemmas.List.Quantifiers.{all_pairs_push}
use Rattle.hose_words.specs.Lines.{is_line_feed}
use Rattle.hose_graph.specs.Network.{Network}
use Rattle.hose_topo.specs.steps.TopologyText.{AddsByKind, IsLastLine}
use Rattle.hose_topo.specs.TopologyText.{IsPassedOver, AddsLine, EndsText, HasLine, AddLines, no_more, one_more, no_network, IsTopologyText}
use Rattle.hose_topo.proofs.LinesTold.{adds_back, end_back}
use Rattle.hose_topo.proofs.LinkLine.{link_first, same_link}

-- no two nodes have one name
abbrev pub HasDistinctNames : Network → Type 0
HasDistinctNames network = AllPairs ◌≢◌ network.nodes

-- ---- one line

-- a line that is passed over has no word of its own at its front
pub passes_no_node : (words rest : List (List ℕ)) → words ≡ codes "node" ∷ rest → IsPassedOver words → ⊥
passes_no_node words rest line passed = let there = subst IsPassedOver line passed in absurd (cc)

pub passes_no_link : (words rest : List (List ℕ)) → words ≡ codes "link" ∷ rest → IsPassedOver words → ⊥
passes_no_link words rest line passed = let there = subst IsPassedOver line passed in absurd (cc)

pub passes_no_end : (words rest : List (List ℕ)) → words ≡ codes "end" ∷ rest → IsPassedOver words → ⊥
passes_no_end words rest line passed = let there = subst IsPassedOver line passed in absurd (cc)

-- neither is a node line a link line
node_no_link : (words rest others : List (List ℕ)) → words ≡ codes "node" ∷ rest → words ≡ codes "link" ∷ others → ⊥
node_no_link words rest others node link = omega (arith, ap (λ (w : List (List ℕ)). get_or (get_or w 0 []) 0 0) (sym node ∙ link))

-- a line adds one thing at most
kind_same : (network : Network) (words : List (List ℕ)) (one two : Network) → HasDistinctNames network → AddsByKind network words one → AddsByKind network words two → one ≡ two
kind_same network words one two differ (inl first) (inl second) = first.1 ∙ sym second.1
kind_same network words one two differ (inl first) (inr (inl second)) = absurd (passes_no_node words (second.name ∷ []) second.line first.0)
kind_same network words one two differ (inl first) (inr (inr second)) = let line = link_first network words second.link second.tells in absurd (passes_no_link words line.0 line.1 first.0)
kind_same network words one two differ (inr (inl first)) (inl second) = absurd (passes_no_node words (first.name ∷ []) first.line second.0)
kind_same network words one two differ (inr (inr first)) (inl second) = let line = link_first network words first.link first.tells in absurd (passes_no_link words line.0 line.1 second.0)
kind_same network words one two differ (inr (inl first)) (inr (inl second)) =
    let line = sym first.line ∙ second.line in
    let name : first.name ≡ second.name = cc in
    first.added ∙ ap (λ n. record network { nodes = network.nodes ++ n ∷ [] }) name ∙ sym second.added
kind_same network words one two differ (inr (inl first)) (inr (inr second)) = let link = link_first network words second.link second.tells in absurd (node_no_link words (first.name ∷ []) link.0 first.line link.1)
kind_same network words one two differ (inr (inr first)) (inr (inl second)) = let link = link_first network words first.link first.tells in absurd (node_no_link words (second.name ∷ []) link.0 second.line link.1)
kind_same network words one two differ (inr (inr first)) (inr (inr second)) =
    let link = same_link network differ first.link second.link first.is_link second.is_link words first.tells second.tells in
    first.added ∙ ap (λ l. record network { links = network.links ++ l ∷ [] }) link ∙ sym second.added

pub adds_same : (network : Network) (words : List (List ℕ)) (one two : Network) → HasDistinctNames network → AddsLine network words one → AddsLine network words two → one ≡ two
adds_same network words one two differ first second = kind_same network words one two differ (adds_back network words one first) (adds_back network words two second)

link_no_end : (words rest : List (List ℕ)) → words ≡ codes "link" ∷ rest → words ≡ codes "end" ∷ [] → ⊥
link_no_end words rest link end = omega (arith, ap (λ (w : List (List ℕ)). get_or (get_or w 0 []) 0 0) (sym link ∙ end))

-- a line that adds, or is passed over, does not end the text
kind_no_end : (network : Network) (words : List (List ℕ)) (next : Network) → AddsByKind network words next → IsLastLine network words → ⊥
kind_no_end network words next (inl passed) end = passes_no_end words [] end.0 passed.0
kind_no_end network words next (inr (inl adds)) end = let line = sym adds.line ∙ end.0 in cc
kind_no_end network words next (inr (inr adds)) end = let link = link_first network words adds.link adds.tells in link_no_end words link.0 link.1 end.0

-- names stay distinct
kind_distinct : (network : Network) (words : List (List ℕ)) (next : Network) → HasDistinctNames network → AddsByKind network words next → HasDistinctNames next
kind_distinct network words next differ (inl passed) = rw passed.1 differ
kind_distinct network words next differ (inr (inl adds)) =
    rw adds.added (all_pairs_push ◌≢◌ network.nodes adds.name differ (λ k d below same. adds.is_new (k, below, get_or_default network.nodes k adds.name d below ∙ same)))
kind_distinct network words next differ (inr (inr adds)) = rw adds.added differ

pub adds_no_end : (network : Network) (words : List (List ℕ)) (next : Network) → AddsLine network words next → EndsText network words → ⊥
adds_no_end network words next adds end = kind_no_end network words next (adds_back network words next adds) (end_back network words end)

pub distinct_more : (network : Network) (words : List (List ℕ)) (next : Network) → HasDistinctNames network → AddsLine network words next → HasDistinctNames next
distinct_more network words next differ adds = kind_distinct network words next differ (adds_back network words next adds)

-- a text has one first line at most
pub line_same : (text : List ℕ) (one two : List (List ℕ)) → HasLine text one → HasLine text two → one ≡ two
line_same text one two first second = first.is_split ∙ sym second.is_split

-- ---- lines

-- one line more, at the end
pub AddLines-push : {first last : Network} {text here : List ℕ} {count : ℕ} (words : List (List ℕ)) (next : Network) → AddLines first text count last here → HasLine here words → AddsLine last words next → AddLines first text (count + 1) next (after_first is_line_feed here)
AddLines-push words next no_more line adds = one_more words line adds no_more
AddLines-push words next (one_more before has first more) line adds = one_more before has first (AddLines-push words next more line adds)

-- lines that lead to an end go on from wherever lines of the same text lead
pub goes_on : {first now last : Network} {text here rest : List ℕ} {count whole : ℕ} (words : List (List ℕ)) → HasDistinctNames first → AddLines first text count now here → AddLines first text whole last rest → HasLine rest words → EndsText last words → (left : ℕ) × AddLines now here left last rest
goes_on {whole = whole} words differ no_more lines line end = (whole, lines)
goes_on {first = first} {text = text} words differ (one_more {next = next} mine has adds more) no_more line end =
    absurd (adds_no_end first words next (subst (λ w. AddsLine first w next) (line_same text mine words has line) adds) end)
goes_on {first = first} {last = last} {text = text} {rest = rest} words differ (one_more {next = next} mine has adds more) (one_more {next = other} {count = more_count} theirs has' adds' more') line end =
    let adds_mine = subst (λ w. AddsLine first w other) (line_same text theirs mine has' has) adds' in
    let same = adds_same first mine other next differ adds_mine adds in
    goes_on words (distinct_more first mine next differ adds) more (subst (λ network. AddLines network (after_first is_line_feed text) more_count last rest) same more') line end

-- no name stands twice before the first line
pub no_names : HasDistinctNames no_network
no_names i j d order below = absurd (omega arith)

-- no text of a topology goes on with a line that neither adds nor ends
pub no_topology : (text here : List ℕ) (count : ℕ) (now : Network) → AddLines no_network text count now here → ((words : List (List ℕ)) → HasLine here words → (EndsText now words → ⊥) × ((next : Network) → AddsLine now words next → ⊥))
    → (network : Network) (rest : List ℕ) → IsTopologyText text network rest → ⊥
no_topology text here count now lines refused network rest is =
    let on = goes_on is.words no_names lines is.lines is.line is.is_end in
    stuck is.words on.1 is.line is.is_end refused
  where
    stuck : {now last : Network} {here rest : List ℕ} {left : ℕ} (words : List (List ℕ)) → AddLines now here left last rest → HasLine rest words → EndsText last words
        → ((words : List (List ℕ)) → HasLine here words → (EndsText now words → ⊥) × ((next : Network) → AddsLine now words next → ⊥)) → ⊥
    stuck words no_more line end refused = (refused words line).0 end
    stuck words (one_more {next = next} mine has adds more) line end refused = (refused mine has).1 next adds

-- no line is added where the text ends
ends_there : {now last : Network} {here rest : List ℕ} {left : ℕ} (words : List (List ℕ)) → AddLines now here left last rest → HasLine here words → EndsText now words → (now ≡ last) × (here ≡ rest)
ends_there words no_more line end = (refl, refl)
ends_there {now = now} {here = here} words (one_more {next = next} mine has adds more) line end =
    absurd (adds_no_end now mine next adds (subst (EndsText now) (line_same here words mine line has) end))

-- a text is that of one topology, and leaves one rest
pub topology_unique : (text : List ℕ) (one other : Network) (rest here : List ℕ) → IsTopologyText text one rest → IsTopologyText text other here → (one ≡ other) × (rest ≡ here)
topology_unique text one other rest here first second =
    let on = goes_on second.words no_names first.lines second.lines second.line second.is_end in
    let same = ends_there first.words on.1 first.line first.is_end in
    (same.0, first.left ∙ ap (after_first is_line_feed) same.1 ∙ sym second.left)
