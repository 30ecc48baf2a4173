-- Fields of lines: what they tell is found again from their words, none of these is wrong, and each is one word.
use Rattle.std.proofs.Common.{◌≡◌, ◌∙◌, ℕ, ◌<◌, Bool, true, false, cond, suc, zero, List, [], ◌∷◌, ◌++◌, Option, None, Some, IfSome, length, get_or, map, drop, codes, decimal, refl, sym, ap, subst, arith}
use Rattle.std.specs.List.{All, slice_get}
use Rattle.std.specs.Str.{bytes_eq}
use Rattle.std.proofs.lemmas.Bool.{false≢true}
use Rattle.std.proofs.lemmas.Option.{slice_get-get_or}
use Rattle.std.proofs.lemmas.Slice.Eq.{bytes_eq-Decides}
use Rattle.hose_words.specs.Numbers.{Fits64}
use Rattle.hose_words.proofs.Passing.{Passes, pass_branch, pass_finish, pass_list, pass_place, pass_these, pass_until}
use Rattle.hose_words.proofs.Until.{HasNoLast}
use Rattle.hose_words.proofs.Spaced.{AreWords, AreWords-map, AreWords-append, IsWord, IsWord-allowed, IsWord-known, IsWord-decimal, IsWord-colon, is_plain}
use Rattle.hose_graph.specs.Name.{is_name_byte}
use Rattle.hose_graph.specs.Network.{Network, IsNetwork, IsLink, name_of}
use Rattle.hose_graph.specs.declared.limits.TheConstants.{LEAST_ENDS}
use Rattle.hose_graph.specs.declared.topology.Link.{Link}
use Rattle.hose_proto.specs.EndWords.{named_rate}
use Rattle.hose_replies.specs.steps.Fields.{Fields, no_more, a_word, a_number, a_link, a_link_told, a_missing, a_service, the_amounts, the_nodes, the_ends, the_numbers, Values, words_told, missing_word, AreSound, AreAmounts, AreEnds, AreNumbers, IsAmountOf, IsSide, form_of}
use Rattle.hose_proto.specs.ReplyWords.{pair_word, words_of_link}
use Rattle.hose_proto.specs.steps.Places.{IsEndOf}
use Rattle.hose_proto.specs.Places.{IsHoseOf, end_word}
use Rattle.hose_replies.specs.declared.head.Missing.{Missing}
use Rattle.hose_replies.specs.declared.head.Missing.TheVariants as missing
use Rattle.hose_replies.specs.declared.head.Service.TheVariants as service
use Rattle.hose_proto.proofs.Back.{end_spelled, ends_back, front_is, front_of, map_back, node_back, node_named, number_back, number_spelled, rest_is, rest_of, unequal}
use Rattle.hose_replies.proofs.Items.{pair_back, pair_spelled, ascending_closed, ends_closed}
use Rattle.hose_proto.proofs.Colons.{named_cut}
use Rattle.hose_replies.proofs.ListsUntil.{ends_no_links, numbers_no_at}
use Rattle.hose_replies.proofs.Rising.{firsts_front, rising_front}
use Rattle.hose_proto.proofs.Words.{links_apart}
use Rattle.hose_replies.proofs.Words.{missing_apart, missing_of, missing_of-word, services_apart}

no_link : Link
no_link = record { a = 0; b = 0; capacity = 0; length = 0; cost = 0 }

-- a word ends a list
abbrev is_last : List ℕ → List ℕ → Bool
is_last last word = bytes_eq word last

-- what the words of fields tell
abbrev pub values_in : Network → (fields : Fields) → List (List ℕ) → Values fields
values_in network no_more words = tt
values_in network (a_word known fields) words = values_in network fields (drop 1 words)
values_in network (a_number fields) words = (number_spelled (get_or words 0 []), values_in network fields (drop 1 words))
values_in network (a_link fields) words = (number_spelled (get_or words 0 []), values_in network fields (drop 1 words))
values_in network (a_link_told fields) words = (number_spelled (get_or words 0 []), values_in network fields (drop 7 words))
values_in network (a_missing fields) words = (missing_of (get_or words 0 []), values_in network fields (drop 1 words))
values_in network (a_service fields) words =
    cond (bytes_eq (get_or words 0 []) (codes "out")) (true, values_in network fields (drop 2 words)) (false, values_in network fields (drop 1 words))
values_in network the_amounts words = map pair_spelled words
values_in network the_nodes words = map (node_named network) words
values_in network (the_ends fields) words = (map (end_spelled network) (front_of (is_last (codes "links")) words), values_in network fields (rest_of (is_last (codes "links")) words))
values_in network (the_numbers fields) words = (map number_spelled (front_of (is_last (codes "at")) words), values_in network fields (rest_of (is_last (codes "at")) words))

-- the words that stand so in a line are words
abbrev pub are_known : Fields → Bool
are_known no_more = true
are_known (a_word [] fields) = false
are_known (a_word (byte ∷ bytes) fields) = cond (is_plain (byte ∷ bytes)) (are_known fields) false
are_known (a_number fields) = are_known fields
are_known (a_link fields) = are_known fields
are_known (a_link_told fields) = are_known fields
are_known (a_missing fields) = are_known fields
are_known (a_service fields) = are_known fields
are_known the_amounts = true
are_known the_nodes = true
are_known (the_ends fields) = are_known fields
are_known (the_numbers fields) = are_known fields

both : (one other : Bool) → cond one other false ≡ true → (one ≡ true) × (other ≡ true)
both true other is = (refl, is)
both false other is = absurd (false≢true is)

-- items of which none ends their list are found again before the word that ends it, and the words after it
until_found : {A : Type 0} (back : List ℕ → A) (last : List ℕ) (front : List (List ℕ)) (items : List A) (words : List (List ℕ)) → HasNoLast last front → map back front ≡ items
    → (map back (front_of (is_last last) (front ++ last ∷ words)) ≡ items) × (rest_of (is_last last) (front ++ last ∷ words) ≡ words)
until_found back last front items words free found =
    let none : All (λ word. is_last last word ≡ false) front = λ k d below. unequal (get_or front k d) last (free k d below) in
    let is : is_last last last ≡ true = (bytes_eq-Decides last last).1 refl in
    (ap (map back) (front_is (is_last last) front last words none is) ∙ found, rest_is (is_last last) front last words none is)

-- a text and a number with a colon between them are one word
IsWord-named : (front : List ℕ) (n : ℕ) → IsWord front → Fits64 n → IsWord (named_rate front n)
IsWord-named front n is small = subst IsWord (sym (named_cut front n)) (IsWord-colon front (decimal n) is (IsWord-decimal n small))

-- what holds of all holds at each place
IfSome-place : {X : Type 0} (P : X → Type 0) (xs : List X) (i : ℕ) → All P xs → IfSome (slice_get xs i) P
IfSome-place P [] i all = tt
IfSome-place P (x ∷ xs) zero all = all 0 x (omega arith)
IfSome-place P (x ∷ xs) (suc i) all = IfSome-place P xs i (λ k d below. all (suc k) d (omega arith))

module _ (network : Network) (is : IsNetwork network) where
  -- the number of a link
  few : {link : ℕ} → link < length network.links → Fits64 link
  few below = omega (arith, is.few_links)

  -- ---- found again

  amounts_back : (amounts : List (ℕ × ℕ)) → AreAmounts network amounts → map pair_spelled (map pair_word amounts) ≡ amounts
  amounts_back amounts are = map_back pair_word pair_spelled amounts (λ k d below. let fits = are.each k d below in pair_back (get_or amounts k d) (few fits.link) fits.fits)

  hose_each : (hose : List (ℕ × ℕ)) → IsHoseOf network hose → All (IsEndOf network) hose
  hose_each hose are = λ k d below. record { is_end = are.is_hose.within k d below; is_node = are.nodes k d below }

  hose_back : (hose : List (ℕ × ℕ)) → IsHoseOf network hose → map (end_spelled network) (map (end_word network) hose) ≡ hose
  hose_back hose are = ends_back network is hose (hose_each hose are)

  numbers_back : (numbers : List ℕ) → AreNumbers numbers → map number_spelled (map decimal numbers) ≡ numbers
  numbers_back numbers are = map_back decimal number_spelled numbers (λ k d below. number_back (get_or numbers k d) (are.each k d below))

  -- what fields tell is found again from their words
  pub values_back : (fields : Fields) (values : Values fields) → AreSound network fields values → values_in network fields (words_told network fields values) ≡ values
  values_back no_more values sound = refl
  values_back (a_word known fields) values sound = values_back fields values sound
  values_back (a_number fields) (value, values) (small, sound) = λ i. (number_back value small i, values_back fields values sound i)
  values_back (a_link fields) (link, values) (there, sound) = λ i. (number_back link (few there) i, values_back fields values sound i)
  values_back (a_link_told fields) (link, values) (there, sound) =
      rw (slice_get-get_or network.links link no_link there) (λ i. (number_back link (few there) i, values_back fields values sound i))
  values_back (a_missing fields) (kind, values) sound = λ i. (missing_of-word kind i, values_back fields values sound i)
  values_back (a_service fields) (true, values) sound = λ i. (true, values_back fields values sound i)
  values_back (a_service fields) (false, values) sound = λ i. (false, values_back fields values sound i)
  values_back the_amounts amounts (some, are) = amounts_back amounts are
  values_back the_nodes side (some, are) = map_back (name_of network) (node_named network) side (λ k d below. node_back network (get_or side k d) is (are.each k d below))
  values_back (the_ends fields) (hose, values) (are, sound) =
      let found = until_found (end_spelled network) (codes "links") (map (end_word network) hose) hose (words_told network fields values) (ends_no_links network hose) (hose_back hose are) in
      let rest = ap (values_in network fields) found.1 ∙ values_back fields values sound in
      λ i. (found.0 i, rest i)
  values_back (the_numbers fields) (numbers, values) (are, sound) =
      let found = until_found number_spelled (codes "at") (map decimal numbers) numbers (words_told network fields values) (numbers_no_at numbers are.each) (numbers_back numbers are) in
      let rest = ap (values_in network fields) found.1 ∙ values_back fields values sound in
      λ i. (found.0 i, rest i)

  -- ---- not wrong

  -- the words of fields pass their grammar
  pub values_pass : (fields : Fields) (values : Values fields) → AreSound network fields values → Passes (form_of network fields) (words_told network fields values)
  values_pass no_more values sound = pass_finish
  values_pass (a_word known fields) values sound = pass_place refl (values_pass fields values sound)
  values_pass (a_number fields) (value, values) (small, sound) = pass_place (value, refl, small) (values_pass fields values sound)
  values_pass (a_link fields) (link, values) (there, sound) = pass_branch link there (links_apart network is) (values_pass fields values sound)
  values_pass (a_link_told fields) (link, values) (there, sound) =
      pass_branch link there (links_apart network is)
      (pass_these (words_of_link network (slice_get network.links link)) (form_of network fields) (words_told network fields values) (values_pass fields values sound))
  values_pass (a_missing fields) (kind, values) sound = pass_branch kind tt missing_apart (values_pass fields values sound)
  values_pass (a_service fields) (true, values) sound = pass_branch service.Out tt services_apart (pass_place refl (values_pass fields values sound))
  values_pass (a_service fields) (false, values) sound = pass_branch service.At tt services_apart (values_pass fields values sound)
  values_pass the_amounts amounts (some, are) = pass_list {fine = AreAmounts network} (ascending_closed firsts_front) some are
  values_pass the_nodes side (some, are) = pass_list {fine = IsSide network} (ascending_closed rising_front) some are
  values_pass (the_ends fields) (hose, values) (are, sound) =
      pass_until (end_word network) (AreEnds network) LEAST_ENDS (codes "links") (form_of network fields) (words_told network fields values) (ends_closed network) (values_pass fields values sound)
      hose (ends_no_links network hose) are.is_hose.counted.enough (record { few = are.is_hose.counted.few; in_order = record { ascending = are.is_hose.ascending; each = hose_each hose are } })
  values_pass (the_numbers fields) (numbers, values) (are, sound) =
      pass_until decimal AreNumbers 0 (codes "at") (form_of network fields) (words_told network fields values) (ascending_closed rising_front) (values_pass fields values sound) numbers (numbers_no_at numbers are.each) (omega arith) are

  -- ---- words

  IsWord-node : (node : ℕ) → node < length network.nodes → IsWord (name_of network node)
  IsWord-node node below =
      let named = is.names node [] below in
      IsWord-allowed is_name_byte (name_of network node) refl refl named.allowed (omega (arith, named.some))

  IsWord-pair : (pair : ℕ × ℕ) → IsAmountOf network pair → IsWord (pair_word pair)
  IsWord-pair pair fits = IsWord-named (decimal pair.0) pair.1 (IsWord-decimal pair.0 (few fits.link)) fits.fits

  IsWord-end : (end : ℕ × ℕ) → IsEndOf network end → IsWord (end_word network end)
  IsWord-end end fits = IsWord-named (name_of network end.0) end.1 (IsWord-node end.0 fits.is_node) (omega (arith, fits.is_end.rate))

  IsWord-missing : (kind : Missing) → IsWord (missing_word kind)
  IsWord-missing missing.Vpn = IsWord-known (codes "vpn") refl (omega arith)
  IsWord-missing missing.Quote = IsWord-known (codes "quote") refl (omega arith)

  AreWords-link : (link : Option Link) → IfSome link (IsLink network) → AreWords (words_of_link network link)
  AreWords-link None is_link = tt
  AreWords-link (Some link) is_link =
      let within = is_link.in_range in
      (IsWord-node link.a within.a, (IsWord-node link.b within.b, (IsWord-known (codes "capacity") refl (omega arith), (IsWord-decimal link.capacity (omega (arith, within.capacity)), (IsWord-known (codes "cost") refl (omega arith), (IsWord-decimal link.cost (omega (arith, within.cost)), tt))))))

  -- each of the words of fields is one word
  pub values_words : (fields : Fields) (values : Values fields) → are_known fields ≡ true → AreSound network fields values → AreWords (words_told network fields values)
  values_words no_more values known sound = tt
  values_words (a_word [] fields) values known sound = absurd (false≢true known)
  values_words (a_word (byte ∷ bytes) fields) values known sound =
      let each = both (is_plain (byte ∷ bytes)) (are_known fields) known in
      (IsWord-known (byte ∷ bytes) each.0 (omega arith), values_words fields values each.1 sound)
  values_words (a_number fields) (value, values) known (small, sound) = (IsWord-decimal value small, values_words fields values known sound)
  values_words (a_link fields) (link, values) known (there, sound) = (IsWord-decimal link (few there), values_words fields values known sound)
  values_words (a_link_told fields) (link, values) known (there, sound) =
      (IsWord-decimal link (few there), AreWords-append (words_of_link network (slice_get network.links link)) (words_told network fields values) (AreWords-link (slice_get network.links link) (IfSome-place (IsLink network) network.links link is.links)) (values_words fields values known sound))
  values_words (a_missing fields) (kind, values) known sound = (IsWord-missing kind, values_words fields values known sound)
  values_words (a_service fields) (true, values) known sound =
      (IsWord-known (codes "out") refl (omega arith), (IsWord-known (codes "at") refl (omega arith), values_words fields values known sound))
  values_words (a_service fields) (false, values) known sound = (IsWord-known (codes "at") refl (omega arith), values_words fields values known sound)
  values_words the_amounts amounts known (some, are) = AreWords-map pair_word amounts IsWord-pair are.each
  values_words the_nodes side known (some, are) = AreWords-map (name_of network) side IsWord-node are.each
  values_words (the_ends fields) (hose, values) known (are, sound) =
      AreWords-append (map (end_word network) hose) (codes "links" ∷ words_told network fields values)
      (AreWords-map (end_word network) hose IsWord-end (hose_each hose are))
      (IsWord-known (codes "links") refl (omega arith), values_words fields values known sound)
  values_words (the_numbers fields) (numbers, values) known (are, sound) =
      AreWords-append (map decimal numbers) (codes "at" ∷ words_told network fields values) (AreWords-map decimal numbers IsWord-decimal are.each)
      (IsWord-known (codes "at") refl (omega arith), values_words fields values known sound)
