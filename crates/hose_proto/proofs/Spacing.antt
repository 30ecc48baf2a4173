-- Texts of words with a space before each, added one after the other.
use Rattle.std.proofs.Common.{◌≡◌, ℕ, List, ◌∷◌, ◌++◌, [], Option, None, Some, map, refl, append_assoc, append-nil}
use Rattle.std.specs.List.{flat_map}
use Rattle.std.proofs.lemmas.Grind.{flat_map-append}
use Rattle.std.proofs.lemmas.List.Folds.{flat_map-map}
use Rattle.hose_io.specs.steps.Gather.{Gathered, IsAdded}
use Rattle.hose_io.specs.declared.sink.Sink.{Ghosts}
use Rattle.hose_io.proofs.Gathering.{IsAdded-next}
use Rattle.hose_graph.specs.Network.{Network}
use Rattle.hose_graph.specs.declared.topology.Link.{Link}
use Rattle.hose_proto.specs.ReplyWords.{words_of_link}
use Rattle.hose_proto.specs.ReplyText.{link_text, spaced}

spaced-link : (network : Network) (link : Option Link) → spaced (words_of_link network link) ≡ link_text network link
spaced-link network None = refl
spaced-link network (Some link) = rw (append_assoc, append_assoc, append_assoc, append_assoc, append-nil) refl

module _ {S : Type 0} {sink : Ghosts S} {g0 g1 : Gathered} {s0 s1 : S} where
  -- the last word of a line
  pub added_last : (front word : List ℕ) → IsAdded sink g0 s0 g1 s1 (front ++ word) → IsAdded sink g0 s0 g1 s1 (front ++ (word ++ []))
  added_last front word added = rw (append-nil word) added

  -- items
  pub added_list : {X : Type 0} (word_of : X → List ℕ) (items : List X) → IsAdded sink g0 s0 g1 s1 (flat_map (λ item. 32 ∷ word_of item) items) → IsAdded sink g0 s0 g1 s1 (spaced (map word_of items))
  added_list word_of items added = rw (flat_map-map (λ (word : List ℕ). 32 ∷ word) word_of items) added

  -- what a network tells of a link
  pub added_link : (network : Network) (link : Option Link) → IsAdded sink g0 s0 g1 s1 (link_text network link) → IsAdded sink g0 s0 g1 s1 (spaced (words_of_link network link))
  added_link network link added = rw (spaced-link network link) added

module _ {S : Type 0} {sink : Ghosts S} {g0 g1 g2 : Gathered} {s0 s1 s2 : S} where
  -- a text after a word
  pub added_after : (front word more : List ℕ) → IsAdded sink g0 s0 g1 s1 (front ++ word) → IsAdded sink g1 s1 g2 s2 more → IsAdded sink g0 s0 g2 s2 (front ++ (word ++ more))
  added_after front word more added then = rw (← append_assoc front word more) (IsAdded-next added then)

  -- words after words
  pub added_words : (words more : List (List ℕ)) → IsAdded sink g0 s0 g1 s1 (spaced words) → IsAdded sink g1 s1 g2 s2 (spaced more) → IsAdded sink g0 s0 g2 s2 (spaced (words ++ more))
  added_words words more added then = rw (flat_map-append (λ (word : List ℕ). 32 ∷ word) words more) (IsAdded-next added then)
