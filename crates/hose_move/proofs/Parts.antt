-- Parts of a list of entries, and what stands for them.
use Rattle.std.proofs.Common.{◌≡◌, ◌∙◌, ℕ, suc, ◌+◌, List, [], ◌∷◌, ◌++◌, Option, None, Some, IfSome, length, take, drop, sym, ap, append_assoc, append-nil, take-append-drop, arith}
use Rattle.std.specs.List.{slice_get}
use Rattle.std.proofs.Math.Seq.{take-suc}
use Rattle.std.proofs.lemmas.List.{take_all}
use Rattle.std.proofs.lemmas.Option.{get_or_from_slice_get, slice_get_within}
use mathlib.Core.List.{IsPrefix}
use Rattle.hose_graph.specs.Network.{Network}
use Rattle.hose_graph.specs.declared.entry.Entry.{Entry}
use Rattle.hose_store.specs.Recovery.{IsHistoryOf}
use Rattle.hose_move.specs.Moving.{StandsForPart}

module _ {X : Type 0} where
  pub take_more : (xs : List X) (k : ℕ) (x : X) → slice_get xs k ≡ Some x → take (k + 1) xs ≡ take k xs ++ x ∷ []
  take_more xs k x there =
      let next : k + 1 ≡ suc k = omega arith in
      ap (λ (n : ℕ). take n xs) next ∙ take-suc xs k x (slice_get_within xs k x there) ∙ ap (λ (y : X). take k xs ++ y ∷ []) (get_or_from_slice_get xs k x x there)

  pub take_whole : (xs : List X) → take (length xs) xs ≡ xs
  take_whole xs = take_all (length xs) xs (omega arith)

  pub prefix_take : (k : ℕ) (xs : List X) → IsPrefix (take k xs) xs
  prefix_take k xs = (drop k xs, take-append-drop k xs)

  pub prefix_whole : (xs : List X) → IsPrefix xs xs
  prefix_whole xs = ([], append-nil xs)

  pub prefix_more : (xs ys more : List X) → IsPrefix xs ys → IsPrefix xs (ys ++ more)
  prefix_more xs ys more (rest, same) = (rest ++ more, sym (append_assoc xs rest more) ∙ ap (λ (l : List X). l ++ more) same)

each : (content : Option (List ℕ)) (P Q : List ℕ → Type 0) → ((bytes : List ℕ) → P bytes → Q bytes) → IfSome content P → IfSome content Q
each None P Q to p = tt
each (Some bytes) P Q to p = to bytes p

-- what stands for a history stands for a part of it
pub stands_whole : (network : Network) (history : List Entry) (content : Option (List ℕ)) → IfSome content (IsHistoryOf network history) → IfSome content (StandsForPart network history)
stands_whole network history content is = each content (IsHistoryOf network history) (StandsForPart network history) (λ bytes has. (history, prefix_whole history, has)) is

-- and for a part of a longer one
pub stands_more : (network : Network) (history more : List Entry) (content : Option (List ℕ)) → IfSome content (StandsForPart network history) → IfSome content (StandsForPart network (history ++ more))
stands_more network history more content is =
    each content (StandsForPart network history) (StandsForPart network (history ++ more)) (λ bytes has. (has.0, prefix_more has.0 history more has.1, has.2)) is
