-- Beginnings of a history: they are as sound and decided as it is, and one may grow by the next entry.
use Rattle.std.proofs.Common.{◌≡◌, ◌∙◌, ℕ, zero, suc, ◌+◌, List, [], ◌∷◌, ◌++◌, Some, length, get_or, refl, sym, ap, subst, All}
use Rattle.std.specs.List.{slice_get}
use Rattle.std.proofs.lemmas.Option.{slice_get_within}
use mathlib.Core.List.{IsPrefix}
use Rattle.hose_graph.specs.Network.{Network}
use Rattle.hose_graph.specs.declared.entry.Entry.{Entry}
use Rattle.hose_law.specs.Book.{Book}
use Rattle.hose_law.specs.History.{AreFrom, EntryKind, IsDecided, IsDecidedAt, IsSound, IsSoundAt, book_after, book_of, next_book, opening_book}

module _ {X : Type 0} where
  -- a beginning with the list's next entry is a beginning
  pub prefix_next : (own all : List X) (x : X) → IsPrefix own all → slice_get all (length own) ≡ Some x → IsPrefix (own ++ x ∷ []) all
  prefix_next [] [] x prefix there = absurd (cc there)
  prefix_next [] (y ∷ all) x prefix there = (all, cc there)
  prefix_next (o ∷ own) all x (rest, same) there =
      let more = prefix_next own (own ++ rest) x (rest, refl) (subst (λ (l : List X). slice_get l (suc (length own)) ≡ Some x) (sym same) there) in
      (more.0, ap (λ (l : List X). o ∷ l) more.1 ∙ same)

  -- what stands in a list stands in every longer one
  pub get_longer : (xs more : List X) (place : ℕ) (x : X) → slice_get xs place ≡ Some x → slice_get (xs ++ more) place ≡ Some x
  get_longer [] more place x there = absurd (cc there)
  get_longer (y ∷ xs) more zero x there = there
  get_longer (y ∷ xs) more (suc place) x there = get_longer xs more place x there

  get_at : (xs : List X) (place : ℕ) (x d : X) → slice_get xs place ≡ Some x → get_or xs place d ≡ x
  get_at [] place x d there = absurd (cc there)
  get_at (y ∷ xs) zero x d there = cc there
  get_at (y ∷ xs) (suc place) x d there = get_at xs place x d there

  -- the entry that stands in a list is one of those of which this holds
  pub all_at : (P : X → Type 0) (xs : List X) (place : ℕ) (x : X) → All P xs → slice_get xs place ≡ Some x → P x
  all_at P xs place x all there = subst P (get_at xs place x x there) (all place x (slice_get_within xs place x there))

-- ---- sound and decided beginnings

kind_front : (Kind : EntryKind) (network : Network) (book : Book) (since : ℕ) (own rest : List Entry) → AreFrom Kind network book since (own ++ rest) → AreFrom Kind network book since own
kind_front Kind network book zero [] rest are = tt
kind_front Kind network book (suc since) [] rest are = tt
kind_front Kind network book zero (entry ∷ own) rest are = (are.0, kind_front Kind network (next_book book entry) zero own rest are.1)
kind_front Kind network book (suc since) (entry ∷ own) rest are = kind_front Kind network (next_book book entry) since own rest are

-- a beginning of a sound history is one
pub sound_front : (network : Network) (own all : List Entry) → IsPrefix own all → IsSound network 0 all → IsSound network 0 own
sound_front network own all (rest, same) sound =
    kind_front IsSoundAt network (opening_book 0) 0 own rest (subst (λ (l : List Entry). IsSound network 0 l) (sym same) sound)

-- and of one that is decided from a place on
pub decided_front : (network : Network) (since : ℕ) (own all : List Entry) → IsPrefix own all → IsDecided network 0 since all → IsDecided network 0 since own
decided_front network since own all (rest, same) decided =
    let whole = subst (λ (l : List Entry). IsDecided network 0 since l) (sym same) decided in
    record {
      sound = kind_front IsSoundAt network (opening_book 0) 0 own rest whole.sound;
      decided = kind_front IsDecidedAt network (opening_book 0) since own rest whole.decided;
    }

sound_then : (network : Network) (book : Book) (own rest : List Entry) (entry : Entry) → AreFrom IsSoundAt network book 0 (own ++ entry ∷ rest) → IsSoundAt network (book_after book own) entry
sound_then network book [] rest entry sound = sound.0
sound_then network book (first ∷ own) rest entry sound = sound_then network (next_book book first) own rest entry sound.1

-- the next entry of a sound history is sound
pub sound_next : (network : Network) (own all : List Entry) (entry : Entry) → IsPrefix (own ++ entry ∷ []) all → IsSound network 0 all → IsSoundAt network (book_of 0 own) entry
sound_next network own all entry prefix sound =
    sound_then network (opening_book 0) own [] entry (sound_front network (own ++ entry ∷ []) all prefix sound)
