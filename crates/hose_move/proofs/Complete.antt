-- Where a move ends with all entries.
use Rattle.std.proofs.Common.{◌≡◌, ◌∙◌, ℕ, zero, suc, ◌+◌, List, [], ◌∷◌, ◌++◌, Option, Some, IfSome, inl, inr, length, take, refl, sym, ap, subst, arith, append_assoc, length-append}
use Rattle.std.specs.Prelude.{◌≢◌, ◌⊎◌, Result, Ok, Err, IsOk}
use Rattle.std.specs.List.{slice_get}
use Rattle.std.proofs.lemmas.List.{length-take}
use mathlib.Core.List.{IsPrefix}
use Rattle.hose_graph.specs.Network.{Network}
use Rattle.hose_graph.specs.declared.entry.Entry.{Entry}
use Rattle.hose_law.specs.Book.{Book}
use Rattle.hose_law.specs.History.{IsSound, IsSoundAt, book_after, next_book, opening_book, AreFrom}
use Rattle.hose_disk.specs.declared.disk.Disk.{Ghosts}
use Rattle.hose_journal.specs.declared.layout.TheConstants.{DIGEST_BYTES}
use Rattle.hose_journal.specs.Entries.{Item, TakesAny, entered, entries_in, sealed}
use Rattle.hose_journal.specs.steps.Entries.{IsListOf}
use Rattle.hose_journal.specs.Image.{damaged, head, listed, other, records, front_of}
use Rattle.hose_journal.proofs.OneMeaning.{head_begun, read_first, to_closed}
use Rattle.hose_store.specs.Entries.{BeginsWith}
use Rattle.hose_store.specs.Recovery.{IsRecoveredAs, digest_of}
use Rattle.hose_store.specs.declared.fault.StoreFault.{StoreFault}
use Rattle.hose_store.specs.declared.fault.StoreFault.TheVariants as store
use Rattle.hose_store.proofs.Histories.{list_of_history}
use Rattle.hose_store.proofs.OneMeaning.{digest_size, recovered_once}
use Rattle.hose_move.specs.Moving.{HasEnough, Moves, StandsForPart}
use Rattle.hose_move.specs.declared.fault.MoveFault.{MoveFault}
use Rattle.hose_move.specs.declared.fault.MoveFault.TheVariants.{Store, Differs, Unsound, Disk, Memory}

-- ---- lists

module _ {X : Type 0} where
  next_of : (front all : List X) (x : X) → IsPrefix (front ++ x ∷ []) all → slice_get all (length front) ≡ Some x
  next_of [] [] x (rest, same) = absurd (cc same)
  next_of [] (y ∷ all) x (rest, same) = cc same
  next_of (y ∷ front) [] x (rest, same) = absurd (cc same)
  next_of (y ∷ front) (z ∷ all) x (rest, same) = next_of front all x (rest, cc same)

  prefix_then : (xs ys zs : List X) → IsPrefix xs ys → IsPrefix ys zs → IsPrefix xs zs
  prefix_then xs ys zs (rest, same) (more, also) = (rest ++ more, sym (append_assoc xs rest more) ∙ ap (λ (l : List X). l ++ more) same ∙ also)

  -- the part of a list before a place, with one more, is a part of it only where that stands there
  next_at : (all : List X) (place : ℕ) (x : X) → IsPrefix (take place all ++ x ∷ []) all → slice_get all place ≡ Some x
  next_at all place x prefix =
      let size : length (take place all ++ x ∷ []) + length prefix.0 ≡ length all = sym (length-append (take place all ++ x ∷ []) prefix.0) ∙ ap length prefix.1 in
      let here : length (take place all) ≡ place = omega (arith, size, length-append (take place all) (x ∷ []), length-take place all) in
      subst (λ (n : ℕ). slice_get all n ≡ Some x) here (next_of (take place all) all x prefix)

-- ---- an image that begins with entries

entries_both : (xs ys : List Item) → entries_in (xs ++ ys) ≡ entries_in xs ++ entries_in ys
entries_both [] ys = refl
entries_both (entered entry ∷ xs) ys = ap (λ (l : List Entry). entry ∷ l) (entries_both xs ys)
entries_both (sealed ∷ xs) ys = entries_both xs ys

-- it is read as a list that begins with them
begins_list : (digest bytes : List ℕ) (entries had : List Entry) → length digest ≡ DIGEST_BYTES → (begun : BeginsWith digest entries bytes) (rest : List ℕ) → begun.rest ≡ rest → IsListOf digest had bytes → IsPrefix entries had
begins_list digest bytes entries had size begun [] none is = absurd (omega (arith, begun.some, ap length none))
begins_list digest bytes entries had size begun (gate ∷ rest) some (inl (unbegun, none)) =
    let all = records begun.version digest [] begun.items in
    absurd (head_begun bytes begun.version digest (all ++ gate ∷ rest) size (omega (arith, length-append all (gate ∷ rest)))
    (begun.is ∙ ap (λ (l : List ℕ). front_of begun.version digest begun.items ++ l) some ∙ append_assoc (head begun.version digest) all (gate ∷ rest)) unbegun)
begins_list digest bytes entries had size begun (gate ∷ rest) some (inr is) =
    let first = read_first TakesAny digest size bytes begun.version begun.items gate rest (to_closed is) begun.are
    (begun.is ∙ ap (λ (l : List ℕ). front_of begun.version digest begun.items ++ l) some) in
    let more = first.1.0 in
    (entries_in more, ap (λ (l : List Entry). l ++ entries_in more) (sym begun.entries_are) ∙ sym (entries_both begun.items more) ∙ ap entries_in (sym first.1.1) ∙ is.view)

-- ---- sound entries

sound_at : (network : Network) (book : Book) (entries : List Entry) (place : ℕ) (entry : Entry) → AreFrom IsSoundAt network book 0 entries → slice_get entries place ≡ Some entry → IsSoundAt network (book_after book (take place entries)) entry
sound_at network book [] place entry sound there = absurd (cc there)
sound_at network book (first ∷ entries) zero entry sound there =
    let same : first ≡ entry = cc there in subst (λ (e : Entry). IsSoundAt network book e) same sound.0
sound_at network book (first ∷ entries) (suc place) entry sound there = sound_at network (next_book book first) entries place entry sound.1 there

told : (content : Option (List ℕ)) (bytes : List ℕ) (P : List ℕ → Type 0) → content ≡ Some bytes → IfSome content P → P bytes
told content bytes P same is = subst (λ (c : Option (List ℕ)). IfSome c P) same is

module _ {D : Type 0} (disk : Ghosts D) (network : Network) (was left : D) (entries : List Entry) (bytes : List ℕ) (reads : disk.content was ≡ Some bytes)
    (stands : StandsForPart network entries bytes) (sound : IsSound network 0 entries) where
  refused : (fault : StoreFault) → Moves disk was network entries left (Err (Store fault)) → HasEnough (Err (Store fault)) → ⊥
  refused store.Disk moves enough = enough
  refused store.Memory moves enough = enough
  refused (store.Other kept given) moves enough =
      let is = told (disk.content was) bytes (λ b. IsRecoveredAs network b (other kept)) reads moves.0.2 in
      let same : other kept ≡ listed stands.0 = recovered_once network bytes (other kept) (listed stands.0) is stands.2 in
      absurd (cc same)
  refused (store.Damaged at) moves enough =
      let is = told (disk.content was) bytes (λ b. IsRecoveredAs network b (damaged at)) reads moves.0.1 in
      let same : damaged at ≡ listed stands.0 = recovered_once network bytes (damaged at) (listed stands.0) is stands.2 in
      absurd (cc same)

  -- it does not differ
  no_other : (place : ℕ) (one : Entry) → slice_get entries place ≢ Some one → (take place entries ++ one ∷ [] ≡ []) ⊎ BeginsWith (digest_of network) (take place entries ++ one ∷ []) bytes → ⊥
  no_other place one differs (inl none) = absurd (omega (arith, ap length none, length-append (take place entries) (one ∷ [])))
  no_other place one differs (inr begun) =
      let had = begins_list (digest_of network) bytes (take place entries ++ one ∷ []) stands.0 (digest_size network) begun begun.rest refl (list_of_history network stands.0 bytes stands.2) in
      differs (next_at entries place one (prefix_then (take place entries ++ one ∷ []) stands.0 entries had stands.1))

  pub complete : (result : Result ℕ MoveFault) → Moves disk was network entries left result → HasEnough result → IsOk result
  complete (Ok live) moves enough = refl
  complete (Err (Store fault)) moves enough = absurd (refused fault moves enough)
  complete (Err (Differs epoch)) moves enough =
      absurd (no_other moves.place moves.other moves.differs (told (disk.content was) bytes (λ b. (take moves.place entries ++ moves.other ∷ [] ≡ []) ⊎ BeginsWith (digest_of network) (take moves.place entries ++ moves.other ∷ []) b) reads moves.held.read))
  complete (Err (Unsound epoch)) moves enough = absurd (moves.unsound (sound_at network (opening_book 0) entries moves.place moves.entry sound moves.is_entry))
  complete (Err Disk) moves enough = absurd enough
  complete (Err Memory) moves enough = absurd enough
