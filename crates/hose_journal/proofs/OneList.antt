-- An image stands for one list only.
use Rattle.std.proofs.Common.{◌≡◌, inl, inr, ℕ, ◌+◌, ◌≤◌, List, [], ◌∷◌, ◌++◌, length, ◌∙◌, ap, arith, length-append, append_assoc}
use Rattle.hose_graph.specs.declared.entry.Entry.{Entry}
use Rattle.hose_journal.specs.declared.layout.TheConstants.{DIGEST_BYTES}
use Rattle.hose_journal.specs.Entries.{Item, TakesAny, entered, entries_in, sealed}
use Rattle.hose_journal.specs.steps.Entries.{IsListOf}
use Rattle.hose_journal.specs.Image.{AreItems, front_of, head, listed, records}
use Rattle.hose_journal.proofs.OneMeaning.{head_begun, one_meaning, read_first, to_closed}

pub one_list : (digest image : List ℕ) (xs ys : List Entry) → length digest ≡ DIGEST_BYTES → IsListOf digest xs image → IsListOf digest ys image → xs ≡ ys
one_list digest image xs ys size is also =
    let same : listed xs ≡ listed ys = one_meaning TakesAny digest size image (listed xs) (listed ys) is also in cc

entries_append : (xs ys : List Item) → length (entries_in (xs ++ ys)) ≡ length (entries_in xs) + length (entries_in ys)
entries_append [] ys = omega arith
entries_append (entered entry ∷ xs) ys = omega (arith, entries_append xs ys)
entries_append (sealed ∷ xs) ys = entries_append xs ys

-- An image that begins with records is read as a list of no fewer entries.
pub no_fewer : (version : ℕ) (digest image rest : List ℕ) (xs : List Item) (list : List Entry) → length digest ≡ DIGEST_BYTES → AreItems TakesAny version [] xs → 1 ≤ length rest
    → image ≡ front_of version digest xs ++ rest → IsListOf digest list image → length (entries_in xs) ≤ length list
no_fewer version digest image [] xs list size are some is list_is = absurd (omega (arith, some))
no_fewer version digest image (gate ∷ rest) xs list size are some is (inl (unbegun, none)) =
    let bytes = records version digest [] xs in
    absurd (head_begun image version digest (bytes ++ gate ∷ rest) size (omega (arith, length-append bytes (gate ∷ rest))) (is ∙ append_assoc (head version digest) bytes (gate ∷ rest)) unbegun)
no_fewer version digest image (gate ∷ rest) xs list size are some is (inr listed_is) =
    let first = read_first TakesAny digest size image version xs gate rest (to_closed listed_is) are is in
    omega (arith, ap length listed_is.view, ap (λ (l : List Item). length (entries_in l)) first.1.1, entries_append xs first.1.0)
