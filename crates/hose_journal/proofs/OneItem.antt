-- No item's record begins as another one's does.
use Rattle.std.proofs.Common.{◌≡◌, ◌≢◌, ℕ, ◌<◌, ◌^◌, Bool, true, false, List, [], ◌∷◌, ◌++◌, length, refl, sym, ◌∙◌, ap, arith, append_assoc}
use Rattle.std.proofs.lemmas.Bool.{false≢true}
use Rattle.byteorder.specs.Endian.{big_bytes}
use Rattle.hose_graph.specs.declared.entry.Entry.{Entry}
use Rattle.hose_codec.specs.Spelling.{spelling, IsEntry}
use Rattle.hose_codec.proofs.Entries.{begins_below, same_entries, length-spelling}
use Rattle.hose_codec.proofs.Numbers.{same_numbers, same_parts}
use Rattle.hose_journal.specs.Chain.{chain}
use Rattle.hose_journal.specs.declared.layout.TheConstants.{DIGEST_BYTES, SEAL, SEAL_BYTES}
use Rattle.hose_journal.specs.Entries.{Item, MayFollowItems, entered, entries_in, is_chained, item_bytes, record_bytes, seal_bytes, sealed}
use Rattle.hose_journal.proofs.Chains.{length-chain}

-- the lengths that two records tell
same_sizes : (m n : ℕ) (a b r s : List ℕ) → m < 2 ^ 32 → n < 2 ^ 32 → (big_bytes 4 m ++ a) ++ r ≡ (big_bytes 4 n ++ b) ++ s → (m ≡ n) × (a ++ r ≡ b ++ s)
same_sizes m n a b r s small also same =
    same_numbers 4 m n (a ++ r) (b ++ s) (omega (arith, small)) (omega (arith, also)) (sym (append_assoc (big_bytes 4 m) a r) ∙ same ∙ append_assoc (big_bytes 4 n) b s)

-- two records of entries that begin the same bytes
same_record : (chained : Bool) (v w : List ℕ) (x y : Entry) (r s : List ℕ) → length v ≡ length w → IsEntry x → IsEntry y → record_bytes chained v (spelling x) ++ r ≡ record_bytes chained w (spelling y) ++ s → (x ≡ y) × (r ≡ s)
same_record false v w x y r s size is_x is_y same =
    let sizes = same_sizes (length (spelling x)) (length (spelling y)) (spelling x) (spelling y) r s (omega (arith, length-spelling x is_x)) (omega (arith, length-spelling y is_y)) same in
    same_entries x y r s is_x is_y sizes.1
same_record true v w x y r s size is_x is_y same =
    let sizes = same_sizes (length (spelling x)) (length (spelling y)) (v ++ spelling x) (w ++ spelling y) r s (omega (arith, length-spelling x is_x)) (omega (arith, length-spelling y is_y)) same in
    let bodies = same_parts v w (spelling x ++ r) (spelling y ++ s) size (sym (append_assoc v (spelling x) r) ∙ sizes.1 ∙ append_assoc w (spelling y) s) in
    same_entries x y r s is_x is_y bodies.1

-- no record of an entry begins as a seal does
not_sealed : (chained : Bool) (v w : List ℕ) (x : Entry) (r s : List ℕ) → chained ≡ false → IsEntry x → record_bytes chained v (spelling x) ++ r ≢ seal_bytes w ++ s
not_sealed true v w x r s plain is same = false≢true (sym plain)
not_sealed false v w x r s plain is same =
    let sizes = same_sizes (length (spelling x)) SEAL_BYTES (spelling x) (SEAL ∷ w) r s (omega (arith, length-spelling x is)) (omega arith) same in
    begins_below x SEAL r (w ++ s) (omega arith) sizes.1

module _ (Takes : List Entry → Entry → Type 0) (version : ℕ) (digest : List ℕ) (size : length digest ≡ DIGEST_BYTES) where
  values : (one other : List Entry) → length (chain digest one) ≡ length (chain digest other)
  values one other = length-chain digest one size ∙ sym (length-chain digest other size)

  -- two items that begin the same bytes
  pub same_item : (before : List Item) (x y : Item) (r s : List ℕ) → MayFollowItems Takes version before x → MayFollowItems Takes version before y → item_bytes version digest before x ++ r ≡ item_bytes version digest before y ++ s → (x ≡ y) × (r ≡ s)
  same_item before (entered x) (entered y) r s is_x is_y same =
      let before_it = entries_in before in
      let parts = same_record (is_chained version before) (chain digest (before_it ++ x ∷ [])) (chain digest (before_it ++ y ∷ [])) x y r s (values (before_it ++ x ∷ []) (before_it ++ y ∷ [])) is_x.0 is_y.0 same in
      (ap (λ (e : Entry). entered e) parts.0, parts.1)
  same_item before (entered x) sealed r s is_x plain same =
      absurd (not_sealed (is_chained version before) (chain digest (entries_in before ++ x ∷ [])) (chain digest (entries_in before)) x r s plain is_x.0 same)
  same_item before sealed (entered y) r s plain is_y same =
      absurd (not_sealed (is_chained version before) (chain digest (entries_in before ++ y ∷ [])) (chain digest (entries_in before)) y s r plain is_y.0 (sym same))
  same_item before sealed sealed r s plain also same =
      (refl, (same_parts (seal_bytes (chain digest (entries_in before))) (seal_bytes (chain digest (entries_in before))) r s refl same).1)
