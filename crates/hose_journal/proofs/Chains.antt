-- Equal chain values: equal lists, or a collision.
use Rattle.std.proofs.Common.{◌≡◌, ◌⊎◌, ◌∙◌, ℕ, Bool, true, false, List, [], ◌∷◌, ◌++◌, length, refl, sym, ap, inl, inr, arith}
use Rattle.std.specs.List.{All, Contains}
use Rattle.std.specs.Str.{bytes_eq}
use Rattle.std.proofs.lemmas.Bool.{false≢true}
use Rattle.std.proofs.lemmas.Slice.Eq.{bytes_eq-Decides}
use Rattle.std.proofs.lemmas.List.Elements.{All-head, All-tail, Contains-append_left, Contains-append_right, Contains-append_cases}
use Rattle.sha2.specs.Sha256.{sha256}
use Rattle.sha2.proofs.Facts256.{length-sha256}
use Rattle.hose_graph.proofs.Members.{contains_first, contains_rest}
use Rattle.hose_graph.specs.declared.entry.Entry.{Entry}
use Rattle.hose_codec.specs.Spelling.{IsEntry, spelling}
use Rattle.hose_codec.proofs.Entries.{same_entry}
use Rattle.hose_codec.proofs.Numbers.{same_parts}
use Rattle.hose_journal.specs.declared.layout.TheConstants.{DIGEST_BYTES}
use Rattle.hose_journal.specs.Chain.{chain, chain_from}
use Rattle.hose_journal.specs.steps.Chain.{Collide, hashed, hashed_from}

-- one item more at the end
pub chain_push : {X : Type 0} (hash : List ℕ → List ℕ) (spell : X → List ℕ) (value : List ℕ) (items : List X) (item : X)
    → chain_from hash spell value (items ++ item ∷ []) ≡ hash (chain_from hash spell value items ++ spell item)
chain_push hash spell value [] item = refl
chain_push hash spell value (first ∷ items) item = chain_push hash spell (hash (value ++ spell first)) items item

-- a collision among some strings is one among more
collide_wider : (hash : List ℕ → List ℕ) (some all : List (List ℕ)) → ((s : List ℕ) → Contains some s → Contains all s) → Collide hash some → Collide hash all
collide_wider hash some all wider found = record {
  one = found.one;
  other = found.other;
  one_there = wider found.one found.one_there;
  other_there = wider found.other found.other_there;
  differ = found.differ;
  same = found.same;
}

-- with one string before each part
wider_both : (x y : List ℕ) (xs ys : List (List ℕ)) (s : List ℕ) → Contains (xs ++ ys) s → Contains ((x ∷ xs) ++ (y ∷ ys)) s
wider_both x y xs ys s there = elim (Contains-append_cases xs ys s there) [
  | inl front ↦ Contains-append_left (x ∷ xs) (y ∷ ys) s (contains_rest x s xs front)
  | inr back ↦ Contains-append_right (x ∷ xs) (y ∷ ys) s (contains_rest y s ys back)
]

module _ {X : Type 0} (hash : List ℕ → List ℕ) (spell : X → List ℕ) (MayBe : X → Type 0)
    (sized : (bytes : List ℕ) → length (hash bytes) ≡ 32)
    (one_spelling : (x y : X) → MayBe x → MayBe y → spell x ≡ spell y → x ≡ y) where
  -- Two chains that meet after as many items.
  pub meet : (v w : List ℕ) (xs ys : List X) → length v ≡ length w → length xs ≡ length ys → All MayBe xs → All MayBe ys
      → chain_from hash spell v xs ≡ chain_from hash spell w ys
      → ((v ≡ w) × (xs ≡ ys)) ⊎ Collide hash (hashed_from hash spell v xs ++ hashed_from hash spell w ys)
  meet v w [] [] size count may also same = inl (same, refl)
  meet v w [] (y ∷ ys) size count may also same = absurd (omega (arith, count))
  meet v w (x ∷ xs) [] size count may also same = absurd (omega (arith, count))
  meet v w (x ∷ xs) (y ∷ ys) size count may also same =
      let a = v ++ spell x in
      let b = w ++ spell y in
      let ones = hashed_from hash spell (hash a) xs in
      let others = hashed_from hash spell (hash b) ys in
      let rest = meet (hash a) (hash b) xs ys (sized a ∙ sym (sized b)) (omega (arith, count)) (All-tail MayBe x xs may) (All-tail MayBe y ys also) same in
      elim rest [
        | inr found ↦ inr (collide_wider hash (ones ++ others) ((a ∷ ones) ++ (b ∷ others)) (wider_both a b ones others) found)
        | inl met ↦ at met (bytes_eq a b) refl
      ]
    where
      at : ((hash (v ++ spell x) ≡ hash (w ++ spell y)) × (xs ≡ ys)) → (equal : Bool) → equal ≡ bytes_eq (v ++ spell x) (w ++ spell y)
          → ((v ≡ w) × ((x ∷ xs) ≡ (y ∷ ys))) ⊎ Collide hash (hashed_from hash spell v (x ∷ xs) ++ hashed_from hash spell w (y ∷ ys))
      at met true is =
          let parts = same_parts v w (spell x) (spell y) size ((bytes_eq-Decides (v ++ spell x) (w ++ spell y)).0 (sym is)) in
          let first = one_spelling x y (All-head MayBe x xs may) (All-head MayBe y ys also) parts.1 in
          inl (parts.0, ap (λ (z : X). z ∷ xs) first ∙ ap (λ (zs : List X). y ∷ zs) met.1)
      at met false is =
          let one = v ++ spell x in
          let other = w ++ spell y in
          let ones = hashed_from hash spell (hash one) xs in
          let others = hashed_from hash spell (hash other) ys in
          inr (record {
            one = one;
            other = other;
            one_there = Contains-append_left (one ∷ ones) (other ∷ others) one (contains_first one one ones refl);
            other_there = Contains-append_right (one ∷ ones) (other ∷ others) other (contains_first other other others refl);
            differ = λ equal. false≢true (is ∙ (bytes_eq-Decides one other).1 equal);
            same = met.0;
          })

-- entries have one spelling each
one_entry : (x y : Entry) → IsEntry x → IsEntry y → spelling x ≡ spelling y → x ≡ y
one_entry x y may also same =
    same_entry x y (spelling x) (record { is_entry = may; spelled = refl }) (record { is_entry = also; spelled = same })

pub one_chain : (digest : List ℕ) (one other : List Entry) → All IsEntry one → All IsEntry other → length one ≡ length other → chain digest one ≡ chain digest other
    → (one ≡ other) ⊎ Collide sha256 (hashed digest one ++ hashed digest other)
one_chain digest one other may also count same =
    elim (meet sha256 spelling IsEntry length-sha256 one_entry digest digest one other refl count may also same) [
      | inl met ↦ inl met.1
      | inr found ↦ inr found
    ]

-- a chain value has as many bytes as a digest
pub length-chain : (value : List ℕ) (entries : List Entry) → length value ≡ DIGEST_BYTES → length (chain value entries) ≡ DIGEST_BYTES
length-chain value [] size = size
length-chain value (entry ∷ entries) size = length-chain (sha256 (value ++ spelling entry)) entries (length-sha256 (value ++ spelling entry))

-- the value after one entry more
pub chain_with : (value next body digest : List ℕ) (entries : List Entry) (entry : Entry) → value ≡ chain digest entries → body ≡ spelling entry → next ≡ sha256 (value ++ body) → next ≡ chain digest (entries ++ entry ∷ [])
chain_with value next body digest entries entry is spelled hashed_is =
    hashed_is ∙ ap (λ (v : List ℕ). sha256 (v ++ body)) is ∙ ap (λ (b : List ℕ). sha256 (chain digest entries ++ b)) spelled ∙ sym (chain_push sha256 spelling digest entries entry)
