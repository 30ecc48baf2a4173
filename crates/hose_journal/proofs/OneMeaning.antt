-- An image has one meaning, whichever entries are taken.
use Rattle.std.proofs.Common.{◌≡◌, ◌≢◌, inl, inr, ℕ, ◌≤◌, List, [], ◌∷◌, ◌++◌, length, get_or, take, drop, sym, ap, ◌∙◌, refl, subst, arith, length-append, append_assoc, append-nil}
use Rattle.hose_graph.specs.declared.entry.Entry.{Entry}
use Rattle.hose_codec.proofs.Numbers.{same_parts}
use Rattle.hose_journal.specs.declared.layout.TheConstants.{OPEN, MARK, DIGEST_BYTES}
use Rattle.hose_journal.specs.Entries.{Item, MayFollowItems, entries_in, item_bytes}
use Rattle.hose_journal.specs.Image.{AreItems, IsDamaged, IsHeadless, IsListed, IsOther, IsUnbegun, IsUnmarked, IsVersion, Meaning, HasMeaning, damaged, front_of, head, listed, other, records}
use Rattle.hose_journal.proofs.OneItem.{same_item}

-- after these items stands no record: the gate is not open, or no whole record follows it
abbrev pub EndsAt : (List Entry → Entry → Type 0) → ℕ → List ℕ → List Item → List ℕ → Type 0
EndsAt Takes version digest before tail = (item : Item) (gate : ℕ) (rest : List ℕ) → MayFollowItems Takes version before item → tail ≢ OPEN ∷ (item_bytes version digest before item ++ gate ∷ rest)

-- ---- items

module _ (Takes : List Entry → Entry → Type 0) (version : ℕ) (digest : List ℕ) (size : length digest ≡ DIGEST_BYTES) where
  -- a record that begins bytes, with a gate after it
  opens_record : (before xs : List Item) (x : Item) (gate : ℕ) (r : List ℕ) → (next : ℕ) × (more : List ℕ) × (records version digest before (x ∷ xs) ++ gate ∷ r ≡ OPEN ∷ (item_bytes version digest before x ++ next ∷ more))
  opens_record before [] x gate r = (gate, r, ap (λ (l : List ℕ). OPEN ∷ (l ++ gate ∷ r)) (append-nil (item_bytes version digest before x)))
  opens_record before (y ∷ xs) x gate r = (OPEN, _, ap (λ (l : List ℕ). OPEN ∷ l) (append_assoc (item_bytes version digest before x) (records version digest (before ++ x ∷ []) (y ∷ xs)) (gate ∷ r)))

  none_here : (before xs : List Item) (x : Item) (gate : ℕ) (r tail : List ℕ) → MayFollowItems Takes version before x → EndsAt Takes version digest before tail → records version digest before (x ∷ xs) ++ gate ∷ r ≢ tail
  none_here before xs x gate r tail may ends same =
      let opened = opens_record before xs x gate r in
      ends x opened.0 opened.1 may (sym same ∙ opened.2)

  first_same : (before xs ys : List Item) (x y : Item) (r s : List ℕ) → MayFollowItems Takes version before x → MayFollowItems Takes version before y → records version digest before (x ∷ xs) ++ r ≡ records version digest before (y ∷ ys) ++ s
      → (x ≡ y) × (records version digest (before ++ x ∷ []) xs ++ r ≡ records version digest (before ++ y ∷ []) ys ++ s)
  first_same before xs ys x y r s may_x may_y same =
      same_item Takes version digest size before x y (records version digest (before ++ x ∷ []) xs ++ r) (records version digest (before ++ y ∷ []) ys ++ s) may_x may_y
      (sym (append_assoc (item_bytes version digest before x) (records version digest (before ++ x ∷ []) xs) r) ∙ ap (λ (l : List ℕ). drop 1 l) same ∙ append_assoc (item_bytes version digest before y) (records version digest (before ++ y ∷ []) ys) s)

  -- items that stand where others end are the first of these
  begins : (before xs ys : List Item) (gate : ℕ) (r tail : List ℕ) → AreItems Takes version before xs → AreItems Takes version before ys → EndsAt Takes version digest (before ++ ys) tail
      → records version digest before xs ++ gate ∷ r ≡ records version digest before ys ++ tail → (zs : List Item) × (ys ≡ xs ++ zs)
  begins before [] ys gate r tail are_xs are_ys ends same = (ys, refl)
  begins before (x ∷ xs) [] gate r tail are_xs are_ys ends same =
      absurd (none_here before xs x gate r tail are_xs.0 (subst (λ (all : List Item). EndsAt Takes version digest all tail) (append-nil before) ends) same)
  begins before (x ∷ xs) (y ∷ ys) gate r tail are_xs are_ys ends same =
      let parts = first_same before xs ys x y (gate ∷ r) tail are_xs.0 are_ys.0 same in
      let one : before ++ x ∷ [] ≡ before ++ y ∷ [] = ap (λ (e : Item). before ++ e ∷ []) parts.0 in
      let more = begins (before ++ y ∷ []) xs ys gate r tail (subst (λ (all : List Item). AreItems Takes version all xs) one are_xs.1) are_ys.1
      (subst (λ (all : List Item). EndsAt Takes version digest all tail) (sym (append_assoc before (y ∷ []) ys)) ends)
      (ap (λ (all : List Item). records version digest all xs ++ gate ∷ r) (sym one) ∙ parts.1) in
      (more.0, ap (λ (e : Item). e ∷ ys) (sym parts.0) ∙ ap (λ (l : List Item). x ∷ l) more.1)

both_first : {X : Type 0} (xs ys zs ws : List X) → ys ≡ xs ++ zs → xs ≡ ys ++ ws → xs ≡ ys
both_first xs ys [] ws more less = sym (more ∙ append-nil xs)
both_first xs ys (z ∷ zs) ws more less = absurd (omega (arith, ap length more, ap length less, length-append xs (z ∷ zs), length-append ys ws))

-- ---- heads

-- the version and the digest of a head
same_heads : (v w : ℕ) (one two r s : List ℕ) → length one ≡ length two → head v one ++ r ≡ head w two ++ s → (v ≡ w) × ((one ≡ two) × (r ≡ s))
same_heads v w one two r s long same =
    let parts = same_parts (head v one) (head w two) r s (omega (arith, long, length-append MARK (v ∷ one), length-append MARK (w ∷ two))) same in
    (ap (λ (l : List ℕ). get_or l 5 0) parts.0, (ap (λ (l : List ℕ). drop 6 l) parts.0, parts.1))

pub head_begun : (image : List ℕ) (version : ℕ) (kept tail : List ℕ) → length kept ≡ DIGEST_BYTES → 1 ≤ length tail → image ≡ head version kept ++ tail → ¬ IsUnbegun image
head_begun image version kept tail size some is (inl short) = omega (arith, short, size, some, ap length is, length-append (head version kept) tail, length-append MARK (version ∷ kept))
head_begun image version kept tail size some is (inr (exact, shut)) = shut (ap (λ (l : List ℕ). get_or l 0 0) is)

-- an image that begins with a head of this digest
record IsHeaded (kept image : List ℕ) : Type 0 where
  pub version : ℕ
  pub is_version : IsVersion version
  pub tail : List ℕ
  pub some : 1 ≤ length tail
  pub size : length kept ≡ DIGEST_BYTES
  pub is : image ≡ head version kept ++ tail

module _ {kept image : List ℕ} (begun : IsHeaded kept image) where
  not_unbegun : ¬ IsUnbegun image
  not_unbegun unbegun = head_begun image begun.version kept begun.tail begun.size begun.some begun.is unbegun

  not_headless : ¬ IsHeadless image
  not_headless none = none.shut (ap (λ (l : List ℕ). get_or l 0 0) begun.is)

  not_unmarked : ¬ IsUnmarked image
  not_unmarked none = elim none.differs [
    | inl mark ↦ mark (ap (λ (l : List ℕ). take 4 (drop 1 l)) begun.is)
    | inr other_version ↦ other_version (subst IsVersion (sym (ap (λ (l : List ℕ). get_or l 5 0) begun.is)) begun.is_version)
  ]

  one_head : (kept_too : List ℕ) (also : IsHeaded kept_too image) → (begun.version ≡ also.version) × ((kept ≡ kept_too) × (begun.tail ≡ also.tail))
  one_head kept_too also = same_heads begun.version also.version kept kept_too begun.tail also.tail (begun.size ∙ sym also.size) (sym begun.is ∙ also.is)

head_of_other : {digest kept image : List ℕ} → IsOther digest kept image → IsHeaded kept image
head_of_other is = record { version = is.version; is_version = is.is_version; tail = is.rest; some = is.some; size = is.size; is = is.is }

-- ---- an image that is read to its end

-- items, and the gate at which they end
pub record IsReadTo (Takes : List Entry → Entry → Type 0) (digest image : List ℕ) : Type 0 where
  pub version : ℕ
  pub is_version : IsVersion version
  pub items : List Item
  pub are : AreItems Takes version [] items
  pub gate : ℕ
  pub rest : List ℕ
  pub is : image ≡ front_of version digest items ++ gate ∷ rest
  pub ends : EndsAt Takes version digest items (gate ∷ rest)

abbrev pub to_closed : {Takes : List Entry → Entry → Type 0} {digest image : List ℕ} {list : List Entry} → IsListed Takes digest list image → IsReadTo Takes digest image
to_closed is = record {
  version = is.version;
  is_version = is.is_version;
  items = is.items;
  are = is.are;
  gate = is.closed.gate;
  rest = is.closed.rest;
  is = is.closed.is;
  ends = λ item gate rest may same. is.closed.shut (ap (λ (l : List ℕ). get_or l 0 0) same);
}

abbrev to_damage : {Takes : List Entry → Entry → Type 0} {digest image : List ℕ} {place : ℕ} {list : List Entry} → IsDamaged Takes digest place list image → IsReadTo Takes digest image
to_damage is = record {
  version = is.version;
  is_version = is.is_version;
  items = is.items;
  are = is.are;
  gate = OPEN;
  rest = is.rest;
  is = is.is;
  ends = λ item gate rest may same. is.none item gate rest may (ap (λ (l : List ℕ). drop 1 l) same);
}

module _ (Takes : List Entry → Entry → Type 0) (digest : List ℕ) (size : length digest ≡ DIGEST_BYTES) (image : List ℕ) where
  -- what follows the head
  after_head : (version : ℕ) (items : List Item) (tail : List ℕ) → image ≡ front_of version digest items ++ tail → image ≡ head version digest ++ (records version digest [] items ++ tail)
  after_head version items tail is = is ∙ append_assoc (head version digest) (records version digest [] items) tail

  headed : IsReadTo Takes digest image → IsHeaded digest image
  headed read = record {
    version = read.version;
    is_version = read.is_version;
    tail = records read.version digest [] read.items ++ read.gate ∷ read.rest;
    some = omega (arith, length-append (records read.version digest [] read.items) (read.gate ∷ read.rest));
    size = size;
    is = after_head read.version read.items (read.gate ∷ read.rest) read.is;
  }

  -- records with which it begins are the first of those that are read
  pub read_first : (version : ℕ) (items : List Item) (gate : ℕ) (rest : List ℕ) (read : IsReadTo Takes digest image) → AreItems Takes version [] items
      → image ≡ front_of version digest items ++ gate ∷ rest → (version ≡ read.version) × ((more : List Item) × (read.items ≡ items ++ more))
  read_first version items gate rest read are is =
      let heads = same_heads version read.version digest digest (records version digest [] items ++ gate ∷ rest) (records read.version digest [] read.items ++ read.gate ∷ read.rest) refl
      (sym (after_head version items (gate ∷ rest) is) ∙ after_head read.version read.items (read.gate ∷ read.rest) read.is) in (
        heads.0,
        begins Takes read.version digest size [] items read.items gate rest (read.gate ∷ read.rest) (subst (λ (v : ℕ). AreItems Takes v [] items) heads.0 are) read.are read.ends
            (ap (λ (v : ℕ). records v digest [] items ++ gate ∷ rest) (sym heads.0) ∙ heads.1.1),
      )

  -- it is read in one way
  one_way : (a b : IsReadTo Takes digest image) → (a.items ≡ b.items) × ((front_of a.version digest a.items ≡ front_of b.version digest b.items) × (a.gate ≡ b.gate))
  one_way a b =
      let more = read_first a.version a.items a.gate a.rest b a.are a.is in
      let less = read_first b.version b.items b.gate b.rest a b.are b.is in
      let items = both_first a.items b.items more.1.0 less.1.0 more.1.1 less.1.1 in
      let fronts : front_of a.version digest a.items ≡ front_of b.version digest b.items =
      ap (λ (v : ℕ). front_of v digest a.items) more.0 ∙ ap (λ (all : List Item). front_of b.version digest all) items in
      let tails = same_parts (front_of a.version digest a.items) (front_of b.version digest b.items) (a.gate ∷ a.rest) (b.gate ∷ b.rest) (ap length fronts) (sym a.is ∙ b.is) in
      (items, (fronts, ap (λ (l : List ℕ). get_or l 0 0) tails.1))

  -- ---- one meaning

  listed_listed : (one two : List Entry) → HasMeaning Takes digest image (listed one) → HasMeaning Takes digest image (listed two) → one ≡ two
  listed_listed one two (inl none) (inl nothing) = none.1 ∙ sym nothing.1
  listed_listed one two (inl none) (inr b) = absurd (not_unbegun (headed (to_closed b)) none.0)
  listed_listed one two (inr a) (inl none) = absurd (not_unbegun (headed (to_closed a)) none.0)
  listed_listed one two (inr a) (inr b) = sym a.view ∙ ap entries_in (one_way (to_closed a) (to_closed b)).0 ∙ b.view

  listed_other : (one : List Entry) (kept : List ℕ) → HasMeaning Takes digest image (listed one) → ¬ IsOther digest kept image
  listed_other one kept (inl none) is = not_unbegun (head_of_other is) none.0
  listed_other one kept (inr a) is = is.differs (one_head (head_of_other is) digest (headed (to_closed a))).1.0

  listed_damaged : (one : List Entry) (at : ℕ) → HasMeaning Takes digest image (listed one) → ¬ HasMeaning Takes digest image (damaged at)
  listed_damaged one at (inl none) (inl (headless, zero_at)) = elim none.0 [
    | inl short ↦ omega (arith, short, headless.long)
    | inr exact ↦ omega (arith, exact.0, headless.long)
  ]
  listed_damaged one at (inl none) (inr (inl (unmarked, one_at))) = elim none.0 [
    | inl short ↦ omega (arith, short, unmarked.long)
    | inr exact ↦ exact.1 unmarked.begun
  ]
  listed_damaged one at (inl none) (inr (inr (list, b))) = not_unbegun (headed (to_damage b)) none.0
  listed_damaged one at (inr a) (inl (headless, zero_at)) = not_headless (headed (to_closed a)) headless
  listed_damaged one at (inr a) (inr (inl (unmarked, one_at))) = not_unmarked (headed (to_closed a)) unmarked
  listed_damaged one at (inr a) (inr (inr (list, b))) = a.closed.shut (one_way (to_closed a) (to_damage b)).1.1

  other_damaged : (kept : List ℕ) (at : ℕ) → IsOther digest kept image → ¬ HasMeaning Takes digest image (damaged at)
  other_damaged kept at is (inl (headless, zero_at)) = not_headless (head_of_other is) headless
  other_damaged kept at is (inr (inl (unmarked, one_at))) = not_unmarked (head_of_other is) unmarked
  other_damaged kept at is (inr (inr (list, b))) = is.differs (one_head (head_of_other is) digest (headed (to_damage b))).1.0

  damaged_once : (one two : ℕ) → HasMeaning Takes digest image (damaged one) → HasMeaning Takes digest image (damaged two) → one ≡ two
  damaged_once one two (inl (headless, zero_at)) (inl (also, is_zero)) = zero_at ∙ sym is_zero
  damaged_once one two (inl (headless, zero_at)) (inr (inl (unmarked, one_at))) = absurd (headless.shut unmarked.begun)
  damaged_once one two (inl (headless, zero_at)) (inr (inr (list, b))) = absurd (not_headless (headed (to_damage b)) headless)
  damaged_once one two (inr (inl (unmarked, one_at))) (inl (headless, zero_at)) = absurd (headless.shut unmarked.begun)
  damaged_once one two (inr (inl (unmarked, one_at))) (inr (inl (also, is_one))) = one_at ∙ sym is_one
  damaged_once one two (inr (inl (unmarked, one_at))) (inr (inr (list, b))) = absurd (not_unmarked (headed (to_damage b)) unmarked)
  damaged_once one two (inr (inr (first, a))) (inl (headless, zero_at)) = absurd (not_headless (headed (to_damage a)) headless)
  damaged_once one two (inr (inr (first, a))) (inr (inl (unmarked, one_at))) = absurd (not_unmarked (headed (to_damage a)) unmarked)
  damaged_once one two (inr (inr (first, a))) (inr (inr (list, b))) = a.here ∙ ap length (one_way (to_damage a) (to_damage b)).1.0 ∙ sym b.here

  pub one_meaning : (one two : Meaning Entry) → HasMeaning Takes digest image one → HasMeaning Takes digest image two → one ≡ two
  one_meaning (listed one) (listed two) is also = ap (λ (list : List Entry). listed list) (listed_listed one two is also)
  one_meaning (listed one) (other kept) is also = absurd (listed_other one kept is also)
  one_meaning (listed one) (damaged at) is also = absurd (listed_damaged one at is also)
  one_meaning (other kept) (listed two) is also = absurd (listed_other two kept also is)
  one_meaning (other one) (other two) is also =
      ap (λ (kept : List ℕ). other kept) (one_head (head_of_other is) two (head_of_other also)).1.0
  one_meaning (other kept) (damaged at) is also = absurd (other_damaged kept at is also)
  one_meaning (damaged at) (listed two) is also = absurd (listed_damaged two at also is)
  one_meaning (damaged at) (other kept) is also = absurd (other_damaged kept at also is)
  one_meaning (damaged one) (damaged two) is also = ap (λ (at : ℕ). damaged at) (damaged_once one two is also)
