-- The image of items in closed form is read as their list.
use Rattle.std.proofs.Common.{◌≡◌, ◌⊎◌, inl, inr, ℕ, List, [], ◌∷◌, ◌++◌, refl, sym, ◌∙◌, ap, subst, arith, append_assoc, append-nil, false}
use Rattle.std.proofs.lemmas.Bool.{cases_eq}
use Rattle.hose_graph.specs.declared.entry.Entry.{Entry}
use Rattle.hose_codec.specs.Spelling.{IsEntry}
use Rattle.hose_journal.specs.declared.layout.TheConstants.{OPEN, CLOSED}
use Rattle.hose_journal.specs.Entries.{Item, MayFollowItems, TakesAny, entered, entries_in, is_chained, item_bytes, sealed}
use Rattle.hose_journal.specs.steps.Entries.{IsListOf, closed_record}
use Rattle.hose_journal.specs.steps.Gates.{Starts, IsDoubtful}
use Rattle.hose_journal.specs.Image.{IsVersion, records, AreItems, head, front_of, IsClosed, HasMeaning, listed}
use Rattle.hose_journal.specs.steps.Image.{journal_bytes}
use Rattle.hose_journal.proofs.Gates.{shut_gate}
use Rattle.hose_journal.proofs.Items.{entries_push, entries_seal}

module _ (version : ℕ) (digest : List ℕ) where
  -- one item more
  pub records_more : (before items : List Item) (item : Item) → records version digest before (items ++ item ∷ []) ≡ records version digest before items ++ OPEN ∷ item_bytes version digest (before ++ items) item
  records_more before [] item =
      ap (λ (l : List ℕ). OPEN ∷ l) (append-nil (item_bytes version digest before item)) ∙ ap (λ (l : List Item). OPEN ∷ item_bytes version digest l item) (sym (append-nil before))
  records_more before (first ∷ items) item =
      let more : records version digest (before ++ first ∷ []) (items ++ item ∷ []) ≡ records version digest (before ++ first ∷ []) items ++ OPEN ∷ item_bytes version digest (before ++ first ∷ items) item =
      records_more (before ++ first ∷ []) items item
      ∙ ap (λ (l : List Item). records version digest (before ++ first ∷ []) items ++ OPEN ∷ item_bytes version digest l item) (append_assoc before (first ∷ []) items) in
      ap (λ (l : List ℕ). OPEN ∷ (item_bytes version digest before first ++ l)) more
      ∙ ap (λ (l : List ℕ). OPEN ∷ l) (sym (append_assoc (item_bytes version digest before first) (records version digest (before ++ first ∷ []) items) (OPEN ∷ item_bytes version digest (before ++ first ∷ items) item)))

  pub front_more : (items : List Item) (item : Item) → front_of version digest (items ++ item ∷ []) ≡ front_of version digest items ++ OPEN ∷ item_bytes version digest items item
  front_more items item =
      ap (λ (l : List ℕ). head version digest ++ l) (records_more [] items item) ∙ sym (append_assoc (head version digest) (records version digest [] items) (OPEN ∷ item_bytes version digest items item))

  -- an open gate before a whole record
  pub opened_is_closed : (image : List ℕ) (items : List Item) (item : Item) → Starts (front_of version digest items ++ OPEN ∷ (item_bytes version digest items item ++ CLOSED ∷ [])) image
      → IsClosed (front_of version digest (items ++ item ∷ [])) image
  opened_is_closed image items item (rest, is) = record {
    gate = CLOSED;
    rest = rest;
    shut = omega arith;
    is =
        let here = front_of version digest items in
        let record_is = OPEN ∷ item_bytes version digest items item in
        let parts : here ++ OPEN ∷ (item_bytes version digest items item ++ CLOSED ∷ []) ≡ front_of version digest (items ++ item ∷ []) ++ CLOSED ∷ [] =
        sym (append_assoc here record_is (CLOSED ∷ [])) ∙ ap (λ (l : List ℕ). l ++ CLOSED ∷ []) (sym (front_more items item)) in
        is ∙ ap (λ (l : List ℕ). l ++ rest) parts ∙ append_assoc (front_of version digest (items ++ item ∷ [])) (CLOSED ∷ []) rest;
  }

  -- a record after a gate that may be open or not
  pub doubtful_is_closed : (image : List ℕ) (items : List Item) (item : Item) → IsDoubtful (front_of version digest items) (closed_record version digest items item) image
      → IsClosed (front_of version digest items) image ⊎ IsClosed (front_of version digest (items ++ item ∷ [])) image
  doubtful_is_closed image items item (gate, starts) = elim (cases_eq gate OPEN) [
    | inl open_gate ↦ inr (opened_is_closed image items item
        (subst (λ (g : ℕ). Starts (front_of version digest items ++ g ∷ closed_record version digest items item) image) open_gate starts))
    | inr shut ↦ inl (shut_gate (front_of version digest items) (closed_record version digest items item) image gate shut starts)
  ]

module _ (Takes : List Entry → Entry → Type 0) (version : ℕ) where
  pub items_more : (before items : List Item) (item : Item) → AreItems Takes version before items → MayFollowItems Takes version (before ++ items) item → AreItems Takes version before (items ++ item ∷ [])
  items_more before [] item are may = (subst (λ (l : List Item). MayFollowItems Takes version l item) (append-nil before) may, tt)
  items_more before (first ∷ items) item are may =
      (are.0, items_more (before ++ first ∷ []) items item are.1 (subst (λ (l : List Item). MayFollowItems Takes version l item) (sym (append_assoc before (first ∷ []) items)) may))

  -- the closed form is read as the list, whatever follows its last gate
  pub closed_is_list : (digest image : List ℕ) (items : List Item) → IsVersion version → AreItems Takes version [] items
      → IsClosed (front_of version digest items) image → HasMeaning Takes digest image (listed (entries_in items))
  closed_is_list digest image items is_version are closed =
      inr (record { version = version; is_version = is_version; items = items; view = refl; are = are; closed = closed })

  pub journal_is_list : (digest rest : List ℕ) (items : List Item) → IsVersion version → AreItems Takes version [] items
      → HasMeaning Takes digest (journal_bytes version digest items ++ rest) (listed (entries_in items))
  journal_is_list digest rest items is_version are =
      closed_is_list digest (journal_bytes version digest items ++ rest) items is_version are
      (shut_gate (front_of version digest items) [] (journal_bytes version digest items ++ rest) CLOSED (omega arith) (rest, refl))

-- ---- entries and seals

module _ (version : ℕ) (digest image : List ℕ) (items : List Item) (is_version : IsVersion version) (are : AreItems TakesAny version [] items) where
  pub doubtful_entry : (entry : Entry) → IsEntry entry → IsDoubtful (front_of version digest items) (closed_record version digest items (entered entry)) image
      → IsListOf digest (entries_in items) image ⊎ IsListOf digest (entries_in items ++ entry ∷ []) image
  doubtful_entry entry is doubtful =
      elim (doubtful_is_closed version digest image items (entered entry) doubtful) [
        | inl closed ↦ inl (closed_is_list TakesAny version digest image items is_version are closed)
        | inr more ↦ inr (subst (λ (l : List Entry). IsListOf digest l image) (entries_push items entry)
            (closed_is_list TakesAny version digest image (items ++ entered entry ∷ []) is_version (items_more TakesAny version [] items (entered entry) are (is, tt)) more))
      ]

  pub doubtful_seal : is_chained version items ≡ false → IsDoubtful (front_of version digest items) (closed_record version digest items sealed) image → IsListOf digest (entries_in items) image
  doubtful_seal plain doubtful =
      elim (doubtful_is_closed version digest image items sealed doubtful) [
        | inl closed ↦ closed_is_list TakesAny version digest image items is_version are closed
        | inr more ↦ subst (λ (l : List Entry). IsListOf digest l image) (entries_seal items)
            (closed_is_list TakesAny version digest image (items ++ sealed ∷ []) is_version (items_more TakesAny version [] items sealed are plain) more)
      ]
