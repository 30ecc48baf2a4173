-- Where fewer entries are taken: the same images, as long as all of a list are.
use Rattle.std.proofs.Common.{◌≡◌, inl, inr, ℕ, ◌≤◌, List, [], ◌∷◌, ◌++◌, length, Option, sym, ap, ◌∙◌, subst, arith, length-append, append_assoc}
use Rattle.hose_graph.specs.declared.entry.Entry.{Entry}
use Rattle.hose_journal.specs.declared.layout.TheConstants.{OPEN, DIGEST_BYTES}
use Rattle.hose_journal.specs.Entries.{Item, MayFollowItems, TakesAny, entered, entries_in, item_bytes, sealed}
use Rattle.hose_journal.specs.steps.Entries.{AreAllowed, IsListOf}
use Rattle.hose_journal.specs.Image.{AreItems, IsDamaged, HasMeaning, front_of, listed}
use Rattle.hose_journal.specs.steps.Reading.{IsFoundAt, IsReadUpTo}
use Rattle.hose_journal.proofs.Items.{entries_push, entries_seal}
use Rattle.hose_journal.proofs.Lists.{front_more}
use Rattle.hose_journal.proofs.OneItem.{same_item}

module _ (Takes : List Entry → Entry → Type 0) (version : ℕ) where
  pub items_narrow : (before items : List Item) → AreItems TakesAny version before items → AreAllowed Takes (entries_in before) (entries_in items) → AreItems Takes version before items
  items_narrow before [] are taken = tt
  items_narrow before (entered entry ∷ items) are taken = (
    (are.0.0, taken.0),
    items_narrow (before ++ entered entry ∷ []) items are.1 (subst (λ (l : List Entry). AreAllowed Takes l (entries_in items)) (sym (entries_push before entry)) taken.1),
  )
  items_narrow before (sealed ∷ items) are taken = (
    are.0,
    items_narrow (before ++ sealed ∷ []) items are.1 (subst (λ (l : List Entry). AreAllowed Takes l (entries_in items)) (sym (entries_seal before)) taken),
  )

  item_wide : (before : List Item) (item : Item) → MayFollowItems Takes version before item → MayFollowItems TakesAny version before item
  item_wide before (entered entry) may = (may.0, tt)
  item_wide before sealed may = may

  pub items_wide : (before items : List Item) → AreItems Takes version before items → AreItems TakesAny version before items
  items_wide before [] are = tt
  items_wide before (item ∷ items) are = (item_wide before item are.0, items_wide (before ++ item ∷ []) items are.1)

-- the last of some items
last_entry : (version : ℕ) (before items : List Item) (entry : Entry) → AreItems TakesAny version before (items ++ entered entry ∷ []) → MayFollowItems TakesAny version (before ++ items) (entered entry) × AreItems TakesAny version before items
last_entry version before [] entry are = ((are.0.0, tt), tt)
last_entry version before (first ∷ items) entry are = let rest = last_entry version (before ++ first ∷ []) items entry are.1 in ((rest.0.0, tt), (are.0, rest.1))

module _ (Takes : List Entry → Entry → Type 0) (digest : List ℕ) where
  taken_first : (list all : List Entry) → all ≡ list → AreAllowed Takes [] list → AreAllowed Takes [] all
  taken_first list all same taken = subst (λ (l : List Entry). AreAllowed Takes [] l) (sym same) taken

  -- an image of a list all of whose entries are taken
  pub narrowed : (list : List Entry) (image : List ℕ) → AreAllowed Takes [] list → IsListOf digest list image → HasMeaning Takes digest image (listed list)
  narrowed list image taken (inl unbegun) = inl unbegun
  narrowed list image taken (inr is) = inr (record {
    version = is.version;
    is_version = is.is_version;
    items = is.items;
    view = is.view;
    are = items_narrow Takes is.version [] is.items is.are (taken_first list (entries_in is.items) is.view taken);
    closed = is.closed;
  })

  pub widened : (list : List Entry) (image : List ℕ) → HasMeaning Takes digest image (listed list) → IsListOf digest list image
  widened list image (inl unbegun) = inl unbegun
  widened list image (inr is) = inr (record {
    version = is.version;
    is_version = is.is_version;
    items = is.items;
    view = is.view;
    are = items_wide Takes is.version [] is.items is.are;
    closed = is.closed;
  })

  -- damage after entries that are taken
  pub broken_narrowed : (place : ℕ) (list : List Entry) (image : List ℕ) → AreAllowed Takes [] list → IsDamaged TakesAny digest place list image → IsDamaged Takes digest place list image
  broken_narrowed place list image taken is = record {
    version = is.version;
    is_version = is.is_version;
    items = is.items;
    view = is.view;
    rest = is.rest;
    are = items_narrow Takes is.version [] is.items is.are (taken_first list (entries_in is.items) is.view taken);
    here = is.here;
    is = is.is;
    none = λ item gate more may bytes. is.none item gate more (item_wide Takes is.version is.items item may) bytes;
  }

  -- an entry that is not taken, after entries that are
  module _ (content : Option (List ℕ)) (entries : List Entry) (entry : Entry) (place end : ℕ) (size : length digest ≡ DIGEST_BYTES) (taken : AreAllowed Takes [] entries) (refused : ¬ Takes entries entry)
      (found : IsFoundAt content digest entries entry place end) (bytes : List ℕ) where
    refused_from : (rest : List ℕ) → 1 ≤ length rest → bytes ≡ front_of found.version digest (found.before ++ entered entry ∷ []) ++ rest → IsDamaged Takes digest place entries bytes
    refused_from [] some whole = absurd (omega (arith, some))
    refused_from (gate ∷ more) some whole =
        let version = found.version in
        let before = found.before in
        let bytes_are = item_bytes version digest before (entered entry) in
        let last = last_entry version [] before entry found.are in
        let parts : front_of version digest (before ++ entered entry ∷ []) ++ gate ∷ more ≡ front_of version digest before ++ OPEN ∷ (bytes_are ++ gate ∷ more) =
        ap (λ (l : List ℕ). l ++ gate ∷ more) (front_more version digest before (entered entry)) ∙ append_assoc (front_of version digest before) (OPEN ∷ bytes_are) (gate ∷ more) in
        record {
          version = version;
          is_version = found.is_version;
          items = before;
          view = found.entries_are;
          rest = bytes_are ++ gate ∷ more;
          are = items_narrow Takes version [] before last.1 (taken_first entries (entries_in before) found.entries_are taken);
          here = sym found.here;
          is = whole ∙ parts;
          none = λ item other rest may same_bytes.
              let one = same_item TakesAny version digest size before (entered entry) item (gate ∷ more) (other ∷ rest) last.0 (item_wide Takes version before item may) same_bytes in
              let takes : MayFollowItems Takes version before (entered entry) = subst (λ (i : Item). MayFollowItems Takes version before i) (sym one.0) may in
              refused (subst (λ (l : List Entry). Takes l entry) found.entries_are takes.1);
        }

    pub refused_at : IsReadUpTo found.version digest (found.before ++ entered entry ∷ []) end bytes → IsDamaged Takes digest place entries bytes
    refused_at upto =
        let some : 1 ≤ length upto.rest =
        omega (arith, found.within, upto.long, ap length upto.is, length-append (front_of found.version digest (found.before ++ entered entry ∷ [])) upto.rest) in
        refused_from upto.rest some upto.is
