-- Changes with those of an entry more: they track the history with the entry, and stand in order.
use Rattle.std.proofs.Common.{◌≡◌, ◌⊎◌, ◌∙◌, ℕ, ◌+◌, ◌-◌, ◌<◌, ◌≤◌, Bool, true, false, List, [], ◌∷◌, ◌++◌, Contains, drop, get_or, length, nat_lt, take, inl, inr, refl, sym, ap, subst, arith, cond}
use Rattle.std.proofs.lemmas.Bool.{cases_eq, cases_lt}
use Rattle.std.proofs.lemmas.List.{append-nil, append_assoc, get_or-append_right, get_or-map, get_or-take, get_or_append_left, length-append, length-map, length-take-le, take-append-drop}
use Rattle.std.proofs.lemmas.List.Kept.{AllPairs-from_increasing}
use Rattle.std.proofs.lemmas.List.Elements.{Contains-append_cases, All-get_or, All-push, All-weaker, All-nil}
use Rattle.std.proofs.lemmas.List.Quantifiers.{all_pairs_push}
use Rattle.hose_graph.specs.declared.entry.Entry.{Entry}
use Rattle.hose_law.specs.Book.{Book}
use Rattle.hose_law.specs.History.{book_of, opening_book}
use Rattle.hose_law.specs.steps.Tracks.{Tracks, changes_of, touched_links}
use Rattle.hose_law.specs.Recent.{Change, Recent}
use Rattle.hose_law.proofs.Epochs.{epoch_after}
use Rattle.hose_law.proofs.Tracked.{tracks_anew, tracks_more}
use Rattle.std.specs.List.Sorted.{IsStrictlyIncreasing}
use Rattle.hose_book.specs.steps.Changes.{AreInOrder, AreUpTo, AscendByLinks, opening_recent, with_changes}
use Rattle.hose_book.specs.Ledger.{HasBookOf, Ledger}
use Rattle.hose_book.specs.steps.Ledger.{TracksOn, next_ledger}
use Rattle.hose_book.specs.declared.recent.TheConstants.{MOST_CHANGES}

-- the next ledger tracks the history with the entry
pub tracks_next : (ledger : Ledger) (entry : Entry) (epoch : ℕ) (history : List Entry) → HasBookOf epoch history ledger → Tracks epoch history ledger.recent
    → Tracks epoch (history ++ entry ∷ []) (next_ledger ledger entry).recent
tracks_next ledger entry epoch history same tracks =
    let now : Book → Recent = λ b. with_changes ledger.recent b.epoch (touched_links b entry) in
    let links = touched_links (book_of epoch history) entry in
    subst (λ (b : Book). Tracks epoch (history ++ entry ∷ []) (now b)) (sym same)
    (by_room (nat_lt MOST_CHANGES (length ledger.recent.changes + length links)))
  where
    by_room : (over : Bool) → Tracks epoch (history ++ entry ∷ []) (cond over
        (record { floor = (book_of epoch history).epoch; changes = changes_of ((book_of epoch history).epoch + 1) (touched_links (book_of epoch history) entry) })
        (record { floor = ledger.recent.floor; changes = ledger.recent.changes ++ changes_of ((book_of epoch history).epoch + 1) (touched_links (book_of epoch history) entry) }))
    by_room true = tracks_anew epoch history entry
    by_room false = tracks_more epoch history ledger.recent entry tracks

-- so does a ledger that is the next one
pub tracks_on : (old new : Ledger) (entry told : Entry) → new ≡ next_ledger old told → entry ≡ told → TracksOn old entry new
tracks_on old new entry told next is = λ epoch history same tracks.
    subst (λ (l : Ledger). Tracks epoch (history ++ entry ∷ []) l.recent) (sym (next ∙ ap (next_ledger old) (sym is))) (tracks_next old entry epoch history same tracks)

-- where changes stand in order and none is of a later epoch, one of the epoch may follow
in_order_push : (changes : List Change) (epoch link : ℕ) → AreInOrder changes → AreUpTo epoch changes → AreInOrder (changes ++ (epoch, link) ∷ [])
in_order_push changes epoch link order up_to =
    all_pairs_push (λ (one other : Change). one.0 ≤ other.0) changes (epoch, link) order (λ k d within. All-get_or (λ (change : Change). change.0 ≤ epoch) changes k d within up_to)

up_to_push : (changes : List Change) (epoch link : ℕ) → AreUpTo epoch changes → AreUpTo epoch (changes ++ (epoch, link) ∷ [])
up_to_push changes epoch link up_to = All-push (λ (change : Change). change.0 ≤ epoch) changes (epoch, link) up_to (omega arith)

-- and so may those of links
up_to_with : (changes : List Change) (epoch : ℕ) (links : List ℕ) → AreUpTo epoch changes → AreUpTo epoch (changes ++ changes_of epoch links)
up_to_with changes epoch [] up_to = subst (AreUpTo epoch) (sym (append-nil changes)) up_to
up_to_with changes epoch (link ∷ links) up_to =
    subst (AreUpTo epoch) (append_assoc changes ((epoch, link) ∷ []) (changes_of epoch links))
    (up_to_with (changes ++ (epoch, link) ∷ []) epoch links (up_to_push changes epoch link up_to))

in_order_with : (changes : List Change) (epoch : ℕ) (links : List ℕ) → AreInOrder changes → AreUpTo epoch changes → AreInOrder (changes ++ changes_of epoch links)
in_order_with changes epoch [] order up_to = subst AreInOrder (sym (append-nil changes)) order
in_order_with changes epoch (link ∷ links) order up_to =
    subst AreInOrder (append_assoc changes ((epoch, link) ∷ []) (changes_of epoch links))
    (in_order_with (changes ++ (epoch, link) ∷ []) epoch links (in_order_push changes epoch link order up_to) (up_to_push changes epoch link up_to))

-- no change is of a later epoch than the next one
up_to_next : (changes : List Change) (epoch : ℕ) → AreUpTo epoch changes → AreUpTo (epoch + 1) changes
up_to_next changes epoch up_to = All-weaker (λ (change : Change). change.0 ≤ epoch) (λ (change : Change). change.0 ≤ epoch + 1) (λ change below. omega (arith, below)) changes up_to

-- changes with those of an epoch more are up to it, though the earlier ones may have gone
module _ (recent : Recent) (epoch : ℕ) (links : List ℕ) where
  abbrev over : Bool
  over = nat_lt MOST_CHANGES (length recent.changes + length links)

  pub with_up_to : AreUpTo epoch recent.changes → AreUpTo (epoch + 1) (with_changes recent epoch links).changes
  with_up_to up_to = by_room over
    where
      by_room : (b : Bool) → AreUpTo (epoch + 1) (cond {A = Recent} b (record { floor = epoch; changes = changes_of (epoch + 1) links }) (record { floor = recent.floor; changes = recent.changes ++ changes_of (epoch + 1) links })).changes
      by_room true = up_to_with [] (epoch + 1) links (All-nil (λ (change : Change). change.0 ≤ epoch + 1))
      by_room false = up_to_with recent.changes (epoch + 1) links (up_to_next recent.changes epoch up_to)

  pub floor_next : recent.floor ≤ epoch → (with_changes recent epoch links).floor ≤ epoch + 1
  floor_next below = by_room over
    where
      by_room : (b : Bool) → (cond {A = Recent} b (record { floor = epoch; changes = changes_of (epoch + 1) links }) (record { floor = recent.floor; changes = recent.changes ++ changes_of (epoch + 1) links })).floor ≤ epoch + 1
      by_room true = omega arith
      by_room false = omega (arith, below)

-- changes of the next epoch stand in order behind those of no later one than this
pub in_order_next : (changes : List Change) (epoch : ℕ) (links : List ℕ) → AreInOrder changes → AreUpTo epoch changes → AreInOrder (changes ++ changes_of (epoch + 1) links)
in_order_next changes epoch links order up_to = in_order_with changes (epoch + 1) links order (up_to_next changes epoch up_to)

-- a change of links that stand behind others
behind : (changes : List Change) (epoch : ℕ) (links : List ℕ) (i : ℕ) (d : Change) → length changes ≤ i → i < length (changes ++ changes_of epoch links)
    → get_or (changes ++ changes_of epoch links) i d ≡ (epoch, get_or links (i - length changes) 0)
behind changes epoch links i d late within =
    let short : i - length changes < length links = omega (arith, late, within, length-append changes (changes_of epoch links), length-map {B = Change} links (λ (link : ℕ). (epoch, link))) in
    get_or-append_right changes (changes_of epoch links) (length changes) i d refl late
    ∙ get_or-map (λ (link : ℕ). (epoch, link)) links (i - length changes) 0 d short

-- changes of the next epoch, whose links ascend, keep that those of one epoch do
ascending_at : (changes : List Change) (epoch : ℕ) (links : List ℕ) → AscendByLinks changes → AreUpTo epoch changes → IsStrictlyIncreasing links → (i j : ℕ) (d : Change) → i < j → j < length (changes ++ changes_of (epoch + 1) links)
    → (get_or (changes ++ changes_of (epoch + 1) links) i d).0 ≡ (get_or (changes ++ changes_of (epoch + 1) links) j d).0 → (i < length changes) ⊎ (length changes ≤ i) → (j < length changes) ⊎ (length changes ≤ j)
    → (get_or (changes ++ changes_of (epoch + 1) links) i d).1 < (get_or (changes ++ changes_of (epoch + 1) links) j d).1
ascending_at changes epoch links ascend up_to rising i j d before within same first (inl early) =
    let one = get_or_append_left changes (changes_of (epoch + 1) links) d i (omega (arith, before, early)) in
    let other = get_or_append_left changes (changes_of (epoch + 1) links) d j early in
    let alike = ap (λ (change : Change). change.0) (sym one) ∙ same ∙ ap (λ (change : Change). change.0) other in
    omega (arith, ascend i j d before early alike, ap (λ (change : Change). change.1) one, ap (λ (change : Change). change.1) other)
ascending_at changes epoch links ascend up_to rising i j d before within same (inl early) (inr late) =
    let one = get_or_append_left changes (changes_of (epoch + 1) links) d i early in
    let other = behind changes (epoch + 1) links j d late within in
    let below = All-get_or (λ (change : Change). change.0 ≤ epoch) changes i d early up_to in
    absurd (omega (arith, below, same, ap (λ (change : Change). change.0) one, ap (λ (change : Change). change.0) other))
ascending_at changes epoch links ascend up_to rising i j d before within same (inr after) (inr late) =
    let one = behind changes (epoch + 1) links i d after (omega (arith, before, within)) in
    let other = behind changes (epoch + 1) links j d late within in
    let short : j - length changes < length links = omega (arith, late, within, length-append changes (changes_of (epoch + 1) links), length-map {B = Change} links (λ (link : ℕ). (epoch + 1, link))) in
    let rises = AllPairs-from_increasing links rising (i - length changes) (j - length changes) 0 (omega (arith, before, after, late)) short in
    omega (arith, rises, ap (λ (change : Change). change.1) one, ap (λ (change : Change). change.1) other)

pub ascend_next : (changes : List Change) (epoch : ℕ) (links : List ℕ) → AscendByLinks changes → AreUpTo epoch changes → IsStrictlyIncreasing links → AscendByLinks (changes ++ changes_of (epoch + 1) links)
ascend_next changes epoch links ascend up_to rising i j d before within same =
    ascending_at changes epoch links ascend up_to rising i j d before within same (cases_lt i (length changes)) (cases_lt j (length changes))

-- changes in order rise by their epochs
pub rise_in_order : (changes : List Change) → AreInOrder changes → (i j : ℕ) (d : Change) → i ≤ j → j < length changes → (get_or changes i d).0 ≤ (get_or changes j d).0
rise_in_order changes order i j d up_to within = elim (cases_eq i j) [
  | inl same ↦ omega (arith, ap (λ (n : ℕ). (get_or changes n d).0) same)
  | inr other ↦ order i j d (omega (arith, up_to, other)) within
]

-- changes before a place are up to an epoch where each of them is
pub up_to_front : (changes : List Change) (seen from : ℕ) → from ≤ length changes → ((k : ℕ) (d : Change) → k < from → (get_or changes k d).0 ≤ seen)
    → AreUpTo seen (take from changes)
up_to_front changes seen from inside each k d within =
    let long : k < from = omega (arith, within, length-take-le from changes inside) in
    omega (arith, each k d long, ap (λ (change : Change). change.0) (get_or-take from changes k d long))

-- what is of a later epoch than those before a place is among the others
pub contains_since : (changes : List Change) (seen from epoch link : ℕ) → from ≤ length changes → AreUpTo seen (take from changes) → seen < epoch → Contains changes (epoch, link) → Contains (drop from changes) (epoch, link)
contains_since changes seen from epoch link inside before above there =
    elim (Contains-append_cases (take from changes) (drop from changes) (epoch, link) (subst (λ (c : List Change). Contains c (epoch, link)) (sym (take-append-drop from changes)) there)) [
      | inl early ↦ (let below = All-get_or (λ (change : Change). change.0 ≤ seen) (take from changes) early.0 (epoch, link) early.1 before in
          absurd (omega (arith, below, above, ap (λ (change : Change). change.0) early.2)))
      | inr late ↦ late
    ]

-- no changes, above the epoch of the book, track the history whose book it is
pub tracks_none : (epoch : ℕ) (history : List Entry) (ledger : Ledger) → HasBookOf epoch history ledger → Tracks epoch history (opening_recent ledger.book.epoch)
tracks_none epoch history ledger same = record {
  before = history;
  since = [];
  whole = sym (append-nil history);
  floor = ap (λ (b : Book). b.epoch) same ∙ epoch_after (opening_book epoch) history;
  changes = refl;
}
