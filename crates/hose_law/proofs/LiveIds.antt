-- In every book of a history the live VPNs' ids rise, above the first epoch and up to the book's, so that no two are the same.
use Rattle.std.proofs.Common.{◌≡◌, ◌≢◌, ℕ, List, [], ◌∷◌, get_or, Contains, ap, sym, ◌∙◌, inl, inr, arith}
use Rattle.std.specs.List.{AllPairs}
use Rattle.std.proofs.lemmas.Bool.{cases_order}
use Rattle.std.proofs.lemmas.List.{get_or_default}
use Rattle.std.proofs.lemmas.List.Elements.{All-nil}
use Rattle.hose_graph.specs.declared.entry.Vpn.{Vpn}
use Rattle.hose_graph.specs.declared.entry.Entry.{Entry}
use Rattle.hose_law.proofs.Entries.{rising_next}
use Rattle.hose_law.specs.Book.{Book}
use Rattle.hose_law.specs.History.{opening_book, next_book, book_after, book_of}
use Rattle.hose_law.specs.steps.Live.{HasRisingIds, IsBetween}

rising_after : (first : ℕ) (book : Book) (entries : List Entry) → HasRisingIds first book → HasRisingIds first (book_after book entries)
rising_after first book [] ids = ids
rising_after first book (entry ∷ entries) ids = rising_after first (next_book book entry) entries (rising_next first book entry ids)

-- in every book of a history, sound or not, the ids rise
pub rising_ids : (epoch : ℕ) (history : List Entry) → HasRisingIds epoch (book_of epoch history)
rising_ids epoch history = rising_after epoch (opening_book epoch) history (record {
  begun = omega arith;
  rise = λ i j d less below. absurd (omega (arith, below));
  between = All-nil (IsBetween epoch epoch);
})

-- no two live VPNs have the same id
abbrev pub HasDistinctIds : Book → Type 0
HasDistinctIds book = AllPairs (λ (one other : Vpn). one.id ≢ other.id) book.live

pub live_ids : (epoch : ℕ) (history : List Entry) → HasDistinctIds (book_of epoch history)
live_ids epoch history i j d less below same =
    let rises = (rising_ids epoch history).rise i j d less below in
    omega (arith, rises, same)

-- where ids are distinct, a number is that of one live VPN
pub vpn_unique : (book : Book) (one other : Vpn) → HasDistinctIds book → Contains book.live one → Contains book.live other → one.id ≡ other.id → one ≡ other
vpn_unique book one other distinct here there same =
    let read : get_or book.live there.0 one ≡ other = get_or_default book.live there.0 one other there.1 ∙ there.2 in
    let first : (get_or book.live here.0 one).id ≡ one.id = ap (λ (v : Vpn). v.id) here.2 in
    let second : (get_or book.live there.0 one).id ≡ other.id = ap (λ (v : Vpn). v.id) read in
    elim (cases_order here.0 there.0) [
      | inl places ↦ sym here.2 ∙ ap (λ (k : ℕ). get_or book.live k one) places ∙ read
      | inr apart ↦ elim apart [
        | inl before ↦ absurd (distinct here.0 there.0 one before there.1 (first ∙ same ∙ sym second))
        | inr behind ↦ absurd (distinct there.0 here.0 one behind here.1 (second ∙ sym same ∙ sym first))
      ]
    ]
