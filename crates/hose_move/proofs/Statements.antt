-- What is stated of the book that a journal leads to.
use Rattle.std.proofs.Common.{◌≡◌, ◌∙◌, ℕ, zero, suc, ◌+◌, ◌<◌, ◌≤◌, List, [], ◌∷◌, ◌++◌, All, filter, length, map, sym, ap, arith, append_assoc}
use Rattle.std.specs.List.{range_with_len}
use Rattle.std.proofs.lemmas.List.{map-append}
use Rattle.std.proofs.lemmas.List.Elements.{All-append, All-filter, All-head, All-map, All-nil, All-tail, filter-append}
use Rattle.std.proofs.lemmas.List.FromFn.{get_or-range_with_len, length-range_with_len}
use Rattle.hose_graph.specs.Limits.{most_links}
use Rattle.hose_graph.specs.Network.{Network}
use Rattle.hose_graph.specs.steps.Ranges.{IsInRanges}
use Rattle.hose_graph.specs.declared.entry.Entry.{Entry}
use Rattle.hose_law.proofs.Entries.{AmountsInRanges, next_ranges}
use Rattle.hose_law.specs.Book.{Book}
use Rattle.hose_law.specs.History.{book_after, book_of, next_book, opening_book}
use Rattle.hose_law.specs.Service.{is_out}
use Rattle.hose_move.specs.Stating.{admission_entry, down_entry, links_out, live_entries}

-- ---- loops

last : (a n j : ℕ) → a + n ≡ j → range_with_len a (suc n) ≡ range_with_len a n ++ j ∷ []
last a zero j e = let same : a ≡ j = omega (arith, e) in ap (λ (k : ℕ). k ∷ []) same
last a (suc n) j e = ap (λ (l : List ℕ). a ∷ l) (last (a + 1) n j (omega (arith, e)))

range_more : (a n j : ℕ) → a + n ≡ j → range_with_len a (n + 1) ≡ range_with_len a n ++ j ∷ []
range_more a n j e = let on : n + 1 ≡ suc n = omega arith in ap (range_with_len a) on ∙ last a n j e

-- the links that are out, and one link more
pub links_more : (book : Book) (count : ℕ) → links_out (count + 1) book ≡ links_out count book ++ filter (is_out book.out) (count ∷ [])
links_more book count = ap (filter (is_out book.out)) (range_more 0 count count (omega arith)) ∙ filter-append (is_out book.out) (range_with_len 0 count) (count ∷ [])

pub entries_more : (book : Book) (count : ℕ) (front mid all : List Entry) → mid ≡ front ++ map down_entry (links_out count book) → all ≡ mid ++ map down_entry (filter (is_out book.out) (count ∷ [])) → all ≡ front ++ map down_entry (links_out (count + 1) book)
entries_more book count front mid all before next =
    let outs = links_out count book in
    let one = filter (is_out book.out) (count ∷ []) in
    next ∙ ap (λ (l : List Entry). l ++ map down_entry one) before ∙ append_assoc front (map down_entry outs) (map down_entry one)
    ∙ ap (λ (l : List Entry). front ++ l) (sym (map-append down_entry outs one) ∙ ap (map down_entry) (sym (links_more book count)))

-- ---- ranges

live_ranges : (book : Book) (entries : List Entry) → All AmountsInRanges book.live → All IsInRanges entries → All AmountsInRanges (book_after book entries).live
live_ranges book [] has are = has
live_ranges book (entry ∷ entries) has are =
    live_ranges (next_book book entry) entries (next_ranges book entry has (All-head IsInRanges entry entries are)) (All-tail IsInRanges entry entries are)

abbrev IsBelow : ℕ → ℕ → Type 0
IsBelow count link = link < count

below_all : (count : ℕ) → All (IsBelow count) (range_with_len 0 count)
below_all count = λ k d below. omega (arith, get_or-range_with_len 0 count k d (omega (arith, below, length-range_with_len 0 count)), below, length-range_with_len 0 count)

all_weaker : {X : Type 0} (P Q : X → Type 0) (xs : List X) → ((x : X) → P x → Q x) → All P xs → All Q xs
all_weaker P Q xs to all = λ k d below. to _ (all k d below)

-- what is stated of a history whose entries are in their ranges is in them
pub stated_ranges : (network : Network) (history : List Entry) → length network.links ≤ most_links → All IsInRanges history → All IsInRanges (live_entries network (book_of 0 history))
stated_ranges network history few are =
    let book = book_of 0 history in
    let count = length network.links in
    let admitted : All IsInRanges (map admission_entry book.live) = All-map IsInRanges admission_entry book.live (live_ranges (opening_book 0) history (All-nil AmountsInRanges) are) in
    let outs : All (IsBelow count) (links_out count book) = All-filter (is_out book.out) (IsBelow count) (range_with_len 0 count) (below_all count) in
    let downs : All IsInRanges (map down_entry (links_out count book)) =
    All-map IsInRanges down_entry (links_out count book) (all_weaker (IsBelow count) (λ link. IsInRanges (down_entry link)) (links_out count book) (λ link below. omega (arith, below, few)) outs) in
    All-append IsInRanges (map admission_entry book.live) (map down_entry (links_out count book)) admitted downs
