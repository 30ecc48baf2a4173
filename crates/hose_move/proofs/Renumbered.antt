-- What is live at a book leads to this book with other numbers.
use Rattle.std.proofs.Common.{◌≡◌, ◌∙◌, ℕ, ◌+◌, List, [], ◌∷◌, ◌++◌, length, map, refl, sym, ap, append_assoc, append-nil}
use Rattle.hose_graph.specs.Network.{Network}
use Rattle.hose_graph.specs.declared.entry.Entry.{Entry}
use Rattle.hose_graph.specs.declared.entry.Vpn.{Vpn}
use Rattle.hose_law.specs.Book.{Book, amount_on}
use Rattle.hose_law.specs.History.{book_after, next_book, opening_book}
use Rattle.std.specs.List.{fold, sum_by}
use Rattle.hose_move.specs.steps.Renumbering.{IsRenumbered, live_book, renumbered}
use Rattle.hose_move.specs.Stating.{admission_entry, down_entry, links_out}

after_both : (start : Book) (xs ys : List Entry) → book_after start (xs ++ ys) ≡ book_after (book_after start xs) ys
after_both start [] ys = refl
after_both start (x ∷ xs) ys = after_both (next_book start x) xs ys

-- after admissions
admitted_live : (start : Book) (live : List Vpn) → (book_after start (map admission_entry live)).live ≡ start.live ++ renumbered (start.epoch + 1) live
admitted_live start [] = sym (append-nil start.live)
admitted_live start (vpn ∷ live) =
    admitted_live (next_book start (admission_entry vpn)) live
    ∙ append_assoc start.live (record vpn { id = start.epoch + 1 } ∷ []) (renumbered (start.epoch + 1 + 1) live)

admitted_out : (start : Book) (live : List Vpn) → (book_after start (map admission_entry live)).out ≡ start.out
admitted_out start [] = refl
admitted_out start (vpn ∷ live) = admitted_out (next_book start (admission_entry vpn)) live

-- after links that are taken out
downed_live : (start : Book) (links : List ℕ) → (book_after start (map down_entry links)).live ≡ start.live
downed_live start [] = refl
downed_live start (link ∷ links) = downed_live (next_book start (down_entry link)) links

downed_out : (start : Book) (links : List ℕ) → (book_after start (map down_entry links)).out ≡ start.out ++ links
downed_out start [] = sym (append-nil start.out)
downed_out start (link ∷ links) = downed_out (next_book start (down_entry link)) links ∙ append_assoc start.out (link ∷ []) links

-- the amounts are the same
same_sums : (start number link : ℕ) (live : List Vpn) → fold (λ (a : ℕ) (vpn : Vpn). a + amount_on link vpn.amounts) start (renumbered number live) ≡ fold (λ (a : ℕ) (vpn : Vpn). a + amount_on link vpn.amounts) start live
same_sums start number link [] = refl
same_sums start number link (vpn ∷ live) = same_sums (start + amount_on link vpn.amounts) (number + 1) link live

same_loads : (number link : ℕ) (live : List Vpn) → sum_by (λ (vpn : Vpn). amount_on link vpn.amounts) (renumbered number live) ≡ sum_by (λ (vpn : Vpn). amount_on link vpn.amounts) live
same_loads number link live = same_sums 0 number link live

module _ (network : Network) (book : Book) where
  abbrev links : List ℕ
  links = links_out (length network.links) book

  abbrev admitted : Book
  admitted = book_after (opening_book 0) (map admission_entry book.live)

  both : live_book network book ≡ book_after admitted (map down_entry links)
  both = after_both (opening_book 0) (map admission_entry book.live) (map down_entry links)

  same_live : (live_book network book).live ≡ renumbered 1 book.live
  same_live = ap (λ (b : Book). b.live) both ∙ downed_live admitted links ∙ admitted_live (opening_book 0) book.live

  pub is_renumbered : IsRenumbered network book
  is_renumbered = record {
    live = same_live;
    loads = λ link. ap (λ (live : List Vpn). sum_by (λ (vpn : Vpn). amount_on link vpn.amounts) live) same_live ∙ same_loads 1 link book.live;
    out = ap (λ (b : Book). b.out) both ∙ downed_out admitted links ∙ ap (λ (out : List ℕ). out ++ links) (admitted_out (opening_book 0) book.live);
  }
