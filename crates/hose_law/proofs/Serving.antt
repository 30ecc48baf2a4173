-- The set of links in service, link by link, and what a link taken out or put back makes of it.
use Rattle.std.proofs.Common.{◌≡◌, ◌≢◌, ◌∙◌, ℕ, ◌<◌, ◌||◌, Bool, true, false, not, List, [], ◌∷◌, length, get_or, set, replicate, eqb, refl, sym, ap, inl, inr, arith}
use Rattle.std.proofs.Math.Bool.{or-false, or-true}
use Rattle.std.proofs.lemmas.Bool.{cases_eq, eq-eqb, ne_eqb}
use Rattle.std.proofs.lemmas.List.{get_or-replicate, get_or-set_other, get_or-set_same, length-replicate, length-set, same_lists}
use Rattle.std.proofs.lemmas.List.Folds.{list_any-append}
use Rattle.std.proofs.lemmas.List.FromFn.{get_or-map-range_with_len, length-map-range_with_len}
use Rattle.hose_graph.specs.declared.entry.Entry.TheVariants.{Down, Up}
use Rattle.hose_graph.specs.Network.{Network}
use Rattle.hose_law.specs.Book.{Book}
use Rattle.hose_law.specs.History.{next_book}
use Rattle.hose_law.specs.Room.{first_links}
use Rattle.hose_law.specs.Service.{is_out, links_in_service, put_back, taken_out}
use Rattle.hose_law.specs.Walk.{all_links}

-- a link that is taken out is out, and all others are as they were
pub out_same : (out : List ℕ) (link : ℕ) → is_out (taken_out out link) link ≡ true
out_same out link =
    list_any-append (λ o. eqb o link) out (link ∷ []) ∙ ap (λ (b : Bool). is_out out link || (b || false)) (eq-eqb link link refl) ∙ or-true (is_out out link)

pub out_other : (out : List ℕ) (link l : ℕ) → l ≢ link → is_out (taken_out out link) l ≡ is_out out l
out_other out link l differ =
    list_any-append (λ o. eqb o l) out (link ∷ []) ∙ ap (λ (b : Bool). is_out out l || (b || false)) (ne_eqb link l (λ same. differ (sym same))) ∙ or-false (is_out out l)

-- a link that is put back is in, and all others are as they were
pub back_same : (out : List ℕ) (link : ℕ) → is_out (put_back out link) link ≡ false
back_same [] link = refl
back_same (o ∷ out) link = elim (cases_eq o link) [
  | inl same ↦ rw (eq-eqb o link same) (back_same out link)
  | inr differ ↦ rw (ne_eqb o link differ, ne_eqb o link differ) (back_same out link)
]

pub back_other : (out : List ℕ) (link l : ℕ) → l ≢ link → is_out (put_back out link) l ≡ is_out out l
back_other [] link l differ = refl
back_other (o ∷ out) link l differ = elim (cases_eq o link) [
  | inl same ↦ rw (eq-eqb o link same, ne_eqb o l (λ this. differ (sym this ∙ same))) (back_other out link l differ)
  | inr other ↦ rw (ne_eqb o link other) (ap (λ (b : Bool). eqb o l || b) (back_other out link l differ))
]

module _ (network : Network) where
  pub length-links_in_service : (out : List ℕ) → length (links_in_service network out) ≡ length network.links
  length-links_in_service out = length-map-range_with_len (λ k. not (is_out out k)) 0 (length network.links)

  pub links_in_service-at : (out : List ℕ) (l : ℕ) (d : Bool) → l < length network.links → get_or (links_in_service network out) l d ≡ not (is_out out l)
  links_in_service-at out l d below = get_or-map-range_with_len (λ k. not (is_out out k)) 0 (length network.links) l l d below (omega arith)

  -- where none is out, all links are in service
  pub none_out : links_in_service network [] ≡ all_links network
  none_out =
      let n = length network.links in
      same_lists (links_in_service network []) (replicate n true) (length-links_in_service [] ∙ sym (length-replicate n true))
      (λ k d below.
      let within : k < n = omega (arith, below, length-links_in_service []) in
      links_in_service-at [] k d within ∙ sym (get_or-replicate n k true d within))

  -- where one link changes, one place of the set does
  changed : (link : ℕ) (out new : List ℕ) (value : Bool) → link < length network.links → not (is_out new link) ≡ value → ((l : ℕ) → l ≢ link → is_out new l ≡ is_out out l)
      → links_in_service network new ≡ set (links_in_service network out) link value
  changed link out new value below here others =
      same_lists (links_in_service network new) (set (links_in_service network out) link value)
      (length-links_in_service new ∙ sym (length-set (links_in_service network out) link value ∙ length-links_in_service out)) each
    where
      each : (k : ℕ) (d : Bool) → k < length (links_in_service network new) → get_or (links_in_service network new) k d ≡ get_or (set (links_in_service network out) link value) k d
      each k d inside =
          let within : k < length network.links = omega (arith, inside, length-links_in_service new) in
          elim (cases_eq k link) [
            | inl same ↦ links_in_service-at new k d within ∙ ap (λ (l : ℕ). not (is_out new l)) same ∙ here
                ∙ sym (ap (λ (l : ℕ). get_or (set (links_in_service network out) link value) l d) same
                ∙ get_or-set_same (links_in_service network out) link value d (omega (arith, below, length-links_in_service out)))
            | inr differ ↦ links_in_service-at new k d within ∙ ap not (others k differ)
                ∙ sym (get_or-set_other (links_in_service network out) link k value d differ ∙ links_in_service-at out k d within)
          ]

  -- an entry that takes a link out, or puts one back, changes its place of the set
  pub one_out : (book : Book) (link : ℕ) → link < length network.links → first_links network (next_book book (Down link)) ≡ set (first_links network book) link false
  one_out book link below = changed link book.out (taken_out book.out link) false below (ap not (out_same book.out link)) (λ l differ. out_other book.out link l differ)

  pub one_back : (book : Book) (link : ℕ) → link < length network.links → first_links network (next_book book (Up link)) ≡ set (first_links network book) link true
  one_back book link below = changed link book.out (put_back book.out link) true below (ap not (back_same book.out link)) (λ l differ. back_other book.out link l differ)
