-- Links in service and those that are out: what one entry makes of them, and trees of links in service.
use Rattle.std.proofs.Common.{◌≡◌, ◌≢◌, ◌∙◌, ℕ, zero, suc, ◌+◌, ◌<◌, ◌≤◌, ◌||◌, Bool, true, false, not, List, [], ◌∷◌, length, length-append, get_or, set, replicate, eqb, All, Contains, refl, sym, ap, subst, inl, inr, arith}
use Rattle.std.specs.List.{AllPairs, list_any}
use Rattle.std.proofs.lemmas.Bool.{cases_eq, cases_lt, eq-eqb, false≢true, ne_eqb}
use Rattle.std.proofs.lemmas.Bool.Decides.{Decides-eqb}
use Rattle.std.proofs.lemmas.List.{get_or-replicate, get_or-set_other, get_or-set_same, get_or_past, length-replicate, length-set}
use Rattle.std.proofs.lemmas.List.Elements.{All-contains, All-contains_itself, All-filter, All-head, All-nil, All-push, All-tail, All-weaker}
use Rattle.std.proofs.lemmas.List.Kept.{AllPairs-filter}
use Rattle.std.proofs.lemmas.List.Quantifiers.{all_pairs_push}
use Rattle.std.proofs.lemmas.Map.Made.{IsDistinct-from_AllPairs}
use Rattle.std.proofs.lemmas.Map.Steps.{length-le_from_distinct_below}
use Rattle.hose_graph.specs.Network.{Network}
use Rattle.hose_law.specs.Service.{is_out, links_in_service, put_back, taken_out}
use Rattle.hose_law.specs.Tree.{IsTreeReservation, links_of}
use Rattle.hose_law.specs.Walk.{IsIn, all_links}
use Rattle.hose_law.proofs.Reservations.{pair_there, tree_in_reserved}
use Rattle.hose_law.proofs.Serving.{back_other, back_same, links_in_service-at, out_other, out_same}
use Rattle.hose_book.specs.steps.Refusal.{AreInService}
use Rattle.hose_book.specs.steps.Serving.{IsSetInService, Served}

-- ---- what is out

-- a link that is not out is none of those that are
not_among : (out : List ℕ) (link : ℕ) → is_out out link ≡ false → (k d : ℕ) → k < length out → get_or out k d ≢ link
not_among [] link free k d inside same = omega (arith, inside)
not_among (o ∷ out) link free zero d inside same = false≢true (sym free ∙ ap (λ (b : Bool). b || is_out out link) (eq-eqb o link same))
not_among (o ∷ out) link free (suc k) d inside same = not_among out link (rest (eqb o link) free) k d (omega (arith, inside)) same
  where
    rest : (b : Bool) → (b || is_out out link) ≡ false → is_out out link ≡ false
    rest true is = absurd (false≢true (sym is))
    rest false is = is

-- what one of some numbers is, is below what they are below
any_below : (xs : List ℕ) (n : ℕ) → All (λ (x : ℕ). x < n) xs → (q : ℕ) → list_any (eqb q) xs ≡ true → q < n
any_below [] n below q some = absurd (false≢true some)
any_below (x ∷ xs) n below q some = elim (cases_eq q x) [
  | inl same ↦ omega (arith, same, All-head (λ (y : ℕ). y < n) x xs below)
  | inr differ ↦ any_below xs n (All-tail (λ (y : ℕ). y < n) x xs below) q (rest (eqb q x) (ne_eqb q x differ) some)
]
  where
    rest : (b : Bool) → b ≡ false → (b || list_any (eqb q) xs) ≡ true → list_any (eqb q) xs ≡ true
    rest true is found = absurd (false≢true (sym is))
    rest false is found = found

module _ (served : Served) (is : IsSetInService served) (link : ℕ) (inside : link < length served.links) where
  abbrev out : List ℕ
  out = served.out

  abbrev count : ℕ
  count = length served.links

  abbrev after_out : Served
  after_out = record { links = set served.links link false; out = taken_out out link }

  abbrev after_back : Served
  after_back = record { links = set served.links link true; out = put_back out link }

  -- where one link changes among those that are out, its place alone changes in the set
  set_after : (new : List ℕ) (value : Bool) → not (is_out new link) ≡ value → ((l : ℕ) → l ≢ link → is_out new l ≡ is_out out l)
      → (l : ℕ) → l < length (set served.links link value) → get_or (set served.links link value) l false ≡ not (is_out new l)
  set_after new value here others l below = elim (cases_eq l link) [
    | inl same ↦ ap (λ (n : ℕ). get_or (set served.links link value) n false) same ∙ get_or-set_same served.links link value false inside
        ∙ sym (ap (λ (n : ℕ). not (is_out new n)) same ∙ here)
    | inr differ ↦ get_or-set_other served.links link l value false differ ∙ is.each l (omega (arith, below, length-set served.links link value)) ∙ ap not (sym (others l differ))
  ]

  module _ (in_service : get_or served.links link false ≡ true) where
    is_free : is_out out link ≡ false
    is_free = at (is_out out link) (sym (is.each link inside) ∙ in_service)
      where
        at : (b : Bool) → not b ≡ true → b ≡ false
        at true is_in = absurd (false≢true is_in)
        at false is_in = refl

    once_more : AllPairs ◌≢◌ (taken_out out link)
    once_more = all_pairs_push ◌≢◌ out link is.once (λ k d within. not_among out link is_free k d within)

    below_more : All (λ (l : ℕ). l < count) (taken_out out link)
    below_more = All-push (λ (l : ℕ). l < count) out link is.below inside

    -- so there is room for one that is in service
    pub room_left : length out + 1 ≤ count
    room_left =
        let few = length-le_from_distinct_below (taken_out out link) count (IsDistinct-from_AllPairs (λ a b. Decides-eqb a b) (taken_out out link) once_more) (any_below (taken_out out link) count below_more) in
        omega (arith, few, length-append out (link ∷ []))

    pub served_out : IsSetInService after_out
    served_out = record {
      few = omega (arith, is.few, length-set served.links link false);
      each = set_after (taken_out out link) false (ap not (out_same out link)) (out_other out link);
      below = subst (λ (n : ℕ). All (λ (l : ℕ). l < n) (taken_out out link)) (sym (length-set served.links link false)) below_more;
      once = once_more;
    }

  pub served_back : IsSetInService after_back
  served_back = record {
    few = omega (arith, is.few, length-set served.links link true);
    each = set_after (put_back out link) true (ap not (back_same out link)) (back_other out link);
    below = subst (λ (n : ℕ). All (λ (l : ℕ). l < n) (put_back out link)) (sym (length-set served.links link true)) (All-filter (λ o. not (eqb o link)) (λ (l : ℕ). l < count) out is.below);
    once = AllPairs-filter ◌≢◌ (λ o. not (eqb o link)) out is.once;
  }

-- where none is out, all are in service
pub served_all : (count : ℕ) → count ≤ 2048 → IsSetInService (record { links = replicate count true; out = [] })
served_all count few = record {
  few = omega (arith, few, length-replicate count true);
  each = λ l below. get_or-replicate count l true false (omega (arith, below, length-replicate count true));
  below = All-nil (λ (l : ℕ). l < length (replicate count true));
  once = λ i j d less below. absurd (omega (arith, below));
}

-- ---- trees of links in service

module _ (network : Network) (set : List Bool) (hose amounts : List (ℕ × ℕ)) (reserved : IsTreeReservation network set hose amounts) where
  -- a tree is over each set that has its links
  pub over_other : (other : List Bool) → ((l : ℕ) → Contains (links_of reserved.tree) l → IsIn other l) → IsTreeReservation network other hose amounts
  over_other other within = record {
    tree = reserved.tree;
    is_tree = reserved.is_tree;
    over = All-weaker (Contains (links_of reserved.tree)) (IsIn other) within (links_of reserved.tree) (All-contains_itself (links_of reserved.tree));
    joins = reserved.joins;
    reserves = reserved.reserves;
    some = reserved.some;
  }

  -- a tree over links of the network is one of all links
  pub on_tree : length set ≡ length network.links → IsTreeReservation network (all_links network) hose amounts
  on_tree places = over_other (all_links network) (λ l there. is_link l (All-contains (IsIn set) (links_of reserved.tree) l reserved.over there))
    where
      is_link : (l : ℕ) → IsIn set l → IsIn (all_links network) l
      is_link l is = elim (cases_lt l (length set)) [
        | inl below ↦ get_or-replicate (length network.links) l true false (omega (arith, below, places))
        | inr past ↦ absurd (false≢true (sym (get_or_past set l false (omega (arith, past))) ∙ is))
      ]

  -- the amounts of a tree over a set are on links of it
  pub served_on : AreInService set amounts
  served_on =
      All-weaker (Contains amounts) (λ (pair : ℕ × ℕ). IsIn set pair.0)
      (λ pair there. All-contains (IsIn set) (links_of reserved.tree) pair.0 reserved.over ((reserved.reserves.each pair.0 pair.1).0 there).0) amounts (All-contains_itself amounts)

  -- where all amounts of a tree are on links of another set, it is a tree over that
  pub over_served : (other : List Bool) → AreInService other amounts → IsTreeReservation network other hose amounts
  over_served other served = over_other other (λ l there.
      let found = pair_there amounts l (tree_in_reserved reserved.tree hose amounts reserved.reserves l there) in
      All-contains (λ (pair : ℕ × ℕ). IsIn other pair.0) amounts (l, found.0) served found.1)

-- where no link is out, all links of amounts are in service
pub all_served : (network : Network) (out : List ℕ) (amounts : List (ℕ × ℕ)) → out ≡ [] → All (λ (pair : ℕ × ℕ). pair.0 < length network.links) amounts → AreInService (links_in_service network out) amounts
all_served network out amounts none on =
    All-weaker (λ (pair : ℕ × ℕ). pair.0 < length network.links) (λ (pair : ℕ × ℕ). IsIn (links_in_service network out) pair.0)
    (λ pair below. links_in_service-at network out pair.0 false below ∙ ap (λ (them : List ℕ). not (is_out them pair.0)) none) amounts on
