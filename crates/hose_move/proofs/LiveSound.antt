-- What is live at the book of a sound history is sound on its network.
use Rattle.std.specs.List.{range_with_len}
use Rattle.std.proofs.Common.{◌≡◌, ◌≢◌, ◌∙◌, ℕ, zero, suc, ◌+◌, ◌-◌, ◌<◌, ◌≤◌, Bool, true, false, cond, eqb, not, List, [], ◌∷◌, ◌++◌, All, filter, get_or, length, map, sum_by, inl, inr, refl, sym, ap, subst, arith}
use Rattle.std.proofs.lemmas.Bool.{cases_lt, eq-eqb, false≢true}
use Rattle.std.proofs.lemmas.List.{get_or-replicate, get_or_past, length-append}
use Rattle.std.proofs.lemmas.List.Elements.{All-filter, All-head, All-nil, All-push, All-tail, All-weaker}
use Rattle.std.proofs.lemmas.List.Filters.{length-filter_both}
use Rattle.std.proofs.lemmas.List.Sums.{sum_by-cons, sum_by_push}
use Rattle.hose_graph.specs.Limits.{most_epoch, most_live}
use Rattle.hose_graph.specs.Network.{IsNetwork, Network}
use Rattle.hose_graph.specs.declared.entry.Entry.{Entry}
use Rattle.hose_graph.specs.declared.entry.Entry.TheVariants.{Admit, Down, Release, Up}
use Rattle.hose_graph.specs.declared.entry.Vpn.{Vpn}
use Rattle.hose_law.specs.Book.{Book, amount_on, load_of, loads_of}
use Rattle.hose_law.specs.Decision.{Fits}
use Rattle.hose_law.specs.History.{AreFrom, IsSound, IsSoundAt, book_after, book_of, is_vpn, next_book, opening_book}
use Rattle.hose_law.specs.Room.{first_links, room_of}
use Rattle.hose_law.specs.Service.{is_out, links_in_service}
use Rattle.hose_law.specs.Tree.{IsTreeReservation, links_of}
use Rattle.hose_law.specs.Walk.{IsIn, all_links, capacity_of}
use Rattle.hose_law.proofs.Bounds.{reserved_links}
use Rattle.hose_law.proofs.Entries.{NoneOversold, entry_keeps}
use Rattle.hose_law.proofs.Rooms.{free_rates-at, loads_of-at}
use Rattle.hose_law.proofs.Serving.{length-links_in_service, none_out, out_other}
use Rattle.hose_move.specs.Stating.{admission_entry, down_entry, live_entries}

-- ---- amounts

-- what a pair adds to the amounts on a link
abbrev counted : ℕ → ℕ × ℕ → ℕ
counted l pair = cond (eqb pair.0 l) pair.1 0

-- an amount of a plan is within what the plan reserves on its link
amount_at : (plan : List (ℕ × ℕ)) (k : ℕ) (d : ℕ × ℕ) → k < length plan → (get_or plan k d).1 ≤ amount_on (get_or plan k d).0 plan
amount_at [] k d below = absurd (omega (arith, below))
amount_at (pair ∷ plan) zero d below =
    let here : cond (eqb pair.0 pair.0) pair.1 0 ≡ pair.1 = rw (eq-eqb pair.0 pair.0 refl) refl in
    omega (arith, sum_by-cons (counted pair.0) pair plan, here)
amount_at (pair ∷ plan) (suc k) d below =
    omega (arith, sum_by-cons (counted (get_or plan k d).0) pair plan, amount_at plan k d (omega (arith, below)))

module _ (network : Network) (is_network : IsNetwork network) where
  -- ---- what a sound history leads to

  abbrev IsOnTree : Vpn → Type 0
  IsOnTree vpn = IsTreeReservation network (all_links network) vpn.hose vpn.amounts

  -- no link is oversold, each VPN has what its hose reserves on some tree, and there are not too many
  record Holds (book : Book) : Type 0 where
    pub trees : All IsOnTree book.live
    pub few : length book.live ≤ most_live
    pub sold : NoneOversold network book

  -- a tree over links in service is one over all links
  over_all : (set : List Bool) (hose plan : List (ℕ × ℕ)) → length set ≡ length network.links → IsTreeReservation network set hose plan → IsTreeReservation network (all_links network) hose plan
  over_all set hose plan places reserved = record {
    tree = reserved.tree;
    is_tree = reserved.is_tree;
    over = All-weaker (IsIn set) (IsIn (all_links network)) is_link (links_of reserved.tree) reserved.over;
    joins = reserved.joins;
    reserves = reserved.reserves;
    some = reserved.some;
  }
    where
      is_link : (l : ℕ) → IsIn set l → IsIn (all_links network) l
      is_link l is = elim (cases_lt l (length set)) [
        | inl below ↦ get_or-replicate (length network.links) l true false (omega (arith, below, places))
        | inr past ↦ absurd (false≢true (sym (get_or_past set l false (omega (arith, past))) ∙ is))
      ]

  holds_next : (book : Book) (entry : Entry) → IsSoundAt network book entry → Holds book → Holds (next_book book entry)
  holds_next book (Admit customer hose plan) sound has =
      let vpn : Vpn = record { id = book.epoch + 1; customer = customer; hose = hose; amounts = plan } in
      record {
        trees = All-push IsOnTree book.live vpn has.trees (over_all (first_links network book) hose plan (length-links_in_service network book.out) sound.2.on_tree);
        few = omega (arith, sound.1, length-append book.live (vpn ∷ []));
        sold = entry_keeps network book (Admit customer hose plan) sound has.sold;
      }
  holds_next book (Release customer id) sound has =
      let stays : Vpn → Bool = λ vpn. not (is_vpn customer id vpn) in
      record {
        trees = All-filter stays IsOnTree book.live has.trees;
        few = omega (arith, has.few, length-filter_both stays (λ vpn. not (stays vpn)) (λ _. refl) book.live);
        sold = entry_keeps network book (Release customer id) sound has.sold;
      }
  holds_next book (Down link) sound has = record { trees = has.trees; few = has.few; sold = entry_keeps network book (Down link) sound has.sold }
  holds_next book (Up link) sound has = record { trees = has.trees; few = has.few; sold = entry_keeps network book (Up link) sound has.sold }

  holds_after : (book : Book) (history : List Entry) → AreFrom IsSoundAt network book 0 history → Holds book → Holds (book_after book history)
  holds_after book [] sound has = has
  holds_after book (entry ∷ history) sound has = holds_after (next_book book entry) history sound.1 (holds_next book entry sound.0 has)

  -- ---- admissions of what is live

  abbrev on_link : ℕ → Vpn → ℕ
  on_link l vpn = amount_on l vpn.amounts

  -- what is still to be admitted has room beside what was
  record HasRoom (start : Book) (live : List Vpn) : Type 0 where
    pub none_out : start.out ≡ []
    pub trees : All IsOnTree live
    pub few : length start.live + length live ≤ most_live
    pub room : (l : ℕ) → load_of start l + sum_by (on_link l) live ≤ capacity_of network l

  fits : (start : Book) (vpn : Vpn) → IsOnTree vpn → ((l : ℕ) → load_of start l + on_link l vpn ≤ capacity_of network l) → Fits (room_of network start).free vpn.amounts
  fits start vpn tree room k d below =
      let pair = get_or vpn.amounts k d in
      let is_link = reserved_links network is_network (all_links network) vpn.hose vpn.amounts tree k d below in
      omega (arith, amount_at vpn.amounts k d below, room pair.0, free_rates-at network (loads_of network start) pair.0 is_link, loads_of-at network start pair.0 is_link)

  sound_admission : (start : Book) (vpn : Vpn) (live : List Vpn) → HasRoom start (vpn ∷ live) → start.epoch < most_epoch → IsSoundAt network start (admission_entry vpn)
  sound_admission start vpn live has before =
      let tree = All-head IsOnTree vpn live has.trees in
      let all : links_in_service network start.out ≡ all_links network = ap (links_in_service network) has.none_out ∙ none_out network in (
        before,
        omega (arith, has.few),
        record {
          on_tree = subst (λ (set : List Bool). IsTreeReservation network set vpn.hose vpn.amounts) (sym all) tree;
          fits = fits start vpn tree (λ l. omega (arith, has.room l, sum_by-cons (on_link l) vpn live));
        },
      )

  room_next : (start : Book) (vpn : Vpn) (live : List Vpn) → HasRoom start (vpn ∷ live) → HasRoom (next_book start (admission_entry vpn)) live
  room_next start vpn live has =
      let made : Vpn = record vpn { id = start.epoch + 1 } in
      record {
        none_out = has.none_out;
        trees = All-tail IsOnTree vpn live has.trees;
        few = omega (arith, has.few, length-append start.live (made ∷ []));
        room = λ l. omega (arith, has.room l, sum_by-cons (on_link l) vpn live, sum_by_push (on_link l) start.live made);
      }

  -- ---- links that are taken out

  downs_sound : (is : ℕ → Bool) (count from : ℕ) (start : Book) → from + count ≤ length network.links → ((l : ℕ) → from ≤ l → is_out start.out l ≡ false) → start.epoch + count ≤ most_epoch → AreFrom IsSoundAt network start 0 (map down_entry (filter is (range_with_len from count)))
  downs_sound is zero from start within in_service few = tt
  downs_sound is (suc count) from start within in_service few =
      at (is from) refl
      (downs_sound is count (from + 1) (next_book start (Down from)) (omega (arith, within)) (λ l above. out_other start.out from l (λ same. omega (arith, above, same)) ∙ in_service l (omega (arith, above))) (omega (arith, few)))
      (downs_sound is count (from + 1) start (omega (arith, within)) (λ l above. in_service l (omega (arith, above))) (omega (arith, few)))
    where
      at : (found : Bool) → is from ≡ found → AreFrom IsSoundAt network (next_book start (Down from)) 0 (map down_entry (filter is (range_with_len (from + 1) count)))
          → AreFrom IsSoundAt network start 0 (map down_entry (filter is (range_with_len (from + 1) count))) → AreFrom IsSoundAt network start 0 (map down_entry (filter is (range_with_len from (suc count))))
      at true same taken left = rw same ((omega (arith, few), (omega (arith, within), in_service from (omega arith))), taken)
      at false same taken left = rw same left

  -- ---- both

  live_from : (is : ℕ → Bool) (live : List Vpn) (start : Book) → HasRoom start live → start.epoch + length live + length network.links ≤ most_epoch
      → AreFrom IsSoundAt network start 0 (map admission_entry live ++ map down_entry (filter is (range_with_len 0 (length network.links))))
  live_from is [] start has few =
      downs_sound is (length network.links) 0 start (omega arith) (λ l above. ap (λ (out : List ℕ). is_out out l) has.none_out) (omega (arith, few))
  live_from is (vpn ∷ live) start has few = (
    sound_admission start vpn live has (omega (arith, few)),
    live_from is live (next_book start (admission_entry vpn)) (room_next start vpn live has) (omega (arith, few)),
  )

  pub live_sound : (history : List Entry) → IsSound network 0 history → IsSound network 0 (live_entries network (book_of 0 history))
  live_sound history sound =
      let book = book_of 0 history in
      let has = holds_after (opening_book 0) history sound (record { trees = All-nil IsOnTree; few = omega arith; sold = λ l. omega arith }) in
      live_from (is_out book.out) book.live (opening_book 0) (record { none_out = refl; trees = has.trees; few = omega (arith, has.few); room = λ l. omega (arith, has.sold l) }) (omega (arith, has.few, is_network.few_links))
