-- What holds of an entry of each kind. Each lemma that goes by cases over entries stands here, and others cite it.
use Rattle.std.proofs.Common.{◌≡◌, ◌≢◌, ◌∙◌, ◌⊎◌, ℕ, ◌+◌, ◌<◌, ◌≤◌, Bool, true, List, [], ◌∷◌, ◌++◌, Option, None, Some, length, get_or, not, filter, sum_by, All, Contains, refl, sym, ap, subst, inl, inr, arith, cond, eqb}
use Rattle.std.specs.List.{flat_map}
use Rattle.std.proofs.lemmas.Bool.{cases_eq, false≢true}
use Rattle.std.proofs.lemmas.Bool.Decides.{nat_tests}
use Rattle.std.proofs.lemmas.Option.{none-some, same_Some}
use Rattle.std.proofs.lemmas.List.Concat.{flat_map-cons}
use Rattle.std.proofs.lemmas.List.Elements.{All-append, All-cons, All-nil, All-push, All-filter, All-weaker, All-get_or, Contains-append_left, Contains-append_right, Contains-push_cases}
use Rattle.std.proofs.lemmas.List.Filters.{sum_by-filter_both}
use Rattle.std.proofs.lemmas.List.Kept.{AllPairs-filter}
use Rattle.std.proofs.lemmas.List.Quantifiers.{all_pairs_push}
use Rattle.std.proofs.lemmas.List.Sums.{sum_by-cons, sum_by_push}
use Rattle.hose_graph.specs.Ascending.{firsts}
use Rattle.hose_graph.specs.Limits.{most_epoch}
use Rattle.hose_graph.specs.Network.{Network}
use Rattle.hose_graph.specs.Ranges.{AreInRanges}
use Rattle.hose_graph.specs.steps.Ranges.{IsInRanges}
use Rattle.hose_graph.specs.declared.entry.Entry.{Entry}
use Rattle.hose_graph.specs.declared.entry.Entry.TheVariants.{Admit, Release, Down, Up}
use Rattle.hose_graph.specs.declared.entry.Vpn.{Vpn}
use Rattle.hose_graph.proofs.Members.{in_filter}
use Rattle.hose_law.specs.Book.{Book, amount_on, load_of}
use Rattle.hose_law.specs.History.{next_book, is_vpn, IsSoundAt}
use Rattle.hose_law.specs.steps.Tracks.{touched_links}
use Rattle.hose_law.specs.Room.{room_of}
use Rattle.hose_law.specs.Service.{is_out, put_back, taken_out}
use Rattle.hose_law.specs.Walk.{capacity_of}
use Rattle.hose_law.specs.steps.Live.{HasRisingIds, IsBetween}
use Rattle.hose_law.proofs.Fitting.{reserved_fits}
use Rattle.hose_law.proofs.Releases.{is_vpn_decides, kept_by_release, load_after_release}
use Rattle.hose_law.proofs.Rooms.{room_of-within}
use Rattle.hose_law.proofs.Serving.{back_other, out_other}

-- an entry makes the epoch one more
pub next_epoch : (book : Book) (entry : Entry) → (next_book book entry).epoch ≡ book.epoch + 1
next_epoch book (Admit customer hose amounts) = refl
next_epoch book (Release customer id) = refl
next_epoch book (Down link) = refl
next_epoch book (Up link) = refl

-- an entry that is sound leaves an epoch
pub sound_epoch : (network : Network) (book : Book) (entry : Entry) → IsSoundAt network book entry → book.epoch < most_epoch
sound_epoch network book (Admit customer hose amounts) sound = sound.0
sound_epoch network book (Release customer id) sound = sound.0
sound_epoch network book (Down link) sound = sound.0
sound_epoch network book (Up link) sound = sound.0

-- ---- what is live

-- the entry that gives up a VPN
abbrev pub release_of : Vpn → Entry
release_of vpn = Release vpn.customer vpn.id

-- an entry that is not its release keeps a VPN live
pub kept_by_entry : (book : Book) (entry : Entry) (vpn : Vpn) → Contains book.live vpn → entry ≢ release_of vpn → Contains (next_book book entry).live vpn
kept_by_entry book (Admit customer hose amounts) vpn there other =
    Contains-append_left book.live (record { id = book.epoch + 1; customer = customer; hose = hose; amounts = amounts } ∷ []) vpn there
kept_by_entry book (Release customer id) vpn there other =
    kept_by_release book.live customer id vpn there (λ same. other (sym (ap (λ (name : List ℕ). Release name vpn.id) same.1 ∙ ap (Release customer) same.0)))
kept_by_entry book (Down link) vpn there other = there
kept_by_entry book (Up link) vpn there other = there

-- the customer and the number that an entry gives up
abbrev released : Entry → Option (List ℕ × ℕ)
released (Admit customer hose amounts) = None
released (Release customer id) = Some (customer, id)
released (Down link) = None
released (Up link) = None

-- the entry makes the VPN live at a book
abbrev pub IsMadeBy : Book → Entry → Vpn → Type 0
IsMadeBy book entry vpn = (entry ≡ Admit vpn.customer vpn.hose vpn.amounts) × (vpn.id ≡ book.epoch + 1)

-- a VPN that is live after an entry was live before it and is not released by it, or it is what the entry admitted
pub live_before : (book : Book) (entry : Entry) (vpn : Vpn) → Contains (next_book book entry).live vpn
    → (Contains book.live vpn × (entry ≢ release_of vpn)) ⊎ IsMadeBy book entry vpn
live_before book (Admit customer hose amounts) vpn there =
    let made : Vpn = record { id = book.epoch + 1; customer = customer; hose = hose; amounts = amounts } in
    elim (Contains-push_cases book.live made vpn there) [
      | inl before ↦ inl (before, λ same. none-some (vpn.customer, vpn.id) (ap released same))
      | inr last ↦ inr (ap (λ (v : Vpn). Admit v.customer v.hose v.amounts) last, sym (ap (λ (v : Vpn). v.id) last))
    ]
live_before book (Release customer id) vpn there =
    let left = in_filter (λ v. not (is_vpn customer id v)) book.live vpn there in
    inl (
      left.0,
      λ same.
          let own : (customer, id) ≡ (vpn.customer, vpn.id) = same_Some (customer, id) (vpn.customer, vpn.id) (ap released same) in
          let is : is_vpn customer id vpn ≡ true = (is_vpn_decides customer id vpn).1 (ap (λ (p : List ℕ × ℕ). p.1) (sym own), ap (λ (p : List ℕ × ℕ). p.0) (sym own)) in
          false≢true (sym (ap not is) ∙ left.1),
    )
live_before book (Down link) vpn there = inl (there, λ same. none-some (vpn.customer, vpn.id) (ap released same))
live_before book (Up link) vpn there = inl (there, λ same. none-some (vpn.customer, vpn.id) (ap released same))

-- ---- their numbers and amounts

-- at the next epoch the ids are as much within it
within_next : (first : ℕ) (book : Book) → HasRisingIds first book → All (IsBetween first (book.epoch + 1)) book.live
within_next first book ids =
    All-weaker (IsBetween first book.epoch) (IsBetween first (book.epoch + 1)) (λ vpn between. (between.0, omega (arith, between.1))) book.live ids.between

-- where the live ones are the same, so are their ids
rising_same : (first : ℕ) (book : Book) → HasRisingIds first book → (out : List ℕ) → HasRisingIds first (record { epoch = book.epoch + 1; live = book.live; out = out })
rising_same first book ids out = record { begun = omega (arith, ids.begun); rise = ids.rise; between = within_next first book ids }

-- an admission's id is the new epoch, which is above all others, and a release only takes out
pub rising_next : (first : ℕ) (book : Book) (entry : Entry) → HasRisingIds first book → HasRisingIds first (next_book book entry)
rising_next first book (Admit customer hose amounts) ids =
    let vpn : Vpn = record { id = book.epoch + 1; customer = customer; hose = hose; amounts = amounts } in
    let below : (k : ℕ) (d : Vpn) → k < length book.live → (get_or book.live k d).id < vpn.id =
    λ k d within. (let one = All-get_or (IsBetween first book.epoch) book.live k d within ids.between in omega (arith, one.1)) in
    record {
      begun = omega (arith, ids.begun);
      rise = all_pairs_push (λ (one other : Vpn). one.id < other.id) book.live vpn ids.rise below;
      between = All-push (IsBetween first (book.epoch + 1)) book.live vpn (within_next first book ids) (omega (arith, ids.begun), omega arith);
    }
rising_next first book (Release customer id) ids = record {
  begun = omega (arith, ids.begun);
  rise = AllPairs-filter (λ (one other : Vpn). one.id < other.id) (λ v. not (is_vpn customer id v)) book.live ids.rise;
  between = All-filter (λ v. not (is_vpn customer id v)) (IsBetween first (book.epoch + 1)) book.live (within_next first book ids);
}
rising_next first book (Down link) ids = rising_same first book ids (taken_out book.out link)
rising_next first book (Up link) ids = rising_same first book ids (put_back book.out link)

-- the amounts of a VPN are in their ranges
abbrev pub AmountsInRanges : Vpn → Type 0
AmountsInRanges vpn = AreInRanges vpn.amounts

-- so are those of the live VPNs after an entry that is in its ranges
pub next_ranges : (book : Book) (entry : Entry) → All AmountsInRanges book.live → IsInRanges entry → All AmountsInRanges (next_book book entry).live
next_ranges book (Admit customer hose amounts) has is =
    let vpn : Vpn = record { id = book.epoch + 1; customer = customer; hose = hose; amounts = amounts } in
    All-append AmountsInRanges book.live (vpn ∷ []) has (All-cons AmountsInRanges vpn [] is (All-nil AmountsInRanges))
next_ranges book (Release customer id) has is = All-filter (λ vpn. not (is_vpn customer id vpn)) AmountsInRanges book.live has
next_ranges book (Down link) has is = has
next_ranges book (Up link) has is = has

-- ---- loads

-- no link is oversold at a book
abbrev pub NoneOversold : Network → Book → Type 0
NoneOversold network book = (l : ℕ) → load_of book l ≤ capacity_of network l

-- nor is one after a sound entry
pub entry_keeps : (network : Network) (book : Book) (entry : Entry) → IsSoundAt network book entry → NoneOversold network book → NoneOversold network (next_book book entry)
entry_keeps network book (Admit customer hose plan) sound kept l =
    let vpn : Vpn = record { id = book.epoch + 1; customer = customer; hose = hose; amounts = plan } in
    let more = sum_by_push (λ (v : Vpn). amount_on l v.amounts) book.live vpn in
    let fits = reserved_fits (room_of network book).free plan l sound.2.on_tree.reserves.ascending sound.2.fits in
    omega (arith, more, fits, room_of-within network book l, kept l)
entry_keeps network book (Release customer id) sound kept l = omega (arith, load_after_release book.live customer id l, kept l)
entry_keeps network book (Down link) sound kept l = kept l
entry_keeps network book (Up link) sound kept l = kept l

-- a plan reserves nothing on what is no link of it
nothing_on : (l : ℕ) (plan : List (ℕ × ℕ)) → (Contains (firsts plan) l → ⊥) → amount_on l plan ≡ 0
nothing_on l [] none = refl
nothing_on l (pair ∷ plan) none =
    let first = sum_by-cons (λ (p : ℕ × ℕ). cond (eqb p.0 l) p.1 0) pair plan in
    let rest = nothing_on l plan (λ there. none (Contains-append_right (pair.0 ∷ []) (firsts plan) l there)) in
    elim (cases_eq pair.0 l) [
      | inl same ↦ absurd (none (0, omega arith, same))
      | inr other ↦ grind (arith, nat_tests)
    ]

abbrev links_of : Vpn → List ℕ
links_of vpn = firsts vpn.amounts

abbrev amount_in : ℕ → Vpn → ℕ
amount_in l vpn = amount_on l vpn.amounts

-- nor do VPNs together
nothing_in : (l : ℕ) (vpns : List Vpn) → (Contains (flat_map links_of vpns) l → ⊥) → sum_by (amount_in l) vpns ≡ 0
nothing_in l [] none = refl
nothing_in l (vpn ∷ vpns) none =
    let apart = flat_map-cons links_of vpn vpns in
    let all : List ℕ = flat_map links_of vpns in
    let free : Contains (links_of vpn ++ all) l → ⊥ = λ there. none (subst (λ (links : List ℕ). Contains links l) (sym apart) there) in
    let here = nothing_on l vpn.amounts (λ there. free (Contains-append_left (links_of vpn) all l there)) in
    let rest = nothing_in l vpns (λ there. free (Contains-append_right (links_of vpn) all l there)) in
    omega (arith, sum_by-cons (amount_in l) vpn vpns, here, rest)

-- an entry leaves the load of a link that it does not touch
pub untouched : (book : Book) (entry : Entry) (l : ℕ) → (Contains (touched_links book entry) l → ⊥) → load_of book l ≡ load_of (next_book book entry) l
untouched book (Admit customer hose amounts) l none =
    let vpn : Vpn = record { id = book.epoch + 1; customer = customer; hose = hose; amounts = amounts } in
    omega (arith, sum_by_push (amount_in l) book.live vpn, nothing_on l amounts none)
untouched book (Release customer id) l none =
    let out : Vpn → Bool = is_vpn customer id in
    let parts = sum_by-filter_both out (λ v. not (out v)) (λ _. refl) (amount_in l) book.live in
    omega (arith, parts, nothing_in l (filter out book.live) none)
untouched book (Down link) l none = refl
untouched book (Up link) l none = refl

-- and whether it is out of service
pub untouched_out : (book : Book) (entry : Entry) (l : ℕ) → (Contains (touched_links book entry) l → ⊥) → is_out book.out l ≡ is_out (next_book book entry).out l
untouched_out book (Admit customer hose amounts) l none = refl
untouched_out book (Release customer id) l none = refl
untouched_out book (Down link) l none = sym (out_other book.out link l (λ same. none (0, omega arith, sym same)))
untouched_out book (Up link) l none = sym (back_other book.out link l (λ same. none (0, omega arith, sym same)))
