-- What a book says of an entry: it is sound, or there is one cause to refuse it.
use Rattle.std.proofs.Common.{◌≡◌, ◌<◌, ◌≤◌, ◌↔◌, ℕ, Bool, true, false, not, List, All, Result, Ok, Err, IsOk, length, get_or, map, take, get_or-take, refl, sym, ap, subst, inl, inr, ◌∙◌, arith}
use Rattle.std.specs.Bool.{⊤}
use mathlib.Core.Bool.{beq}
use Rattle.std.proofs.lemmas.Bool.{cases_eq, cases_lt}
use Rattle.std.proofs.lemmas.List.{get_or-map, get_or_default, length-map, length-take}
use Rattle.std.proofs.lemmas.List.Kept.{AllPairs-from_increasing}
use Rattle.std.proofs.lemmas.List.Elements.{All-contains, All-weaker, Contains-get_or}
use Rattle.hose_graph.specs.declared.entry.Entry.{Entry}
use Rattle.hose_graph.specs.declared.entry.Entry.TheVariants.{Admit, Release, Down, Up}
use Rattle.hose_graph.specs.Network.{Network}
use Rattle.hose_law.specs.Book.{Book, HasVpn}
use Rattle.hose_law.specs.Decision.{CanBeReserved, Fits}
use Rattle.hose_law.specs.History.{IsSoundAt}
use Rattle.hose_graph.specs.Limits.{most_epoch}
use Rattle.hose_law.specs.Room.{first_links, room_of}
use Rattle.hose_law.specs.Service.{LinkStands}
use Rattle.hose_law.specs.steps.Service.{service_entry}
use Rattle.hose_law.specs.Walk.{IsIn}
use Rattle.hose_law.proofs.Serving.{length-links_in_service}
use Rattle.hose_law.proofs.Unique.{stands_once}
use Rattle.hose_book.proofs.Served.{on_tree, served_on}
use Rattle.hose_book.specs.declared.checking.BookRefusal.{BookRefusal}
use Rattle.hose_book.specs.declared.checking.BookRefusal.TheVariants.{Spent, Full, NotATree, OutOfService, NoRoom, NoVpn, NoLink, Already}
use Rattle.hose_graph.specs.Ascending.{IsAscending}
use Rattle.hose_book.specs.steps.Refusal.{AreInService, HasPlace, IsAbove, IsLowest, IsLowestFull, IsLowestOut, IsOutside, IsRefusedAdmission, IsRefusedFor, IsRefusedRelease, IsRefusedService, Judges}

module _ (network : Network) (book : Book) where
  abbrev service : List Bool
  service = first_links network book

  -- an admission that is sound is not refused
  sound_admission : (hose amounts : List (ℕ × ℕ)) (refusal : BookRefusal) → HasPlace book → CanBeReserved network (room_of network book) hose amounts → IsRefusedAdmission network book hose amounts refusal → ⊥
  sound_admission hose amounts Spent place sound refused = omega (arith, place.epoch, refused)
  sound_admission hose amounts Full place sound refused = omega (arith, place.room, refused.1)
  sound_admission hose amounts NotATree place sound refused = refused.1 (on_tree network service hose amounts sound.on_tree (length-links_in_service network book.out))
  sound_admission hose amounts (OutOfService link) place sound refused =
      let out = refused.2 in
      out.is (All-contains (λ (pair : ℕ × ℕ). IsIn service pair.0) amounts out.pair (served_on network service hose amounts sound.on_tree) out.there)
  sound_admission hose amounts (NoRoom link) place sound refused =
      let full = refused.3 in
      let fits = All-contains (λ (pair : ℕ × ℕ). pair.1 ≤ get_or (room_of network book).free pair.0 0) amounts full.pair sound.fits full.there in omega (arith, fits, full.is)
  sound_admission hose amounts refusal place sound refused = refused

  -- nor a release
  sound_release : (customer : List ℕ) (id : ℕ) (refusal : BookRefusal) → book.epoch < most_epoch → HasVpn book customer id → IsRefusedRelease book customer id refusal → ⊥
  sound_release customer id Spent left has refused = omega (arith, left, refused.1)
  sound_release customer id NoVpn left has refused = refused has
  sound_release customer id refusal left has refused = refused

  -- nor an entry on a link
  sound_service : (down : Bool) (link : ℕ) (refusal : BookRefusal) → book.epoch < most_epoch → LinkStands network book link (not down) → IsRefusedService network book down link refusal → ⊥
  sound_service down link NoLink left stands refused = refused stands.0
  sound_service down link Already left stands refused = stands_once network book down link refused stands
  sound_service down link Spent left stands refused = omega (arith, left, refused.1)
  sound_service down link refusal left stands refused = refused

  -- what is sound is not refused
  sound_not_refused : (entry : Entry) (refusal : BookRefusal) → IsSoundAt network book entry → IsRefusedFor network book entry refusal → ⊥
  sound_not_refused (Admit customer hose amounts) refusal sound refused = sound_admission hose amounts refusal (record { epoch = sound.0; room = sound.1 }) sound.2 refused
  sound_not_refused (Release customer id) refusal sound refused = sound_release customer id refusal sound.0 sound.1 refused
  sound_not_refused (Down link) refusal sound refused = sound_service true link refusal sound.0 sound.1 refused
  sound_not_refused (Up link) refusal sound refused = sound_service false link refusal sound.0 sound.1 refused

  -- the lowest link of a kind is one
  lowest_unique : (Is : ℕ × ℕ → Type 0) (amounts : List (ℕ × ℕ)) (one other : ℕ) → IsLowest Is amounts one → IsLowest Is amounts other → one ≡ other
  lowest_unique Is amounts one other here there =
      let below = here.lowest there.pair there.there there.is in
      let above = there.lowest here.pair here.there here.is in
      omega (arith, below, above, here.here, there.here)

  -- amounts of which one is on a link that is out are not all in service
  not_served : (amounts : List (ℕ × ℕ)) (link : ℕ) → IsLowestOut service amounts link → AreInService service amounts → ⊥
  not_served amounts link out served = out.is (All-contains (λ (pair : ℕ × ℕ). IsIn service pair.0) amounts out.pair served out.there)

  -- an admission is refused for one cause
  one_admission : (hose amounts : List (ℕ × ℕ)) (one other : BookRefusal) → IsRefusedAdmission network book hose amounts one → IsRefusedAdmission network book hose amounts other → one ≡ other
  one_admission hose amounts Spent Spent here there = refl
  one_admission hose amounts Spent Full here there = absurd (omega (arith, here, there.0))
  one_admission hose amounts Spent NotATree here there = absurd (omega (arith, here, there.0.epoch))
  one_admission hose amounts Spent (OutOfService link) here there = absurd (omega (arith, here, there.0.epoch))
  one_admission hose amounts Spent (NoRoom link) here there = absurd (omega (arith, here, there.0.epoch))
  one_admission hose amounts Full Spent here there = absurd (omega (arith, there, here.0))
  one_admission hose amounts Full Full here there = refl
  one_admission hose amounts Full NotATree here there = absurd (omega (arith, here.1, there.0.room))
  one_admission hose amounts Full (OutOfService link) here there = absurd (omega (arith, here.1, there.0.room))
  one_admission hose amounts Full (NoRoom link) here there = absurd (omega (arith, here.1, there.0.room))
  one_admission hose amounts NotATree Spent here there = absurd (omega (arith, there, here.0.epoch))
  one_admission hose amounts NotATree Full here there = absurd (omega (arith, there.1, here.0.room))
  one_admission hose amounts NotATree NotATree here there = refl
  one_admission hose amounts NotATree (OutOfService link) here there = absurd (here.1 there.1)
  one_admission hose amounts NotATree (NoRoom link) here there = absurd (here.1 there.1)
  one_admission hose amounts (OutOfService link) Spent here there = absurd (omega (arith, there, here.0.epoch))
  one_admission hose amounts (OutOfService link) Full here there = absurd (omega (arith, there.1, here.0.room))
  one_admission hose amounts (OutOfService link) NotATree here there = absurd (there.1 here.1)
  one_admission hose amounts (OutOfService link) (OutOfService other) here there = ap OutOfService (lowest_unique (IsOutside service) amounts link other here.2 there.2)
  one_admission hose amounts (OutOfService link) (NoRoom other) here there = absurd (not_served amounts link here.2 there.2)
  one_admission hose amounts (NoRoom link) Spent here there = absurd (omega (arith, there, here.0.epoch))
  one_admission hose amounts (NoRoom link) Full here there = absurd (omega (arith, there.1, here.0.room))
  one_admission hose amounts (NoRoom link) NotATree here there = absurd (there.1 here.1)
  one_admission hose amounts (NoRoom link) (OutOfService other) here there = absurd (not_served amounts other there.2 here.2)
  one_admission hose amounts (NoRoom link) (NoRoom other) here there = ap NoRoom (lowest_unique (IsAbove (room_of network book).free) amounts link other here.3 there.3)
  one_admission hose amounts NoVpn other here there = absurd here
  one_admission hose amounts NoLink other here there = absurd here
  one_admission hose amounts Already other here there = absurd here
  one_admission hose amounts one NoVpn here there = absurd there
  one_admission hose amounts one NoLink here there = absurd there
  one_admission hose amounts one Already here there = absurd there

  -- so is a release
  one_release : (customer : List ℕ) (id : ℕ) (one other : BookRefusal) → IsRefusedRelease book customer id one → IsRefusedRelease book customer id other → one ≡ other
  one_release customer id Spent Spent here there = refl
  one_release customer id Spent NoVpn here there = absurd (there here.0)
  one_release customer id NoVpn Spent here there = absurd (here there.0)
  one_release customer id NoVpn NoVpn here there = refl
  one_release customer id Spent other here there = absurd there
  one_release customer id NoVpn other here there = absurd there
  one_release customer id one other here there = absurd here

  -- and an entry on a link
  one_service : (down : Bool) (link : ℕ) (one other : BookRefusal) → IsRefusedService network book down link one → IsRefusedService network book down link other → one ≡ other
  one_service down link NoLink NoLink here there = refl
  one_service down link NoLink Already here there = absurd (here there.0)
  one_service down link NoLink Spent here there = absurd (here there.0.0)
  one_service down link Already NoLink here there = absurd (there here.0)
  one_service down link Already Already here there = refl
  one_service down link Already Spent here there = absurd (stands_once network book down link here there.0)
  one_service down link Spent NoLink here there = absurd (there here.0.0)
  one_service down link Spent Already here there = absurd (stands_once network book down link there here.0)
  one_service down link Spent Spent here there = refl
  one_service down link NoLink other here there = absurd there
  one_service down link Already other here there = absurd there
  one_service down link Spent other here there = absurd there
  one_service down link one other here there = absurd here

  one_cause : (entry : Entry) (one other : BookRefusal) → IsRefusedFor network book entry one → IsRefusedFor network book entry other → one ≡ other
  one_cause (Admit customer hose amounts) one other here there = one_admission hose amounts one other here there
  one_cause (Release customer id) one other here there = one_release customer id one other here there
  one_cause (Down link) one other here there = one_service true link one other here there
  one_cause (Up link) one other here there = one_service false link one other here there

  -- what is known of an entry on a link is known of it as the one or the other
  pub service_refused : (down : Bool) (link : ℕ) (refusal : BookRefusal) → IsRefusedService network book down link refusal → IsRefusedFor network book (service_entry down link) refusal
  service_refused true link refusal refused = refused
  service_refused false link refusal refused = refused

  pub service_sound : (down : Bool) (link : ℕ) → book.epoch < most_epoch → LinkStands network book link (not down) → IsSoundAt network book (service_entry down link)
  service_sound true link left stands = (left, stands)
  service_sound false link left stands = (left, stands)

  -- An answer is Ok exactly where the entry is sound, and a refusal exactly where that is the cause.
  pub judged_sound : (entry : Entry) (result : Result ⊤ BookRefusal) → Judges network book entry result → IsOk result ↔ IsSoundAt network book entry
  judged_sound entry (Ok done) judges = (λ _. judges, λ _. refl)
  judged_sound entry (Err refusal) judges = (λ ok. absurd (cc ok), λ sound. absurd (sound_not_refused entry refusal sound judges))

  pub judged_refused : (entry : Entry) (result : Result ⊤ BookRefusal) → Judges network book entry result → (refusal : BookRefusal) → (result ≡ Err refusal) ↔ IsRefusedFor network book entry refusal
  judged_refused entry (Ok done) judges refusal = (λ same. absurd (cc same), λ refused. absurd (sound_not_refused entry refusal judges refused))
  judged_refused entry (Err cause) judges refusal = (
    λ same. let is : cause ≡ refusal = cc same in subst (IsRefusedFor network book entry) is judges,
    λ refused. ap Err (one_cause entry cause refusal judges refused),
  )

-- two truth values are the same, or the one is not the other
pub same_truth : (one other : Bool) → beq one other ≡ true → one ≡ other
same_truth true true is = refl
same_truth true false is = absurd (cc is)
same_truth false true is = absurd (cc is)
same_truth false false is = refl

pub other_truth : (one other : Bool) → beq one other ≡ false → one ≡ not other
other_truth true true is = absurd (cc is)
other_truth true false is = refl
other_truth false true is = refl
other_truth false false is = absurd (cc is)

-- a later link is not lower
later_link : (amounts : List (ℕ × ℕ)) (i k : ℕ) → IsAscending amounts → i ≤ k → k < length amounts → (get_or amounts i (0, 0)).0 ≤ (get_or amounts k (0, 0)).0
later_link amounts i k ascending later below = elim (cases_eq i k) [
  | inl same ↦ omega (arith, ap (λ (n : ℕ). (get_or amounts n (0, 0)).0) same)
  | inr differ ↦
      let link : ℕ × ℕ → ℕ = λ p. p.0 in
      let rises = AllPairs-from_increasing (map link amounts) ascending i k 0 (omega (arith, later, differ)) (omega (arith, below, length-map amounts link)) in
      omega (arith, rises, get_or-map link amounts i (0, 0) 0 (omega (arith, later, below)), get_or-map link amounts k (0, 0) 0 below)
]

-- where links rise, the first amount of a kind is on the lowest link of one
first_is_lowest : (Is : ℕ × ℕ → Type 0) (amounts : List (ℕ × ℕ)) (i : ℕ) → IsAscending amounts → i < length amounts → All (λ (pair : ℕ × ℕ). ¬ Is pair) (take i amounts)
    → Is (get_or amounts i (0, 0)) → IsLowest Is amounts (get_or amounts i (0, 0)).0
first_is_lowest Is amounts i ascending inside none is = record {
  pair = get_or amounts i (0, 0);
  there = Contains-get_or amounts i (0, 0) inside;
  here = refl;
  is = is;
  lowest = λ other (k, below, there) also. elim (cases_lt k i) [
    | inl before ↦
        let same : get_or (take i amounts) k other ≡ other = get_or-take i amounts k other before ∙ there in
        absurd (none k other (omega (arith, before, inside, length-take i amounts)) (subst Is (sym same) also))
    | inr later ↦
        let here = get_or_default amounts k other (0, 0) below in
        let link = ap (λ (p : ℕ × ℕ). p.0) (sym here ∙ there) in
        omega (arith, link, later_link amounts i k ascending later below)
  ];
}

pub first_full : (free : List ℕ) (amounts : List (ℕ × ℕ)) (i : ℕ) → IsAscending amounts → i < length amounts → Fits free (take i amounts) → IsAbove free (get_or amounts i (0, 0))
    → IsLowestFull free amounts (get_or amounts i (0, 0)).0
first_full free amounts i ascending inside fit above =
    first_is_lowest (IsAbove free) amounts i ascending inside
    (All-weaker (λ (pair : ℕ × ℕ). pair.1 ≤ get_or free pair.0 0) (λ (pair : ℕ × ℕ). ¬ IsAbove free pair) (λ pair fits over. omega (arith, fits, over)) (take i amounts) fit) above

pub first_out : (service : List Bool) (amounts : List (ℕ × ℕ)) (i : ℕ) → IsAscending amounts → i < length amounts → AreInService service (take i amounts)
    → IsOutside service (get_or amounts i (0, 0)) → IsLowestOut service amounts (get_or amounts i (0, 0)).0
first_out service amounts i ascending inside served out =
    first_is_lowest (IsOutside service) amounts i ascending inside
    (All-weaker (λ (pair : ℕ × ℕ). IsIn service pair.0) (λ (pair : ℕ × ℕ). ¬ IsOutside service pair) (λ pair is outside. outside is) (take i amounts) served) out
