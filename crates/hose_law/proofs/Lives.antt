-- A VPN is live from its admission up to its own release.
use Rattle.std.proofs.Common.{◌≡◌, ◌≢◌, ◌⊎◌, ℕ, zero, suc, ◌+◌, ◌<◌, ◌≤◌, List, [], ◌∷◌, Some, length, take, slice_get, Contains, refl, sym, ap, subst, inl, inr, arith}
use Rattle.std.proofs.lemmas.Option.{none-some, same_Some}
use Rattle.std.proofs.lemmas.List.Elements.{Contains-push}
use Rattle.hose_graph.specs.declared.entry.Vpn.{Vpn}
use Rattle.hose_graph.specs.declared.entry.Entry.{Entry}
use Rattle.hose_graph.specs.declared.entry.Entry.TheVariants.{Admit}
use Rattle.hose_law.proofs.LiveIds.{rising_ids}
use Rattle.hose_law.proofs.Entries.{next_epoch, release_of, kept_by_entry, live_before}
use Rattle.hose_law.specs.Book.{Book}
use Rattle.hose_law.specs.History.{opening_book, next_book, book_after, book_of}
use Rattle.hose_law.specs.Live.{AreLiveUnreleased, NotReleased, StaysLive}

-- and so do entries of which none is its release
kept_by_entries : (book : Book) (entries : List Entry) (place : ℕ) (vpn : Vpn) → Contains book.live vpn
    → ((j : ℕ) → j < place → slice_get entries j ≢ Some (release_of vpn)) → Contains (book_after book (take place entries)).live vpn
kept_by_entries book entries zero vpn there held = there
kept_by_entries book [] (suc place) vpn there held = there
kept_by_entries book (entry ∷ entries) (suc place) vpn there held =
    let next = kept_by_entry book entry vpn there (λ same. held 0 (omega arith) (ap Some same)) in
    kept_by_entries (next_book book entry) entries place vpn next (λ j below. held (suc j) (omega (arith, below)))

-- an admission makes its VPN live
live_when_admitted : (book : Book) (id : ℕ) (customer : List ℕ) (hose amounts : List (ℕ × ℕ)) → id ≡ book.epoch + 1
    → Contains (next_book book (Admit customer hose amounts)).live (record { id = id; customer = customer; hose = hose; amounts = amounts })
live_when_admitted book id customer hose amounts is_id =
    let vpn : ℕ → Vpn = λ n. record { id = n; customer = customer; hose = hose; amounts = amounts } in
    subst (λ (n : ℕ). Contains (next_book book (Admit customer hose amounts)).live (vpn n)) (sym is_id) (Contains-push book.live (vpn (book.epoch + 1)))

-- The VPN of an admission after k entries is live after each number of entries above k, if its release is not among them.
lives_from : (book : Book) (history : List Entry) (k place id : ℕ) (customer : List ℕ) (hose amounts : List (ℕ × ℕ))
    → slice_get history k ≡ Some (Admit customer hose amounts) → id ≡ book.epoch + k + 1 → k < place → NotReleased history customer id k place
    → Contains (book_after book (take place history)).live (record { id = id; customer = customer; hose = hose; amounts = amounts })
lives_from book [] k place id customer hose amounts admits is_id behind held = absurd (none-some (Admit customer hose amounts) admits)
lives_from book (entry ∷ entries) zero zero id customer hose amounts admits is_id behind held = absurd (omega (arith, behind))
lives_from book (entry ∷ entries) zero (suc place) id customer hose amounts admits is_id behind held =
    let admit : Entry = Admit customer hose amounts in
    let vpn : Vpn = record { id = id; customer = customer; hose = hose; amounts = amounts } in
    let here = live_when_admitted book id customer hose amounts (omega (arith, is_id)) in
    let there = subst (λ (e : Entry). Contains (next_book book e).live vpn) (sym (same_Some entry admit admits)) here in
    kept_by_entries (next_book book entry) entries place vpn there (λ j below. held (suc j) (omega arith) (omega (arith, below)))
lives_from book (entry ∷ entries) (suc k) zero id customer hose amounts admits is_id behind held = absurd (omega (arith, behind))
lives_from book (entry ∷ entries) (suc k) (suc place) id customer hose amounts admits is_id behind held =
    let next : id ≡ (next_book book entry).epoch + k + 1 = omega (arith, is_id, next_epoch book entry) in
    lives_from (next_book book entry) entries k place id customer hose amounts admits next (omega (arith, behind))
    (λ j above below. held (suc j) (omega (arith, above)) (omega (arith, below)))

-- what an admission makes live stays so up to its release, in every history, sound or not
pub stays_live : (epoch : ℕ) (history : List Entry) (k : ℕ) → StaysLive epoch history k
stays_live epoch history k customer hose amounts place admits behind within held =
    lives_from (opening_book epoch) history k place (epoch + k + 1) customer hose amounts admits refl behind held

-- a VPN that is live after entries was live before them, and no entry is its release; or an entry admitted it, and no later one is its release
record WasLive (book : Book) (entries : List Entry) (place : ℕ) (vpn : Vpn) : Type 0 where
  there : Contains book.live vpn
  held : (j : ℕ) → j < place → slice_get entries j ≢ Some (release_of vpn)

record WasMade (book : Book) (entries : List Entry) (place : ℕ) (vpn : Vpn) : Type 0 where
  admission : ℕ
  before : admission < place
  admits : slice_get entries admission ≡ Some (Admit vpn.customer vpn.hose vpn.amounts)
  is_id : vpn.id ≡ book.epoch + admission + 1
  held : NotReleased entries vpn.customer vpn.id admission place

live_after : (book : Book) (entries : List Entry) (place : ℕ) (vpn : Vpn) → Contains (book_after book (take place entries)).live vpn
    → WasLive book entries place vpn ⊎ WasMade book entries place vpn
live_after book entries zero vpn there = inl (record { there = there; held = λ j below. absurd (omega (arith, below)) })
live_after book [] (suc place) vpn there = inl (record { there = there; held = λ j below same. none-some (release_of vpn) same })
live_after book (entry ∷ entries) (suc place) vpn there =
    elim (live_after (next_book book entry) entries place vpn there) [
      | inl was ↦ elim (live_before book entry vpn was.there) [
        | inl before ↦ inl (record { there = before.0; held = held_with entry entries place vpn before.1 was.held })
        | inr made ↦ inr (record {
          admission = 0;
          before = omega arith;
          admits = ap Some made.0;
          is_id = omega (arith, made.1);
          held = λ j above below. held_later entry entries place vpn was.held j above below;
        })
      ]
      | inr made ↦ inr (record {
        admission = suc made.admission;
        before = omega (arith, made.before);
        admits = made.admits;
        is_id = omega (arith, made.is_id, next_epoch book entry);
        held = held_behind entry entries made.admission place vpn made.held;
      })
    ]
  where
    held_with : (entry : Entry) (entries : List Entry) (place : ℕ) (vpn : Vpn) → (entry ≢ release_of vpn)
        → ((j : ℕ) → j < place → slice_get entries j ≢ Some (release_of vpn))
        → (j : ℕ) → j < suc place → slice_get (entry ∷ entries) j ≢ Some (release_of vpn)
    held_with entry entries place vpn first rest zero below same = first (same_Some entry (release_of vpn) same)
    held_with entry entries place vpn first rest (suc j) below same = rest j (omega arith) same

    held_later : (entry : Entry) (entries : List Entry) (place : ℕ) (vpn : Vpn)
        → ((j : ℕ) → j < place → slice_get entries j ≢ Some (release_of vpn))
        → NotReleased (entry ∷ entries) vpn.customer vpn.id 0 (suc place)
    held_later entry entries place vpn rest zero above below same = absurd (omega (arith, above))
    held_later entry entries place vpn rest (suc j) above below same = rest j (omega arith) same

    held_behind : (entry : Entry) (entries : List Entry) (admission place : ℕ) (vpn : Vpn) → NotReleased entries vpn.customer vpn.id admission place
        → NotReleased (entry ∷ entries) vpn.customer vpn.id (suc admission) (suc place)
    held_behind entry entries admission place vpn rest zero above below same = absurd (omega (arith, above))
    held_behind entry entries admission place vpn rest (suc j) above below same = rest j (omega arith) (omega arith) same

-- At each place of a history exactly the VPNs that are held there are live.
pub live_held : (epoch : ℕ) (history : List Entry) (place : ℕ) → place ≤ length history → AreLiveUnreleased epoch history place
live_held epoch history place within = record {
  exactly = λ vpn. (
    λ there. elim (live_after (opening_book epoch) history place vpn there) [
      | inl was ↦ absurd (omega (arith, was.there.1))
      | inr made ↦ record { admission = made.admission; before = made.before; admits = made.admits; is_id = made.is_id; not_released = made.held }
    ],
    λ held. subst (λ (id : ℕ). Contains (book_of epoch (take place history)).live (record { id = id; customer = vpn.customer; hose = vpn.hose; amounts = vpn.amounts })) (sym held.is_id)
        (stays_live epoch history held.admission vpn.customer vpn.hose vpn.amounts place held.admits held.before within
        (subst (λ (id : ℕ). NotReleased history vpn.customer id held.admission place) held.is_id held.not_released)),
  );
  in_order = (rising_ids epoch (take place history)).rise;
}
