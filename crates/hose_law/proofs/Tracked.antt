-- Where no change names a link, its load stays and whether it is out of service; and what tracks a history tracks it with an entry more.
use Rattle.std.proofs.Common.{◌≡◌, ◌∙◌, ℕ, ◌+◌, ◌-◌, ◌≤◌, List, [], ◌∷◌, ◌++◌, length, take, drop, Contains, refl, sym, ap, subst, arith}
use Rattle.std.proofs.lemmas.List.{append-nil, append_assoc, get_or-map, length-map, length-take-le, take-append-drop}
use Rattle.std.proofs.lemmas.List.Elements.{Contains-append_left, Contains-append_right}
use Rattle.std.proofs.Math.Seq.{take-append-add}
use Rattle.hose_graph.specs.declared.entry.Entry.{Entry}
use Rattle.hose_law.specs.Book.{Book, load_of}
use Rattle.hose_law.specs.History.{book_after, book_of, next_book, opening_book}
use Rattle.hose_law.specs.steps.Tracks.{IsNamedSince, LoadsStay, ServiceStays, Tracks, changes_from, changes_of, touched_links}
use Rattle.hose_law.specs.Service.{is_out}
use Rattle.hose_law.specs.Recent.{Change, Recent}
use Rattle.hose_law.proofs.Entries.{next_epoch, untouched, untouched_out}

-- a link that is touched is named by a change
pub is_change : (epoch : ℕ) (links : List ℕ) (l : ℕ) → Contains links l → Contains (changes_of epoch links) (epoch, l)
is_change epoch links l there =
    let named : ℕ → Change = λ link. (epoch, link) in
    (there.0, omega (arith, there.1, length-map links named), get_or-map named links there.0 l (epoch, l) there.1 ∙ ap named there.2)

-- what an entry leaves of a link that it does not touch, entries leave that do not touch it
stays : {X : Type 0} (of : Book → X) (l : ℕ) → ((book : Book) (entry : Entry) → (Contains (touched_links book entry) l → ⊥) → of book ≡ of (next_book book entry))
    → (book : Book) (entries : List Entry) → (IsNamedSince (changes_from book entries) book.epoch l → ⊥) → of book ≡ of (book_after book entries)
stays of l leaves book [] none = refl
stays of l leaves book (entry ∷ entries) none =
    let now = book.epoch + 1 in
    let here = changes_of now (touched_links book entry) in
    let more = changes_from (next_book book entry) entries in
    let free : Contains (touched_links book entry) l → ⊥ =
    λ there. none (now, omega arith, Contains-append_left here more (now, l) (is_change now (touched_links book entry) l there)) in
    let rest : IsNamedSince more (next_book book entry).epoch l → ⊥ =
    λ named. none (named.0, omega (arith, named.1, next_epoch book entry), Contains-append_right here more (named.0, l) named.2) in
    leaves book entry free ∙ stays of l leaves (next_book book entry) entries rest

-- the changes of entries are those of the first ones, and then of the others
changes_apart : (book : Book) (one other : List Entry) → changes_from book (one ++ other) ≡ changes_from book one ++ changes_from (book_after book one) other
changes_apart book [] other = refl
changes_apart book (entry ∷ one) other =
    let first = changes_of (book.epoch + 1) (touched_links book entry) in
    let next = next_book book entry in
    ap (λ (changes : List Change). first ++ changes) (changes_apart next one other)
    ∙ sym (append_assoc first (changes_from next one) (changes_from (book_after next one) other))

book_apart : (book : Book) (one other : List Entry) → book_after book (one ++ other) ≡ book_after (book_after book one) other
book_apart book [] other = refl
book_apart book (entry ∷ one) other = book_apart (next_book book entry) one other

epoch_apart : (book : Book) (entries : List Entry) → (book_after book entries).epoch ≡ book.epoch + length entries
epoch_apart book [] = omega arith
epoch_apart book (entry ∷ entries) = omega (arith, epoch_apart (next_book book entry) entries, next_epoch book entry)

-- where a history is tracked, that stays of each link that no later change names
link_stays : {X : Type 0} (of : Book → X) (l : ℕ) → ((book : Book) (entry : Entry) → (Contains (touched_links book entry) l → ⊥) → of book ≡ of (next_book book entry))
    → (epoch : ℕ) (history : List Entry) (recent : Recent) → Tracks epoch history recent → (place : ℕ) → place ≤ length history → recent.floor ≤ epoch + place
    → ¬ IsNamedSince recent.changes (epoch + place) l → of (book_of epoch (take place history)) ≡ of (book_of epoch history)
link_stays of l leaves epoch history recent tracks place within above none =
    let before = tracks.before in
    let since = tracks.since in
    let k = place - length before in
    let split : place ≡ length before + k = omega (arith, above, tracks.floor) in
    let first = book_of epoch before in
    let book = book_after first (take k since) in
    let later = drop k since in
    let parts : take k since ++ later ≡ since = take-append-drop k since in
    let here : take place history ≡ before ++ take k since =
    ap (λ (n : ℕ). take n history) split ∙ ap (λ (h : List Entry). take (length before + k) h) tracks.whole ∙ take-append-add before since k in
    let there : book_of epoch (take place history) ≡ book = ap (book_of epoch) here ∙ book_apart (opening_book epoch) before (take k since) in
    let all : book_of epoch history ≡ book_after book later =
    ap (book_of epoch) tracks.whole ∙ book_apart (opening_book epoch) before since
    ∙ ap (book_after first) (sym parts) ∙ book_apart first (take k since) later in
    let changes : changes_from first (take k since) ++ changes_from book later ≡ recent.changes =
    sym (changes_apart first (take k since) later) ∙ ap (changes_from first) parts ∙ sym tracks.changes in
    let bound : length (take place history) ≡ place = length-take-le place history within in
    let at : book.epoch ≡ epoch + place =
    ap (λ (b : Book). b.epoch) (sym there) ∙ epoch_apart (opening_book epoch) (take place history) ∙ ap (λ (n : ℕ). epoch + n) bound in
    let free : IsNamedSince (changes_from book later) book.epoch l → ⊥ = λ named. none (
      named.0,
      omega (arith, named.1, at),
      subst (λ (c : List Change). Contains c (named.0, l)) changes (Contains-append_right (changes_from first (take k since)) (changes_from book later) (named.0, l) named.2),
    ) in
    ap of there ∙ stays of l leaves book later free ∙ ap of (sym all)

-- its load does
pub loads_stay : (epoch : ℕ) (history : List Entry) (recent : Recent) → Tracks epoch history recent → LoadsStay epoch history recent
loads_stay epoch history recent tracks place l =
    link_stays (λ (book : Book). load_of book l) l (λ book entry none. untouched book entry l none) epoch history recent tracks place

-- and whether it is out of service
pub service_stays : (epoch : ℕ) (history : List Entry) (recent : Recent) → Tracks epoch history recent → ServiceStays epoch history recent
service_stays epoch history recent tracks place l =
    link_stays (λ (book : Book). is_out book.out l) l (λ book entry none. untouched_out book entry l none) epoch history recent tracks place

-- what tracks a history, with the changes of an entry more, tracks the history with it
pub tracks_more : (epoch : ℕ) (history : List Entry) (recent : Recent) (entry : Entry) → Tracks epoch history recent
    → Tracks epoch (history ++ entry ∷ []) (record {
      floor = recent.floor;
      changes = recent.changes ++ changes_of ((book_of epoch history).epoch + 1) (touched_links (book_of epoch history) entry);
    })
tracks_more epoch history recent entry tracks =
    let first = book_of epoch tracks.before in
    let here : book_of epoch history ≡ book_after first tracks.since = ap (book_of epoch) tracks.whole ∙ book_apart (opening_book epoch) tracks.before tracks.since in
    let changes_at : Book → List Change = λ b. changes_of (b.epoch + 1) (touched_links b entry) in
    let one : changes_from (book_after first tracks.since) (entry ∷ []) ≡ changes_at (book_after first tracks.since) = append-nil (changes_at (book_after first tracks.since)) in
    record {
      before = tracks.before;
      since = tracks.since ++ entry ∷ [];
      whole = ap (λ (h : List Entry). h ++ entry ∷ []) tracks.whole ∙ append_assoc tracks.before tracks.since (entry ∷ []);
      floor = tracks.floor;
      changes = ap (λ (c : List Change). c ++ changes_at (book_of epoch history)) tracks.changes
          ∙ ap (λ (b : Book). changes_from first tracks.since ++ changes_at b) here
          ∙ ap (λ (c : List Change). changes_from first tracks.since ++ c) (sym one)
          ∙ sym (changes_apart first tracks.since (entry ∷ []));
    }

-- and so do the changes of the entry alone, above the epoch before it
pub tracks_anew : (epoch : ℕ) (history : List Entry) (entry : Entry)
    → Tracks epoch (history ++ entry ∷ []) (record {
      floor = (book_of epoch history).epoch;
      changes = changes_of ((book_of epoch history).epoch + 1) (touched_links (book_of epoch history) entry);
    })
tracks_anew epoch history entry =
    let book = book_of epoch history in
    record {
      before = history;
      since = entry ∷ [];
      whole = refl;
      floor = epoch_apart (opening_book epoch) history;
      changes = sym (append-nil (changes_of (book.epoch + 1) (touched_links book entry)));
    }
