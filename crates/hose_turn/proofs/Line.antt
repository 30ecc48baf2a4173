-- What each step makes of the line.
use Rattle.std.proofs.Common.{◌≡◌, ◌≢◌, ℕ, ◌+◌, ◌%◌, ◌^◌, ◌<◌, ◌≤◌, Bool, true, false, cond, eqb, eq-eqb, ne_eqb, List, [], ◌∷◌, ◌++◌, length, set, sum_by, sym, refl, ap, ◌∙◌, subst, ⊎_elim, arith, Option, Some, None, length-set, get_or-set_other, get_or-set_same}
use Rattle.std.proofs.lemmas.List.Sums.{sum_by-cons, sum_by_push}
use mathlib.Core.Logic.{dite}
use mathlib.Core.Option.{none, some, some-injective}
use mathlib.Core.Option as maybe
use native.Mathlib.Decide.{ℕ_discrete}
use lib.ListN.{get_elem?}
use Rattle.atomic_table.specs.Table.{State}
use Rattle.atomic_table.proofs.Lists.{set_else, at_snoc}
use Rattle.hose_turn.specs.declared.view.View.{View}
use Rattle.hose_turn.specs.steps.Limits.{all_shares}
use Rattle.hose_turn.specs.steps.Line.{share_of, one_if, holding, bit, turning, HasOwnTicket, IsTicketQueue}
use Rattle.hose_turn.proofs.Sums.{sum_set, sum_below, sum_none, sum_has}
use Rattle.hose_turn.proofs.Seats.{seats_stay, only, only_seat, was_theirs, no_some, not_on, num}

one_if-le-one : (ticket : Option ℕ) → one_if ticket ≤ 1
one_if-le-one None = omega arith
one_if-le-one (Some n) = omega arith

one_if-le : (ticket : Option ℕ) (share : ℕ) → (share ≡ 0 → ticket ≡ None) → one_if ticket ≤ share
one_if-le ticket share spent =
    dite (ℕ_discrete share 0) (λ zero_share. let bare : one_if ticket ≡ 0 = ap one_if (spent zero_share) in omega arith) (λ some_share. let top = one_if-le-one ticket in omega arith)

bit_off : (b : Bool) → (b ≡ true → ⊥) → bit b ≡ 0
bit_off true off = absurd (off refl)
bit_off false off = refl

one_slot_set : {A : Type 0} (slots : List A) (value : A) → length slots ≡ 1 → set slots 0 value ≡ value ∷ []
one_slot_set [] value one = absurd (omega arith)
one_slot_set (x ∷ []) value one = refl
one_slot_set (x ∷ y ∷ ys) value one = absurd (omega arith)

-- the owners, with `seat` for `ticket`
abbrev given : (ℕ → ℕ) → ℕ → ℕ → ℕ → ℕ
given owner ticket seat other = cond (eqb other ticket) seat (owner other)

given_here : (owner : ℕ → ℕ) (ticket seat : ℕ) → given owner ticket seat ticket ≡ seat
given_here owner ticket seat = ap (λ b. cond b seat (owner ticket)) (eq-eqb ticket ticket refl)

given_else : (owner : ℕ → ℕ) (ticket seat other : ℕ) → other ≢ ticket → given owner ticket seat other ≡ owner other
given_else owner ticket seat other differ = ap (λ b. cond b seat (owner other)) (ne_eqb other ticket differ)

module _ {at_turn drawn : ℕ} {owner : ℕ → ℕ} {seat : ℕ} where
  -- a pass with no ticket does not have the turn
  pub turning-none : {view : View} → HasOwnTicket at_turn drawn owner seat view → view.ticket ≡ None → turning view ≡ 0
  turning-none {view = view} queued bare = bit_off view.has_turn (λ on. no_some (sym bare ∙ queued.called on))

  bare_queued : (view : View) → view.ticket ≡ None → view.has_turn ≡ false → HasOwnTicket at_turn drawn owner seat view
  bare_queued view bare off = record {
    spent = λ _. bare;
    waits = λ ticket is. absurd (no_some (sym bare ∙ is));
    called = λ on. absurd (not_on (sym off ∙ on));
  }

  same_queued : {old new : View} → HasOwnTicket at_turn drawn owner seat old → (new.share ≡ 0 → old.share ≡ 0) → new.ticket ≡ old.ticket → new.has_turn ≡ old.has_turn
      → HasOwnTicket at_turn drawn owner seat new
  same_queued queued shares tickets turns = record {
    spent = λ none_left. tickets ∙ queued.spent (shares none_left);
    waits = λ ticket is. queued.waits ticket (sym tickets ∙ is);
    called = λ on. tickets ∙ queued.called (sym turns ∙ on);
  }

module _ {S : Type 0} (R : S → Type 0) where
  abbrev Table : Type 0
  Table = State (Option S) View

  -- seats and slots change, and the words stay
  words_stay : (s : Table) (line : IsTicketQueue R s) (homes : List (maybe.Option (Option S))) (views : List View) → sum_by share_of views ≤ all_shares → line.drawn ≡ line.at_turn + sum_by holding views
      → ((seat : ℕ) (view : View) → get_elem? views seat ≡ some view → HasOwnTicket line.at_turn line.drawn line.owner seat view) → length homes ≡ 1
      → (sum_by turning views ≡ 0 → (value : S) × (homes ≡ some (Some value) ∷ []) × R value) → IsTicketQueue R record { words = s.words; homes = homes; views = views }
  words_stay s line homes views shares holders each one_slot home = record {
    at_turn = line.at_turn;
    drawn = line.drawn;
    owner = line.owner;
    three_words = line.three_words;
    ticket_word = line.ticket_word;
    at_turn_word = line.at_turn_word;
    shares = shares;
    holders = holders;
    each = each;
    one_slot = one_slot;
    home = home;
  }

  -- a share goes to a new seat
  pub line_splits : (s : Table) (line : IsTicketQueue R s) (seat : ℕ) (old new branch : View) → get_elem? s.views seat ≡ some old → 0 < new.share → new.share + branch.share ≡ old.share
      → new.ticket ≡ old.ticket → new.has_turn ≡ old.has_turn → branch.ticket ≡ None → branch.has_turn ≡ false
      → IsTicketQueue R record { words = s.words; homes = s.homes; views = set s.views seat new ++ branch ∷ [] }
  line_splits s line seat old new branch at some_left parts tickets turns bare off =
      let views : List View = set s.views seat new in
      let held : one_if new.ticket ≡ one_if old.ticket = ap one_if tickets in
      let turned : bit new.has_turn ≡ bit old.has_turn = ap bit turns in
      let not_held : one_if branch.ticket ≡ 0 = ap one_if bare in
      let not_turned : bit branch.has_turn ≡ 0 = ap bit off in
      words_stay s line s.homes (views ++ branch ∷ [])
      (let a = sum_set share_of s.views seat old new at in let b = sum_by_push share_of views branch in let c = line.shares in omega arith)
      (let a = sum_set holding s.views seat old new at in let b = sum_by_push holding views branch in let c = line.holders in omega arith)
      (λ other view is.
      ⊎_elim (seats_stay (HasOwnTicket line.at_turn line.drawn line.owner) s.views seat new (same_queued (line.each seat old at) (λ none_left. absurd (omega arith)) tickets turns) (λ i d _. line.each i d) other view)
      (λ (same : branch ≡ view). subst (HasOwnTicket line.at_turn line.drawn line.owner other) same (bare_queued branch bare off)) (at_snoc views branch view other is))
      line.one_slot
      (λ none_turns. let a = sum_set turning s.views seat old new at in let b = sum_by_push turning views branch in line.home (omega arith))

  -- a seat takes in another one's share, and the other is left with nothing
  pub line_joins : (s : Table) (line : IsTicketQueue R s) (seat : ℕ) (old new : View) (other : ℕ) (theirs spent : View) → get_elem? s.views seat ≡ some old → ¬ (other ≡ seat)
      → get_elem? (set s.views seat new) other ≡ some theirs → new.share + spent.share ≡ old.share + theirs.share → 0 < new.share
      → new.ticket ≡ old.ticket → new.has_turn ≡ old.has_turn → theirs.ticket ≡ None → spent.ticket ≡ None → spent.has_turn ≡ false
      → IsTicketQueue R record { words = s.words; homes = s.homes; views = set (set s.views seat new) other spent }
  line_joins s line seat old new other theirs spent at apart there parts live tickets turns bare bare_after off =
      let views : List View = set s.views seat new in
      let held : one_if new.ticket ≡ one_if old.ticket = ap one_if tickets in
      let turned : bit new.has_turn ≡ bit old.has_turn = ap bit turns in
      let not_held : one_if theirs.ticket ≡ 0 = ap one_if bare in
      let not_turned : bit theirs.has_turn ≡ 0 = turning-none (line.each other theirs (was_theirs s.views seat other new theirs apart there)) bare in
      let not_held_after : one_if spent.ticket ≡ 0 = ap one_if bare_after in
      let not_turned_after : bit spent.has_turn ≡ 0 = ap bit off in
      words_stay s line s.homes (set views other spent)
      (let a = sum_set share_of s.views seat old new at in let b = sum_set share_of views other theirs spent there in let c = line.shares in omega arith)
      (let a = sum_set holding s.views seat old new at in let b = sum_set holding views other theirs spent there in let c = line.holders in omega arith)
      (seats_stay (HasOwnTicket line.at_turn line.drawn line.owner) views other spent (bare_queued spent bare_after off)
      (λ i view _. seats_stay (HasOwnTicket line.at_turn line.drawn line.owner) s.views seat new (same_queued (line.each seat old at) (λ none_left. absurd (omega arith)) tickets turns) (λ j d _. line.each j d) i view))
      line.one_slot
      (λ none_turns. let a = sum_set turning s.views seat old new at in let b = sum_set turning views other theirs spent there in line.home (omega arith))

  -- fewer hold tickets than there are shares
  pub few_hold : (s : Table) (line : IsTicketQueue R s) → line.drawn ≤ line.at_turn + all_shares
  few_hold s line =
      let a = sum_below holding share_of s.views (λ seat view is. one_if-le view.ticket view.share (line.each seat view is).spent) in let b = line.shares in let c = line.holders in omega arith

  -- a step on the word of the epoch by a seat that keeps its place in the line; what is right of the value may change while some pass has the turn
  pub line_stays : (R' : S → Type 0) (s : Table) (line : IsTicketQueue R s) (seat word : ℕ) (old new : View) → get_elem? s.views seat ≡ some old
      → new.share ≡ old.share → new.ticket ≡ old.ticket → new.has_turn ≡ old.has_turn → ((value : S) → bit new.has_turn ≡ 0 → R value → R' value)
      → IsTicketQueue R' record { words = set s.words 0 word; homes = s.homes; views = set s.views seat new }
  line_stays R' s line seat word old new at shares tickets turns right =
      let held : one_if new.ticket ≡ one_if old.ticket = ap one_if tickets in
      let turned : bit new.has_turn ≡ bit old.has_turn = ap bit turns in record {
        at_turn = line.at_turn;
        drawn = line.drawn;
        owner = line.owner;
        three_words = length-set s.words 0 word ∙ line.three_words;
        ticket_word = get_or-set_other s.words 0 1 word 0 (λ e. omega arith) ∙ line.ticket_word;
        at_turn_word = get_or-set_other s.words 0 2 word 0 (λ e. omega arith) ∙ line.at_turn_word;
        shares = let a = sum_set share_of s.views seat old new at in let c = line.shares in omega arith;
        holders = let a = sum_set holding s.views seat old new at in let c = line.holders in omega arith;
        each = seats_stay (HasOwnTicket line.at_turn line.drawn line.owner) s.views seat new (same_queued (line.each seat old at) (λ none_left. sym shares ∙ none_left) tickets turns) (λ i view _. line.each i view);
        one_slot = line.one_slot;
        home = λ none_turns. let a = sum_set turning s.views seat old new at in let b = sum_has turning s.views seat old at in
            let there = line.home (omega arith) in (there.0, there.1, right there.0 (omega arith) there.2);
      }

  -- a seat draws a ticket
  pub line_draws : (s : Table) (line : IsTicketQueue R s) (seat word : ℕ) (old new : View) → get_elem? s.views seat ≡ some old → 0 < old.share → old.ticket ≡ None
      → word ≡ (line.drawn + 1) % 2 ^ 64 → new.share ≡ old.share → new.ticket ≡ Some line.drawn → new.has_turn ≡ old.has_turn
      → IsTicketQueue R record { words = set s.words 1 word; homes = s.homes; views = set s.views seat new }
  line_draws s line seat word old new at live bare is shares ticket turns =
      let n : ℕ = line.drawn in
      let wide = line.three_words in
      let owner : ℕ → ℕ = given line.owner n seat in
      let mine = line.each seat old at in
      let not_held : one_if old.ticket ≡ 0 = ap one_if bare in
      let held : one_if new.ticket ≡ 1 = ap one_if ticket in
      let not_turned : bit old.has_turn ≡ 0 = turning-none mine bare in
      let turned : bit new.has_turn ≡ bit old.has_turn = ap bit turns in
      let before = line.holders in record {
        at_turn = line.at_turn;
        drawn = n + 1;
        owner = owner;
        three_words = length-set s.words 1 _ ∙ wide;
        ticket_word = get_or-set_same s.words 1 word 0 (omega arith) ∙ is;
        at_turn_word = get_or-set_other s.words 1 2 _ 0 (λ e. omega arith) ∙ line.at_turn_word;
        shares = let a = sum_set share_of s.views seat old new at in let c = line.shares in omega arith;
        holders = let a = sum_set holding s.views seat old new at in omega arith;
        each = seats_stay (HasOwnTicket line.at_turn (n + 1) owner) s.views seat new (record {
          spent = λ none_left. absurd (omega arith);
          waits = λ k e. let same : n ≡ k = ap num (sym ticket ∙ e) in (omega arith, omega arith, subst (λ (z : ℕ). owner z ≡ seat) same (given_here line.owner n seat));
          called = λ on. absurd (no_some (sym bare ∙ mine.called (sym turns ∙ on)));
        }) (λ j view _ there. let theirs = line.each j view there in record {
          spent = theirs.spent;
          waits = λ k e. let waits = theirs.waits k e in let under = waits.1 in (waits.0, omega arith, given_else line.owner n seat k (λ same. omega arith) ∙ waits.2);
          called = theirs.called;
        });
        one_slot = line.one_slot;
        home = λ none_turns. let a = sum_set turning s.views seat old new at in line.home (omega arith);
      }

  -- where one has the turn, no other has
  pub alone : (s : Table) (line : IsTicketQueue R s) (seat : ℕ) (mine : View) → get_elem? s.views seat ≡ some mine → mine.has_turn ≡ true
      → (other : ℕ) (theirs : View) → other ≢ seat → get_elem? s.views other ≡ some theirs → theirs.has_turn ≡ true → ⊥
  alone s line seat mine at on other theirs apart there on' =
      let queued = line.each other theirs there in let own = line.each seat mine at in
      apart (sym ((queued.waits line.at_turn (queued.called on')).2) ∙ (own.waits line.at_turn (own.called on)).2)

  -- where the one whose ticket is served does not have the turn, none has
  pub none_turns_yet : (s : Table) (line : IsTicketQueue R s) (seat : ℕ) (mine : View) → get_elem? s.views seat ≡ some mine → mine.has_turn ≡ false → mine.ticket ≡ Some line.at_turn
      → (value : S) × (s.homes ≡ some (Some value) ∷ []) × R value
  none_turns_yet s line seat mine at off served = let own = line.each seat mine at in
      line.home (sum_none turning s.views (λ other theirs there. bit_off theirs.has_turn (λ on.
      let queued = line.each other theirs there in
      let a = (queued.waits line.at_turn (queued.called on)).2 in let b = (own.waits line.at_turn served).2 in
      let same : mine ≡ theirs = some-injective mine theirs (sym at ∙ (ap (λ (z : ℕ). get_elem? s.views z) (sym b ∙ a) ∙ there)) in
      not_on (sym off ∙ (ap (λ (z : View). z.has_turn) same ∙ on)))))

  -- the one whose ticket is served takes the value
  pub line_takes : (s : Table) (line : IsTicketQueue R s) (seat : ℕ) (old new : View) → get_elem? s.views seat ≡ some old → old.has_turn ≡ false → old.ticket ≡ Some line.at_turn
      → new.share ≡ old.share → new.ticket ≡ old.ticket → new.has_turn ≡ true
      → IsTicketQueue R record { words = s.words; homes = set s.homes 0 none; views = set s.views seat new }
  line_takes s line seat old new at off served shares tickets on =
      let mine = line.each seat old at in
      let held : one_if new.ticket ≡ one_if old.ticket = ap one_if tickets in
      let turned : bit new.has_turn ≡ 1 = ap bit on in
      let not_turned : bit old.has_turn ≡ 0 = ap bit off in
      words_stay s line (set s.homes 0 none) (set s.views seat new)
      (let a = sum_set share_of s.views seat old new at in let c = line.shares in omega arith)
      (let a = sum_set holding s.views seat old new at in let c = line.holders in omega arith)
      (seats_stay (HasOwnTicket line.at_turn line.drawn line.owner) s.views seat new
      (record { spent = λ none_left. tickets ∙ mine.spent (sym shares ∙ none_left); waits = λ k e. mine.waits k (sym tickets ∙ e); called = λ _. tickets ∙ served }) (λ j view _. line.each j view))
      (length-set s.homes 0 none ∙ line.one_slot)
      (λ none_turns. let a = sum_set turning s.views seat old new at in absurd (omega arith))

  -- the one that has the turn gives a value and the turn on
  pub line_passes : (R' : S → Type 0) (s : Table) (line : IsTicketQueue R s) (seat word : ℕ) (old new : View) (value : S) → get_elem? s.views seat ≡ some old
      → old.has_turn ≡ true → 0 < old.share → word ≡ (line.at_turn + 1) % 2 ^ 64 → new.share ≡ old.share → new.ticket ≡ None → new.has_turn ≡ false → R' value
      → IsTicketQueue R' record { words = set s.words 2 word; homes = set s.homes 0 (some (Some value)); views = set s.views seat new }
  line_passes R' s line seat word old new value at on live is shares bare off right =
      let n : ℕ = line.at_turn in
      let wide = line.three_words in
      let mine = line.each seat old at in
      let served = mine.called on in
      let held : one_if old.ticket ≡ 1 = ap one_if served in
      let not_held : one_if new.ticket ≡ 0 = ap one_if bare in
      let before = line.holders in
      let owned = (mine.waits n served).2 in
      let back = one_slot_set s.homes (some (Some value)) line.one_slot in record {
        at_turn = n + 1;
        drawn = line.drawn;
        owner = line.owner;
        three_words = length-set s.words 2 _ ∙ wide;
        ticket_word = get_or-set_other s.words 2 1 _ 0 (λ e. omega arith) ∙ line.ticket_word;
        at_turn_word = get_or-set_same s.words 2 word 0 (omega arith) ∙ is;
        shares = let a = sum_set share_of s.views seat old new at in let c = line.shares in omega arith;
        holders = let a = sum_set holding s.views seat old new at in omega arith;
        each = seats_stay (HasOwnTicket (n + 1) line.drawn line.owner) s.views seat new (bare_queued new bare off)
            (λ j view apart there. let theirs = line.each j view there in record {
              spent = theirs.spent;
              waits = λ k e. let waits = theirs.waits k e in let low = waits.0 in let differ : k ≢ n = λ same. apart (sym waits.2 ∙ (ap line.owner same ∙ owned)) in (omega arith, waits.1, waits.2);
              called = λ e. absurd (alone s line seat old at on j view apart there e);
            });
        one_slot = ap length back;
        home = λ _. (value, back, right);
      }

  -- the first pass has the turn, at a table with no value yet
  pub line_opens : (word ticket : ℕ) (view : View) → ticket < 2 ^ 64 → view.share ≡ all_shares → view.ticket ≡ Some ticket → view.has_turn ≡ true
      → IsTicketQueue R record { words = word ∷ (ticket + 1) % 2 ^ 64 ∷ ticket ∷ []; homes = none ∷ []; views = view ∷ [] }
  line_opens word ticket view small all held on =
      let one : one_if view.ticket ≡ 1 = ap one_if held in let turned : bit view.has_turn ≡ 1 = ap bit on in record {
        at_turn = ticket;
        drawn = ticket + 1;
        owner = λ _. 0;
        three_words = refl;
        ticket_word = refl;
        at_turn_word = omega arith;
        shares = omega (arith, sum_by-cons share_of view []);
        holders = omega (arith, sum_by-cons holding view []);
        each = λ seat other there. subst (λ (z : View). HasOwnTicket ticket (ticket + 1) (λ _. 0) seat z) (only view other seat there) (record {
          spent = λ none_left. absurd (omega arith);
          waits = λ k e. let same : ticket ≡ k = ap num (sym held ∙ e) in (omega arith, omega arith, sym (only_seat view other seat there));
          called = λ _. held;
        });
        one_slot = refl;
        home = λ none_turns. absurd (omega (arith, sum_by-cons turning view []));
      }

  -- who has all shares is the last
  pub others_spent : (s : Table) (line : IsTicketQueue R s) (seat : ℕ) (mine : View) → get_elem? s.views seat ≡ some mine → mine.share ≡ all_shares
      → (other : ℕ) (theirs : View) → other ≢ seat → get_elem? s.views other ≡ some theirs → theirs.share ≡ 0
  others_spent s line seat mine at all other theirs apart there =
      let none_left : View = record mine { share = 0 } in
      let a = sum_set share_of s.views seat mine none_left at in
      let b = sum_has share_of (set s.views seat none_left) other theirs (set_else s.views seat other none_left apart ∙ there) in let c = line.shares in omega arith

  -- what the last one finds
  pub line_ends : (s : Table) (line : IsTicketQueue R s) (seat : ℕ) (mine : View) → get_elem? s.views seat ≡ some mine → mine.share ≡ all_shares → mine.ticket ≡ None
      → (value : S) × (s.homes ≡ some (Some value) ∷ []) × R value
  line_ends s line seat mine at all bare = line.home (sum_none turning s.views (λ other theirs there. dite (ℕ_discrete other seat)
      (λ same. turning-none (line.each other theirs there) (ap (λ (z : View). z.ticket) (some-injective theirs mine (sym there ∙ (ap (λ (k : ℕ). get_elem? s.views k) same ∙ at))) ∙ bare))
      (λ apart. turning-none (line.each other theirs there) ((line.each other theirs there).spent (others_spent s line seat mine at all other theirs apart there)))))
