-- Each step keeps what holds between steps, and tells the pass what it says.
use Rattle.std.proofs.Common.{◌≡◌, ◌⊎◌, inl, inr, ℕ, ◌+◌, ◌%◌, ◌^◌, ◌<◌, ◌≤◌, ◌==◌, true, false, List, [], ◌∷◌, ◌++◌, length, get_or, set, sym, refl, ap, ◌∙◌, subst, ⊎_elim, arith, Option, Some, None, get_or-set_other, get_or-set_same}
use mathlib.Core.Logic.{dite}
use mathlib.Core.List.{IsPrefix}
use mathlib.Core.Option.{none, some, some-injective}
use mathlib.Core.Option as maybe
use native.Mathlib.Decide.{dec_le}
use lib.ListN.{get_elem?}
use lib.Seq.{set-get_or}
use prog.Atomic.{either}
use Rattle.atomic_table.specs.Table.{State, Me, step, keeps, takes, gives, stepped, put_back, rest, Allows, Splits, Joins, Final, Seen}
use Rattle.atomic_table.specs.Seated.{TableId}
use Rattle.atomic_table.proofs.Lists.{set_again, one_turn}
use Rattle.hose_graph.specs.declared.entry.Entry.{Entry}
use Rattle.hose_turn.specs.declared.view.View.{View}
use Rattle.hose_turn.specs.declared.view.Origin.{Origin}
use Rattle.hose_turn.specs.declared.view.Tried.{Tried}
use Rattle.hose_turn.specs.steps.Limits.{all_shares}
use Rattle.hose_turn.specs.Places.{HasPlaces}
use Rattle.hose_turn.specs.steps.Places.{HasSomePlaces}
use Rattle.hose_turn.specs.Faults.{end_of_count}
use Rattle.hose_turn.specs.steps.Faults.{IsFloored}
use Rattle.hose_turn.specs.steps.Known.{HasWholeHistory}
use Rattle.hose_turn.specs.steps.Views.{nobody, unborn, opener, cut, branch, glued, failed, passed_on, tried_at, known_of}
use Rattle.hose_turn.specs.steps.Line.{bit, share_of, IsTicketQueue}
use Rattle.hose_turn.specs.steps.History.{IsInformed, IsHistory}
use Rattle.hose_turn.specs.steps.Rule.{HasNoValue, HasOneHistory, RuleHolds}
use Rattle.hose_turn.specs.steps.Steps.{OpensLock, Looks, PassesOn, Draws, Counts, Settles, Tries}
use Rattle.hose_turn.specs.steps.Tries.{IsAware}
use Rattle.hose_turn.proofs.Prefix.{prefix_self, prefix_shorter, prefix_push}
use Rattle.hose_turn.proofs.Seats.{only, only_seat, was_theirs, no_some, not_on, num, opt_discrete}
use Rattle.hose_turn.proofs.Line.{few_hold, alone, none_turns_yet, others_spent, line_splits, line_joins, line_stays, line_draws, line_takes, line_passes, line_opens, line_ends}
use Rattle.hose_turn.proofs.History.{nobody_informed, history_stays, history_splits, history_joins, history_grows, history_owned, history_ends, history_opens}
use Rattle.hose_turn.proofs.Faults.{nobody_floored, tally_stays, tally_splits, tally_joins, tally_passes, tally_ends, tally_opens}
use Rattle.hose_turn.proofs.Tries.{nobody_aware, tries_stays, tries_splits, tries_joins, tries_grow, tries_end, tries_open}

abbrev some_or : {S : Type 0} → S → Option S → S
some_or value None = value
some_or value (Some other) = other

abbrev value_or : {S : Type 0} → S → List (ℕ × Option S) → S
value_or value [] = value
value_or value (slot ∷ slots) = some_or value slot.1

module _ {S : Type 0} (stands : Origin → List Entry → List Tried → S → Type 0) (faults : S → ℕ) where
  abbrev Table : Type 0
  Table = State (Option S) View

  abbrev Seat : Type 0
  Seat = Me (Option S) View

  abbrev Rule : Table → Type 0
  Rule = RuleHolds stands faults

  abbrev Right : Origin → List Entry → List Tried → ℕ → S → Type 0
  Right origin history tries count value = stands origin history tries value × (faults value ≡ count)

  -- where a pass with a share is there, the table was opened
  opened_of : (s : Table) → Rule s → (seat : ℕ) (view : View) → get_elem? s.views seat ≡ some view → 0 < view.share → HasOneHistory stands faults s
  opened_of s rule seat view at live = ⊎_elim
      (λ (unopened : HasNoValue s). let bare : 0 ≡ view.share = ap share_of (only unborn view seat (subst (λ (t : Table). get_elem? t.views seat ≡ some view) unopened.2 at)) in absurd (omega arith))
      (λ (opened : HasOneHistory stands faults s). opened) rule

  -- a step of a seat that keeps its own places and its faults, and leaves the history as it is
  renew : (s : Table) (opened : HasOneHistory stands faults s) (seat : ℕ) (old new : View) (words : List ℕ) (homes : List (maybe.Option (Option S))) → get_elem? s.views seat ≡ some old
      → IsTicketQueue (Right opened.origin opened.history opened.tries opened.count) record { words = words; homes = homes; views = set s.views seat new } → get_or words 0 0 ≡ get_or s.words 0 0
      → IsInformed opened.origin opened.history new → IsFloored opened.count new → IsAware opened.tries new → new.own ≡ old.own → new.faults ≡ old.faults → new.tried ≡ old.tried
      → HasOneHistory stands faults record { words = words; homes = homes; views = set s.views seat new }
  renew s opened seat old new words homes at line word informed floored aware owns same tried = record {
    origin = opened.origin;
    history = opened.history;
    count = opened.count;
    line = line;
    known = subst (λ (n : ℕ). IsHistory opened.origin opened.history n (set s.views seat new)) (sym word) (history_stays opened.known seat old new at owns informed);
    tally = tally_stays opened.tally seat old new at same floored;
    tries = opened.tries;
    noted = tries_stays opened.noted seat old new at tried aware;
  }

  pub splits : (seat : ℕ) (view : View) → 2 ≤ view.share → Splits Rule seat view (cut view) (branch view)
  splits seat view two s rule at =
      let opened = opened_of s rule seat view at (omega arith) in
      let left : View = cut view in
      let right : View = branch view in
      let mine = opened.known.each seat view at in
      let floor = opened.tally.each seat view at in inr record {
        origin = opened.origin;
        history = opened.history;
        count = opened.count;
        line = line_splits (Right opened.origin opened.history opened.tries opened.count) s opened.line seat view left right at (omega arith) (omega arith) refl refl refl refl;
        known = history_splits opened.known seat view left right at refl refl
            (record { spent = λ none_left. absurd (omega arith); same = λ _. mine.same (omega arith); seen = mine.seen; told = mine.told; latest = mine.latest })
            (record { spent = λ _. refl; same = λ _. mine.same (omega arith); seen = mine.seen; told = (opened.history, refl); latest = λ on. absurd (not_on on) });
        tally = tally_splits opened.tally seat view left right at refl refl (record { spent = λ none_left. absurd (omega arith); floor = floor.floor })
            (record { spent = λ _. refl; floor = λ on. absurd (not_on on) });
        tries = opened.tries;
        noted = tries_splits opened.noted seat view left right at refl (record { spent = λ none_left. absurd (omega arith); latest = (opened.noted.each seat view at).latest })
            (record { spent = λ _. refl; latest = λ on. absurd (not_on on) });
      }

  pub joins : (seat : ℕ) (view : View) (other : ℕ) (theirs : View) → 0 < view.share → theirs.ticket ≡ None → Joins Rule seat view other theirs (glued view theirs) nobody
  joins seat view other theirs live bare s rule at apart there =
      let opened = opened_of s rule seat view at live in
      let both : View = glued view theirs in
      let mine = opened.known.each seat view at in
      let seen = (opened.known.each other theirs (was_theirs s.views seat other both theirs apart there)).seen in
      let floor = opened.tally.each seat view at in inr record {
        origin = opened.origin;
        history = opened.history;
        count = opened.count;
        line = line_joins (Right opened.origin opened.history opened.tries opened.count) s opened.line seat view both other theirs nobody at apart there (omega arith) (omega arith) refl refl bare refl refl;
        known = history_joins opened.known seat view both other theirs nobody at there refl refl
            (record { spent = λ none_left. absurd (omega arith); same = λ _. mine.same live; seen = mine.seen; told = seen; latest = mine.latest }) (nobody_informed opened.origin opened.history);
        tally = tally_joins opened.tally seat view both other theirs nobody at there refl refl (record { spent = λ none_left. absurd (omega arith); floor = floor.floor }) (nobody_floored opened.count);
        tries = opened.tries;
        noted = tries_joins opened.noted seat view both other theirs nobody at apart there refl (record { spent = λ none_left. absurd (omega arith); latest = (opened.noted.each seat view at).latest }) (nobody_aware opened.tries);
      }

  pub settles : (slots seat : ℕ) (me : Seat) → 0 < me.0.share → me.0.has_turn ≡ false → Allows Rule slots seat me 0 (λ n. n) (Settles (step slots 0 0 0 none) me)
  settles slots seat me live off s rule _ at _ =
      let view : View = me.0 in
      let opened = opened_of s rule seat view at live in
      let mine = opened.known.each seat view at in
      let floor = opened.tally.each seat view at in
      let wide = opened.line.three_words in
      let right = Right opened.origin opened.history opened.tries opened.count in
      let kept : (longer : List Entry) → IsPrefix longer opened.history → Rule (stepped s 0 (get_or s.words 0 0) seat me.1 (record view { seen = longer; told = [] }) keeps) = λ longer seen.
      let new : View = record view { seen = longer; told = [] } in
      inr (renew s opened seat view new _ s.homes at (line_stays right right s opened.line seat _ view new at refl refl refl (λ value _ is. is)) (get_or-set_same s.words 0 _ 0 (omega arith))
      (record { spent = mine.spent; same = mine.same; seen = seen; told = (opened.history, refl); latest = λ on. absurd (not_on (sym off ∙ on)) })
      (record { spent = floor.spent; floor = floor.floor }) (record { spent = (opened.noted.each seat view at).spent; latest = (opened.noted.each seat view at).latest }) refl refl refl) in
      let owned : (last : ℕ) × HasSomePlaces (length view.origin.since) last view.own = (
        length opened.history,
        subst (λ (origin : Origin). HasSomePlaces (length origin.since) (length opened.history) view.own) (sym (mine.same live)) (history_owned opened.known seat view at),
      ) in
      dite (dec_le (length view.seen) (length view.told))
      (λ le. (record view { seen = view.told; told = [] }, keeps, tt, kept view.told mine.told, (view.told, refl, prefix_shorter view.seen view.told opened.history mine.seen mine.told le, prefix_self view.told, inr refl, owned)))
      (λ more. (record view { seen = view.seen; told = [] }, keeps, tt, kept view.seen mine.seen, (view.seen, refl, prefix_self view.seen, prefix_shorter view.told view.seen opened.history mine.told mine.seen (omega arith), inl refl, owned)))

  pub draws : (slots seat : ℕ) (me : Seat) → 0 < me.0.share → me.0.ticket ≡ None → Allows Rule slots seat me 1 (λ n. (n + 1) % 2 ^ 64) (Draws (step slots 1 1 0 none) me)
  draws slots seat me live bare s rule _ at _ =
      let view : View = me.0 in
      let opened = opened_of s rule seat view at live in
      let mine = opened.known.each seat view at in
      let floor = opened.tally.each seat view at in
      let ticket : ℕ = opened.line.drawn in
      let new : View = record view { ticket = Some ticket } in
      let word : get_or s.words 1 0 ≡ ticket % 2 ^ 64 = opened.line.ticket_word in (
        new,
        keeps,
        tt,
        inr (renew s opened seat view new _ s.homes at (line_draws (Right opened.origin opened.history opened.tries opened.count) s opened.line seat _ view new at live bare (omega arith) refl refl refl)
            (get_or-set_other s.words 1 0 _ 0 (λ e. omega arith))
            (record { spent = mine.spent; same = mine.same; seen = mine.seen; told = mine.told; latest = mine.latest }) (record { spent = floor.spent; floor = floor.floor })
            (record { spent = (opened.noted.each seat view at).spent; latest = (opened.noted.each seat view at).latest }) refl refl refl),
        (ticket, word, refl),
      )

  pub looks : (slots seat : ℕ) (me : Seat) → 0 < me.0.share → me.0.has_turn ≡ false → Allows Rule slots seat me 2 (λ n. n) (Looks stands faults (step slots 2 0 0 none) me)
  looks slots seat me live off s rule _ at _ =
      let view : View = me.0 in
      let found : ℕ = get_or s.words 2 0 in
      let opened = opened_of s rule seat view at live in
      let mine = opened.known.each seat view at in
      let floor = opened.tally.each seat view at in
      let right = Right opened.origin opened.history opened.tries opened.count in
      let word : found ≡ opened.line.at_turn % 2 ^ 64 = opened.line.at_turn_word in
      let words : set s.words 2 found ≡ s.words = set-get_or s.words 2 0 in
      dite (opt_discrete view.ticket opened.line.at_turn)
      (λ (served : view.ticket ≡ Some opened.line.at_turn).
      let home = none_turns_yet right s opened.line seat view at off served in
      let new : View = record view { has_turn = true; seen = opened.history; all_tried = opened.tries; floor = faults home.0 } in (
        new,
        takes 0 (Some home.0),
        ap (λ (homes : List (maybe.Option (Option S))). get_elem? homes 0) home.1,
        subst (λ (ws : List ℕ). Rule record { words = ws; homes = set s.homes 0 none; views = set s.views seat new }) (sym words)
            (inr (renew s opened seat view new s.words _ at (line_takes right s opened.line seat view new at off served refl refl refl) refl
            (record { spent = mine.spent; same = mine.same; seen = prefix_self opened.history; told = mine.told; latest = λ _. refl })
            (record { spent = floor.spent; floor = λ _. home.2.1 }) (record { spent = (opened.noted.each seat view at).spent; latest = λ _. refl }) refl refl refl)),
        λ ticket is. (
          λ _. (home.0, opened.history, opened.tries, mine.seen, subst (λ (origin : Origin). IsPrefix origin.since opened.history) (sym (mine.same live)) opened.known.since, subst (λ (origin : Origin). stands origin opened.history opened.tries home.0) (sym (mine.same live)) home.2.0, refl),
          λ other. absurd (other (word ∙ ap (λ (z : ℕ). z % 2 ^ 64) (ap num (sym served ∙ is)))),
        ),
      ))
      (λ not_served. (
        view,
        keeps,
        tt,
        subst Rule (λ i. record { words = sym words i; homes = s.homes; views = sym (set_again s.views seat view at) i }) rule,
        λ ticket is. (
          λ same.
              let waits = (opened.line.each seat view at).waits ticket is in let low = waits.0 in let high = waits.1 in let near = few_hold right s opened.line in
              absurd (not_served (is ∙ ap Some (sym (one_turn opened.line.at_turn ticket (2 ^ 64) low (omega arith) (sym word ∙ same))))),
          λ _. refl,
        ),
      ))

  pub counts : (slots seat : ℕ) (me : Seat) (entry : Entry) → 0 < me.0.share → me.0.has_turn ≡ true → me.0.origin.first + length (me.0.seen ++ entry ∷ []) < 2 ^ 64
      → Allows Rule slots seat me 0 (λ n. (n + 1) % 2 ^ 64) (Counts entry (step slots 0 1 0 none) me)
  counts slots seat me entry live on small s rule _ at _ =
      let view : View = me.0 in
      let opened = opened_of s rule seat view at live in
      let mine = opened.known.each seat view at in
      let floor = opened.tally.each seat view at in
      let wide = opened.line.three_words in
      let latest = mine.latest on in
      let history : List Entry = opened.history in
      let longer : List Entry = history ++ entry ∷ [] in
      let new : View = record view { seen = view.seen ++ entry ∷ []; own = view.own ++ length view.seen ∷ [] } in
      let here : view.seen ++ entry ∷ [] ≡ longer = ap (λ (l : List Entry). l ++ entry ∷ []) latest in
      let others = alone (Right opened.origin history opened.tries opened.count) s opened.line seat view at on in
      let known = history_grows opened.known seat view new entry at (ap (λ (l : List Entry). view.own ++ length l ∷ []) latest)
      (record {
        spent = λ none_left. absurd (omega arith);
        same = mine.same;
        seen = subst (λ (l : List Entry). IsPrefix l longer) (sym here) (prefix_self longer);
        told = prefix_push view.told history entry mine.told;
        latest = λ _. here;
      }) others in
      let fits : opened.origin.first + length longer < 2 ^ 64 = subst (λ (z : Origin × List Entry). z.0.first + length z.1 < 2 ^ 64) (λ i. (mine.same live i, here i)) small in
      let word = known.epoch_word in (
        new,
        keeps,
        tt,
        inr record {
          origin = opened.origin;
          history = longer;
          count = opened.count;
          line = line_stays (Right opened.origin history opened.tries opened.count) (Right opened.origin longer opened.tries opened.count) s opened.line seat _ view new at refl refl refl
              (λ value off _. let turned : bit view.has_turn ≡ 1 = ap bit on in absurd (omega arith));
          known = subst (λ (n : ℕ). IsHistory opened.origin longer n (set s.views seat new)) (sym (get_or-set_same s.words 0 _ 0 (omega arith) ∙ omega arith)) known;
          tally = tally_stays opened.tally seat view new at refl (record { spent = λ none_left. absurd (omega arith); floor = floor.floor });
          tries = opened.tries;
          noted = tries_stays opened.noted seat view new at refl (record { spent = λ none_left. absurd (omega arith); latest = (opened.noted.each seat view at).latest });
        },
        refl,
      )

  pub tries : (slots seat : ℕ) (me : Seat) (entry : Entry) → 0 < me.0.share → me.0.has_turn ≡ true → Allows Rule slots seat me 0 (λ n. n) (Tries entry (step slots 0 0 0 none) me)
  tries slots seat me entry live on s rule _ at _ =
      let view : View = me.0 in
      let opened = opened_of s rule seat view at live in
      let mine = opened.known.each seat view at in
      let floor = opened.tally.each seat view at in
      let wide = opened.line.three_words in
      let one : Tried = tried_at view.seen entry in
      let longer : List Tried = opened.tries ++ one ∷ [] in
      let new : View = failed view entry in
      let here : view.all_tried ++ one ∷ [] ≡ longer = ap (λ (all : List Tried). all ++ one ∷ []) ((opened.noted.each seat view at).latest on) in
      let others = alone (Right opened.origin opened.history opened.tries opened.count) s opened.line seat view at on in (
        new,
        keeps,
        tt,
        inr record {
          origin = opened.origin;
          history = opened.history;
          count = opened.count;
          line = line_stays (Right opened.origin opened.history opened.tries opened.count) (Right opened.origin opened.history longer opened.count) s opened.line seat _ view new at refl refl refl
              (λ value off _. let turned : bit view.has_turn ≡ 1 = ap bit on in absurd (omega arith));
          known = subst (λ (n : ℕ). IsHistory opened.origin opened.history n (set s.views seat new)) (sym (get_or-set_same s.words 0 _ 0 (omega arith)))
              (history_stays opened.known seat view new at refl (record { spent = mine.spent; same = mine.same; seen = mine.seen; told = mine.told; latest = mine.latest }));
          tally = tally_stays opened.tally seat view new at refl (record { spent = floor.spent; floor = floor.floor });
          tries = longer;
          noted = tries_grow opened.noted seat view new one at refl (record { spent = λ none_left. absurd (omega arith); latest = λ _. here }) others;
        },
        refl,
      )

  pub passes : (rise : ℕ → ℕ → ℕ) (slots seat : ℕ) (me : Seat) (value : S) → ((floor count : ℕ) → floor ≤ count → count < end_of_count → floor + rise floor count ≤ count)
      → 0 < me.0.share → me.0.has_turn ≡ true → me.1 ≡ (0, Some value) ∷ [] → stands me.0.origin me.0.seen me.0.all_tried value → me.0.floor ≤ faults value
      → Allows Rule slots seat me 2 (λ n. (n + 1) % 2 ^ 64) (PassesOn faults rise (step slots 2 1 0 none) me)
  passes rise slots seat me value fits live on has right above s rule _ at _ =
      let view : View = me.0 in
      let opened = opened_of s rule seat view at live in
      let mine = opened.known.each seat view at in
      let floor = (opened.tally.each seat view at).floor on in
      let latest = mine.latest on in
      let now : ℕ = faults value in
      let new : View = passed_on view (rise view.floor now) in
      let word : get_or s.words 2 0 ≡ opened.line.at_turn % 2 ^ 64 = opened.line.at_turn_word in
      let before = Right opened.origin opened.history opened.tries opened.count in
      let others = alone before s opened.line seat view at on in
      let knows = (opened.noted.each seat view at).latest on in
      let stood : stands opened.origin opened.history opened.tries value = subst (λ (z : Origin × List Entry × List Tried). stands z.0 z.1 z.2 value) (λ i. (mine.same live i, latest i, knows i)) right in
      let kept : HasOneHistory stands faults record { words = set s.words 2 ((get_or s.words 2 0 + 1) % 2 ^ 64); homes = set s.homes 0 (some (Some value)); views = set s.views seat new } = record {
        origin = opened.origin;
        history = opened.history;
        count = now;
        line = line_passes before (Right opened.origin opened.history opened.tries now) s opened.line seat _ view new value at on live (omega arith) refl refl refl (stood, refl);
        known = subst (λ (n : ℕ). IsHistory opened.origin opened.history n (set s.views seat new)) (sym (get_or-set_other s.words 2 0 _ 0 (λ e. omega arith)))
            (history_stays opened.known seat view new at refl
            (record { spent = λ none_left. absurd (omega arith); same = mine.same; seen = mine.seen; told = mine.told; latest = λ e. absurd (not_on e) }));
        tally = tally_passes opened.tally seat view new now (rise view.floor now) at on (omega arith) (λ small. let a = fits view.floor now above small in omega arith) refl
            (record { spent = λ none_left. absurd (omega arith); floor = λ e. absurd (not_on e) }) others;
        tries = opened.tries;
        noted = tries_stays opened.noted seat view new at refl (record { spent = λ none_left. absurd (omega arith); latest = λ e. absurd (not_on e) });
      } in (
        new,
        gives,
        tt,
        subst (λ (slots : List (ℕ × Option S)). Rule record { words = set s.words 2 ((get_or s.words 2 0 + 1) % 2 ^ 64); homes = put_back s.homes slots; views = set s.views seat new }) (sym has) (inr kept),
        λ other is. let same : value ≡ other = ap (λ (slots : List (ℕ × Option S)). value_or value slots) (sym has ∙ is) in
            subst (λ (z : S). ◌≡◌ {A = Seat} (new, rest me.1) (passed_on view (rise view.floor (faults z)), [])) same (ap (λ (slots : List (ℕ × Option S)). (new, rest slots)) has),
      )

  pub begins : (slots seat epoch : ℕ) (me : Seat) (value : S) (origin : Origin) → me.0 ≡ unborn → stands origin origin.since [] value → epoch ≡ origin.first + length origin.since
      → Allows Rule slots seat me 0 (λ n. either (n == 0) epoch n) (OpensLock stands faults (step slots 0 0 epoch (some (Some value))) me)
  begins slots seat epoch me value origin new right word s rule _ at _ =
      ⊎_elim (λ (unopened : HasNoValue s).
      let ticket : ℕ = unopened.0 in
      let small = unopened.1 in
      let view : View = opener origin ticket (faults value) in
      let first_seat : seat ≡ 0 = only_seat unborn me.0 seat (subst (λ (t : Table). get_elem? t.views seat ≡ some me.0) unopened.2 at) in
      let informed : IsInformed origin origin.since view = record {
        spent = λ none_left. refl;
        same = λ _. refl;
        seen = prefix_self origin.since;
        told = (origin.since, refl);
        latest = λ _. refl;
      } in
      let opened : HasOneHistory stands faults record { words = epoch ∷ (ticket + 1) % 2 ^ 64 ∷ ticket ∷ []; homes = none ∷ []; views = view ∷ [] } = record {
        origin = origin;
        history = origin.since;
        count = faults value;
        line = line_opens (Right origin origin.since [] (faults value)) epoch ticket view small refl refl refl;
        known = subst (λ (n : ℕ). IsHistory origin origin.since n (view ∷ [])) (sym word) (history_opens origin view refl informed);
        tally = tally_opens (faults value) view refl (record { spent = λ _. refl; floor = λ _. refl });
        tries = [];
        noted = tries_open view (record { spent = λ _. refl; latest = λ _. refl });
      } in (
        view,
        takes 0 None,
        subst (λ (t : Table). get_elem? t.homes 0 ≡ some (some None)) (sym unopened.2) refl,
        subst (λ (z : Table × ℕ). Rule (stepped z.0 0 (either (get_or z.0.words 0 0 == 0) epoch (get_or z.0.words 0 0)) z.1 me.1 view (takes 0 None))) (λ i. (sym unopened.2 i, sym first_seat i)) (inr opened),
        λ other said. (
          origin,
          ticket,
          subst (λ (z : S). stands origin origin.since [] z) (ap (λ z. some_or value z) (some-injective (Some value) (Some other) said)) right,
          ap (λ (z : S). (opener origin ticket (faults z), (0, None) ∷ me.1)) (ap (λ z. some_or value z) (some-injective (Some value) (Some other) said)),
        ),
      ))
      (λ (opened : HasOneHistory stands faults s).
      let queued = opened.line.each seat me.0 at in absurd (no_some (sym (queued.spent (ap share_of new)) ∙ ap (λ (z : View). z.ticket) new))) rule

  -- what the last pass finds
  ends : (turn : TableId) (seat : ℕ) (view : View) → view.share ≡ all_shares → view.ticket ≡ None → (s : Table) → Rule s → get_elem? s.views seat ≡ some view
      → (value : S) × (s.homes ≡ some (Some value) ∷ []) × ((history : List Entry) × (tries : List Tried) × HasWholeHistory stands (known_of turn view) history tries value) × ((view.faults ≤ faults value) ⊎ (end_of_count ≤ faults value))
  ends turn seat view all bare s rule at =
      let live : 0 < view.share = omega arith in
      let opened = opened_of s rule seat view at live in
      let mine = opened.known.each seat view at in
      let home = line_ends (Right opened.origin opened.history opened.tries opened.count) s opened.line seat view at all bare in
      let same = mine.same live in
      let others = others_spent (Right opened.origin opened.history opened.tries opened.count) s opened.line seat view at all in (
        home.0,
        home.1,
        (
          opened.history,
          opened.tries,
          record {
            stood = subst (λ (origin : Origin). stands origin opened.history opened.tries home.0) (sym same) home.2.0;
            since = subst (λ (origin : Origin). IsPrefix origin.since opened.history) (sym same) opened.known.since;
            seen = mine.seen;
            own = subst (λ (origin : Origin). HasPlaces (length origin.since) (length opened.history) view.own) (sym same) (history_ends opened.known seat view at others);
            tried = tries_end opened.noted seat view at others;
          },
        ),
        subst (λ (count : ℕ). (view.faults ≤ count) ⊎ (end_of_count ≤ count)) (sym home.2.1) (tally_ends opened.tally seat view at),
      )

  -- what is found in the slot as the lock is closed
  pub closes : (turn : TableId) (seat : ℕ) (view : View) → view.share ≡ all_shares → view.ticket ≡ None → (words : List ℕ) (slots : List (Option S)) → Final (Seen Rule seat view) words slots
      → (slot : Option S) → get_elem? slots 0 ≡ some slot
      → (value : S) × (slot ≡ Some value) × ((history : List Entry) × (tries : List Tried) × HasWholeHistory stands (known_of turn view) history tries value) × ((view.faults ≤ faults value) ⊎ (end_of_count ≤ faults value))
  closes turn seat view all bare words slots last slot is =
      let found = ends turn seat view all bare last.0 last.1.0 last.1.1 in
      let there = last.4 0 (Some found.0) (ap (λ (homes : List (maybe.Option (Option S))). get_elem? homes 0) found.1) in
      (found.0, some-injective slot (Some found.0) (sym is ∙ there), found.2, found.3)
