-- What a journal states once its entries were read.
use Rattle.std.proofs.Common.{◌≡◌, ◌∙◌, ℕ, ◌≤◌, List, [], ◌∷◌, Option, None, Some, IfSome, All, filter, length, map, take, suc, zero, inl, refl, sym, ap, subst}
use Rattle.std.specs.Prelude.{Ok}
use Rattle.std.specs.List.{range_with_len}
use Rattle.std.proofs.lemmas.List.Elements.{All-nil, All-take}
use Rattle.hose_graph.specs.Limits.{most_links}
use Rattle.hose_graph.specs.Network.{Network}
use Rattle.hose_graph.specs.steps.Ranges.{IsInRanges}
use Rattle.hose_graph.specs.declared.entry.Entry.{Entry}
use Rattle.hose_law.specs.Book.{Book}
use Rattle.hose_law.specs.History.{book_of}
use Rattle.hose_law.specs.Service.{is_out}
use Rattle.hose_disk.specs.declared.disk.Disk.{Ghosts}
use Rattle.hose_journal.specs.Image.{IsUnbegun}
use Rattle.hose_journal.specs.Moments.{KeepsCount}
use Rattle.hose_journal.specs.Opening.{AddsNoRecord}
use Rattle.hose_store.specs.steps.Becoming.{BeginsAtMost}
use Rattle.hose_store.specs.Opening.{IsRefusedStore}
use Rattle.hose_store.specs.Recovery.{IsHistoryOf, digest_of}
use Rattle.hose_store.specs.declared.fault.StoreFault.{StoreFault}
use Rattle.hose_store.specs.declared.fault.StoreFault.TheVariants as store
use Rattle.hose_store.specs.declared.replay.Replay.{Replay}
use Rattle.hose_store.proofs.Replays.{has_entries}
use Rattle.hose_move.specs.steps.Collecting.{HasPassedAll, IsReadNoFurther, KeepsContent}
use Rattle.hose_move.specs.Stating.{StatesHistory, down_entry, live_entries, number_of}
use Rattle.hose_move.specs.steps.Stating.{StatesAll}
use Rattle.hose_move.specs.declared.stating.Scope.{Scope}
use Rattle.hose_move.specs.declared.stating.Scope.TheVariants.{All as AllEntries, First, Live}
use Rattle.hose_move.specs.declared.stating.Stated.{Stated}
use Rattle.hose_move.proofs.Collected.{all_in_ranges}
use Rattle.hose_move.proofs.Kept.{kept_or}
use Rattle.hose_move.proofs.Statements.{stated_ranges}

module _ {D : Type 0} (disk : Ghosts D) (was : D) (network : Network) where
  -- ---- after the last entry

  module _ (replay : Replay D) (entries : List Entry) (stated : Stated) (all : HasPassedAll disk was network replay entries) where
    pub states_entries : stated.entries.items ≡ entries → stated.numbers.items ≡ [] → StatesAll disk was replay.reading.disk network AllEntries (Ok stated)
    states_entries same none = (
      record {
        history = entries;
        sound = (has_entries disk was network replay entries all.passed.replaying).sound;
        read = all.read;
        is = record { entries = same; numbers = none };
        count = all.count;
      },
      subst (λ (l : List Entry). All IsInRanges l) (sym same) (all_in_ranges entries all.passed.spelled),
      all.begins,
      all.kept,
    )

    pub states_live : stated.entries.items ≡ live_entries replay.book.network replay.book.book → stated.numbers.items ≡ map number_of replay.book.book.live → length replay.book.network.links ≤ most_links
        → StatesAll disk was replay.reading.disk network Live (Ok stated)
    states_live same numbers few =
        let here = all.passed.replaying.is_network in
        let book = all.passed.replaying.given.book in
        let listed : stated.entries.items ≡ live_entries network (book_of 0 entries) = same ∙ ap (λ (n : Network). live_entries n replay.book.book) here ∙ ap (λ (b : Book). live_entries network b) book in (
          record {
            history = entries;
            sound = (has_entries disk was network replay entries all.passed.replaying).sound;
            read = all.read;
            is = record { entries = listed; numbers = numbers ∙ ap (λ (b : Book). map number_of b.live) book };
            count = all.count;
          },
          subst (λ (l : List Entry). All IsInRanges l) (sym listed) (stated_ranges network entries (subst (λ (n : Network). length n.links ≤ most_links) here few) (all_in_ranges entries all.passed.spelled)),
          all.begins,
          all.kept,
        )

  -- the first entries of all
  pub states_first : (left : D) (most : ℕ) (all front : Stated) → StatesAll disk was left network AllEntries (Ok all) → front.entries.items ≡ take most all.entries.items → front.numbers.items ≡ all.numbers.items → StatesAll disk was left network (First most) (Ok front)
  states_first left most all front states entries numbers = (
    record {
      history = states.0.history;
      sound = states.0.sound;
      read = states.0.read;
      is = record { entries = entries ∙ ap (take most) states.0.is.entries; numbers = numbers ∙ states.0.is.numbers };
      count = states.0.count;
    },
    subst (λ (l : List Entry). All IsInRanges l) (sym entries) (All-take IsInRanges most all.entries.items states.1),
    states.2,
    states.3,
  )

  -- there was too little memory
  pub no_further : (left : D) → BeginsAtMost disk was left network → KeepsContent disk was left → IsReadNoFurther disk was network left store.Memory
  no_further left begins kept = record { refused = λ not. absurd (not refl); begins = begins; kept = kept }

  pub refused_open : (left : D) (fault : StoreFault) → IsRefusedStore disk was left network fault → BeginsAtMost disk was left network → AddsNoRecord (disk.content was) (disk.content left) (digest_of network) → IsReadNoFurther disk was network left fault
  refused_open left fault refused begins none = record { refused = λ not. refused; begins = begins; kept = λ not. kept_or (disk.content was) (disk.content left) none begins.keeps.tells not }

  -- ---- a journal that was not begun

  none_filtered : (links : List ℕ) → filter (is_out []) links ≡ []
  none_filtered [] = refl
  none_filtered (link ∷ links) = none_filtered links

  nothing_live : live_entries network (book_of 0 []) ≡ []
  nothing_live = ap (λ (l : List ℕ). map down_entry l) (none_filtered (range_with_len 0 (length network.links)))

  unbegun_read : (content : Option (List ℕ)) → IfSome content IsUnbegun → IfSome content (IsHistoryOf network [])
  unbegun_read None unbegun = tt
  unbegun_read (Some bytes) unbegun = inl (unbegun, refl)

  pub states_nothing : (left : D) (scope : Scope) (stated : Stated) → stated.entries.items ≡ [] → stated.numbers.items ≡ [] → IfSome (disk.content was) IsUnbegun → KeepsCount disk was left → StatesHistory disk was left network scope stated
  states_nothing left AllEntries stated same none unbegun count = record {
    history = [];
    sound = tt;
    read = unbegun_read (disk.content was) unbegun;
    is = record { entries = same; numbers = none };
    count = count;
  }
  states_nothing left (First zero) stated same none unbegun count = record {
    history = [];
    sound = tt;
    read = unbegun_read (disk.content was) unbegun;
    is = record { entries = same; numbers = none };
    count = count;
  }
  states_nothing left (First (suc most)) stated same none unbegun count = record {
    history = [];
    sound = tt;
    read = unbegun_read (disk.content was) unbegun;
    is = record { entries = same; numbers = none };
    count = count;
  }
  states_nothing left Live stated same none unbegun count = record {
    history = [];
    sound = tt;
    read = unbegun_read (disk.content was) unbegun;
    is = record { entries = same ∙ sym nothing_live; numbers = none };
    count = count;
  }

pub no_ranges : (entries : List Entry) → entries ≡ [] → All IsInRanges entries
no_ranges entries none = subst (λ (l : List Entry). All IsInRanges l) (sym none) (All-nil IsInRanges)
