use Rattle.std.proofs.Common.{◌≡◌, ◌+◌, ◌<◌, ◌≤◌, ◌++◌, ℕ, List, length, get_or, take, drop, All, sym, ap, ◌∙◌, subst, arith}
use Rattle.std.proofs.lemmas.List.{take_at}
use Rattle.hose_graph.specs.declared.entry.Vpn.{Vpn}
use Rattle.hose_graph.specs.declared.entry.Entry.TheVariants.{Release}
use Rattle.hose_law.specs.Book.{Book, amount_on, load_of}
use Rattle.hose_law.specs.History.{next_book}
use Rattle.hose_graph.specs.Limits.{most_epoch}
use Rattle.hose_law.specs.steps.Live.{HasRisingIds}
use Rattle.hose_law.proofs.Entries.{rising_next, NoneOversold, entry_keeps}
use Rattle.hose_graph.specs.Ascending.{firsts}
use Rattle.hose_law.specs.Recent.{Recent}
use Rattle.hose_book.specs.steps.Changes.{AreUpTo, with_changes}
use Rattle.hose_book.specs.Ledger.{Ledger}
use Rattle.hose_book.specs.steps.Ledger.{AreKeptLoads, IsKept, next_ledger}
use Rattle.hose_book.proofs.Tracking.{floor_next, with_up_to}
use Rattle.hose_book.proofs.Releasing.{Taken, kept_left, taken_in}
use Rattle.hose_book.proofs.Book.remove.Goals as goal

pub subtract_amounts-requires-clause-links : goal.subtract_amounts-requires-clause-links
subtract_amounts-requires-clause-links c = λ k d inside.
    let network = c.self.inside.topology in
    let customer = c.args.customer.now in
    let id = c.args.id in
    let vpn = c.index-as_slice-place.result in
    let book : Book = record { epoch = c.self.inside.epoch; live = c.self.inside.live; out = c.self.inside.served.out } in
    let out : Taken book customer id c.args.place vpn = taken_in c.args.self.now.book book customer id c.args.place vpn (ap (λ (s : Ledger). s.book) c.self.view_is) c.self.invariant.3.rise c.requires.there (c.index-as_slice-place.is ∙ ap (λ (live : List Vpn). get_or live c.args.place c.index-as_slice-place.result) c.as_slice.ensures.value) in
    let kept : IsKept network vpn = subst (IsKept network) (sym (c.index-as_slice-place.is ∙ ap (λ (live : List Vpn). get_or live c.args.place c.index-as_slice-place.result) c.as_slice.ensures.value)) (c.self.invariant.4 c.args.place vpn out.inside) in
    omega (
      arith,
      kept.links k d (omega (arith, inside, ap length c.pairs.ensures.value)),
      ap (λ (ps : List (ℕ × ℕ)). (get_or ps k d).0) c.pairs.ensures.value,
      ap length c.deref_mut.ensures.value,
      c.self.invariant.1.places,
    )

pub subtract_amounts-requires-clause-held : goal.subtract_amounts-requires-clause-held
subtract_amounts-requires-clause-held c = λ l inside.
    let network = c.self.inside.topology in
    let customer = c.args.customer.now in
    let id = c.args.id in
    let vpn = c.index-as_slice-place.result in
    let book : Book = record { epoch = c.self.inside.epoch; live = c.self.inside.live; out = c.self.inside.served.out } in
    let out : Taken book customer id c.args.place vpn = taken_in c.args.self.now.book book customer id c.args.place vpn (ap (λ (s : Ledger). s.book) c.self.view_is) c.self.invariant.3.rise c.requires.there (c.index-as_slice-place.is ∙ ap (λ (live : List Vpn). get_or live c.args.place c.index-as_slice-place.result) c.as_slice.ensures.value) in
    let loads_is = c.deref_mut.ensures.value in
    omega (
      arith,
      out.load_less l,
      c.self.invariant.1.each l (omega (arith, inside, ap length loads_is, c.self.invariant.1.places)),
      ap (λ (s : List ℕ). get_or s l 0) loads_is,
      ap (λ (ps : List (ℕ × ℕ)). amount_on l ps) c.pairs.ensures.value,
    )

pub invariant_of-self : goal.invariant_of-self
invariant_of-self c =
    let network = c.self.inside.topology in
    let customer = c.args.customer.now in
    let id = c.args.id in
    let entry = Release customer id in
    let book : Book = record { epoch = c.self.inside.epoch; live = c.self.inside.live; out = c.self.inside.served.out } in
    let out : Taken book customer id c.args.place c.index-as_slice-place.result = taken_in c.args.self.now.book book customer id c.args.place c.index-as_slice-place.result (ap (λ (s : Ledger). s.book) c.self.view_is) c.self.invariant.3.rise c.requires.there (c.index-as_slice-place.is ∙ ap (λ (live : List Vpn). get_or live c.args.place c.index-as_slice-place.result) c.as_slice.ensures.value) in
    let next : Book = record { epoch = book.epoch + 1; live = c.remove.new.self; out = book.out } in
    let next_is : next_book book entry ≡ next = out.released ∙ ap (λ (live : List Vpn). record { epoch = book.epoch + 1; live = live; out = book.out }) (sym c.remove.ensures) in
    let old = c.self.invariant.1 in
    let loads_is = c.deref_mut.ensures.value in
    let new = c.subtract_amounts.new.loads in
    let long : length new ≡ length network.links = omega (arith, c.subtract_amounts.auto.loads, ap length loads_is, old.places) in
    let whole : take c.self.inside.loads.len (new ++ drop (length new) c.self.inside.loads.items) ≡ new =
    take_at new (drop (length new) c.self.inside.loads.items) c.self.inside.loads.len (omega (arith, long, old.places, c.self.inside.loads.ok.0)) in
    let epoch : book.epoch + 1 ≤ most_epoch = omega (arith, c.requires.epoch, ap (λ (s : Ledger). s.book.epoch) c.self.view_is) in
    let kept : NoneOversold network (next_book book entry) = entry_keeps network book entry (omega (arith, epoch), (c.index-as_slice-place.result, out.is)) old.none_oversold in
    let each : (l : ℕ) → l < length network.links → get_or new l 0 ≡ load_of (next_book book entry) l = λ l inside.
    omega (
      arith,
      c.subtract_amounts.ensures l (omega (arith, ap length loads_is, old.places)),
      ap (λ (s : List ℕ). get_or s l 0) loads_is,
      old.each l inside,
      ap (λ (ps : List (ℕ × ℕ)). amount_on l ps) c.pairs.ensures.value,
      out.load_less l,
    ) in
    let loads : AreKeptLoads network (next_book book entry) new = record { places = long; each = each; none_oversold = kept } in (
      c.self.invariant.0,
      subst (λ (b : Book). AreKeptLoads network b (take c.self.inside.loads.len (new ++ drop (length new) c.self.inside.loads.items))) next_is
          (subst (AreKeptLoads network (next_book book entry)) (sym whole) loads),
      epoch,
      subst (HasRisingIds 0) next_is (rising_next 0 book entry c.self.invariant.3),
      subst (λ (b : Book). All (IsKept network) b.live) next_is (kept_left network book customer id c.self.invariant.4),
      subst (λ (r : Recent). r.floor ≤ book.epoch + 1) (sym c.add.ensures) (floor_next c.self.inside.recent book.epoch (firsts c.pairs-2.result.now) c.self.invariant.5),
      subst (λ (r : Recent). AreUpTo (book.epoch + 1) r.changes) (sym c.add.ensures) (with_up_to c.self.inside.recent book.epoch (firsts c.pairs-2.result.now) c.self.invariant.6),
      c.self.invariant.7,
    )

pub returns : goal.returns
returns c =
    let customer = c.args.customer.now in
    let id = c.args.id in
    let book : Book = record { epoch = c.self.inside.epoch; live = c.self.inside.live; out = c.self.inside.served.out } in
    let out : Taken book customer id c.args.place c.index-as_slice-place.result = taken_in c.args.self.now.book book customer id c.args.place c.index-as_slice-place.result (ap (λ (s : Ledger). s.book) c.self.view_is) c.self.invariant.3.rise c.requires.there (c.index-as_slice-place.is ∙ ap (λ (live : List Vpn). get_or live c.args.place c.index-as_slice-place.result) c.as_slice.ensures.value) in
    let next : next_book book (Release customer id) ≡ record { epoch = book.epoch + 1; live = c.remove.new.self; out = book.out } =
    out.released ∙ ap (λ (live : List Vpn). record { epoch = book.epoch + 1; live = live; out = book.out }) (sym c.remove.ensures) in
    let recent = c.add.ensures ∙ ap (λ (pairs : List (ℕ × ℕ)). with_changes c.self.inside.recent book.epoch (firsts pairs)) c.pairs-2.ensures.value ∙ ap (with_changes c.self.inside.recent book.epoch) (sym out.touched) in
    (λ i. record { network = c.self.inside.topology; book = sym next i; recent = recent i })
    ∙ ap (λ (s : Ledger). next_ledger s (Release customer id)) c.self.view_is
