use Rattle.std.proofs.Common.{◌≡◌, ℕ, ◌+◌, ◌<◌, ◌≤◌, List, ◌++◌, length, get_or, take, drop, All, sym, ap, subst, arith}
use Rattle.std.proofs.lemmas.List.{take_at}
use Rattle.std.proofs.lemmas.List.Elements.{All-push}
use Rattle.hose_graph.specs.declared.entry.Vpn.{Vpn}
use Rattle.hose_graph.specs.declared.entry.Entry.TheVariants.{Admit}
use Rattle.hose_law.specs.Book.{Book, amount_on, load_of}
use Rattle.hose_law.specs.History.{IsSoundAt, next_book}
use Rattle.hose_law.proofs.Entries.{rising_next, NoneOversold, entry_keeps}
use Rattle.hose_law.specs.steps.Live.{HasRisingIds}
use Rattle.hose_graph.specs.Ascending.{firsts}
use Rattle.hose_law.specs.Recent.{Recent}
use Rattle.hose_book.specs.steps.Changes.{AreUpTo}
use Rattle.hose_book.specs.Ledger.{Ledger}
use Rattle.hose_book.specs.steps.Ledger.{AreKeptLoads, IsKept}
use Rattle.hose_book.proofs.Tracking.{floor_next, with_up_to}
use Rattle.hose_law.proofs.Bounds.{reserved_links, reserved_few, reserved_most, reserved_nodes}
use Rattle.hose_book.proofs.Loads.{capacity_small, load_more}
use Rattle.hose_book.proofs.Book.admit.Goals as goal

pub add_amounts-requires-clause-links : goal.add_amounts-requires-clause-links
add_amounts-requires-clause-links c = λ k d inside.
    let network = c.self.inside.topology in
    let entry = Admit c.args.customer c.args.hose c.args.amounts in
    let sound : IsSoundAt network (record { epoch = c.self.inside.epoch; live = c.self.inside.live; out = c.self.inside.served.out }) entry =
    subst (λ (s : Ledger). IsSoundAt s.network s.book entry) (sym c.self.view_is) c.requires in
    let links = reserved_links network c.self.invariant.0 _ c.args.hose c.args.amounts sound.2.on_tree in
    let link : (get_or c.args.amounts k d).0 < length network.links = links k d (omega (arith, inside, ap length c.pairs-pairs.ensures.value)) in
    omega (
      arith,
      link,
      ap (λ (ps : List (ℕ × ℕ)). (get_or ps k d).0) c.pairs-pairs.ensures.value,
      ap length c.deref_mut.ensures.value,
      c.self.invariant.1.places,
    )

pub add_amounts-requires-clause-fits : goal.add_amounts-requires-clause-fits
add_amounts-requires-clause-fits c = λ l inside.
    let network = c.self.inside.topology in
    let book : Book = record { epoch = c.self.inside.epoch; live = c.self.inside.live; out = c.self.inside.served.out } in
    let entry = Admit c.args.customer c.args.hose c.args.amounts in
    let sound : IsSoundAt network book entry = subst (λ (s : Ledger). IsSoundAt s.network s.book entry) (sym c.self.view_is) c.requires in
    let kept : NoneOversold network (next_book book entry) = entry_keeps network book entry sound c.self.invariant.1.none_oversold in
    let loads_is = c.deref_mut.ensures.value in
    let here = c.self.invariant.1.each l (omega (arith, ap length loads_is, c.self.invariant.1.places)) in
    omega (
      arith,
      kept l,
      capacity_small network l c.self.invariant.0,
      load_more book c.args.customer c.args.hose c.args.amounts l,
      here,
      ap (λ (s : List ℕ). get_or s l 0) loads_is,
      ap (λ (ps : List (ℕ × ℕ)). amount_on l ps) c.pairs-pairs.ensures.value,
    )

pub invariant_of-self : goal.invariant_of-self
invariant_of-self c =
    let network = c.self.inside.topology in
    let book : Book = record { epoch = c.self.inside.epoch; live = c.self.inside.live; out = c.self.inside.served.out } in
    let entry = Admit c.args.customer c.args.hose c.args.amounts in
    let sound : IsSoundAt network book entry = subst (λ (s : Ledger). IsSoundAt s.network s.book entry) (sym c.self.view_is) c.requires in
    let kept : NoneOversold network (next_book book entry) = entry_keeps network book entry sound c.self.invariant.1.none_oversold in
    let old = c.self.invariant.1 in
    let loads_is = c.deref_mut.ensures.value in
    let new = c.add_amounts.new.loads in
    let long : length new ≡ length network.links = omega (arith, c.add_amounts.auto.loads, ap length loads_is, old.places) in
    let taken : take c.self.inside.loads.len (new ++ drop (length new) c.self.inside.loads.items) ≡ new =
    take_at new (drop (length new) c.self.inside.loads.items) c.self.inside.loads.len (omega (arith, long, old.places, c.self.inside.loads.ok.0)) in
    let out = c.self.inside.served.out in
    let next_is : next_book book entry ≡ record { epoch = c.self.inside.epoch + 1; live = c.push.new.self; out = out } =
    ap (λ (live : List Vpn). record { epoch = c.self.inside.epoch + 1; live = live; out = out }) (sym c.push.ensures) in
    let vpn : Vpn = record { id = c.self.inside.epoch + 1; customer = c.args.customer; hose = c.args.hose; amounts = c.args.amounts } in
    let is_kept : IsKept network vpn = record {
      nodes = reserved_nodes network c.self.invariant.0 _ c.args.hose c.args.amounts sound.2.on_tree;
      links = reserved_links network c.self.invariant.0 _ c.args.hose c.args.amounts sound.2.on_tree;
      few = reserved_few network c.self.invariant.0 _ c.args.hose c.args.amounts sound.2.on_tree;
      amounts = reserved_most network c.self.invariant.0 _ c.args.hose c.args.amounts c.ends-ends.ensures.hose sound.2.on_tree;
    } in
    let each : (l : ℕ) → l < length network.links → get_or new l 0 ≡ load_of (next_book book entry) l = λ l inside.
    omega (
      arith,
      c.add_amounts.ensures l (omega (arith, ap length loads_is, old.places)),
      ap (λ (s : List ℕ). get_or s l 0) loads_is,
      old.each l inside,
      ap (λ (ps : List (ℕ × ℕ)). amount_on l ps) c.pairs-pairs.ensures.value,
      load_more book c.args.customer c.args.hose c.args.amounts l,
    ) in
    let loads : AreKeptLoads network (next_book book entry) new = record { places = long; each = each; none_oversold = kept } in (
      c.self.invariant.0,
      subst (λ (b : Book). AreKeptLoads network b (take c.self.inside.loads.len (new ++ drop (length new) c.self.inside.loads.items))) next_is
          (subst (AreKeptLoads network (next_book book entry)) (sym taken) loads),
      omega (arith, sound.0),
      subst (HasRisingIds 0) next_is (rising_next 0 book entry c.self.invariant.3),
      subst (All (IsKept network)) (sym c.push.ensures) (All-push (IsKept network) book.live vpn c.self.invariant.4 is_kept),
      subst (λ (r : Recent). r.floor ≤ book.epoch + 1) (sym c.add.ensures) (floor_next c.self.inside.recent book.epoch (firsts c.pairs-pairs.result.now) c.self.invariant.5),
      subst (λ (r : Recent). AreUpTo (book.epoch + 1) r.changes) (sym c.add.ensures) (with_up_to c.self.inside.recent book.epoch (firsts c.pairs-pairs.result.now) c.self.invariant.6),
      c.self.invariant.7,
    )

pub add-requires-clause-few : goal.add-requires-clause-few
add-requires-clause-few c =
    let network = c.self.inside.topology in
    let entry = Admit c.args.customer c.args.hose c.args.amounts in
    let sound : IsSoundAt network (record { epoch = c.self.inside.epoch; live = c.self.inside.live; out = c.self.inside.served.out }) entry =
    subst (λ (s : Ledger). IsSoundAt s.network s.book entry) (sym c.self.view_is) c.requires in
    omega (arith, reserved_few network c.self.invariant.0 _ c.args.hose c.args.amounts sound.2.on_tree, ap length c.pairs-pairs.ensures.value)
