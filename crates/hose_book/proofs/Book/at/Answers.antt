use Rattle.std.proofs.Common.{◌≡◌, ◌∙◌, ◌≤◌, ℕ, true, List, [], All, length, get_or, replicate, sym, ap, subst, arith}
use Rattle.std.proofs.lemmas.List.{length-replicate, get_or-replicate}
use Rattle.std.proofs.lemmas.List.Elements.{All-nil}
use Rattle.hose_graph.specs.declared.entry.Vpn.{Vpn}
use Rattle.hose_law.specs.steps.Live.{HasRisingIds}
use Rattle.hose_law.specs.Recent.{Change, Recent}
use Rattle.hose_book.specs.steps.Changes.{AreUpTo}
use Rattle.hose_book.proofs.Ids.{none_rise}
use Rattle.hose_book.specs.steps.Ledger.{IsKept}
use Rattle.hose_book.specs.steps.Serving.{Served}
use Rattle.hose_law.specs.Book.{load_of}
use Rattle.hose_law.specs.Service.{links_in_service}
use Rattle.hose_law.proofs.Serving.{none_out}
use Rattle.hose_book.proofs.Book.at.Goals as goal

pub invariant_of-result : goal.invariant_of-result
invariant_of-result c =
    let out = c.in_ok-served.served.out in
    let none : out ≡ [] = ap (λ (s : Served). s.out) c.in_ok-served.ensures in
    let zeros : c.in_ok-loads.loads.items ≡ replicate c.links.result 0 = c.in_ok-loads.ensures.items_if_clones_equal (λ y same. same) in
    let no_load : (l : ℕ) → load_of (record { epoch = c.args.epoch; live = c.in_ok-live.live; out = out }) l ≡ 0 =
    λ l. ap (λ (live : List Vpn). load_of (record { epoch = c.args.epoch; live = live; out = out }) l) c.in_ok-live.ensures in (
      c.links.ensures.network,
      record {
        places = omega (arith, ap length zeros, length-replicate {A = ℕ} c.links.result 0, c.links.ensures.count);
        each = λ l inside. omega (arith, ap (λ (s : List ℕ). get_or s l 0) zeros, get_or-replicate {A = ℕ} c.links.result l 0 0 (omega (arith, inside, c.links.ensures.count)), no_load l);
        none_oversold = λ l. omega (arith, no_load l);
      },
      omega arith,
      subst (λ (live : List Vpn). HasRisingIds 0 (record { epoch = c.args.epoch; live = live; out = out })) (sym c.in_ok-live.ensures) (none_rise c.args.epoch out),
      subst (All (IsKept c.args.topology)) (sym c.in_ok-live.ensures) (All-nil (IsKept c.args.topology)),
      omega (arith, ap (λ (r : Recent). r.floor) c.in_ok-recent.ensures),
      subst (λ (r : Recent). AreUpTo c.args.epoch r.changes) (sym c.in_ok-recent.ensures) (All-nil (λ (change : Change). change.0 ≤ c.args.epoch)),
      ap (λ (s : Served). s.links) c.in_ok-served.ensures ∙ ap (λ (n : ℕ). replicate n true) c.links-2.ensures.count ∙ sym (none_out c.args.topology)
          ∙ ap (links_in_service c.args.topology) (sym none),
    )
