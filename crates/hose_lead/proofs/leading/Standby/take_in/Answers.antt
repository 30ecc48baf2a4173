use Rattle.std.proofs.Common.{subst, sym, take, get_or, List, ℕ, ◌∷◌, []}
use Rattle.std.proofs.lemmas.List.{take_all, take_more}
use Rattle.hose_lead.specs.steps.Standby.{TakesIn}
use Rattle.hose_lead.proofs.Arriving.{taken_none, taken_more}
use Rattle.hose_lead.proofs.leading.Standby.take_in.Goals as goal

pub loop-byte-init : goal.loop-byte-init
loop-byte-init g c = taken_none (g.H.History.is_of c.args.history.now) c.args.self.now

pub loop-byte-preserved : goal.loop-byte-preserved
loop-byte-preserved g c =
    let is_of = g.H.History.is_of c.args.history.now in
    let bytes = c.args.bytes.now in
    let index = c.loop-byte.byte-index in
    subst (λ (l : List ℕ). TakesIn is_of c.args.self.now l c.take_byte.new.self) (sym (take_more bytes index 0 c.loop-byte-test.true))
    (taken_more is_of c.args.self.now c.loop-byte.self c.take_byte.new.self (take index bytes) (get_or bytes index 0 ∷ []) c.loop-byte.invariant c.take_byte.ensures)

pub returns : goal.returns
returns g c =
    let is_of = g.H.History.is_of c.args.history.now in
    subst (λ (l : List ℕ). TakesIn is_of c.args.self.now l c.loop-byte.self) (take_all c.loop-byte.byte-index c.args.bytes.now c.loop-byte-test.false) c.loop-byte.invariant
