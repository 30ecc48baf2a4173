use Rattle.std.proofs.Common.{subst, sym, ap, arith, ◌∙◌, ◌≡◌, ◌+◌, List, ℕ}
use Rattle.hose_follow.specs.Packet.{packet_bytes}
use Rattle.hose_lead.specs.Leading.{probe}
use Rattle.hose_lead.specs.steps.Standby.{HandsOut}
use Rattle.hose_lead.proofs.Filling.{hands_by, hands_value, with_unsent}
use Rattle.hose_lead.specs.declared.stage.Stage.TheVariants.{AskedValue}
use Rattle.hose_lead.proofs.leading.Standby.ask_value.Goals as goal

pub returns-clause-hands : goal.returns-clause-hands
returns-clause-hands g c =
    let is_of = g.H.History.is_of c.args._history.now in
    let old = c.args.self.now in
    let stage = AskedValue c.args.start in
    let number : c.in-Ok.epoch ≡ c.args.start + 1 = omega (arith, c.in-Ok.ensures, c.saturating_add.ensures) in
    hands_by is_of old (with_unsent old c.probe_packet.result stage) c.add.new.self c.add.result c.add.ensures.ok c.add.ensures.err
    (subst (λ (bytes : List ℕ). HandsOut is_of old (with_unsent old bytes stage)) (sym (c.probe_packet.ensures ∙ ap (λ (n : ℕ). packet_bytes (probe n)) number)) (hands_value is_of old c.args.start c.requires))
