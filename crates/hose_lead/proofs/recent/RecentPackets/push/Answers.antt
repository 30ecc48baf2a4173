use Rattle.std.proofs.Common.{ap, arith, ◌∙◌, ◌+◌, ◌++◌, ◌∷◌, [], length-append, ℕ, List}
use Rattle.hose_follow.specs.Packet.{packet_bytes}
use Rattle.hose_lead.specs.LedStore.{KeptPacket, RecentState}
use Rattle.hose_lead.proofs.Recents.{packet_of, recent_more, recent_none}
use Rattle.hose_lead.proofs.recent.RecentPackets.push.Goals as goal

pub returns-in_default-clause-is : goal.returns-in_default-clause-is
returns-in_default-clause-is c = λ network list entry is body value.
    let same = c.give_up.ensures in
    recent_none network (list ++ entry ∷ []) c.give_up.new.self (ap (λ (s : RecentState). s.kept) same)
    (ap (λ (s : RecentState). s.epoch) same ∙ omega (arith, is.epoch, length-append list (entry ∷ []))) (ap (λ (s : RecentState). s.value) same ∙ value)

pub returns-then-append-clause-is : goal.returns-then-append-clause-is
returns-then-append-clause-is c = λ network list entry is body value.
    let old = c.args.self.now in
    let same = c.append.ensures.kept c.if-append.true in
    let one : KeptPacket = record { before = c.self.inside.value; bytes = c.in-Ok.bytes.items } in
    let before = ap (λ (s : RecentState). s.value) c.self.view_is in
    let bytes = c.in-Ok.ensures ∙ ap packet_bytes (
    ap (λ (n : ℕ). packet_of (n + 1) c.self.inside.value c.args.body.now) (ap (λ (s : RecentState). s.epoch) c.self.view_is)
    ∙ ap (λ (v : List ℕ). packet_of (old.epoch + 1) v c.args.body.now) before
    ∙ ap (λ (b : List ℕ). packet_of (old.epoch + 1) old.value b) body
    ) in
    c.shorten.ensures.shortens.is network (list ++ entry ∷ [])
    (recent_more network list entry old c.append.new.self one is before bytes (ap (λ (s : RecentState). s.kept) same) (ap (λ (s : RecentState). s.epoch) same) (ap (λ (s : RecentState). s.value) same ∙ value))

pub returns-clause-is : goal.returns-clause-is
returns-clause-is c = λ network list entry is body value.
    let same = c.append.ensures.given_up c.if-append.false in
    recent_none network (list ++ entry ∷ []) c.append.new.self (ap (λ (s : RecentState). s.kept) same)
    (ap (λ (s : RecentState). s.epoch) same ∙ omega (arith, is.epoch, length-append list (entry ∷ []))) (ap (λ (s : RecentState). s.value) same ∙ value)
