use Rattle.std.proofs.Common.{◌≡◌, ◌∙◌, arith, length, None, ap, refl, rules}
use Rattle.hose_codec.proofs.Entries.{length-spelling}
use Rattle.hose_lead.proofs.Led.{led_done, led_failed}
use Rattle.hose_lead.proofs.led_store.commit_led.Goals as goal

pub push_last-requires-clause-body : goal.push_last-requires-clause-body
push_last-requires-clause-body g c =
    let ready = c.requires.ready in
    omega (arith, length-spelling c.args.entry ready.store.is_entry, ap length (ready.body ∙ ready.store.bytes))

pub returns-in-Disk-clause-went : goal.returns-in-Disk-clause-went
returns-in-Disk-clause-went g c =
    led_failed g.D.Disk (record { store = c.args.store.now; recent = c.args.recent.now }) (record { store = c.commit.new.self; recent = c.args.recent.now }) c.args.entry (rw c.in-Disk.is at c.commit.ensures.went) refl

pub returns-clause-went : goal.returns-clause-went
returns-clause-went g c =
    let ready = c.requires.ready in
    let body : c.deref.result.now ≡ c.args.ready.body.items = search rules in
    rw c.push_last.ensures.done (led_done g.D.Disk (record { store = c.args.store.now; recent = c.args.recent.now }) (record { store = c.commit.new.self; recent = c.push_last.new.recent }) c.args.entry (rw c.in-Done.is at c.commit.ensures.went)
    (λ network list is same has. c.push_last.ensures.is network list None c.args.entry is (body ∙ ready.body ∙ ready.store.bytes) same has))
