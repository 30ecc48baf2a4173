use Rattle.std.proofs.Common.{ap, subst, sym}
use Rattle.hose_lead.specs.LedStore.{LedState}
use Rattle.hose_lead.specs.steps.History.{IsRecentOf}
use Rattle.hose_lead.proofs.led_store.LedStoreHistory.epoch.Goals as goal

pub returns-clause-count : goal.returns-clause-count
returns-clause-count g c = λ network list is.
    c.epoch.ensures.count network list (subst (IsRecentOf network list) (sym (ap (λ (led : LedState _). led.recent) c.self.view_is)) is.recent)
