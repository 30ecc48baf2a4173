use Rattle.std.proofs.Common.{◌≡◌, ◌∙◌, sym}
use Rattle.hose_io.proofs.Gathering.{IsAdded-next}
use Rattle.hose_offline.proofs.sheet_answer.add_price.Goals as goal

pub returns : goal.returns
returns g c =
    let same : c.bytes.result.now ≡ c.args.tariff.now.name = c.bytes.ensures.value ∙ c.name.ensures in
    let name = IsAdded-next c.add.ensures c.add-2.ensures in
    let cost = IsAdded-next (IsAdded-next name c.add-3.ensures) c.add_number.ensures in
    let low = IsAdded-next (IsAdded-next cost c.add-4.ensures) c.add_wide.ensures in
    rw (sym same) (IsAdded-next (IsAdded-next low c.add-5.ensures) c.add_wide-2.ensures)
