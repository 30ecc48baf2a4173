use Rattle.hose_lead.proofs.Parts.{differs_told, parts}
use Rattle.hose_lead.proofs.reading.read_differs.Goals as goal

pub returns : goal.returns
returns c =
    let word = c.split_at.result.0.now in
    let values = c.split_at.result.1.now in
    let first = c.split_at-2.result.0.now in
    let second = c.split_at-2.result.1.now in
    differs_told c.in_ok-number.field-0 c.in_ok-read_value.field-0 c.in_ok-read_value-2.field-0 c.args.rest.now word values first second
    (parts c.in_ok-len.len c.args.rest.now word values c.split_at.ensures.front c.split_at.ensures.back)
    (parts 65 values first second c.split_at-2.ensures.front c.split_at-2.ensures.back)
    c.in_ok-number.ensures.value c.in_ok-read_value.ensures c.in_ok-read_value-2.ensures
