use Rattle.std.proofs.Common.{◌^◌, rules}
use Rattle.std.proofs.lemmas.Result.{err_from_is_err_and}
use Rattle.hose_codec.proofs.NumberFields.{no_number_read, number_read}
use Rattle.hose_codec.proofs.fields.EntryReader.two_bytes.Goals as goal

pub returns-in_err-part : goal.returns-in_err-part
returns-in_err-part c =
    let p = err_from_is_err_and c.from_residual.result c.from_residual.ensures.1 in
    rw (p.1, p.2) (c.in_err-part.ensures.0, no_number_read 2 (2 ^ 16) c.args.self.now c.in_err-part.ensures.1)

pub returns : goal.returns
returns c =
    number_read 2 (2 ^ 16) c.number_of_two.result _ c.args.self.now c.part.new.self (search rules) c.number_of_two.ensures c.in_ok-part.ensures
