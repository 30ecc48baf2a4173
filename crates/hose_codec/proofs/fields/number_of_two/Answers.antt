use Rattle.std.proofs.Common.{arith}
use Rattle.hose_codec.proofs.Numbers.{bytes_of_two}
use Rattle.hose_codec.proofs.fields.number_of_two.Goals as goal

pub returns : goal.returns
returns c =
    bytes_of_two c.args.bytes.now c.read_u16.result c.requires (λ i. omega (arith, c.type_inv.bytes i)) c.read_u16.ensures
