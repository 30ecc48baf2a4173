use Rattle.std.proofs.Common.{arith}
use Rattle.hose_codec.proofs.Numbers.{bytes_of_four}
use Rattle.hose_codec.proofs.fields.number_of_four.Goals as goal

pub returns : goal.returns
returns c =
    bytes_of_four c.args.bytes.now c.read_u32.result c.requires (λ i. omega (arith, c.type_inv.bytes i)) c.read_u32.ensures
