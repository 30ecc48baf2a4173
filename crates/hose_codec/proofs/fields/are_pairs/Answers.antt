use Rattle.std.proofs.Common.{arith}
use Rattle.hose_codec.proofs.Bytes.{field_of_pairs}
use Rattle.hose_codec.proofs.fields.are_pairs.Goals as goal

pub returns-then-not-contains-clause-spelled : goal.returns-then-not-contains-clause-spelled
returns-then-not-contains-clause-spelled c =
    λ count long. field_of_pairs c.args.bytes.now count (λ i. omega (arith, c.type_inv.bytes i)) long

pub returns-clause-spelled : goal.returns-clause-spelled
returns-clause-spelled c =
    λ count long. field_of_pairs c.args.bytes.now count (λ i. omega (arith, c.type_inv.bytes i)) long
