use Rattle.std.proofs.Common.{rules}
use Rattle.std.proofs.lemmas.Result.{err_from_is_err_and}
use Rattle.hose_codec.specs.declared.limits.CodecFault.TheVariants.{Bad}
use Rattle.hose_codec.specs.steps.Reading.{ArePairsFrom, pairs_of}
use Rattle.hose_codec.proofs.Bytes.{no_part_no_pairs, no_pairs_are_read, pairs_are_read}
use Rattle.hose_codec.proofs.fields.EntryReader.pairs.Goals as goal

pub returns-in_err-bytes : goal.returns-in_err-bytes
returns-in_err-bytes c =
    let p = err_from_is_err_and c.from_residual.result c.from_residual.ensures.1 in
    rw (p.1, p.2) (c.in_err-bytes.ensures.0, no_part_no_pairs _ _ c.args.count _ c.in_err-bytes.ensures.1)

pub returns-then-not-are_pairs : goal.returns-then-not-are_pairs
returns-then-not-are_pairs c =
    let begins = c.in_ok-bytes.ensures in
    let none : ¬ ArePairsFrom c.args.bound c.args.most 0 (pairs_of c.in_ok-bytes.bytes.now) = search rules in
    (λ i. Bad, no_pairs_are_read _ _ c.args.count _ _ _ c.requires.bound c.requires.most begins.may_be begins.parts none)

pub returns : goal.returns
returns c =
    let begins = c.in_ok-bytes.ensures in
    let are : ArePairsFrom c.args.bound c.args.most 0 (pairs_of c.in_ok-bytes.bytes.now) = search rules in
    pairs_are_read _ _ c.args.count _ _ _ begins.may_be begins.parts (c.are_pairs.ensures.spelled c.args.count begins.may_be) are
