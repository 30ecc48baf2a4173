use Rattle.std.proofs.Common.{◌≡◌, ◌∙◌, decimal, arith}
use Rattle.hose_gen.proofs.Numbered.{front_is_name, is_name}
use Rattle.hose_gen.proofs.draws.numbered.Goals as goal

pub unwrap-requires : goal.unwrap-requires
unwrap-requires c =
    let name = is_name c.args.letter c.args.number c.requires (omega (arith, c.ranges.number.fits)) in
    let digits : c.as_bytes-digits.result.now ≡ decimal c.args.number = c.as_bytes-digits.ensures.value ∙ c.format.ensures.text in
    let written : c.copy_from_slice.new.self ≡ decimal c.args.number = c.copy_from_slice.ensures.after ∙ digits in
    c.read.ensures.is_name.1 (front_is_name c.args.letter c.args.number c.as_bytes-digits.result.now c.copy_from_slice.new.self _ digits written name)
