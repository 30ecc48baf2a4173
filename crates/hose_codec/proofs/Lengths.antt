-- How long a spelling is at most.
use Rattle.std.proofs.Common.{◌≡◌, ℕ, ◌*◌, List, [], ◌∷◌, length, arith, length-append}
use Rattle.byteorder.specs.Endian.{big_bytes}
use Rattle.byteorder.specs.Numbers.{length-bytes_high_first}
use Rattle.hose_codec.specs.Fields.{pair_field, pairs_field}
use Rattle.hose_codec.specs.declared.limits.TheConstants.{PAIR_BYTES}

length-pair_field : (pair : ℕ × ℕ) → length (pair_field pair) ≡ PAIR_BYTES
length-pair_field pair = omega (arith, length-append (big_bytes 2 pair.0) (big_bytes 4 pair.1), length-bytes_high_first 2 pair.0, length-bytes_high_first 4 pair.1)

pub length-pairs_field : (pairs : List (ℕ × ℕ)) → length (pairs_field pairs) ≡ PAIR_BYTES * length pairs
length-pairs_field [] = omega arith
length-pairs_field (pair ∷ pairs) = omega (arith, length-append (pair_field pair) (pairs_field pairs), length-pair_field pair, length-pairs_field pairs)
