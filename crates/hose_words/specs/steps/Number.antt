-- Numbers in decimal.
use Rattle.std.specs.Prelude.{◌≡◌, ◌≢◌, ◌<◌, ℕ, List, length, slice_index}
use Rattle.std.specs.Str.Parse.{AllDigits, digits_value}

-- the bytes are the decimal of n: digits alone and one at least, with no zero in front of another
-- digit
pub record IsNumber (bytes : List ℕ) (n : ℕ) : Type 0 where
  pub digits : AllDigits 10 bytes
  pub some : 0 < length bytes
  pub no_zero_in_front : 1 < length bytes → slice_index bytes 0 ≢ 48
  pub value : digits_value 10 bytes ≡ n
