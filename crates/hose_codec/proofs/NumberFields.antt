-- Fields of a number, which are as many bytes as it has.
use Rattle.std.proofs.Common.{◌≡◌, ◌∙◌, ℕ, ◌<◌, List, ◌++◌, length, ap, sym}
use Rattle.byteorder.specs.Endian.{big_bytes}
use Rattle.byteorder.specs.Numbers.{length-bytes_high_first}
use Rattle.hose_codec.specs.steps.Reading.{Begins, BeginsNone}

module _ (size bound : ℕ) where
  -- so many bytes were read, and are those of a number
  pub number_read : (number : ℕ) (part old new : List ℕ) → number < bound → big_bytes size number ≡ part → Begins (λ part. part) (λ part. length part ≡ size) part old new
      → Begins (big_bytes size) (λ number. number < bound) number old new
  number_read number part old new fits is begins =
      record { may_be = fits; parts = begins.parts ∙ ap (λ (text : List ℕ). text ++ new) (sym is) }

  -- there are fewer bytes
  pub no_number_read : (old : List ℕ) → BeginsNone (λ part. part) (λ part. length part ≡ size) old → BeginsNone (big_bytes size) (λ number. number < bound) old
  no_number_read old none number rest begins =
      none (big_bytes size number) rest (record { may_be = length-bytes_high_first size number; parts = begins.parts })
