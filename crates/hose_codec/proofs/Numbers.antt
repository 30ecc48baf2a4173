-- Two and four bytes are those of the number which they read as, and the bytes of a number end where it says.
use Rattle.std.proofs.Common.{◌≡◌, ◌∙◌, ℕ, ◌<◌, ◌^◌, List, ◌++◌, length, get_or, take, drop, ap, sym, arith}
use Rattle.std.specs.Int.{w16, w32, from_be_bytes}
use Rattle.std.proofs.lemmas.List.{take_at, drop_at}
use Rattle.std.proofs.lemmas.Nat.{be_bytes_2, be_bytes_4}
use Rattle.byteorder.specs.Endian.{big_bytes, big_number, big_from}
use Rattle.byteorder.specs.Numbers.{big_number-reads_back, length-bytes_high_first}

-- these numbers are bytes
abbrev pub AreBytes : List ℕ → Type 0
AreBytes bytes = (i : ℕ) → get_or bytes i 0 < 256

pub bytes_of_two : (bytes : List ℕ) (n : ℕ) → length bytes ≡ 2 → AreBytes bytes → n ≡ big_number 2 bytes → big_bytes 2 n ≡ bytes
bytes_of_two bytes n two are is =
    let read : n ≡ from_be_bytes w16 bytes = omega (arith, is) in
    be_bytes_2 bytes n two are read

pub bytes_of_four : (bytes : List ℕ) (n : ℕ) → length bytes ≡ 4 → AreBytes bytes → n ≡ big_number 4 bytes → big_bytes 4 n ≡ bytes
bytes_of_four bytes n four are is =
    let read : n ≡ from_be_bytes w32 bytes = omega (arith, is) in
    be_bytes_4 bytes n four are read

-- texts that begin with parts of one length have the same parts
pub same_parts : (a b r s : List ℕ) → length a ≡ length b → a ++ r ≡ b ++ s → (a ≡ b) × (r ≡ s)
same_parts a b r s long same = (
  sym (take_at a r (length b) long) ∙ ap (take (length b)) same ∙ take_at b s (length b) (λ i. length b),
  sym (drop_at a r (length b) long) ∙ ap (drop (length b)) same ∙ drop_at b s (length b) (λ i. length b),
)

-- the bytes of a number, of so many as it has at most, with what follows them
pub same_numbers : (n x y : ℕ) (r s : List ℕ) → x < 256 ^ n → y < 256 ^ n → big_bytes n x ++ r ≡ big_bytes n y ++ s → (x ≡ y) × (r ≡ s)
same_numbers n x y r s x_fits y_fits same =
    let long : length (big_bytes n x) ≡ length (big_bytes n y) = length-bytes_high_first n x ∙ sym (length-bytes_high_first n y) in (
      sym (big_number-reads_back n x r x_fits) ∙ ap (big_from 0 n) same ∙ big_number-reads_back n y s y_fits,
      (same_parts (big_bytes n x) (big_bytes n y) r s long same).1,
    )
