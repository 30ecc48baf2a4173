-- Packets as bytes.
use Rattle.std.proofs.Common.{◌≡◌, ◌∙◌, ℕ, ◌+◌, ◌-◌, ◌≤◌, ◌<◌, ◌^◌, List, ◌++◌, length, take, drop, sym, ap, arith, append_assoc, length-append, take-append-drop}
use Rattle.std.proofs.lemmas.List.{length-take-le, length-drop}
use Rattle.byteorder.specs.Endian.{big_bytes}
use Rattle.byteorder.specs.Numbers.{length-bytes_high_first}
use Rattle.hose_codec.specs.declared.limits.TheConstants.{MOST_SPELLING}
use Rattle.hose_follow.specs.steps.Arriving.{BeginsPacket}
use Rattle.hose_follow.specs.Packet.{HasLength}

-- a part, and what is behind it
split : (n : ℕ) (xs front back : List ℕ) → front ≡ take n xs → back ≡ drop n xs → xs ≡ front ++ back
split n xs front back is_front is_back =
    sym (take-append-drop n xs) ∙ ap (λ (l : List ℕ). l ++ drop n xs) (sym is_front) ∙ ap (λ (l : List ℕ). front ++ l) (sym is_back)

pub has_length : (bytes field after : List ℕ) (len : ℕ) → field ≡ take 2 bytes → after ≡ drop 2 bytes → big_bytes 2 len ≡ field → len < 2 ^ 16 → HasLength bytes len after
has_length bytes field after len front back is fits = record {
  fits = fits;
  is = split 2 bytes field after front back ∙ ap (λ (l : List ℕ). l ++ after) (sym is);
}

regrouped : (a b c d e : List ℕ) → a ++ (b ++ (c ++ (d ++ e))) ≡ (a ++ (b ++ (c ++ d))) ++ e
regrouped a b c d e =
    ap (λ (l : List ℕ). a ++ (b ++ l)) (sym (append_assoc c d e))
    ∙ ap (λ (l : List ℕ). a ++ l) (sym (append_assoc b (c ++ d) e))
    ∙ sym (append_assoc a (b ++ (c ++ d)) e)

pub begins_packet : (bytes after epoch behind value rest : List ℕ) (len number : ℕ) → HasLength bytes len after → epoch ≡ take 4 after → behind ≡ drop 4 after → big_bytes 4 number ≡ epoch → number < 2 ^ 32
    → value ≡ take 32 behind → rest ≡ drop 32 behind → 1 ≤ len → len ≤ MOST_SPELLING → 38 + len ≤ length bytes → length value ≡ 32
    → BeginsPacket bytes (record { epoch = number; chain = value; body = take len rest }) (drop len rest)
begins_packet bytes after epoch behind value rest len number has is_epoch is_behind is_number fits is_value is_rest some few long size =
    let whole : length bytes ≡ 2 + length after = omega (arith, ap length has.is, length-append (big_bytes 2 len) after, length-bytes_high_first 2 len) in
    let inside : length rest ≡ length after - 36 = omega (arith, ap length is_rest, length-drop 32 behind, ap length is_behind, length-drop 4 after) in
    let body : length (take len rest) ≡ len = length-take-le len rest (omega (arith, inside, whole, long)) in
    record {
      is_packet = record {
        epoch = fits;
        chain = size;
        some = omega (arith, body, some);
        few = omega (arith, body, few);
      };
      is =
          has.is
          ∙ ap (λ (l : List ℕ). big_bytes 2 len ++ l) (split 4 after epoch behind is_epoch is_behind ∙ ap (λ (l : List ℕ). l ++ behind) (sym is_number))
          ∙ ap (λ (l : List ℕ). big_bytes 2 len ++ (big_bytes 4 number ++ l)) (split 32 behind value rest is_value is_rest)
          ∙ ap (λ (l : List ℕ). big_bytes 2 len ++ (big_bytes 4 number ++ (value ++ l))) (sym (take-append-drop len rest))
          ∙ ap (λ (n : ℕ). big_bytes 2 n ++ (big_bytes 4 number ++ (value ++ (take len rest ++ drop len rest)))) (sym body)
          ∙ regrouped (big_bytes 2 (length (take len rest))) (big_bytes 4 number) value (take len rest) (drop len rest);
    }
