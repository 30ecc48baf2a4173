-- What a piece holds of a disk's content.
use Rattle.std.proofs.Common.{◌≡◌, inl, inr, ℕ, ◌+◌, ◌-◌, ◌≤◌, min, List, ◌++◌, length, take, drop, Option, None, Some, IfSome, refl, sym, ◌∙◌, ap, subst, arith, length-drop}
use Rattle.std.proofs.lemmas.Bool.{cases_lt}
use Rattle.std.proofs.lemmas.List.{take_all, drop_all, drop-take, length-take-le, take-append-le}
use Rattle.hose_disk.specs.steps.Disk.{IsReadAt}
use Rattle.hose_journal.specs.declared.layout.TheConstants.{PIECE_BYTES}

-- what is left of the first `len` after the first `skip`
pub rest_of : (items : List ℕ) (skip len : ℕ) → len ≤ length items → take (len - min skip len) (drop (min skip len) items) ≡ drop skip (take len items)
rest_of items skip len le = elim (cases_lt len skip) [
  | inl beyond ↦
      let is : min skip len ≡ len = omega arith in
      let none : len - min skip len ≡ 0 = omega arith in
      ap (λ (k : ℕ). take k (drop (min skip len) items)) none ∙ sym (drop_all skip (take len items) (omega (arith, length-take-le len items le)))
  | inr within ↦
      let is : min skip len ≡ skip = omega arith in
      let sum : skip + (len - skip) ≡ len = omega arith in
      ap (λ (k : ℕ). take (len - k) (drop k items)) is ∙ sym (drop-take skip (len - skip) items) ∙ ap (λ (k : ℕ). drop skip (take k items)) sum
]

take_room : (room : ℕ) (bytes : List ℕ) → take (min room (length bytes)) bytes ≡ take room bytes
take_room room bytes = elim (cases_lt (length bytes) room) [
  | inl short ↦ take_all (min room (length bytes)) bytes (omega arith) ∙ sym (take_all room bytes (omega arith))
  | inr long ↦ let is : min room (length bytes) ≡ room = omega arith in ap (λ (k : ℕ). take k bytes) is
]

read_bytes : (bytes got : List ℕ) (at room end : ℕ) → IsReadAt at room bytes got → room ≡ min PIECE_BYTES (end - at) → length bytes ≡ end → got ≡ take PIECE_BYTES (drop at bytes)
read_bytes bytes got at room end read is_room long =
    let size : length got ≡ min PIECE_BYTES (length (drop at bytes)) = omega (arith, read.amount, is_room, long, length-drop at bytes) in
    read.bytes_there ∙ ap (λ (k : ℕ). take k (drop at bytes)) size ∙ take_room PIECE_BYTES (drop at bytes)

told_by : (content : Option (List ℕ)) (got into : List ℕ) (at room end count : ℕ) → IfSome content (λ bytes. IsReadAt at room bytes got) → take count into ≡ got → room ≡ min PIECE_BYTES (end - at)
    → IfSome content (λ bytes. length bytes ≡ end → take count into ≡ take PIECE_BYTES (drop at bytes))
told_by None got into at room end count read same is_room = tt
told_by (Some bytes) got into at room end count read same is_room = λ long. same ∙ read_bytes bytes got at room end read is_room long

pub told_read : (content now : Option (List ℕ)) (part tail : List ℕ) (at room end count : ℕ) → now ≡ content → IfSome content (λ bytes. IsReadAt at room bytes (take count part)) → count ≤ length part → room ≡ min PIECE_BYTES (end - at)
    → IfSome now (λ bytes. length bytes ≡ end → take count (part ++ tail) ≡ take PIECE_BYTES (drop at bytes))
told_read content now part tail at room end count same_content read le is_room =
    subst (λ (told : Option (List ℕ)). IfSome told (λ bytes. length bytes ≡ end → take count (part ++ tail) ≡ take PIECE_BYTES (drop at bytes))) (sym same_content)
    (told_by content (take count part) (part ++ tail) at room end count read (rw take-append-le refl) is_room)
