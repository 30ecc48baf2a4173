-- What writes do to the front of an image.
use Rattle.std.proofs.Common.{◌≡◌, ◌≢◌, ℕ, ◌+◌, ◌<◌, List, [], ◌∷◌, ◌++◌, length, get_or, take, drop, Option, None, Some, refl, sym, ◌∙◌, ap, subst, arith, length-append, append_assoc, take-append-drop, IfSome}
use Rattle.std.proofs.lemmas.List.{take_at, drop_at, drop_more}
use Rattle.hose_disk.specs.steps.Disk.{Torn}
use Rattle.hose_disk.specs.steps.Images.{overwritten}
use Rattle.hose_disk.specs.declared.disk.Disk.{Ghosts}
use Rattle.hose_journal.specs.steps.Gates.{Starts, IsDoubtful}
use Rattle.hose_journal.specs.Image.{IsClosed}
use Rattle.hose_journal.specs.Moments.{Images}
use Rattle.hose_journal.specs.steps.Moments.{IsTornFrom, Lands}

pub told_so : (P Q : List ℕ → Type 0) → ((image : List ℕ) → P image → Q image) → (content : Option (List ℕ)) → IfSome content P → IfSome content Q
told_so P Q to None is = tt
told_so P Q to (Some image) is = to image is

-- a gate and what follows it
split_gate : (before : List ℕ) (gate : ℕ) (rest : List ℕ) → before ++ gate ∷ rest ≡ (before ++ gate ∷ []) ++ rest
split_gate before gate rest = sym (append_assoc before (gate ∷ []) rest)

length_gate : (before : List ℕ) (gate : ℕ) → length (before ++ gate ∷ []) ≡ length before + 1
length_gate before gate = length-append before (gate ∷ [])

-- a write after it leaves it
pub torn_after : (before : List ℕ) (n : ℕ) (was image : List ℕ) → Torn (length before) n was image → Starts before was → Starts before image
torn_after before n was image torn starts =
    let is : take (length before) image ≡ before = torn.front ∙ ap (λ (l : List ℕ). take (length before) l) starts.1 ∙ take_at before starts.0 (length before) refl in
    (drop (length before) image, sym (take-append-drop (length before) image) ∙ ap (λ (l : List ℕ). l ++ drop (length before) image) is)

-- a write after it that was done
pub over_after : (before bytes was image : List ℕ) → image ≡ overwritten (length before) bytes was → Starts before was → Starts (before ++ bytes) image
over_after before bytes was image is starts = (
  drop (length before + length bytes) was,
  is ∙ ap (λ (l : List ℕ). l ++ bytes ++ drop (length before + length bytes) was) (ap (λ (l : List ℕ). take (length before) l) starts.1 ∙ take_at before starts.0 (length before) refl),
)

after_gate : (before : List ℕ) (gate : ℕ) (tail : List ℕ) → drop (length before + 1) (before ++ gate ∷ tail) ≡ tail
after_gate before gate tail = ap (λ (l : List ℕ). drop (length before + 1) l) (split_gate before gate tail) ∙ drop_at (before ++ gate ∷ []) tail (length before + 1) (length_gate before gate)

whole_gate : (before : List ℕ) (gate : ℕ) (bytes rest : List ℕ) → (before ++ gate ∷ bytes) ++ rest ≡ before ++ gate ∷ (bytes ++ rest)
whole_gate before gate bytes rest = append_assoc before (gate ∷ bytes) rest

-- a write of the gate leaves what stands before and after it
pub torn_gate : (before bytes was image : List ℕ) → Torn (length before) 1 was image → IsDoubtful before bytes was → IsDoubtful before bytes image
torn_gate before bytes was image torn (gate, (rest, is)) =
    let whole : was ≡ before ++ gate ∷ (bytes ++ rest) = is ∙ whole_gate before gate bytes rest in
    let long : length before < length was = omega (arith, ap length whole, length-append before (gate ∷ (bytes ++ rest))) in
    let front = torn_after before 1 was image torn (gate ∷ (bytes ++ rest), whole) in
    let after : drop (length before + 1) image ≡ bytes ++ rest = torn.after ∙ ap (λ (l : List ℕ). drop (length before + 1) l) whole ∙ after_gate before gate (bytes ++ rest) in
    let new = get_or image (length before) 0 in
    let tail : drop (length before) image ≡ new ∷ (bytes ++ rest) = drop_more image (length before) 0 (omega (arith, long, torn.no_shorter)) ∙ ap (λ (l : List ℕ). new ∷ l) after in
    let rest_is : front.0 ≡ drop (length before) image = sym (ap (λ (l : List ℕ). drop (length before) l) front.1 ∙ drop_at before front.0 (length before) refl) in
    (new, (rest, front.1 ∙ ap (λ (l : List ℕ). before ++ l) (rest_is ∙ tail) ∙ sym (whole_gate before new bytes rest)))

-- a write of the gate that was done
pub over_gate : (before bytes : List ℕ) (new : ℕ) (was image : List ℕ) → image ≡ overwritten (length before) (new ∷ []) was → IsDoubtful before bytes was → Starts (before ++ new ∷ bytes) image
over_gate before bytes new was image is (gate, (rest, doubtful)) =
    let whole : was ≡ before ++ gate ∷ (bytes ++ rest) = doubtful ∙ whole_gate before gate bytes rest in
    let tail : drop (length before + 1) was ≡ bytes ++ rest = ap (λ (l : List ℕ). drop (length before + 1) l) whole ∙ after_gate before gate (bytes ++ rest) in
    let front_is : take (length before) was ≡ before = ap (λ (l : List ℕ). take (length before) l) whole ∙ take_at before (gate ∷ (bytes ++ rest)) (length before) refl in (
      rest,
      is
          ∙ ap (λ (l : List ℕ). l ++ (new ∷ []) ++ drop (length before + 1) was) front_is
          ∙ ap (λ (l : List ℕ). before ++ (new ∷ []) ++ l) tail
          ∙ append_assoc before (new ∷ []) (bytes ++ rest)
          ∙ sym (whole_gate before new bytes rest),
    )

-- a gate that is not open, whatever follows it
pub shut_gate : (before bytes image : List ℕ) (gate : ℕ) → gate ≢ 1 → Starts (before ++ gate ∷ bytes) image → IsClosed before image
shut_gate before bytes image gate shut (rest, is) = record { gate = gate; rest = bytes ++ rest; shut = shut; is = is ∙ whole_gate before gate bytes rest }

-- a closed gate and what follows it
closed_starts : (before image : List ℕ) (closed : IsClosed before image) → Starts (before ++ closed.gate ∷ []) image
closed_starts before image closed = (closed.rest, closed.is ∙ split_gate before closed.gate closed.rest)

place_after : (before : List ℕ) (gate place : ℕ) → length before ≡ place → place + 1 ≡ length (before ++ gate ∷ [])
place_after before gate place at = omega (arith, at, length_gate before gate)

module _ {D : Type 0} (disk : Ghosts D) (old new : D) where
  -- each image now, from each image before
  pub stage_keeps : (place n : ℕ) (before : List ℕ) → length before ≡ place → Images disk old (IsClosed before) → (image : List ℕ) → IsTornFrom disk old (place + 1) n image → IsClosed before image
  stage_keeps place n before at closed image (was, is_image, torn) =
      let closed_was = closed was is_image in
      let gate = closed_was.gate in
      shut_gate before [] image gate closed_was.shut
      (torn_after (before ++ gate ∷ []) n was image (subst (λ (k : ℕ). Torn k n was image) (place_after before gate place at) torn) (closed_starts before was closed_was))

  pub stage_lands : (place : ℕ) (before bytes : List ℕ) → length before ≡ place → Images disk old (IsClosed before) → Lands disk old new (place + 1) bytes → Images disk new (IsDoubtful before bytes)
  stage_lands place before bytes at closed lands image is_image =
      let from = lands image is_image in
      let was = closed from.0 from.1 in
      let starts = over_after (before ++ was.gate ∷ []) bytes from.0 image
      (subst (λ (k : ℕ). image ≡ overwritten k bytes from.0) (place_after before was.gate place at) from.2) (closed_starts before from.0 was) in
      (was.gate, subst (λ (p : List ℕ). Starts p image) (append_assoc before (was.gate ∷ []) bytes) starts)

  pub gate_keeps : (place : ℕ) (before bytes : List ℕ) → length before ≡ place → Images disk old (IsDoubtful before bytes) → (image : List ℕ) → IsTornFrom disk old place 1 image → IsDoubtful before bytes image
  gate_keeps place before bytes at staged image (was, is_image, torn) =
      torn_gate before bytes was image (subst (λ (k : ℕ). Torn k 1 was image) (sym at) torn) (staged was is_image)

  pub gate_lands : (place value : ℕ) (before bytes : List ℕ) → length before ≡ place → Images disk old (IsDoubtful before bytes) → Lands disk old new place (value ∷ []) → Images disk new (Starts (before ++ value ∷ bytes))
  gate_lands place value before bytes at staged lands image is_image =
      let from = lands image is_image in
      over_gate before bytes value from.0 image (subst (λ (k : ℕ). image ≡ overwritten k (value ∷ []) from.0) (sym at) from.2) (staged from.0 from.1)
