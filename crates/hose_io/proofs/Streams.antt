-- Laws of what sources give and sinks are given.
use Rattle.std.proofs.Common.{◌≡◌, ℕ, ◌+◌, List, [], ◌++◌, length, take, drop, Option, None, Some, refl, sym, ◌∙◌, ap, append_assoc, append-nil, length-append, arith}
use Rattle.std.proofs.lemmas.List.{take_at, drop-drop, take-append-drop, take-append-le}
use Rattle.std.proofs.Math.Seq.{take-add, take-append-add}
use Rattle.hose_io.specs.Stream.{GoesOnBy, Gives, Grows, Stream}
use Rattle.hose_io.specs.Writing.{GrowsInPart}

-- no byte
pub Grows-nil : (content : Option (List ℕ)) → Grows content content []
Grows-nil None = tt
Grows-nil (Some bytes) = sym (append-nil bytes)

-- two calls give what they give one after the other
pub Grows-append : (old mid new : Option (List ℕ)) (xs ys : List ℕ) → Grows old mid xs → Grows mid new ys → Grows old new (xs ++ ys)
Grows-append None None None xs ys p q = tt
Grows-append None None (Some c) xs ys p q = q
Grows-append None (Some b) new xs ys p q = absurd p
Grows-append (Some a) None new xs ys p q = absurd p
Grows-append (Some a) (Some b) None xs ys p q = absurd q
Grows-append (Some a) (Some b) (Some c) xs ys p q = q ∙ ap (λ s. s ++ ys) p ∙ append_assoc a xs ys

-- a further part of one text
pub Grows-take : (old mid new : Option (List ℕ)) (bytes : List ℕ) (m n : ℕ) → Grows old mid (take m bytes) → Grows mid new (take n (drop m bytes)) → Grows old new (take (m + n) bytes)
Grows-take old mid new bytes m n p q = rw take-add (Grows-append old mid new _ _ p q)

-- a source gives no byte
pub Gives-nil : (content : Option Stream) → Gives content content []
Gives-nil None = tt
Gives-nil (Some stream) = record { taken = sym (append-nil stream.taken); left = refl }

-- where it gives no byte its content stays
pub Gives-none : (old new : Option Stream) → Gives old new [] → new ≡ old
Gives-none None None gives = refl
Gives-none None (Some new) gives = absurd gives
Gives-none (Some old) None gives = absurd gives
Gives-none (Some old) (Some new) gives = λ i. Some (record { taken = (gives.taken ∙ append-nil old.taken) i; left = sym gives.left i })

-- two calls of a source
pub Gives-append : (old mid new : Option Stream) (xs ys : List ℕ) → Gives old mid xs → Gives mid new ys → Gives old new (xs ++ ys)
Gives-append None None None xs ys p q = tt
Gives-append None None (Some c) xs ys p q = absurd q
Gives-append None (Some b) new xs ys p q = absurd p
Gives-append (Some a) None new xs ys p q = absurd p
Gives-append (Some a) (Some b) None xs ys p q = absurd q
Gives-append (Some a) (Some b) (Some c) xs ys p q = record {
  taken = q.taken ∙ (ap (λ l. l ++ ys) p.taken ∙ append_assoc a.taken xs ys);
  left = p.left ∙ (ap (λ l. xs ++ l) q.left ∙ sym (append_assoc xs ys c.left));
}

-- a source in memory gives the next `count` of its bytes, of which it gave `given` before, into the front of a buffer
pub GoesOnBy-next : (bytes copied behind : List ℕ) (given count : ℕ) → length copied ≡ count → copied ≡ take count (drop given bytes) → GoesOnBy (record { taken = take given bytes; left = drop given bytes }) (record { taken = take (given + count) bytes; left = drop (given + count) bytes }) (take count (copied ++ behind))
GoesOnBy-next bytes copied behind given count len is =
    let same : take count (copied ++ behind) ≡ take count (drop given bytes) = take_at copied behind count len ∙ is in
    let split : take count (drop given bytes) ++ drop (given + count) bytes ≡ drop given bytes =
    rw (← drop-drop count given bytes) (take-append-drop count (drop given bytes)) in
    record { taken = rw same (take-add given count bytes); left = rw same (sym split) }

-- the front of a text, of which more was to follow
pub GrowsInPart-append : (old new : Option (List ℕ)) (text more : List ℕ) → GrowsInPart old new text → GrowsInPart old new (text ++ more)
GrowsInPart-append old new text more part =
    (part.0, omega (arith, length-append text more, part.1), rw (take-append-le part.0 text more (omega (arith, part.1))) part.2)

-- a whole text, and the front of a further one
pub GrowsInPart-after : (old mid new : Option (List ℕ)) (text more : List ℕ) → Grows old mid text → GrowsInPart mid new more → GrowsInPart old new (text ++ more)
GrowsInPart-after old mid new text more whole part =
    (length text + part.0, omega (arith, length-append text more, part.1), rw (take-append-add text more part.0) (Grows-append old mid new text (take part.0 more) whole part.2))
