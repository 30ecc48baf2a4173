use Rattle.std.proofs.Common.{◌≡◌, ◌∙◌, ℕ, ◌+◌, ◌<◌, ◌≤◌, List, [], Bor, Option, Some, None, IfSome, IfNone, drop, length, sym, ap, arith, length-drop}
use Rattle.std.proofs.lemmas.List.{drop-drop}
use Rattle.hose_words.specs.steps.Cursor.{Position, Took}
use Rattle.hose_words.proofs.cursor.Cursor.skip.Goals as goal

-- where words are left, one more is passed over
skipped : (start now new : Position) (counter count : ℕ) (next : Option (Bor (List ℕ))) → now ≡ record { left = drop counter start.left; read = start.read + counter } → counter < count → count ≤ length start.left
    → IfSome next (λ word. Took now new word.now) → IfNone next (now.left ≡ []) → new ≡ record { left = drop (counter + 1) start.left; read = start.read + (counter + 1) }
skipped start now new counter count None is below enough some none =
    absurd (omega (arith, length-drop counter start.left, ap length none, ap (λ (p : Position). length p.left) is))
skipped start now new counter count (Some word) is below enough took none =
    let left : new.left ≡ drop (counter + 1) start.left = sym (ap (drop 1) took.cut) ∙ ap (λ (p : Position). drop 1 p.left) is ∙ drop-drop 1 counter start.left in
    let read : new.read ≡ start.read + (counter + 1) = omega (arith, took.counted, ap (λ (p : Position). p.read) is) in
    λ i. record { left = left i; read = read i }

pub loop-preserved : goal.loop-preserved
loop-preserved c =
    skipped c.args.self.now c.loop.self c.next.new.self c.loop.counter c.args.count c.next.result c.loop.invariant (omega arith) c.requires c.next.ensures.some c.next.ensures.none
