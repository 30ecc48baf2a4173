-- Laws of frames, for callers that make several calls on one object.
use Rattle.std.proofs.Common.{◌≡◌, refl, ◌∙◌, arith}
use Rattle.hose_io.specs.Frame.{Frame, Rose, Stays}

-- no call was made
pub Stays-none : (frame : Frame) → Stays frame frame
Stays-none frame = record { never_falls = omega arith; number = refl; loan = refl }

-- where the frame is as it was, it stays
pub Stays-same : {a b : Frame} → b ≡ a → Stays a b
Stays-same {a = a} same = rw same (Stays-none a)

-- calls were made after others
pub Stays-next : {a b c : Frame} → Stays a b → Stays b c → Stays a c
Stays-next p q = record { never_falls = omega (arith, p.never_falls, q.never_falls); number = q.number ∙ p.number; loan = q.loan ∙ p.loan }

-- a count that rose later rose over all
pub Rose-later : (a b c : Frame) → Stays a b → Rose b c → Rose a c
Rose-later a b c stays rose = record { rose = grind (arith, stays.never_falls, rose.rose) }

-- a count that rose and did not fall since rose over all
pub Rose-before : (a b c : Frame) → Rose a b → Stays b c → Rose a c
Rose-before a b c rose stays = record { rose = grind (arith, stays.never_falls, rose.rose) }
