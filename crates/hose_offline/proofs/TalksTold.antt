-- A talk as a command tells it.
use Rattle.std.specs.Prelude.{⊤}
use Rattle.std.proofs.Common.{◌≡◌, ◌↔◌, ℕ, Result, Ok, Err, refl}
use Rattle.hose_talk.specs.declared.talking.TalkEnd.{TalkEnd}
use Rattle.hose_talk.specs.declared.talking.TalkFault.{TalkFault}
use Rattle.hose_talk.specs.declared.talking.TalkFault.TheVariants as talk_fault
use Rattle.hose_offline.specs.Talking.{done_of_talk}
use Rattle.hose_outside.specs.declared.fault.Fault.{Fault}
use Rattle.hose_outside.specs.declared.fault.Fault.TheVariants as fault

-- a fault, as what something came to
abbrev pub Result_err : Fault → Result ⊤ Fault
Result_err why = Err why

-- a command tells that its input is too long exactly where the talk does
pub too_long_told : (ended : Result TalkEnd TalkFault) (P : Type 0) → (ended ≡ Err talk_fault.TooLong) ↔ P → (done_of_talk ended ≡ Err fault.TooLong) ↔ P
too_long_told (Ok end) P is = ((λ same. absurd (cc same)), (λ long. absurd (cc (is.1 long))))
too_long_told (Err talk_fault.Read) P is = ((λ same. absurd (cc same)), (λ long. absurd (cc (is.1 long))))
too_long_told (Err talk_fault.TooLong) P is = ((λ same. is.0 refl), (λ long. refl))
too_long_told (Err talk_fault.Write) P is = ((λ same. absurd (cc same)), (λ long. absurd (cc (is.1 long))))

-- a talk ends with no wrong words
pub told_no_words : (ended : Result TalkEnd TalkFault) (word : ℕ) → Result_err (fault.Words word) ≡ done_of_talk ended → ⊥
told_no_words (Ok end) word same = cc same
told_no_words (Err talk_fault.Read) word same = cc same
told_no_words (Err talk_fault.TooLong) word same = cc same
told_no_words (Err talk_fault.Write) word same = cc same
