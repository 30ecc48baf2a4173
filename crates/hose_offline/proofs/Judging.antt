-- A certificate: the text of a topology in a cabinet, and what an input has.
use Rattle.std.specs.Prelude.{IfOk, OnOk}
use Rattle.std.proofs.Common.{◌≡◌, ◌↔◌, ℕ, List, [], ◌++◌, length, length-append, Option, None, Some, Result, Ok, Err, refl, ap, subst, arith}
use Rattle.std.proofs.lemmas.List.{nil_from_length}
use Rattle.hose_words.specs.steps.Lines.{Reader}
use Rattle.hose_words.specs.Reading.{WhereTold}
use Rattle.hose_words.specs.declared.lines.LineFault.{LineFault}
use Rattle.hose_words.specs.declared.lines.LineFault.TheVariants as line
use Rattle.hose_words.proofs.OnReading.{WhereTold-both, WhereTold-map}
use Rattle.hose_cert.specs.steps.Taking.{IsAllRead, KeepsReadingFault, fault_in}
use Rattle.hose_cert.specs.Verdict.{IsVerdict}
use Rattle.hose_cert.specs.declared.fault.CertFault.{CertFault}
use Rattle.hose_cert.specs.declared.fault.CertFault.TheVariants as certificate
use Rattle.hose_io.specs.declared.source.Source.{Ghosts as SourceGhosts}
use Rattle.hose_graph.specs.Network.{Network}
use Rattle.hose_cert.specs.declared.Verdict.{Verdict}
use Rattle.hose_offline.specs.CheckOutcome.{CheckOutcome, EndsChecked, JudgesNamed}
use Rattle.hose_outside.specs.Parts.{Parts, Tellings}
use Rattle.hose_outside.specs.declared.fault.Fault.{Fault}

-- ---- a reader that has taken nothing

-- what is found of all that was to come is found of the input
pub found_told : {S : Type 0} (source : SourceGhosts S) (old new : Reader S) (network : Network) (result : Result Verdict CertFault) → old.pending ≡ []
    → WhereTold (source.content old.source) (source.content new.source) (λ before _. IfOk result (IsVerdict network (old.pending ++ before))) → OnOk result (IsAllRead source old new)
    → IfOk result (λ verdict. WhereTold (source.content old.source) (source.content new.source) (λ text left. (left ≡ []) × IsVerdict network text verdict))
found_told source old new network (Err why) pending found all = tt
found_told source old new network (Ok verdict) pending found all =
    WhereTold-map (source.content old.source) (source.content new.source) _ _ (WhereTold-both (source.content old.source) (source.content new.source) _ _ found all)
    (λ was left both. (nil_from_length left (omega (arith, ap length both.1, length-append new.pending left)), subst (λ (front : List ℕ). IsVerdict network (front ++ was) verdict) pending both.0))

-- no call of the source failed where none is told to have
pub read_not : (old new : Option LineFault) (result : Result Verdict CertFault) → old ≡ None → KeepsReadingFault old new (fault_in result) → (result ≡ Err certificate.Read → ⊥) → new ≡ Some line.Read → ⊥
read_not old new (Ok verdict) none kept never read = cc (none, kept, read)
read_not old new (Err certificate.Read) none kept never read = never refl
read_not old new (Err certificate.TooLong) none kept never read = cc (kept, read)
read_not old new (Err certificate.Memory) none kept never read = cc (none, kept, read)

-- that it was too long is told as its fault
pub long_told : {P : Type 0} (result : Result Verdict CertFault) → (fault_in result ≡ Some certificate.TooLong) ↔ P → (result ≡ Err certificate.TooLong) ↔ P
long_told (Ok verdict) told = ((λ is. absurd (cc is)), λ long. absurd (cc (told.1 long)))
long_told (Err certificate.Read) told = ((λ is. absurd (cc is)), λ long. absurd (cc (told.1 long)))
long_told (Err certificate.TooLong) told = ((λ is. told.0 refl), λ long. refl)
long_told (Err certificate.Memory) told = ((λ is. absurd (cc is)), λ long. absurd (cc (told.1 long)))

-- ---- a topology and an input

module _ {I O C E : Type 0} (tells : Tellings I O C E) (prices : Network → Network → Type 0) (topology : List ℕ) (before after : Parts I O C) where
  -- the output was left alone until that was told
  pub checked : (output : O) (status : ℕ) (result : Result Verdict Fault) → after.output ≡ before.output → JudgesNamed tells prices topology before after result → EndsChecked tells.sink after.output output status result
      → CheckOutcome tells prices topology before (record after { output = output }) status
  checked output status result same judges ends = record {
    result = result;
    judges = subst (λ (left : O). JudgesNamed tells prices topology before (record after { output = left }) result) same judges;
    ends = subst (λ (left : O). EndsChecked tells.sink left output status result) same ends;
  }
