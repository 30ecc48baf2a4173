use Rattle.std.proofs.Common.{ap, arith, inr, refl, rules}
use Rattle.std.specs.Prelude.{Err}
use Rattle.hose_codec.specs.declared.limits.CodecFault.{CodecFault}
use Rattle.hose_follow.proofs.offering.enter.Goals as goal

pub returns-in-Err-Bad : goal.returns-in-Err-Bad
returns-in-Err-Bad g c = λ chain is_own.
    let bad = c.in-Err-Bad.ensures.bad.0 (ap (λ (fault : CodecFault). Err fault) c.in-Err-Bad.field-0-is) in
    (record { epoch = c.requires; chain = is_own }, (λ entry brings. bad entry brings.spells), refl, refl)

pub returns-in-Err-Memory : goal.returns-in-Err-Memory
returns-in-Err-Memory g c = λ chain is_own.
    (record { epoch = c.requires; chain = is_own }, c.in-Err-Memory.ensures.memory (ap (λ (fault : CodecFault). Err fault) c.in-Err-Memory.field-0-is), refl)

pub returns-in_default : goal.returns-in_default
returns-in_default g c = λ chain is_own. (record { epoch = c.requires; chain = is_own }, (c.in-Ok.entry, c.in-Ok.ensures.read), refl)

pub returns-in-Done : goal.returns-in-Done
returns-in-Done g c = λ chain is_own. inr (
  c.in-Ok.entry,
  refl,
  record {
    due = record { epoch = c.requires; chain = is_own };
    brings = record { spells = c.in-Ok.ensures.read; sound = search rules };
    went = c.in-Done.ensures.went;
    met = c.in-Done.ensures.met;
  },
)

pub returns-in-Disk : goal.returns-in-Disk
returns-in-Disk g c = λ chain is_own. (
  c.in-Ok.entry,
  omega (arith, c.requires),
  record {
    due = record { epoch = c.requires; chain = is_own };
    brings = record { spells = c.in-Ok.ensures.read; sound = search rules };
    went = c.in-Disk.ensures.went;
    met = c.in-Disk.ensures.met;
  },
)
