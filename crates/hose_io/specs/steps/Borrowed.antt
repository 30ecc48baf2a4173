-- What is read through a borrow.
use Rattle.std.specs.Prelude.{◌∷◌}
use Rattle.std.specs.Borrow.{MutBor}
use Rattle.hose_io.specs.declared.source.Source.{Ghosts}

-- a borrow of a source, as a source
abbrev pub borrowed : {S : Type 0} → Ghosts S → Ghosts (MutBor S)
borrowed source = record {
  frame = λ b. record (source.frame b.now) { loan = b.ghost_name ∷ (source.frame b.now).loan };
  content = λ b. source.content b.now;
  went = λ old new. source.went old.now new.now;
}
