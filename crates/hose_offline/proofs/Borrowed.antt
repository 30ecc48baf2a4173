-- A source behind a borrow: what is told of the borrow is told of the source.
use Rattle.std.proofs.Common.{◌≡◌, ◌∷◌, List, drop, MutBor, ap, subst}
use Rattle.std.specs.Borrow.{GName}
use Rattle.hose_io.specs.steps.Borrowed.{borrowed}
use Rattle.hose_io.specs.Frame.{Frame, Rose, Stays}
use Rattle.hose_io.specs.declared.source.Source.{Ghosts}

frame_behind : (frame other : Frame) (name one : GName) → record frame { loan = name ∷ frame.loan } ≡ record other { loan = one ∷ other.loan } → frame ≡ other
frame_behind frame other name one same = ap (λ (f : Frame). record { faults = f.faults; number = f.number; loan = drop 1 f.loan }) same

first_name : (name one : GName) (names ones : List GName) → name ∷ names ≡ one ∷ ones → name ≡ one
first_name name one names ones same = cc same

module _ {T : Type 0} (source : Ghosts T) (first last : MutBor T) where
  -- where the borrow has not failed the source has not
  pub held_behind : (borrowed source).frame last ≡ (borrowed source).frame first → source.frame last.now ≡ source.frame first.now
  held_behind same = frame_behind (source.frame last.now) (source.frame first.now) last.ghost_name first.ghost_name same

  -- where it has the source has
  pub rose_behind : Rose ((borrowed source).frame first) ((borrowed source).frame last) → Rose (source.frame first.now) (source.frame last.now)
  rose_behind more = record { rose = more.rose }

  -- what the borrow stays, the source stays
  pub stays_behind : (was now : T) → first.now ≡ was → last.now ≡ now → Stays ((borrowed source).frame first) ((borrowed source).frame last) → Stays (source.frame was) (source.frame now)
  stays_behind was now began ended stays =
      subst (λ (end : T). Stays (source.frame was) (source.frame end)) ended
      (subst (λ (start : T). Stays (source.frame start) (source.frame last.now)) began
      (record { never_falls = stays.never_falls; number = stays.number; loan = ap (λ (loan : List GName). drop 1 loan) stays.loan }))

  -- it is the same borrow
  pub same_borrow : Stays ((borrowed source).frame first) ((borrowed source).frame last) → last.ghost_name ≡ first.ghost_name
  same_borrow stays = first_name last.ghost_name first.ghost_name _ _ stays.loan
