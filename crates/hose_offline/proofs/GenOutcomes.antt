-- What `gen` leaves, by its status.
use Rattle.std.proofs.Common.{◌≢◌, ℕ, List, [], take, Option, Result, Ok, Err, inl, inr, refl, sym, subst, arith, append-nil}
use Rattle.std.specs.Prelude.{⊤}
use Rattle.hose_io.specs.Frame.{Rose}
use Rattle.hose_io.specs.Stream.{Grows}
use Rattle.hose_io.specs.Writing.{GrowsInPart}
use Rattle.hose_io.specs.declared.sink.Sink.{Ghosts as SinkGhosts}
use Rattle.hose_io.proofs.Streams.{Grows-append}
use Rattle.hose_outside.specs.Ending.{IsLastLine, IsOut, status_of_done}
use Rattle.hose_outside.specs.Fault.{last_line}
use Rattle.hose_offline.specs.GenOutcome.{EndsSummary}
use Rattle.hose_offline.specs.steps.GenOutcome.{GenLeaves}
use Rattle.hose_outside.specs.declared.fault.Fault.{Fault}
use Rattle.hose_outside.specs.declared.fault.Fault.TheVariants.{Write, Memory}
use Rattle.hose_outside.specs.declared.asked.Sizes.{Sizes}

-- a part that is out, and nothing after it
part_then_none : (old mid new : Option (List ℕ)) (text : List ℕ) → GrowsInPart old mid text → Grows mid new [] → GrowsInPart old new text
part_then_none old mid new text part none = (
  part.0,
  part.1,
  subst (Grows old new) (append-nil (take part.0 text)) (Grows-append old mid new (take part.0 text) [] part.2 none),
)

module _ (sizes : Sizes) {O : Type 0} (sink : SinkGhosts O) (output left output' : O) where
  -- after a failed write nothing more is out
  cut_off : GenLeaves sizes sink output left {T = ⊤} (Err Write) → IsOut sink left output' [] → EndsSummary sizes sink output output' 4
  cut_off cut (inl none) = inl (
    cut.0,
    cut.1,
    inr (
      refl,
      subst (Rose (sink.frame output)) (sym none.1) cut.3,
      part_then_none (sink.content output) (sink.content left) (sink.content output') cut.0 cut.2 none.0,
    ),
  )
  cut_off cut (inr part) = absurd (omega (arith, part.1.1))

  -- the summary is out, and no last line
  whole : GenLeaves sizes sink output output' {T = ⊤} (Ok tt) → EndsSummary sizes sink output output' 0
  whole told = inl (told.0, told.1, inl (refl, told.2, told.3))

  -- what `gen` left, and its last line
  pub ends_summary : (done : Result ⊤ Fault) → GenLeaves sizes sink output left done → IsLastLine sink left output' done
      → EndsSummary sizes sink output output' (status_of_done done)
  ends_summary (Ok _) leaves last = whole (subst (λ (o : O). GenLeaves sizes sink output o {T = ⊤} (Ok tt)) (sym last) leaves)
  ends_summary (Err Write) leaves last = cut_off leaves last
  ends_summary (Err Memory) leaves last = inr (refl, subst (λ (o : O). IsOut sink o output' (last_line Memory)) leaves last)
  ends_summary (Err another) leaves last = absurd leaves

-- the status tells no wrong word
pub gen_not_1 : (sizes : Sizes) {O : Type 0} (sink : SinkGhosts O) (output output' : O) (status : ℕ) → EndsSummary sizes sink output output' status → status ≢ 1
gen_not_1 sizes sink output output' status (inl (line, summary, inl told)) is = omega (arith, told.0, is)
gen_not_1 sizes sink output output' status (inl (line, summary, inr cut)) is = omega (arith, cut.0, is)
gen_not_1 sizes sink output output' status (inr starved) is = omega (arith, starved.0, is)
