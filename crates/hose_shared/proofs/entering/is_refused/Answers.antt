use Rattle.std.proofs.Common.{◌≡◌, ap, refl, ℕ}
use Rattle.hose_graph.specs.declared.command.Reply.{Reply}
use Rattle.hose_graph.specs.declared.command.Reply.TheVariants.{Disk}
use Rattle.hose_book.specs.declared.books.Committed.TheVariants.{Done}
use Rattle.hose_core.specs.steps.Stepping.{committed_of}
use Rattle.hose_shared.proofs.entering.is_refused.Goals as goal

done_else : (reply : Reply) → ((at : ℕ) → reply ≡ Disk at → ⊥) → committed_of reply ≡ Done
done_else (Disk at) other = absurd (other at refl)
done_else reply other = refl

pub returns-in-Disk : goal.returns-in-Disk
returns-in-Disk c = ap committed_of c.in-Disk.is

pub returns-in_default : goal.returns-in_default
returns-in_default c = done_else c.args.reply.now c.in_default.not-Disk
