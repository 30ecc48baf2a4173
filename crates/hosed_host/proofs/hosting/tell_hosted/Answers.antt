use Rattle.std.proofs.Common.{[], inl, refl}
use Rattle.hose_io.proofs.Streams.{Grows-nil}
use Rattle.hosed_host.proofs.hosting.tell_hosted.Goals as goal

pub returns-in-Err-Write-clause-told : goal.returns-in-Err-Write-clause-told
returns-in-Err-Write-clause-told g c = record { was = c.args.output.now; text = []; out = inl (Grows-nil _, refl) }

pub returns-in-Err-Memory-clause-why : goal.returns-in-Err-Memory-clause-why
returns-in-Err-Memory-clause-why g c = rw c.end.ensures.is tt
