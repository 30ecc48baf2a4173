use Rattle.std.proofs.Common.{refl}
use Rattle.hosed_requests.specs.declared.verb.ProgramVerb.TheVariants as command
use Rattle.hosed_requests.proofs.Names.{are_named}
use Rattle.hosed_requests.proofs.naming.named_of.Goals as goal

pub returns-in-Run : goal.returns-in-Run
returns-in-Run c = λ names words are. are_named names words command.Run _ c.files.result (rw c.in-Run.is at are) (rw c.files.ensures refl)

pub returns-in-Audit : goal.returns-in-Audit
returns-in-Audit c = λ names words are. are_named names words command.Audit _ c.files-in-Audit.result (rw c.in-Audit.is at are) (rw c.files-in-Audit.ensures refl)

pub returns-in-Generate : goal.returns-in-Generate
returns-in-Generate c = λ names words are. are_named names words command.Generate _ c.files-in-Generate.result (rw c.in-Generate.is at are) (rw c.files-in-Generate.ensures refl)

pub returns-in-Prove : goal.returns-in-Prove
returns-in-Prove c = λ names words are. are_named names words command.Prove _ c.files-in-Prove.result (rw c.in-Prove.is at are).0 (rw c.files-in-Prove.ensures refl)

pub returns-in-Check : goal.returns-in-Check
returns-in-Check c = λ names words are. are_named names words command.Check _ c.files-in-Check.result (rw c.in-Check.is at are) (rw c.files-in-Check.ensures refl)

pub returns-in-Price : goal.returns-in-Price
returns-in-Price c = λ names words are. are_named names words command.Price _ c.files-in-Price.result (rw c.in-Price.is at are) (rw c.files-in-Price.ensures refl)

pub returns-in-Ship : goal.returns-in-Ship
returns-in-Ship c = λ names words are. are_named names words command.Ship _ c.files-in-Ship.result (rw c.in-Ship.is at are) (rw c.files-in-Ship.ensures refl)

pub returns-in-Follow : goal.returns-in-Follow
returns-in-Follow c = λ names words are. are_named names words command.Follow _ c.files-in-Follow.result (rw c.in-Follow.is at are) (rw c.files-in-Follow.ensures refl)

pub returns-in-Cut : goal.returns-in-Cut
returns-in-Cut c = λ names words are. are_named names words command.Cut _ c.cut_files.result (rw c.in-Cut.is at are) (rw c.cut_files.ensures refl)

pub returns-in-Move : goal.returns-in-Move
returns-in-Move c = λ names words are. are_named names words command.Move _ c.moved_files.result (rw c.in-Move.is at are) (rw c.moved_files.ensures refl)
