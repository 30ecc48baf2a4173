use Rattle.std.proofs.Common.{refl}
use Rattle.hosed_requests.specs.steps.ProgramWords.{task_of}
use Rattle.hosed_requests.specs.declared.verb.ProgramVerb.TheVariants as command
use Rattle.hosed_requests.proofs.Names.{are_named}
use Rattle.hosed_requests.proofs.naming.server_named.Goals as goal

pub returns : goal.returns
returns c = λ names words are. are_named names words command.Serve (task_of c.args.request) _ are refl
