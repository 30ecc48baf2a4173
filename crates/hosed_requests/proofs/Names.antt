-- What words name, from what their task names.
use Rattle.std.proofs.Common.{◌≡◌, ◌≢◌, ℕ, List, None, refl}
use Rattle.hose_outside.specs.declared.fault.Fault.{Fault}
use Rattle.hose_outside.specs.declared.fault.Fault.TheVariants.{Cabinet, Text}
use Rattle.hosed_requests.specs.Naming.{AreNamed, TaskNames, named_bytes, task_names}
use Rattle.hosed_requests.specs.steps.Naming.{failed_file}
use Rattle.hosed_requests.specs.steps.Arguments.{AreArgumentWords, ArgumentTask}
use Rattle.hosed_requests.proofs.ProgramShapes.{are_told, task_told}
use Rattle.hosed_requests.specs.declared.verb.ProgramVerb.{ProgramVerb}
use Rattle.hosed_requests.specs.declared.naming.NamedByWords.{NamedByWords}

pub are_named : (names words : List (List ℕ)) (verb : ProgramVerb) (task : ArgumentTask verb) (named : NamedByWords) → AreArgumentWords names words verb task → named_bytes named ≡ task_names names verb (task_told names verb task) → AreNamed names words named
are_named names words verb task named are same = record { verb = verb; task = task_told names verb task; are = are_told names words verb task are; same = same }

-- no file is meant by another fault
pub none_failed : (named : TaskNames) (fault : Fault) → fault ≢ Text → fault ≢ Cabinet → None ≡ failed_file named fault
none_failed named Text no_text no_cabinet = absurd (no_text refl)
none_failed named Cabinet no_text no_cabinet = absurd (no_cabinet refl)
none_failed named another no_text no_cabinet = refl
