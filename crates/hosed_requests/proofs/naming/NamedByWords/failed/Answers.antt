use Rattle.hosed_requests.specs.Naming.{named_bytes}
use Rattle.hosed_requests.proofs.Names.{none_failed}
use Rattle.hosed_requests.proofs.naming.NamedByWords.failed.Goals as goal

pub returns-in_default : goal.returns-in_default
returns-in_default c = none_failed (named_bytes c.args.self) c.args.fault c.in_default.not-Text c.in_default.not-Cabinet
