use Rattle.hose_proto.specs.declared.verb.Verb.TheVariants as verb
use Rattle.hose_proto.proofs.OneCommand.{command_of}
use Rattle.hose_proto.proofs.verb.read_after.Goals as goal

pub returns-in_ok-known-in-AdmitAfter-clause-ok : goal.returns-in_ok-known-in-AdmitAfter-clause-ok
returns-in_ok-known-in-AdmitAfter-clause-ok c =
    let bound = c.in_ok-known-in-AdmitAfter in
    command_of verb.AdmitAfter (bound.known, bound.hose) c.in-AdmitAfter.is bound.ensures.ok

pub returns-in_ok-read_id-in-Take-clause-ok : goal.returns-in_ok-read_id-in-Take-clause-ok
returns-in_ok-read_id-in-Take-clause-ok c = let id = c.in_ok-read_id-in-Take in command_of verb.Take (id.field-0, tt) c.in-Take.is (id.ensures.ok c.args.top.now)

pub returns-in_ok-read_id-in-Release-clause-ok : goal.returns-in_ok-read_id-in-Release-clause-ok
returns-in_ok-read_id-in-Release-clause-ok c = let id = c.in_ok-read_id-in-Release in command_of verb.Release (id.field-0, tt) c.in-Release.is (id.ensures.ok c.args.top.now)

pub returns-in_ok-read_id-in-Show-clause-ok : goal.returns-in_ok-read_id-in-Show-clause-ok
returns-in_ok-read_id-in-Show-clause-ok c = let id = c.in_ok-read_id-in-Show in command_of verb.Show (id.field-0, tt) c.in-Show.is (id.ensures.ok c.args.top.now)

pub returns-in_ok-read_link-in-Link-clause-ok : goal.returns-in_ok-read_link-in-Link-clause-ok
returns-in_ok-read_link-in-Link-clause-ok c = let link = c.in_ok-read_link-in-Link in command_of verb.Link (link.field-0, tt) c.in-Link.is link.ensures.ok

pub returns-in_ok-read_link-in-Down-clause-ok : goal.returns-in_ok-read_link-in-Down-clause-ok
returns-in_ok-read_link-in-Down-clause-ok c = let link = c.in_ok-read_link-in-Down in command_of verb.Down (link.field-0, tt) c.in-Down.is link.ensures.ok

pub returns-in_ok-read_link-in-Up-clause-ok : goal.returns-in_ok-read_link-in-Up-clause-ok
returns-in_ok-read_link-in-Up-clause-ok c = let link = c.in_ok-read_link-in-Up in command_of verb.Up (link.field-0, tt) c.in-Up.is link.ensures.ok
