use Rattle.std.proofs.Common.{rules}
use Rattle.hose_crew.proofs.Gathering.{serves}
use Rattle.hose_crew.proofs.crew.Crew.serve.Goals as goal

pub returns : goal.returns
returns g c =
    let ended = c.serve_all-door.ensures in
    let back = c.gather-pass.ensures in
    serves g.L.Door c.args.door c.serve_all-door.result.door c.gather-pass.result.1 c.args.self.connections c.serve_all-door.result.tally.total c.serve_all-door.result.tally.total g.N.Ledger.parts g.N.Ledger.parts c.args.pass c.gather-pass.result.0 c.serve_all-door.result.stopped
    (search rules) (search rules) (search rules) (search rules) back.frame (search rules) (search rules) (search rules) back.back
