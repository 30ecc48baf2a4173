-- Connections that ended, and the pass along which they were served: steps of proofs.
use Rattle.std.specs.Prelude.{◌≡◌, [], ◌++◌, IfSome, Some}
use Rattle.hose_io.specs.Connections.{Connection}
use Rattle.hose_io.specs.declared.source.Source.{Ghosts as SourceGhosts}
use Rattle.hose_io.specs.declared.sink.Sink.{Ghosts as SinkGhosts}

-- what these streams, at the start and at the end of a session, come to as a connection
pub record ComeTo {S O : Type 0} (source : SourceGhosts S) (sink : SinkGhosts O)
    (input input' : S) (output output' : O) (connection : Connection) : Type 0 where
  pub fresh : source.content input ≡ Some (record {
    taken = [];
    left = connection.taken ++ connection.left;
  })
  pub served : source.content input' ≡ Some (record {
    taken = connection.taken;
    left = connection.left;
  })
  pub empty : sink.content output ≡ Some []
  pub given : sink.content output' ≡ Some connection.given
  pub asked : (was : S) → source.went was input'
      → IfSome (source.content was) (λ stream. connection.asked ≡ stream.left)
  pub unread : (source.frame input).faults ≡ 0
  pub reading : (source.frame input').faults ≡ connection.reading
  pub unwritten : (sink.frame output).faults ≡ 0
  pub writing : (sink.frame output').faults ≡ connection.writing
