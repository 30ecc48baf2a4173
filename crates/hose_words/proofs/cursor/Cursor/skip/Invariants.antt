use Rattle.std.proofs.Common.{◌≡◌, ◌+◌, drop}
use Rattle.hose_words.proofs.cursor.Cursor.skip.Given as goal

abbrev pub invariant-loop : goal.invariant-loop
invariant-loop l = l.self ≡ record { left = drop l.counter l.fn.self.left; read = l.fn.self.read + l.counter }
