use Rattle.std.proofs.Common.{rules, ◌-◌, ◌≡◌, min, take, drop, arith, ap, ◌∙◌, List, ℕ}
use Rattle.hose_journal.proofs.Pieces.{rest_of}
use Rattle.hose_journal.proofs.piece.Piece.rest.Goals as goal

pub returns : goal.returns
returns c =
    let piece = c.args.self.now in
    let skip : c.min-skip.result ≡ min (c.args.at - piece.from) piece.len = search rules in
    let items : c.deref.result.now ≡ piece.bytes.items = search rules in
    ap (λ (k : ℕ). take (piece.len - k) (drop k c.deref.result.now)) skip
    ∙ ap (λ (l : List ℕ). take (piece.len - min (c.args.at - piece.from) piece.len) (drop (min (c.args.at - piece.from) piece.len) l)) items
    ∙ rest_of piece.bytes.items (c.args.at - piece.from) piece.len (omega arith)
