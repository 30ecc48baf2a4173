use Rattle.std.proofs.lemmas.List.Folds.{flat_map-map}
use Rattle.hose_io.proofs.Gathering.{IsAdded-next}
use Rattle.hose_proto.specs.ReplyText.{line_of}
use Rattle.hose_cert.specs.CertLine.{CertLine, use_line}
use Rattle.hose_cert.specs.Written.{first_lines}
use Rattle.hose_cert.specs.steps.Written.{pieces_of}
use Rattle.hose_cert.proofs.LineTexts.{added_pieces}
use Rattle.hose_cert.proofs.writing.add_first_lines.Goals as goal

pub returns : goal.returns
returns g c =
    let cost = IsAdded-next (rw c.requires.cost at c.add_numbered.ensures) c.add.ensures in
    let hose = rw c.ends.ensures.value at c.add_hose.ensures in
    added_pieces c.args.top.now (first_lines c.args.top.now c.args.hose.now c.args.pairs.now)
    (rw (flat_map-map (λ (line : CertLine). line_of (pieces_of c.args.top.now line)) use_line c.args.pairs.now)
    (IsAdded-next cost (IsAdded-next hose c.add_uses.ensures)))
