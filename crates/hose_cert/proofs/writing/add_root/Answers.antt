use Rattle.std.proofs.Common.{◌≡◌, ℕ, ◌+◌, ◌-◌, ◌*◌, arith}
use Rattle.std.specs.List.{range_with_len}
use Rattle.std.proofs.lemmas.List.Folds.{flat_map-map}
use Rattle.hose_proto.specs.ReplyText.{line_of}
use Rattle.hose_cert.specs.CertLine.{CertLine, numbers_from}
use Rattle.hose_cert.specs.Written.{block_line, blocks_of, numbers_of, root_lines}
use Rattle.hose_cert.specs.steps.Written.{pieces_of}
use Rattle.hose_cert.specs.declared.statement.TheConstants.{LINE_NUMBERS}
use Rattle.hose_cert.proofs.Added.{IsAdded-number, numbers_between}
use Rattle.hose_cert.proofs.LineTexts.{added_pieces}
use Rattle.hose_cert.proofs.writing.add_root.Goals as goal

pub loop-block-preserved : goal.loop-block-preserved
loop-block-preserved g c =
    let network = c.args.top.now in
    let from : ℕ = c.loop-block.block * LINE_NUMBERS in
    let count : ℕ = c.min-count.result in
    let same = numbers_between c.args.distances.now.most from (numbers_from network from) (from + count - from) c.args.distances.now.dist.now (omega (arith, c.min-count.ensures, c.nodes-nodes.ensures.count)) in
    IsAdded-number (λ (block : ℕ). line_of (pieces_of network (block_line network c.args.root (numbers_of c.args.distances.now.most c.args.distances.now.dist.now) block))) c.loop-block.block
    c.loop-block.invariant (rw same at c.add_block.ensures)

pub returns : goal.returns
returns g c =
    let network = c.args.top.now in
    let line : ℕ → CertLine = block_line network c.args.root (numbers_of c.args.distances.now.most c.args.distances.now.dist.now) in
    let all : c.loop-block.block ≡ blocks_of network = omega (arith, c.loop-block-test.false, c.loop-block.auto.block-end, c.nodes-nodes.ensures.count) in
    let texts = flat_map-map (λ (l : CertLine). line_of (pieces_of network l)) line (range_with_len 0 (blocks_of network)) in
    added_pieces network (root_lines network c.args.root (numbers_of c.args.distances.now.most c.args.distances.now.dist.now)) (rw texts (rw all at c.loop-block.invariant))
