use Rattle.std.proofs.Common.{◌<◌, ◌≤◌, [], length, arith}
use Rattle.std.specs.List.{range_with_len}
use Rattle.hose_io.proofs.Gathering.{IsAdded-item}
use Rattle.hose_copying.specs.MoveEnd.{number_line}
use Rattle.hose_copying.proofs.MoveLines.{place_at, place_inside, places_taken}
use Rattle.hose_copying.proofs.move_end.add_numbers.Goals as goal

pub loop-place-preserved : goal.loop-place-preserved
loop-place-preserved g c =
    let numbers = c.args.numbers.now in
    let below : c.loop-place.place < length numbers = omega (arith, c.loop-place-test.true) in
    IsAdded-item [] (number_line numbers) (range_with_len 0 (length numbers)) c.loop-place.place 0 (place_inside (length numbers) c.loop-place.place below) c.loop-place.invariant
    (rw (place_at (length numbers) c.loop-place.place below) c.add_number_line.ensures)

pub returns : goal.returns
returns g c =
    let numbers = c.args.numbers.now in
    let past : length numbers ≤ c.loop-place.place = omega (arith, c.loop-place-test.false) in
    rw (places_taken (length numbers) c.loop-place.place past) at c.loop-place.invariant
