use Rattle.std.proofs.Common.{rules, ◌≡◌, ℕ, List, ◌++◌, length, take, drop, replicate, refl, sym, ap, subst}
use Rattle.std.proofs.lemmas.List.{take_at, drop-replicate}
use Rattle.hose_graph.specs.Name.{IsName}
use Rattle.hose_graph.specs.steps.Name.{padded}
use Rattle.hose_graph.proofs.name.Name.read.Goals as goal

-- a name written over sixteen zeros is that name, and padded
over_zeros : (bytes : List ℕ) → IsName bytes →
    let whole = bytes ++ drop (length bytes) (replicate 16 0) in
    let name = take (length bytes) whole in
    IsName name × (whole ≡ padded name) × (length bytes ≡ length name)
over_zeros bytes is =
    let zeros = drop (length bytes) (replicate 16 0) in
    let P : List ℕ → Type 0 = λ name. IsName name × (bytes ++ zeros ≡ padded name) × (length bytes ≡ length name) in
    subst P (sym (take_at bytes zeros (length bytes) refl))
    (is, ap (λ rest. bytes ++ rest) (drop-replicate (length bytes) 16 0), refl)

pub invariant_of-result : goal.invariant_of-result
invariant_of-result c =
    let is : IsName c.args.bytes.now = record { some = search rules; short = search rules; allowed = search rules } in
    let written : c.copy_from_slice.new.self ≡ c.args.bytes.now = c.copy_from_slice.ensures.after in
    rw written (over_zeros c.args.bytes.now is)
