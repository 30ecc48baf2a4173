-- How many are made.
use Rattle.std.proofs.Common.{◌≡◌, ℕ, zero, suc, length, refl, arith}
use Rattle.std.proofs.lemmas.List.{length_push}
use Rattle.hose_gen.specs.Generated.{first_links, link_at}

-- there are as many links as are to be
pub length-first_links : (nodes seed links : ℕ) → length (first_links nodes seed links).0 ≡ links
length-first_links nodes seed zero = refl
length-first_links nodes seed (suc link) =
    let before = first_links nodes seed link in
    omega (arith, length_push before.0 (link_at nodes link before.1).0, length-first_links nodes seed link)
