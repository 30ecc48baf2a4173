-- Two nodes and a link between them are a network.
use Rattle.std.proofs.Common.{◌≡◌, ◌≢◌, ℕ, zero, suc, ◌<◌, true, List, [], ◌∷◌, codes, get_or, refl, ap, arith}
use Rattle.std.specs.List.{AllPairs}
use Rattle.std.proofs.lemmas.List.Elements.{All-cons, All-nil}
use Rattle.hose_graph.specs.Name.{IsName, is_name_byte}
use Rattle.hose_graph.specs.Network.{IsLink, IsNetwork}
use Rattle.hose_graph.specs.declared.topology.Link.{Link}
use Rattle.hose_pair.specs.steps.Meeting.{two_nodes}

abbrev MayBe : ℕ → Type 0
MayBe byte = is_name_byte byte ≡ true

name_of : (byte : ℕ) → MayBe byte → IsName (byte ∷ [])
name_of byte may = record { some = omega arith; short = omega arith; allowed = All-cons MayBe byte [] may (All-nil MayBe) }

pairs : (name : List ℕ) → codes "a" ≢ name → AllPairs ◌≢◌ (codes "a" ∷ name ∷ [])
pairs name apart zero zero d lt within = absurd (omega (arith, lt))
pairs name apart zero (suc zero) d lt within = apart
pairs name apart zero (suc (suc j)) d lt within = absurd (omega (arith, within))
pairs name apart (suc i) j d lt within = absurd (omega (arith, lt, within))

abbrev only_link : Link
only_link = record { a = 0; b = 1; capacity = 1; length = 1; cost = 1 }

two_are : (byte : ℕ) → MayBe byte → codes "a" ≢ byte ∷ [] → IsNetwork (two_nodes (byte ∷ []))
two_are byte may apart = record {
  few_nodes = omega arith;
  few_links = omega arith;
  names = All-cons IsName (codes "a") ((byte ∷ []) ∷ []) (name_of 97 refl) (All-cons IsName (byte ∷ []) [] (name_of byte may) (All-nil IsName));
  differ = pairs (byte ∷ []) apart;
  links = All-cons (IsLink (two_nodes (byte ∷ []))) only_link [] (record {
    in_range = record { a = omega arith; b = omega arith; capacity = (omega arith, omega arith); distance = (omega arith, omega arith); cost = (omega arith, omega arith) };
    no_loop = λ same. absurd (omega (arith, same));
  }) (All-nil (IsLink (two_nodes (byte ∷ []))));
}

apart_from : (byte : ℕ) → 97 < byte → codes "a" ≢ byte ∷ []
apart_from byte above same = let is : 97 ≡ byte = ap (λ (l : List ℕ). get_or l 0 0) same in absurd (omega (arith, above, is))

pub both_networks : IsNetwork (two_nodes (codes "b")) × IsNetwork (two_nodes (codes "c"))
both_networks = (two_are 98 refl (apart_from 98 (omega arith)), two_are 99 refl (apart_from 99 (omega arith)))
