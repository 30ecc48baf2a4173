-- A topology in JSON, from the bytes that were taken of a source.
use Rattle.std.proofs.Common.{◌≡◌, ◌⊎◌, ℕ, ◌+◌, ◌≤◌, List, Option, Result, Ok, Err, length, inl, inr, refl, sym, subst, arith, append-nil, ◌++◌, length-append, length-take, take}
use Rattle.hose_io.specs.Stream.{Gives, IsAtEnd, Stream}
use Rattle.hose_words.specs.Reading.{WhereTold}
use Rattle.hose_io.proofs.Streams.{Gives-append}
use Rattle.hose_words.proofs.Coming.{told_at_end}
use Rattle.hose_graph.specs.Network.{Network}
use Rattle.hose_topo_json.specs.JsonTopology.{IsJsonTopology}
use Rattle.hose_topo_json.specs.Refused.{IsJsonFault}
use Rattle.hose_topo_json.specs.declared.reading.JsonFault.{JsonFault}
use Rattle.hose_topo_json.specs.declared.reading.JsonFault.TheVariants as json
use Rattle.hose_outside.specs.steps.Fault.{of_json}
use Rattle.hose_outside.specs.steps.JsonRead.{IsJsonOf}
use Rattle.hose_outside.specs.TopologyTold.{IsRefusedAs}
use Rattle.hose_outside.specs.declared.fault.Fault.TheVariants as fault
use Rattle.hose_outside.specs.declared.notation.Notation.TheVariants as notation
use Rattle.hose_outside.specs.declared.notation.Refusal.{Refusal}
use Rattle.hose_outside.specs.declared.notation.Refusal.TheVariants as refusal

-- a piece more is given, where so much of what was read into is
pub piece_more : (old mid new : Option Stream) (bytes into : List ℕ) (count : ℕ) → Gives old mid bytes → Gives mid new (take count into) → count ≤ length into
    → Gives old new (bytes ++ take count into) × (length (bytes ++ take count into) ≡ length bytes + count)
piece_more old mid new bytes into count gives more room = (Gives-append old mid new bytes (take count into) gives more, omega (arith, length-append bytes (take count into), length-take count into, room))

module _ (old new : Option Stream) (bytes : List ℕ) (gives : Gives old new bytes) (end : IsAtEnd new) where
  -- all that was to come is the bytes that were taken
  whole : (P : List ℕ → Type 0) → P bytes → WhereTold old new (λ text _. P text)
  whole P is = told_at_end old new new bytes (λ text _. P text) gives end refl (subst P (sym (append-nil bytes)) is)

  refused_as : (why : Refusal) → IsRefusedAs notation.Json why bytes → ((network : Network) → ¬ IsJsonTopology bytes network) → IsJsonOf old new (Err (fault.Topology why))
  refused_as why is none = whole (λ text. IsRefusedAs notation.Json why text × ((network : Network) → ¬ IsJsonTopology text network)) (is, none)

  -- but for want of memory a fault is told of bytes that tell no network alone
  abbrev IsAlone : JsonFault → Type 0
  IsAlone why = (network : Network) → IsJsonTopology bytes network → (◌≡◌ {A = Result Network JsonFault} (Err why) (Ok network)) ⊎ (◌≡◌ {A = Result Network JsonFault} (Err why) (Err json.Memory))

  none_told : (why : JsonFault) → IsAlone why → (why ≡ json.Memory → ⊥) → (network : Network) → ¬ IsJsonTopology bytes network
  none_told why one other network tells = elim (one network tells) [ inl same ↦ absurd (cc same) | inr same ↦ absurd (other (cc same)) ]

  pub whole_refused : (why : JsonFault) → IsJsonFault bytes why → IsAlone why → IsJsonOf old new (Err (of_json why))
  whole_refused json.Json is one = refused_as refusal.Json is (none_told json.Json one (λ same. cc same))
  whole_refused json.Nodes is one = refused_as refusal.Nodes is (none_told json.Nodes one (λ same. cc same))
  whole_refused (json.Node index) is one = refused_as (refusal.Node index) is (none_told (json.Node index) one (λ same. cc same))
  whole_refused json.Links is one = refused_as refusal.Links is (none_told json.Links one (λ same. cc same))
  whole_refused (json.Link index) is one = refused_as (refusal.Link index) is (none_told (json.Link index) one (λ same. cc same))
  whole_refused json.Memory is one = tt
