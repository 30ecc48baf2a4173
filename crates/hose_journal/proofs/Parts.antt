-- Which record begins bytes.
use Rattle.std.proofs.Common.{◌≡◌, ◌≢◌, inr, ℕ, ◌+◌, ◌-◌, ◌≤◌, ◌<◌, Bool, true, false, List, [], ◌∷◌, ◌++◌, length, get_or, take, drop, refl, sym, ◌∙◌, ap, arith, length-append, append_assoc, take-append-drop}
use Rattle.std.specs.Prelude.{Err}
use Rattle.std.proofs.lemmas.List.{take_all, take_at, drop_more, length-take-le}
use Rattle.byteorder.specs.Endian.{big_bytes}
use Rattle.byteorder.specs.Numbers.{length-bytes_high_first}
use Rattle.hose_graph.specs.declared.entry.Entry.{Entry}
use Rattle.hose_codec.specs.Spelling.{spelling, IsSpelling}
use Rattle.hose_codec.specs.steps.Spelling.{IsNoSpelling}
use Rattle.hose_codec.specs.declared.limits.CodecFault.{CodecFault}
use Rattle.hose_codec.specs.declared.limits.CodecFault.TheVariants.{Bad, Memory}
use Rattle.hose_codec.specs.declared.limits.TheConstants.{MOST_SPELLING}
use Rattle.hose_codec.proofs.Entries.{length-spelling}
use Rattle.hose_codec.proofs.Numbers.{same_numbers, same_parts}
use Rattle.hose_journal.specs.declared.layout.TheConstants.{OPEN, DIGEST_BYTES}
use Rattle.hose_journal.specs.declared.part.Found.{Found}
use Rattle.hose_journal.specs.steps.AtGate.{BeginsEntry, BeginsNoEntry, BeginsSeal, HasFields, HasNoFields, IsFoundEntry, IsFoundIn, IsPart}
use Rattle.hose_journal.specs.Chain.{chain}
use Rattle.hose_journal.specs.Entries.{entry_bytes, seal_bytes, value_in}
use Rattle.hose_journal.proofs.Chains.{length-chain}
use Rattle.hose_journal.proofs.Items.{length-fields, length-seal}

-- ---- fields

pub has_fields : (bytes field after value rest : List ℕ) (width len : ℕ) → field ≡ take 4 bytes → after ≡ drop 4 bytes → value ≡ take width after → rest ≡ drop width after → big_bytes 4 len ≡ field → len ≤ MOST_SPELLING → len < length rest
    → HasFields bytes value (take len rest)
has_fields bytes field after value rest width len front back value_is rest_is is_len few more =
    let size : length (take len rest) ≡ len = length-take-le len rest (omega (arith, more)) in
    let gate = get_or rest len 0 in
    let tail : rest ≡ take len rest ++ gate ∷ drop (len + 1) rest = sym (take-append-drop len rest) ∙ ap (λ (l : List ℕ). take len rest ++ l) (drop_more rest len 0 more) in
    let split : after ≡ value ++ rest = sym (take-append-drop width after) ∙ ap (λ (l : List ℕ). l ++ drop width after) (sym value_is) ∙ ap (λ (l : List ℕ). value ++ l) (sym rest_is) in
    record {
      gate = gate;
      rest = drop (len + 1) rest;
      short = omega (arith, size, few);
      is =
          sym (take-append-drop 4 bytes)
          ∙ ap (λ (l : List ℕ). l ++ drop 4 bytes) (sym front ∙ sym is_len ∙ ap (λ (n : ℕ). big_bytes 4 n) (sym size))
          ∙ ap (λ (l : List ℕ). big_bytes 4 (length (take len rest)) ++ l) (sym back ∙ split ∙ ap (λ (l : List ℕ). value ++ l) tail);
    }

-- fields that are told twice
same_fields : (bytes v w b c : List ℕ) → HasFields bytes v b → HasFields bytes w c → length v ≡ length w → (v ≡ w) × (b ≡ c)
same_fields bytes v w b c one other size =
    let one_short = one.short in
    let other_short = other.short in
    let sizes = same_numbers 4 (length b) (length c) (v ++ (b ++ one.gate ∷ one.rest)) (w ++ (c ++ other.gate ∷ other.rest)) (omega (arith, one_short)) (omega (arith, other_short)) (sym one.is ∙ other.is) in
    let values = same_parts v w (b ++ one.gate ∷ one.rest) (c ++ other.gate ∷ other.rest) size sizes.1 in
    (values.0, (same_parts b c (one.gate ∷ one.rest) (other.gate ∷ other.rest) sizes.0 values.1).0)

-- ---- entries

pub same_width : (chained : Bool) (v w : List ℕ) → length v ≡ length w → length (value_in chained v) ≡ length (value_in chained w)
same_width false v w size = refl
same_width true v w size = size

module _ (chained : Bool) (digest : List ℕ) (entries : List Entry) (size : length digest ≡ DIGEST_BYTES) (bytes : List ℕ) where
  abbrev value_with : Entry → List ℕ
  value_with entry = chain digest (entries ++ entry ∷ [])

  parts : (entry : Entry) (rest : List ℕ)
      → entry_bytes chained digest entries entry ++ rest ≡ big_bytes 4 (length (spelling entry)) ++ (value_in chained (value_with entry) ++ (spelling entry ++ rest))
  parts entry rest =
      let number = big_bytes 4 (length (spelling entry)) in
      let value = value_in chained (value_with entry) in
      append_assoc number (value ++ spelling entry) rest ∙ ap (λ (l : List ℕ). number ++ l) (append_assoc value (spelling entry) rest)

  entry_fields : (entry : Entry) → BeginsEntry chained digest entries bytes entry → HasFields bytes (value_in chained (value_with entry)) (spelling entry)
  entry_fields entry begins = record {
    gate = begins.gate;
    rest = begins.rest;
    short = length-spelling entry begins.is_entry;
    is = begins.is ∙ parts entry (begins.gate ∷ begins.rest);
  }

  fields_entry : (value body : List ℕ) (entry : Entry) → HasFields bytes value body → IsSpelling entry body → value ≡ value_in chained (value_with entry) → BeginsEntry chained digest entries bytes entry
  fields_entry value body entry has spelled is_value = record {
    gate = has.gate;
    rest = has.rest;
    is_entry = spelled.is_entry;
    is =
        has.is
        ∙ ap (λ (l : List ℕ). big_bytes 4 (length l) ++ (value ++ (l ++ has.gate ∷ has.rest))) spelled.spelled
        ∙ ap (λ (l : List ℕ). big_bytes 4 (length (spelling entry)) ++ (l ++ (spelling entry ++ has.gate ∷ has.rest))) is_value
        ∙ sym (parts entry (has.gate ∷ has.rest));
  }

  -- a value of the length of those that are kept is as long as that of each entry
  wide : (value : List ℕ) (entry : Entry) → length value ≡ DIGEST_BYTES → length (value_in chained (value_with entry)) ≡ length (value_in chained value)
  wide value entry long = same_width chained (value_with entry) value (length-chain digest (entries ++ entry ∷ []) size ∙ sym long)

  pub none_found : (value : List ℕ) → length value ≡ DIGEST_BYTES → HasNoFields bytes (length (value_in chained value)) → BeginsNoEntry chained digest entries bytes
  none_found value long none entry begins = none (value_in chained (value_with entry)) (spelling entry) (wide value entry long) (entry_fields entry begins)

  module _ (value body next : List ℕ) (has : HasFields bytes value body) (long : length next ≡ DIGEST_BYTES) (fits : length value ≡ length (value_in chained next))
      (is_next : (entry : Entry) → body ≡ spelling entry → next ≡ value_with entry) where
    same_as : (entry : Entry) → BeginsEntry chained digest entries bytes entry → (value ≡ value_in chained (value_with entry)) × (body ≡ spelling entry)
    same_as entry begins = same_fields bytes value (value_in chained (value_with entry)) body (spelling entry) has (entry_fields entry begins) (fits ∙ sym (wide next entry long))

    pub none_valued : value ≢ value_in chained next → BeginsNoEntry chained digest entries bytes
    none_valued differs entry begins =
        let same = same_as entry begins in
        differs (same.0 ∙ ap (λ (l : List ℕ). value_in chained l) (sym (is_next entry same.1)))

    begins_by : (entry : Entry) → value ≡ value_in chained next → IsSpelling entry body → BeginsEntry chained digest entries bytes entry
    begins_by entry is_value spelled = fields_entry value body entry has spelled (is_value ∙ ap (λ (l : List ℕ). value_in chained l) (is_next entry spelled.spelled))

    pub found_by : (found : Found) → value ≡ value_in chained next → IsSpelling found.entry body → found.value ≡ next → found.distance ≡ 5 + length value + length body → IsFoundEntry chained digest entries bytes found
    found_by found is_value spelled is far = record {
      begins = begins_by found.entry is_value spelled;
      value = is ∙ is_next found.entry spelled.spelled;
      far =
          omega (
            arith,
            far,
            ap length spelled.spelled,
            fits,
            wide next found.entry long,
            length-fields (big_bytes 4 (length (spelling found.entry))) (value_in chained (value_with found.entry)) (spelling found.entry),
            length-bytes_high_first 4 (length (spelling found.entry)),
          );
    }

    -- the faults of what decodes the body
    pub by_fault : (fault : CodecFault) → value ≡ value_in chained next → (fault ≡ Bad → IsNoSpelling body) → (fault ≡ Memory → (entry : Entry) × IsSpelling entry body) → IsFoundIn chained digest entries bytes (Err fault)
    by_fault Bad is_value bad wanting = λ entry begins. bad refl entry (record { is_entry = begins.is_entry; spelled = (same_as entry begins).1 })
    by_fault Memory is_value bad wanting = ((wanting refl).0, begins_by (wanting refl).0 is_value (wanting refl).1)

-- ---- a gate

pub open_bytes : (bytes : List ℕ) → 1 ≤ length bytes → get_or bytes 0 0 ≡ OPEN → bytes ≡ OPEN ∷ take (length bytes - 1) (drop 1 bytes)
open_bytes [] some is = absurd (omega arith)
open_bytes (gate ∷ bytes) some is = (λ i. is i ∷ bytes) ∙ ap (λ (l : List ℕ). OPEN ∷ l) (sym (take_all (length (gate ∷ bytes) - 1) bytes (omega arith)))

pub part_fault : (chained : Bool) (digest : List ℕ) (entries : List Entry) (bytes rest : List ℕ) (fault : CodecFault) → bytes ≡ OPEN ∷ rest → IsFoundIn chained digest entries rest (Err fault) → IsPart chained digest entries bytes (Err fault)
part_fault chained digest entries bytes rest Bad is none = inr (record { rest = rest; is = is; holds = none })
part_fault chained digest entries bytes rest Memory is wanted = (wanted.0, record { rest = rest; is = is; holds = wanted.1 })

-- ---- a seal

pub seal_taken : (bytes value : List ℕ) → 38 < length bytes → take 38 bytes ≡ OPEN ∷ seal_bytes value → BeginsSeal value bytes
seal_taken bytes value long same = record {
  gate = get_or bytes 38 0;
  rest = drop 39 bytes;
  is =
      sym (take-append-drop 38 bytes)
      ∙ ap (λ (l : List ℕ). l ++ drop 38 bytes) same
      ∙ ap (λ (l : List ℕ). (OPEN ∷ seal_bytes value) ++ l) (drop_more bytes 38 0 long);
}

pub seal_begins : (bytes value : List ℕ) → length value ≡ DIGEST_BYTES → BeginsSeal value bytes → (38 < length bytes) × (take 38 bytes ≡ OPEN ∷ seal_bytes value)
seal_begins bytes value size begins =
    let first = OPEN ∷ seal_bytes value in
    let after = begins.gate ∷ begins.rest in
    let long : length first ≡ 38 = omega (arith, length-seal value size) in
    (omega (arith, long, ap length begins.is, length-append first after), ap (λ (l : List ℕ). take 38 l) begins.is ∙ take_at first after 38 long)
