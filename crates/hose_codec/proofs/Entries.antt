-- What holds of an entry of each kind; and where the fields of one are read, one after another, and where one cannot be.
use Rattle.std.proofs.Common.{◌≡◌, ◌≢◌, ◌∙◌, ℕ, ◌+◌, ◌*◌, ◌<◌, ◌≤◌, List, [], ◌∷◌, ◌++◌, length, get_or, ap, sym, append-nil, append_assoc, length-append, arith}
use Rattle.byteorder.specs.Endian.{big_bytes}
use Rattle.byteorder.specs.Numbers.{length-bytes_high_first}
use Rattle.hose_graph.specs.Hose.{IsHose}
use Rattle.hose_graph.specs.Name.{IsName}
use Rattle.hose_graph.specs.declared.entry.Entry.{Entry}
use Rattle.hose_graph.specs.declared.entry.Entry.TheVariants.{Admit, Release, Down, Up}
use Rattle.hose_graph.specs.declared.limits.TheConstants.{MOST_EPOCH}
use Rattle.hose_graph.specs.steps.Ranges.{IsInRanges}
use Rattle.hose_codec.specs.declared.limits.TheConstants.{ADMIT, MOST_SPELLING, PAIR_BYTES, RELEASE}
use Rattle.hose_codec.specs.Fields.{name_field, pairs_field, ends_field, amounts_field, id_field, AreFormatAmounts}
use Rattle.hose_codec.specs.Limits.{up_kind}
use Rattle.hose_codec.specs.steps.Reading.{Begins, BeginsNone}
use Rattle.hose_codec.specs.Spelling.{spelling, IsEntry, IsSpelling}
use Rattle.hose_codec.specs.steps.Spelling.{IsNoSpelling}
use Rattle.hose_codec.proofs.Alone.{same_names, same_ends, same_amounts, same_links}
use Rattle.hose_codec.proofs.Lengths.{length-pairs_field}
use Rattle.hose_codec.proofs.Numbers.{same_numbers}

-- ---- entries of each kind

-- two entries whose spellings begin the same bytes
pub same_entries : (x y : Entry) (r s : List ℕ) → IsEntry x → IsEntry y → spelling x ++ r ≡ spelling y ++ s → (x ≡ y) × (r ≡ s)
same_entries (Admit customer hose amounts) (Admit client ends pairs) r s is_x is_y same =
    let rest : (name_field customer ++ (ends_field hose ++ amounts_field amounts)) ++ r ≡ (name_field client ++ (ends_field ends ++ amounts_field pairs)) ++ s = cc in
    let names = same_names customer client ((ends_field hose ++ amounts_field amounts) ++ r) ((ends_field ends ++ amounts_field pairs) ++ s)
    (sym (append_assoc (name_field customer) (ends_field hose ++ amounts_field amounts) r) ∙ rest ∙ append_assoc (name_field client) (ends_field ends ++ amounts_field pairs) s) in
    let hoses = same_ends hose ends (amounts_field amounts ++ r) (amounts_field pairs ++ s) is_x.1 is_y.1
    (sym (append_assoc (ends_field hose) (amounts_field amounts) r) ∙ names.1 ∙ append_assoc (ends_field ends) (amounts_field pairs) s) in
    let last = same_amounts amounts pairs r s is_x.2 is_y.2 hoses.1 in
    (λ i. Admit (names.0 i) (hoses.0 i) (last.0 i), last.1)
same_entries (Release customer id) (Release client other) r s is_x is_y same =
    let rest : (name_field customer ++ id_field id) ++ r ≡ (name_field client ++ id_field other) ++ s = cc in
    let names = same_names customer client (id_field id ++ r) (id_field other ++ s)
    (sym (append_assoc (name_field customer) (id_field id) r) ∙ rest ∙ append_assoc (name_field client) (id_field other) s) in
    let last = same_numbers 4 id other r s (omega (arith, is_x.1)) (omega (arith, is_y.1)) names.1 in
    (λ i. Release (names.0 i) (last.0 i), last.1)
same_entries (Down one) (Down other) r s is_x is_y same =
    let links = same_links one other r s is_x is_y cc in (ap Down links.0, links.1)
same_entries (Up one) (Up other) r s is_x is_y same =
    let links = same_links one other r s is_x is_y cc in (ap Up links.0, links.1)
same_entries x y r s is_x is_y same = absurd cc

pub length-admission : (customer : List ℕ) (hose amounts : List (ℕ × ℕ)) → length (spelling (Admit customer hose amounts)) ≡ 5 + length customer + PAIR_BYTES * (length hose + length amounts)
length-admission customer hose amounts =
    omega (
      arith,
      length-append (name_field customer) (ends_field hose ++ amounts_field amounts),
      length-append (ends_field hose) (amounts_field amounts),
      length-append (big_bytes 2 (length amounts)) (pairs_field amounts),
      length-bytes_high_first 2 (length amounts),
      length-pairs_field hose,
      length-pairs_field amounts,
    )

pub length-release : (customer : List ℕ) (id : ℕ) → length (spelling (Release customer id)) ≡ 6 + length customer
length-release customer id = omega (arith, length-append (name_field customer) (id_field id), length-bytes_high_first 4 id)

pub length-spelling : (entry : Entry) → IsEntry entry → length (spelling entry) ≤ MOST_SPELLING
length-spelling (Admit customer hose amounts) is =
    omega (arith, length-admission customer hose amounts, is.0.short, is.1.counted.few, is.2.fit.few)
length-spelling (Release customer id) is = omega (arith, length-release customer id, is.0.short)
length-spelling (Down link) is = omega (arith, length-bytes_high_first 2 link)
length-spelling (Up link) is = omega (arith, length-bytes_high_first 2 link)

-- what the format has is in its ranges
pub in_ranges : (entry : Entry) → IsEntry entry → IsInRanges entry
in_ranges (Admit customer hose amounts) is = is.2.fit
in_ranges (Release customer id) is = is.1
in_ranges (Down link) is = is
in_ranges (Up link) is = is

-- no spelling begins with a byte above those of the kinds
pub begins_below : (entry : Entry) (byte : ℕ) (r s : List ℕ) → up_kind < byte → spelling entry ++ r ≢ byte ∷ s
begins_below (Admit customer hose amounts) byte r s above same = omega (arith, above, ap (λ (l : List ℕ). get_or l 0 0) same)
begins_below (Release customer id) byte r s above same = omega (arith, above, ap (λ (l : List ℕ). get_or l 0 0) same)
begins_below (Down link) byte r s above same = omega (arith, above, ap (λ (l : List ℕ). get_or l 0 0) same)
begins_below (Up link) byte r s above same = omega (arith, above, ap (λ (l : List ℕ). get_or l 0 0) same)

abbrev IsId : ℕ → Type 0
IsId id = id ≤ MOST_EPOCH

-- ---- a release

-- what follows the name of a customer, where the bytes spell a release of another
after_name : (customer client fields more : List ℕ) → Begins name_field IsName customer fields more → (rest : List ℕ) → fields ≡ name_field client ++ rest → (customer ≡ client) × (more ≡ rest)
after_name customer client fields more begins rest parts = same_names customer client more rest (sym begins.parts ∙ parts)

pub no_id : (customer fields more : List ℕ) → Begins name_field IsName customer fields more → BeginsNone id_field IsId more → IsNoSpelling (RELEASE ∷ fields)
no_id customer fields more begins none (Release client id) is =
    let parts : fields ≡ name_field client ++ id_field id = let same = is.spelled in cc in
    let same = after_name customer client fields more begins (id_field id) parts in
    none id [] (record { may_be = is.is_entry.1; parts = same.1 ∙ sym (append-nil (id_field id)) })
no_id customer fields more begins none other is = absurd (let same = is.spelled in cc)

-- ---- an admission

pub no_ends : (customer fields more : List ℕ) → Begins name_field IsName customer fields more → BeginsNone ends_field IsHose more → IsNoSpelling (ADMIT ∷ fields)
no_ends customer fields more begins none (Admit client hose amounts) is =
    let parts : fields ≡ name_field client ++ (ends_field hose ++ amounts_field amounts) = let same = is.spelled in cc in
    let same = after_name customer client fields more begins (ends_field hose ++ amounts_field amounts) parts in
    none hose (amounts_field amounts) (record { may_be = is.is_entry.1; parts = same.1 })
no_ends customer fields more begins none other is = absurd (let same = is.spelled in cc)

pub no_amounts : (customer fields more rest : List ℕ) (ends : List (ℕ × ℕ)) → Begins name_field IsName customer fields more → Begins ends_field IsHose ends more rest → BeginsNone amounts_field AreFormatAmounts rest → IsNoSpelling (ADMIT ∷ fields)
no_amounts customer fields more rest ends begins then none (Admit client hose amounts) is =
    let parts : fields ≡ name_field client ++ (ends_field hose ++ amounts_field amounts) = let same = is.spelled in cc in
    let same = after_name customer client fields more begins (ends_field hose ++ amounts_field amounts) parts in
    let hoses = same_ends ends hose rest (amounts_field amounts) then.may_be is.is_entry.1 (sym then.parts ∙ same.1) in
    none amounts [] (record { may_be = is.is_entry.2; parts = hoses.1 ∙ sym (append-nil (amounts_field amounts)) })
no_amounts customer fields more rest ends begins then none other is = absurd (let same = is.spelled in cc)

-- the fields of an admission were read, and nothing follows
pub admission_spelled : (customer fields more rest last : List ℕ) (ends pairs : List (ℕ × ℕ)) → Begins name_field IsName customer fields more → Begins ends_field IsHose ends more rest
    → Begins amounts_field AreFormatAmounts pairs rest last → last ≡ [] → IsSpelling (Admit customer ends pairs) (ADMIT ∷ fields)
admission_spelled customer fields more rest last ends pairs begins then at_last nothing = record {
  is_entry = (begins.may_be, then.may_be, at_last.may_be);
  spelled =
      let amounts : rest ≡ amounts_field pairs = at_last.parts ∙ ap (λ (text : List ℕ). amounts_field pairs ++ text) nothing ∙ append-nil (amounts_field pairs) in
      let both : more ≡ ends_field ends ++ amounts_field pairs = then.parts ∙ ap (λ (text : List ℕ). ends_field ends ++ text) amounts in
      ap (λ (text : List ℕ). ADMIT ∷ text) (begins.parts ∙ ap (λ (text : List ℕ). name_field customer ++ text) both);
}

pub no_admission_end : (customer fields more rest last : List ℕ) (ends pairs : List (ℕ × ℕ)) → Begins name_field IsName customer fields more → Begins ends_field IsHose ends more rest
    → Begins amounts_field AreFormatAmounts pairs rest last → last ≢ [] → IsNoSpelling (ADMIT ∷ fields)
no_admission_end customer fields more rest last ends pairs begins then at_last some (Admit client hose amounts) is =
    let parts : fields ≡ name_field client ++ (ends_field hose ++ amounts_field amounts) = let same = is.spelled in cc in
    let same = after_name customer client fields more begins (ends_field hose ++ amounts_field amounts) parts in
    let hoses = same_ends ends hose rest (amounts_field amounts) then.may_be is.is_entry.1 (sym then.parts ∙ same.1) in
    some (same_amounts pairs amounts last [] at_last.may_be is.is_entry.2 (sym at_last.parts ∙ hoses.1 ∙ sym (append-nil (amounts_field amounts)))).1
no_admission_end customer fields more rest last ends pairs begins then at_last some other is = absurd (let same = is.spelled in cc)

-- ---- the whole

-- the bytes are the spelling of one entry, and no other begins them
pub only_entry : (entry other : Entry) (bytes rest : List ℕ) → IsSpelling entry bytes → IsEntry other → bytes ≡ spelling other ++ rest → (other ≡ entry) × (rest ≡ [])
only_entry entry other bytes rest is is_other begins =
    same_entries other entry rest [] is_other is.is_entry (sym begins ∙ is.spelled ∙ sym (append-nil (spelling entry)))

pub same_entry : (entry other : Entry) (bytes : List ℕ) → IsSpelling entry bytes → IsSpelling other bytes → entry ≡ other
same_entry entry other bytes is is_other =
    (only_entry other entry bytes [] is_other is.is_entry (is.spelled ∙ sym (append-nil (spelling entry)))).0
