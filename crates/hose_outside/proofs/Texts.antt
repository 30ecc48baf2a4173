-- A text of a cabinet as a stream of bytes.
use Rattle.std.proofs.Common.{◌≡◌, ◌∙◌, ℕ, ◌+◌, ◌-◌, ◌≤◌, List, ◌++◌, length, take, drop, Bool, true, false, Option, Some, None, IsSome, IsTrue, Result, refl, sym, ap, subst, arith}
use Rattle.std.proofs.lemmas.List.{drop-take, drop_all, length-take, take-append-drop, take-append-le}
use Rattle.std.proofs.Math.Seq.{take-add, take-take, drop-drop}
use Rattle.hose_io.specs.Stream.{Gives, IsAtEnd}
use Rattle.hose_words.specs.declared.lines.TheConstants.{INPUT_LIMIT}
use Rattle.hose_disk.specs.Cabinet.{Has}
use Rattle.hose_disk.specs.steps.Cabinet.{IsTextAt, IsTextCall, absent_after}
use Rattle.hose_disk.specs.declared.cabinet.Cabinet.{Ghosts}
use Rattle.hose_io.specs.declared.Failed.{Failed}
use Rattle.hose_io.proofs.Frames.{Stays-none, Stays-next}
use Rattle.hose_outside.specs.CabinetText.{OnlyTextsRead, stream_at, text_stream}
use Rattle.hose_outside.specs.steps.CabinetText.{HasAsked, TextState}

-- nothing is left of what can be read
pub at_limit : (from : ℕ) (tells : Bool) (found : Option (List ℕ)) → INPUT_LIMIT + 1 ≤ from → IsAtEnd (stream_at from tells found)
at_limit from true (Some bytes) long = drop_all from (take (INPUT_LIMIT + 1) bytes) (omega (arith, long, length-take (INPUT_LIMIT + 1) bytes))
at_limit from true None long = tt
at_limit from false found long = tt

-- no byte comes only at the end of a text
pub at_end : (from count : ℕ) (got : List ℕ) (tells : Bool) (found : Option (List ℕ)) → Has tells found (λ bytes. IsTextAt from count bytes got) → count ≡ 0 → IsAtEnd (stream_at from tells found)
at_end from count got true (Some bytes) read none =
    let is = read refl in
    let same : is.0 ≡ bytes = cc is.1 in
    drop_all from (take (INPUT_LIMIT + 1) bytes) (omega (arith, (subst (λ (b : List ℕ). IsTextAt from count b got) same is.2).none_only_at_end none, length-take (INPUT_LIMIT + 1) bytes))
at_end from count got true None read none = tt
at_end from count got false found read none = tt

-- what was read stands so in a cabinet that has the same texts, and at the front of all that was
-- read into
pub read_before : (from count : ℕ) (got more : List ℕ) (tells : Bool) (found : Option (List ℕ)) → count ≤ length got → Has tells found (λ bytes. IsTextAt from count bytes got) → Has tells found (λ bytes. IsTextAt from count bytes (got ++ more))
read_before from count got more tells found room read = λ told.
    let is = read told in
    (is.0, is.1, record { bytes_there = take-append-le count got more room ∙ is.2.bytes_there; none_only_at_end = is.2.none_only_at_end })

front_of : (from count : ℕ) (bytes : List ℕ) → from + count ≤ INPUT_LIMIT + 1 → take count (drop from (take (INPUT_LIMIT + 1) bytes)) ≡ take count (drop from bytes)
front_of from count bytes fits =
    let more : ℕ = INPUT_LIMIT + 1 - (from + count) in
    let whole : INPUT_LIMIT + 1 ≡ from + (count + more) = omega (arith, fits) in
    ap (λ (n : ℕ). take count (drop from (take n bytes))) whole
    ∙ (ap (take count) (drop-take from (count + more) bytes) ∙ take-take count (count + more) (drop from bytes) (omega arith))

-- so many more bytes of a text were read
pub gives_text : (from count : ℕ) (got : List ℕ) (tells : Bool) (found : Option (List ℕ)) → Has tells found (λ bytes. IsTextAt from count bytes got) → from + count ≤ INPUT_LIMIT + 1 → Gives (stream_at from tells found) (stream_at (from + count) tells found) (take count got)
gives_text from count got true (Some bytes) read fits =
    let front = take (INPUT_LIMIT + 1) bytes in
    let is = read refl in
    let same : is.0 ≡ bytes = cc is.1 in
    let here : take count got ≡ take count (drop from front) = (subst (λ (b : List ℕ). IsTextAt from count b got) same is.2).bytes_there ∙ sym (front_of from count bytes fits) in
    record {
      taken = take-add from count front ∙ ap (λ (t : List ℕ). take from front ++ t) (sym here);
      left = sym (take-append-drop count (drop from front)) ∙ (ap (λ (t : List ℕ). t ++ drop count (drop from front)) (sym here) ∙ ap (λ (t : List ℕ). take count got ++ t) (drop-drop count from front));
    }
gives_text from count got true None read fits = tt
gives_text from count got false found read fits = tt

-- ---- what is behind a text

module _ {C E : Type 0} (cabinet : Ghosts C E) where
  -- a text is as it was, where only texts were asked for
  pub same_stream : (was now : C) (name : List ℕ) (from : ℕ) → OnlyTextsRead cabinet was now → text_stream cabinet now name from ≡ text_stream cabinet was name from
  same_stream was now name from only = rw (only.texts, only.tells) refl

  -- nothing was asked
  pub HasAsked-none : (text : TextState C) → HasAsked cabinet text text
  HasAsked-none text = record {
    name = refl;
    only_texts = record { texts = refl; disks = refl; stays = Stays-none _; returned = refl; out = refl; tells = refl };
    absent = λ _. refl;
  }

  -- one call after others
  pub HasAsked-next : (a b c : TextState C) → HasAsked cabinet a b → HasAsked cabinet b c → HasAsked cabinet a c
  HasAsked-next a b c p q = record {
    name = q.name ∙ p.name;
    only_texts = record {
      texts = q.only_texts.texts ∙ p.only_texts.texts;
      disks = q.only_texts.disks ∙ p.only_texts.disks;
      stays = Stays-next p.only_texts.stays q.only_texts.stays;
      returned = q.only_texts.returned ∙ p.only_texts.returned;
      out = q.only_texts.out ∙ p.only_texts.out;
      tells = q.only_texts.tells ∙ p.only_texts.tells;
    };
    absent = λ told. q.absent (p.only_texts.tells ∙ told) ∙ p.absent told;
  }

  still_absent : (found : Option (List ℕ)) (absent : ℕ) → IsSome found → absent_after found absent ≡ absent
  still_absent None absent there = absurd (cc there)
  still_absent (Some bytes) absent there = refl

  -- one call for a text
  pub texts_read : {T : Type 0} (was now : C) (result : Result T Failed) → cabinet.text now ≡ cabinet.text was → cabinet.held now ≡ cabinet.held was → IsTextCall (cabinet.frame was) (cabinet.frame now) result → OnlyTextsRead cabinet was now
  texts_read was now result texts disks call = record { texts = texts; disks = disks; stays = call.met.stays; returned = call.returned; out = call.out; tells = call.tells }

  -- one call has asked the cabinet for the text of a name, and done no more
  pub asked_once : {T : Type 0} (was now : TextState C) (result : Result T Failed) → now.name ≡ was.name → cabinet.text now.cabinet.now ≡ cabinet.text was.cabinet.now → cabinet.held now.cabinet.now ≡ cabinet.held was.cabinet.now
      → IsTextCall (cabinet.frame was.cabinet.now) (cabinet.frame now.cabinet.now) result
      → (IsTrue (cabinet.frame was.cabinet.now).tells → (cabinet.frame now.cabinet.now).absent ≡ absent_after (cabinet.text was.cabinet.now was.name) (cabinet.frame was.cabinet.now).absent)
      → (IsTrue (cabinet.frame was.cabinet.now).tells → IsSome (cabinet.text was.cabinet.now was.name)) → HasAsked cabinet was now
  asked_once was now result name texts disks call absent there = record {
    name = name;
    only_texts = texts_read was.cabinet.now now.cabinet.now result texts disks call;
    absent = λ told. absent told ∙ still_absent _ _ (there told);
  }
