-- The quotes of customers, of whom one holds others now.
use Rattle.std.proofs.Common.{◌≡◌, ◌∙◌, ℕ, List, Bool, true, false, cond, Option, None, Some, refl, subst, sym, ap, unwrap_or}
use Rattle.std.specs.Prelude.{if◌then◌else◌}
use Rattle.std.specs.BTreeMap.{is_at}
use Rattle.std.specs.Cmp.Lexicographic.{slice_cmp}
use Rattle.std.specs.Map.{lookup}
use Rattle.std.specs.Ordering.{nat_cmp}
use Rattle.std.specs.Str.{bytes_eq}
use Rattle.std.proofs.lemmas.Map.Text.{is_eq-slice_cmp}
use Rattle.std.proofs.lemmas.Slice.Eq.{bytes_eq-Decides}
use Rattle.hose_law.proofs.Numbers.{at_none_held, with_none}
use Rattle.hose_law.specs.Quotes.{at_number, none_held, with_number}
use Rattle.hose_core.specs.steps.Holding.{HoldsNow, AllQuotes, quotes_in}
use Rattle.hose_core.specs.declared.quotes.Quote.{Quote}

-- what a map has at a name
abbrev pub found_at : AllQuotes → List ℕ → Option (List (Option Quote))
found_at all name = lookup (is_at (slice_cmp nat_cmp name)) all

-- the one value where it is chosen, else what there is
chosen : (here : Bool) (quotes none : List (Option Quote)) (found : Option (List (Option Quote)))
    → unwrap_or (cond here (Some quotes) found) none ≡ (if here then quotes else unwrap_or found none)
chosen true quotes none found = refl
chosen false quotes none found = refl

-- a map that has these quotes at a customer's name, and is else as before
pub holds_now : (old new : AllQuotes) (customer : List ℕ) (quotes : List (Option Quote))
    → ((name : List ℕ) → found_at new name ≡ cond (is_at (slice_cmp nat_cmp customer) name) (Some quotes) (found_at old name)) → HoldsNow old customer quotes new
holds_now old new customer quotes each name =
    ap (λ (found : Option (List (Option Quote))). unwrap_or found none_held) (each name)
    ∙ chosen (is_at (slice_cmp nat_cmp customer) name) quotes none_held (found_at old name)
    ∙ ap (λ (here : Bool). (if here then quotes else unwrap_or (found_at old name) none_held)) (is_eq-slice_cmp customer name)

-- where the quotes of a customer stay, all stay
pub holds_same : (old : AllQuotes) (customer : List ℕ) (quotes : List (Option Quote)) → quotes ≡ quotes_in old customer → HoldsNow old customer quotes old
holds_same old customer quotes same name = at (bytes_eq customer name) refl
  where
    at : (here : Bool) → here ≡ bytes_eq customer name → quotes_in old name ≡ (if here then quotes else quotes_in old name)
    at true is = sym (same ∙ ap (quotes_in old) ((bytes_eq-Decides customer name).0 (sym is)))
    at false is = refl

-- as of the map that a caller sees
pub held_in : (old was new : AllQuotes) (customer : List ℕ) (quotes : List (Option Quote)) → old ≡ was
    → ((name : List ℕ) → found_at new name ≡ cond (is_at (slice_cmp nat_cmp customer) name) (Some quotes) (found_at old name)) → HoldsNow was customer quotes new
held_in old was new customer quotes same each = subst (λ (q : AllQuotes). HoldsNow q customer quotes new) same (holds_now old new customer quotes each)

-- where a customer's quotes change at a number, and the others' stay
pub changed_at : (old was new : AllQuotes) (customer : List ℕ) (quotes changed : List (Option Quote)) (number : ℕ) (quote : Option Quote) → old ≡ was → quotes_in old customer ≡ quotes
    → changed ≡ with_number quotes number quote
    → ((name : List ℕ) → found_at new name ≡ cond (is_at (slice_cmp nat_cmp customer) name) (Some changed) (found_at old name))
    → HoldsNow was customer (with_number (quotes_in was customer) number quote) new
changed_at old was new customer quotes changed number quote same here is each =
    let holds = holds_now old new customer changed each in
    let now : changed ≡ with_number (quotes_in old customer) number quote = is ∙ ap (λ (q : List (Option Quote)). with_number q number quote) (sym here) in
    let there = subst (λ (q : List (Option Quote)). HoldsNow old customer q new) now holds in
    subst (λ (q : AllQuotes). HoldsNow q customer (with_number (quotes_in q customer) number quote) new) same there

-- where a customer holds nothing, nothing less is held
pub kept_at : (old was new : AllQuotes) (customer : List ℕ) (number : ℕ) → old ≡ was → new ≡ old → quotes_in old customer ≡ none_held → HoldsNow was customer (with_number (quotes_in was customer) number None) new
kept_at old was new customer number same is none =
    let empty : at_number (quotes_in old customer) number ≡ None = ap (λ (q : List (Option Quote)). at_number q number) none ∙ at_none_held number in
    let holds = holds_same old customer (with_number (quotes_in old customer) number None) (with_none (quotes_in old customer) number empty) in
    let there = subst (HoldsNow old customer (with_number (quotes_in old customer) number None)) (sym is) holds in
    subst (λ (q : AllQuotes). HoldsNow q customer (with_number (quotes_in q customer) number None) new) same there
