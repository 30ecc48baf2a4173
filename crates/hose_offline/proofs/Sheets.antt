-- Lines of a sheet: what one says and is answered, and how prices are written.
use Rattle.std.proofs.Common.{◌≡◌, ◌∙◌, ℕ, ◌≤◌, List, [], ◌∷◌, ◌++◌, sym, ap, subst, arith, length, drop, get_or, map, take, ◌-◌}
use Rattle.std.proofs.lemmas.List.{take_rest}
use Rattle.hose_words.specs.Shapes.{IsFirstWrong}
use Rattle.hose_words.specs.Words.{words_of}
use Rattle.hose_words.specs.declared.lines.TheConstants.{LINE_LIMIT}
use Rattle.hose_graph.specs.Hose.{Endpoint}
use Rattle.hose_graph.specs.Network.{Network}
use Rattle.hose_price.specs.Sheet.{Sheet}
use Rattle.hose_price.specs.declared.priced.Price.{Price}
use Rattle.hose_offline.specs.SheetLine.{AnswersSheet, IsPricing, price_words, prices_words, sheet_shape}
use Rattle.hose_offline.specs.steps.SheetLine.{PricesHose}
use Rattle.hose_offline.specs.declared.sheet_answer.SheetAnswer.{SheetAnswer}
use Rattle.hose_offline.specs.declared.sheet_answer.SheetAnswer.TheVariants.{Priced, NoPlan, Bad, Long, Memory}

-- ---- one line

-- the first word that is not allowed is this one, and so the line asks for nothing
abbrev IsBadLine : Network → List ℕ → ℕ → Type 0
IsBadLine network bytes word = IsFirstWrong (sheet_shape network) (words_of bytes) word
    × ((customer : List ℕ) (hose : List Endpoint) → IsPricing network bytes customer hose → ⊥)

pub bad_shown : (network other : Network) (text bytes : List ℕ) (word : ℕ) → other ≡ network → text ≡ bytes → IsBadLine other text word → IsBadLine network bytes word
bad_shown network other text bytes word same is bad = subst (λ b. IsBadLine network b word) is (subst (λ (n : Network). IsBadLine n text word) same bad)

-- what is answered to a customer is answered to the line that asks for it
pub priced_shown : (sheet : Sheet) (other : Network) (text bytes customer : List ℕ) (hose : List Endpoint) (answer : SheetAnswer) → other ≡ sheet.network → text ≡ bytes → length bytes ≤ LINE_LIMIT → IsPricing other text customer hose
    → PricesHose sheet customer hose answer → AnswersSheet sheet bytes answer
priced_shown sheet other text bytes customer hose answer same is short asks = by answer
  where
    here : IsPricing sheet.network bytes customer hose
    here = subst (λ b. IsPricing sheet.network b customer hose) is (subst (λ (n : Network). IsPricing n text customer hose) same asks)

    by : (one : SheetAnswer) → PricesHose sheet customer hose one → AnswersSheet sheet bytes one
    by (Priced one line) prices = (hose, short, subst (λ (c : List ℕ). IsPricing sheet.network bytes c hose) (sym prices.0) here, prices.1)
    by (NoPlan one) prices = (hose, short, subst (λ (c : List ℕ). IsPricing sheet.network bytes c hose) (sym prices.0) here, prices.1)
    by (Bad word) prices = absurd prices
    by Long prices = absurd prices
    by Memory prices = short

-- ---- how prices are written

-- the prices of a list are that of the first tariff and those of the others
pub prices_split : {T : Type 0} (name_of : T → List ℕ) (tariffs : List T) (prices : List Price) (tariff : T) (d : Price) → 1 ≤ length tariffs → 1 ≤ length prices → tariff ≡ get_or tariffs 0 tariff
    → prices_words (map name_of tariffs) prices ≡ price_words (name_of tariff) (get_or prices 0 d) ++ prices_words (map name_of (take (length tariffs - 1) (drop 1 tariffs))) (take (length prices - 1) (drop 1 prices))
prices_split name_of [] prices tariff d some some' is = absurd (omega (arith, some))
prices_split name_of (t ∷ ts) [] tariff d some some' is = absurd (omega (arith, some'))
prices_split {T} name_of (t ∷ ts) (p ∷ ps) tariff d some some' is =
    ap (λ (one : T). price_words (name_of one) p ++ prices_words (map name_of ts) ps) (sym is)
    ∙ (ap (λ (more : List T). price_words (name_of tariff) p ++ prices_words (map name_of more) ps) (sym (take_rest (t ∷ ts) 1))
    ∙ ap (λ (more : List Price). price_words (name_of tariff) p ++ prices_words (map name_of (take (length (t ∷ ts) - 1) (drop 1 (t ∷ ts)))) more) (sym (take_rest (p ∷ ps) 1)))
