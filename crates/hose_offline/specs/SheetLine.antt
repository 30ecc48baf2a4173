-- A line of a sheet of hoses that are to be priced, and what is answered to it.
use Rattle.std.specs.Prelude.{ℕ, ◌<◌, ◌≤◌, List, [], ◌∷◌, ◌++◌, codes, decimal, get_or, length, IsPermutation}
use Rattle.hose_words.specs.Shapes.{IsFirstWrong, Shape, Tells}
use Rattle.hose_words.specs.Words.{words_of}
use Rattle.hose_words.specs.Limits.{line_limit}
use Rattle.hose_graph.specs.Hose.{Endpoint}
use Rattle.hose_graph.specs.Network.{Network}
use Rattle.hose_price.specs.Pricing.{HasNoPricedPlan, IsPriceLine}
use Rattle.hose_price.specs.Sheet.{Sheet}
use Rattle.hose_price.specs.declared.priced.Price.{Price}
use Rattle.hose_proto.specs.Command.{ends_shape}
use Rattle.hose_proto.specs.Places.{IsHoseOf}
use Rattle.hose_offline.specs.ScriptLine.{customer_and}
use Rattle.hose_offline.specs.declared.sheet_answer.SheetAnswer.{SheetAnswer}
use Rattle.hose_offline.specs.declared.sheet_answer.SheetAnswer.TheVariants.{Priced, NoPlan, Bad, Long, Memory}

-- ---- what a line asks

-- a customer's name, and the endpoints of a hose
abbrev pub sheet_shape : Network → Shape
sheet_shape network = customer_and (ends_shape network)

-- The line's first word is the customer's name, and the words after it are the endpoints of a hose,
-- in any order.
abbrev pub IsPricing : Network → List ℕ → List ℕ → List Endpoint → Type 0
IsPricing network line customer hose = (ends : List Endpoint)
    × Tells (sheet_shape network) (words_of line) (customer, ends)
    × IsPermutation ends hose × IsHoseOf network hose

-- What is answered to a line of bytes: the prices of the hose that it asks for, or that there is no
-- plan of it; the first word that is not allowed, where it asks for none; that it is too long; or
-- that there was no memory for it.
abbrev pub AnswersSheet : Sheet → List ℕ → SheetAnswer → Type 0
AnswersSheet sheet bytes (Priced customer line) = (hose : List Endpoint)
    × (length bytes ≤ line_limit) × IsPricing sheet.network bytes customer hose
    × IsPriceLine sheet hose line
AnswersSheet sheet bytes (NoPlan customer) = (hose : List Endpoint)
    × (length bytes ≤ line_limit) × IsPricing sheet.network bytes customer hose
    × HasNoPricedPlan sheet.network hose
AnswersSheet sheet bytes (Bad word) = (length bytes ≤ line_limit)
    × IsFirstWrong (sheet_shape sheet.network) (words_of bytes) word
    × ((customer : List ℕ) (hose : List Endpoint) → ¬ IsPricing sheet.network bytes customer hose)
AnswersSheet sheet bytes Long = line_limit < length bytes
AnswersSheet sheet bytes Memory = length bytes ≤ line_limit

-- ---- how that is written

-- a tariff's name, what the hose costs under it, and the bounds of the cost
abbrev pub price_words : List ℕ → Price → List ℕ
price_words name price = codes " " ++ name ++ codes " " ++ decimal price.cost ++ codes " "
    ++ decimal price.low ++ codes " " ++ decimal price.high

-- the words of prices, of tariffs with these names, in order
abbrev pub prices_words : List (List ℕ) → List Price → List ℕ
prices_words [] prices = []
prices_words names [] = []
prices_words (name ∷ names) (price ∷ prices) = price_words name price ++ prices_words names prices

-- the text of an answer, where tariffs have these names
abbrev pub answer_text : List (List ℕ) → SheetAnswer → List ℕ
answer_text names (Priced customer line) = codes "price " ++ customer
    ++ prices_words names line.prices ++ codes " best " ++ get_or names line.best []
answer_text names (NoPlan customer) = codes "price " ++ customer ++ codes " none"
answer_text names (Bad word) = codes "bad " ++ decimal word
answer_text names Long = codes "long"
answer_text names Memory = codes "memory"
