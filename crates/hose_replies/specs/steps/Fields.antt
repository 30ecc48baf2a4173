-- Lines as data: the fields that may stand from some word of a line on, and what is so of each:
-- what it tells, the words that tell it, when these are sound, and their grammar.
use Rattle.std.specs.Prelude.{◌≡◌, ℕ, ◌≤◌, Bool, true, false, List, [], ◌∷◌, ◌++◌, ⊤, All, length, map, codes, decimal, slice_get}
use Rattle.std.specs.List.Sorted.{IsStrictlyIncreasing}
use Rattle.hose_words.specs.steps.Form.{Form, Each, finish, branch, list, until, this, number, these}
use Rattle.hose_words.specs.Numbers.{Fits64}
use Rattle.hose_graph.specs.Amounts.{ReservedLink, amount_of, link_of}
use Rattle.hose_graph.specs.Ascending.{firsts}
use Rattle.hose_graph.specs.Hose.{Endpoint}
use Rattle.hose_graph.specs.Limits.{least_ends, most_ends}
use Rattle.hose_graph.specs.Network.{Network, name_of, IsLinkOf, IsNodeOf}
use Rattle.hose_proto.specs.Places.{IsHoseOf, end_word}
use Rattle.hose_proto.specs.ReplyWords.{pair_word, words_of_link}
use Rattle.hose_proto.specs.steps.Places.{IsEndOf}
use Rattle.hose_replies.specs.declared.head.Missing.{Missing}
use Rattle.hose_replies.specs.declared.head.Missing.TheVariants as missing
use Rattle.hose_replies.specs.declared.head.Service.{Service}
use Rattle.hose_replies.specs.declared.head.Service.TheVariants as service

-- ---- the words of choices

-- what there is none of
abbrev pub missing_word : Missing → List ℕ
missing_word missing.Vpn = codes "vpn"
missing_word missing.Quote = codes "quote"

-- the word after a link's load, which tells whether the link is out of service
abbrev pub service_word : Service → List ℕ
service_word service.Out = codes "out"
service_word service.At = codes "at"

-- ---- lists that can be read

-- items of which each is so, and whose numbers ascend
pub record AreAscending {A : Type 0} (numbers_of : List A → List ℕ) (is : A → Type 0)
    (items : List A) : Type 0 where
  pub ascending : IsStrictlyIncreasing (numbers_of items)
  pub each : All is items

-- an amount on a link of the network
pub record IsAmountOf (network : Network) (amount : ReservedLink) : Type 0 where
  pub link : IsLinkOf network (link_of amount)
  pub fits : Fits64 (amount_of amount)

-- amounts on links of the network, in ascending order of links
abbrev pub AreAmounts : Network → List ReservedLink → Type 0
AreAmounts network amounts = AreAscending firsts (IsAmountOf network) amounts

-- nodes of the network, in ascending order
abbrev pub IsSide : Network → List ℕ → Type 0
IsSide network side = AreAscending (λ nodes. nodes) (IsNodeOf network) side

-- numbers that 64 bits hold, in ascending order
abbrev pub AreNumbers : List ℕ → Type 0
AreNumbers numbers = AreAscending (λ each. each) Fits64 numbers

-- endpoints of a hose that may have more of them: nodes in ascending order
pub record AreEnds (network : Network) (ends : List Endpoint) : Type 0 where
  pub few : length ends ≤ most_ends
  pub in_order : AreAscending firsts (IsEndOf network) ends

-- ---- fields

-- the fields of a line from some word on
pub data Fields : Type 0 where
  -- nothing more
  no_more : Fields
  -- this word
  a_word : List ℕ → Fields → Fields
  -- a number that 64 bits hold
  a_number : Fields → Fields
  -- the number of a link
  a_link : Fields → Fields
  -- the number of a link, and what the network tells of the link
  a_link_told : Fields → Fields
  -- what there is none of
  a_missing : Fields → Fields
  -- `out at` where a link is out of service, and else `at`
  a_service : Fields → Fields
  -- amounts on links, to the end of the line
  the_amounts : Fields
  -- nodes by their names, to the end of the line
  the_nodes : Fields
  -- the endpoints of a hose, and the word `links` after them
  the_ends : Fields → Fields
  -- numbers in ascending order, and the word `at` after them
  the_numbers : Fields → Fields

-- what fields tell
abbrev pub Values : Fields → Type 0
Values no_more = ⊤
Values (a_word known fields) = Values fields
Values (a_number fields) = ℕ × Values fields
Values (a_link fields) = ℕ × Values fields
Values (a_link_told fields) = ℕ × Values fields
Values (a_missing fields) = Missing × Values fields
Values (a_service fields) = Bool × Values fields
Values the_amounts = List ReservedLink
Values the_nodes = List ℕ
Values (the_ends fields) = List Endpoint × Values fields
Values (the_numbers fields) = List ℕ × Values fields

-- the words of fields that tell this
abbrev pub words_told : Network → (fields : Fields) → Values fields → List (List ℕ)
words_told network no_more values = []
words_told network (a_word known fields) values = known ∷ words_told network fields values
words_told network (a_number fields) (value, values) =
    decimal value ∷ words_told network fields values
words_told network (a_link fields) (link, values) = decimal link ∷ words_told network fields values
words_told network (a_link_told fields) (link, values) =
    decimal link ∷ words_of_link network (slice_get network.links link)
    ++ words_told network fields values
words_told network (a_missing fields) (kind, values) =
    missing_word kind ∷ words_told network fields values
words_told network (a_service fields) (true, values) =
    codes "out" ∷ codes "at" ∷ words_told network fields values
words_told network (a_service fields) (false, values) =
    codes "at" ∷ words_told network fields values
words_told network the_amounts amounts = map pair_word amounts
words_told network the_nodes side = map (name_of network) side
words_told network (the_ends fields) (hose, values) =
    map (end_word network) hose ++ codes "links" ∷ words_told network fields values
words_told network (the_numbers fields) (numbers, values) =
    map decimal numbers ++ codes "at" ∷ words_told network fields values

-- ---- when they are sound, and their grammar

-- numbers that are told fit 64 bits, and places are those of the network
abbrev pub AreSound : Network → (fields : Fields) → Values fields → Type 0
AreSound network no_more values = ⊤
AreSound network (a_word known fields) values = AreSound network fields values
AreSound network (a_number fields) (value, values) = Fits64 value × AreSound network fields values
AreSound network (a_link fields) (link, values) =
    IsLinkOf network link × AreSound network fields values
AreSound network (a_link_told fields) (link, values) =
    IsLinkOf network link × AreSound network fields values
AreSound network (a_missing fields) (kind, values) = AreSound network fields values
AreSound network (a_service fields) (out, values) = AreSound network fields values
AreSound network the_amounts amounts = (1 ≤ length amounts) × AreAmounts network amounts
AreSound network the_nodes side = (1 ≤ length side) × IsSide network side
AreSound network (the_ends fields) (hose, values) =
    IsHoseOf network hose × AreSound network fields values
AreSound network (the_numbers fields) (numbers, values) =
    AreNumbers numbers × AreSound network fields values

-- what may stand after the word that tells whether a link is out of service
abbrev pub after_service : Form → Service → Form
after_service form service.Out = this (codes "at") form
after_service form service.At = form

-- the grammar of fields
abbrev pub form_of : Network → Fields → Form
form_of network no_more = finish
form_of network (a_word known fields) = this known (form_of network fields)
form_of network (a_number fields) = number (form_of network fields)
form_of network (a_link fields) = branch (IsLinkOf network) decimal (λ _. form_of network fields)
form_of network (a_link_told fields) =
    branch (IsLinkOf network) decimal (λ link.
    these (words_of_link network (slice_get network.links link)) (form_of network fields))
form_of network (a_missing fields) = branch Each missing_word (λ _. form_of network fields)
form_of network (a_service fields) =
    branch Each service_word (after_service (form_of network fields))
form_of network the_amounts = list pair_word (AreAmounts network) 1
form_of network the_nodes = list (name_of network) (IsSide network) 1
form_of network (the_ends fields) =
    until (end_word network) (AreEnds network) least_ends (codes "links") (form_of network fields)
form_of network (the_numbers fields) =
    until decimal AreNumbers 0 (codes "at") (form_of network fields)

-- words are those of fields that tell this, which is sound
pub record FieldsTell (network : Network) (fields : Fields) (values : Values fields)
    (words : List (List ℕ)) : Type 0 where
  pub sound : AreSound network fields values
  pub spelled : words ≡ words_told network fields values

-- fields that have lists, which take memory to read
abbrev pub HaveLists : Fields → Type 0
HaveLists no_more = ⊥
HaveLists (a_word known fields) = HaveLists fields
HaveLists (a_number fields) = HaveLists fields
HaveLists (a_link fields) = HaveLists fields
HaveLists (a_link_told fields) = HaveLists fields
HaveLists (a_missing fields) = HaveLists fields
HaveLists (a_service fields) = HaveLists fields
HaveLists the_amounts = ⊤
HaveLists the_nodes = ⊤
HaveLists (the_ends fields) = ⊤
HaveLists (the_numbers fields) = ⊤
