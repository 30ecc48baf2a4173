-- The words that tell which reply a line is differ.
use Rattle.std.proofs.Common.{◌≡◌, ℕ, List, map, refl, arith}
use Rattle.hose_words.specs.steps.Form.{Each}
use Rattle.hose_words.proofs.Forms.{AreApart, apart_by}
use Rattle.hose_words.proofs.Keywords.{choice_of}
use Rattle.hose_proto.specs.steps.Choices.{IsWordTable}
use Rattle.hose_proto.proofs.Words.{is_table}
use Rattle.hose_replies.specs.steps.Fields.{missing_word, service_word}
use Rattle.hose_replies.specs.steps.ReplyLines.{head_word}
use Rattle.hose_replies.specs.declared.head.EpochHead.{EpochHead}
use Rattle.hose_replies.specs.declared.head.EpochHead.TheVariants as epoch
use Rattle.hose_replies.specs.declared.head.Head.{Head}
use Rattle.hose_replies.specs.declared.head.Head.TheVariants as head
use Rattle.hose_replies.specs.declared.head.LoneHead.{LoneHead}
use Rattle.hose_replies.specs.declared.head.LoneHead.TheVariants as lone
use Rattle.hose_replies.specs.declared.head.Missing.{Missing}
use Rattle.hose_replies.specs.declared.head.Missing.TheVariants as missing
use Rattle.hose_replies.specs.declared.head.NumberHead.{NumberHead}
use Rattle.hose_replies.specs.declared.head.NumberHead.TheVariants as number
use Rattle.hose_replies.specs.declared.head.PlanHead.{PlanHead}
use Rattle.hose_replies.specs.declared.head.PlanHead.TheVariants as plan
use Rattle.hose_replies.specs.declared.head.Service.{Service}
use Rattle.hose_replies.specs.declared.head.Service.TheVariants as service
use Rattle.hose_replies.specs.declared.head.ServiceHead.{ServiceHead}
use Rattle.hose_replies.specs.declared.head.ServiceHead.TheVariants as by_service
use Rattle.hose_replies.specs.declared.head.TheConstants.{HEADS, MISSING, SERVICES}

-- the first word of a reply that a word is
abbrev pub head_of : List ℕ → Head
head_of word = choice_of head_word (map (λ row. row.0) HEADS) head.Refused word

epoch_of-word : (one : EpochHead) → head_of (head_word (head.Epoch one)) ≡ head.Epoch one
epoch_of-word epoch.Welcome = refl
epoch_of-word one = refl

number_of-word : (one : NumberHead) → head_of (head_word (head.Number one)) ≡ head.Number one
number_of-word number.Released = refl
number_of-word one = refl

service_head_of-word : (one : ServiceHead) → head_of (head_word (head.Service one)) ≡ head.Service one
service_head_of-word by_service.Down = refl
service_head_of-word one = refl

plan_of-word : (one : PlanHead) → head_of (head_word (head.Plan one)) ≡ head.Plan one
plan_of-word plan.Admitted = refl
plan_of-word one = refl

lone_of-word : (one : LoneHead) → head_of (head_word (head.Lone one)) ≡ head.Lone one
lone_of-word lone.Memory = refl
lone_of-word one = refl

pub head_of-word : (one : Head) → head_of (head_word one) ≡ one
head_of-word (head.Epoch one) = epoch_of-word one
head_of-word (head.Number one) = number_of-word one
head_of-word (head.Service one) = service_head_of-word one
head_of-word (head.Plan one) = plan_of-word one
head_of-word (head.Lone one) = lone_of-word one
head_of-word other = refl

pub heads_apart : AreApart Each head_word
heads_apart = apart_by head_of (λ one _. head_of-word one)

pub heads_told : IsWordTable head_word (map (λ row. (row.0, row.1.now)) HEADS)
heads_told = is_table head_word (map (λ row. (row.0, row.1.now)) HEADS) head.Refused refl head_of-word (λ P all. all 3 head.Refused (omega arith))

-- the word after `no` that a word is
abbrev pub missing_of : List ℕ → Missing
missing_of word = choice_of missing_word (map (λ row. row.0) MISSING) missing.Vpn word

pub missing_of-word : (one : Missing) → missing_of (missing_word one) ≡ one
missing_of-word missing.Vpn = refl
missing_of-word missing.Quote = refl

pub missing_apart : AreApart Each missing_word
missing_apart = apart_by missing_of (λ one _. missing_of-word one)

pub missing_told : IsWordTable missing_word (map (λ row. (row.0, row.1.now)) MISSING)
missing_told = is_table missing_word (map (λ row. (row.0, row.1.now)) MISSING) missing.Vpn refl missing_of-word (λ P all. all 0 missing.Vpn (omega arith))

-- the word after a link's load that a word is
abbrev pub service_of : List ℕ → Service
service_of word = choice_of service_word (map (λ row. row.0) SERVICES) service.Out word

service_of-word : (one : Service) → service_of (service_word one) ≡ one
service_of-word service.Out = refl
service_of-word service.At = refl

pub services_apart : AreApart Each service_word
services_apart = apart_by service_of (λ one _. service_of-word one)

pub services_told : IsWordTable service_word (map (λ row. (row.0, row.1.now)) SERVICES)
services_told = is_table service_word (map (λ row. (row.0, row.1.now)) SERVICES) service.Out refl service_of-word (λ P all. all 0 service.Out (omega arith))
