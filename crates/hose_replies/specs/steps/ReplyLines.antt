-- Replies as lines: which fields follow each first word, and the reply that they tell. Words tell a
-- reply exactly where they are those of its text.
use Rattle.std.specs.Prelude.{◌≡◌, ℕ, List, codes}
use Rattle.hose_words.specs.steps.Form.{Form, branch, Each, grammar_of}
use Rattle.hose_words.specs.steps.Grammar.{Grammar}
use Rattle.hose_graph.specs.Amounts.{ReservedLink}
use Rattle.hose_graph.specs.Network.{Network}
use Rattle.hose_graph.specs.declared.command.Reply.{Reply}
use Rattle.hose_graph.specs.declared.command.Reply.TheVariants.{Welcome, Admitted, Quoted, Refused, Stale, Released, NoVpn, NoQuote, TooMany, Shown, Vpns, Newest, LinkState, Down, Up, Already, Denied, Full, Spent, Disk, Memory, Bad, Long, Bye}
use Rattle.hose_proto.specs.ReplyWords.{reply_words}
use Rattle.hose_replies.specs.steps.Fields.{Fields, no_more, a_word, a_number, a_link, a_link_told, a_missing, a_service, the_amounts, the_nodes, the_ends, the_numbers, AreSound, HaveLists, Values, form_of}
use Rattle.hose_replies.specs.declared.head.EpochHead.{EpochHead}
use Rattle.hose_replies.specs.declared.head.EpochHead.TheVariants as epoch
use Rattle.hose_replies.specs.declared.head.Head.{Head}
use Rattle.hose_replies.specs.declared.head.Head.TheVariants as head
use Rattle.hose_replies.specs.declared.head.LoneHead.{LoneHead}
use Rattle.hose_replies.specs.declared.head.LoneHead.TheVariants as lone
use Rattle.hose_replies.specs.declared.head.Missing.{Missing}
use Rattle.hose_replies.specs.declared.head.Missing.TheVariants as missing
use Rattle.hose_replies.specs.declared.head.NumberHead.{NumberHead}
use Rattle.hose_replies.specs.declared.head.NumberHead.TheVariants as number
use Rattle.hose_replies.specs.declared.head.PlanHead.{PlanHead}
use Rattle.hose_replies.specs.declared.head.PlanHead.TheVariants as plan
use Rattle.hose_replies.specs.declared.head.ServiceHead.{ServiceHead}
use Rattle.hose_replies.specs.declared.head.ServiceHead.TheVariants as service

-- ---- the table

-- a line of a reply: its first word, the fields after it, and the reply that they tell
pub record ReplyLine : Type 0 where
  pub word : List ℕ
  pub fields : Fields
  pub told : Values fields → Reply

-- the first word and the reply of those that name an epoch alone
abbrev pub epoch_line : EpochHead → List ℕ × (ℕ → Reply)
epoch_line epoch.Welcome = (codes "welcome", Welcome)
epoch_line epoch.Denied = (codes "denied", Denied)
epoch_line epoch.Full = (codes "full", Full)
epoch_line epoch.Spent = (codes "spent", Spent)
epoch_line epoch.Disk = (codes "disk", Disk)

-- of those that name a VPN and an epoch
abbrev pub number_line : NumberHead → List ℕ × (ℕ → ℕ → Reply)
number_line number.Released = (codes "released", Released)
number_line number.Newest = (codes "newest", Newest)

-- of those that name a link and an epoch
abbrev pub service_line : ServiceHead → List ℕ × (ℕ → ℕ → Reply)
service_line service.Down = (codes "down", Down)
service_line service.Up = (codes "up", Up)
service_line service.Already = (codes "already", Already)

-- of those that tell a plan
abbrev pub plan_line : PlanHead → List ℕ × (ℕ → ℕ → ℕ → List ReservedLink → Reply)
plan_line plan.Admitted = (codes "admitted", Admitted)
plan_line plan.Quoted = (codes "quoted", Quoted)

-- of those of one word
abbrev pub lone_line : LoneHead → List ℕ × Reply
lone_line lone.Memory = (codes "memory", Memory)
lone_line lone.Long = (codes "long", Long)
lone_line lone.Bye = (codes "bye", Bye)

-- what there is none of, by its number
abbrev pub none_of : Missing → ℕ → ℕ → Reply
none_of missing.Vpn id at = NoVpn id at
none_of missing.Quote id at = NoQuote id at

-- `at N`
abbrev pub an_epoch : Fields
an_epoch = a_word (codes "at") (a_number no_more)

-- `ID cost C at N`, and the fields after that
abbrev pub a_cost : Fields → Fields
a_cost fields = a_number (a_word (codes "cost") (a_number (a_word (codes "at") (a_number fields))))

-- the line of each first word
abbrev pub reply_line : Head → ReplyLine
reply_line (head.Epoch one) = record {
  word = (epoch_line one).0;
  fields = an_epoch;
  told = λ values. (epoch_line one).1 values.0;
}
reply_line (head.Number one) = record {
  word = (number_line one).0;
  fields = a_number an_epoch;
  told = λ values. (number_line one).1 values.0 values.1.0;
}
reply_line (head.Service one) = record {
  word = (service_line one).0;
  fields = a_link an_epoch;
  told = λ values. (service_line one).1 values.0 values.1.0;
}
reply_line (head.Plan one) = record {
  word = (plan_line one).0;
  fields = a_cost (a_word (codes "links") the_amounts);
  told = λ values. (plan_line one).1 values.0 values.1.0 values.1.1.0 values.1.1.1;
}
reply_line (head.Lone one) = record {
  word = (lone_line one).0;
  fields = no_more;
  told = λ values. (lone_line one).1;
}
reply_line head.Refused = record {
  word = codes "refused";
  fields = a_word (codes "at") (a_number (a_word (codes "side") the_nodes));
  told = λ values. Refused values.0 values.1;
}
reply_line head.Stale = record {
  word = codes "stale";
  fields = a_number (a_number no_more);
  told = λ values. Stale values.0 values.1.0;
}
reply_line head.No = record {
  word = codes "no";
  fields = a_missing (a_number an_epoch);
  told = λ values. none_of values.0 values.1.0 values.1.1.0;
}
reply_line head.Too = record {
  word = codes "too";
  fields = a_word (codes "many") (a_word (codes "quotes") an_epoch);
  told = λ values. TooMany values.0;
}
reply_line head.Vpn = record {
  word = codes "vpn";
  fields = a_cost (a_word (codes "ends") (the_ends the_amounts));
  told = λ values. Shown values.0 values.1.0 values.1.1.0 values.1.1.1.0 values.1.1.1.1;
}
reply_line head.Vpns = record {
  word = codes "vpns";
  fields = the_numbers (a_number no_more);
  told = λ values. Vpns values.1.0 values.0;
}
reply_line head.Link = record {
  word = codes "link";
  fields = a_link_told (a_word (codes "load") (a_number (a_service (a_number no_more))));
  told = λ values. LinkState values.0 values.1.0 values.1.1.0 values.1.1.1.0;
}
reply_line head.Bad = record {
  word = codes "bad";
  fields = a_number no_more;
  told = λ values. Bad values.0;
}

-- the first word of a reply
abbrev pub head_word : Head → List ℕ
head_word head = (reply_line head).word

-- the fields after the first word of a reply
abbrev pub head_fields : Head → Fields
head_fields head = (reply_line head).fields

-- the reply that the fields after a first word tell
abbrev pub reply_told : (head : Head) → Values (head_fields head) → Reply
reply_told head values = (reply_line head).told values

-- ---- what words tell

-- A reply is that of a line, by what its fields tell.
pub record HasLine (reply : Reply) : Type 0 where
  pub head : Head
  pub values : Values (head_fields head)
  pub is : reply ≡ reply_told head values

-- A reply is of a network: it has a line, whose numbers fit 64 bits, and whose places are those of
-- the network.
pub record IsOfKind (network : Network) (reply : Reply) : Type 0 where
  pub line : HasLine reply
  pub sound : AreSound network (head_fields line.head) line.values

-- words tell a reply of a network: they are those of its text
pub record IsReply (network : Network) (words : List (List ℕ)) (reply : Reply) : Type 0 where
  pub of_kind : IsOfKind network reply
  pub spelled : words ≡ reply_words network reply

-- ---- what is not allowed

-- what may stand after the first word
abbrev pub head_form : Network → Head → Form
head_form network head = form_of network (head_fields head)

-- a reply
abbrev pub reply_form : Network → Form
reply_form network = branch Each head_word (head_form network)

-- the grammar of replies
abbrev pub reply_grammar : Network → Grammar
reply_grammar network = grammar_of (reply_form network)

-- the replies that have lists, and that take memory to read
abbrev pub HasLists : Head → Type 0
HasLists head = HaveLists (head_fields head)
