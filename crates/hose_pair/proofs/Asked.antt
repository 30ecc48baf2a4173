-- What a host answers in the run that meets what `law_standby` supposes: a greeting, and one order.
use Rattle.std.proofs.Common.{◌≡◌, ℕ, ◌<◌, ◌≤◌, Bool, true, false, List, [], ◌∷◌, All, None, Some, codes, decimal, length, refl, ap, sym, ◌∙◌, arith}
use Rattle.std.specs.Fmt.{digits}
use Rattle.std.proofs.lemmas.List.Elements.{All-cons, All-nil}
use Rattle.hose_graph.specs.Limits.{operator}
use Rattle.hose_graph.specs.Name.{IsName, is_name_byte}
use Rattle.hose_graph.specs.Network.{Network}
use Rattle.hose_graph.specs.declared.command.Command.TheVariants.{Down as DownCommand}
use Rattle.hose_graph.specs.declared.command.Reply.TheVariants.{Down as IsDown, Welcome}
use Rattle.hose_graph.specs.declared.entry.Entry.{Entry}
use Rattle.hose_graph.specs.declared.entry.Entry.TheVariants.{Down as DownEntry}
use Rattle.hose_law.specs.Quotes.{none_held}
use Rattle.hose_law.specs.Transcript.SessionLine.{Asks, Greets}
use Rattle.hose_law.specs.Transcript.Stage.{Serving}
use Rattle.hose_net.specs.Story.{Exchange, Link}
use Rattle.hose_words.specs.Words.{words_of}
use Rattle.hose_words.proofs.Spaced.{IsWord-known, words_of-line}
use Rattle.hose_proto.proofs.Words.{verb_of}
use Rattle.hose_lead.specs.Leading.{AnswersBehind, Leads}
use Rattle.hose_clerk.specs.HostLines.{HostLine, SaysAt}
use Rattle.hose_clerk.specs.HostLines.HostLine.{Speaks}
use Rattle.hose_clerk.specs.Hosting.{AreHostSteps, HostState, IsHostStep, LeadsAt, LeadsBy, host_from, needed, with_stage}
use Rattle.hose_clerk.specs.Tally.{no_tally, tally_with}
use Rattle.hose_clerk.specs.declared.doors.DoorRule.TheVariants.{Any}
use Rattle.hose_clerk.specs.declared.replies.HostReply.{HostReply}
use Rattle.hose_clerk.specs.declared.replies.HostReply.TheVariants.{Told as Tells}
use Rattle.hose_pair.proofs.Lines.{NoFeed, known}

abbrev pub Asked : Type 0
Asked = Exchange HostLine HostReply

-- the order that is entered
abbrev pub order : Entry
order = DownEntry 0

-- the host after the greeting, and after the order
abbrev pub at_greeted : HostState
at_greeted = record {
  history = [];
  stages = with_stage (host_from []).stages 0 (Serving operator none_held);
  ended = false;
  tally = tally_with (Tells (Welcome 0)) no_tally;
}

abbrev pub at_ordered : HostState
at_ordered = record {
  history = order ∷ [];
  stages = with_stage at_greeted.stages 0 (Serving operator none_held);
  ended = false;
  tally = tally_with (Tells (IsDown 0 1)) at_greeted.tally;
}

-- how much has to be heard for each
abbrev pub first_needs : Bool → ℕ
first_needs required = needed required at_greeted

abbrev pub order_needs : Bool → ℕ
order_needs required = needed required at_ordered

abbrev pub greeting : Bool → Asked
greeting required = record {
  place = 0;
  door = 0;
  first = true;
  line = codes "hello operator";
  said = Speaks (Greets operator);
  reply = Tells (Welcome 0);
  needs = first_needs required;
}

abbrev pub ordering : Bool → Asked
ordering required = record {
  place = 0;
  door = 0;
  first = false;
  line = codes "down 0";
  said = Speaks (Asks (DownCommand 0));
  reply = Tells (IsDown 0 1);
  needs = order_needs required;
}

abbrev pub both : Bool → List Asked
both required = greeting required ∷ ordering required ∷ []

pub greeting_plain : NoFeed (codes "hello operator")
greeting_plain = known (codes "hello operator") refl

pub order_plain : NoFeed (codes "down 0")
order_plain = known (codes "down 0") refl

pub needs_grow : (required : Bool) → first_needs required ≤ order_needs required
needs_grow true = omega arith
needs_grow false = omega arith

-- ---- what they say

named : (bytes : List ℕ) → All (λ byte. is_name_byte byte ≡ true) bytes → 1 ≤ length bytes → length bytes ≤ 16 → IsName bytes
named bytes all some short = record { some = some; short = short; allowed = all }

abbrev Fits : ℕ → Type 0
Fits byte = is_name_byte byte ≡ true

fits : All Fits operator
fits = All-cons Fits 111 (codes "perator") refl (All-cons Fits 112 (codes "erator") refl (All-cons Fits 101 (codes "rator") refl (All-cons Fits 114 (codes "ator") refl
    (All-cons Fits 97 (codes "tor") refl (All-cons Fits 116 (codes "or") refl (All-cons Fits 111 (codes "r") refl (All-cons Fits 114 [] refl (All-nil Fits))))))))

operator_named : IsName operator
operator_named = named operator fits (omega arith) (omega arith)

greeting_words : words_of (codes "hello operator") ≡ codes "hello" ∷ operator ∷ []
greeting_words = words_of-line (codes "hello operator") (codes "hello" ∷ operator ∷ []) refl (IsWord-known (codes "hello") refl (omega arith), (IsWord-known operator refl (omega arith), tt))

pub greeting_says : (network : Network) → SaysAt network (Any ∷ []) true 0 (codes "hello operator") (Speaks (Greets operator))
greeting_says network = (omega arith, record { are = greeting_words; may = (refl, (record { is_name = operator_named; may_greet = tt }, tt)) })

zero_text : decimal 0 ≡ codes "0"
unfolding digits
zero_text = refl

order_words : words_of (codes "down 0") ≡ codes "down" ∷ decimal 0 ∷ []
order_words =
    words_of-line (codes "down 0") (codes "down" ∷ codes "0" ∷ []) refl (IsWord-known (codes "down") refl (omega arith), (IsWord-known (codes "0") refl (omega arith), tt))
    ∙ ap (λ (word : List ℕ). codes "down" ∷ word ∷ []) (sym zero_text)

pub order_says : (network : Network) → 0 < length network.links → SaysAt network (Any ∷ []) false 0 (codes "down 0") (Speaks (Asks (DownCommand 0)))
order_says network some = (omega arith, ((verb_of (codes "down"), (0, tt)), record { are = order_words; may = (tt, (some, tt)) }, refl))

-- ---- what they lead to

greeted : (network : Network) (required : Bool) → IsHostStep network required (greeting required) (host_from []) at_greeted
greeted network required = record {
  goes_on = refl;
  after = Serving operator none_held;
  answer = (refl, refl, refl);
  stages = refl;
  ended = refl;
  tally = refl;
  needs = refl;
}

ordered : (network : Network) (required : Bool) → 0 < length network.links → IsHostStep network required (ordering required) at_greeted at_ordered
ordered network required some = record {
  goes_on = refl;
  after = Serving operator none_held;
  answer = (none_held, (Some order, (((refl, (omega arith, (some, refl), refl, refl, refl)), refl), refl)), refl);
  stages = refl;
  ended = refl;
  tally = refl;
  needs = refl;
}

pub first_step : (network : Network) (required : Bool) → IsHostStep network required (greeting required) (host_from []) at_greeted
first_step network required = greeted network required

pub next_step : (network : Network) (required : Bool) → 0 < length network.links → IsHostStep network required (ordering required) at_greeted at_ordered
next_step network required some = ordered network required some

pub both_steps : (network : Network) (required : Bool) → 0 < length network.links → AreHostSteps network required (both required) (host_from []) at_ordered
both_steps network required some = (at_greeted, greeted network required, (at_ordered, ordered network required some, refl))

-- ---- what is heard

pub leads_none : (network : Network) (required : Bool) (all : List Asked) (link : Link) → LeadsAt network required [] all link None → LeadsBy network required [] all link None
leads_none network false all link leads = leads
leads_none network true all link leads = leads

-- before any line
pub hears_first : (network : Network) (required : Bool) (link : Link) → Leads network [] link.given link.sent (Some 0) → AnswersBehind network [] link.given (link.early 0) → LeadsBy network required [] [] link (Some 0)
hears_first network false link leads behind = (host_from [], refl, leads)
hears_first network true link leads behind = record {
  earlier = [];
  later = [];
  split = refl;
  past = host_from [];
  state = host_from [];
  before = refl;
  after = refl;
  count = 0;
  leads = leads;
  lines = refl;
  had = omega arith;
  behind = behind;
}

-- behind the order
pub hears_order : (network : Network) (required : Bool) (link : Link) → 0 < length network.links → Leads network (order ∷ []) link.given link.sent (Some 1) → AnswersBehind network (order ∷ []) link.given (link.early 2) → LeadsBy network required [] (both required) link (Some (order_needs required))
hears_order network false link some leads behind = (at_ordered, both_steps network false some, leads)
hears_order network true link some leads behind = record {
  earlier = both true;
  later = [];
  split = refl;
  past = at_ordered;
  state = at_ordered;
  before = both_steps network true some;
  after = refl;
  count = 1;
  leads = leads;
  lines = refl;
  had = omega arith;
  behind = behind;
}
