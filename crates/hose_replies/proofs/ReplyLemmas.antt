-- Words tell one reply at most, and those of a reply's text tell it; then none of them is wrong.
use Rattle.std.proofs.Common.{◌≡◌, ◌⊎◌, ◌∙◌, ℕ, true, false, List, [], ◌∷◌, Result, Ok, Err, IfOk, IfErr, get_or, drop, inl, inr, refl, sym, ap, subst}
use Rattle.std.proofs.lemmas.Result.{IfErr-at_err}
use Rattle.hose_words.specs.steps.Cursor.{Position}
use Rattle.hose_words.specs.steps.Grammar.{IsFirstNotAllowed}
use Rattle.hose_words.specs.Words.{words_of}
use Rattle.hose_words.proofs.Forms.{wrong_at_start}
use Rattle.hose_words.proofs.Passing.{pass_branch}
use Rattle.hose_words.proofs.Spaced.{AreWords, words_of-line}
use Rattle.hose_graph.specs.Amounts.{ReservedLink}
use Rattle.hose_graph.specs.steps.Naming.{NamesPlaces}
use Rattle.hose_graph.specs.Network.{Network, IsNetwork}
use Rattle.hose_graph.specs.declared.command.Reply.{Reply}
use Rattle.hose_graph.specs.declared.command.Reply.TheVariants.{Welcome, Admitted, Quoted, Refused, Stale, Released, NoVpn, NoQuote, TooMany, Shown, Vpns, Newest, LinkState, Down, Up, Already, Denied, Full, Spent, Disk, Memory, Bad, Long, Bye}
use Rattle.hose_proto.specs.ReplyText.{joined, reply_text, spaced}
use Rattle.hose_proto.specs.ReplyWords.{amounts_words, at_epoch, costed, reply_words}
use Rattle.hose_proto.specs.steps.Reading.{IsFaultOf}
use Rattle.hose_proto.specs.declared.fault.ReadFault.{ReadFault}
use Rattle.hose_proto.specs.declared.fault.ReadFault.TheVariants as fault
use Rattle.hose_replies.specs.steps.Fields.{AreSound, FieldsTell, Values, a_word, words_told}
use Rattle.hose_replies.specs.steps.ReplyLines.{HasLine, IsOfKind, IsReply, epoch_line, head_fields, head_word, lone_line, number_line, plan_line, reply_form, reply_grammar, reply_told, service_line}
use Rattle.hose_replies.specs.declared.head.EpochHead.{EpochHead}
use Rattle.hose_replies.specs.declared.head.EpochHead.TheVariants as epoch
use Rattle.hose_replies.specs.declared.head.Head.{Head}
use Rattle.hose_replies.specs.declared.head.Head.TheVariants as head
use Rattle.hose_replies.specs.declared.head.LoneHead.{LoneHead}
use Rattle.hose_replies.specs.declared.head.LoneHead.TheVariants as lone
use Rattle.hose_replies.specs.declared.head.Missing.TheVariants as missing
use Rattle.hose_replies.specs.declared.head.NumberHead.{NumberHead}
use Rattle.hose_replies.specs.declared.head.NumberHead.TheVariants as number
use Rattle.hose_replies.specs.declared.head.PlanHead.{PlanHead}
use Rattle.hose_replies.specs.declared.head.PlanHead.TheVariants as plan
use Rattle.hose_replies.specs.declared.head.ServiceHead.{ServiceHead}
use Rattle.hose_replies.specs.declared.head.ServiceHead.TheVariants as by_service
use Rattle.hose_replies.proofs.FieldLemmas.{are_known, values_back, values_in, values_pass, values_words}
use Rattle.hose_replies.proofs.Words.{head_of, head_of-word, heads_apart}

-- ---- lines and texts

-- each reply has a line
pub line_of_reply : (reply : Reply) → HasLine reply
line_of_reply (Welcome at) = record { head = head.Epoch epoch.Welcome; values = (at, tt); is = refl }
line_of_reply (Admitted id cost at amounts) = record { head = head.Plan plan.Admitted; values = (id, (cost, (at, amounts))); is = refl }
line_of_reply (Quoted quote cost at amounts) = record { head = head.Plan plan.Quoted; values = (quote, (cost, (at, amounts))); is = refl }
line_of_reply (Refused at side) = record { head = head.Refused; values = (at, side); is = refl }
line_of_reply (Stale seen now) = record { head = head.Stale; values = (seen, (now, tt)); is = refl }
line_of_reply (Released id at) = record { head = head.Number number.Released; values = (id, (at, tt)); is = refl }
line_of_reply (NoVpn id at) = record { head = head.No; values = (missing.Vpn, (id, (at, tt))); is = refl }
line_of_reply (NoQuote quote at) = record { head = head.No; values = (missing.Quote, (quote, (at, tt))); is = refl }
line_of_reply (TooMany at) = record { head = head.Too; values = (at, tt); is = refl }
line_of_reply (Shown id cost at hose amounts) = record { head = head.Vpn; values = (id, (cost, (at, (hose, amounts)))); is = refl }
line_of_reply (Vpns at ids) = record { head = head.Vpns; values = (ids, (at, tt)); is = refl }
line_of_reply (Newest id at) = record { head = head.Number number.Newest; values = (id, (at, tt)); is = refl }
line_of_reply (LinkState link load out at) = record { head = head.Link; values = (link, (load, (out, (at, tt)))); is = refl }
line_of_reply (Down link at) = record { head = head.Service by_service.Down; values = (link, (at, tt)); is = refl }
line_of_reply (Up link at) = record { head = head.Service by_service.Up; values = (link, (at, tt)); is = refl }
line_of_reply (Already link at) = record { head = head.Service by_service.Already; values = (link, (at, tt)); is = refl }
line_of_reply (Denied at) = record { head = head.Epoch epoch.Denied; values = (at, tt); is = refl }
line_of_reply (Full at) = record { head = head.Epoch epoch.Full; values = (at, tt); is = refl }
line_of_reply (Spent at) = record { head = head.Epoch epoch.Spent; values = (at, tt); is = refl }
line_of_reply (Disk at) = record { head = head.Epoch epoch.Disk; values = (at, tt); is = refl }
line_of_reply Memory = record { head = head.Lone lone.Memory; values = tt; is = refl }
line_of_reply (Bad word) = record { head = head.Bad; values = (word, tt); is = refl }
line_of_reply Long = record { head = head.Lone lone.Long; values = tt; is = refl }
line_of_reply Bye = record { head = head.Lone lone.Bye; values = tt; is = refl }

module _ (network : Network) where
  epoch_same : (one : EpochHead) (at : ℕ) → reply_words network ((epoch_line one).1 at) ≡ (epoch_line one).0 ∷ at_epoch at
  epoch_same epoch.Welcome at = refl
  epoch_same one at = refl

  number_same : (one : NumberHead) (id at : ℕ) → reply_words network ((number_line one).1 id at) ≡ words_told network (a_word (number_line one).0 (head_fields (head.Number one))) (id, (at, tt))
  number_same number.Released id at = refl
  number_same one id at = refl

  service_same : (one : ServiceHead) (link at : ℕ) → reply_words network ((service_line one).1 link at) ≡ words_told network (a_word (service_line one).0 (head_fields (head.Service one))) (link, (at, tt))
  service_same by_service.Down link at = refl
  service_same one link at = refl

  plan_same : (one : PlanHead) (id cost at : ℕ) (amounts : List ReservedLink) → reply_words network ((plan_line one).1 id cost at amounts) ≡ (plan_line one).0 ∷ costed id cost at (amounts_words amounts)
  plan_same plan.Admitted id cost at amounts = refl
  plan_same one id cost at amounts = refl

  lone_same : (one : LoneHead) → reply_words network (lone_line one).1 ≡ (lone_line one).0 ∷ []
  lone_same lone.Memory = refl
  lone_same one = refl

  -- the words of a line's reply are its first word and those of its fields
  words_same : (head : Head) (values : Values (head_fields head)) → reply_words network (reply_told head values) ≡ head_word head ∷ words_told network (head_fields head) values
  words_same (head.Epoch one) (at, _) = epoch_same one at
  words_same (head.Number one) (id, (at, _)) = number_same one id at
  words_same (head.Service one) (link, (at, _)) = service_same one link at
  words_same (head.Plan one) (id, (cost, (at, amounts))) = plan_same one id cost at amounts
  words_same (head.Lone one) values = lone_same one
  words_same head.Refused (at, side) = refl
  words_same head.Stale (seen, (now, _)) = refl
  words_same head.No (missing.Vpn, (id, (at, _))) = refl
  words_same head.No (missing.Quote, (id, (at, _))) = refl
  words_same head.Too (at, _) = refl
  words_same head.Vpn (id, (cost, (at, (hose, amounts)))) = refl
  words_same head.Vpns (ids, (at, _)) = refl
  words_same head.Link (link, (load, (true, (at, _)))) = refl
  words_same head.Link (link, (load, (false, (at, _)))) = refl
  words_same head.Bad (word, _) = refl

-- a first word and the fields after it, as they were read, tell their reply
pub told_after : {network : Network} (head : Head) (values : Values (head_fields head)) {words : List (List ℕ)} {reply : Reply} → FieldsTell network (head_fields head) values words → reply ≡ reply_told head values
    → IsReply network (head_word head ∷ words) reply
told_after {network} head values {words} {reply} tells is = record {
  of_kind = record { line = record { head = head; values = values; is = is }; sound = tells.sound };
  spelled = ap (λ more. head_word head ∷ more) tells.spelled ∙ sym (words_same network head values) ∙ ap (reply_words network) (sym is);
}

-- ---- one reply, and no word that is wrong

-- the words that stand so in a reply are words
heads_known : (head : Head) → are_known (a_word (head_word head) (head_fields head)) ≡ true
heads_known (head.Epoch one) = epochs_known one
  where
    epochs_known : (one : EpochHead) → are_known (a_word (head_word (head.Epoch one)) (head_fields (head.Epoch one))) ≡ true
    epochs_known epoch.Welcome = refl
    epochs_known one = refl
heads_known (head.Number one) = numbers_known one
  where
    numbers_known : (one : NumberHead) → are_known (a_word (head_word (head.Number one)) (head_fields (head.Number one))) ≡ true
    numbers_known number.Released = refl
    numbers_known one = refl
heads_known (head.Service one) = services_known one
  where
    services_known : (one : ServiceHead) → are_known (a_word (head_word (head.Service one)) (head_fields (head.Service one))) ≡ true
    services_known by_service.Down = refl
    services_known one = refl
heads_known (head.Plan one) = plans_known one
  where
    plans_known : (one : PlanHead) → are_known (a_word (head_word (head.Plan one)) (head_fields (head.Plan one))) ≡ true
    plans_known plan.Admitted = refl
    plans_known one = refl
heads_known (head.Lone one) = lone_known one
  where
    lone_known : (one : LoneHead) → are_known (a_word (head_word (head.Lone one)) (head_fields (head.Lone one))) ≡ true
    lone_known lone.Memory = refl
    lone_known one = refl
heads_known head = refl

-- the reply of a first word and those after it
abbrev reply_after : Network → Head → List (List ℕ) → Reply
reply_after network head words = reply_told head (values_in network (head_fields head) words)

module _ (network : Network) (is : IsNetwork network) where
  -- the words of a reply are those of its line
  line_words : (words : List (List ℕ)) (reply : Reply) (told : IsReply network words reply) → words ≡ head_word told.of_kind.line.head ∷ words_told network (head_fields told.of_kind.line.head) told.of_kind.line.values
  line_words words reply told =
      let line = told.of_kind.line in
      told.spelled ∙ ap (reply_words network) line.is ∙ words_same network line.head line.values

  -- the words of a reply lead back to it
  reply_back : (words : List (List ℕ)) (reply : Reply) → IsReply network words reply → reply_after network (head_of (get_or words 0 [])) (drop 1 words) ≡ reply
  reply_back words reply told =
      let line = told.of_kind.line in
      let more = words_told network (head_fields line.head) line.values in
      ap (λ w. reply_after network (head_of (get_or w 0 [])) (drop 1 w)) (line_words words reply told)
      ∙ ap (λ first. reply_after network first more) (head_of-word line.head)
      ∙ ap (reply_told line.head) (values_back network is (head_fields line.head) line.values told.of_kind.sound) ∙ sym line.is

  -- words tell one reply at most
  reply_unique : (words : List (List ℕ)) (one other : Reply) → IsReply network words one → IsReply network words other → one ≡ other
  reply_unique words one other told told' = sym (reply_back words one told) ∙ reply_back words other told'

  -- no line tells a reply and has a word that is not allowed
  reply_not_wrong : (words : List (List ℕ)) (reply : Reply) (n : ℕ) → IsReply network words reply → IsFirstNotAllowed (reply_grammar network) [] words n → ⊥
  reply_not_wrong words reply n told wrong =
      let line = told.of_kind.line in
      (pass_branch line.head tt heads_apart (values_pass network is (head_fields line.head) line.values told.of_kind.sound)).none n
      (subst (λ w. IsFirstNotAllowed (reply_grammar network) [] w n) (line_words words reply told) wrong)

  -- what words tell is what was read of them, but where memory was short
  pub read_again : (words : List (List ℕ)) (result : Result Reply ReadFault) → IfOk result (IsReply network words)
      → ((n : ℕ) → result ≡ Err (fault.Bad n) → IsFirstNotAllowed (reply_grammar network) [] words n) → (reply : Reply) → IsReply network words reply → (result ≡ Ok reply) ⊎ (result ≡ Err fault.Memory)
  read_again words (Ok read) ok bad reply told = inl (ap Ok (reply_unique words read reply ok told))
  read_again words (Err (fault.Bad n)) ok bad reply told = absurd (reply_not_wrong words reply n told (bad n refl))
  read_again words (Err fault.Memory) ok bad reply told = inr refl

  -- the words of a text are those of its reply
  pub reads_again : (reply : Reply) → IsOfKind network reply → IsReply network (words_of (reply_text network reply)) reply
  reads_again reply kind =
      let line = kind.line in
      let fields = a_word (head_word line.head) (head_fields line.head) in
      let same : words_told network fields line.values ≡ reply_words network reply = sym (ap (reply_words network) line.is ∙ words_same network line.head line.values) in
      let spells : 32 ∷ reply_text network reply ≡ spaced (reply_words network reply) = subst (λ (words : List (List ℕ)). 32 ∷ joined words ≡ spaced words) same refl in
      record {
        of_kind = kind;
        spelled = words_of-line (reply_text network reply) (reply_words network reply) spells (subst AreWords same (values_words network is fields line.values (heads_known line.head) kind.sound));
      }

-- ---- places

-- each place that a reply of the network names is one of the network
places_of : (network : Network) (head : Head) (values : Values (head_fields head)) → AreSound network (head_fields head) values → NamesPlaces network (reply_told head values)
places_of network (head.Epoch one) (at, _) sound = named one
  where
    named : (one : EpochHead) → NamesPlaces network ((epoch_line one).1 at)
    named epoch.Welcome = tt
    named one = tt
places_of network (head.Number one) (id, (at, _)) sound = named one
  where
    named : (one : NumberHead) → NamesPlaces network ((number_line one).1 id at)
    named number.Released = tt
    named one = tt
places_of network (head.Service by_service.Down) (link, (at, _)) (there, _) = there
places_of network (head.Service by_service.Up) (link, (at, _)) (there, _) = there
places_of network (head.Service by_service.Already) (link, (at, _)) (there, _) = there
places_of network (head.Plan plan.Admitted) values sound = tt
places_of network (head.Plan plan.Quoted) values sound = tt
places_of network (head.Lone one) values sound = named one
  where
    named : (one : LoneHead) → NamesPlaces network (lone_line one).1
    named lone.Memory = tt
    named one = tt
places_of network head.Refused (at, side) (_, (_, are)) = are.each
places_of network head.No (missing.Vpn, (id, (at, _))) sound = tt
places_of network head.No (missing.Quote, (id, (at, _))) sound = tt
places_of network head.Vpn (id, (cost, (at, (hose, amounts)))) (_, (_, (_, (are, _)))) = are.nodes
places_of network head.Link (link, (load, (out, (at, _)))) (there, _) = there
places_of network other values sound = tt

pub read_places : (network : Network) (words : List (List ℕ)) (result : Result Reply ReadFault) → IfOk result (IsReply network words) → IfOk result (NamesPlaces network)
read_places network words (Ok reply) told =
    let line = told.of_kind.line in
    subst (NamesPlaces network) (sym line.is) (places_of network line.head line.values told.of_kind.sound)
read_places network words (Err error) told = tt

-- the word that is told of a line from its start is the first that is not allowed
pub told_at_start : (network : Network) (start : Position) (result : Result Reply ReadFault) (words : List (List ℕ)) → start ≡ record { left = words; read = 0 } → IfErr result (IsFaultOf (reply_form network) start)
    → (n : ℕ) → result ≡ Err (fault.Bad n) → IsFirstNotAllowed (reply_grammar network) [] words n
told_at_start network start result words is bad n told =
    wrong_at_start words is ((IfErr-at_err (IsFaultOf (reply_form network) start) told bad).word n refl)
