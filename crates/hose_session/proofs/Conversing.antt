-- Lines of a session, one after the other, to its end.
use Rattle.std.proofs.Common.{◌≡◌, ◌≢◌, ◌↔◌, inl, inr, ℕ, ◌≤◌, Bool, false, List, [], ◌∷◌, ◌++◌, length, Option, Result, Ok, Err, refl, sym, ap, subst, ◌∙◌, arith, append-nil, append_assoc}
use Rattle.std.specs.Prelude.{⊤}
use Rattle.std.proofs.lemmas.List.Elements.{All-append, All-nil, All-weaker}
use mathlib.Core.List.{IsPrefix}
use Rattle.hose_io.specs.Frame.{Rose}
use Rattle.hose_io.specs.declared.source.Source.{Ghosts as SourceGhosts}
use Rattle.hose_io.specs.declared.sink.Sink.{Ghosts as SinkGhosts}
use Rattle.hose_words.specs.declared.lines.Line.{Line}
use Rattle.hose_talk.specs.Talk.{IsCutNear, LastCut, TalksTo, TalksUpTo, TellsOf, Terms, talk}
use Rattle.hose_talk.specs.declared.talking.TalkEnd.{TalkEnd}
use Rattle.hose_talk.specs.declared.talking.TalkEnd.TheVariants as talk_end
use Rattle.hose_talk.specs.declared.talking.TalkFault.{TalkFault}
use Rattle.hose_talk.specs.declared.talking.TalkFault.TheVariants as talk_fault
use Rattle.hose_talk.proofs.Retold.{talks_as}
use Rattle.hose_graph.specs.Network.{Network}
use Rattle.hose_graph.specs.declared.entry.Entry.{Entry}
use Rattle.hose_graph.specs.declared.command.Reply.{Reply}
use Rattle.hose_core.specs.declared.quotes.Quote.{Quote}
use Rattle.hose_law.specs.Quotes.{none_held}
use Rattle.hose_law.specs.Transcript.{IsSessionStep, IsTranscript, IsTranscriptStep, SessionLine, SessionState, Stage, session_state}
use Rattle.hose_law.specs.Transcript.SessionLine.{Greets, Asks, Leaves, IsBad, IsLong, Unread}
use Rattle.hose_law.specs.Transcript.Stage.{Left, Refused, Serving, Waiting}
use Rattle.hose_law.proofs.Lines.{steps_keep, steps_push}
use Rattle.hose_law.proofs.Scripts.{disks_push}
use Rattle.hose_law.proofs.Transcripts.{transcript_longer}
use Rattle.hose_proto.specs.Replies.{CutsLast}
use Rattle.hose_proto.specs.ReplyText.{line_of, reply_text}
use Rattle.hose_shared.specs.steps.Along.{HasEntryAt}
use Rattle.hose_shared.specs.steps.Sharing.{IsSamePass}
use Rattle.hose_turn.specs.declared.view.Tried.{Tried}
use Rattle.hose_turn.specs.Known.{Known}
use Rattle.hose_law.proofs.Fronts.{prefix_on}
use Rattle.hose_session.specs.steps.Ending.{end_after, over_at}
use Rattle.hose_session.specs.steps.Exchanges.{AnswersAt, ComesAlong, GoesAlong, IsAskedAt, IsAt, IsExchange, IsPhaseAt, Progress, SaysAt}
use Rattle.hose_greeting.specs.steps.Shown.{ShownSays}
use Rattle.hose_session.specs.Session.{AnswersUpTo, IsAskedIn, IsServing, IsSession, IsWaiting, MayGoOn, WasLeft, WasRefused}
use Rattle.hose_session.specs.steps.Session.{ServesSession}
use Rattle.hose_greeting.specs.SessionLines.{SaysAfter}
use Rattle.hose_session.specs.declared.phase.Phase.{Phase}
use Rattle.hose_session.specs.declared.phase.Phase.TheVariants as phase
use Rattle.hose_session.specs.declared.ending.SessionEnd.{SessionEnd}
use Rattle.hose_shared.proofs.Passes.{entries_longer, same_on}
use Rattle.hose_session.specs.declared.ending.SessionEnd.TheVariants as session_end

-- ---- lines that came

-- a greeting
abbrev pub IsGreets : SessionLine → Type 0
IsGreets (Greets name) = ⊤
IsGreets line = ⊥

-- how the lines of a transcript begin, by how far the session is
abbrev pub BeginSo : List SessionLine → Stage → Type 0
BeginSo lines Waiting = lines ≡ []
BeginSo lines (Serving customer held) = (name : List ℕ) × (rest : List SessionLine) × (lines ≡ Greets name ∷ rest)
BeginSo lines Refused = (line : SessionLine) × (lines ≡ line ∷ []) × (¬ IsGreets line)
BeginSo lines Left = (name : List ℕ) × (rest : List SessionLine) × (lines ≡ Greets name ∷ rest)

module _ (network : Network) (history : List Entry) where
  alone : (lines : List SessionLine) (line : SessionLine) → ¬ IsGreets line → lines ≡ [] → BeginSo (lines ++ line ∷ []) Refused
  alone lines line other none = (line, ap (λ (l : List SessionLine). l ++ line ∷ []) none, other)

  after : (lines : List SessionLine) (line : SessionLine) (name : List ℕ) (rest : List SessionLine) → lines ≡ Greets name ∷ rest → lines ++ line ∷ [] ≡ Greets name ∷ (rest ++ line ∷ [])
  after lines line name rest same = ap (λ (l : List SessionLine). l ++ line ∷ []) same

  step_begins : (lines : List SessionLine) (stage next : Stage) (line : SessionLine) (reply : Reply) (from to : ℕ) (own : List ℕ) → IsSessionStep network 0 history stage line reply next from to own → BeginSo lines stage
      → BeginSo (lines ++ line ∷ []) next
  step_begins lines Waiting next (Greets name) reply from to own step none = subst (BeginSo (lines ++ Greets name ∷ [])) (sym step.3) (name, [], ap (λ (l : List SessionLine). l ++ Greets name ∷ []) none)
  step_begins lines Waiting next (Asks command) reply from to own step none = absurd step.0
  step_begins lines Waiting next Leaves reply from to own step none = subst (BeginSo (lines ++ Leaves ∷ [])) (sym step.1) (alone lines Leaves (λ g. g) none)
  step_begins lines Waiting next (IsBad word) reply from to own step none = subst (BeginSo (lines ++ IsBad word ∷ [])) (sym step.1) (alone lines (IsBad word) (λ g. g) none)
  step_begins lines Waiting next IsLong reply from to own step none = subst (BeginSo (lines ++ IsLong ∷ [])) (sym step.1) (alone lines IsLong (λ g. g) none)
  step_begins lines Waiting next Unread reply from to own step none = subst (BeginSo (lines ++ Unread ∷ [])) (sym step.1) (alone lines Unread (λ g. g) none)
  step_begins lines (Serving customer held) next (Greets name) reply from to own step begun = absurd step.0
  step_begins lines (Serving customer held) next (Asks command) reply from to own step (name, rest, same) =
      subst (BeginSo (lines ++ Asks command ∷ [])) (sym step.4) (name, rest ++ Asks command ∷ [], after lines (Asks command) name rest same)
  step_begins lines (Serving customer held) next Leaves reply from to own step (name, rest, same) = subst (BeginSo (lines ++ Leaves ∷ [])) (sym step.1) (name, rest ++ Leaves ∷ [], after lines Leaves name rest same)
  step_begins lines (Serving customer held) next (IsBad word) reply from to own step (name, rest, same) =
      subst (BeginSo (lines ++ IsBad word ∷ [])) (sym step.1) (name, rest ++ IsBad word ∷ [], after lines (IsBad word) name rest same)
  step_begins lines (Serving customer held) next IsLong reply from to own step (name, rest, same) = subst (BeginSo (lines ++ IsLong ∷ [])) (sym step.1) (name, rest ++ IsLong ∷ [], after lines IsLong name rest same)
  step_begins lines (Serving customer held) next Unread reply from to own step (name, rest, same) = subst (BeginSo (lines ++ Unread ∷ [])) (sym step.1) (name, rest ++ Unread ∷ [], after lines Unread name rest same)
  step_begins lines Refused next line reply from to own step begun = absurd step
  step_begins lines Left next line reply from to own step begun = absurd step

  pub begins_so : (from : ℕ) (lines : List SessionLine) (replies : List Reply) (last : SessionState) → IsTranscript network 0 history from lines replies last → BeginSo lines last.stage
  begins_so from lines replies last transcript =
      steps_keep (IsTranscriptStep network 0 history) (λ (l : List SessionLine) (state : SessionState). BeginSo l state.stage) (λ l line reply old new step begun. step_begins l old.stage new.stage line reply old.place new.place step.0 step.1 begun) lines replies
      (session_state Waiting from []) last transcript refl

  -- what a line may say where a transcript has come to a stage is what it says after its lines
  says_there : (stage : Stage) (lines : List SessionLine) → BeginSo lines stage → (bytes : List ℕ) (said : SessionLine) → SaysAt network stage bytes said → SaysAfter network lines bytes said
  says_there Waiting lines begun bytes said says = subst (λ (l : List SessionLine). SaysAfter network l bytes said) (sym begun) says
  says_there (Serving customer held) lines begun bytes said says = subst (λ (l : List SessionLine). SaysAfter network l bytes said) (sym begun.2) says
  says_there Refused lines begun bytes said says = absurd says
  says_there Left lines begun bytes said says = absurd says

-- ---- what was tried

beginning_on : {A : Type 0} (one two three : List A) → IsPrefix one two → IsPrefix two three → IsPrefix one three
beginning_on one two three (rest, same) (more, there) = (rest ++ more, sym (append_assoc one rest more) ∙ ap (λ (l : List _). l ++ more) same ∙ there)

module _ (network : Network) (history longer : List Entry) (prefix : IsPrefix history longer) (from : ℕ) where
  -- what a line asked for it asked for in a longer history, and with more lines after it
  pub asked_longer : (lines all : List SessionLine) (replies told : List Reply) → IsPrefix lines all → IsPrefix replies told → (one : Tried) → IsAskedIn network history from lines replies one → IsAskedIn network longer from all told one
  asked_longer lines all replies told more further one is = record {
    first = is.first;
    told = is.told;
    customer = is.customer;
    held = is.held;
    last = is.last;
    own = is.own;
    transcript = transcript_longer network 0 history longer prefix from is.first is.told (session_state (Serving is.customer is.held) is.last is.own) is.transcript;
    command = is.command;
    reply = is.reply;
    line = beginning_on (is.first ++ Asks is.command ∷ []) lines all is.line more;
    answer = beginning_on (is.told ++ is.reply ∷ []) replies told is.answer further;
    before = is.before;
    begins = prefix_on is.before history longer is.begins prefix;
    later = is.later;
    asked = is.asked;
  }

-- and the line after these did
asked_last : (network : Network) (history : List Entry) (from place last : ℕ) (lines : List SessionLine) (replies : List Reply) (stage : Stage) (own : List ℕ) (said : SessionLine) (reply : Reply) → IsTranscript network 0 history from lines replies (session_state stage last own) → last ≤ place
    → (one : Tried) → IsAskedAt network history place stage said reply one → IsAskedIn network history from (lines ++ said ∷ []) (replies ++ reply ∷ []) one
asked_last network history from place last lines replies stage own said reply transcript reached one is = record {
  first = lines;
  told = replies;
  customer = is.customer;
  held = is.held;
  last = last;
  own = own;
  transcript = subst (λ (s : Stage). IsTranscript network 0 history from lines replies (session_state s last own)) is.serves transcript;
  command = is.command;
  reply = reply;
  line = ([], append-nil (lines ++ Asks is.command ∷ []) ∙ ap (λ (l : SessionLine). lines ++ l ∷ []) (sym is.asks));
  answer = ([], append-nil (replies ++ reply ∷ []));
  before = is.before;
  begins = is.begins;
  later = omega (arith, is.later, reached);
  asked = is.asked;
}

-- ---- a pass that goes on

module _ (network : Network) where
  along_none : (pass : Known) → IsSamePass pass pass → GoesAlong network pass pass [] [] Waiting [] []
  along_none pass same = record {
    last = length pass.seen;
    transcript = refl;
    reached = omega arith;
    entries = All-nil (HasEntryAt network pass.seen);
    same = same;
    owns = sym (append-nil pass.own);
    tried = sym (append-nil pass.tried);
    asked = All-nil (IsAskedIn network pass.seen (length pass.seen) [] []);
    disks = omega arith;
  }

  along_more : (first old new : Known) (lines : List SessionLine) (replies : List Reply) (stage next : Stage) (own : List ℕ) (tries : List Tried) (said : SessionLine) (reply : Reply) → GoesAlong network first old lines replies stage own tries
      → (exchange : IsExchange network old new stage said reply next) → GoesAlong network first new (lines ++ said ∷ []) (replies ++ reply ∷ []) next (own ++ exchange.added) (tries ++ exchange.tries)
  along_more first old new lines replies stage next own tries said reply along exchange =
      let step = exchange.step along.last along.reached in
      let longer = transcript_longer network 0 old.seen new.seen exchange.same.seen (length first.seen) lines replies (session_state stage along.last own) along.transcript in
      let Asked = IsAskedIn network new.seen (length first.seen) (lines ++ said ∷ []) (replies ++ reply ∷ []) in
      record {
        last = step.0;
        transcript = steps_push (IsTranscriptStep network 0 new.seen) lines replies (session_state Waiting (length first.seen) []) (session_state stage along.last own) (session_state next step.0 (own ++ exchange.added)) said reply
            longer (exchange.added, step.2, refl);
        reached = step.1;
        entries = All-append (HasEntryAt network new.seen) own exchange.added (entries_longer network old.seen new.seen own exchange.same.seen along.entries) exchange.entries;
        same = same_on first old new along.same exchange.same;
        owns = exchange.own ∙ ap (λ (o : List ℕ). o ++ exchange.added) along.owns ∙ append_assoc first.own own exchange.added;
        tried = exchange.tried ∙ ap (λ (t : List Tried). t ++ exchange.tries) along.tried ∙ append_assoc first.tried tries exchange.tries;
        asked = All-append Asked tries exchange.tries
            (All-weaker (IsAskedIn network old.seen (length first.seen) lines replies) Asked (asked_longer network old.seen new.seen exchange.same.seen (length first.seen) lines (lines ++ said ∷ []) replies (replies ++ reply ∷ []) (said ∷ [], refl) (reply ∷ [], refl)) tries along.asked)
            (All-weaker (IsAskedAt network new.seen (length old.seen) stage said reply) Asked (asked_last network new.seen (length first.seen) (length old.seen) along.last lines replies stage own said reply longer along.reached) exchange.tries exchange.asked);
        disks = omega (arith, along.disks, exchange.faults, disks_push replies reply);
      }

  -- nothing has come yet
  pub comes_none : (pass : Known) → IsSamePass pass pass → ComesAlong network pass (record { pass = pass; phase = phase.Waiting; quotes = none_held }) [] []
  comes_none pass same = record { stage = Waiting; own = []; tries = []; along = along_none pass same; at = (refl, refl) }

  -- one line more comes
  pub comes_on : (first : Known) (old new : Progress) (line : Line) (reply : Reply) (lines : List SessionLine) (replies : List Reply) → ComesAlong network first old lines replies
      → ((stage : Stage) → IsAt network old stage → AnswersAt network old.pass new stage line reply)
      → (said : SessionLine) × ShownSays (SaysAfter network lines) line said × ComesAlong network first new (lines ++ said ∷ []) (replies ++ reply ∷ [])
  comes_on first old new line reply lines replies comes answers =
      let one = answers comes.stage comes.at in (
        one.said,
        (λ bytes shows. says_there network old.pass.seen comes.stage lines (begins_so network old.pass.seen (length first.seen) lines replies (session_state comes.stage comes.along.last comes.own) comes.along.transcript) bytes one.said (one.says bytes shows)),
        record {
          stage = one.next;
          own = comes.own ++ one.exchange.added;
          tries = comes.tries ++ one.exchange.tries;
          along = along_more first old.pass new.pass lines replies comes.stage one.next comes.own comes.tries one.said reply comes.along one.exchange;
          at = one.at;
        },
      )

-- a line was answered of a session of a network, which stays as it was
module _ (network now : Network) (same : now ≡ network) (old new : Progress) (line : Line) (reply : Reply) (answers : (stage : Stage) → IsAt network old stage → AnswersAt network old.pass new stage line reply) where
  pub comes_then : (first : Known) (lines : List SessionLine) (replies : List Reply) → ComesAlong network first old lines replies
      → (said : SessionLine) × ShownSays (SaysAfter network lines) line said × ComesAlong now first new (lines ++ said ∷ []) (replies ++ reply ∷ [])
  comes_then first lines replies came =
      let more = comes_on network first old new line reply lines replies came answers in
      (more.0, more.1, subst (λ (n : Network). ComesAlong n first new (lines ++ more.0 ∷ []) (replies ++ reply ∷ [])) (sym same) more.2)

  pub fits_then : (stage : Stage) → IsAt network old stage → (next : Stage) × IsAt now new next
  fits_then stage at =
      let one = answers stage at in
      (one.next, subst (λ (n : Network). IsAt n new one.next) (sym same) one.at)

-- ---- a talk that ended

-- the talk of a session that is so far
module _ {S O : Type 0} (network : Network) (source : SourceGhosts S) (sink : SinkGhosts O) (input input' : S) (output output' : O) (first pass : Known) (quotes : List (Option Quote)) where
  -- the terms of a session
  abbrev terms : Terms SessionLine Progress Reply
  terms = record {
    tells = TellsOf (SaysAfter network) (source.content input) (source.content input');
    cut = IsCutNear source input';
    comes = λ lines replies progress. ComesAlong network first progress lines replies;
    over = λ progress. over_at progress.phase;
    text = λ reply. line_of (reply_text network reply);
  }

  abbrev pub Talks : Phase → Result TalkEnd TalkFault → Type 0
  Talks at = TalksTo source sink terms (talk input output (record { pass = pass; phase = at; quotes = quotes })) (talk input' output' (record { pass = pass; phase = at; quotes = quotes }))

  abbrev Serves : SessionEnd → Type 0
  Serves = ServesSession source sink network input input' output output' first pass

  module _ (at : Phase) (stops : List ℕ → List ℕ → List ℕ → Type 0) (puts : List Reply → Type 0)
      (talks : TalksUpTo terms (record { pass = pass; phase = at; quotes = quotes }) stops puts) where
    up_to : (ends : Stage → Type 0) → ends talks.comes.stage → (outs : List Reply → Type 0) → outs talks.replies → AnswersUpTo network pass.seen (length first.seen) (TellsOf (SaysAfter network) (source.content input) (source.content input')) stops ends outs talks.replies talks.comes.own talks.comes.tries
    up_to ends is outs out = record { lines = talks.lines; stage = talks.comes.stage; last = talks.comes.along.last; said = talks.said; transcript = talks.comes.along.transcript; ended = is; out = out; asked = talks.comes.along.asked }

    serves : (end : SessionEnd)
        → IsSession network pass.seen (length first.seen) (TellsOf (SaysAfter network) (source.content input) (source.content input')) (IsCutNear source input') (sink.content output) (sink.content output') (Rose (source.frame input) (source.frame input')) (Rose (sink.frame output) (sink.frame output')) end talks.replies talks.comes.own talks.comes.tries → Serves end
    serves end session = record { replies = talks.replies; own = talks.comes.own; tries = talks.comes.tries; session = session; entries = talks.comes.along.entries; same = talks.comes.along.same; owns = talks.comes.along.owns; tried = talks.comes.along.tried; disks = talks.comes.along.disks }

  serving : (customer : List ℕ) (stage : Stage) → IsPhaseAt network pass.seen (phase.Serving customer) quotes stage → IsServing stage
  serving customer stage (held, same, are) = subst IsServing (sym same) tt

  may_go_on : (at : Phase) (stage : Stage) → over_at at ≡ false → IsPhaseAt network pass.seen at quotes stage → MayGoOn stage
  may_go_on phase.Waiting stage goes is = inl is.0
  may_go_on (phase.Serving customer) stage goes is = inr (serving customer stage is)
  may_go_on phase.Refused stage goes is = absurd (cc goes)
  may_go_on phase.Left stage goes is = absurd (cc goes)

  -- the last reply is cut off
  cut : (replies : List Reply) → LastCut (λ reply. line_of (reply_text network reply)) sink output output' replies → CutsLast network (sink.content output) (sink.content output') replies
  cut replies (whole, reply, same, count, less, grows) = (whole, reply, same, (count, less, grows))

  -- a session that ended so was served so
  pub serves_so : (at : Phase) (ended : Result TalkEnd TalkFault) → Talks at ended → Serves (end_after at ended)
  serves_so phase.Waiting (Ok talk_end.Input) talks = serves phase.Waiting _ _ talks.0.0 session_end.NoHello (inr (up_to phase.Waiting _ _ talks.0.0 IsWaiting talks.0.0.comes.at.0 _ talks.0.0.out))
  serves_so (phase.Serving customer) (Ok talk_end.Input) talks = serves (phase.Serving customer) _ _ talks.0.0 session_end.End (up_to (phase.Serving customer) _ _ talks.0.0 IsServing (serving customer talks.0.0.comes.stage talks.0.0.comes.at) _ talks.0.0.out)
  serves_so phase.Refused (Ok talk_end.Input) talks = absurd (cc talks.0.1)
  serves_so phase.Left (Ok talk_end.Input) talks = absurd (cc talks.0.1)
  serves_so phase.Waiting (Ok talk_end.Over) talks = absurd (cc talks.0.1)
  serves_so (phase.Serving customer) (Ok talk_end.Over) talks = absurd (cc talks.0.1)
  serves_so phase.Refused (Ok talk_end.Over) talks = serves phase.Refused _ _ talks.0.0 session_end.NoHello (inl (up_to phase.Refused _ _ talks.0.0 WasRefused talks.0.0.comes.at _ talks.0.0.out))
  serves_so phase.Left (Ok talk_end.Over) talks = serves phase.Left _ _ talks.0.0 session_end.Bye (up_to phase.Left _ _ talks.0.0 WasLeft talks.0.0.comes.at _ talks.0.0.out)
  serves_so at (Err talk_fault.Read) talks = serves at _ _ talks.0.0 session_end.Read (up_to at _ _ talks.0.0 MayGoOn (may_go_on at talks.0.0.comes.stage talks.0.1 talks.0.0.comes.at) _ talks.0.0.out, talks.1)
  serves_so at (Err talk_fault.TooLong) talks = serves at _ _ talks.0.0 session_end.TooLong (up_to at _ _ talks.0.0 MayGoOn (may_go_on at talks.0.0.comes.stage talks.0.1 talks.0.0.comes.at) _ talks.0.0.out)
  serves_so at (Err talk_fault.Write) talks = serves at _ _ talks.0 session_end.Write (up_to at _ _ talks.0 (λ stage. ⊤) tt (CutsLast network (sink.content output) (sink.content output')) (cut talks.0.replies talks.0.out), talks.2)

  -- but for a fault of the input it has not failed, and neither has the output
  pub reading_held : (at : Phase) (ended : Result TalkEnd TalkFault) → Talks at ended → end_after at ended ≢ session_end.Read → source.frame input' ≡ source.frame input
  reading_held at (Ok talk_end.Input) talks other = talks.1
  reading_held at (Ok talk_end.Over) talks other = talks.1
  reading_held at (Err talk_fault.Read) talks other = absurd (other refl)
  reading_held at (Err talk_fault.TooLong) talks other = talks.1
  reading_held at (Err talk_fault.Write) talks other = talks.1

  pub writing_held : (at : Phase) (ended : Result TalkEnd TalkFault) → Talks at ended → end_after at ended ≢ session_end.Write → sink.frame output' ≡ sink.frame output
  writing_held at (Ok talk_end.Input) talks other = talks.2
  writing_held at (Ok talk_end.Over) talks other = talks.2
  writing_held at (Err talk_fault.Read) talks other = talks.2
  writing_held at (Err talk_fault.TooLong) talks other = talks.2
  writing_held at (Err talk_fault.Write) talks other = absurd (other refl)

  -- the terms of who held the talk
  abbrev terms_there : {A : Type 0} → (List SessionLine → List Reply → A → Type 0) → (A → Bool) → Network → Terms SessionLine A Reply
  terms_there Comes over there = record { tells = TellsOf (SaysAfter there) (source.content input) (source.content input'); cut = IsCutNear source input'; comes = Comes; over = over; text = λ reply. line_of (reply_text there reply) }

  -- in the words of who held the talk, on the network that there was
  pub talks_there : {A : Type 0} (begun last : A) (Comes : List SessionLine → List Reply → A → Type 0) (over : A → Bool) (at : Phase) (there : Network) → there ≡ network
      → ((lines : List SessionLine) (replies : List Reply) → Comes lines replies last → ComesAlong network first (record { pass = pass; phase = at; quotes = quotes }) lines replies) → over last ≡ over_at at → (ended : Result TalkEnd TalkFault)
      → TalksTo source sink (terms_there Comes over there) (talk input output begun) (talk input' output' last) ended → Talks at ended
  talks_there begun last Comes over at there same follows is ended talks =
      talks_as source sink (terms_there Comes over network) terms.tells terms.comes terms.over input input' output output' begun last (record { pass = pass; phase = at; quotes = quotes }) (record { pass = pass; phase = at; quotes = quotes }) (λ stops lines says. says) follows is ended
      (subst (λ (n : Network). TalksTo source sink (terms_there Comes over n) (talk input output begun) (talk input' output' last) ended) same talks)

-- a session ends as its input is too long exactly where its talk does
pub too_long_so : (at : Phase) (ended : Result TalkEnd TalkFault) (P : Type 0) → (ended ≡ Err talk_fault.TooLong) ↔ P → (end_after at ended ≡ session_end.TooLong) ↔ P
too_long_so phase.Waiting (Ok end) P is = ((λ same. absurd (cc same)), (λ long. absurd (cc (is.1 long))))
too_long_so (phase.Serving customer) (Ok end) P is = ((λ same. absurd (cc same)), (λ long. absurd (cc (is.1 long))))
too_long_so phase.Refused (Ok end) P is = ((λ same. absurd (cc same)), (λ long. absurd (cc (is.1 long))))
too_long_so phase.Left (Ok end) P is = ((λ same. absurd (cc same)), (λ long. absurd (cc (is.1 long))))
too_long_so at (Err talk_fault.Read) P is = ((λ same. absurd (cc same)), (λ long. absurd (cc (is.1 long))))
too_long_so at (Err talk_fault.TooLong) P is = ((λ same. is.0 refl), (λ long. refl))
too_long_so at (Err talk_fault.Write) P is = ((λ same. absurd (cc same)), (λ long. absurd (cc (is.1 long))))
