-- Lines lead a host from one state to one state.
use Rattle.std.proofs.Common.{◌≡◌, ◌∙◌, ℕ, ◌+◌, ◌-◌, ◌^◌, ◌<◌, Bool, List, [], ◌∷◌, ◌++◌, length, refl, sym, ap, subst, arith}
use mathlib.Core.List.{IsPrefix}
use Rattle.hose_net.specs.Story.{Exchange}
use Rattle.hose_graph.specs.Network.{Network}
use Rattle.hose_graph.specs.declared.entry.Entry.{Entry}
use Rattle.hose_graph.specs.declared.command.Reply.{Reply}
use Rattle.hose_graph.specs.declared.command.Reply.TheVariants as given
use Rattle.hose_law.specs.Transcript.{SessionLine, Stage}
use Rattle.hose_law.specs.Transcript.SessionLine.{Greets, Asks}
use Rattle.hose_law.specs.Transcript.Stage.{Left, Refused, Serving, Waiting}
use Rattle.hose_law.proofs.Fronts.{prefix_on, prefix_same}
use Rattle.hose_clerk.specs.HostLines.{HostLine}
use Rattle.hose_clerk.specs.HostLines.HostLine.{Counts, Ends, Speaks}
use Rattle.hose_clerk.specs.Hosting.{AreHostSteps, HostState, IsCountReply, IsEndReply, IsHostAnswer, IsHostStep, IsOwnAnswer, IsSessionAnswer, host_from, stage_before, with_stage}
use Rattle.hose_clerk.specs.Tally.{one_more, tally_told, tally_with}
use Rattle.hose_clerk.specs.declared.tally.Tally.{Tally}
use Rattle.hose_clerk.specs.declared.replies.HostReply.{HostReply}
use Rattle.hose_clerk.specs.declared.replies.HostReply.TheVariants as reply
use Rattle.hose_pair.proofs.OneAnswer.{one_step, step_grows}

abbrev Answered : Type 0
Answered = Exchange HostLine HostReply

record IsOne (next also : List Entry) (after last : Stage) : Type 0 where
  next_is : next ≡ also
  after_is : after ≡ last

module _ (network : Network) (history : List Entry) where
  one_session : (stage : Stage) (line : SessionLine) (told : Reply) (next also : List Entry) (after last : Stage) → IsSessionAnswer network history stage line told next after → IsSessionAnswer network history stage line told also last → IsOne next also after last
  one_session Waiting (Greets customer) told next also after last one other = record { next_is = one.1 ∙ sym other.1; after_is = one.2 ∙ sym other.2 }
  one_session (Serving customer held) (Asks command) told next also after last (then, (entry, step), is) (later, (more, step'), is') =
      let same = one_step network history customer held command told entry more next also then later step step' in
      record { next_is = same.next_is; after_is = is ∙ ap (Serving customer) same.after_is ∙ sym is' }
  one_session Refused line told next also after last one other = absurd one
  one_session Left line told next also after last one other = absurd one
  one_session stage line told next also after last one other = record { next_is = one.1 ∙ sym other.1; after_is = one.2 ∙ sym other.2 }

  one_own : (Is : ℕ → List ℕ → HostReply → Type 0) (stage : Stage) (told : HostReply) (next also : List Entry) (after last : Stage) → IsOwnAnswer Is history stage told next after → IsOwnAnswer Is history stage told also last → IsOne next also after last
  one_own Is (Serving customer held) told next also after last one other = record { next_is = one.1 ∙ sym other.1; after_is = one.2 ∙ sym other.2 }
  one_own Is stage told next also after last one other = absurd one

  one_answer : (tally : Tally) (stage : Stage) (said : HostLine) (told : HostReply) (next also : List Entry) (after last : Stage) → IsHostAnswer network tally history stage said told next after → IsHostAnswer network tally history stage said told also last
      → IsOne next also after last
  one_answer tally stage (Speaks line) (reply.Told told) next also after last one other = one_session stage line told next also after last one other
  one_answer tally stage (Speaks line) (reply.Ending at) next also after last one other = absurd one
  one_answer tally stage (Speaks line) (reply.Figures figures) next also after last one other = absurd one
  one_answer tally stage Ends told next also after last one other = one_own IsEndReply stage told next also after last one other
  one_answer tally stage Counts told next also after last one other = one_own (IsCountReply tally) stage told next also after last one other

  -- ---- what an answer leaves of a history

  same_front : (next : List Entry) → next ≡ history → IsPrefix history next
  same_front next same = subst (IsPrefix history) (sym same) (prefix_same history)

  session_grows : (stage : Stage) (line : SessionLine) (told : Reply) (next : List Entry) (after : Stage) → IsSessionAnswer network history stage line told next after → IsPrefix history next
  session_grows Waiting (Greets customer) told next after one = same_front next one.1
  session_grows (Serving customer held) (Asks command) told next after (then, (entry, step), is) = step_grows network history customer held command told entry next then step
  session_grows Refused line told next after one = absurd one
  session_grows Left line told next after one = absurd one
  session_grows stage line told next after one = same_front next one.1

  own_grows : (Is : ℕ → List ℕ → HostReply → Type 0) (stage : Stage) (told : HostReply) (next : List Entry) (after : Stage) → IsOwnAnswer Is history stage told next after → IsPrefix history next
  own_grows Is (Serving customer held) told next after one = same_front next one.1
  own_grows Is stage told next after one = absurd one

  answer_grows : (tally : Tally) (stage : Stage) (said : HostLine) (told : HostReply) (next : List Entry) (after : Stage) → IsHostAnswer network tally history stage said told next after → IsPrefix history next
  answer_grows tally stage (Speaks line) (reply.Told told) next after one = session_grows stage line told next after one
  answer_grows tally stage (Speaks line) (reply.Ending at) next after one = absurd one
  answer_grows tally stage (Speaks line) (reply.Figures figures) next after one = absurd one
  answer_grows tally stage Ends told next after one = own_grows IsEndReply stage told next after one
  answer_grows tally stage Counts told next after one = own_grows (IsCountReply tally) stage told next after one

-- ---- states

answer_lines : (answer : Reply) (tally : Tally) → (tally_told answer tally).lines ≡ tally.lines
answer_lines given.Memory tally = refl
answer_lines answer tally = refl

abbrev state_of : List Entry → (ℕ → Stage) → Bool → Tally → HostState
state_of history stages ended tally = record { history = history; stages = stages; ended = ended; tally = tally }

same_state : (one other : HostState) → one.history ≡ other.history → one.stages ≡ other.stages → one.ended ≡ other.ended → one.tally ≡ other.tally → one ≡ other
same_state one other history stages ended tally =
    ap (λ (h : List Entry). state_of h one.stages one.ended one.tally) history
    ∙ ap (λ (s : ℕ → Stage). state_of other.history s one.ended one.tally) stages
    ∙ ap (λ (b : Bool). state_of other.history other.stages b one.tally) ended
    ∙ ap (λ (t : Tally). state_of other.history other.stages other.ended t) tally

module _ (network : Network) (required : Bool) where
  one_after : (x : Answered) (old new also : HostState) → IsHostStep network required x old new → IsHostStep network required x old also → new ≡ also
  one_after x old new also one other =
      let same = one_answer network old.history old.tally (stage_before x.first (old.stages x.place)) x.said x.reply new.history also.history one.after other.after one.answer other.answer in
      same_state new also same.next_is
      (one.stages ∙ ap (with_stage old.stages x.place) same.after_is ∙ sym other.stages) (one.ended ∙ sym other.ended) (one.tally ∙ sym other.tally)

  -- lines lead to one state
  pub one_state : (xs : List Answered) (first last also : HostState) → AreHostSteps network required xs first last → AreHostSteps network required xs first also → last ≡ also
  one_state [] first last also one other = one ∙ sym other
  one_state (x ∷ xs) first last also (next, step, steps) (then, step', steps') =
      let same = one_after x first next then step step' in
      one_state xs next last also steps (subst (λ (s : HostState). AreHostSteps network required xs s also) (sym same) steps')

  pub grows_one : (x : Answered) (old new : HostState) → IsHostStep network required x old new → IsPrefix old.history new.history
  grows_one x old new step = answer_grows network old.history old.tally (stage_before x.first (old.stages x.place)) x.said x.reply new.history step.after step.answer

  pub grows_all : (xs : List Answered) (first last : HostState) → AreHostSteps network required xs first last → IsPrefix first.history last.history
  grows_all [] first last same = subst (λ (s : HostState). IsPrefix first.history s.history) (sym same) (prefix_same first.history)
  grows_all (x ∷ xs) first last (next, step, steps) = prefix_on first.history next.history last.history (grows_one x first next step) (grows_all xs next last steps)

  -- one line more
  pub steps_push : (xs : List Answered) (x : Answered) (first middle last : HostState) → AreHostSteps network required xs first middle → IsHostStep network required x middle last → AreHostSteps network required (xs ++ x ∷ []) first last
  steps_push [] x first middle last steps step = (last, subst (λ (state : HostState). IsHostStep network required x state last) steps step, refl)
  steps_push (one ∷ xs) x first middle last steps step = (steps.0, steps.1, steps_push xs x steps.0 middle last steps.2 step)

  -- lines and more of them
  pub steps_split : (xs ys : List Answered) (first last : HostState) → AreHostSteps network required (xs ++ ys) first last → (middle : HostState) × AreHostSteps network required xs first middle × AreHostSteps network required ys middle last
  steps_split [] ys first last steps = (first, refl, steps)
  steps_split (x ∷ xs) ys first last (next, step, steps) =
      let rest = steps_split xs ys next last steps in
      (rest.0, (next, step, rest.1), rest.2)

  pub steps_join : (xs ys : List Answered) (first middle last : HostState) → AreHostSteps network required xs first middle → AreHostSteps network required ys middle last → AreHostSteps network required (xs ++ ys) first last
  steps_join [] ys first middle last front steps = subst (λ (s : HostState). AreHostSteps network required ys s last) front steps
  steps_join (x ∷ xs) ys first middle last (next, step, front) steps = (next, step, steps_join xs ys next middle last front steps)

  -- the history to which a beginning of the lines leads is a beginning
  pub front_grows : (xs ys : List Answered) (first middle last : HostState) → AreHostSteps network required xs first middle → AreHostSteps network required (xs ++ ys) first last → IsPrefix middle.history last.history
  front_grows xs ys first middle last front steps =
      let split = steps_split xs ys first last steps in
      subst (λ (s : HostState). IsPrefix s.history last.history) (one_state xs first split.0 middle split.1 front) (grows_all ys split.0 last split.2)

  -- ---- how many lines

  -- as many lines are counted as were answered, where a count holds so many
  told_lines : (told : HostReply) (tally : Tally) → (tally_with told tally).lines ≡ one_more tally.lines
  told_lines (reply.Told answer) tally = answer_lines answer (record tally { lines = one_more tally.lines })
  told_lines (reply.Ending at) tally = refl
  told_lines (reply.Figures figures) tally = refl

  lines_on : (xs : List Answered) (first last : HostState) → AreHostSteps network required xs first last → first.tally.lines + length xs < 2 ^ 64 - 1 → last.tally.lines ≡ first.tally.lines + length xs
  lines_on [] first last same few = ap (λ (s : HostState). s.tally.lines) same ∙ omega arith
  lines_on (x ∷ xs) first last (next, step, steps) few =
      let one : next.tally.lines ≡ one_more first.tally.lines = ap (λ (t : Tally). t.lines) step.tally ∙ told_lines x.reply first.tally in
      let more : next.tally.lines ≡ first.tally.lines + 1 = grind (arith, one, few) in
      let rest = lines_on xs next last steps (omega (arith, more, few)) in
      omega (arith, more, rest)

  pub lines_of : (since : List Entry) (xs : List Answered) (last : HostState) → AreHostSteps network required xs (host_from since) last → length xs < 2 ^ 64 - 1 → last.tally.lines ≡ length xs
  lines_of since xs last steps few = let counted = lines_on xs (host_from since) last steps (omega (arith, few)) in omega (arith, counted)
