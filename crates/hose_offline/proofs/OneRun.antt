-- Without want of memory no other output is right for an input.
use Rattle.std.proofs.Common.{◌≡◌, ℕ, List, [], ◌∷◌, All, ◌∙◌, ap, subst, sym}
use Rattle.std.proofs.lemmas.List.Elements.{All-cons, All-head, All-nil, All-tail}
use Rattle.hose_graph.specs.declared.entry.Entry.{Entry}
use Rattle.hose_graph.specs.declared.command.Reply.{Reply}
use Rattle.hose_graph.specs.Network.{Network, IsNetwork}
use Rattle.hose_law.specs.Quotes.{Holdings, nothing_held}
use Rattle.hose_law.specs.Script.{ReadLine, IsForMemory, IsLineStep, IsScript, WithoutMemory, ScriptState, script_state}
use Rattle.hose_law.specs.Script.ReadLine.{Asks, IsBad, IsLong, Unread}
use Rattle.hose_law.proofs.Unique.{AllAnswer, script_unique}
use Rattle.hose_offline.specs.Run.{IsRightFor}
use Rattle.hose_proto.specs.Replies.{texts_of}
use Rattle.hose_words.specs.Saying.{SayLines}
use Rattle.hose_offline.specs.Talking.{Says}
use Rattle.hose_offline.specs.steps.Talking.{IsRead}
use Rattle.hose_topo.specs.TopologyText.{IsTopologyText}
use Rattle.hose_offline.proofs.OneReading.{OneThingEach, lines_unique}

-- a line that was left unread has a reply for want of memory
line_read : (network : Network) (line : ReadLine) (reply : Reply) (old new : ScriptState) → IsLineStep network 0 line reply old new → ¬ IsForMemory reply → IsRead line
line_read network (Asks customer command) reply old new step without = tt
line_read network (IsBad word) reply old new step without = tt
line_read network IsLong reply old new step without = tt
line_read network Unread reply old new step without = absurd (without (subst IsForMemory (sym step.0) tt))

-- where no reply is for want of memory, each line was read
lines_read : (network : Network) (lines : List ReadLine) (replies : List Reply) (first last : ScriptState) → IsScript network 0 lines replies first last → WithoutMemory replies → All IsRead lines
lines_read network [] replies first last script without = All-nil IsRead
lines_read network (line ∷ lines) [] first last script without = absurd script
lines_read network (line ∷ lines) (reply ∷ replies) first last script without =
    All-cons IsRead line lines (line_read network line reply first script.0 script.1 (All-head (λ r. ¬ IsForMemory r) reply replies without)) (lines_read network lines replies script.0 last script.2 (All-tail (λ r. ¬ IsForMemory r) reply replies without))

-- the input is the text of this network and of no other, and leaves this
abbrev pub OneText : List ℕ → Network → List ℕ → Type 0
OneText input network rest = (other : Network) (more : List ℕ) → IsTopologyText input other more → (other ≡ network) × (more ≡ rest)

-- the input is the text of one network, and then each line says one thing
pub record OneInput (input : List ℕ) (told network : Network) : Type 0 where
  pub rest : List ℕ
  pub text : OneText input told rest
  pub lines : OneThingEach network rest

-- an output that is right for an input and the history of a book is the only one
pub right_alone : (prices : Network → Network → Type 0) (told network : Network) (since : List Entry) (input rest output : List ℕ) (lines : List ReadLine) (replies : List Reply) (history : List Entry) (left : Holdings) → IsNetwork network → OneInput input told network
    → IsTopologyText input told rest → SayLines (λ _. Says network) rest lines [] → IsScript network 0 lines replies (script_state since nothing_held) (script_state history left) → AllAnswer replies → IsRightFor prices network since input output → output ≡ texts_of network replies
right_alone prices told network since input rest output lines replies history left is one topology said script all right =
    let start = script_state since nothing_held in
    let their_end = script_state right.history right.left in
    let theirs = one.text right.told right.rest right.topology in
    let ours = (one.text told rest topology).1 in
    let same_rest : right.rest ≡ rest = theirs.1 ∙ sym ours in
    let their_said : SayLines (λ _. Says network) rest right.lines [] = subst (λ (r : List ℕ). SayLines (λ _. Says network) r right.lines []) same_rest right.said in
    let same_lines = lines_unique network rest right.lines lines (subst (OneThingEach network) (sym ours) one.lines) their_said said
    (lines_read network right.lines right.replies start their_end right.script right.memory) (lines_read network lines replies start (script_state history left) script all.memory) in
    let moved : IsScript network 0 lines right.replies start their_end = subst (λ (l : List ReadLine). IsScript network 0 l right.replies start their_end) same_lines right.script in
    let same_replies = script_unique network is 0 lines right.replies replies start their_end (script_state history left) moved script (record { memory = right.memory; disk = right.disk }) all in
    right.out ∙ ap (texts_of network) same_replies.0
