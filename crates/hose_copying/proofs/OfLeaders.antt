-- Packets of a leader that were answered one after another by a follower of its list.
use Rattle.std.proofs.Common.{◌∙◌, inl, inr, List, [], ◌∷◌, ◌++◌, Some, All, refl, sym, ap, subst}
use Rattle.std.proofs.lemmas.List.Elements.{All-pop}
use mathlib.Core.List.{IsPrefix}
use Rattle.hose_graph.specs.Network.{Network}
use Rattle.hose_graph.specs.declared.entry.Entry.{Entry}
use Rattle.hose_codec.specs.Spelling.{IsSpelling}
use Rattle.hose_follow.specs.Packet.{Packet}
use Rattle.hose_follow.specs.Replication.{IsLeader, IsSentOf}
use Rattle.hose_follow.specs.declared.answers.Offered.{Offered}
use Rattle.hose_follow.specs.declared.answers.Offered.TheVariants.{Have, Want, Differs, Memory, Unsound, Disk}
use Rattle.hose_follow.proofs.Sent.{next_brought, next_sent, next_sound}
use Rattle.hose_copying.specs.Following.{AnswersPacket, AreNotRefused, ArePacketsAnswered, FollowsLeaders, IsNoRefusal, IsSentOrAsks, no_refusal, no_refusal_more, none_yet, packet_more}

module _ (network : Network) (leader : List Entry) (legal : IsLeader network leader) where
  -- one packet more of the list
  one_more : (packet : Packet) (old new : List Entry) (answer : Offered) → IsSentOf network leader packet → IsPrefix old leader → AnswersPacket network old packet answer new → IsPrefix new leader × IsNoRefusal answer
  one_more packet old new (Have n) sent begins (inl past) = (subst (λ (l : List Entry). IsPrefix l leader) (sym past.2) begins, tt)
  one_more packet old new (Have n) sent begins (inr (entry, due, brings, _, is)) =
      let next = next_sent network leader old packet legal begins sent due.epoch in
      (subst (λ (l : List Entry). IsPrefix l leader) (sym is) (next_brought network leader old packet entry next brings.spells), tt)
  one_more packet old new (Want n) sent begins at = (subst (λ (l : List Entry). IsPrefix l leader) (sym at.2) begins, tt)
  one_more packet old new (Differs place own given) sent begins (other, _, _) =
      let next = next_sent network leader old packet legal begins sent other.epoch in
      absurd (other.differs (other.given_value ∙ (ap (λ (p : Packet). p.chain) next.is ∙ sym other.own_value)))
  one_more packet old new Memory sent begins at = (subst (λ (l : List Entry). IsPrefix l leader) (sym at.2) begins, tt)
  one_more packet old new (Unsound epoch) sent begins (due, none, _, _) =
      let next = next_sent network leader old packet legal begins sent due.epoch in
      absurd (none next.entry (record {
        spells = record { is_entry = next.is_entry; spelled = ap (λ (p : Packet). p.body) next.is };
        sound = next_sound network leader old packet legal next;
      }))
  one_more packet old new (Disk place) sent begins at = (subst (λ (l : List Entry). IsPrefix l leader) (sym at.2) begins, tt)

  -- one that spells no entry
  asked_more : (packet : Packet) (old new : List Entry) (answer : Offered) → ((entry : Entry) → ¬ IsSpelling entry packet.body) → IsPrefix old leader → AnswersPacket network old packet answer new → IsPrefix new leader
  asked_more packet old new (Have n) none begins (inl past) = subst (λ (l : List Entry). IsPrefix l leader) (sym past.2) begins
  asked_more packet old new (Have n) none begins (inr (entry, due, brings, _, _)) = absurd (none entry brings.spells)
  asked_more packet old new (Want n) none begins at = subst (λ (l : List Entry). IsPrefix l leader) (sym at.2) begins
  asked_more packet old new (Differs place own given) none begins at = subst (λ (l : List Entry). IsPrefix l leader) (sym at.2) begins
  asked_more packet old new Memory none begins at = subst (λ (l : List Entry). IsPrefix l leader) (sym at.2) begins
  asked_more packet old new (Unsound epoch) none begins at = subst (λ (l : List Entry). IsPrefix l leader) (sym at.3) begins
  asked_more packet old new (Disk place) none begins at = subst (λ (l : List Entry). IsPrefix l leader) (sym at.2) begins

  begins_more : (packet : Packet) (old new : List Entry) (answer : Offered) → IsSentOrAsks network leader packet → IsPrefix old leader → AnswersPacket network old packet answer new → IsPrefix new leader
  begins_more packet old new answer (inl sent) begins at = (one_more packet old new answer sent begins at).0
  begins_more packet old new answer (inr none) begins at = asked_more packet old new answer none begins at

  all_more : (since : List Entry) (packets : List Packet) (answers : List Offered) (history : List Entry) → ArePacketsAnswered network since packets answers history → IsPrefix since leader → All (IsSentOrAsks network leader) packets → IsPrefix history leader × AreNotRefused network leader packets answers
  all_more since packets answers history none_yet begins sent = (begins, no_refusal)
  all_more since packets answers history (packet_more {packets = front} packet answer before at) begins sent =
      let parts = All-pop (IsSentOrAsks network leader) (front ++ packet ∷ []) front (Some packet) refl sent in
      let led = all_more since _ _ _ before begins parts.0 in
      (begins_more packet _ history answer parts.1 led.0 at, no_refusal_more packet answer led.1 (λ sent. (one_more packet _ history answer sent led.0 at).1))

pub follows_leaders : (network : Network) (packets : List Packet) (answers : List Offered) (since history : List Entry) → ArePacketsAnswered network since packets answers history → FollowsLeaders network packets answers since history
follows_leaders network packets answers since history answered = λ leader legal begins sent. all_more network leader legal since packets answers history answered begins sent
