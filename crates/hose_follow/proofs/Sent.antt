-- A packet of a leader that is the next one of a beginning of its list.
use Rattle.std.proofs.Common.{◌≡◌, ◌∙◌, ℕ, ◌+◌, List, [], ◌∷◌, ◌++◌, Some, length, take, ap, subst, arith}
use Rattle.std.specs.List.{slice_get}
use Rattle.std.proofs.lemmas.List.{length-take-le}
use Rattle.std.proofs.lemmas.Option.{slice_get_within}
use mathlib.Core.List.{IsPrefix}
use Rattle.hose_graph.specs.Network.{Network}
use Rattle.hose_graph.specs.declared.entry.Entry.{Entry}
use Rattle.hose_law.specs.History.{IsSoundAt, book_of}
use Rattle.hose_law.proofs.Fronts.{front_of}
use Rattle.hose_codec.specs.Spelling.{IsEntry, IsSpelling, spelling}
use Rattle.hose_codec.proofs.Entries.{same_entry}
use Rattle.hose_follow.specs.Packet.{Packet, packet_after}
use Rattle.hose_follow.specs.Replication.{IsLeader, IsSentOf}
use Rattle.hose_follow.proofs.Beginnings.{all_at, prefix_next, sound_next}

module _ (network : Network) (leader own : List Entry) (packet : Packet) where
  -- its entry goes on from the beginning, and the list goes on so
  pub record IsNext : Type 0 where
    pub entry : Entry
    pub is : packet ≡ packet_after network own entry
    pub is_entry : IsEntry entry
    pub prefix : IsPrefix (own ++ entry ∷ []) leader

  -- so it is by its epoch
  pub next_sent : IsLeader network leader → IsPrefix own leader → IsSentOf network leader packet → packet.epoch ≡ length own + 1 → IsNext
  next_sent is_leader begins (place, entry, here, is) epoch =
      let within = slice_get_within leader place entry here in
      let size : length (take place leader) ≡ place = length-take-le place leader (omega (arith, within)) in
      let at : place ≡ length own = omega (arith, epoch, ap (λ (p : Packet). p.epoch) is, size) in
      let fronts : take place leader ≡ own = ap (λ (n : ℕ). take n leader) at ∙ front_of own leader begins in
      record {
        entry = entry;
        is = is ∙ ap (λ (l : List Entry). packet_after network l entry) fronts;
        is_entry = all_at IsEntry leader place entry is_leader.spelled here;
        prefix = prefix_next own leader entry begins (subst (λ (n : ℕ). slice_get leader n ≡ Some entry) at here);
      }

  -- what it spells is that entry
  pub next_brought : (entry : Entry) (next : IsNext) → IsSpelling entry packet.body → IsPrefix (own ++ entry ∷ []) leader
  next_brought entry next spells =
      let spelled : packet.body ≡ spelling next.entry = ap (λ (p : Packet). p.body) next.is in
      let same = same_entry next.entry entry packet.body (record { is_entry = next.is_entry; spelled = spelled }) spells in
      subst (λ (e : Entry). IsPrefix (own ++ e ∷ []) leader) same next.prefix

  -- which is sound
  pub next_sound : IsLeader network leader → (next : IsNext) → IsSoundAt network (book_of 0 own) next.entry
  next_sound is_leader next = sound_next network own leader next.entry next.prefix is_leader.sound
