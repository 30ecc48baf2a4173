-- Equal chain values: one list begins the other.
use Rattle.std.proofs.Common.{subst, Option, None, Some, ◌≡◌, ◌∙◌, ◌⊎◌, inl, inr, ℕ, ◌≤◌, List, [], ◌∷◌, ◌++◌, length, take, drop, refl, sym, ap, arith, All, ⊎_elim, take-append-drop}
use Rattle.std.proofs.lemmas.List.{length-take-le}
use Rattle.std.proofs.lemmas.List.Elements.{All-take}
use mathlib.Core.List.{IsPrefix}
use Rattle.sha2.specs.Sha256.{sha256}
use Rattle.hose_graph.specs.declared.entry.Entry.{Entry}
use Rattle.hose_codec.specs.Spelling.{IsEntry}
use Rattle.hose_journal.specs.Chain.{chain}
use Rattle.hose_graph.specs.Network.{Network}
use Rattle.hose_disk.specs.declared.disk.Disk.{Ghosts}
use Rattle.hose_law.proofs.Epochs.{epoch_is}
use Rattle.hose_law.proofs.Fronts.{prefix_same}
use Rattle.hose_store.specs.Recovery.{digest_of}
use Rattle.hose_store.specs.Store.{IsHistoryWith}
use Rattle.hose_store.specs.steps.Store.{HasHistory, IsAmid, KeptStore}
use Rattle.hose_store.proofs.Spelled.{history_spelled}
use Rattle.hose_follow.specs.Packet.{Packet}
use Rattle.hose_follow.specs.Replication.{IsLeader}
use Rattle.hose_follow.specs.steps.Offering.{IsOffered}
use Rattle.hose_follow.specs.steps.Replication.{IsBeginning, Replication}
use Rattle.hose_follow.specs.declared.answers.Offered.TheVariants.{Differs}
use Rattle.hose_pair.specs.steps.Orders.{HasOrders}
use Rattle.hose_journal.specs.steps.Chain.{Collide, hashed}
use Rattle.hose_journal.proofs.Chains.{one_chain}

pub compared : (digest : List ℕ) (own leader : List Entry) → All IsEntry own → All IsEntry leader → length own ≤ length leader → chain digest own ≡ chain digest (take (length own) leader)
    → IsPrefix own leader ⊎ Collide sha256 (hashed digest own ++ hashed digest (take (length own) leader))
compared digest own leader is are low same = ⊎_elim
    (λ one. inl (drop (length own) leader, ap (λ (l : List Entry). l ++ drop (length own) leader) one ∙ take-append-drop (length own) leader))
    (λ collide. inr collide)
    (one_chain digest own (take (length own) leader) is (All-take IsEntry (length own) leader are) (sym (length-take-le (length own) leader low)) same)

module _ {D : Type 0} (disk : Ghosts D) (network : Network) where
  pub joins : (state : Replication D) (own : List Entry) (packet : Packet) (at : ℕ) (mine given : List ℕ) (left : KeptStore D) → IsLeader network state.leader → state.sent ≡ [] → state.told ≡ 0 → state.store.ledger.network ≡ network
      → HasHistory disk state.store own None → IsOffered disk state.store packet (Differs at mine given) left → at ≤ length state.leader → mine ≡ chain (digest_of network) (take at state.leader)
      → IsBeginning disk network state ⊎ Collide sha256 (hashed (digest_of network) own ++ hashed (digest_of network) (take (length own) state.leader))
  joins state own packet at mine given left leader sent told is_network has (other, _) low same =
      let count : at ≡ length own = other.at ∙ epoch_is state.store.ledger.book own has.book in
      let value : mine ≡ chain (digest_of network) own = other.own own None has ∙ ap (λ (n : Network). chain (digest_of n) own) is_network in
      let equal : chain (digest_of network) own ≡ chain (digest_of network) (take (length own) state.leader) =
      sym value ∙ same ∙ ap (λ (n : ℕ). chain (digest_of network) (take n state.leader)) count in
      ⊎_elim
      (λ begins. inl (record { leader = leader; sent = sent; told = told; is_network = is_network; own = own; has = has; begins = begins }))
      (λ collide. inr collide)
      (compared (digest_of network) own state.leader (history_spelled disk state.store own None has).0 leader.spelled (omega (arith, low, count)) equal)

  -- ---- the host's own disk

  of_with : (list : List Entry) (more : Option Entry) (image : List ℕ) → IsHistoryWith network list more image → HasOrders network list image
  of_with list None image none = absurd none
  of_with list (Some entry) image stands = record { list = list ++ entry ∷ []; stands = stands; has = (entry ∷ [], refl) }

  of_amid : (list : List Entry) (doubt : Option Entry) (image : List ℕ) → IsAmid network list doubt None image → HasOrders network list image
  of_amid list doubt image (inl stands) = record { list = list; stands = stands; has = prefix_same list }
  of_amid list doubt image (inr (inl more)) = of_with list doubt image more
  of_amid list doubt image (inr (inr none)) = absurd none

  pub own_disk : (store : KeptStore D) (list : List Entry) (doubt : Option Entry) (image : List ℕ) → store.ledger.network ≡ network → HasHistory disk store list doubt → disk.may_leave store.journal.disk image → HasOrders network list image
  own_disk store list doubt image is_network has may = of_amid list doubt image (subst (λ (n : Network). IsAmid n list doubt None image) is_network (has.images image may))
