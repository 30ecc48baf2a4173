-- A follower before it was compared with a leader, and since.
use Rattle.std.proofs.Common.{◌≡◌, ◌∙◌, ◌⊎◌, inl, inr, ⊎_elim, ℕ, zero, suc, ◌≤◌, List, [], ◌∷◌, ◌++◌, Option, None, length, take, refl, sym, ap, subst, arith, All, Contains}
use Rattle.std.specs.Option.{IfSome}
use Rattle.std.specs.Prelude.{⊤}
use Rattle.std.proofs.lemmas.List.{take-append-le}
use Rattle.std.proofs.lemmas.List.Elements.{All-cons, All-contains, All-head, All-nil, All-push, All-tail, All-weaker}
use mathlib.Core.List.{IsPrefix}
use Rattle.sha2.specs.Sha256.{sha256}
use Rattle.hose_graph.specs.Network.{Network}
use Rattle.hose_graph.specs.declared.entry.Entry.{Entry}
use Rattle.hose_codec.specs.Spelling.{IsSpelling}
use Rattle.hose_disk.specs.declared.disk.Disk.{Ghosts}
use Rattle.hose_journal.specs.Chain.{chain}
use Rattle.hose_journal.specs.Image.{Meaning, listed}
use Rattle.hose_journal.specs.steps.Chain.{Collide, hashed}
use Rattle.hose_law.proofs.Epochs.{epoch_is}
use Rattle.hose_law.proofs.Fronts.{prefix_length}
use Rattle.hose_store.specs.Recovery.{IsHistoryOf, IsRecoveredAs, digest_of}
use Rattle.hose_store.specs.steps.Store.{HasHistory, IsAmid, KeptStore}
use Rattle.hose_store.proofs.Spelled.{history_spelled}
use Rattle.hose_follow.specs.Packet.{Packet}
use Rattle.hose_follow.specs.Replication.{IsLeader, IsSentOf, packet_at}
use Rattle.hose_follow.specs.steps.Event.{Event, asks, offers, reopens, sends}
use Rattle.hose_follow.specs.steps.Offering.{BringsNone, IsOffered}
use Rattle.hose_follow.specs.steps.Replication.{IsFollowing, IsOfLeader, IsReopened, Lead, MayArrive, MayBeLeft, Replication, at_rest, told_after, within_closing, within_offer, within_opening}
use Rattle.hose_follow.specs.declared.answers.Offered.{Offered}
use Rattle.hose_follow.specs.declared.answers.Offered.TheVariants.{Have, Want, Differs, Memory, Unsound, Disk}
use Rattle.hose_follow.proofs.Asking.{asked_same, not_zero, spells_none}
use Rattle.hose_lead.specs.Leading.{IsCompared, no_value}
use Rattle.hose_pair.proofs.Carried.{Comes}
use Rattle.hose_pair.proofs.Compared.{compared}

-- ---- what answers tell

-- an answer tells no more than this
abbrev pub Within : ℕ → Offered → Type 0
Within most (Have n) = n ≤ most
Within most (Want n) = ⊤
Within most (Differs at own given) = ⊤
Within most Memory = ⊤
Within most (Unsound epoch) = ⊤
Within most (Disk at) = ⊤

within_more : (one other : ℕ) → one ≤ other → (answer : Offered) → Within one answer → Within other answer
within_more one other less (Have n) low = omega (arith, low, less)
within_more one other less (Want n) low = tt
within_more one other less (Differs at own given) low = tt
within_more one other less Memory low = tt
within_more one other less (Unsound epoch) low = tt
within_more one other less (Disk at) low = tt

within_after : (told : ℕ) (answer : Offered) → Within (told_after told answer) answer
within_after told (Have n) = omega arith
within_after told (Want n) = tt
within_after told (Differs at own given) = tt
within_after told Memory = tt
within_after told (Unsound epoch) = tt
within_after told (Disk at) = tt

pub told_more : (told : ℕ) (answer : Offered) → told ≤ told_after told answer
told_more told (Have n) = omega arith
told_more told (Want n) = omega arith
told_more told (Differs at own given) = omega arith
told_more told Memory = omega arith
told_more told (Unsound epoch) = omega arith
told_more told (Disk at) = omega arith

-- an answer tells no more than this history has, and its chain value
abbrev pub TellsOwn : Network → List Entry → Offered → Type 0
TellsOwn network own (Have n) = n ≤ length own
TellsOwn network own (Want n) = ⊤
TellsOwn network own (Differs at mine given) = (at ≡ length own) × (mine ≡ chain (digest_of network) own)
TellsOwn network own Memory = ⊤
TellsOwn network own (Unsound epoch) = ⊤
TellsOwn network own (Disk at) = ⊤

own_within : (network : Network) (own : List Entry) (answer : Offered) → TellsOwn network own answer → Within (length own) answer
own_within network own (Have n) tells = tells
own_within network own (Want n) tells = tt
own_within network own (Differs at mine given) tells = tt
own_within network own Memory tells = tt
own_within network own (Unsound epoch) tells = tt
own_within network own (Disk at) tells = tt

-- ---- packets that may come

abbrev Zero : Packet → Type 0
Zero packet = packet.body ≡ 0 ∷ []

module _ {D : Type 0} (disk : Ghosts D) (network : Network) where
  zero_none : (store : KeptStore D) (packet : Packet) → Zero packet → BringsNone disk store packet
  zero_none store packet empty = spells_none disk store packet (λ entry spells. not_zero entry (subst (IsSpelling entry) empty spells))

  -- what a follower is, as a leader's
  abbrev pub as_led : List Entry → List Packet → KeptStore D → ℕ → Replication D
  as_led leader sent store told = record { leader = leader; sent = sent; store = store; told = told }

  -- ---- before it was compared

  -- It has the history that it was opened with, and its answers told of that.
  pub record IsApart (own : List Entry) (store : KeptStore D) (said : List Offered) : Type 0 where
    pub is_network : store.ledger.network ≡ network
    pub has : HasHistory disk store own None
    pub told : All (TellsOwn network own) said

  module _ (own : List Entry) where
    tells_own : (store left : KeptStore D) (said : List Offered) (packet : Packet) (answer : Offered) → IsApart own store said → BringsNone disk store packet → IsOffered disk store packet answer left → TellsOwn network own answer
    tells_own store left said packet (Have n) apart none (inl past) = omega (arith, past.own, epoch_is store.ledger.book own apart.has.book)
    tells_own store left said packet (Have n) apart none (inr (entry, _, enters)) = absurd (none entry enters.due enters.brings.spells)
    tells_own store left said packet (Want n) apart none offered = tt
    tells_own store left said packet (Differs at mine given) apart none (other, _) = (
      other.at ∙ epoch_is store.ledger.book own apart.has.book,
      other.own own None apart.has ∙ ap (λ (n : Network). chain (digest_of n) own) apart.is_network,
    )
    tells_own store left said packet Memory apart none offered = tt
    tells_own store left said packet (Unsound epoch) apart none offered = tt
    tells_own store left said packet (Disk at) apart none offered = tt

    pub apart_on : (store left : KeptStore D) (said : List Offered) (packet : Packet) (answer : Offered) → IsApart own store said → Zero packet → IsOffered disk store packet answer left → IsApart own left (said ++ answer ∷ [])
    apart_on store left said packet answer apart empty offered =
        let none = zero_none store packet empty in
        let same = asked_same disk store left packet answer none offered in
        record {
          is_network = ap (λ (s : KeptStore D). s.ledger.network) same ∙ apart.is_network;
          has = subst (λ (s : KeptStore D). HasHistory disk s own None) (sym same) apart.has;
          told = All-push (TellsOwn network own) said answer apart.told (tells_own store left said packet answer apart none offered);
        }

    -- ---- its images

    of_amid : (image : List ℕ) → IsAmid network own None None image → IsHistoryOf network own image
    of_amid image (inl stands) = stands
    of_amid image (inr (inl none)) = absurd none
    of_amid image (inr (inr none)) = absurd none

    module _ (once : (image : List ℕ) (one other : Meaning Entry) → IsRecoveredAs network image one → IsRecoveredAs network image other → one ≡ other)
        (only_now : (now : D) (image : List ℕ) → disk.left_since now (disk.moment now) image → disk.may_leave now image) where
      listed_same : (one other : List Entry) → listed one ≡ listed other → one ≡ other
      listed_same one other same = cc same

      same_history : (one other : List Entry) (image : List ℕ) → IsHistoryOf network one image → IsHistoryOf network other image → one ≡ other
      same_history one other image stands stands' = listed_same one other (once image (listed one) (listed other) stands stands')

      rests : (store : KeptStore D) (said : List Offered) (image : List ℕ) → IsApart own store said → disk.may_leave store.journal.disk image → IsHistoryOf network own image
      rests store said image apart may = of_amid image (subst (λ (n : Network). IsAmid n own None None image) apart.is_network (apart.has.images image may))

      module _ (coming : List Packet) (zeros : All Zero coming) where
        arrives_none : (store : KeptStore D) (packet : Packet) → MayArrive disk (as_led [] coming store 0) packet → BringsNone disk store packet
        arrives_none store packet (inl there) = zero_none store packet (All-contains Zero coming packet zeros there)
        arrives_none store packet (inr none) = none

        apart_image : (store : KeptStore D) (said : List Offered) (image : List ℕ) → IsApart own store said → MayBeLeft disk network (as_led [] coming store 0) image → IsHistoryOf network own image
        apart_image store said image apart (at_rest may) = rests store said image apart may
        apart_image store said image apart (within_offer packet answer left arrives offered since) =
            let same = asked_same disk store left packet answer (arrives_none store packet arrives) offered in
            rests store said image apart (only_now store.journal.disk image (subst (λ (s : KeptStore D). disk.left_since s.journal.disk (disk.moment store.journal.disk) image) same since))
        apart_image store said image apart (within_closing left result closed since) =
            of_amid image (subst (λ (n : Network). IsAmid n own None None image) apart.is_network ((closed.any_moment own None apart.has).each image since))
        apart_image store said more apart (within_opening {image} was now before holds alone leaves since) = ⊎_elim
            (λ may. subst (IsHistoryOf network own) (sym (alone more may)) (apart_image store said image apart before))
            (λ read. subst (λ (l : List Entry). IsHistoryOf network l more)
            (sym (same_history own read.0 image (apart_image store said image apart before) (subst (λ (content : Option (List ℕ)). IfSome content (IsHistoryOf network read.0)) holds read.1))) read.2)
            (leaves.each more since)

        pub apart_reopened : (store next : KeptStore D) (said : List Offered) (image : List ℕ) → IsApart own store said → MayBeLeft disk network (as_led [] coming store 0) image → IsReopened disk network image next → IsApart own next []
        apart_reopened store next said image apart may (was, holds, opened) =
            let same = same_history opened.history own image (subst (λ (content : Option (List ℕ)). IfSome content (IsHistoryOf network opened.history)) holds opened.read) (apart_image store said image apart may) in
            record {
              is_network = opened.network;
              has = subst (λ (l : List Entry). HasHistory disk next l None) same opened.has;
              told = All-nil (TellsOwn network own);
            }

  -- ---- since it was compared

  -- It follows the leader, and has each entry that its answers told, which are no more than this.
  pub record IsWith (leader : List Entry) (most : ℕ) (store : KeptStore D) (said : List Offered) : Type 0 where
    pub following : IsFollowing disk network (as_led leader [] store most)
    pub told : All (Within most) said

  module _ (leader : List Entry) (is_leader : IsLeader network leader) where
    pub least_low : (least most : ℕ) (image : List ℕ) → least ≤ most → IsOfLeader network leader most image → IsOfLeader network leader least image
    least_low least most image low of = record { list = of.list; stands = of.stands; begins = of.begins; told = omega (arith, low, of.told) }

    -- the same with other packets of the leader
    sent_too : (sent more : List Packet) (store : KeptStore D) (told : ℕ) → IsFollowing disk network (as_led leader sent store told) → All (IsSentOf network leader) more → IsFollowing disk network (as_led leader more store told)
    sent_too sent more store told following are = record {
      leader = following.leader;
      sent = are;
      is_network = following.is_network;
      own = following.own;
      doubt = following.doubt;
      has = following.has;
      begins = following.begins;
      doubtful = following.doubtful;
      told = following.told;
    }

    -- the follower was compared with a beginning of the leader's list
    pub with_compared : (own list : List Entry) (store : KeptStore D) (said : List Offered) (start : ℕ) (lines : List (List ℕ)) → IsApart own store said → IsPrefix list leader → (same : IsCompared network list lines start) → Contains said (Differs start same.own no_value)
        → IsWith leader (length own) store said ⊎ Collide sha256 (hashed (digest_of network) own ++ hashed (digest_of network) (take (length own) leader))
    with_compared own list store said start lines apart (more, longer) same there =
        let tells = All-contains (TellsOwn network own) said (Differs start same.own no_value) apart.told there in
        let within = same.same.within in
        let fronts : take start list ≡ take (length own) leader =
        sym (take-append-le start list more within) ∙ ap (take start) longer ∙ ap (λ (n : ℕ). take n leader) tells.0 in
        let chains : chain (digest_of network) own ≡ chain (digest_of network) (take (length own) leader) =
        sym tells.1 ∙ same.same.is ∙ ap (chain (digest_of network)) fronts in
        let low : length own ≤ length leader = omega (arith, within, tells.0, prefix_length list leader (more, longer)) in
        ⊎_elim
        (λ begins. inl (record {
          following = record {
            leader = is_leader;
            sent = All-nil (IsSentOf network leader);
            is_network = apart.is_network;
            own = own;
            doubt = None;
            has = apart.has;
            begins = begins;
            doubtful = tt;
            told = omega arith;
          };
          told = All-weaker (TellsOwn network own) (Within (length own)) (own_within network own) said apart.told;
        }))
        (λ collide. inr collide)
        (compared (digest_of network) own leader (history_spelled disk store own None apart.has).0 is_leader.spelled low chains)

    module _ (stays : (old new : Replication D) (events : List Event) → IsFollowing disk network old → Lead disk network old events new → IsFollowing disk network new) where
      answered : (most : ℕ) (store left : KeptStore D) (said : List Offered) (answer : Offered) (was : IsWith leader most store said) → IsFollowing disk network (as_led leader [] left (told_after most answer)) → IsWith leader (told_after most answer) left (said ++ answer ∷ [])
      answered most store left said answer was following = record {
        following = following;
        told = All-push (Within (told_after most answer)) said answer
            (All-weaker (Within most) (Within (told_after most answer)) (within_more most (told_after most answer) (told_more most answer)) said was.told)
            (within_after most answer);
      }

      asked_on : (store left : KeptStore D) (packet : Packet) (answer : Offered) (most : ℕ) → IsFollowing disk network (as_led leader [] store most) → Zero packet → IsOffered disk store packet answer left → IsFollowing disk network (as_led leader [] left (told_after most answer))
      asked_on store left packet answer most following empty offered =
          let new = as_led leader [] left (told_after most answer) in
          stays (as_led leader [] store most) new (asks packet answer ∷ []) following (new, (zero_none store packet empty, offered, refl), refl)

      sent_on : (store left : KeptStore D) (packet : Packet) (answer : Offered) (most : ℕ) → IsFollowing disk network (as_led leader [] store most) → IsSentOf network leader packet → IsOffered disk store packet answer left → IsFollowing disk network (as_led leader [] left (told_after most answer))
      sent_on store left packet answer most following (place, entry, there, is) offered =
          let sent = packet_at network leader place entry ∷ [] in
          let middle = as_led leader sent store most in
          let new = as_led leader sent left (told_after most answer) in
          let now = stays (as_led leader [] store most) new (sends place ∷ offers packet answer ∷ []) following (middle, (entry, there, refl), (new, ((0, omega arith, sym is), offered, refl), refl)) in
          sent_too sent [] left (told_after most answer) now (All-nil (IsSentOf network leader))

      module _ (lines : List (List ℕ)) (list : List Entry) (begins : IsPrefix list leader) where
        abbrev May : Packet → Type 0
        May packet = Comes network leader is_leader lines list begins packet

        -- a packet more is answered
        pub with_offered : (most : ℕ) (store left : KeptStore D) (said : List Offered) (packet : Packet) (answer : Offered) → (was : IsWith leader most store said) → May packet → IsOffered disk store packet answer left → IsWith leader (told_after most answer) left (said ++ answer ∷ [])
        with_offered most store left said packet answer was (inl empty) offered = answered most store left said answer was (asked_on store left packet answer most was.following empty offered)
        with_offered most store left said packet answer was (inr (sent, _)) offered = answered most store left said answer was (sent_on store left packet answer most was.following sent offered)

        -- ---- stops

        record Sorted (coming : List Packet) : Type 0 where
          sents : List Packet
          are : All (IsSentOf network leader) sents
          has : (packet : Packet) → Contains coming packet → Contains sents packet ⊎ Zero packet

        further : (one packet : Packet) (sents : List Packet) → Contains sents packet ⊎ Zero packet → Contains (one ∷ sents) packet ⊎ Zero packet
        further one packet sents (inl (k, below, is)) = inl (suc k, omega (arith, below), is)
        further one packet sents (inr empty) = inr empty

        sorted : (coming : List Packet) → All May coming → Sorted coming
        sorted [] may = record { sents = []; are = All-nil (IsSentOf network leader); has = λ packet there. absurd (omega (arith, there.1)) }
        sorted (one ∷ coming) may = by (All-head May one coming may) (sorted coming (All-tail May one coming may))
          where
            by : May one → Sorted coming → Sorted (one ∷ coming)
            by (inl empty) rest = record { sents = rest.sents; are = rest.are; has = find }
              where
                find : (packet : Packet) → Contains (one ∷ coming) packet → Contains rest.sents packet ⊎ Zero packet
                find packet (zero, below, is) = inr (subst Zero is empty)
                find packet (suc k, below, is) = rest.has packet (k, omega (arith, below), is)
            by (inr (sent, same)) rest = record { sents = one ∷ rest.sents; are = All-cons (IsSentOf network leader) one rest.sents sent rest.are; has = find }
              where
                find : (packet : Packet) → Contains (one ∷ coming) packet → Contains (one ∷ rest.sents) packet ⊎ Zero packet
                find packet (zero, below, is) = inl (0, omega arith, is)
                find packet (suc k, below, is) = further one packet rest.sents (rest.has packet (k, omega (arith, below), is))

        module _ (coming : List Packet) (sort : Sorted coming) (store : KeptStore D) (most : ℕ) where
          may_too : (packet : Packet) → MayArrive disk (as_led [] coming store 0) packet → MayArrive disk (as_led leader sort.sents store most) packet
          may_too packet (inl there) = ⊎_elim (λ sent. inl sent) (λ empty. inr (zero_none store packet empty)) (sort.has packet there)
          may_too packet (inr none) = inr none

          left_too : (image : List ℕ) → MayBeLeft disk network (as_led [] coming store 0) image → MayBeLeft disk network (as_led leader sort.sents store most) image
          left_too image (at_rest may) = at_rest may
          left_too image (within_offer packet answer left arrives offered since) = within_offer packet answer left (may_too packet arrives) offered since
          left_too image (within_closing left result closed since) = within_closing left result closed since
          left_too image (within_opening {image = before_image} was now before holds alone leaves since) = within_opening was now (left_too before_image before) holds alone leaves since

        module _ (coming : List Packet) (may : All May coming) where
          abbrev sort : Sorted coming
          sort = sorted coming may

          -- each image has what was told
          pub with_image : (images : (state : Replication D) (image : List ℕ) → IsFollowing disk network state → MayBeLeft disk network state image → IsOfLeader network state.leader state.told image)
              → (most : ℕ) (store : KeptStore D) (said : List Offered) (image : List ℕ) → IsWith leader most store said → MayBeLeft disk network (as_led [] coming store 0) image → IsOfLeader network leader most image
          with_image images most store said image was left =
              images (as_led leader sort.sents store most) image (sent_too [] sort.sents store most was.following sort.are) (left_too coming sort store most image left)

          pub with_reopened : (most : ℕ) (store next : KeptStore D) (said : List Offered) (image : List ℕ) → IsWith leader most store said → MayBeLeft disk network (as_led [] coming store 0) image → IsReopened disk network image next → IsWith leader most next []
          with_reopened most store next said image was left opened =
              let new = as_led leader sort.sents next most in
              let now = stays (as_led leader sort.sents store most) new (reopens image ∷ []) (sent_too [] sort.sents store most was.following sort.are) (new, (left_too coming sort store most image left, opened, refl), refl) in
              record { following = sent_too sort.sents [] next most now (All-nil (IsSentOf network leader)); told = All-nil (Within most) }

        -- packets that may come are such that bring no entry, or the follower was compared
        pub zeros_or : (coming : List Packet) → All May coming → All Zero coming ⊎ ((start : ℕ) × IsCompared network list lines start)
        zeros_or [] may = inl (All-nil Zero)
        zeros_or (one ∷ coming) may = by (All-head May one coming may) (zeros_or coming (All-tail May one coming may))
          where
            by : May one → All Zero coming ⊎ ((start : ℕ) × IsCompared network list lines start) → All Zero (one ∷ coming) ⊎ ((start : ℕ) × IsCompared network list lines start)
            by (inl empty) (inl zeros) = inl (All-cons Zero one coming empty zeros)
            by (inl empty) (inr same) = inr same
            by (inr (sent, same)) rest = inr same
