-- What a follower has is a beginning of the leader's list, after any events.
use Rattle.std.proofs.Common.{◌≡◌, ◌∙◌, ℕ, ◌+◌, ◌≤◌, max, List, [], ◌∷◌, ◌++◌, Option, None, Some, Result, length, refl, sym, ap, subst, inl, inr, arith, All, Contains, length-append}
use Rattle.std.specs.List.{slice_get}
use Rattle.std.specs.Option.{IfSome}
use Rattle.std.proofs.lemmas.List.{take-append-le}
use Rattle.std.proofs.lemmas.List.Elements.{All-contains, All-nil, All-weaker, All-push}
use Rattle.std.proofs.lemmas.Option.{slice_get_within}
use Rattle.std.specs.Prelude.{⊤}
use mathlib.Core.List.{IsPrefix}
use Rattle.hose_io.specs.declared.Failed.{Failed}
use Rattle.hose_graph.specs.Network.{Network}
use Rattle.hose_graph.specs.declared.entry.Entry.{Entry}
use Rattle.hose_law.specs.Book.{Book}
use Rattle.hose_law.specs.History.{IsDecided, IsSound, IsSoundAt, book_of, opening_book}
use Rattle.hose_law.proofs.Fronts.{prefix_push}
use Rattle.hose_law.proofs.Scripts.{decided_push, sound_push}
use Rattle.hose_book.specs.Ledger.{Ledger}
use Rattle.hose_book.specs.declared.books.Committed.{Committed}
use Rattle.hose_book.specs.declared.books.Committed.TheVariants as committed
use Rattle.hose_codec.specs.Spelling.{IsEntry}
use Rattle.hose_disk.specs.declared.disk.Disk.{Ghosts}
use Rattle.hose_journal.specs.Chain.{chain}
use Rattle.hose_journal.specs.Image.{Meaning, listed}
use Rattle.hose_store.specs.Opening.{IsAtOpening}
use Rattle.hose_store.specs.steps.Commit.{Closes, IsLeft}
use Rattle.hose_store.specs.Recovery.{IsHistoryOf, IsRecoveredAs, digest_of}
use Rattle.hose_store.specs.Store.{IsHistoryWith}
use Rattle.hose_store.specs.steps.Store.{HasHistory, IsAmid, KeptStore}
use Rattle.hose_follow.specs.steps.Event.{Event, accepts, asks, offers, reopens, sends}
use Rattle.hose_follow.specs.steps.Offering.{Brings, BringsNone, Enters, IsDue, IsOffered, epoch_of}
use Rattle.hose_follow.specs.Packet.{Packet, packet_after}
use Rattle.hose_follow.specs.Replication.{IsSentOf, packet_at}
use Rattle.hose_follow.specs.steps.Replication.{AcceptsDecided, Happens, IsBeginning, IsFollowing, IsOfLeader, IsReopened, Lead, MayBeLeft, Replication, at_rest, told_after, within_closing, within_offer, within_opening}
use Rattle.hose_follow.specs.declared.answers.Offered.{Offered}
use Rattle.hose_follow.specs.declared.answers.Offered.TheVariants.{Have, Want, Differs, Memory, Unsound, Disk}
use Rattle.hose_law.proofs.Epochs.{epoch_is}
use Rattle.hose_follow.proofs.Asking.{asked_same, asked_told}
use Rattle.hose_follow.proofs.Beginnings.{decided_front, get_longer, sound_front}
use Rattle.hose_follow.proofs.Sent.{IsNext, next_brought, next_sent, next_sound}

-- an image's list, where an image stands for one list only
listed_same : (one other : List Entry) → listed one ≡ listed other → one ≡ other
listed_same one other same = cc same

max_low : (one other most : ℕ) → one ≤ most → other ≤ most → max one other ≤ most
max_low one other most low also = grind (arith, low, also)

module _ {D : Type 0} (disk : Ghosts D) (network : Network) where
  -- a packet that was sent is that of its place in every longer list
  sent_longer : (leader more : List Entry) (packet : Packet) → IsSentOf network leader packet → IsSentOf network (leader ++ more) packet
  sent_longer leader more packet (place, entry, there, is) =
      let within = slice_get_within leader place entry there in
      let fronts = take-append-le place leader more (omega (arith, within)) in
      (place, entry, get_longer leader more place entry there, is ∙ ap (λ (l : List Entry). packet_after network l entry) (sym fronts))

  epoch_own : (state : Replication D) (following : IsFollowing disk network state) → epoch_of state.store ≡ length following.own
  epoch_own state following = epoch_is state.store.ledger.book following.own following.has.book

  -- the entry of a packet that was sent and has the follower's next epoch
  next_of : (state : Replication D) (packet : Packet) (following : IsFollowing disk network state) → Contains state.sent packet → packet.epoch ≡ epoch_of state.store + 1 → IsNext network state.leader following.own packet
  next_of state packet following there epoch =
      next_sent network state.leader following.own packet following.leader following.begins (All-contains (IsSentOf network state.leader) state.sent packet following.sent there) (omega (arith, epoch, epoch_own state following))

  -- what the packet of a due entry brings is that entry
  brought : (state : Replication D) (packet : Packet) (entry : Entry) (following : IsFollowing disk network state) → Contains state.sent packet → IsDue disk state.store packet → Brings state.store.ledger packet entry
      → IsPrefix (following.own ++ entry ∷ []) state.leader
  brought state packet entry following there due brings = next_brought network state.leader following.own packet entry (next_of state packet following there due.epoch) brings.spells

  -- ---- the answers that never come

  pub never_differs : (state : Replication D) (packet : Packet) (at : ℕ) (own given : List ℕ) (left : KeptStore D) → IsFollowing disk network state → Contains state.sent packet → ¬ IsOffered disk state.store packet (Differs at own given) left
  never_differs state packet at own given left following there (other, _) =
      let next = next_of state packet following there other.epoch in
      let mine : own ≡ chain (digest_of network) following.own =
      other.own following.own following.doubt following.has ∙ ap (λ (n : Network). chain (digest_of n) following.own) following.is_network in
      other.differs (other.given ∙ ap (λ (p : Packet). p.chain) next.is ∙ sym mine)

  pub never_unsound : (state : Replication D) (packet : Packet) (epoch : ℕ) (left : KeptStore D) → IsFollowing disk network state → Contains state.sent packet → ¬ IsOffered disk state.store packet (Unsound epoch) left
  never_unsound state packet epoch left following there (due, none, _, _) =
      let next = next_of state packet following there due.epoch in
      let sound = next_sound network state.leader following.own packet following.leader next in
      let here = subst (λ (book : Book). IsSoundAt network book next.entry) (sym following.has.book) sound in
      none next.entry (record {
        spells = record { is_entry = next.is_entry; spelled = ap (λ (p : Packet). p.body) next.is };
        sound = subst (λ (n : Network). IsSoundAt n state.store.ledger.book next.entry) (sym following.is_network) here;
      })

  -- ---- images

  with_one : (leader own : List Entry) (one : Option Entry) (told : ℕ) (image : List ℕ) → IfSome one (λ entry. IsPrefix (own ++ entry ∷ []) leader) → told ≤ length own → IsHistoryWith network own one image → IsOfLeader network leader told image
  with_one leader own None told image prefix low none = absurd none
  with_one leader own (Some entry) told image prefix low stands = record { list = own ++ entry ∷ []; stands = stands; begins = prefix; told = omega (arith, low, length-append own (entry ∷ [])) }

  of_leader : (leader own : List Entry) (doubt writing : Option Entry) (told : ℕ) (image : List ℕ) → IsPrefix own leader → IfSome doubt (λ entry. IsPrefix (own ++ entry ∷ []) leader) → IfSome writing (λ entry. IsPrefix (own ++ entry ∷ []) leader)
      → told ≤ length own → IsAmid network own doubt writing image → IsOfLeader network leader told image
  of_leader leader own doubt writing told image begins doubtful written low (inl stands) = record { list = own; stands = stands; begins = begins; told = low }
  of_leader leader own doubt writing told image begins doubtful written low (inr (inl stands)) = with_one leader own doubt told image doubtful low stands
  of_leader leader own doubt writing told image begins doubtful written low (inr (inr stands)) = with_one leader own writing told image written low stands

  image_of : (state : Replication D) (image : List ℕ) → IsFollowing disk network state → disk.may_leave state.store.journal.disk image → IsOfLeader network state.leader state.told image
  image_of state image following left =
      let amid = subst (λ (n : Network). IsAmid n following.own following.doubt None image) following.is_network (following.has.images image left) in
      of_leader state.leader following.own following.doubt None state.told image following.begins following.doubtful tt following.told amid

  module _ (only_now : (now : D) (image : List ℕ) → disk.left_since now (disk.moment now) image → disk.may_leave now image) where
    kept_image : (state : Replication D) (left : KeptStore D) (image : List ℕ) → IsFollowing disk network state → left ≡ state.store → disk.left_since left.journal.disk (disk.moment state.store.journal.disk) image → IsOfLeader network state.leader state.told image
    kept_image state left image following same is =
        let here = subst (λ (store : KeptStore D). disk.left_since store.journal.disk (disk.moment state.store.journal.disk) image) same is in
        image_of state image following (only_now state.store.journal.disk image here)

    entered_image : (state : Replication D) (packet : Packet) (entry : Entry) (result : Committed) (left : KeptStore D) (image : List ℕ) → IsFollowing disk network state → Contains state.sent packet → Enters disk state.store packet entry result left
        → disk.left_since left.journal.disk (disk.moment state.store.journal.disk) image → IsOfLeader network state.leader state.told image
    entered_image state packet entry result left image following there enters is =
        let prefix = brought state packet entry following there enters.due enters.brings in
        let run = enters.went.any_moment following.own following.doubt following.has in
        let amid = subst (λ (n : Network). IsAmid n following.own following.doubt (Some entry) image) following.is_network (run.each image is) in
        of_leader state.leader following.own following.doubt (Some entry) state.told image following.begins following.doubtful prefix following.told amid

    -- at each moment within an offer of a packet that was sent
    moment_of : (state : Replication D) (packet : Packet) (answer : Offered) (left : KeptStore D) (image : List ℕ) → IsFollowing disk network state → Contains state.sent packet → IsOffered disk state.store packet answer left
        → disk.left_since left.journal.disk (disk.moment state.store.journal.disk) image → IsOfLeader network state.leader state.told image
    moment_of state packet (Have n) left image following there (inl past) is = kept_image state left image following past.same is
    moment_of state packet (Have n) left image following there (inr (entry, _, enters)) is = entered_image state packet entry committed.Done left image following there enters is
    moment_of state packet (Want n) left image following there offered is = kept_image state left image following offered.2 is
    moment_of state packet (Differs at own given) left image following there offered is = kept_image state left image following offered.1 is
    moment_of state packet Memory left image following there offered is = kept_image state left image following offered.2 is
    moment_of state packet (Unsound epoch) left image following there offered is = kept_image state left image following offered.3 is
    moment_of state packet (Disk at) left image following there (entry, _, enters) is = entered_image state packet entry committed.Disk left image following there enters is

  -- at each moment of an orderly closing
  closing_image : (state : Replication D) (left : D) (image : List ℕ) → IsFollowing disk network state → (result : Result ⊤ Failed) → Closes disk state.store left result → disk.left_since left (disk.moment state.store.journal.disk) image → IsOfLeader network state.leader state.told image
  closing_image state left image following result closed since =
      let run = closed.any_moment following.own following.doubt following.has in
      let amid = subst (λ (n : Network). IsAmid n following.own following.doubt None image) following.is_network (run.each image since) in
      of_leader state.leader following.own following.doubt None state.told image following.begins following.doubtful tt following.told amid

  -- ---- an answer more

  goes_on : (state : Replication D) (left : KeptStore D) (told : ℕ) (own : List Entry) (doubt : Option Entry) → IsFollowing disk network state → left.ledger.network ≡ network → HasHistory disk left own doubt → IsPrefix own state.leader
      → IfSome doubt (λ entry. IsPrefix (own ++ entry ∷ []) state.leader) → told ≤ length own → IsFollowing disk network (record state { store = left; told = told })
  goes_on state left told own doubt following is_network has begins doubtful low = record {
    leader = following.leader;
    sent = following.sent;
    is_network = is_network;
    own = own;
    doubt = doubt;
    has = has;
    begins = begins;
    doubtful = doubtful;
    told = low;
  }

  still : (state : Replication D) (left : KeptStore D) (told : ℕ) (following : IsFollowing disk network state) → left ≡ state.store → told ≤ length following.own → IsFollowing disk network (record state { store = left; told = told })
  still state left told following same low =
      goes_on state left told following.own following.doubt following (ap (λ (store : KeptStore D). store.ledger.network) same ∙ following.is_network)
      (subst (λ (store : KeptStore D). HasHistory disk store following.own following.doubt) (sym same) following.has) following.begins following.doubtful low

  failed : (state : Replication D) (packet : Packet) (entry : Entry) (left : KeptStore D) (following : IsFollowing disk network state) → Contains state.sent packet → (enters : Enters disk state.store packet entry committed.Disk left)
      → IsLeft disk following.own following.doubt entry committed.Disk left → IsFollowing disk network (record state { store = left })
  failed state packet entry left following there enters (inl has) =
      goes_on state left state.told following.own following.doubt following (ap (λ (l : Ledger). l.network) enters.went.commits ∙ following.is_network) has following.begins following.doubtful following.told
  failed state packet entry left following there enters (inr (inl has)) =
      goes_on state left state.told following.own None following (ap (λ (l : Ledger). l.network) enters.went.commits ∙ following.is_network) has following.begins tt following.told
  failed state packet entry left following there enters (inr (inr has)) =
      goes_on state left state.told following.own (Some entry) following (ap (λ (l : Ledger). l.network) enters.went.commits ∙ following.is_network) has following.begins
      (brought state packet entry following there enters.due enters.brings) following.told

  answered : (state : Replication D) (packet : Packet) (answer : Offered) (left : KeptStore D) (following : IsFollowing disk network state) → Contains state.sent packet → IsOffered disk state.store packet answer left
      → IsFollowing disk network (record state { store = left; told = told_after state.told answer })
  answered state packet (Have n) left following there (inl past) = still state left (max state.told n) following past.same (max_low state.told n (length following.own) following.told (omega (arith, past.own, epoch_own state following)))
  answered state packet (Have n) left following there (inr (entry, is, enters)) =
      let own = following.own in
      let size : length (own ++ entry ∷ []) ≡ length own + 1 = length-append own (entry ∷ []) in
      goes_on state left (max state.told n) (own ++ entry ∷ []) None following (ap (λ (l : Ledger). l.network) enters.went.commits ∙ following.is_network)
      (enters.went.left own following.doubt following.has) (brought state packet entry following there enters.due enters.brings) tt
      (max_low state.told n (length (own ++ entry ∷ [])) (omega (arith, size, following.told)) (omega (arith, size, is, enters.due.epoch, epoch_own state following)))
  answered state packet (Want n) left following there offered = still state left state.told following offered.2 following.told
  answered state packet (Differs at own given) left following there offered = still state left state.told following offered.1 following.told
  answered state packet Memory left following there offered = still state left state.told following offered.2 following.told
  answered state packet (Unsound epoch) left following there offered = still state left state.told following offered.3 following.told
  answered state packet (Disk at) left following there (entry, _, enters) =
      failed state packet entry left following there enters (enters.went.left following.own following.doubt following.has)

  -- ---- the leader's events

  accepted : (state : Replication D) (entry : Entry) → IsFollowing disk network state → IsEntry entry → IsSoundAt network (book_of 0 state.leader) entry → IsFollowing disk network (record state { leader = state.leader ++ entry ∷ [] })
  accepted state entry following spelled sound = record {
    leader = record {
      sound = sound_push network (opening_book 0) state.leader entry following.leader.sound sound;
      spelled = All-push IsEntry state.leader entry following.leader.spelled spelled;
    };
    sent = All-weaker (IsSentOf network state.leader) (IsSentOf network (state.leader ++ entry ∷ [])) (sent_longer state.leader (entry ∷ [])) state.sent following.sent;
    is_network = following.is_network;
    own = following.own;
    doubt = following.doubt;
    has = following.has;
    begins = prefix_push following.own state.leader entry following.begins;
    doubtful = longer following.doubt following.doubtful;
    told = following.told;
  }
    where
      longer : (doubt : Option Entry) → IfSome doubt (λ (e : Entry). IsPrefix (following.own ++ e ∷ []) state.leader) → IfSome doubt (λ (e : Entry). IsPrefix (following.own ++ e ∷ []) (state.leader ++ entry ∷ []))
      longer None none = tt
      longer (Some e) prefix = prefix_push (following.own ++ e ∷ []) state.leader entry prefix

  sent_one : (state : Replication D) (place : ℕ) (entry : Entry) → IsFollowing disk network state → slice_get state.leader place ≡ Some entry → IsFollowing disk network (record state { sent = state.sent ++ packet_at network state.leader place entry ∷ [] })
  sent_one state place entry following there = record {
    leader = following.leader;
    sent = All-push (IsSentOf network state.leader) state.sent (packet_at network state.leader place entry) following.sent (place, entry, there, refl);
    is_network = following.is_network;
    own = following.own;
    doubt = following.doubt;
    has = following.has;
    begins = following.begins;
    doubtful = following.doubtful;
    told = following.told;
  }

  -- ---- stops

  module _ (once : (image : List ℕ) (one other : Meaning Entry) → IsRecoveredAs network image one → IsRecoveredAs network image other → one ≡ other) where
    read_of : (was : D) (image : List ℕ) (history : List Entry) → disk.content was ≡ Some image → IfSome (disk.content was) (IsHistoryOf network history) → IsHistoryOf network history image
    read_of was image history holds read = subst (λ (content : Option (List ℕ)). IfSome content (IsHistoryOf network history)) holds read

    reopened : (state : Replication D) (image : List ℕ) (store : KeptStore D) → IsFollowing disk network state → IsOfLeader network state.leader state.told image → IsReopened disk network image store → IsFollowing disk network (record state { store = store })
    reopened state image store following of (was, holds, opened) =
        let stands = read_of was image opened.history holds opened.read in
        let same = listed_same of.list opened.history (once image (listed of.list) (listed opened.history) of.stands stands) in
        goes_on state store state.told opened.history None following opened.network opened.has
        (subst (λ (l : List Entry). IsPrefix l state.leader) same of.begins) tt (subst (λ (l : List Entry). state.told ≤ length l) same of.told)

    -- at each moment of an opening: of what was left, or the same list
    within : (state : Replication D) (was : D) (image more : List ℕ) → disk.content was ≡ Some image → ((other : List ℕ) → disk.may_leave was other → other ≡ image) → IsOfLeader network state.leader state.told image → IsAtOpening disk was network more → IsOfLeader network state.leader state.told more
    within state was image more holds alone of (inl may) = subst (IsOfLeader network state.leader state.told) (sym (alone more may)) of
    within state was image more holds alone of (inr (history, read, stands)) =
        let same = listed_same of.list history (once image (listed of.list) (listed history) of.stands (read_of was image history holds read)) in
        record {
          list = history;
          stands = stands;
          begins = subst (λ (l : List Entry). IsPrefix l state.leader) same of.begins;
          told = subst (λ (l : List Entry). state.told ≤ length l) same of.told;
        }

    module _ (only_now : (now : D) (image : List ℕ) → disk.left_since now (disk.moment now) image → disk.may_leave now image) where
      -- whatever a stop leaves
      pub left_image : (state : Replication D) (image : List ℕ) → IsFollowing disk network state → MayBeLeft disk network state image → IsOfLeader network state.leader state.told image
      left_image state image following (at_rest left) = image_of state image following left
      left_image state image following (within_offer packet answer left (inl there) offered since) = moment_of only_now state packet answer left image following there offered since
      left_image state image following (within_offer packet answer left (inr none) offered since) = kept_image only_now state left image following (asked_same disk state.store left packet answer none offered) since
      left_image state image following (within_closing left result closed since) = closing_image state left image following result closed since
      left_image state more following (within_opening {image} was now before holds alone leaves since) =
          within state was image more holds alone (left_image state image following before) (leaves.each more since)

      asked : (old : Replication D) (packet : Packet) (answer : Offered) (left : KeptStore D) (following : IsFollowing disk network old) → BringsNone disk old.store packet → IsOffered disk old.store packet answer left → IsFollowing disk network (record old { store = left; told = told_after old.told answer })
      asked old packet answer left following none offered =
          still old left (told_after old.told answer) following (asked_same disk old.store left packet answer none offered)
          (asked_told disk old.store left packet answer old.told (length following.own) none offered following.told (omega (arith, epoch_own old following)))

      happens : (old new : Replication D) (event : Event) → IsFollowing disk network old → Happens disk network old event new → IsFollowing disk network new
      happens old new (accepts entry) following (spelled, sound, is) = subst (IsFollowing disk network) (sym is) (accepted old entry following spelled sound)
      happens old new (sends place) following (entry, there, is) = subst (IsFollowing disk network) (sym is) (sent_one old place entry following there)
      happens old new (offers packet answer) following (there, offered, is) = subst (IsFollowing disk network) (sym is) (answered old packet answer new.store following there offered)
      happens old new (asks packet answer) following (none, offered, is) = subst (IsFollowing disk network) (sym is) (asked old packet answer new.store following none offered)
      happens old new (reopens image) following (left, opened, is) = subst (IsFollowing disk network) (sym is) (reopened old image new.store following (left_image old image following left) opened)

      pub follows : (old new : Replication D) (events : List Event) → IsFollowing disk network old → Lead disk network old events new → IsFollowing disk network new
      follows old new [] following is = subst (IsFollowing disk network) (sym is) following
      follows old new (event ∷ events) following (middle, one, more) = follows middle new events (happens old middle event following one) more

  -- ---- beginnings

  none_sent : (leader : List Entry) (sent : List Packet) → sent ≡ [] → All (IsSentOf network leader) sent
  none_sent leader [] none = All-nil (IsSentOf network leader)
  none_sent leader (packet ∷ sent) none = absurd (cc none)

  pub begun : (state : Replication D) → IsBeginning disk network state → IsFollowing disk network state
  begun state beginning = record {
    leader = beginning.leader;
    sent = none_sent state.leader state.sent beginning.sent;
    is_network = beginning.is_network;
    own = beginning.own;
    doubt = None;
    has = beginning.has;
    begins = beginning.begins;
    doubtful = tt;
    told = omega (arith, beginning.told);
  }

  -- ---- what the follower has, and the leader's list

  pub own_sound : (state : Replication D) (following : IsFollowing disk network state) → IsSound network 0 following.own
  own_sound state following = sound_front network following.own state.leader following.begins following.leader.sound

  pub own_decided : (state : Replication D) (since : ℕ) (following : IsFollowing disk network state) → IsDecided network 0 since state.leader → IsDecided network 0 since following.own
  own_decided state since following decided = decided_front network since following.own state.leader following.begins decided

  abbrev GoesOn : ℕ → List Event → List Entry → Type 0
  GoesOn since events leader = IsDecided network 0 since leader × AcceptsDecided network leader events

  goes_so : (since : ℕ) (events : List Event) (state : Replication D) (leader : List Entry) → state.leader ≡ leader → IsDecided network 0 since leader → AcceptsDecided network leader events → GoesOn since events state.leader
  goes_so since events state leader same decided are = subst (GoesOn since events) (sym same) (decided, are)

  pub stays_decided : (old new : Replication D) (since : ℕ) (events : List Event) → IsDecided network 0 since old.leader → Lead disk network old events new → AcceptsDecided network old.leader events → IsDecided network 0 since new.leader
  stays_decided old new since [] decided is are = (goes_so since [] new old.leader (ap (λ (state : Replication D). state.leader) is) decided are).0
  stays_decided old new since (accepts entry ∷ events) decided (middle, (spelled, sound, is), more) are =
      let on = goes_so since events middle (old.leader ++ entry ∷ []) (ap (λ (state : Replication D). state.leader) is) (decided_push network 0 since old.leader entry decided are.0 sound) are.1 in
      stays_decided middle new since events on.0 more on.1
  stays_decided old new since (sends place ∷ events) decided (middle, (entry, there, is), more) are =
      let on = goes_so since events middle old.leader (ap (λ (state : Replication D). state.leader) is) decided are in
      stays_decided middle new since events on.0 more on.1
  stays_decided old new since (offers packet answer ∷ events) decided (middle, (there, offered, is), more) are =
      let on = goes_so since events middle old.leader (ap (λ (state : Replication D). state.leader) is) decided are in
      stays_decided middle new since events on.0 more on.1
  stays_decided old new since (asks packet answer ∷ events) decided (middle, (none, offered, is), more) are =
      let on = goes_so since events middle old.leader (ap (λ (state : Replication D). state.leader) is) decided are in
      stays_decided middle new since events on.0 more on.1
  stays_decided old new since (reopens image ∷ events) decided (middle, (left, opened, is), more) are =
      let on = goes_so since events middle old.leader (ap (λ (state : Replication D). state.leader) is) decided are in
      stays_decided middle new since events on.0 more on.1
