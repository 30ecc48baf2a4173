-- A follower's store in memory, without an order, and as it enters one: what its disk leaves by the
-- calls of an append, each of which is done.
use Rattle.std.proofs.Common.{◌≡◌, ◌≢◌, ◌∙◌, ◌⊎◌, inl, inr, ⊎_elim, ℕ, ◌+◌, ◌<◌, ◌≤◌, Bool, true, false, List, [], ◌∷◌, ◌++◌, None, Option, Some, Global, Vec, codes, get_or, length, refl, sym, ap, subst, arith, length-append}
use Rattle.std.proofs.lemmas.Bool.{cases_eq}
use denote.RawPtr.{null_ptr}
use Rattle.sha2.specs.Sha256.{sha256}
use Rattle.hose_graph.specs.Network.{Network}
use Rattle.hose_graph.specs.declared.entry.Entry.{Entry}
use Rattle.hose_graph.specs.declared.limits.TheConstants.{MOST_EPOCH}
use Rattle.hose_law.specs.History.{IsSoundAt, opening_book}
use Rattle.hose_law.specs.steps.Tracks.{Tracks}
use Rattle.hose_book.specs.steps.Changes.{opening_recent}
use Rattle.hose_book.specs.steps.Ledger.{next_ledger, opening_ledger}
use Rattle.hose_book.specs.declared.books.Committed.TheVariants as committed
use Rattle.hose_book.proofs.Tracking.{tracks_on}
use Rattle.hose_codec.specs.Spelling.{spelling}
use Rattle.hose_disk.specs.declared.disk.Disk.{Ghosts}
use Rattle.hose_disk.specs.declared.call.DiskCall.TheVariants.{Sync, Write}
use Rattle.hose_disk.specs.steps.Images.{only_now, synced, wrote}
use Rattle.hose_disk.specs.steps.MemState.{MemState, content_of, disk_after_done, fresh_disk, image_of, left_since_of, mem_disk_frame, moment_of}
use Rattle.hose_disk.specs.steps.Recording.{reads}
use Rattle.hose_disk.proofs.Images.{elapses, length-overwritten, none_new_synced, only_synced, steps_write}
use Rattle.hose_journal.specs.Entries.{record_bytes}
use Rattle.hose_journal.specs.Image.{IsClosed, front_of, head}
use Rattle.hose_journal.specs.Layout.{chained_version}
use Rattle.hose_journal.specs.Moments.{Images, LeavesOnly}
use Rattle.hose_journal.specs.declared.journal.Journal.{Journal}
use Rattle.hose_journal.specs.declared.layout.TheConstants.{BUFFER_BYTES, CLOSED, OPEN}
use Rattle.hose_journal.specs.declared.prepared.Ready.{Ready}
use Rattle.hose_journal.specs.steps.Chain.{Collide}
use Rattle.hose_journal.specs.steps.Gates.{IsDoubtful, Starts}
use Rattle.hose_journal.specs.steps.Journal.{Account, IsListAmid, IsReady, IsStopImage, Stands, account_with}
use Rattle.hose_journal.specs.steps.Moments.{IsTornFrom, Lands}
use Rattle.hose_journal.proofs.Accounts.{stands_added, stands_on}
use Rattle.hose_journal.proofs.Appends.{before_entry, closed_entry, opened_as, record_is, record_of, until_opened}
use Rattle.hose_journal.proofs.Chains.{chain_with}
use Rattle.hose_journal.proofs.Gates.{gate_keeps, gate_lands, stage_keeps, stage_lands}
use Rattle.hose_journal.proofs.Runs.{goes_on, torn_run, weaker}
use Rattle.hose_topo.specs.Canonical.{canonical_text}
use Rattle.hose_store.specs.Recovery.{IsHistoryOf, digest_of}
use Rattle.hose_store.specs.steps.Commit.{Went}
use Rattle.hose_store.specs.steps.Store.{HasHistory, KeptStore, account_of}
use Rattle.hose_store.proofs.Commits.{has_history, went_done}
use Rattle.hose_store.proofs.Histories.{amid_none}
use Rattle.hose_store.proofs.OneMeaning.{digest_size}
use Rattle.hose_follow.specs.steps.Offering.{Enters}
use Rattle.hose_follow.specs.steps.Replication.{IsReopened}
use Rattle.hose_lead.specs.Leading.{no_value}
use Rattle.hose_pair.specs.steps.Meeting.{IsMet, two_nodes}
use Rattle.hose_pair.proofs.Asked.{order}
use Rattle.hose_pair.proofs.Meeting.{first_packet, is_order, met_by, own_value}
use Rattle.hose_pair.proofs.Ran.{about_met}

-- ---- a disk in memory

-- what it tells
abbrev pub mem_ghosts : Ghosts MemState
mem_ghosts = record { frame = mem_disk_frame; content = content_of; may_leave = image_of; moment = moment_of; left_since = left_since_of }

-- bytes are written to it and synced
abbrev write_done : MemState → ℕ → List ℕ → MemState
write_done disk at bytes = disk_after_done Write disk (wrote at bytes)

abbrev put : MemState → ℕ → List ℕ → MemState
put disk at bytes = disk_after_done Sync (write_done disk at bytes) synced

since_now : (disk : MemState) (image : List ℕ) → left_since_of disk (moment_of disk) image → image_of disk image
since_now disk image left = only_now disk.made.first disk.made.calls image left

write_run : (disk : MemState) (at : ℕ) (bytes : List ℕ) → at ≤ length (reads disk.made) → LeavesOnly mem_ghosts disk (write_done disk at bytes) (IsTornFrom mem_ghosts disk at (length bytes))
write_run disk at bytes within =
    torn_run mem_ghosts disk (write_done disk at bytes) at (length bytes) (since_now disk) (elapses disk.made.first disk.made.calls (wrote at bytes)) (steps_write disk.made.first disk.made.calls at bytes within)

put_run : (disk : MemState) (at : ℕ) (bytes : List ℕ) → at ≤ length (reads disk.made) → LeavesOnly mem_ghosts disk (put disk at bytes) (IsTornFrom mem_ghosts disk at (length bytes))
put_run disk at bytes within =
    let first = disk.made.first in
    let calls = disk.made.calls in
    goes_on mem_ghosts disk (write_done disk at bytes) (put disk at bytes) (IsTornFrom mem_ghosts disk at (length bytes)) (write_run disk at bytes within) (elapses first (wrote at bytes ∷ calls) synced)
    (λ image is. steps_write first calls at bytes within image (none_new_synced first (wrote at bytes ∷ calls) image is))

put_lands : (disk : MemState) (at : ℕ) (bytes : List ℕ) → Lands mem_ghosts disk (put disk at bytes) at bytes
put_lands disk at bytes image is = (reads disk.made, inl refl, only_synced disk.made.first (wrote at bytes ∷ disk.made.calls) image is)

-- ---- a store

-- a handle of the heap
heap : Global
heap = record { memory = record { seal = tt } }

module _ (network : Network) (some : 0 < length network.links) where
  abbrev digest : List ℕ
  digest = digest_of network

  abbrev front : List ℕ
  front = front_of chained_version digest []

  -- a journal without an entry
  abbrev bytes : List ℕ
  bytes = front ++ CLOSED ∷ []

  abbrev gate : ℕ
  gate = length front

  gate_is : gate ≡ 38
  gate_is = omega (arith, length-append (head chained_version digest) [], digest_size network)

  abbrev spelled : List ℕ
  spelled = spelling order

  abbrev value : List ℕ
  value = sha256 (digest ++ spelled)

  -- the record that is written
  abbrev out : List ℕ
  out = record_bytes true value spelled ++ CLOSED ∷ []

  abbrev d0 : MemState
  d0 = fresh_disk bytes

  abbrev d1 : MemState
  d1 = put d0 (gate + 1) out

  abbrev d2 : MemState
  d2 = put d1 gate (OPEN ∷ [])

  abbrev room : Vec ℕ Global
  room = record { ptr = null_ptr; len = 0; cap = BUFFER_BYTES; alloc = heap; items = []; ok = (refl, omega arith); small = omega arith }

  abbrev told : Ready
  told = record { bytes = record { ptr = null_ptr; len = length spelled; cap = length spelled; alloc = heap; items = spelled; ok = (refl, omega arith); small = omega arith } }

  abbrev was : Journal MemState
  was = record { disk = d0; gate = gate; doubt = false; sealed = true; chain = digest; buffer = room }

  abbrev now : Journal MemState
  now = record { disk = d2; gate = gate + length out; doubt = false; sealed = true; chain = value; buffer = room }

  abbrev store : KeptStore MemState
  store = record { ledger = opening_ledger network 0; journal = was }

  abbrev left : KeptStore MemState
  left = record { ledger = next_ledger (opening_ledger network 0) order; journal = now }

  closed_first : Images mem_ghosts d0 (IsClosed front)
  closed_first image is = record { gate = 0; rest = []; shut = λ same. absurd (omega (arith, same)); is = ⊎_elim (λ one. one) (λ one. one) is }

  stands : Stands mem_ghosts was (account_of network [] None)
  stands = record {
    version = chained_version;
    items = [];
    is_version = inr refl;
    entries = refl;
    size = digest_size network;
    are = tt;
    doubt_is = tt;
    place = refl;
    small = omega (arith, gate_is);
    doubt = refl;
    sealed = refl;
    chain = refl;
    room = omega arith;
    images = closed_first;
  }

  tracks : Tracks 0 [] (opening_recent 0)
  tracks = record { before = []; since = []; whole = refl; floor = refl; changes = refl }

  has : HasHistory mem_ghosts store [] None
  has = has_history mem_ghosts store [] None refl tracks tt tt stands refl

  -- ---- the append

  -- the places of both writes are there
  first_within : gate + 1 ≤ length (reads d0.made)
  first_within = omega (arith, length-append front (CLOSED ∷ []))

  next_within : gate ≤ length (reads d1.made)
  next_within = omega (arith, length-append front (CLOSED ∷ []), length-overwritten (gate + 1) out bytes)

  -- of whatever account the journal stands for
  module _ (list : List Entry) (value_of : List ℕ) (one : Entry) (is_ready : IsReady one told) where
    abbrev account : Account
    account = record { digest = value_of; entries = list; doubt = None }

    module _ (is : Stands mem_ghosts was account) where
      abbrev before : List ℕ
      before = before_entry mem_ghosts account was is

      closed : Images mem_ghosts d0 (IsClosed before)
      closed = closed_entry mem_ghosts account was is

      same : out ≡ record_of mem_ghosts account was is one
      same = record_is mem_ghosts account was is {body = spelled} {one = spelled} {value = value} {out = out} one refl refl is_ready.bytes is_ready.bytes
          (λ known entries entry so spells. chain_with digest value spelled known entries entry so spells refl)

      staging : LeavesOnly mem_ghosts d0 d1 (IsClosed before)
      staging = weaker mem_ghosts d0 d1 (IsTornFrom mem_ghosts d0 (gate + 1) (length out)) (IsClosed before) (stage_keeps mem_ghosts d0 d1 gate (length out) before is.place closed) (put_run d0 (gate + 1) out first_within)

      staged : Images mem_ghosts d1 (IsDoubtful before out)
      staged = stage_lands mem_ghosts d0 d1 gate before out is.place closed (put_lands d0 (gate + 1) out)

      opening : LeavesOnly mem_ghosts d1 d2 (IsDoubtful before out)
      opening = weaker mem_ghosts d1 d2 (IsTornFrom mem_ghosts d1 gate 1) (IsDoubtful before out) (gate_keeps mem_ghosts d1 d2 gate before out is.place staged) (put_run d1 gate (OPEN ∷ []) next_within)

      set : Images mem_ghosts d2 (Starts (before ++ OPEN ∷ out))
      set = gate_lands mem_ghosts d1 d2 gate OPEN before out is.place staged (put_lands d1 gate (OPEN ∷ []))

      amid : LeavesOnly mem_ghosts d0 d2 (IsListAmid account (Some one))
      amid = until_opened mem_ghosts account was is d1 d2 out one is_ready.is_entry same staging opening

      added : length list < MOST_EPOCH → Stands mem_ghosts now (account_with account one)
      added few = stands_added mem_ghosts was account is now one is_ready.is_entry few (ap (λ (n : ℕ). gate + n) (ap length same)) refl refl
          (chain_with digest value spelled value_of list one is.chain is_ready.bytes refl) (omega arith)
          (opened_as mem_ghosts d2 before out (record_of mem_ghosts account was is one) same set)

  moments : (account : Account) (one : Entry) → Stands mem_ghosts was account → IsReady one told → length account.entries < MOST_EPOCH → LeavesOnly mem_ghosts d0 d2 (IsListAmid account (Some one))
  moments account one is is_ready few = by account.doubt is
    where
      by : (doubt : Option Entry) → Stands mem_ghosts was (record { digest = account.digest; entries = account.entries; doubt = doubt }) → LeavesOnly mem_ghosts d0 d2 (IsListAmid (record { digest = account.digest; entries = account.entries; doubt = doubt }) (Some one))
      by None so = amid account.entries account.digest one is_ready so
      by (Some other) so = absurd (let clash : true ≡ false = so.doubt in cc)

  enters_so : (account : Account) (one : Entry) → Stands mem_ghosts was account → IsReady one told → length account.entries < MOST_EPOCH → Stands mem_ghosts now (account_with account one)
  enters_so account one is is_ready few = by account.doubt is
    where
      by : (doubt : Option Entry) → Stands mem_ghosts was (record { digest = account.digest; entries = account.entries; doubt = doubt }) → Stands mem_ghosts now (account_with (record { digest = account.digest; entries = account.entries; doubt = doubt }) one)
      by None so = added account.entries account.digest one is_ready so few
      by (Some other) so = absurd (let clash : true ≡ false = so.doubt in cc)

  sound : IsSoundAt network (opening_book 0) order
  sound = (omega arith, (some, refl))

  ready : IsReady order told
  ready = record { is_entry = is_order; bytes = refl }

  went : Went mem_ghosts store order committed.Done left
  went = went_done mem_ghosts store now order told ready sound moments refl refl refl (tracks_on (opening_ledger network 0) (next_ledger (opening_ledger network 0) order) order order refl refl) enters_so refl

  enters : Enters mem_ghosts store (first_packet network) order committed.Done left
  enters = record {
    due = record { epoch = refl; chain = own_value network mem_ghosts store refl has };
    brings = record { spells = record { is_entry = is_order; spelled = refl }; sound = sound };
    went = went;
    met = refl;
  }

  -- ---- what is opened anew

  kept : HasHistory mem_ghosts left (order ∷ []) None
  kept = went.left [] None has

  abbrev image : List ℕ
  image = reads d2.made

  abbrev anew : Journal MemState
  anew = record now { disk = fresh_disk image }

  abbrev next : KeptStore MemState
  next = record { ledger = left.ledger; journal = anew }

  alone : (other : List ℕ) → image_of (fresh_disk image) other → other ≡ image
  alone other is = ⊎_elim (λ one. one) (λ one. one) is

  stands_anew : Stands mem_ghosts anew (account_of network (order ∷ []) None)
  stands_anew =
      let was_so = kept.journal in
      stands_on mem_ghosts now (account_of network (order ∷ []) None) was_so anew None refl refl refl refl (omega arith) tt
      (λ other is. subst (IsStopImage was_so.version was_so.items (account_of network (order ∷ []) None)) (sym (alone other is)) (was_so.images image (inl refl)))

  history_is : IsHistoryOf network (order ∷ []) image
  history_is = amid_none network (order ∷ []) image (kept.images image (inl refl))

  opened_anew : IsReopened mem_ghosts network image next
  opened_anew = (
    fresh_disk image,
    refl,
    record {
      history = order ∷ [];
      network = refl;
      has = has_history mem_ghosts next (order ∷ []) None kept.book kept.tracks kept.sound tt stands_anew refl;
      read = history_is;
      images = λ other is. subst (IsHistoryOf network (order ∷ [])) (sym (alone other is)) history_is;
    },
  )

  pub met_there : (path : List ℕ) (may required : Bool) → digest_of network ≢ no_value → IsMet (about_met network path may required) mem_ghosts
  met_there path may required differs = met_by network path may required some differs mem_ghosts store left refl has enters image image next (inl refl) opened_anew (inl refl)

-- ---- two networks

same_or : (xs ys : List ℕ) → (xs ≡ ys) ⊎ (xs ≢ ys)
same_or [] [] = inl refl
same_or [] (y ∷ ys) = inr (λ same. cc same)
same_or (x ∷ xs) [] = inr (λ same. cc same)
same_or (x ∷ xs) (y ∷ ys) = by (cases_eq x y) (same_or xs ys)
  where
    by : (x ≡ y) ⊎ (x ≢ y) → (xs ≡ ys) ⊎ (xs ≢ ys) → (x ∷ xs ≡ y ∷ ys) ⊎ (x ∷ xs ≢ y ∷ ys)
    by (inl one) (inl rest) = inl (ap (λ (b : ℕ). b ∷ xs) one ∙ ap (λ (l : List ℕ). y ∷ l) rest)
    by (inl one) (inr apart) = inr (λ same. apart (cc same))
    by (inr apart) rest = inr (λ same. apart (cc same))

hash_is : (network : Network) → digest_of network ≡ sha256 (canonical_text network)
unfolding digest_of
hash_is network = refl

texts_differ : canonical_text (two_nodes (codes "b")) ≢ canonical_text (two_nodes (codes "c"))
texts_differ same = let byte : 98 ≡ 99 = ap (λ (l : List ℕ). get_or l 12 0) same in absurd (omega (arith, byte))

abbrev first_net : Network
first_net = two_nodes (codes "b")

abbrev other_net : Network
other_net = two_nodes (codes "c")

-- At one of two networks all premises are met at once, or two strings that are known have one
-- SHA-256.
pub met_somewhere : (path : List ℕ) (may required : Bool) → IsMet (about_met first_net path may required) mem_ghosts
    ⊎ (IsMet (about_met other_net path may required) mem_ghosts
    ⊎ Collide sha256 (canonical_text first_net ∷ canonical_text other_net ∷ []))
met_somewhere path may required = by (same_or (digest_of first_net) no_value) (same_or (digest_of other_net) no_value)
  where
    by : (digest_of first_net ≡ no_value) ⊎ (digest_of first_net ≢ no_value) → (digest_of other_net ≡ no_value) ⊎ (digest_of other_net ≢ no_value)
        → IsMet (about_met first_net path may required) mem_ghosts ⊎ (IsMet (about_met other_net path may required) mem_ghosts ⊎ Collide sha256 (canonical_text first_net ∷ canonical_text other_net ∷ []))
    by (inr differs) rest = inl (met_there first_net (omega arith) path may required differs)
    by (inl none) (inr differs) = inr (inl (met_there other_net (omega arith) path may required differs))
    by (inl none) (inl also) = inr (inr (record {
      one = canonical_text first_net;
      other = canonical_text other_net;
      one_there = (0, omega arith, refl);
      other_there = (1, omega arith, refl);
      differ = texts_differ;
      same = sym (hash_is first_net) ∙ none ∙ sym also ∙ hash_is other_net;
    }))
