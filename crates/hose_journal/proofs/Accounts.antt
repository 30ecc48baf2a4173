-- What the steps of a settlement, of an append and of a seal make of the account that a journal stands for.
use Rattle.std.proofs.Common.{◌≡◌, ◌⊎◌, inl, inr, ⊎_elim, ℕ, ◌+◌, ◌<◌, ◌≤◌, ◌^◌, List, [], ◌∷◌, ◌++◌, length, Bool, true, false, Option, None, Some, is_some, IfSome, IsTrue, IsFalse, refl, sym, ◌∙◌, ap, subst, arith, length-append}
use Rattle.std.specs.Prelude.{vec_capacity}
use Rattle.hose_graph.specs.declared.entry.Entry.{Entry}
use Rattle.hose_graph.specs.declared.limits.TheConstants.{MOST_EPOCH}
use Rattle.hose_codec.specs.Spelling.{IsEntry, spelling}
use Rattle.hose_disk.specs.declared.disk.Disk.{Ghosts}
use Rattle.hose_journal.specs.declared.journal.Journal.{Journal}
use Rattle.hose_journal.specs.declared.layout.TheConstants.{BUFFER_BYTES, CLOSED, OPEN}
use Rattle.hose_journal.specs.Chain.{chain}
use Rattle.hose_journal.specs.Entries.{Item, TakesAny, entered, entries_in, entry_bytes, item_bytes, record_bytes, seal_bytes, sealed}
use Rattle.hose_journal.specs.steps.Entries.{closed_record, IsListOf}
use Rattle.hose_journal.specs.steps.Gates.{Starts, IsDoubtful}
use Rattle.hose_journal.specs.Image.{IsClosed, front_of}
use Rattle.hose_journal.specs.steps.Journal.{Account, Stands, IsStopImage, IsListWith, IsListAmid, with_doubt, account_with}
use Rattle.hose_journal.specs.Moments.{Images, LeavesOnly}
use Rattle.hose_journal.proofs.Chains.{length-chain}
use Rattle.hose_journal.proofs.Items.{chained_entry, chained_seal, entries_push, entries_seal, length-front, length-item, length-seal}
use Rattle.hose_journal.proofs.Lists.{closed_is_list, doubtful_entry, doubtful_seal, front_more, items_more, opened_is_closed}
use Rattle.hose_journal.proofs.Runs.{joined, weaker}

module _ {D : Type 0} (disk : Ghosts D) where
  -- ---- what the doubt says

  doubt_by : (version : ℕ) (items : List Item) (digest : List ℕ) (entries : List Entry) (doubt : Option Entry) (flag : Bool) (now : D) → is_some doubt ≡ flag → IsTrue flag → IfSome doubt IsEntry
      → Images disk now (IsStopImage version items (record { digest = digest; entries = entries; doubt = doubt }))
      → (entry : Entry) × (doubt ≡ Some entry) × IsEntry entry × Images disk now (IsDoubtful (front_of version digest items) (closed_record version digest items (entered entry)))
  doubt_by version items digest entries None flag now some raised is images = absurd (let clash : false ≡ true = some ∙ raised in cc)
  doubt_by version items digest entries (Some entry) flag now some raised is images = (entry, refl, is, images)

  sure_by : (doubt : Option Entry) (flag : Bool) → is_some doubt ≡ flag → IsFalse flag → doubt ≡ None
  sure_by None flag some clear = refl
  sure_by (Some entry) flag some clear = absurd (let clash : true ≡ false = some ∙ clear in cc)

  module _ (journal : Journal D) (account : Account) (stands : Stands disk journal account) where
    abbrev pub here : List ℕ
    here = front_of stands.version account.digest stands.items

    abbrev pub closed_here : Item → List ℕ
    closed_here item = closed_record stands.version account.digest stands.items item

    pub in_doubt : IsTrue journal.doubt → (entry : Entry) × (account.doubt ≡ Some entry) × IsEntry entry × Images disk journal.disk (IsDoubtful here (closed_here (entered entry)))
    in_doubt raised = doubt_by stands.version stands.items account.digest account.entries account.doubt journal.doubt journal.disk stands.doubt raised stands.doubt_is stands.images

    -- where none is in doubt
    pub closed_now : account.doubt ≡ None → Images disk journal.disk (IsClosed here)
    closed_now none image is = subst (λ (doubt : Option Entry). IsStopImage stands.version stands.items (with_doubt account doubt) image) none (stands.images image is)

    pub closed_sure : IsFalse journal.doubt → Images disk journal.disk (IsClosed here)
    closed_sure clear = closed_now (sure_by account.doubt journal.doubt stands.doubt clear)

    pub gate_low : length account.entries < MOST_EPOCH + 1 → journal.gate < 2 ^ 60
    gate_low few = omega (arith, stands.place, few, ap length stands.entries, length-front stands.version account.digest stands.size stands.items stands.are)

    pub closed_length : (entry : Entry) → IsEntry entry → length (closed_here (entered entry)) < 2 ^ 60
    closed_length entry is =
        omega (arith, length-append (item_bytes stands.version account.digest stands.items (entered entry)) (CLOSED ∷ []), length-item stands.version account.digest stands.size stands.items entry is)

    -- ---- images

    pub list_closed : (image : List ℕ) → IsClosed here image → IsListOf account.digest account.entries image
    list_closed image closed =
        subst (λ (l : List Entry). IsListOf account.digest l image) stands.entries
        (closed_is_list TakesAny stands.version account.digest image stands.items stands.is_version stands.are closed)

    list_doubtful : (entry : Entry) (image : List ℕ) → IsEntry entry → IsDoubtful here (closed_here (entered entry)) image → IsListOf account.digest account.entries image ⊎ IsListOf account.digest (account.entries ++ entry ∷ []) image
    list_doubtful entry image is doubtful =
        subst (λ (l : List Entry). IsListOf account.digest l image ⊎ IsListOf account.digest (l ++ entry ∷ []) image) stands.entries
        (doubtful_entry stands.version account.digest image stands.items stands.is_version stands.are entry is doubtful)

    pub list_sealing : (image : List ℕ) → IsFalse journal.sealed → IsDoubtful here (closed_here sealed) image → IsListOf account.digest account.entries image
    list_sealing image plain doubtful =
        subst (λ (l : List Entry). IsListOf account.digest l image) stands.entries
        (doubtful_seal stands.version account.digest image stands.items stands.is_version stands.are (stands.sealed ∙ plain) doubtful)

    pub amid_closed : (writing : Option Entry) (image : List ℕ) → IsClosed here image → IsListAmid account writing image
    amid_closed writing image closed = inl (list_closed image closed)

    pub amid_writing : (entry : Entry) (image : List ℕ) → IsEntry entry → IsDoubtful here (closed_here (entered entry)) image → IsListAmid account (Some entry) image
    amid_writing entry image is doubtful = ⊎_elim (λ list. inl list) (λ more. inr (inr more)) (list_doubtful entry image is doubtful)

    pub amid_in_doubt : (entry : Entry) (writing : Option Entry) (image : List ℕ) → account.doubt ≡ Some entry → IsEntry entry → IsDoubtful here (closed_here (entered entry)) image → IsListAmid account writing image
    amid_in_doubt entry writing image same is doubtful =
        ⊎_elim (λ list. inl list) (λ more. inr (inl (subst (λ (doubt : Option Entry). IsListWith account doubt image) (sym same) more))) (list_doubtful entry image is doubtful)

    -- each image stands for the entries, with that in doubt or without it
    kept_amid : (doubt : Option Entry) (image : List ℕ) → account.doubt ≡ doubt → IfSome doubt IsEntry → IsStopImage stands.version stands.items (with_doubt account doubt) image → IsListAmid account None image
    kept_amid None image same is kept = amid_closed None image kept
    kept_amid (Some entry) image same is kept = amid_in_doubt entry None image same is kept

    pub stands_amid : Images disk journal.disk (IsListAmid account None)
    stands_amid image is = kept_amid account.doubt image refl stands.doubt_is (stands.images image is)

    -- where none is in doubt, each stands for the entries
    pub sure_lists : account.doubt ≡ None → Images disk journal.disk (IsListOf account.digest account.entries)
    sure_lists none image is = list_closed image (closed_now none image is)

    -- ---- what the steps leave

    -- the journal with another doubt, and nothing else changed
    pub stands_on : (new : Journal D) (doubt : Option Entry) → new.gate ≡ journal.gate → is_some doubt ≡ new.doubt → new.sealed ≡ journal.sealed → new.chain ≡ journal.chain → BUFFER_BYTES ≤ vec_capacity new.buffer
        → IfSome doubt IsEntry → Images disk new.disk (IsStopImage stands.version stands.items (with_doubt account doubt)) → Stands disk new (with_doubt account doubt)
    stands_on new doubt gate flag as_sealed as_chain room is images = record {
      version = stands.version;
      items = stands.items;
      is_version = stands.is_version;
      entries = stands.entries;
      size = stands.size;
      are = stands.are;
      doubt_is = is;
      place = stands.place ∙ sym gate;
      small = omega (arith, stands.small, gate);
      doubt = flag;
      sealed = stands.sealed ∙ sym as_sealed;
      chain = as_chain ∙ stands.chain;
      room = room;
      images = images;
    }

    -- the record in doubt stays, whatever its gate is
    pub stands_kept : (new : Journal D) (entry : Entry) → account.doubt ≡ Some entry → new.gate ≡ journal.gate → new.doubt ≡ journal.doubt → new.sealed ≡ journal.sealed → new.chain ≡ journal.chain → BUFFER_BYTES ≤ vec_capacity new.buffer
        → Images disk new.disk (IsDoubtful here (closed_here (entered entry))) → Stands disk new account
    stands_kept new entry same gate flag as_sealed as_chain room images =
        stands_on new account.doubt gate (stands.doubt ∙ sym flag) as_sealed as_chain room stands.doubt_is
        (λ image is. subst (λ (doubt : Option Entry). IsStopImage stands.version stands.items (with_doubt account doubt) image) (sym same) (images image is))

    -- the record of an entry in a sealed journal is by what the journal knows
    closed_is : (entry : Entry) → IsTrue journal.sealed → closed_here (entered entry) ≡ entry_bytes true account.digest account.entries entry ++ CLOSED ∷ []
    closed_is entry is_sealed =
        ap (λ (b : Bool). entry_bytes b account.digest (entries_in stands.items) entry ++ CLOSED ∷ []) (stands.sealed ∙ is_sealed)
        ∙ ap (λ (l : List Entry). entry_bytes true account.digest l entry ++ CLOSED ∷ []) stands.entries

    -- bytes that were put together are that record
    pub written : (body value out : List ℕ) (entry : Entry) → out ≡ record_bytes true value body ++ CLOSED ∷ [] → IsTrue journal.sealed → body ≡ spelling entry
        → value ≡ chain account.digest (account.entries ++ entry ∷ []) → out ≡ closed_here (entered entry)
    written body value out entry is is_sealed is_body is_value =
        is
        ∙ ap (λ (l : List ℕ). record_bytes true value l ++ CLOSED ∷ []) is_body
        ∙ ap (λ (l : List ℕ). record_bytes true l (spelling entry) ++ CLOSED ∷ []) is_value
        ∙ sym (closed_is entry is_sealed)

    -- and so is the record of a seal
    seal_is : closed_here sealed ≡ seal_bytes (chain account.digest account.entries) ++ CLOSED ∷ []
    seal_is = ap (λ (l : List Entry). seal_bytes (chain account.digest l) ++ CLOSED ∷ []) stands.entries

    pub sealing : (out : List ℕ) → out ≡ seal_bytes journal.chain ++ CLOSED ∷ [] → out ≡ closed_here sealed
    sealing out is = is ∙ ap (λ (v : List ℕ). seal_bytes v ++ CLOSED ∷ []) stands.chain ∙ sym seal_is

    pub seal_length : length (closed_here sealed) ≡ 38
    seal_length =
        let value = chain account.digest (entries_in stands.items) in
        omega (arith, length-append (seal_bytes value) (CLOSED ∷ []), length-seal value (length-chain account.digest (entries_in stands.items) stands.size))

    pub stands_added : (new : Journal D) (entry : Entry) → IsEntry entry → length account.entries < MOST_EPOCH → new.gate ≡ journal.gate + length (closed_here (entered entry)) → false ≡ new.doubt → new.sealed ≡ journal.sealed
        → new.chain ≡ chain account.digest (account.entries ++ entry ∷ []) → BUFFER_BYTES ≤ vec_capacity new.buffer
        → Images disk new.disk (Starts (here ++ OPEN ∷ closed_here (entered entry))) → Stands disk new (account_with account entry)
    stands_added new entry is few gate flag as_sealed is_chain room images =
        let bytes = item_bytes stands.version account.digest stands.items (entered entry) in
        record {
          version = stands.version;
          items = stands.items ++ entered entry ∷ [];
          is_version = stands.is_version;
          entries = entries_push stands.items entry ∙ ap (λ (l : List Entry). l ++ entry ∷ []) stands.entries;
          size = stands.size;
          are = items_more TakesAny stands.version [] stands.items (entered entry) stands.are (is, tt);
          doubt_is = tt;
          place = omega (arith, stands.place, gate, ap length (front_more stands.version account.digest stands.items (entered entry)), length-append here (OPEN ∷ bytes), length-append bytes (CLOSED ∷ []));
          small = omega (arith, gate, gate_low (omega (arith, few)), closed_length entry is);
          doubt = flag;
          sealed = chained_entry stands.version stands.items entry ∙ stands.sealed ∙ sym as_sealed;
          chain = is_chain;
          room = room;
          images = λ image is_image. opened_is_closed stands.version account.digest image stands.items (entered entry) (images image is_image);
        }

    pub stands_sealed : (new : Journal D) → IsFalse journal.doubt → length account.entries ≤ MOST_EPOCH → IsFalse journal.sealed → new.gate ≡ journal.gate + length (closed_here sealed) → new.doubt ≡ journal.doubt → true ≡ new.sealed
        → new.chain ≡ journal.chain → BUFFER_BYTES ≤ vec_capacity new.buffer → Images disk new.disk (Starts (here ++ OPEN ∷ closed_here sealed)) → Stands disk new account
    stands_sealed new clear few plain gate flag is_sealed as_chain room images =
        let bytes = item_bytes stands.version account.digest stands.items sealed in
        let none = sure_by account.doubt journal.doubt stands.doubt clear in
        record {
          version = stands.version;
          items = stands.items ++ sealed ∷ [];
          is_version = stands.is_version;
          entries = entries_seal stands.items ∙ stands.entries;
          size = stands.size;
          are = items_more TakesAny stands.version [] stands.items sealed stands.are (stands.sealed ∙ plain);
          doubt_is = stands.doubt_is;
          place = omega (arith, stands.place, gate, ap length (front_more stands.version account.digest stands.items sealed), length-append here (OPEN ∷ bytes), length-append bytes (CLOSED ∷ []));
          small = omega (arith, gate, gate_low (omega (arith, few)), seal_length);
          doubt = stands.doubt ∙ sym flag;
          sealed = chained_seal stands.version stands.items ∙ is_sealed;
          chain = as_chain ∙ stands.chain;
          room = room;
          images = λ image is_image.
              subst (λ (doubt : Option Entry). IsStopImage stands.version (stands.items ++ sealed ∷ []) (with_doubt account doubt) image) (sym none)
              (opened_is_closed stands.version account.digest image stands.items sealed (images image is_image));
        }

    pub opened_lists : (now : D) (entry : Entry) → IsEntry entry → Images disk now (Starts (here ++ OPEN ∷ closed_here (entered entry))) → Images disk now (IsListOf account.digest (account.entries ++ entry ∷ []))
    opened_lists now entry is images image is_image =
        subst (λ (l : List Entry). IsListOf account.digest l image) (entries_push stands.items entry ∙ ap (λ (l : List Entry). l ++ entry ∷ []) stands.entries)
        (closed_is_list TakesAny stands.version account.digest image (stands.items ++ entered entry ∷ []) stands.is_version (items_more TakesAny stands.version [] stands.items (entered entry) stands.are (is, tt))
        (opened_is_closed stands.version account.digest image stands.items (entered entry) (images image is_image)))

    -- ---- the moments

    pub revoked : (old now : D) (entry : Entry) → account.doubt ≡ Some entry → IsEntry entry → LeavesOnly disk old now (IsDoubtful here (closed_here (entered entry))) → LeavesOnly disk old now (IsListAmid account None)
    revoked old now entry same is run = weaker disk old now _ (IsListAmid account None) (λ image. amid_in_doubt entry None image same is) run

  amid_more : (account : Account) (entry : Entry) (image : List ℕ) → IsListAmid account None image → IsListAmid account (Some entry) image
  amid_more account entry image (inl list) = inl list
  amid_more account entry image (inr (inl doubt)) = inr (inl doubt)
  amid_more account entry image (inr (inr none)) = absurd none

  -- an image amid the writing of an entry after the doubt was cleared
  amid_cleared : (account : Account) (entry : Entry) (image : List ℕ) → IsListAmid (with_doubt account None) (Some entry) image → IsListAmid account (Some entry) image
  amid_cleared account entry image (inl list) = inl list
  amid_cleared account entry image (inr (inl none)) = absurd none
  amid_cleared account entry image (inr (inr more)) = inr (inr more)

  pub settled_then : (account : Account) (old now : D) (entry : Entry) → LeavesOnly disk old now (IsListAmid account None) → LeavesOnly disk old now (IsListAmid account (Some entry))
  settled_then account old now entry run = weaker disk old now _ (IsListAmid account (Some entry)) (amid_more account entry) run

  -- an append: the entry in doubt is revoked, and then one is added
  pub appended : (account : Account) (old mid now : D) (entry : Entry) → LeavesOnly disk old mid (IsListAmid account None) → LeavesOnly disk mid now (IsListAmid (with_doubt account None) (Some entry)) → LeavesOnly disk old now (IsListAmid account (Some entry))
  appended account old mid now entry settled added =
      joined disk old mid now (IsListAmid account (Some entry)) (settled_then account old mid entry settled)
      (weaker disk mid now _ (IsListAmid account (Some entry)) (amid_cleared account entry) added)
