-- What the steps of an append and of a seal leave at each moment, and the record that they write.
use Rattle.std.proofs.Common.{◌≡◌, ◌++◌, ◌∷◌, [], List, ℕ, None, Some, true, IsTrue, IsFalse, refl, subst}
use Rattle.hose_graph.specs.declared.entry.Entry.{Entry}
use Rattle.hose_codec.specs.Spelling.{IsEntry, spelling}
use Rattle.hose_disk.specs.declared.disk.Disk.{Ghosts}
use Rattle.hose_journal.specs.declared.journal.Journal.{Journal}
use Rattle.hose_journal.specs.declared.layout.TheConstants.{CLOSED, OPEN}
use Rattle.hose_journal.specs.Chain.{chain}
use Rattle.hose_journal.specs.Entries.{entered, record_bytes, sealed}
use Rattle.hose_journal.specs.steps.Entries.{IsListOf}
use Rattle.hose_journal.specs.steps.Gates.{IsDoubtful, Starts}
use Rattle.hose_journal.specs.Image.{IsClosed}
use Rattle.hose_journal.specs.steps.Journal.{Account, IsListAmid, Stands, with_doubt}
use Rattle.hose_journal.specs.Moments.{Images, LeavesOnly}
use Rattle.hose_journal.proofs.Accounts.{amid_closed, amid_writing, closed_here, closed_now, here, list_closed, list_sealing, written}
use Rattle.hose_journal.proofs.Runs.{joined, weaker}

module _ {D : Type 0} (disk : Ghosts D) where
  -- images after an opened gate, by the bytes that were written
  pub opened_as : (now : D) (before out bytes : List ℕ) → out ≡ bytes → Images disk now (Starts (before ++ OPEN ∷ out)) → Images disk now (Starts (before ++ OPEN ∷ bytes))
  opened_as now before out bytes is set image is_image = subst (λ (l : List ℕ). Starts (before ++ OPEN ∷ l) image) is (set image is_image)

  -- ---- an append where no entry is in doubt

  module _ (account : Account) (mid : Journal D) (after : Stands disk mid (with_doubt account None)) where
    abbrev pub before_entry : List ℕ
    before_entry = here disk mid (with_doubt account None) after

    abbrev pub record_of : Entry → List ℕ
    record_of entry = closed_here disk mid (with_doubt account None) after (entered entry)

    pub closed_entry : Images disk mid.disk (IsClosed before_entry)
    closed_entry = closed_now disk mid (with_doubt account None) after refl

    -- the bytes are the record of the entry
    pub record_is : {body one value out : List ℕ} (entry : Entry) → out ≡ record_bytes true value body ++ CLOSED ∷ [] → IsTrue mid.sealed → body ≡ spelling entry → one ≡ spelling entry
        → ((digest : List ℕ) → (entries : List Entry) → (entry : Entry) → mid.chain ≡ chain digest entries → one ≡ spelling entry → value ≡ chain digest (entries ++ entry ∷ [])) → out ≡ record_of entry
    record_is {body} {one} {value} {out} entry is is_sealed is_body is_one next =
        written disk mid (with_doubt account None) after body value out entry is is_sealed is_body (next account.digest account.entries entry after.chain is_one)

    pub until_staged : (staged : D) (entry : Entry) → LeavesOnly disk mid.disk staged (IsClosed before_entry) → LeavesOnly disk mid.disk staged (IsListAmid (with_doubt account None) (Some entry))
    until_staged staged entry run =
        weaker disk mid.disk staged (IsClosed before_entry) (IsListAmid (with_doubt account None) (Some entry)) (λ image is. amid_closed disk mid (with_doubt account None) after (Some entry) image is) run

    pub until_opened : (staged opened : D) (out : List ℕ) (entry : Entry) → IsEntry entry → out ≡ record_of entry
        → LeavesOnly disk mid.disk staged (IsClosed before_entry) → LeavesOnly disk staged opened (IsDoubtful before_entry out) → LeavesOnly disk mid.disk opened (IsListAmid (with_doubt account None) (Some entry))
    until_opened staged opened out entry is_entry is run opening =
        let amid = IsListAmid (with_doubt account None) (Some entry) in
        joined disk mid.disk staged opened amid (until_staged staged entry run)
        (weaker disk staged opened (IsDoubtful before_entry out) amid
        (λ image doubtful. amid_writing disk mid (with_doubt account None) after entry image is_entry (subst (λ (l : List ℕ). IsDoubtful before_entry l image) is doubtful)) opening)

  -- ---- a seal

  module _ (old : Journal D) (account : Account) (stands : Stands disk old account) where
    pub sealing_staged : (staged : D) → LeavesOnly disk old.disk staged (IsClosed (here disk old account stands)) → LeavesOnly disk old.disk staged (IsListOf account.digest account.entries)
    sealing_staged staged run =
        weaker disk old.disk staged (IsClosed (here disk old account stands)) (IsListOf account.digest account.entries) (λ image is. list_closed disk old account stands image is) run

    pub sealing_opened : (staged opened : D) (out : List ℕ) → IsFalse old.sealed → out ≡ closed_here disk old account stands sealed → LeavesOnly disk old.disk staged (IsClosed (here disk old account stands))
        → LeavesOnly disk staged opened (IsDoubtful (here disk old account stands) out) → LeavesOnly disk old.disk opened (IsListOf account.digest account.entries)
    sealing_opened staged opened out plain is run opening =
        let before = here disk old account stands in
        let list = IsListOf account.digest account.entries in
        joined disk old.disk staged opened list (sealing_staged staged run)
        (weaker disk staged opened (IsDoubtful before out) list (λ image doubtful. list_sealing disk old account stands image plain (subst (λ (l : List ℕ). IsDoubtful before l image) is doubtful)) opening)
