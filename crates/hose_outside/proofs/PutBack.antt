-- What becomes of a disk that is taken out of a cabinet, and of the cabinet once one is put back.
use Rattle.std.proofs.Common.{◌≡◌, ◌∙◌, ◌⊎◌, inl, inr, ⊎_elim, ℕ, ◌≤◌, ◌<◌, ◌-◌, ◌^◌, if◌then◌else◌, List, [], Bool, true, false, Option, Some, None, IfSome, IsTrue, is_err, Result, Ok, Err, refl, sym, ap, subst, arith}
use Rattle.std.specs.Prelude.{⊤}
use Rattle.std.proofs.lemmas.Bool.{cases_lt}
use Rattle.hose_io.specs.Count.{one_more}
use Rattle.hose_io.specs.Frame.{Frame, Met, Rose}
use Rattle.hose_io.specs.declared.Failed.{Failed}
use Rattle.hose_graph.specs.Network.{Network}
use Rattle.hose_graph.specs.declared.entry.Entry.{Entry}
use Rattle.hose_law.specs.History.{EntryKind, IsDecidedAt}
use Rattle.hose_disk.specs.Cabinet.{CabinetFrame, Has, object_of, where_told}
use Rattle.hose_disk.specs.Disk.{NoneNew}
use Rattle.hose_disk.specs.declared.cabinet.Cabinet.{Ghosts as CabinetGhosts}
use Rattle.hose_disk.specs.declared.disk.Disk.{Ghosts as DiskGhosts}
use Rattle.hose_journal.specs.Image.{Meaning, damaged, other}
use Rattle.hose_journal.specs.Moments.{LeavesOnly}
use Rattle.hose_store.specs.Beginning.{HasLeft}
use Rattle.hose_store.specs.Opening.{IsAtOpening}
use Rattle.hose_store.specs.Recovery.{IsHistoryOf, IsRecoveredAs}
use Rattle.hose_outside.specs.Journal.{IsPutIn, IsTakenOut}
use Rattle.hose_outside.specs.OnDisk.{HadContent, IsRefusedOnDisk, IsUnopened, opening_of}
use Rattle.hose_outside.specs.Unopened.{OpensNoJournal}
use Rattle.hose_outside.specs.steps.Unopened.{IsNotOpened, Refuses}
use Rattle.hose_outside.specs.declared.fault.Fault.{Fault}
use Rattle.hose_outside.specs.declared.fault.Fault.TheVariants as fault

has_both : {A : Type 0} (tells : Bool) (found : Option A) (P Q : A → Type 0) → Has tells found P → Has tells found Q → Has tells found (λ value. P value × Q value)
has_both {A} tells found P Q p q = λ told.
    let one = p told in
    let two = q told in
    let same : two.0 ≡ one.0 = cc (two.1, one.1) in
    (one.0, one.1, (one.2, subst Q same two.2))

has_weaker : {A : Type 0} (tells : Bool) (found : Option A) (P Q : A → Type 0) → ((value : A) → P value → Q value) → Has tells found P → Has tells found Q
has_weaker tells found P Q weaker p = λ told.
    let one = p told in
    (one.0, one.1, weaker one.0 one.2)

told_some : {A : Type 0} (tells : Bool) (value : A) → IsTrue tells → where_told tells value ≡ Some value
told_some true value told = refl
told_some false value told = absurd (cc told)

-- A disk was taken out of a cabinet as it was held there, and another one was put back in its place.
pub record IsPutBack {C E : Type 0} (cabinet : CabinetGhosts C E) (disk : DiskGhosts E) (name : List ℕ) (old mid new : C) (opened left : E) : Type 0 where
  pub out : IsTakenOut cabinet disk name old mid opened
  pub in_place : IsPutIn cabinet disk mid new left

module _ {C E : Type 0} (cabinet : CabinetGhosts C E) (disk : DiskGhosts E) (name : List ℕ) (old mid new : C) (network : Network) (opened left : E)
    (back : IsPutBack cabinet disk name old mid new opened left) where
  abbrev was_tells : Bool
  was_tells = (cabinet.frame old).tells

  -- the disk that is put back is held under the name
  held_left : Has (cabinet.frame new).tells (cabinet.held new name) (λ now. now ≡ left)
  held_left = λ told.
      let tells : (cabinet.frame new).tells ≡ (cabinet.frame mid).tells = ap (λ (f : CabinetFrame). f.tells) back.in_place.call in
      let there = subst (λ (out : Option (List ℕ)). IfSome out (λ out. cabinet.held new out ≡ where_told (cabinet.frame mid).tells left)) back.out.call.taken_out back.in_place.held in
      (left, there ∙ told_some (cabinet.frame mid).tells left (subst IsTrue tells told), refl)

  pub at_opening : (was : E) (image : List ℕ) → disk.content opened ≡ disk.content was → NoneNew (disk.may_leave was) (disk.may_leave opened) → IsAtOpening disk opened network image → IsAtOpening disk was network image
  at_opening was image same none_new (inl had) = inl (none_new image had)
  at_opening was image same none_new (inr stands) = inr (stands.0, subst (λ (c : Option (List ℕ)). IfSome c (IsHistoryOf network stands.0)) same stands.1, stands.2)

  -- the disk that was held, as it was taken out
  abbrev pub TakenFrom : E → Type 0
  TakenFrom was = (disk.content opened ≡ disk.content was) × (NoneNew (disk.may_leave was) (disk.may_leave opened) × (disk.moment opened ≡ disk.moment was))

  taken_from : Has was_tells (cabinet.held old name) TakenFrom
  taken_from = has_both was_tells (cabinet.held old name) _ _ back.out.content (has_both was_tells (cabinet.held old name) _ _ back.out.images back.out.moment)

  -- what holds of it beside the disk as it was held holds in the cabinet
  pub left_as : (P : E → E → Type 0) → ((was : E) → TakenFrom was → P was left) → Has was_tells (cabinet.held old name) (λ was. Has (cabinet.frame new).tells (cabinet.held new name) (P was))
  left_as P holds = has_weaker was_tells (cabinet.held old name) _ _
      (λ was is. has_weaker (cabinet.frame new).tells (cabinet.held new name) _ _ (λ now same. subst (P was) (sym same) (holds was is)) held_left) taken_from

  -- nothing was entered
  pub unopened : LeavesOnly disk opened left (IsAtOpening disk opened network) → IsUnopened cabinet disk old new network name
  unopened run = inr (has_weaker was_tells (cabinet.held old name) _ _
      (λ was is. has_weaker (cabinet.frame new).tells (cabinet.held new name) _ _
      (λ now same image since. at_opening was image is.0 is.1.0
      (run.each image (subst (λ (t : ℕ). disk.left_since left t image) (sym is.1.1) (subst (λ (d : E). disk.left_since d (disk.moment was) image) same since)))) held_left)
      taken_from)

  -- what was read of the disk is what it held
  pub held_as : (P : List ℕ → Type 0) → IfSome (disk.content opened) P → HadContent cabinet disk old name P
  held_as P is = has_weaker was_tells (cabinet.held old name) _ _ (λ was same. subst (λ (c : Option (List ℕ)). IfSome c P) same is) back.out.content

  -- the count of the cabinet
  faults_before : (cabinet.frame mid).faults ≡ (cabinet.frame old).faults
  faults_before = ap (λ (f : Frame). f.faults) back.out.call.met.ok

  abbrev Counted : Bool → ℕ
  Counted failed = if failed then one_more (cabinet.frame mid).faults else (cabinet.frame mid).faults

  counted : (failed : Bool) → (disk.frame left).has_failed ≡ failed → (cabinet.frame new).faults ≡ Counted failed
  counted failed told = ap (λ (f : CabinetFrame). f.faults) back.in_place.call ∙ ap Counted told

  risen : (disk.frame left).has_failed ≡ true → Rose (object_of (cabinet.frame old)) (object_of (cabinet.frame new))
  risen told = record { rose = at (cases_lt (cabinet.frame old).faults (cabinet.frame new).faults) }
    where
      at : ((cabinet.frame old).faults < (cabinet.frame new).faults) ⊎ ((cabinet.frame new).faults ≤ (cabinet.frame old).faults) → ((cabinet.frame old).faults < (cabinet.frame new).faults) ⊎ (2 ^ 64 - 1 ≤ (cabinet.frame new).faults)
      at (inl more) = inl more
      at (inr least) = inr (omega (arith, least, counted true told, faults_before))

  pub counts : (closing : Result ⊤ Failed) → (disk.frame left).has_failed ≡ is_err closing → Met (object_of (cabinet.frame old)) (object_of (cabinet.frame new)) closing
  counts (Ok done) told =
      let same : (cabinet.frame new).faults ≡ (cabinet.frame old).faults = counted false told ∙ faults_before in
      record {
        stays = record { never_falls = omega (arith, same); number = refl; loan = refl };
        failed = λ err. absurd (cc err);
        ok = ap (λ (n : ℕ). record { faults = n; number = 0; loan = [] }) same;
      }
  counts (Err failed) told = record {
    stays = record { never_falls = omega (arith, back.in_place.never_falls, faults_before); number = refl; loan = refl };
    failed = λ err. risen told;
    ok = tt;
  }

  refuses : (meaning : Meaning Entry) → IsUnopened cabinet disk old new network name → Refuses disk opened network meaning → IsRefusedOnDisk cabinet disk old new network name meaning
  refuses meaning none is = record {
    means = held_as (λ bytes. IsRecoveredAs network bytes meaning) (first_of (disk.content opened) is);
    none = held_as (λ bytes. (history : List Entry) → ¬ IsHistoryOf network history bytes) (second_of (disk.content opened) is);
    unopened = none;
  }
    where
      first_of : (c : Option (List ℕ)) → IfSome c (λ bytes. IsRecoveredAs network bytes meaning × ((history : List Entry) → ¬ IsHistoryOf network history bytes)) → IfSome c (λ bytes. IsRecoveredAs network bytes meaning)
      first_of None is = tt
      first_of (Some bytes) is = is.0

      second_of : (c : Option (List ℕ)) → IfSome c (λ bytes. IsRecoveredAs network bytes meaning × ((history : List Entry) → ¬ IsHistoryOf network history bytes)) → IfSome c (λ bytes. (history : List Entry) → ¬ IsHistoryOf network history bytes)
      second_of None is = tt
      second_of (Some bytes) is = is.1

  -- no store was opened
  pub opens_none : (done : Result ⊤ Fault) → IsNotOpened disk opened left network done → OpensNoJournal cabinet disk name old new network done
  opens_none (Ok done) not = absurd not.why
  opens_none (Err (fault.Other old_one given)) not = (not.why.0, refuses (other old_one) (unopened not.images) not.why.1)
  opens_none (Err (fault.Damaged at)) not = refuses (damaged at) (unopened not.images) not.why
  opens_none (Err fault.Cabinet) not = (unopened not.images, risen not.why)
  opens_none (Err fault.Memory) not = unopened not.images
  opens_none (Err another) not = absurd not.why

  -- what was so of the disk when it was opened was so when the cabinet held it
  had_before : (Kind : EntryKind) (since history : List Entry) (closing : Result ⊤ Failed) (was : E) → TakenFrom was → HasLeft disk Kind (disk.may_leave opened) (opening_of disk network since opened) history left closing
      → HasLeft disk Kind (disk.may_leave was) (opening_of disk network since was) history left closing
  had_before Kind since history closing was is one = record {
    doubt = one.doubt;
    doubtful = one.doubtful;
    now = one.now;
    closed = one.closed;
    moments = λ image later. ⊎_elim (λ part. inl part) (λ had. inr (is.1.0 image had)) (one.moments image (subst (λ (t : ℕ). disk.left_since left t image) (sym is.1.1) later));
  }

  -- what closing the disk left is what the cabinet has
  pub left_as_kind : (Kind : EntryKind) (since history : List Entry) (closing : Result ⊤ Failed) → HasLeft disk Kind (disk.may_leave opened) (opening_of disk network since opened) history left closing
      → Has was_tells (cabinet.held old name) (λ was. Has (cabinet.frame new).tells (cabinet.held new name) (λ now. HasLeft disk Kind (disk.may_leave was) (opening_of disk network since was) history now closing))
  left_as_kind Kind since history closing one = left_as (λ was now. HasLeft disk Kind (disk.may_leave was) (opening_of disk network since was) history now closing) (λ was from. had_before Kind since history closing was from one)

  pub left_in : (since history : List Entry) (closing : Result ⊤ Failed) → HasLeft disk IsDecidedAt (disk.may_leave opened) (opening_of disk network since opened) history left closing
      → Has was_tells (cabinet.held old name) (λ was. Has (cabinet.frame new).tells (cabinet.held new name) (λ now. HasLeft disk IsDecidedAt (disk.may_leave was) (opening_of disk network since was) history now closing))
  left_in since history closing one = left_as_kind IsDecidedAt since history closing one
