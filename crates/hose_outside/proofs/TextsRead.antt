-- The text of a topology: what a reader told of it, what a cabinet has of it, and what is done with
-- a journal after it was read.
use Rattle.std.proofs.Common.{◌≡◌, ◌≢◌, ◌∙◌, length, ◌⊎◌, ◌↔◌, inl, inr, ℕ, ◌+◌, ◌<◌, ◌≤◌, List, [], Bool, Option, None, Some, IfSome, IsSome, IsTrue, Result, Ok, Err, refl, sym, ap, subst, arith, append-nil, ◌++◌, false}
use Rattle.hose_io.specs.steps.Calls.{HasGone}
use Rattle.hose_io.specs.Frame.{Frame, Rose}
use Rattle.hose_io.specs.Stream.{Stream, Gives}
use Rattle.hose_io.specs.declared.Failed.{Failed}
use Rattle.hose_io.specs.declared.source.Source.{Ghosts as SourceGhosts}
use Rattle.hose_io.proofs.Calling.{HasGone-keeps}
use Rattle.hose_io.proofs.Frames.{Stays-next}
use Rattle.hose_words.specs.steps.Lines.{Reader}
use Rattle.hose_words.specs.Reading.{WhereTold}
use Rattle.hose_words.specs.steps.Reading.{ReadsOn}
use Rattle.hose_words.specs.declared.lines.TheConstants.{INPUT_LIMIT}
use Rattle.hose_words.specs.declared.lines.LineFault.{LineFault}
use Rattle.hose_words.specs.declared.lines.LineFault.TheVariants as line
use Rattle.hose_graph.specs.Network.{IsNetwork, Network}
use Rattle.hose_graph.specs.declared.entry.Entry.{Entry}
use Rattle.hose_disk.specs.Cabinet.{Has, object_of}
use Rattle.hose_disk.specs.steps.Cabinet.{IsTextCall, absent_after}
use Rattle.hose_disk.specs.declared.cabinet.Cabinet.{Ghosts as CabinetGhosts}
use Rattle.hose_disk.specs.declared.disk.Disk.{Ghosts as DiskGhosts}
use Rattle.hose_journal.specs.Image.{Meaning, damaged, other}
use Rattle.hose_topo.specs.Reading.{StopsInTopology}
use Rattle.hose_topo.specs.steps.Reading.{KeepsLineFault, fault_of}
use Rattle.hose_topo.specs.TopologyText.{IsTopologyText, IsWrongAt}
use Rattle.hose_topo.specs.declared.fault.TopoFault.{TopoFault}
use Rattle.hose_topo.specs.declared.fault.TopoFault.TheVariants as topo
use Rattle.hose_outside.specs.Reading.{IsLongAt, IsStarvedAt, IsTextFault, TextComesTo, ReadsText}
use Rattle.hose_outside.specs.CabinetText.{OnlyTextsRead, stream_at, text_stream, whole_text}
use Rattle.hose_outside.specs.steps.CabinetText.{HasAsked, TextState, reading_frame, text_left, text_source}
use Rattle.hose_outside.specs.steps.Fault.{of_topology}
use Rattle.hose_outside.specs.OnDisk.{CabinetFailed, CabinetWorked, HadContent, IsRefusedOnDisk, IsUnopened}
use Rattle.hose_outside.specs.steps.JsonRead.{IsJsonOf}
use Rattle.hose_outside.specs.TopologyTold.{HasText, TellsNoNetwork, TellsPriced, limit_of, own_costs}
use Rattle.hose_outside.specs.declared.json_text.TheConstants.{JSON_LIMIT}
use Rattle.hose_outside.specs.declared.notation.Notation.{Notation}
use Rattle.hose_outside.specs.declared.notation.Notation.TheVariants as notation
use Rattle.hose_outside.specs.declared.notation.Refusal.TheVariants.{Word}
use Rattle.hose_words.proofs.OnReading.{WhereTold-map, WhereTold-both}
use Rattle.hose_words.proofs.Saying.{rose_now}
use Rattle.hose_outside.proofs.Texts.{HasAsked-next, HasAsked-none}
use Rattle.hose_outside.specs.Unopened.{OpensNoJournal}
use Rattle.hose_outside.specs.declared.fault.Fault.{Fault}
use Rattle.hose_outside.specs.declared.fault.Fault.TheVariants as fault

-- ---- what a reader told

-- reading stopped inside the topology
pub stopped_told : {S : Type 0} (source : SourceGhosts S) (start last : Reader S) (fault : LineFault) → start.pending ≡ []
    → WhereTold (source.content start.source) (source.content last.source) (λ input left. StopsInTopology fault (start.pending ++ input) left)
    → WhereTold (source.content start.source) (source.content last.source) (StopsInTopology fault)
stopped_told source start last fault empty told = WhereTold-map (source.content start.source) (source.content last.source) _ _ told
    (λ a b stopped. subst (λ (p : List ℕ). StopsInTopology fault (p ++ a) b) empty stopped)

-- the text of a network was read
pub text_told : {S : Type 0} (source : SourceGhosts S) (start last : Reader S) (network : Network) → start.pending ≡ []
    → WhereTold (source.content start.source) (source.content last.source) (λ input left. IsTopologyText (start.pending ++ input) network (last.pending ++ left))
    → WhereTold (source.content start.source) (source.content last.source) (λ input _. (rest : List ℕ) × IsTopologyText input network rest)
text_told source start last network empty told = WhereTold-map (source.content start.source) (source.content last.source) _ _ told
    (λ a b is. (last.pending ++ b, subst (λ (p : List ℕ). IsTopologyText (p ++ a) network (last.pending ++ b)) empty is))

-- the topology is wrong
pub wrong_told : {S : Type 0} (source : SourceGhosts S) (start last : Reader S) (line word : ℕ) → start.pending ≡ []
    → WhereTold (source.content start.source) (source.content last.source) (λ before after. IsWrongAt (start.pending ++ before) line word (last.pending ++ after))
    → WhereTold (source.content start.source) (source.content last.source) (λ before _. (network : Network) (rest : List ℕ) → IsTopologyText (start.pending ++ before) network rest → ⊥)
    → TellsNoNetwork notation.Lines (Word line word) (source.content start.source) (source.content last.source)
wrong_told source start last line word empty wrong none =
    WhereTold-map (source.content start.source) (source.content last.source) _ _
    (WhereTold-both (source.content start.source) (source.content last.source) _ _ wrong none)
    (λ a b both. (
      (last.pending ++ b, subst (λ (p : List ℕ). IsWrongAt (p ++ a) line word (last.pending ++ b)) empty both.0),
      λ network tells. subst (λ (p : List ℕ). (n : Network) (rest : List ℕ) → IsTopologyText (p ++ a) n rest → ⊥) empty both.1 network tells.0 tells.1,
    ))

-- the reader has no fault of reading where that is not why no topology was read
pub not_read : (topology : TopoFault) (old new : Option LineFault) → old ≡ None → KeepsLineFault old new (Err topology) → (topology ≡ topo.Read → ⊥) → new ≢ Some line.Read
not_read (topo.At l word) old new none kept unlike read = cc (kept.1, read)
not_read topo.Read old new none kept unlike read = unlike refl
not_read topo.TooLong old new none kept unlike read = cc (kept, read)
not_read topo.Memory old new none kept unlike read = cc (kept, none, read)

-- ---- the text of a topology

module _ {C E : Type 0} (cabinet : CabinetGhosts C E) (old new : C) (name : List ℕ) (start last : TextState C)
    (value : start.cabinet.now ≡ old) (named : start.name ≡ name) (from : start.from ≡ 0) (behind : last.cabinet.now ≡ new)
    (gone : HasGone (text_source cabinet) start last) (there : IsTrue (cabinet.frame old).tells → IsSome (cabinet.text old name)) where
  abbrev source : SourceGhosts (TextState C)
  source = text_source cabinet

  asked : HasAsked cabinet start last
  asked = HasGone-keeps (HasAsked cabinet) (HasAsked-none cabinet) (HasAsked-next cabinet) gone

  only_here : OnlyTextsRead cabinet old new
  only_here = subst (λ (c : C). OnlyTextsRead cabinet c new) value (subst (λ (c : C). OnlyTextsRead cabinet start.cabinet.now c) behind asked.only_texts)

  absent_here : IsTrue (cabinet.frame old).tells → (cabinet.frame new).absent ≡ (cabinet.frame old).absent
  absent_here = subst (λ (c : C). IsTrue (cabinet.frame c).tells → (cabinet.frame new).absent ≡ (cabinet.frame c).absent) value
      (subst (λ (c : C). IsTrue (cabinet.frame start.cabinet.now).tells → (cabinet.frame c).absent ≡ (cabinet.frame start.cabinet.now).absent) behind asked.absent)

  -- the text as it was
  first_content : source.content start ≡ whole_text cabinet old name
  first_content = ap (λ (c : C). text_stream cabinet c start.name start.from) value
      ∙ (ap (λ (n : List ℕ). text_stream cabinet old n start.from) named ∙ ap (text_stream cabinet old name) from)

  faults_first : (source.frame start).faults ≡ (cabinet.frame old).faults
  faults_first = ap (λ (c : C). (cabinet.frame c).faults) value

  faults_last : (source.frame last).faults ≡ (cabinet.frame new).faults
  faults_last = ap (λ (c : C). (cabinet.frame c).faults) behind

  held : source.frame last ≡ source.frame start → CabinetWorked cabinet old new
  held same = ap (λ (n : ℕ). record { faults = n; number = 0; loan = [] }) (sym faults_last ∙ (ap (λ (f : Frame). f.faults) same ∙ faults_first))

  failed : Rose (source.frame start) (source.frame last) → CabinetFailed cabinet old new
  failed rose = record { rose = grind (arith, rose.rose, faults_first, faults_last) }

  moved : (P : Option Stream → Option Stream → Type 0) → P (source.content start) (source.content last) → P (whole_text cabinet old name) (source.content last)
  moved P is = subst (λ (c : Option Stream). P c (source.content last)) first_content is

  -- a topology was read, or none
  read_as : (written : Notation) (done : Result Network Fault) (bytes : List ℕ) → Gives (source.content start) (source.content last) bytes → length bytes ≤ limit_of written + 1 → ((done ≡ Err fault.TooLong) ↔ (limit_of written < length bytes))
      → TextComesTo cabinet old new written own_costs (whole_text cabinet old name) (source.content last) done → ReadsText cabinet old new written own_costs name done
  read_as written done bytes gives limit long text = record {
    taken = bytes;
    left = source.content last;
    gives = moved (λ a b. Gives a b bytes) gives;
    limit = limit;
    too_long = long;
    text = text;
    only_texts = only_here;
    absent = λ told some. absent_here told;
    not_there = λ told none. absurd (none_there (cabinet.text old name) none (there told));
  }
    where
      none_there : (found : Option (List ℕ)) → found ≡ None → IsSome found → ⊥
      none_there None none some = absurd (cc some)
      none_there (Some bytes) none some = cc none

  -- of a text in lines
  module _ (bytes : List ℕ) (gives : Gives (source.content start) (source.content last) bytes) (limit : length bytes ≤ INPUT_LIMIT + 1) where
    pub read_ok : (network : Network) → IsNetwork network → (◌≡◌ {A = Result Network Fault} (Ok network) (Err fault.TooLong) ↔ (INPUT_LIMIT < length bytes)) → source.frame last ≡ source.frame start
        → WhereTold (source.content start) (source.content last) (λ text _. (rest : List ℕ) × IsTopologyText text network rest) → ReadsText cabinet old new notation.Lines own_costs name (Ok network)
    read_ok network is long same text = read_as notation.Lines (Ok network) bytes gives limit long
        (is, held same, moved (λ a b. WhereTold a b (λ text _. TellsPriced notation.Lines own_costs text network)) (WhereTold-map (source.content start) (source.content last) _ _ text (λ input left tells. (network, tells, refl))))

    pub read_err : (why : TopoFault) → ((line word : ℕ) → why ≡ topo.At line word → TellsNoNetwork notation.Lines (Word line word) (source.content start) (source.content last))
        → ((met : LineFault) → why ≡ fault_of met → WhereTold (source.content start) (source.content last) (StopsInTopology met))
        → (why ≡ topo.Read → Rose (source.frame start) (source.frame last)) → ((why ≡ topo.Read → ⊥) → source.frame last ≡ source.frame start)
        → (why ≡ topo.Memory → last ≡ start) → ((why ≡ topo.TooLong) ↔ (INPUT_LIMIT < length bytes)) → ReadsText cabinet old new notation.Lines own_costs name (Err (of_topology fault.Text why))
    read_err why wrong stopped rose unfailed memory long = read_as notation.Lines (Err (of_topology fault.Text why)) bytes gives limit
        ((λ is. long.0 (too_long_text why (cc is))), λ more. ap (λ (w : TopoFault). Err (of_topology fault.Text w)) (long.1 more))
        (at why wrong stopped rose unfailed memory)
      where
        too_long_text : (met : TopoFault) → of_topology fault.Text met ≡ fault.TooLong → met ≡ topo.TooLong
        too_long_text (topo.At l word) same = absurd (cc same)
        too_long_text topo.Read same = absurd (cc same)
        too_long_text topo.TooLong same = refl
        too_long_text topo.Memory same = absurd (cc same)

        at : (met : TopoFault) → ((line word : ℕ) → met ≡ topo.At line word → TellsNoNetwork notation.Lines (Word line word) (source.content start) (source.content last))
            → ((f : LineFault) → met ≡ fault_of f → WhereTold (source.content start) (source.content last) (StopsInTopology f))
            → (met ≡ topo.Read → Rose (source.frame start) (source.frame last)) → ((met ≡ topo.Read → ⊥) → source.frame last ≡ source.frame start)
            → (met ≡ topo.Memory → last ≡ start) → IsTextFault cabinet old new notation.Lines (whole_text cabinet old name) (source.content last) (of_topology fault.Text met)
        at (topo.At l word) wrong stopped rose unfailed memory = (moved (TellsNoNetwork notation.Lines (Word l word)) (wrong l word refl), held (unfailed (λ is. absurd (cc is))))
        at topo.Read wrong stopped rose unfailed memory = failed (rose refl)
        at topo.TooLong wrong stopped rose unfailed memory = (moved (λ a b. WhereTold a b (StopsInTopology line.TooLong)) (stopped line.TooLong refl), held (unfailed (λ is. absurd (cc is))))
        at topo.Memory wrong stopped rose unfailed memory = (inl (ap source.content (memory refl) ∙ first_content), held (unfailed (λ is. absurd (cc is))))

  -- of one in JSON
  pub read_json_as : (done : Result Network Fault) (bytes : List ℕ) → Gives (source.content start) (source.content last) bytes → length bytes ≤ JSON_LIMIT + 1 → ((done ≡ Err fault.TooLong) ↔ (JSON_LIMIT < length bytes))
      → IsJsonOf (source.content start) (source.content last) done → (done ≡ Err fault.Text → Rose (source.frame start) (source.frame last)) → (done ≢ Err fault.Text → source.frame last ≡ source.frame start)
      → ReadsText cabinet old new notation.Json own_costs name done
  read_json_as done bytes gives limit long json rose same = read_as notation.Json done bytes gives limit long (at done json rose same)
    where
      at : (met : Result Network Fault) → IsJsonOf (source.content start) (source.content last) met → (met ≡ Err fault.Text → Rose (source.frame start) (source.frame last)) → (met ≢ Err fault.Text → source.frame last ≡ source.frame start)
          → TextComesTo cabinet old new notation.Json own_costs (whole_text cabinet old name) (source.content last) met
      at (Ok network) is rose same = (
        is.0,
        held (same (λ e. absurd (cc e))),
        moved (λ a b. WhereTold a b (λ text _. TellsPriced notation.Json own_costs text network)) (WhereTold-map (source.content start) (source.content last) _ _ is.1 (λ input left tells. (network, tells, refl))),
      )
      at (Err (fault.Topology refusal)) is rose same = (moved (TellsNoNetwork notation.Json refusal) is, held (same (λ e. absurd (cc e))))
      at (Err fault.Text) is rose same = failed (rose refl)
      at (Err fault.Memory) is rose same = (inl tt, held (same (λ e. absurd (cc e))))
      at (Err fault.TooLong) is rose same = (tt, held (same (λ e. absurd (cc e))))
      at (Err another) is rose same = absurd is

-- ---- a text in lines, by a reader that was made of it

module _ {C E : Type 0} (cabinet : CabinetGhosts C E) (old new : C) (name : List ℕ) (text : TextState C) (first last : Reader (TextState C)) (made : first ≡ record { source = text; pending = []; taken = 0; fault = None; ended = false })
    (value : text.cabinet.now ≡ old) (named : text.name ≡ name) (from : text.from ≡ 0) (behind : last.source.cabinet.now ≡ new) (there : IsTrue (cabinet.frame old).tells → IsSome (cabinet.text old name))
    (reads : ReadsOn (text_source cabinet) first last) (within : first.taken ≤ INPUT_LIMIT + 1 → last.taken ≤ INPUT_LIMIT + 1) where
  abbrev told : (List ℕ → List ℕ → Type 0) → Type 0
  told P = WhereTold (text_left cabinet first.source) (text_left cabinet last.source) P

  begun : first.source ≡ text
  begun = ap (λ (r : Reader (TextState C)). r.source) made

  pending : first.pending ≡ []
  pending = ap (λ (r : Reader (TextState C)). r.pending) made

  no_fault : first.fault ≡ None
  no_fault = ap (λ (r : Reader (TextState C)). r.fault) made

  few : first.taken ≤ INPUT_LIMIT
  few = omega (arith, ap (λ (r : Reader (TextState C)). r.taken) made)

  count : last.taken ≡ length reads.takes.0
  count = omega (arith, reads.takes.2, ap (λ (r : Reader (TextState C)). r.taken) made)

  short : length reads.takes.0 ≤ INPUT_LIMIT + 1
  short = omega (arith, within (omega (arith, few)), count)

  pub lines_ok : (network : Network) → IsNetwork network → last.fault ≢ Some line.Read → (first.taken ≤ INPUT_LIMIT → INPUT_LIMIT < last.taken → ⊥) → told (λ input left. IsTopologyText (first.pending ++ input) network (last.pending ++ left))
      → ReadsText cabinet old new notation.Lines own_costs name (Ok network)
  lines_ok network is unfailed whole tells =
      read_ok cabinet old new name first.source last.source (ap (λ (t : TextState C). t.cabinet.now) begun ∙ value) (ap (λ (t : TextState C). t.name) begun ∙ named) (ap (λ (t : TextState C). t.from) begun ∙ from) behind reads.gone there
      reads.takes.0 reads.takes.1 short network is
      ((λ same. absurd (cc same)), λ more. absurd (whole few (omega (arith, more, count))))
      (reads.unfailed unfailed) (text_told (text_source cabinet) first last network pending tells)

  pub lines_err : (result : Result Network TopoFault) (why : TopoFault) → result ≡ Err why
      → ((line word : ℕ) → result ≡ Err (topo.At line word) → told (λ before after. IsWrongAt (first.pending ++ before) line word (last.pending ++ after)))
      → ((line word : ℕ) → result ≡ Err (topo.At line word) → told (λ before _. (network : Network) (rest : List ℕ) → IsTopologyText (first.pending ++ before) network rest → ⊥))
      → (first.fault ≡ None → (met : LineFault) → result ≡ Err (fault_of met) → told (λ before after. StopsInTopology met (first.pending ++ before) after))
      → (result ≡ Err topo.Read → (first.fault ≡ Some line.Read) ⊎ Rose (reading_frame cabinet first.source) (reading_frame cabinet last.source))
      → (first.taken ≤ INPUT_LIMIT → ((result ≡ Err topo.TooLong) ↔ (INPUT_LIMIT < last.taken))) → (result ≡ Err topo.Memory → last ≡ first) → KeepsLineFault first.fault last.fault result
      → ReadsText cabinet old new notation.Lines own_costs name (Err (of_topology fault.Text why))
  lines_err result why at wrong no_text front failed too_long starved kept =
      read_err cabinet old new name first.source last.source (ap (λ (t : TextState C). t.cabinet.now) begun ∙ value) (ap (λ (t : TextState C). t.name) begun ∙ named) (ap (λ (t : TextState C). t.from) begun ∙ from) behind reads.gone there
      reads.takes.0 reads.takes.1 short why
      (λ l word is. wrong_told (text_source cabinet) first last l word pending (wrong l word (at ∙ ap Err is)) (no_text l word (at ∙ ap Err is)))
      (λ met stopped. stopped_told (text_source cabinet) first last met pending (front no_fault met (at ∙ ap Err stopped)))
      (λ is. rose_now (text_source cabinet) first last no_fault (failed (at ∙ ap Err is)))
      (λ other. reads.unfailed (not_read why first.fault last.fault no_fault (subst (KeepsLineFault first.fault last.fault) at kept) other))
      (λ none. ap (λ (r : Reader (TextState C)). r.source) (starved (at ∙ ap Err none)))
      ((λ is. let more = (too_long few).0 (at ∙ ap Err is) in omega (arith, more, count)), λ more. cc ((too_long few).1 (omega (arith, more, count)), at))

-- ---- the text is asked for once before

module _ {C E : Type 0} (cabinet : CabinetGhosts C E) (old mid : C) (name : List ℕ) (texts : cabinet.text mid ≡ cabinet.text old) (disks : cabinet.held mid ≡ cabinet.held old)
    (absent : IsTrue (cabinet.frame old).tells → (cabinet.frame mid).absent ≡ absent_after (cabinet.text old name) (cabinet.frame old).absent) where
  only_asked : {T : Type 0} (result : Result T Failed) → IsTextCall (cabinet.frame old) (cabinet.frame mid) result → OnlyTextsRead cabinet old mid
  only_asked result call = record { texts = texts; disks = disks; stays = call.met.stays; returned = call.returned; out = call.out; tells = call.tells }

  kept_absent : (found : Option (List ℕ)) (count : ℕ) → IsSome found → absent_after found count ≡ count
  kept_absent None count some = absurd (cc some)
  kept_absent (Some bytes) count some = refl

  absent_kept : IsTrue (cabinet.frame old).tells → IsSome (cabinet.text old name) → (cabinet.frame mid).absent ≡ (cabinet.frame old).absent
  absent_kept told some = absent told ∙ kept_absent (cabinet.text old name) (cabinet.frame old).absent some

  gives_nothing : (content : Option Stream) → Gives content content []
  gives_nothing None = tt
  gives_nothing (Some stream) = record { taken = sym (append-nil stream.taken); left = refl }

  -- it is refused
  pub not_given : {T : Type 0} (failed : Failed) → IsTextCall {T = T} (cabinet.frame old) (cabinet.frame mid) (Err failed) → (written : Notation) → ReadsText cabinet old mid written own_costs name (Err fault.Text)
  not_given {T} failed call written = record {
    taken = [];
    left = whole_text cabinet old name;
    gives = gives_nothing (whole_text cabinet old name);
    limit = omega arith;
    too_long = ((λ is. absurd (cc is)), λ more. absurd (omega (arith, more)));
    text = call.met.failed refl;
    only_texts = only_asked {T = T} (Err failed) call;
    absent = absent_kept;
    not_there = λ told none. refl;
  }

  -- and then it is read
  module _ {T : Type 0} (given : T) (new : C) (call : IsTextCall {T = T} (cabinet.frame old) (cabinet.frame mid) (Ok given)) where
    same_text : whole_text cabinet mid name ≡ whole_text cabinet old name
    same_text = ap (λ (b : Bool). stream_at 0 b (cabinet.text mid name)) call.tells ∙ ap (λ (t : List ℕ → Option (List ℕ)). stream_at 0 (cabinet.frame old).tells (t name)) texts

    held_too : CabinetWorked cabinet mid new → CabinetWorked cabinet old new
    held_too same = same ∙ call.met.ok

    failed_too : CabinetFailed cabinet mid new → CabinetFailed cabinet old new
    failed_too rose = subst (λ (f : Frame). Rose f (object_of (cabinet.frame new))) call.met.ok rose

    text_too : (written : Notation) (left : Option Stream) (done : Result Network Fault) → TextComesTo cabinet mid new written own_costs (whole_text cabinet mid name) left done → TextComesTo cabinet old new written own_costs (whole_text cabinet old name) left done
    text_too written left (Ok network) is = (is.0, held_too is.1, subst (λ (t : Option Stream). WhereTold t left (λ bytes _. TellsPriced written own_costs bytes network)) same_text is.2)
    text_too written left (Err (fault.Topology refusal)) is = (subst (λ (t : Option Stream). TellsNoNetwork written refusal t left) same_text is.0, held_too is.1)
    text_too written left (Err fault.TooLong) is = (subst (λ (t : Option Stream). IsLongAt written t left) same_text is.0, held_too is.1)
    text_too written left (Err fault.Text) is = failed_too is
    text_too written left (Err fault.Memory) is = (subst (λ (t : Option Stream). IsStarvedAt written t left ⊎ HasText written t left) same_text is.0, held_too is.1)
    text_too written left (Err another) is = absurd is

    pub read_then : (written : Notation) (done : Result Network Fault) → (IsTrue (cabinet.frame old).tells → cabinet.text old name ≡ None → ⊥) → ReadsText cabinet mid new written own_costs name done → ReadsText cabinet old new written own_costs name done
    read_then written done there reads = record {
      taken = reads.taken;
      left = reads.left;
      gives = subst (λ (t : Option Stream). Gives t reads.left reads.taken) same_text reads.gives;
      limit = reads.limit;
      too_long = reads.too_long;
      text = text_too written reads.left done reads.text;
      only_texts = record {
        texts = reads.only_texts.texts ∙ texts;
        disks = reads.only_texts.disks ∙ disks;
        stays = Stays-next call.met.stays reads.only_texts.stays;
        returned = reads.only_texts.returned ∙ call.returned;
        out = reads.only_texts.out ∙ call.out;
        tells = reads.only_texts.tells ∙ call.tells;
      };
      absent = λ told some. reads.absent (subst IsTrue (sym call.tells) told) (subst (λ (t : List ℕ → Option (List ℕ)). IsSome (t name)) (sym texts) some) ∙ absent_kept told some;
      not_there = λ told none. absurd (there told none);
    }

-- ---- what follows the text

module _ {C E : Type 0} (cabinet : CabinetGhosts C E) (disk : DiskGhosts E) (old mid new : C) (only : OnlyTextsRead cabinet old mid) where
  pub has_before : (name : List ℕ) (P : E → Type 0) → Has (cabinet.frame mid).tells (cabinet.held mid name) P → Has (cabinet.frame old).tells (cabinet.held old name) P
  has_before name P has = λ told.
      let found = has (subst IsTrue (sym only.tells) told) in
      (found.0, ap (λ (h : List ℕ → Option E). h name) (sym only.disks) ∙ found.1, found.2)

  pub held_before : (name : List ℕ) (P : List ℕ → Type 0) → HadContent cabinet disk mid name P → HadContent cabinet disk old name P
  held_before name P held = has_before name (λ was. IfSome (disk.content was) P) held

  pub unopened_before : (network : Network) (name : List ℕ) → IsUnopened cabinet disk mid new network name → IsUnopened cabinet disk old new network name
  unopened_before network name (inl same) = inl (same ∙ only.disks)
  unopened_before network name (inr has) = inr (has_before name _ has)

  refused_before : (network : Network) (name : List ℕ) (meaning : Meaning Entry) → IsRefusedOnDisk cabinet disk mid new network name meaning → IsRefusedOnDisk cabinet disk old new network name meaning
  refused_before network name meaning refused = record {
    means = held_before name _ refused.means;
    none = held_before name _ refused.none;
    unopened = unopened_before network name refused.unopened;
  }

  -- where no call of the cabinet failed before
  pub opens_none_before : CabinetWorked cabinet old mid → (name : List ℕ) (network : Network) (why : Fault) → OpensNoJournal cabinet disk name mid new network (Err why) → OpensNoJournal cabinet disk name old new network (Err why)
  opens_none_before same name network fault.Cabinet not = (unopened_before network name not.0, subst (λ (f : Frame). Rose f (object_of (cabinet.frame new))) same not.1)
  opens_none_before same name network (fault.Other kept given) not = (not.0, refused_before network name (other kept) not.1)
  opens_none_before same name network (fault.Damaged at) not = refused_before network name (damaged at) not
  opens_none_before same name network fault.Memory not = unopened_before network name not
  opens_none_before same name network another not = absurd not
