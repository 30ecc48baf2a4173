-- One plan, one side, one answer: without want of memory the replies of a script are the only ones.
use Rattle.std.proofs.Common.{◌≡◌, ◌≢◌, ◌∙◌, ℕ, zero, suc, ◌+◌, ◌<◌, ◌≤◌, Bool, true, false, not, List, [], ◌∷◌, Option, None, Some, IsSome, length, take, inl, inr, ◌⊎◌, refl, sym, ap, subst, arith}
use Rattle.std.specs.Bool.{⊤}
use Rattle.std.proofs.lemmas.Bool.{false≢true}
use Rattle.std.proofs.lemmas.List.Elements.{All-head, All-tail}
use Rattle.std.proofs.lemmas.List.Kept.{AllPairs-from_increasing}
use Rattle.hose_graph.specs.Limits.{operator, most_live, most_epoch}
use Rattle.hose_graph.specs.Network.{Network, IsNetwork}
use Rattle.hose_graph.specs.declared.entry.Vpn.{Vpn}
use Rattle.hose_graph.specs.declared.entry.Entry.{Entry}
use Rattle.hose_graph.specs.declared.entry.Entry.TheVariants.{Admit as AdmitEntry, Release as ReleaseEntry}
use Rattle.hose_graph.specs.declared.command.Command.{Command}
use Rattle.hose_graph.specs.declared.command.Command.TheVariants.{Admit, AdmitAfter, Quote, Take, Release, Show, Vpns as VpnsCommand, Link, Down as DownCommand, Up as UpCommand}
use Rattle.hose_graph.specs.declared.command.Reply.{Reply}
use Rattle.hose_graph.specs.declared.command.Reply.TheVariants.{Admitted, Quoted, Refused, Stale, Full, Spent, Released, NoVpn, TooMany, Shown, Vpns, Newest, Down, Up, Already, Denied, Disk, Memory}
use Rattle.hose_law.proofs.LiveIds.{HasDistinctIds, live_ids, vpn_unique}
use Rattle.hose_law.proofs.CanonicalPlans.{planned_unique}
use Rattle.hose_law.proofs.Numbers.{some_is}
use Rattle.hose_graph.proofs.Ordered.{same_by_elements}
use Rattle.hose_law.specs.Plan.{plan_cost}
use Rattle.hose_law.specs.Book.{Book, HasVpn, IsLiveVpn}
use Rattle.hose_law.specs.Decision.{HaveEqualGrounds, IsPlanned, IsReachedList, IsRefused, lowest_end}
use Rattle.hose_law.specs.History.{book_of}
use Rattle.hose_law.specs.Room.{room_of, safe_links}
use Rattle.hose_law.specs.Answer.{AreVpnsOf, IsNewest, IsPlannedAnswer, IsAdmitAnswer, IsAfterAnswer, IsQuoteAnswer, IsTakingAnswer, IsTakeAnswer, IsReleaseAnswer, IsShowAnswer, IsVpnsAnswer, IsLinkAnswer, IsOperatorAnswer, IsServiceAnswer, IsAnswer, IsStep, with_entry}
use Rattle.hose_law.specs.Service.{LinkStands}
use Rattle.hose_law.specs.steps.Service.{service_entry}
use Rattle.hose_law.specs.Quotes.{Holding, HeldQuote, at_number, free_number, with_held, with_number}
use Rattle.hose_law.specs.Script.{ReadLine, Asks, IsForDisk, IsForMemory, IsLineStep, IsScript, ScriptState, WithoutDisk, WithoutMemory}

-- A kind of answers relates a reply and what comes of it: the entry that joins the history, or what is held then.
module _ {X : Type 0} where
  -- there is one answer of the kind
  abbrev IsUnique : (Reply → X → Type 0) → Type 0
  IsUnique Is = (reply other : Reply) (comes more : X) → Is reply comes → Is other more → (reply ≡ other) × (comes ≡ more)

  -- so there is of two kinds together, of which no book has both
  either_unique : (Is Also : Reply → X → Type 0) → ((reply other : Reply) (comes more : X) → Is reply comes → Also other more → ⊥) → IsUnique Is → IsUnique Also
      → IsUnique (λ reply comes. Is reply comes ⊎ Also reply comes)
  either_unique Is Also apart one two reply other comes more (inl is) (inl also) = one reply other comes more is also
  either_unique Is Also apart one two reply other comes more (inl is) (inr also) = absurd (apart reply other comes more is also)
  either_unique Is Also apart one two reply other comes more (inr is) (inl also) = absurd (apart other reply more comes also is)
  either_unique Is Also apart one two reply other comes more (inr is) (inr also) = two reply other comes more is also

  -- where this holds, the reply is the one that is told, and this comes of it
  abbrev Tells : Type 0 → Reply → X → Reply → X → Type 0
  Tells Holds told leads reply comes = Holds × (reply ≡ told) × (comes ≡ leads)

  tells_unique : (Holds : Type 0) (told : Reply) (leads : X) → IsUnique (Tells Holds told leads)
  tells_unique Holds told leads reply other comes more one two = (one.1 ∙ sym two.1, one.2 ∙ sym two.2)

  -- the reply that is told where this holds, and an answer of a kind where something else does
  abbrev FirstOr : Type 0 → Reply → X → Type 0 → (Reply → X → Type 0) → Reply → X → Type 0
  FirstOr Holds told leads Else Is reply comes = Tells Holds told leads reply comes ⊎ (Else × Is reply comes)

  first_unique : (Holds : Type 0) (told : Reply) (leads : X) (Else : Type 0) (Is : Reply → X → Type 0) → (Holds → Else → ⊥) → IsUnique Is → IsUnique (FirstOr Holds told leads Else Is)
  first_unique Holds told leads Else Is apart unique =
      either_unique (Tells Holds told leads) (λ reply comes. Else × Is reply comes) (λ _ _ _ _ first other. apart first.0 other.0) (tells_unique Holds told leads)
      (λ reply other comes more one two. unique reply other comes more one.1 two.1)

-- spent where no epoch is left, and an answer of a kind where one is
abbrev SpentOr : Book → (Reply → Option Entry → Type 0) → Reply → Option Entry → Type 0
SpentOr book = FirstOr (book.epoch ≡ most_epoch) (Spent book.epoch) None (book.epoch < most_epoch)

spent_unique : (book : Book) (Is : Reply → Option Entry → Type 0) → IsUnique Is → IsUnique (SpentOr book Is)
spent_unique book Is = first_unique (book.epoch ≡ most_epoch) (Spent book.epoch) None (book.epoch < most_epoch) Is (λ last before. omega (arith, last, before))

-- What a node reaches over a set has one ascending list.
pub side_unique : (network : Network) (set : List Bool) (from : ℕ) (one other : List ℕ) → IsReachedList network set from one → IsReachedList network set from other → one ≡ other
side_unique network set from one other is_one is_other =
    same_by_elements (λ v. v) one other (AllPairs-from_increasing one is_one.ascending) (AllPairs-from_increasing other is_other.ascending)
    (λ v. (
      λ there. (is_other.reached v).1 ((is_one.reached v).0 there),
      λ there. (is_one.reached v).1 ((is_other.reached v).0 there),
    ))

module _ (network : Network) (book : Book) (hose : List (ℕ × ℕ)) {X : Type 0} (leads : X) where
  -- the hose is refused, and this comes of it
  record IsRefusal (reply : Reply) (comes : X) : Type 0 where
    side : List ℕ
    refused : IsRefused network (room_of network book) hose side
    tells : reply ≡ Refused book.epoch side
    after : comes ≡ leads

  refusal_unique : IsUnique IsRefusal
  refusal_unique reply other comes more one two =
      let sides : one.side ≡ two.side = side_unique network (safe_links (room_of network book) hose) (lowest_end hose) one.side two.side one.refused.is_side two.refused.is_side in
      (one.tells ∙ ap (Refused book.epoch) sides ∙ sym two.tells, one.after ∙ sym two.after)

module _ (network : Network) (is : IsNetwork network) (book : Book) (customer : List ℕ) (hose : List (ℕ × ℕ)) where
  -- a hose that has a plan is not refused
  planned_not_refused : (reply : Reply) (entry : Option Entry) (side : List ℕ) → IsPlannedAnswer network book customer hose reply entry → IsRefused network (room_of network book) hose side → ⊥
  planned_not_refused (Spent at) None side answer refused = refused.no_plan answer.2.0 answer.2.1
  planned_not_refused (Full at) None side answer refused = refused.no_plan answer.3.0 answer.3.1
  planned_not_refused (Admitted id cost at amounts) (Some entry) side answer refused = refused.no_plan amounts answer.2
  planned_not_refused reply entry side answer refused = answer

  -- the hose is admitted with a plan
  record IsAdmission (reply : Reply) (entry : Option Entry) : Type 0 where
    plan : List (ℕ × ℕ)
    planned : IsPlanned network (room_of network book) hose plan
    tells : reply ≡ Admitted (book.epoch + 1) (plan_cost network plan) (book.epoch + 1) plan
    enters : entry ≡ Some (AdmitEntry customer hose plan)

  admission_unique : IsUnique IsAdmission
  admission_unique reply other entry more one two =
      let plans : one.plan ≡ two.plan = planned_unique network is (room_of network book) hose one.plan two.plan one.planned two.planned in (
        one.tells ∙ ap (λ (plan : List (ℕ × ℕ)). Admitted (book.epoch + 1) (plan_cost network plan) (book.epoch + 1) plan) plans ∙ sym two.tells,
        one.enters ∙ ap (λ (plan : List (ℕ × ℕ)). Some (AdmitEntry customer hose plan)) plans ∙ sym two.enters,
      )

  -- where an epoch is left: full where there is no room among the live, else the hose is admitted
  abbrev FullOrAdmitted : Reply → Option Entry → Type 0
  FullOrAdmitted = FirstOr (most_live ≤ length book.live) (Full book.epoch) None (length book.live < most_live) IsAdmission

  planned_cases : (reply : Reply) (entry : Option Entry) → IsPlannedAnswer network book customer hose reply entry → SpentOr book FullOrAdmitted reply entry
  planned_cases (Spent at) None is = inl (is.1, cc is.0, refl)
  planned_cases (Full at) None is = inr (is.1, inl (is.2, cc is.0, refl))
  planned_cases (Admitted id cost at amounts) (Some entry) is =
      inr (is.0, inr (is.1, record { plan = amounts; planned = is.2; tells = cc (is.3, is.4, is.5); enters = ap Some is.6 }))
  planned_cases reply entry is = absurd is

  -- a hose that has a plan has one answer at a book, and one entry of it
  planned_answer_unique : IsUnique (IsPlannedAnswer network book customer hose)
  planned_answer_unique reply other entry more one two =
      let placed : IsUnique FullOrAdmitted =
      first_unique (most_live ≤ length book.live) (Full book.epoch) None (length book.live < most_live) IsAdmission (λ full room. omega (arith, full, room)) admission_unique in
      spent_unique book FullOrAdmitted placed reply other entry more (planned_cases reply entry one) (planned_cases other more two)

  -- an admission is refused, or the hose has a plan
  admit_cases : (reply : Reply) (entry : Option Entry) → IsAdmitAnswer network book customer hose reply entry → IsRefusal network book hose None reply entry ⊎ IsPlannedAnswer network book customer hose reply entry
  admit_cases (Refused at side) None is = inl (record { side = side; refused = is.1; tells = ap (λ (n : ℕ). Refused n side) is.0; after = refl })
  admit_cases reply entry is = inr is

  -- an admission has one answer at a book, and one entry of it
  admit_answer_unique : IsUnique (IsAdmitAnswer network book customer hose)
  admit_answer_unique reply other entry more one two =
      either_unique (IsRefusal network book hose None) (IsPlannedAnswer network book customer hose)
      (λ reply other entry more refusal planned. planned_not_refused other more refusal.side planned refusal.refused) (refusal_unique network book hose None) planned_answer_unique
      reply other entry more (admit_cases reply entry one) (admit_cases other more two)

module _ (book : Book) (customer : List ℕ) where
  -- a customer has one newest VPN
  pub newest_unique : (one other : ℕ) → IsNewest book customer one → IsNewest book customer other → one ≡ other
  newest_unique one other is also =
      let most : one ≤ other = up_to one other is also in
      let least : other ≤ one = up_to other one also is in
      omega (arith, most, least)
    where
      up_to : (one other : ℕ) → IsNewest book customer one → IsNewest book customer other → one ≤ other
      up_to zero other is also = omega arith
      up_to (suc one) other is also = also.last (suc one) (is.live (λ same. absurd (omega (arith, same))))

  -- and one list of VPNs
  pub vpns_unique : (one other : List ℕ) → AreVpnsOf book customer one → AreVpnsOf book customer other → one ≡ other
  vpns_unique one other are also =
      same_by_elements (λ id. id) one other (AllPairs-from_increasing one are.ascending) (AllPairs-from_increasing other also.ascending)
      (λ id. (λ there. (also.exactly id).1 ((are.exactly id).0 there), λ there. (are.exactly id).1 ((also.exactly id).0 there)))

  -- the customer's VPNs are told
  record IsListed (reply : Reply) (entry : Option Entry) : Type 0 where
    ids : List ℕ
    are : AreVpnsOf book customer ids
    tells : reply ≡ Vpns book.epoch ids
    alone : entry ≡ None

  vpns_listed : (reply : Reply) (entry : Option Entry) → IsVpnsAnswer book customer reply entry → IsListed reply entry
  vpns_listed (Vpns at ids) None is = record { ids = ids; are = is.1; tells = ap (λ (n : ℕ). Vpns n ids) is.0; alone = refl }
  vpns_listed reply entry is = absurd is

  -- a question after a customer's VPNs has one answer at a book
  vpns_answer_unique : IsUnique (IsVpnsAnswer book customer)
  vpns_answer_unique reply other entry more is also =
      let one = vpns_listed reply entry is in
      let two = vpns_listed other more also in
      (one.tells ∙ ap (Vpns book.epoch) (vpns_unique one.ids two.ids one.are two.are) ∙ sym two.tells, one.alone ∙ sym two.alone)

module _ (network : Network) (is : IsNetwork network) (book : Book) (customer : List ℕ) (known : ℕ) (hose : List (ℕ × ℕ)) where
  -- another VPN is the customer's newest
  record IsAnother (reply : Reply) (entry : Option Entry) : Type 0 where
    id : ℕ
    other : id ≢ known
    newest : IsNewest book customer id
    tells : reply ≡ Newest id book.epoch
    alone : entry ≡ None

  another_unique : IsUnique IsAnother
  another_unique reply other entry more one two = (
    one.tells ∙ ap (λ (n : ℕ). Newest n book.epoch) (newest_unique book customer one.id two.id one.newest two.newest) ∙ sym two.tells,
    one.alone ∙ sym two.alone,
  )

  -- the VPN that is known is the newest, and the hose's admission is answered
  record IsKnown (reply : Reply) (entry : Option Entry) : Type 0 where
    newest : IsNewest book customer known
    admit : IsAdmitAnswer network book customer hose reply entry

  known_unique : IsUnique IsKnown
  known_unique reply other entry more one two = admit_answer_unique network is book customer hose reply other entry more one.admit two.admit

  after_cases : (reply : Reply) (entry : Option Entry) → IsAfterAnswer network book customer known hose reply entry → IsAnother reply entry ⊎ IsKnown reply entry
  after_cases (Newest id at) None is = inl (record { id = id; other = is.1; newest = is.2; tells = ap (Newest id) is.0; alone = refl })
  after_cases reply entry is = inr (record { newest = is.0; admit = is.1 })

  -- an admission that is bound to a number has one answer at a book, and one entry of it
  after_answer_unique : IsUnique (IsAfterAnswer network book customer known hose)
  after_answer_unique reply other entry more one two =
      either_unique IsAnother IsKnown (λ _ _ _ _ another is_known. another.other (newest_unique book customer another.id known another.newest is_known.newest)) another_unique known_unique
      reply other entry more (after_cases reply entry one) (after_cases other more two)

module _ (book : Book) (customer : List ℕ) (id : ℕ) where
  -- where the customer has the VPN: spent where no epoch is left, else it is given up
  abbrev SpentOrReleased : Reply → Option Entry → Type 0
  SpentOrReleased = SpentOr book (Tells ⊤ (Released id (book.epoch + 1)) (Some (ReleaseEntry customer id)))

  release_cases : (reply : Reply) (entry : Option Entry) → IsReleaseAnswer book customer id reply entry
      → FirstOr (¬ HasVpn book customer id) (NoVpn id book.epoch) None (HasVpn book customer id) SpentOrReleased reply entry
  release_cases (NoVpn told at) None is = inl (is.2, cc (is.0, is.1), refl)
  release_cases (Spent at) None is = inr (is.2, inl (is.1, cc is.0, refl))
  release_cases (Released told at) (Some entry) is = inr (is.1, inr (is.0, (tt, cc (is.2, is.3), ap Some is.4)))
  release_cases reply entry is = absurd is

  -- a release has one answer at a book, and one entry of it
  release_answer_unique : IsUnique (IsReleaseAnswer book customer id)
  release_answer_unique reply other entry more one two =
      let done = Tells ⊤ (Released id (book.epoch + 1)) (Some (ReleaseEntry customer id)) in
      first_unique (¬ HasVpn book customer id) (NoVpn id book.epoch) None (HasVpn book customer id) SpentOrReleased (λ none has. none has)
      (spent_unique book done (tells_unique ⊤ (Released id (book.epoch + 1)) (Some (ReleaseEntry customer id))))
      reply other entry more (release_cases reply entry one) (release_cases other more two)

module _ (network : Network) (book : Book) (customer : List ℕ) (id : ℕ) where
  -- a live VPN of the customer's is told
  record IsShown (reply : Reply) (entry : Option Entry) : Type 0 where
    vpn : Vpn
    live : IsLiveVpn book customer id vpn
    tells : reply ≡ Shown id (plan_cost network vpn.amounts) book.epoch vpn.hose vpn.amounts
    alone : entry ≡ None

  shown_unique : HasDistinctIds book → IsUnique IsShown
  shown_unique distinct reply other entry more one two =
      let same : one.vpn ≡ two.vpn = vpn_unique book one.vpn two.vpn distinct one.live.live two.live.live (one.live.is_id ∙ sym two.live.is_id) in
      (one.tells ∙ ap (λ (v : Vpn). Shown id (plan_cost network v.amounts) book.epoch v.hose v.amounts) same ∙ sym two.tells, one.alone ∙ sym two.alone)

  show_cases : (reply : Reply) (entry : Option Entry) → IsShowAnswer network book customer id reply entry
      → FirstOr (¬ HasVpn book customer id) (NoVpn id book.epoch) None (HasVpn book customer id) IsShown reply entry
  show_cases (NoVpn told at) None is = inl (is.2, cc (is.0, is.1), refl)
  show_cases (Shown told cost at hose amounts) None is = inr ((is.0, is.1), record { vpn = is.0; live = is.1; tells = cc (is.2, is.3, is.4, is.5, is.6); alone = refl })
  show_cases reply entry is = absurd is

  -- a question after a VPN has one answer at a book with distinct ids
  show_answer_unique : HasDistinctIds book → IsUnique (IsShowAnswer network book customer id)
  show_answer_unique distinct reply other entry more one two =
      first_unique (¬ HasVpn book customer id) (NoVpn id book.epoch) None (HasVpn book customer id) IsShown (λ none has. none has) (shown_unique distinct)
      reply other entry more (show_cases reply entry one) (show_cases other more two)

module _ (book : Book) (link : ℕ) where
  -- a question after a link has one answer at a book
  link_answer_unique : IsUnique (IsLinkAnswer book link)
  link_answer_unique reply other entry more one two = (one.0 ∙ sym two.0, one.1 ∙ sym two.1)

-- a link does not stand in two ways
pub stands_once : (network : Network) (book : Book) (down : Bool) (link : ℕ) → LinkStands network book link down → LinkStands network book link (not down) → ⊥
stands_once network book true link one two = false≢true (sym two.1 ∙ one.1)
stands_once network book false link one two = false≢true (sym one.1 ∙ two.1)

module _ (network : Network) (book : Book) (link : ℕ) where
  -- what is told where an order is carried out
  abbrev done_reply : Bool → Reply
  done_reply true = Down link (book.epoch + 1)
  done_reply false = Up link (book.epoch + 1)

  -- where the link does not stand so already: spent where no epoch is left, else the order is carried out
  abbrev SpentOrDone : Bool → Reply → Option Entry → Type 0
  SpentOrDone down = SpentOr book (Tells ⊤ (done_reply down) (Some (service_entry down link)))

  service_cases : (down : Bool) (reply : Reply) (entry : Option Entry) → IsServiceAnswer network book down link reply entry
      → FirstOr (LinkStands network book link down) (Already link book.epoch) None (LinkStands network book link (not down)) (SpentOrDone down) reply entry
  service_cases down (Already told at) None is = inl (is.2, cc (is.0, is.1), refl)
  service_cases down (Spent at) None is = inr (is.2, inl (is.1, cc is.0, refl))
  service_cases true (Down told at) (Some entry) is = inr (is.1, inr (is.0, (tt, cc (is.2, is.3), ap Some is.4)))
  service_cases false (Up told at) (Some entry) is = inr (is.1, inr (is.0, (tt, cc (is.2, is.3), ap Some is.4)))
  service_cases down reply entry is = absurd is

  -- the operator's command has one answer at a book, and one entry of it
  service_answer_unique : (down : Bool) → IsUnique (IsServiceAnswer network book down link)
  service_answer_unique down reply other entry more one two =
      let done = Tells ⊤ (done_reply down) (Some (service_entry down link)) in
      first_unique (LinkStands network book link down) (Already link book.epoch) None (LinkStands network book link (not down)) (SpentOrDone down) (stands_once network book down link)
      (spent_unique book done (tells_unique ⊤ (done_reply down) (Some (service_entry down link))))
      reply other entry more (service_cases down reply entry one) (service_cases down other more two)

  -- a customer is denied, or the operator is answered
  operator_cases : (customer : List ℕ) (down : Bool) (reply : Reply) (entry : Option Entry) → IsOperatorAnswer network book customer down link reply entry
      → FirstOr (customer ≢ operator) (Denied book.epoch) None (customer ≡ operator) (IsServiceAnswer network book down link) reply entry
  operator_cases customer down (Denied at) None is = inl (is.1, ap Denied is.0, refl)
  operator_cases customer down reply entry is = inr is

  -- such a command has one answer at a book, and one entry of it
  operator_answer_unique : (customer : List ℕ) (down : Bool) → IsUnique (IsOperatorAnswer network book customer down link)
  operator_answer_unique customer down reply other entry more one two =
      first_unique (customer ≢ operator) (Denied book.epoch) None (customer ≡ operator) (IsServiceAnswer network book down link) (λ other is. other is) (service_answer_unique down)
      reply other entry more (operator_cases customer down reply entry one) (operator_cases customer down other more two)

-- none is not some
is_none_is_some : {X : Type 0} (found : Option X) → found ≡ None → IsSome found → ⊥
is_none_is_some None none some = cc some
is_none_is_some (Some value) none some = cc none

module _ (network : Network) (is : IsNetwork network) (book : Book) (place : ℕ) (hose : List (ℕ × ℕ)) (held : Holding) where
  -- the hose is quoted with a plan, under a number at which it is held then
  record IsQuoted (reply : Reply) (after : Holding) : Type 0 where
    plan : List (ℕ × ℕ)
    planned : IsPlanned network (room_of network book) hose plan
    number : ℕ
    free : free_number held ≡ Some number
    tells : reply ≡ Quoted number (plan_cost network plan) book.epoch plan
    holds : after ≡ with_number held number (Some (record { hose = hose; place = place }))

  quoted_unique : IsUnique IsQuoted
  quoted_unique reply other after left one two =
      let plans : one.plan ≡ two.plan = planned_unique network is (room_of network book) hose one.plan two.plan one.planned two.planned in
      let numbers : one.number ≡ two.number = some_is one.number two.number (sym one.free ∙ two.free) in
      let quote : Option HeldQuote = Some (record { hose = hose; place = place }) in (
        one.tells ∙ ap (λ (n : ℕ). Quoted n (plan_cost network one.plan) book.epoch one.plan) numbers
            ∙ ap (λ (plan : List (ℕ × ℕ)). Quoted two.number (plan_cost network plan) book.epoch plan) plans ∙ sym two.tells,
        one.holds ∙ ap (λ (n : ℕ). with_number held n quote) numbers ∙ sym two.holds,
      )

  -- where a number is free: the hose is refused or quoted
  abbrev RefusedOrQuoted : Reply → Holding → Type 0
  RefusedOrQuoted reply after = IsRefusal network book hose held reply after ⊎ IsQuoted reply after

  quote_cases : (reply : Reply) (after : Holding) → IsQuoteAnswer network book place hose held reply after
      → FirstOr (free_number held ≡ None) (TooMany book.epoch) held (free_number held ≢ None) RefusedOrQuoted reply after
  quote_cases (TooMany at) after is = inl (is.1, ap TooMany is.0, is.2)
  quote_cases (Refused at side) after is =
      inr (λ none. is_none_is_some (free_number held) none is.1, inl (record { side = side; refused = is.2; tells = ap (λ (n : ℕ). Refused n side) is.0; after = is.3 }))
  quote_cases (Quoted number cost at amounts) after is =
      inr (λ none. cc (none, is.1), inr (record { plan = amounts; planned = is.2; number = number; free = is.1; tells = cc (is.0, is.3); holds = is.4 }))
  quote_cases reply after is = absurd is

  -- a question for a plan has one answer at a book, and one way to hold it
  quote_answer_unique : IsUnique (IsQuoteAnswer network book place hose held)
  quote_answer_unique reply other after left one two =
      let planned = either_unique (IsRefusal network book hose held) IsQuoted (λ _ _ _ _ refusal quoted. refusal.refused.no_plan quoted.plan quoted.planned) (refusal_unique network book hose held) quoted_unique in
      first_unique (free_number held ≡ None) (TooMany book.epoch) held (free_number held ≢ None) RefusedOrQuoted (λ none some. some none) planned
      reply other after left (quote_cases reply after one) (quote_cases other left two)

module _ (network : Network) (is : IsNetwork network) (earlier book : Book) (customer : List ℕ) (hose : List (ℕ × ℕ)) where
  -- the plan is stale, or the hose is planned as it was
  taking_cases : (reply : Reply) (entry : Option Entry) → IsTakingAnswer network earlier book customer hose reply entry
      → FirstOr (¬ HaveEqualGrounds network earlier book hose) (Stale earlier.epoch book.epoch) None (HaveEqualGrounds network earlier book hose) (IsPlannedAnswer network book customer hose) reply entry
  taking_cases (Stale seen now) None is = inl (is.2, cc (is.0, is.1), refl)
  taking_cases reply entry is = inr is

  -- the taking of a plan has one answer
  taking_unique : IsUnique (IsTakingAnswer network earlier book customer hose)
  taking_unique reply other entry more one two =
      first_unique (¬ HaveEqualGrounds network earlier book hose) (Stale earlier.epoch book.epoch) None (HaveEqualGrounds network earlier book hose) (IsPlannedAnswer network book customer hose)
      (λ differ same. differ same) (planned_answer_unique network is book customer hose)
      reply other entry more (taking_cases reply entry one) (taking_cases other more two)

-- the taking of what stands at a number has one answer
take_answer_unique : (network : Network) → IsNetwork network → (epoch : ℕ) (history : List Entry) (customer : List ℕ) (number : ℕ) (held : Holding) (found : Option HeldQuote) (reply other : Reply) (entry more : Option Entry)
    (after left : Holding) → IsTakeAnswer network epoch history customer number held found reply entry after → IsTakeAnswer network epoch history customer number held found other more left
    → (reply ≡ other) × (entry ≡ more) × (after ≡ left)
take_answer_unique network is epoch history customer number held None reply other entry more after left one two = (one.0 ∙ sym two.0, one.1 ∙ sym two.1, one.2 ∙ sym two.2)
take_answer_unique network is epoch history customer number held (Some quote) reply other entry more after left one two =
    let same = taking_unique network is (book_of epoch (take quote.place history)) (book_of epoch history) customer quote.hose reply other entry more one.0 two.0 in
    (same.0, same.1, one.1 ∙ sym two.1)

-- A command has one answer at a history, one entry of it and one way to hold quotes after it.
pub answer_unique : (network : Network) → IsNetwork network → (epoch : ℕ) (history : List Entry) (customer : List ℕ) (held : Holding) (command : Command) (reply other : Reply) (entry more : Option Entry) (after left : Holding)
    → IsAnswer network epoch history customer held command reply entry after → IsAnswer network epoch history customer held command other more left
    → (reply ≡ other) × (entry ≡ more) × (after ≡ left)
answer_unique network is epoch history customer held (Admit hose) reply other entry more after left one two =
    let same = admit_answer_unique network is (book_of epoch history) customer hose reply other entry more one.0 two.0 in (same.0, same.1, one.1 ∙ sym two.1)
answer_unique network is epoch history customer held (AdmitAfter known hose) reply other entry more after left one two =
    let same = after_answer_unique network is (book_of epoch history) customer known hose reply other entry more one.0 two.0 in (same.0, same.1, one.1 ∙ sym two.1)
answer_unique network is epoch history customer held (Quote hose) reply other entry more after left one two =
    let same = quote_answer_unique network is (book_of epoch history) (length history) hose held reply other after left one.1 two.1 in (same.0, one.0 ∙ sym two.0, same.1)
answer_unique network is epoch history customer held (Take number) reply other entry more after left one two =
    take_answer_unique network is epoch history customer number held (at_number held number) reply other entry more after left one two
answer_unique network is epoch history customer held (Release id) reply other entry more after left one two =
    let same = release_answer_unique (book_of epoch history) customer id reply other entry more one.0 two.0 in (same.0, same.1, one.1 ∙ sym two.1)
answer_unique network is epoch history customer held (Show id) reply other entry more after left one two =
    let same = show_answer_unique network (book_of epoch history) customer id (live_ids epoch history) reply other entry more one.0 two.0 in (same.0, same.1, one.1 ∙ sym two.1)
answer_unique network is epoch history customer held VpnsCommand reply other entry more after left one two =
    let same = vpns_answer_unique (book_of epoch history) customer reply other entry more one.0 two.0 in (same.0, same.1, one.1 ∙ sym two.1)
answer_unique network is epoch history customer held (Link link) reply other entry more after left one two =
    let same = link_answer_unique (book_of epoch history) link reply other entry more one.0 two.0 in (same.0, same.1, one.1 ∙ sym two.1)
answer_unique network is epoch history customer held (DownCommand link) reply other entry more after left one two =
    let same = operator_answer_unique network (book_of epoch history) link customer true reply other entry more one.0 two.0 in (same.0, same.1, one.1 ∙ sym two.1)
answer_unique network is epoch history customer held (UpCommand link) reply other entry more after left one two =
    let same = operator_answer_unique network (book_of epoch history) link customer false reply other entry more one.0 two.0 in (same.0, same.1, one.1 ∙ sym two.1)

-- no reply is for want of memory or for a failure of the disk
pub record AllAnswer (replies : List Reply) : Type 0 where
  pub memory : WithoutMemory replies
  pub disk : WithoutDisk replies

all_after : (reply : Reply) (replies : List Reply) → AllAnswer (reply ∷ replies) → AllAnswer replies
all_after reply replies all = record { memory = All-tail (λ r. ¬ IsForMemory r) reply replies all.memory; disk = All-tail (λ r. ¬ IsForDisk r) reply replies all.disk }

first_answers : (reply : Reply) (replies : List Reply) → AllAnswer (reply ∷ replies) → (¬ IsForMemory reply) × (¬ IsForDisk reply)
first_answers reply replies all = (All-head (λ r. ¬ IsForMemory r) reply replies all.memory, All-head (λ r. ¬ IsForDisk r) reply replies all.disk)

-- the step has an answer
abbrev Answered : Network → ℕ → List Entry → List ℕ → Holding → Command → Reply → List Entry → Holding → Type 0
Answered network epoch history customer held command reply next after =
    (entry : Option Entry) × IsAnswer network epoch history customer held command reply entry after × (next ≡ with_entry history entry)

-- a step whose reply is not for want of memory or a failure of the disk has an answer
answered : (network : Network) (epoch : ℕ) (history : List Entry) (customer : List ℕ) (held : Holding) (command : Command) (reply : Reply) (next : List Entry) (after : Holding)
    → (¬ IsForMemory reply) × (¬ IsForDisk reply) → IsStep network epoch history customer held command reply next after → Answered network epoch history customer held command reply next after
answered network epoch history customer held command (Disk at) next after answers step = absurd (answers.1 tt)
answered network epoch history customer held command Memory next after answers step = absurd (answers.0 tt)
answered network epoch history customer held command reply next after answers step = (step.0, step.1.0, step.1.1)

-- a script is at one place where both parts are the same
state_same : (one two : ScriptState) → one.history ≡ two.history → one.holdings ≡ two.holdings → one ≡ two
state_same one two history holdings = λ i. record { history = history i; holdings = holdings i }

-- a line has one step that is not for want of memory or a failure of the disk
line_unique : (network : Network) → IsNetwork network → (epoch : ℕ) (line : ReadLine) (reply other : Reply) (replies others : List Reply) (old new last : ScriptState)
    → IsLineStep network epoch line reply old new → IsLineStep network epoch line other old last → AllAnswer (reply ∷ replies) → AllAnswer (other ∷ others)
    → (reply ≡ other) × (new ≡ last)
line_unique network is epoch (Asks customer command) reply other replies others old new last one two all also =
    let history = old.history in
    let held : Holding = old.holdings customer in
    let mine = answered network epoch history customer held command reply new.history one.0 (first_answers reply replies all) one.1 in
    let theirs = answered network epoch history customer held command other last.history two.0 (first_answers other others also) two.1 in
    let same = answer_unique network is epoch history customer held command reply other mine.0 theirs.0 one.0 two.0 mine.1 theirs.1 in
    (same.0, state_same new last (mine.2 ∙ ap (with_entry history) same.1 ∙ sym theirs.2) (one.2 ∙ ap (with_held old.holdings customer) same.2 ∙ sym two.2))
line_unique network is epoch line reply other replies others old new last one two all also = (one.0 ∙ sym two.0, one.1 ∙ sym two.1)

-- Without want of memory and failures of the disk the replies of a script are the only ones, and so is what it leads to.
pub script_unique : (network : Network) → IsNetwork network → (epoch : ℕ) (lines : List ReadLine) (replies others : List Reply) (first last end : ScriptState)
    → IsScript network epoch lines replies first last → IsScript network epoch lines others first end → AllAnswer replies → AllAnswer others
    → (replies ≡ others) × (last ≡ end)
script_unique network is epoch [] [] [] first last end one two all also = (refl, one ∙ sym two)
script_unique network is epoch (line ∷ lines) (reply ∷ replies) (other ∷ others) first last end one two all also =
    let same = line_unique network is epoch line reply other replies others first one.0 two.0 one.1 two.1 all also in
    let goes_on : IsScript network epoch lines others one.0 end = subst (λ (state : ScriptState). IsScript network epoch lines others state end) (sym same.1) two.2 in
    let rest = script_unique network is epoch lines replies others one.0 last end one.2 goes_on (all_after reply replies all) (all_after other others also) in
    (ap (λ (r : Reply). r ∷ replies) same.0 ∙ ap (λ (rs : List Reply). other ∷ rs) rest.0, rest.1)
script_unique network is epoch [] (reply ∷ replies) others first last end one two all also = absurd one
script_unique network is epoch [] [] (other ∷ others) first last end one two all also = absurd two
script_unique network is epoch (line ∷ lines) [] others first last end one two all also = absurd one
script_unique network is epoch (line ∷ lines) (reply ∷ replies) [] first last end one two all also = absurd two
