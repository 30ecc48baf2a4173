-- Of the admissions that a customer binds to one number a history has one at most, unless the VPN of the first is released.
use Rattle.std.proofs.Common.{◌≡◌, ◌∙◌, ℕ, ◌+◌, ◌<◌, ◌≤◌, List, Some, length, take, Contains, refl, ap, inl, inr, arith}
use Rattle.std.proofs.lemmas.Bool.{cases_eq}
use Rattle.std.proofs.lemmas.List.{length-take-le}
use Rattle.std.proofs.lemmas.List.Elements.{All-contains}
use Rattle.std.proofs.lemmas.Option.{slice_get_within}
use Rattle.hose_graph.specs.declared.command.Reply.{Reply}
use Rattle.hose_graph.specs.declared.command.Reply.TheVariants.{Admitted, Newest}
use Rattle.hose_graph.specs.declared.entry.Entry.{Entry}
use Rattle.hose_graph.specs.declared.entry.Entry.TheVariants.{Admit}
use Rattle.hose_graph.specs.declared.entry.Vpn.{Vpn}
use Rattle.hose_graph.specs.Hose.{Endpoint}
use Rattle.hose_graph.specs.Network.{Network}
use Rattle.hose_law.specs.Answer.{IsAfterAnswer, IsNewest}
use Rattle.hose_law.specs.Book.{Book}
use Rattle.hose_law.specs.History.{book_of, opening_book}
use Rattle.hose_law.specs.steps.Live.{IsBetween}
use Rattle.hose_law.specs.steps.Once.{AdmitsOnce}
use Rattle.hose_law.proofs.Epochs.{epoch_after}
use Rattle.hose_law.proofs.LiveIds.{rising_ids}
use Rattle.hose_law.proofs.Lives.{stays_live}

module _ (network : Network) (epoch : ℕ) (history : List Entry) (customer : List ℕ) (known : ℕ) where
  -- the entry of a bound admission admits the customer's hose, where the number is that of the newest VPN
  record Binds (book : Book) (entry : Entry) : Type 0 where
    newest : IsNewest book customer known
    hose : List Endpoint
    amounts : List (ℕ × ℕ)
    admits : entry ≡ Admit customer hose amounts

  bound : (book : Book) (hose : List Endpoint) (reply : Reply) (entry : Entry) → IsAfterAnswer network book customer known hose reply (Some entry) → Binds book entry
  bound book hose (Admitted id cost at amounts) entry answer = record { newest = answer.0; hose = hose; amounts = amounts; admits = answer.1.6 }
  bound book hose (Newest id at) entry answer = absurd answer.1
  bound book hose reply entry answer = absurd answer.1

  -- the number of a newest VPN is no later than the book
  newest_early : (place : ℕ) → place ≤ length history → IsNewest (book_of epoch (take place history)) customer known → known ≤ epoch + place
  newest_early place within newest =
      let book = book_of epoch (take place history) in
      let at = epoch_after (opening_book epoch) (take place history) in
      let long = length-take-le place history within in
      elim (cases_eq known 0) [
        | inl none ↦ omega (arith, none)
        | inr some ↦
            let (vpn, live) = newest.live some in
            let between : IsBetween epoch book.epoch vpn = All-contains (IsBetween epoch book.epoch) book.live vpn (rising_ids epoch (take place history)).between live.live in
            omega (arith, between.1, live.is_id, at, long)
      ]

  pub admits_once : AdmitsOnce network epoch history customer known
  admits_once one other earlier first second held =
      let here = bound (book_of epoch (take one history)) first.hose first.reply first.entry first.answer in
      let there = bound (book_of epoch (take other history)) second.hose second.reply second.entry second.answer in
      let within : other < length history = slice_get_within history other second.entry second.there in
      let vpn : Vpn = record { id = epoch + one + 1; customer = customer; hose = here.hose; amounts = here.amounts } in
      let live : Contains (book_of epoch (take other history)).live vpn = stays_live epoch history one customer here.hose here.amounts other (first.there ∙ ap Some here.admits) earlier (omega (arith, within)) held in
      let most : epoch + one + 1 ≤ known = there.newest.last (epoch + one + 1) (vpn, record { live = live; is_id = refl; is_customer = refl }) in
      let early : known ≤ epoch + one = newest_early one (omega (arith, earlier, within)) here.newest in
      omega (arith, most, early)
