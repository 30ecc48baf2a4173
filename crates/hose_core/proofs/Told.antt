-- What a book tells is a step that changes nothing.
use Rattle.std.proofs.Common.{◌≡◌, ℕ, List, None, refl, subst}
use Rattle.hose_graph.specs.declared.command.Command.{Command}
use Rattle.hose_graph.specs.declared.command.Command.TheVariants as command
use Rattle.hose_graph.specs.declared.entry.Entry.{Entry}
use Rattle.hose_graph.specs.declared.command.Reply.{Reply}
use Rattle.hose_graph.specs.declared.command.Reply.TheVariants as reply
use Rattle.hose_law.specs.Answer.{IsLinkAnswer, IsShowAnswer, IsStepOf, IsVpnsAnswer}
use Rattle.hose_law.specs.Book.{Book, HasVpn}
use Rattle.hose_law.specs.History.{book_of}
use Rattle.hose_law.specs.Quotes.{Holding}
use Rattle.hose_law.proofs.Steps.{step_of}
use Rattle.hose_book.specs.Ledger.{Ledger}
use Rattle.hose_book.specs.declared.books.Books.{Ghosts}
use Rattle.hose_core.specs.steps.Stepping.{HasStepped}
use Rattle.hose_core.specs.steps.Telling.{AreShown, IsShown}

module _ {K R : Type 0} (books : Ghosts K R) (old : K) (epoch : ℕ) (history : List Entry) (customer : List ℕ) (held : Holding) (here : (books.ledger old).book ≡ book_of epoch history) where
  abbrev was : Ledger
  was = books.ledger old

  -- an answer without an entry, which leaves what is held
  abbrev pub told_step : (asked : Command) (answer : Reply) → IsStepOf was.network epoch history customer held asked answer None history held → HasStepped books old old epoch history customer held asked answer
  told_step asked answer step = record { entry = None; next = history; after = held; step = step; sound = tt; goes = refl; book = here }

  -- a VPN is told
  pub show_step : (id : ℕ) (answer : Reply) → IsShown was customer id answer → HasStepped books old old epoch history customer held (command.Show id) answer
  show_step id reply.Memory shown = told_step (command.Show id) reply.Memory (subst (λ (b : Book). HasVpn b customer id) here shown, refl, refl, refl)
  show_step id (reply.NoVpn told at) shown =
      told_step (command.Show id) (reply.NoVpn told at) ((subst (λ (b : Book). (told ≡ id) × (at ≡ b.epoch) × (HasVpn b customer id → ⊥)) here shown, refl), refl)
  show_step id (reply.Shown told cost at hose amounts) shown =
      told_step (command.Show id) (reply.Shown told cost at hose amounts) ((subst (λ (b : Book). IsShowAnswer was.network b customer id (reply.Shown told cost at hose amounts) None) here shown, refl), refl)
  show_step id answer shown = absurd shown

  -- a customer's VPNs are told
  pub vpns_step : (answer : Reply) → AreShown was customer answer → HasStepped books old old epoch history customer held command.Vpns answer
  vpns_step reply.Memory shown = told_step command.Vpns reply.Memory (tt, refl, refl, refl)
  vpns_step (reply.Vpns at ids) shown =
      told_step command.Vpns (reply.Vpns at ids) ((subst (λ (b : Book). IsVpnsAnswer b customer (reply.Vpns at ids) None) here shown, refl), refl)
  vpns_step answer shown = absurd shown

  -- a link is told
  pub link_step : (link : ℕ) (answer : Reply) → IsLinkAnswer was.book link answer None → HasStepped books old old epoch history customer held (command.Link link) answer
  link_step link answer shown =
      told_step (command.Link link) answer (step_of was.network epoch history customer held (command.Link link) answer None held (subst (λ (b : Book). IsLinkAnswer b link answer None) here shown, refl))
