-- What a book tells of a VPN, and of a customer's VPNs.
use Rattle.std.specs.Prelude.{ℕ, List, None, ⊤}
use Rattle.hose_graph.specs.declared.command.Reply.{Reply}
use Rattle.hose_graph.specs.declared.command.Reply.TheVariants.{Memory}
use Rattle.hose_law.specs.Answer.{IsShowAnswer, IsVpnsAnswer}
use Rattle.hose_law.specs.Book.{HasVpn}
use Rattle.hose_book.specs.Ledger.{Ledger}

-- the answer to the question after a VPN, or want of memory where there is one to be told
abbrev pub IsShown : Ledger → List ℕ → ℕ → Reply → Type 0
IsShown ledger customer id Memory = HasVpn ledger.book customer id
IsShown ledger customer id reply = IsShowAnswer ledger.network ledger.book customer id reply None

-- the answer to the question after a customer's VPNs, or want of memory
abbrev pub AreShown : Ledger → List ℕ → Reply → Type 0
AreShown ledger customer Memory = ⊤
AreShown ledger customer reply = IsVpnsAnswer ledger.book customer reply None
