-- A sound entry oversells no link, so no sound history does.
use Rattle.std.proofs.Common.{ℕ, zero, suc, List, [], ◌∷◌, take, arith}
use Rattle.hose_graph.specs.declared.entry.Entry.{Entry}
use Rattle.hose_graph.specs.Network.{Network}
use Rattle.hose_law.proofs.Entries.{NoneOversold, entry_keeps}
use Rattle.hose_law.specs.Book.{Book, IsOversold}
use Rattle.hose_law.specs.History.{opening_book, next_book, book_after, AreFrom, IsSoundAt}

sound_keeps : (network : Network) (book : Book) (history : List Entry) (place : ℕ) → AreFrom IsSoundAt network book 0 history → NoneOversold network book → NoneOversold network (book_after book (take place history))
sound_keeps network book history zero sound kept = kept
sound_keeps network book [] (suc place) sound kept = kept
sound_keeps network book (entry ∷ entries) (suc place) sound kept =
    sound_keeps network (next_book book entry) entries place sound.1 (entry_keeps network book entry sound.0 kept)

pub sold : (network : Network) (epoch : ℕ) (history : List Entry) (place l : ℕ) → AreFrom IsSoundAt network (opening_book epoch) 0 history → IsOversold network (book_after (opening_book epoch) (take place history)) l → ⊥
sold network epoch history place l sound over =
    let kept = sound_keeps network (opening_book epoch) history place sound (λ l. omega arith) l in
    omega arith
