-- What the admissions of a sound history reserve carries their hoses.
use Rattle.std.proofs.Common.{◌≡◌, ℕ, zero, suc, List, [], ◌∷◌, Some, take, subst}
use Rattle.std.specs.Prelude.{slice_get}
use Rattle.hose_graph.specs.declared.entry.Entry.{Entry}
use Rattle.hose_graph.specs.declared.entry.Entry.TheVariants.{Admit}
use Rattle.hose_graph.specs.Network.{Network}
use Rattle.hose_law.specs.Book.{Book}
use Rattle.hose_law.specs.Carried.{AreCarried}
use Rattle.hose_law.specs.History.{IsSound, IsSoundAt, book_after, next_book, opening_book, AreFrom}
use Rattle.hose_law.specs.Room.{room_of}
use Rattle.hose_law.proofs.Carrying.{reservation_carries}

-- an entry of a sound history is sound at the book before it
sound_at : (network : Network) (book : Book) (entries : List Entry) (entry : Entry) (place : ℕ) → AreFrom IsSoundAt network book 0 entries → slice_get entries place ≡ Some entry → IsSoundAt network (book_after book (take place entries)) entry
sound_at network book [] entry place sound there = absurd (cc there)
sound_at network book (first ∷ rest) entry zero sound there = subst (IsSoundAt network book) (cc there) sound.0
sound_at network book (first ∷ rest) entry (suc place) sound there = sound_at network (next_book book first) rest entry place sound.1 there

pub sound_carried : (network : Network) (epoch : ℕ) (history : List Entry) → IsSound network epoch history → AreCarried network epoch history
sound_carried network epoch history sound place customer hose amounts there =
    let book = book_after (opening_book epoch) (take place history) in
    let at = sound_at network (opening_book epoch) history (Admit customer hose amounts) place sound there in
    reservation_carries network (room_of network book).links hose amounts at.2.on_tree
