-- Histories that go on by one entry.
use Rattle.std.proofs.Common.{◌≡◌, ℕ, zero, suc, ◌+◌, Bool, true, false, List, [], ◌∷◌, ◌++◌, length, Option, None, Some, refl, sym, subst, arith}
use Rattle.hose_graph.specs.declared.entry.Entry.{Entry}
use Rattle.hose_graph.specs.declared.command.Command.{Command}
use Rattle.hose_graph.specs.declared.command.Command.TheVariants.{Admit, AdmitAfter, Quote, Take, Release, Show, Vpns as VpnsCommand, Link, Down as DownCommand, Up as UpCommand}
use Rattle.hose_graph.specs.declared.command.Reply.{Reply}
use Rattle.hose_graph.specs.declared.command.Reply.TheVariants.{Admitted, Released, NoVpn, Vpns, Newest, Down, Up, Denied}
use Rattle.hose_graph.specs.Network.{Network}
use Rattle.hose_law.specs.Book.{Book}
use Rattle.hose_law.specs.History.{AreFrom, EntryKind, next_book, book_after, book_of, opening_book, IsSound, IsSoundAt, IsDecidedAt, IsDecided}
use Rattle.hose_law.specs.Answer.{IsPlannedAnswer, IsAnswer, IsOperatorAnswer, IsServiceAnswer, IsTakeAnswer}
use Rattle.hose_law.specs.Quotes.{at_number, Holding, HeldQuote}
use Rattle.hose_law.specs.Script.{disks_in, one_if_disk}

-- the book after one entry more
pub book_after_push : (book : Book) (entries : List Entry) (entry : Entry) → book_after book (entries ++ entry ∷ []) ≡ next_book (book_after book entries) entry
book_after_push book [] entry = refl
book_after_push book (first ∷ entries) entry = book_after_push (next_book book first) entries entry

pub sound_push : (network : Network) (book : Book) (entries : List Entry) (entry : Entry) → AreFrom IsSoundAt network book 0 entries → IsSoundAt network (book_after book entries) entry → AreFrom IsSoundAt network book 0 (entries ++ entry ∷ [])
sound_push network book [] entry sound at = (at, tt)
sound_push network book (first ∷ entries) entry sound at = (sound.0, sound_push network (next_book book first) entries entry sound.1 at)

-- entries of a kind, and one more of it at their book
pub from_push : (Kind : EntryKind) (network : Network) (book : Book) (since : ℕ) (entries : List Entry) (entry : Entry) → AreFrom Kind network book since entries → Kind network (book_after book entries) entry → AreFrom Kind network book since (entries ++ entry ∷ [])
from_push Kind network book zero [] entry are at = (at, tt)
from_push Kind network book (suc since) [] entry are at = tt
from_push Kind network book zero (first ∷ entries) entry are at = (are.0, from_push Kind network (next_book book first) zero entries entry are.1 at)
from_push Kind network book (suc since) (first ∷ entries) entry are at = from_push Kind network (next_book book first) since entries entry are at

-- no entry stands from the end on
pub from_end : (Kind : EntryKind) (network : Network) (book : Book) (entries : List Entry) → AreFrom Kind network book (length entries) entries
from_end Kind network book [] = tt
from_end Kind network book (first ∷ entries) = from_end Kind network (next_book book first) entries

-- of a sound history nothing has to be decided from its end on
pub decided_end : (network : Network) (epoch : ℕ) (history : List Entry) → IsSound network epoch history → IsDecided network epoch (length history) history
decided_end network epoch history sound = record { sound = sound; decided = from_end IsDecidedAt network (opening_book epoch) history }

-- a sound entry of a hose that is planned is decided
planned_decided : (network : Network) (book : Book) (customer : List ℕ) (hose : List (ℕ × ℕ)) (reply : Reply) (entry : Entry)
    → IsSoundAt network book entry → IsPlannedAnswer network book customer hose reply (Some entry) → IsDecidedAt network book entry
planned_decided network book customer hose (Admitted id cost at amounts) entry sound answer =
    subst (IsDecidedAt network book) (sym answer.6) (subst (IsSoundAt network book) answer.6 sound, answer.2)
planned_decided network book customer hose reply entry sound answer = absurd answer

-- a sound entry of what is taken is decided
taken_decided : (network : Network) (epoch : ℕ) (history : List Entry) (customer : List ℕ) (number : ℕ) (held after : Holding) (found : Option HeldQuote) (reply : Reply) (entry : Entry)
    → IsSoundAt network (book_of epoch history) entry → IsTakeAnswer network epoch history customer number held found reply (Some entry) after → IsDecidedAt network (book_of epoch history) entry
taken_decided network epoch history customer number held after None reply entry sound answer = absurd (cc answer.1)
taken_decided network epoch history customer number held after (Some quote) (Admitted id cost at amounts) entry sound answer =
    planned_decided network (book_of epoch history) customer quote.hose (Admitted id cost at amounts) entry sound answer.0.1
taken_decided network epoch history customer number held after (Some quote) reply entry sound answer = absurd answer.0.1

-- and of the operator's commands
service_decided : (network : Network) (book : Book) (down : Bool) (link : ℕ) (reply : Reply) (entry : Entry)
    → IsSoundAt network book entry → IsServiceAnswer network book down link reply (Some entry) → IsDecidedAt network book entry
service_decided network book true link (Down told at) entry sound answer =
    subst (IsDecidedAt network book) (sym answer.4) (subst (IsSoundAt network book) answer.4 sound)
service_decided network book false link (Up told at) entry sound answer =
    subst (IsDecidedAt network book) (sym answer.4) (subst (IsSoundAt network book) answer.4 sound)
service_decided network book down link reply entry sound answer = absurd answer

operator_decided : (network : Network) (book : Book) (customer : List ℕ) (down : Bool) (link : ℕ) (reply : Reply) (entry : Entry)
    → IsSoundAt network book entry → IsOperatorAnswer network book customer down link reply (Some entry) → IsDecidedAt network book entry
operator_decided network book customer down link (Denied at) entry sound answer = absurd answer.1
operator_decided network book customer down link reply entry sound answer = service_decided network book down link reply entry sound answer.1

-- the sound entry of an answer is decided
pub answer_decided : (network : Network) (epoch : ℕ) (history : List Entry) (customer : List ℕ) (held after : Holding) (command : Command) (reply : Reply) (entry : Entry)
    → IsSoundAt network (book_of epoch history) entry → IsAnswer network epoch history customer held command reply (Some entry) after → IsDecidedAt network (book_of epoch history) entry
answer_decided network epoch history customer held after (Admit hose) (Admitted id cost at amounts) entry sound answer =
    planned_decided network (book_of epoch history) customer hose (Admitted id cost at amounts) entry sound answer.0
answer_decided network epoch history customer held after (Admit hose) reply entry sound answer = absurd answer.0
answer_decided network epoch history customer held after (AdmitAfter known hose) (Admitted id cost at amounts) entry sound answer =
    planned_decided network (book_of epoch history) customer hose (Admitted id cost at amounts) entry sound answer.0.1
answer_decided network epoch history customer held after (AdmitAfter known hose) (Newest id at) entry sound answer = absurd answer.0.1
answer_decided network epoch history customer held after (AdmitAfter known hose) reply entry sound answer = absurd answer.0.1
answer_decided network epoch history customer held after (Quote hose) reply entry sound answer = absurd (cc answer.0)
answer_decided network epoch history customer held after (Take number) reply entry sound answer =
    taken_decided network epoch history customer number held after (at_number held number) reply entry sound answer
answer_decided network epoch history customer held after (Release id) (Released told at) entry sound answer =
    subst (IsDecidedAt network (book_of epoch history)) (sym answer.0.4) (answer.0.0, answer.0.1)
answer_decided network epoch history customer held after (Release id) reply entry sound answer = absurd answer.0
answer_decided network epoch history customer held after (Show id) (NoVpn told at) entry sound answer = absurd answer.0
answer_decided network epoch history customer held after (Show id) reply entry sound answer = absurd answer.0
answer_decided network epoch history customer held after VpnsCommand (Vpns at ids) entry sound answer = absurd answer.0
answer_decided network epoch history customer held after VpnsCommand reply entry sound answer = absurd answer.0
answer_decided network epoch history customer held after (Link link) reply entry sound answer = absurd (cc answer.0.1)
answer_decided network epoch history customer held after (DownCommand link) reply entry sound answer =
    operator_decided network (book_of epoch history) customer true link reply entry sound answer.0
answer_decided network epoch history customer held after (UpCommand link) reply entry sound answer =
    operator_decided network (book_of epoch history) customer false link reply entry sound answer.0

-- a decided history, and the sound entry of a step at its end, are a decided history
pub decided_push : (network : Network) (epoch since : ℕ) (history : List Entry) (entry : Entry) → IsDecided network epoch since history → IsDecidedAt network (book_of epoch history) entry → IsSoundAt network (book_of epoch history) entry
    → IsDecided network epoch since (history ++ entry ∷ [])
decided_push network epoch since history entry decided at sound = record {
  sound = sound_push network (opening_book epoch) history entry decided.sound sound;
  decided = from_push IsDecidedAt network (opening_book epoch) since history entry decided.decided at;
}

-- a reply more tells its failures of the disk
pub disks_push : (replies : List Reply) (reply : Reply) → disks_in (replies ++ reply ∷ []) ≡ disks_in replies + one_if_disk reply
disks_push [] reply = refl
disks_push (first ∷ replies) reply = omega (arith, disks_push replies reply)
