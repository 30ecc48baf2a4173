-- An input that was followed by the journal of a name.
use Rattle.std.proofs.Common.{◌≡◌, ◌∙◌, ◌↔◌, inl, inr, ℕ, ◌+◌, ◌<◌, ◌≤◌, List, length, None, Result, sym, ap, subst, arith}
use Rattle.std.specs.Prelude.{⊤}
use Rattle.hose_io.specs.Stream.{Gives}
use Rattle.hose_io.specs.declared.Failed.{Failed}
use Rattle.hose_graph.specs.Network.{Network}
use Rattle.hose_law.specs.History.{IsSound}
use Rattle.hose_book.specs.steps.GoingOn.{GoesOn}
use Rattle.hose_disk.specs.Cabinet.{CabinetFrame}
use Rattle.hose_store.specs.steps.Commit.{store_books}
use Rattle.hose_store.specs.steps.Opening.{IsOpenedOn}
use Rattle.hose_store.specs.Recovery.{IsHistoryOf}
use Rattle.hose_store.specs.steps.Store.{KeptStore}
use Rattle.hose_follow.specs.Answers.{TellsDiskAnswers}
use Rattle.hose_follow.specs.steps.Ends.{FollowsInput}
use Rattle.hose_follow.specs.steps.Follower.{follower, follower_tellings}
use Rattle.hose_follow.specs.declared.answers.Offered.{Offered}
use Rattle.hose_follow.specs.declared.following.FollowEnd.{FollowEnd}
use Rattle.hose_follow.specs.declared.following.FollowEnd.TheVariants.{TooLong}
use Rattle.hose_follow.specs.declared.following.TheConstants.{INPUT_LIMIT}
use Rattle.hose_copying.specs.Following.{ArePacketsAnswered, FollowsFrom, HasFollowed, IsBrought}
use Rattle.hose_outside.specs.steps.Journal.{ClosesJournal, OpensJournal}
use Rattle.hose_outside.specs.Parts.{Parts, Tellings}
use Rattle.hose_copying.proofs.Answered.{Leads, leads, none_answered}
use Rattle.hose_outside.proofs.Journals.{put_back}
use Rattle.hose_copying.proofs.OfLeaders.{follows_leaders}
use Rattle.hose_outside.proofs.PutBack.{IsPutBack, counts, held_as, left_as_kind}

-- failures that were told between two counts are so between counts further apart
tells_within : (answers : List Offered) (before after low high : ℕ) → low ≤ before → after ≤ high → TellsDiskAnswers before answers after → TellsDiskAnswers low answers high
tells_within answers before after low high under above (inl told) = inl (omega (arith, told, under, above))
tells_within answers before after low high under above (inr most) = inr (omega (arith, most, above))

module _ {I O C E : Type 0} (tells : Tellings I O C E) (name : List ℕ) (before after : Parts I O C) (mid : C) (network : Network) (store last : KeptStore E) (ended : FollowEnd) (closing : Result ⊤ Failed)
    (follows : FollowsInput (follower_tellings tells.source tells.sink tells.disk) (follower before.input before.output store) (follower after.input after.output last) ended)
    (opens : OpensJournal tells.cabinet tells.disk (IsBrought follows.packets) name before.cabinet mid network store)
    (closes : ClosesJournal tells.cabinet tells.disk mid after.cabinet last closing) where
  abbrev opened : IsOpenedOn tells.disk opens.was network store
  opened = opens.opens.opened

  -- what the answers lead to
  abbrev Led : Type 0
  Led = Leads tells.disk store opened.history follows.packets follows.packets follows.answers last

  led : Led
  led = leads tells.disk store opened.history follows.packets None follows.packets follows.answers last (λ packet there. there) opened.has follows.offered

  answered_by : (on : Led) → ArePacketsAnswered network opened.history follows.packets follows.answers on.history
  answered_by on = subst (λ (n : Network). ArePacketsAnswered n opened.history follows.packets follows.answers on.history) opened.network on.answered

  follows_from : (on : Led) → FollowsFrom tells before after network opened.history on.history ended
  follows_from on = record {
    packets = follows.packets;
    rest = follows.rest;
    answers = follows.answers;
    gives = subst (Gives (tells.source.content before.input) (tells.source.content after.input)) follows.parts follows.gives;
    are = follows.are;
    answered = answered_by on;
    of_leaders = follows_leaders network follows.packets follows.answers opened.history on.history (answered_by on);
    begins = on.begins;
    sound = subst (λ (n : Network). IsSound n 0 on.history) (on.same_network ∙ opened.network) on.has.sound;
    input = follows.input;
    output = follows.output;
    limit = subst (λ (bytes : List ℕ). length bytes ≤ INPUT_LIMIT + 1) follows.parts follows.limit;
    too_long = subst (λ (bytes : List ℕ). (ended ≡ TooLong) ↔ (INPUT_LIMIT < length bytes)) follows.parts follows.too_long;
    memory = λ is. none_answered store.ledger.network opened.history follows.packets follows.answers on.history follows.rest on.answered (sym follows.parts ∙ (follows.memory is).0);
  }

  pub followed_in : HasFollowed tells name before after network ended closing
  unfolding follows_from
  followed_in = by led
    where
      back : IsPutBack tells.cabinet tells.disk name before.cabinet mid after.cabinet opens.was closes.left
      back = put_back tells.cabinet tells.disk name before.cabinet mid after.cabinet network store (IsBrought follows.packets) opens last closing closes

      by : Led → HasFollowed tells name before after network ended closing
      by on = record {
        since = opened.history;
        history = on.history;
        begun = held_as tells.cabinet tells.disk name before.cabinet mid after.cabinet network opens.was closes.left back (IsHistoryOf network opened.history) opened.read;
        follows = follows_from on;
        disks = tells_within follows.answers _ _ 0 (tells.cabinet.frame after.cabinet).returned (omega arith) (omega (arith, closes.call.met.stays.never_falls, ap (λ (f : CabinetFrame). f.returned) closes.back.call)) follows.disks;
        met = counts tells.cabinet tells.disk name before.cabinet mid after.cabinet network opens.was closes.left back closing closes.call.told;
        left = left_as_kind tells.cabinet tells.disk name before.cabinet mid after.cabinet network opens.was closes.left back (IsBrought follows.packets) opened.history on.history closing
            (opens.opens.leaves on.history last closes.left closing (subst (λ (n : Network). GoesOn (store_books tells.disk) (IsBrought follows.packets) n opened.history store on.history last) opened.network on.goes_on) closes.closes);
      }
