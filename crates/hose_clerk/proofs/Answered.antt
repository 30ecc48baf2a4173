-- Lines of one session, and what is answered to them.
use Rattle.std.proofs.Common.{◌≡◌, ◌∙◌, inl, inr, ℕ, Bool, false, Bor, List, refl, sym, ap, subst}
use Rattle.std.specs.Prelude.{if◌then◌else◌}
use Rattle.std.proofs.lemmas.Slice.Eq.{bytes_eq-Decides}
use Rattle.hose_words.specs.Words.{IsChoice, IsFirst, words_of}
use Rattle.hose_words.specs.Shapes.{IsFirstWrong}
use Rattle.hose_words.specs.declared.lines.Line.{Line}
use Rattle.hose_words.specs.declared.lines.Line.TheVariants.{Text}
use Rattle.hose_graph.specs.Network.{Network}
use Rattle.hose_graph.specs.declared.command.Command.{Command}
use Rattle.hose_graph.specs.declared.command.Reply.{Reply}
use Rattle.hose_graph.specs.declared.command.Reply.TheVariants.{Bad, Bye, Long, Memory, Welcome}
use Rattle.hose_graph.specs.declared.entry.Entry.{Entry}
use Rattle.hose_graph.specs.steps.Naming.{NamesPlaces}
use Rattle.hose_law.specs.Quotes.{Holding, Holdings, none_held, nothing_held, with_held}
use Rattle.hose_law.specs.Script.{one_if_disk}
use Rattle.hose_law.specs.Transcript.{IsPlainReply, SessionLine, Stage}
use Rattle.hose_law.specs.Transcript.SessionLine.{Greets, Asks, Leaves, IsBad, IsLong, Unread}
use Rattle.hose_law.specs.Transcript.Stage.{Left, Refused, Serving, Waiting}
use Rattle.hose_law.proofs.Epochs.{epoch_is}
use Rattle.hose_law.proofs.Numbers.{at_none_held}
use Rattle.hose_book.specs.Ledger.{HasBookOf, Ledger}
use Rattle.hose_book.specs.steps.Commit.{IsMet}
use Rattle.hose_book.specs.declared.books.Books.{Ghosts}
use Rattle.hose_core.specs.steps.Holding.{AllQuotes, AreAllKept, AreHeld, AreKept, quotes_in}
use Rattle.hose_core.specs.steps.Stepping.{IsSameOrNext, Steps, committed_of}
use Rattle.hose_core.specs.declared.quotes.Quote.{Quote}
use Rattle.hose_core.proofs.HeldQuotes.{none_are_held}
use Rattle.hose_proto.specs.Command.{IsCommand, TakesMemory, command_shape, verb_word}
use Rattle.hose_greeting.specs.SessionLines.{IsBye}
use Rattle.hose_greeting.proofs.Shown.{text_is}
use Rattle.hose_clerk.specs.HostLines.{HostLine, IsCount, IsEnd, SaysLaterAt}
use Rattle.hose_clerk.specs.HostLines.HostLine.{Counts, Ends, Speaks}
use Rattle.hose_clerk.specs.Hosting.{IsCountReply, IsEndReply, IsHostAnswer, IsOwnAnswer, IsSessionAnswer, disks_told}
use Rattle.hose_clerk.specs.declared.replies.HostReply.{HostReply}
use Rattle.hose_clerk.specs.declared.replies.HostReply.TheVariants as reply
use Rattle.hose_clerk.specs.declared.tally.Tally.{Tally}
use Rattle.hose_clerk.specs.declared.sessions.Client.{Client}
use Rattle.hose_clerk.specs.declared.sessions.Session.{Session}
use Rattle.hose_clerk.specs.declared.sessions.Session.TheVariants as session
use Rattle.hose_clerk.specs.steps.Answering.{AnswersTo, FitsStage, IsBefore, IsSessionKept, NamesOf, SaysText}
use Rattle.hose_clerk.specs.steps.Sessions.{is_new_at}
use Rattle.hose_clerk.specs.steps.Shown.{ShownAs}

-- what is known of the text of a later line its bytes say
pub says_text : (network : Network) (line : Line) (text : Bor (List ℕ)) (said : HostLine) → line ≡ Text text → SaysText network text.now said → ShownAs (SaysLaterAt network) line said
says_text network line text (Speaks (Greets name)) is says = absurd says
says_text network line text (Speaks (Asks command)) is says = text_is (λ bytes. IsCommand network (words_of bytes) command) line text is says
says_text network line text (Speaks Leaves) is says = text_is IsBye line text is says
says_text network line text (Speaks (IsBad word)) is says = λ bytes shows.
    let here = text_is (λ (b : List ℕ). (¬ IsBye b) × IsFirstWrong (command_shape network) (words_of b) word × (¬ IsEnd b) × (¬ IsCount b)) line text is says bytes shows in
    ((here.0, here.1.0, here.1.1), here.1.2, here.1.3)
says_text network line text (Speaks IsLong) is says = absurd says
says_text network line text (Speaks Unread) is says = text_is (λ bytes. IsFirst (IsChoice TakesMemory verb_word) (words_of bytes)) line text is says
says_text network line text Ends is says = text_is IsEnd line text is says
says_text network line text Counts is says = text_is IsCount line text is says

-- ---- replies that tell no failure of a disk, and name nothing

plain_no_disk : (said : SessionLine) (told : Reply) → IsPlainReply said told → one_if_disk told ≡ 0
plain_no_disk (Greets name) told plain = absurd plain
plain_no_disk (Asks command) told plain = absurd plain
plain_no_disk Leaves told plain = ap one_if_disk plain
plain_no_disk (IsBad word) told plain = ap one_if_disk plain
plain_no_disk IsLong told plain = ap one_if_disk plain
plain_no_disk Unread told plain = ap one_if_disk plain

plain_names : (network : Network) (said : SessionLine) (told : Reply) → IsPlainReply said told → NamesPlaces network told
plain_names network (Greets name) told plain = absurd plain
plain_names network (Asks command) told plain = absurd plain
plain_names network Leaves told plain = subst (NamesPlaces network) (sym plain) tt
plain_names network (IsBad word) told plain = subst (NamesPlaces network) (sym plain) tt
plain_names network IsLong told plain = subst (NamesPlaces network) (sym plain) tt
plain_names network Unread told plain = subst (NamesPlaces network) (sym plain) tt

end_no_disk : (epoch : ℕ) (customer : List ℕ) (told : HostReply) → IsEndReply epoch customer told → disks_told told ≡ 0
end_no_disk epoch customer (reply.Told told) is = ap one_if_disk is.1
end_no_disk epoch customer (reply.Ending at) is = refl
end_no_disk epoch customer (reply.Figures figures) is = absurd is

end_names : (network : Network) (epoch : ℕ) (customer : List ℕ) (told : HostReply) → IsEndReply epoch customer told → NamesOf network told
end_names network epoch customer (reply.Told told) is = subst (NamesPlaces network) (sym is.1) tt
end_names network epoch customer (reply.Ending at) is = tt
end_names network epoch customer (reply.Figures figures) is = absurd is

count_no_disk : (tally : Tally) (epoch : ℕ) (customer : List ℕ) (told : HostReply) → IsCountReply tally epoch customer told → disks_told told ≡ 0
count_no_disk tally epoch customer (reply.Told told) is = ap one_if_disk is.1
count_no_disk tally epoch customer (reply.Ending at) is = absurd is
count_no_disk tally epoch customer (reply.Figures figures) is = refl

count_names : (network : Network) (tally : Tally) (epoch : ℕ) (customer : List ℕ) (told : HostReply) → IsCountReply tally epoch customer told → NamesOf network told
count_names network tally epoch customer (reply.Told told) is = subst (NamesPlaces network) (sym is.1) tt
count_names network tally epoch customer (reply.Ending at) is = absurd is
count_names network tally epoch customer (reply.Figures figures) is = tt

-- ---- lines that change nothing

-- where no customer holds a quote all are kept
none_kept : (ledger : Ledger) (quotes : AllQuotes) → ((customer : List ℕ) → quotes_in quotes customer ≡ none_held) → AreAllKept ledger quotes
none_kept ledger quotes none customer = subst (AreKept ledger) (sym (none customer)) (record {
  numbers = refl;
  made = λ number quote there. absurd (cc (at_none_held {X = Quote} number, there));
})

module _ {K R : Type 0} (books : Ghosts K R) (tally : Tally) (now : K) where
  abbrev network : Network
  network = (books.ledger now).network

  -- a line has this answer at each history, and its session stands so then
  abbrev StaysAnswered : Session → HostLine → HostReply → Session → Type 0
  StaysAnswered session said told left = (history : List Entry) (stage : Stage) → HasBookOf 0 history (books.ledger now) → IsBefore network history session stage
      → (after : Stage) × IsHostAnswer network tally history stage said told history after × FitsStage network history left after

  stays_answered : (session : Session) (said : HostLine) (told : HostReply) (left : Session) → StaysAnswered session said told left
      → disks_told told ≡ 0 → IsSessionKept (books.ledger now) left → is_new_at left ≡ false → NamesOf network told → AnswersTo books tally now now session said told left
  stays_answered session said told left at none kept known names = record {
    replied = λ history stage book before.
        let here = at history stage book before in
        record { next = history; after = here.0; answer = here.1; sits = here.2; book = book; changes = inl (record { same = refl; stays = refl; no_disk = none }) };
    network = refl;
    goes = inl refl;
    kept = kept;
    known = known;
    names = names;
  }

  -- the first line is a greeting
  pub greeted : (name : List ℕ) (quotes : AllQuotes) (at : ℕ) → ((customer : List ℕ) → quotes_in quotes customer ≡ none_held) → at ≡ (books.ledger now).book.epoch
      → AnswersTo books tally now now session.New (Speaks (Greets name)) (reply.Told (Welcome at)) (session.Serving (record { name = name; quotes = quotes }))
  greeted name quotes at none is = stays_answered session.New (Speaks (Greets name)) (reply.Told (Welcome at)) (session.Serving (record { name = name; quotes = quotes }))
      (λ history stage book before. (
        Serving name none_held,
        subst (λ (s : Stage). IsSessionAnswer network history s (Greets name) (Welcome at) history (Serving name none_held)) (sym before)
            (ap Welcome (is ∙ epoch_is (books.ledger now).book history book), refl, refl),
        record { holdings = nothing_held; serves = refl; held = λ customer. subst (AreHeld network 0 history none_held) (sym (none customer)) (none_are_held network 0 history) },
      ))
      refl (none_kept (books.ledger now) quotes none) refl tt

  refused_at : (said : SessionLine) (told : Reply) (history : List Entry) → IsPlainReply said told → IsSessionAnswer network history Waiting said told history Refused
  refused_at (Greets name) told history plain = absurd plain
  refused_at (Asks command) told history plain = absurd plain
  refused_at Leaves told history plain = (plain, refl, refl)
  refused_at (IsBad word) told history plain = (plain, refl, refl)
  refused_at IsLong told history plain = (plain, refl, refl)
  refused_at Unread told history plain = (plain, refl, refl)

  -- it is none
  pub refused : (said : SessionLine) (told : Reply) → IsPlainReply said told → AnswersTo books tally now now session.New (Speaks said) (reply.Told told) session.Over
  refused said told plain = stays_answered session.New (Speaks said) (reply.Told told) session.Over
      (λ history stage book before. (
        Refused,
        subst (λ (s : Stage). IsSessionAnswer network history s said told history Refused) (sym before) (refused_at said told history plain),
        tt,
      ))
      (plain_no_disk said told plain) tt refl (plain_names network said told plain)

  module _ (client : Client) (kept : AreAllKept (books.ledger now) client.quotes) where
    abbrev mine : Session
    mine = session.Serving client

    pub bye_answered : AnswersTo books tally now now mine (Speaks Leaves) (reply.Told Bye) session.Over
    bye_answered = stays_answered mine (Speaks Leaves) (reply.Told Bye) session.Over
        (λ history stage book before. (Left, subst (λ (s : Stage). IsSessionAnswer network history s Leaves Bye history Left) (sym before.serves) (refl, refl, refl), tt))
        refl tt refl tt

    pub bad_answered : (word : ℕ) → AnswersTo books tally now now mine (Speaks (IsBad word)) (reply.Told (Bad word)) mine
    bad_answered word = stays_answered mine (Speaks (IsBad word)) (reply.Told (Bad word)) mine
        (λ history stage book before. (stage, subst (λ (s : Stage). IsSessionAnswer network history s (IsBad word) (Bad word) history s) (sym before.serves) (refl, refl, refl), before))
        refl kept refl tt

    pub long_answered : AnswersTo books tally now now mine (Speaks IsLong) (reply.Told Long) mine
    long_answered = stays_answered mine (Speaks IsLong) (reply.Told Long) mine
        (λ history stage book before. (stage, subst (λ (s : Stage). IsSessionAnswer network history s IsLong Long history s) (sym before.serves) (refl, refl, refl), before))
        refl kept refl tt

    pub memory_answered : AnswersTo books tally now now mine (Speaks Unread) (reply.Told Memory) mine
    memory_answered = stays_answered mine (Speaks Unread) (reply.Told Memory) mine
        (λ history stage book before. (stage, subst (λ (s : Stage). IsSessionAnswer network history s Unread Memory history s) (sym before.serves) (refl, refl, refl), before))
        refl kept refl tt

    pub end_answered : (told : HostReply) → IsEndReply (books.ledger now).book.epoch client.name told → AnswersTo books tally now now mine Ends told mine
    end_answered told is = stays_answered mine Ends told mine
        (λ history stage book before. (
          stage,
          subst (λ (s : Stage). IsOwnAnswer IsEndReply history s told history s) (sym before.serves) (subst (λ (epoch : ℕ). IsEndReply epoch client.name told) (epoch_is (books.ledger now).book history book) is, refl, refl),
          before,
        ))
        (end_no_disk (books.ledger now).book.epoch client.name told is) kept refl (end_names network (books.ledger now).book.epoch client.name told is)

    pub count_answered : (told : HostReply) → IsCountReply tally (books.ledger now).book.epoch client.name told → AnswersTo books tally now now mine Counts told mine
    count_answered told is = stays_answered mine Counts told mine
        (λ history stage book before. (
          stage,
          subst (λ (s : Stage). IsOwnAnswer (IsCountReply tally) history s told history s) (sym before.serves) (subst (λ (epoch : ℕ). IsCountReply tally epoch client.name told) (epoch_is (books.ledger now).book history book) is, refl, refl),
          before,
        ))
        (count_no_disk tally (books.ledger now).book.epoch client.name told is) kept refl (count_names network tally (books.ledger now).book.epoch client.name told is)

-- ---- a command

-- what a customer holds now is what it was given last
held_by : (holdings : Holdings) (customer : List ℕ) (after : Holding) → with_held holdings customer after customer ≡ after
held_by holdings customer after = ap (λ (same : Bool). if same then after else holdings customer) ((bytes_eq-Decides customer customer).1 refl)

pub asked_answered : {K R : Type 0} (books : Ghosts K R) (tally : Tally) (old new : K) (name : List ℕ) (before after : AllQuotes) (command : Command) (told : Reply)
    → Steps books (record { books = old; quotes = before }) (record { books = new; quotes = after }) name command told
    → (books.ledger new).network ≡ (books.ledger old).network → IsMet (books.frame old) (committed_of told) (books.frame new) → NamesPlaces (books.ledger old).network told
    → AreAllKept (books.ledger new) after → IsSameOrNext (books.ledger old) (books.ledger new)
    → AnswersTo books tally old new (session.Serving (record { name = name; quotes = before })) (Speaks (Asks command)) (reply.Told told) (session.Serving (record { name = name; quotes = after }))
asked_answered {K} {R} books tally old new name before after command told steps network met names kept goes = record {
  replied = λ history stage book is.
      let on = steps 0 history is.holdings (record { book = book; held = is.held }) in
      let next = on.stepped.next in
      let left = on.stepped.after in
      record {
        next = next;
        after = Serving name left;
        answer = subst (λ (s : Stage). IsSessionAnswer (books.ledger old).network history s (Asks command) told next (Serving name left)) (sym is.serves) (left, (on.stepped.entry, on.stepped.step), refl);
        sits = record { holdings = with_held is.holdings name left; serves = ap (Serving name) (sym (held_by is.holdings name left)); held = on.fits.held };
        book = on.stepped.book;
        changes = inr (record {
          customer = name;
          held = is.holdings name;
          command = command;
          answer = told;
          serves = is.serves;
          asks = refl;
          tells = refl;
          entry = on.stepped.entry;
          after = left;
          step = on.stepped.step;
          sound = on.stepped.sound;
          decided = on.decided;
          goes = on.stepped.goes;
          leads = on.leads;
          met = met;
        });
      };
  network = network;
  goes = goes;
  kept = kept;
  known = refl;
  names = names;
}
