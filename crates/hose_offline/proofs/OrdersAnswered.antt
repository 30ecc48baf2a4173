-- Orders that are answered one after another, and what sums them up.
use Rattle.std.proofs.Common.{◌≡◌, ◌∙◌, ℕ, ◌+◌, ◌^◌, ◌<◌, List, [], ◌∷◌, ◌++◌, length, inl, refl, sym, ap, subst, arith, append-nil, append_assoc, length-append}
use Rattle.std.specs.List.{All}
use Rattle.std.proofs.lemmas.List.{length_push, map-append}
use Rattle.std.proofs.lemmas.List.Elements.{All-nil, All-push, All-tail}
use Rattle.std.proofs.lemmas.List.Sums.{sum_by_push}
use Rattle.hose_io.proofs.Frames.{Stays-none}
use Rattle.hose_graph.specs.declared.command.Reply.{Reply}
use Rattle.hose_graph.specs.steps.Naming.{AsksOf}
use Rattle.hose_graph.specs.Network.{IsNetwork, Network}
use Rattle.hose_law.specs.Quotes.{nothing_held}
use Rattle.hose_law.specs.Script.{ReadLine, IsForMemory, ScriptState, script_state}
use Rattle.hose_law.specs.Script.ReadLine.{Asks}
use Rattle.hose_law.proofs.Scripts.{decided_end}
use Rattle.hose_law.proofs.Unique.{script_unique}
use Rattle.hose_book.specs.steps.GoingOn.{none_yet}
use Rattle.hose_book.specs.declared.books.Books.{Ghosts as BooksGhosts}
use Rattle.hose_book.specs.declared.books.Plain.{Plain}
use Rattle.hose_core.specs.steps.Holding.{State}
use Rattle.hose_core.specs.steps.Stepping.{FitsHistory}
use Rattle.hose_gen.specs.Generated.{Order}
use Rattle.hose_offline.specs.GenOutcome.{IsSummary, network_of_sizes, script_of_sizes, summary_of_replies}
use Rattle.hose_offline.specs.Generating.{IsScriptOf, asked}
use Rattle.hose_offline.specs.steps.Generating.{HaveBeenAnswered, IsTallyOf}
use Rattle.hose_offline.specs.steps.Talking.{AnswersLine, HasAnsweredLines, plain_books}
use Rattle.hose_offline.specs.Tally.{admitted_cost, one_if_admitted, one_if_refused, one_if_released, tally_line, tally_of}
use Rattle.hose_offline.specs.steps.Tally.{IsOfUpTo, with_reply}
use Rattle.hose_outside.specs.declared.asked.Sizes.{Sizes}
use Rattle.hose_offline.specs.declared.tally.Tally.{Tally}
use Rattle.hose_offline.proofs.Running.{never_told}
use Rattle.hose_offline.proofs.Exchanges.{answered_more}

-- one reply more
tally_push : (replies : List Reply) (reply : Reply) (epoch : ℕ) → with_reply (tally_of replies epoch) reply ≡ tally_of (replies ++ reply ∷ []) epoch
tally_push replies reply epoch =
    rw (sum_by_push one_if_admitted replies reply, sum_by_push one_if_refused replies reply, sum_by_push one_if_released replies reply, sum_by_push admitted_cost replies reply) refl

module _ {K R : Type 0} (books : BooksGhosts K R) (first : State K) where
  -- none was answered yet
  pub answered_none : FitsHistory books first 0 [] nothing_held → HaveBeenAnswered books first first [] (tally_of [] 0)
  answered_none fits = record {
    replies = [];
    answered = record {
      history = [];
      left = nothing_held;
      script = refl;
      decided = decided_end (books.ledger first.books).network 0 [] tt;
      begins = ([], append-nil []);
      goes_on = none_yet;
      stays = Stays-none (books.frame first.books);
      disks = inl (omega arith);
    };
    fits = fits;
    network = refl;
    memory = All-nil (λ reply. ¬ IsForMemory reply);
    is_tally = refl;
  }

  -- one more was answered
  pub answered_next : (old new : State K) (orders : List Order) (order : Order) (reply : Reply) (tally : Tally) → HaveBeenAnswered books first old orders tally
      → AnswersLine books old new (Asks order.0 order.1) reply → (¬ IsForMemory reply) → HaveBeenAnswered books first new (orders ++ order ∷ []) (with_reply tally reply)
  answered_next old new orders order reply tally was answers some =
      let before : HasAnsweredLines books [] first old (asked orders) was.replies = record { answered = was.answered; fits = was.fits; network = was.network } in
      let line : ReadLine = Asks order.0 order.1 in
      let longer : asked (orders ++ order ∷ []) ≡ asked orders ++ line ∷ [] = map-append (λ (o : Order). Asks o.0 o.1) orders (order ∷ []) in
      let more = subst (λ (lines : List ReadLine). HasAnsweredLines books [] first new lines (was.replies ++ reply ∷ [])) (sym longer)
      (answered_more books [] first old new (asked orders) was.replies before line reply answers) in
      record {
        replies = was.replies ++ reply ∷ [];
        answered = more.answered;
        fits = more.fits;
        network = more.network;
        memory = All-push (λ r. ¬ IsForMemory r) was.replies reply was.memory some;
        is_tally = ap (λ (t : Tally). with_reply t reply) was.is_tally ∙ tally_push was.replies reply 0;
      }

-- a book in memory answered a script
pub tally_told : (network : Network) (first last : State Plain) (orders : List Order) (tally : Tally) (epoch : ℕ) → HaveBeenAnswered plain_books first last orders tally
    → (plain_books.ledger first.books).network ≡ network → epoch ≡ (plain_books.ledger last.books).book.epoch → IsTallyOf network orders (record tally { epoch = epoch })
tally_told network first last orders tally epoch was same is =
    let left = was.answered.left in
    let history = was.answered.history in
    record {
      replies = was.replies;
      history = history;
      script = subst (λ (n : Network). IsScriptOf n orders was.replies history) same (record {
        left = left;
        script = was.answered.script;
        decided = was.answered.decided;
        memory = was.memory;
        disk = never_told was.replies was.answered.disks;
      });
      is_tally = ap (λ (t : Tally). record t { epoch = epoch }) was.is_tally
          ∙ ap (λ (e : ℕ). tally_of was.replies e) (is ∙ ap (λ b. b.epoch) was.fits.book);
    }

-- the line of the tally is the summary, and the only one
pub summary_of : (sizes : Sizes) (tally : Tally) → IsNetwork (network_of_sizes sizes) → IsTallyOf (network_of_sizes sizes) (script_of_sizes sizes) tally → IsSummary sizes (tally_line sizes.seed sizes.hoses tally)
summary_of sizes tally network was =
    let line : tally_line sizes.seed sizes.hoses tally ≡ summary_of_replies sizes was.replies was.history = ap (tally_line sizes.seed sizes.hoses) was.is_tally in
    record {
      replies = was.replies;
      history = was.history;
      script = was.script;
      tells = line;
      alone = λ others other is.
          let same = script_unique (network_of_sizes sizes) network 0 (asked (script_of_sizes sizes)) was.replies others (script_state [] nothing_held) (script_state was.history was.script.left) (script_state other is.left) was.script.script is.script
          (record { memory = was.script.memory; disk = was.script.disk }) (record { memory = is.memory; disk = is.disk }) in
          line ∙ ap (λ (replies : List Reply). summary_of_replies sizes replies was.history) same.0
          ∙ ap (λ (state : ScriptState). summary_of_replies sizes others state.history) same.1;
    }

-- Of orders those before these were answered.
pub record AnsweredUpTo {K R : Type 0} (books : BooksGhosts K R) (first now : State K) (orders rest : List Order) (tally : Tally) : Type 0 where
  pub done : List Order
  pub whole : orders ≡ done ++ rest
  pub answered : FitsHistory books first 0 [] nothing_held → HaveBeenAnswered books first now done tally
  pub network : (books.ledger now.books).network ≡ (books.ledger first.books).network
  pub asks : All (λ (order : Order). AsksOf (books.ledger first.books).network order.1) rest
  pub counted : IsOfUpTo (length done) tally

module _ {K R : Type 0} (books : BooksGhosts K R) (first : State K) (orders : List Order) where
  -- none was answered yet
  pub up_to_none : (tally : Tally) → tally ≡ tally_of [] 0 → All (λ (order : Order). AsksOf (books.ledger first.books).network order.1) orders → AnsweredUpTo books first first orders orders tally
  up_to_none tally is asks = rw is (record {
    done = [];
    whole = refl;
    answered = answered_none books first;
    network = refl;
    asks = asks;
    counted = record { admitted = omega arith; refused = omega arith; released = omega arith; cost = omega arith };
  })

  -- the next one was answered
  pub up_to_next : (old new : State K) (order : Order) (rest : List Order) (reply : Reply) (tally more : Tally) → AnsweredUpTo books first old orders (order ∷ rest) tally
      → AnswersLine books old new (Asks order.0 order.1) reply → (¬ IsForMemory reply) → (books.ledger new.books).network ≡ (books.ledger old.books).network
      → more ≡ with_reply tally reply → ((replies : ℕ) → IsOfUpTo replies tally → IsOfUpTo (replies + 1) more) → AnsweredUpTo books first new orders rest more
  up_to_next old new order rest reply tally more was answers some same is counted = record {
    done = was.done ++ order ∷ [];
    whole = was.whole ∙ sym (append_assoc was.done (order ∷ []) rest);
    answered = λ fits. subst (λ (t : Tally). HaveBeenAnswered books first new (was.done ++ order ∷ []) t) (sym is)
        (answered_next books first old new was.done order reply tally (was.answered fits) answers some);
    network = same ∙ was.network;
    asks = All-tail (λ (o : Order). AsksOf (books.ledger first.books).network o.1) order rest was.asks;
    counted = subst (λ (n : ℕ). IsOfUpTo n more) (sym (length_push was.done order)) (counted (length was.done) was.counted);
  }

  -- a tally of so few has room
  pub has_room : (now : State K) (rest : List Order) (tally : Tally) → length orders < 2 ^ 63 → AnsweredUpTo books first now orders rest tally → (replies : ℕ) × (replies < 2 ^ 63) × IsOfUpTo replies tally
  has_room now rest tally small was =
      let long : length orders ≡ length was.done + length rest = ap length was.whole ∙ length-append was.done rest in
      (length was.done, omega (arith, long, small), was.counted)

-- where a network and a script are the generated ones, their tally makes the summary
pub summary_made : (sizes : Sizes) (top : Network) (script : List Order) (tally : Tally) → top ≡ network_of_sizes sizes → script ≡ script_of_sizes sizes → IsNetwork top → IsTallyOf top script tally → IsSummary sizes (tally_line sizes.seed sizes.hoses tally)
summary_made sizes top script tally is_top is_script network was =
    summary_of sizes tally (subst IsNetwork is_top network)
    (subst (λ (s : List Order). IsTallyOf (network_of_sizes sizes) s tally) is_script (subst (λ (n : Network). IsTallyOf n script tally) is_top was))
