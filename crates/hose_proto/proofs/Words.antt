-- The words that choices are told by differ.
use Rattle.std.proofs.Common.{zero, suc, ◌≡◌, ◌≢◌, ℕ, List, [], ◌∷◌, ◌∙◌, ◌<◌, length, map, drop, get_or, decimal, refl, sym, ap, subst, arith}
use Rattle.std.specs.Borrow.{Bor}
use Rattle.std.specs.List.{All}
use Rattle.std.proofs.lemmas.List.{get_or-map, length-map}
use Rattle.std.proofs.lemmas.List.Elements.{All-cons, All-map, All-nil}
use Rattle.std.proofs.lemmas.Fmt.{decimal_injective}
use Rattle.hose_words.specs.steps.Form.{Each}
use Rattle.hose_words.proofs.Forms.{AreApart, apart_by}
use Rattle.hose_words.proofs.Keywords.{choice_of}
use Rattle.hose_graph.specs.Network.{Network, IsNetwork, IsLinkOf}
use Rattle.hose_proto.specs.steps.Choices.{IsWordTable, rows_of}
use Rattle.hose_proto.specs.Command.{verb_word}
use Rattle.hose_proto.specs.declared.verb.Verb.{Verb}
use Rattle.hose_proto.specs.declared.verb.Verb.TheVariants as verb
use Rattle.hose_proto.specs.declared.verb.TheConstants.{VERBS}

-- ---- choices that are found again by their words

-- what holds of all of a list and of one thing more holds of what stands at any place
holds_at : {A : Type 0} (P : A → Type 0) (xs : List A) (i : ℕ) (other : A) → All P xs → P other → P (get_or xs i other)
holds_at P [] i other all here = here
holds_at P (x ∷ xs) zero other all here = all 0 other (omega arith)
holds_at P (x ∷ xs) (suc i) other all here = holds_at P xs i other (λ k d below. all (suc k) d (omega (arith, below))) here

-- so where each choice is found again in a list, it holds of each
pub every_choice : {A : Type 0} (word_of : A → List ℕ) (choices : List A) (other : A) → ((one : A) → choice_of word_of choices other (word_of one) ≡ one)
    → (P : A → Type 0) → All P choices → P other → (one : A) → P one
every_choice word_of choices other found P all last one = subst P (found one) (holds_at P choices _ other all last)

-- ---- tables of choices and their words

-- a table has each choice, with its word, where the words are those of the choices and each is found again
pub is_table : {A : Type 0} (word_of : A → List ℕ) (rows : List (A × List ℕ)) (other : A) → map (λ row. row.1) rows ≡ map (λ row. word_of row.0) rows
    → ((one : A) → choice_of word_of (map (λ row. row.0) rows) other (word_of one) ≡ one) → ((P : A → Type 0) → All P (map (λ row. row.0) rows) → P other) → IsWordTable word_of rows
is_table {A} word_of rows other same found last = record {
  words = tell rows same;
  each = λ one none.
      let all = All-map (λ it. it ≢ one) (λ row. row.0) rows none in
      every_choice word_of (map (λ row. row.0) rows) other found (λ it. it ≢ one) all (last (λ it. it ≢ one) all) one refl;
}
  where
    tell : (rows : List (A × List ℕ)) → map (λ row. row.1) rows ≡ map (λ row. word_of row.0) rows → All (λ row. row.1 ≡ word_of row.0) rows
    tell [] same = All-nil (λ row. row.1 ≡ word_of row.0)
    tell (row ∷ rows) same = All-cons (λ row. row.1 ≡ word_of row.0) row rows (ap (λ words. get_or words 0 []) same) (tell rows (ap (drop 1) same))

-- the word of a row is that of its choice
pub row_word : {A : Type 0} (word_of : A → List ℕ) (table : List (A × Bor (List ℕ))) (k : ℕ) (row : A × Bor (List ℕ)) → IsWordTable word_of (rows_of table) → k < length table → row ≡ get_or table k row → row.1.now ≡ word_of row.0
row_word {A} word_of table k row are below is =
    subst (λ (it : A × List ℕ). it.1 ≡ word_of it.0) (get_or-map (λ it. (it.0, it.1.now)) table k row (row.0, row.1.now) below ∙ ap (λ it. (it.0, it.1.now)) (sym is))
    (are.words k (row.0, row.1.now) (omega (arith, below, length-map {B = A × List ℕ} table (λ it. (it.0, it.1.now)))))

-- where no row has a word, no choice has it
pub no_choice : {A : Type 0} (word_of : A → List ℕ) (table : List (A × Bor (List ℕ))) (word : List ℕ) → IsWordTable word_of (rows_of table) → All (λ row. row.1.now ≢ word) table → (one : A) → word ≢ word_of one
no_choice word_of table word are none one same =
    are.each one (λ k row below here. All-map (λ it. it.1 ≢ word) (λ it. (it.0, it.1.now)) table none k row below (are.words k row below ∙ ap word_of here ∙ sym same))

-- ---- the words of commands

-- the first word of a command that a word is
abbrev pub verb_of : List ℕ → Verb
verb_of word = choice_of verb_word (map (λ row. row.0) VERBS) verb.Admit word

verb_of-word : (one : Verb) → verb_of (verb_word one) ≡ one
verb_of-word verb.Admit = refl
verb_of-word other = refl

pub verbs_apart : AreApart Each verb_word
verbs_apart = apart_by verb_of (λ one _. verb_of-word one)

pub verbs_told : IsWordTable verb_word (map (λ row. (row.0, row.1.now)) VERBS)
verbs_told = is_table verb_word (map (λ row. (row.0, row.1.now)) VERBS) verb.Admit refl verb_of-word (λ P all. all 0 verb.Admit (omega arith))

pub links_apart : (network : Network) → IsNetwork network → AreApart (IsLinkOf network) decimal
links_apart network is = record { apart = λ one other below below' same. decimal_injective one other (omega (arith, below, is.few_links)) (omega (arith, below', is.few_links)) same }
