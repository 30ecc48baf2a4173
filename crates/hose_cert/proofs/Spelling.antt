-- The words of a certificate's lines, and what they can say.
use Rattle.std.proofs.Common.{◌≡◌, ◌⊎◌, ◌↔◌, ◌∙◌, ℕ, ◌^◌, ◌<◌, ◌≤◌, Bool, true, false, IsTrue, List, [], ◌∷◌, ◌++◌, Option, None, Some, Result, Ok, Err, IfOk, MatchBool, length, get_or, map, drop, decimal, inl, inr, refl, sym, ap, subst, arith}
use Rattle.std.specs.List.{All, AllWithin, HoldsAt}
use Rattle.std.proofs.lemmas.Bool.{false≢true}
use Rattle.std.proofs.lemmas.Fmt.{decimal_injective}
use Rattle.std.proofs.lemmas.List.Elements.{All-tail}
use Rattle.hose_words.specs.Words.{words_of}
use Rattle.hose_graph.specs.Network.{Network, IsNetwork}
use Rattle.hose_proto.specs.Command.{AreEndsOf}
use Rattle.hose_proto.proofs.Back.{number_back, number_spelled, map_back}
use Rattle.hose_proto.proofs.OneCommand.{ends_unique}
use Rattle.hose_cert.specs.CertLine.{CertLine, IsLine, cost_line, end_line, hose_line, numbers_from, pot_line, use_line, without_line}
use Rattle.hose_cert.specs.steps.CertLine.{AreWordsOf, IsSpaced, SaysLine, statement_line}
use Rattle.hose_cert.specs.steps.Judging.{AreUpToMost}
use Rattle.hose_cert.specs.steps.Reading.{IsFrom, IsLineTold, IsToldAfter}
use Rattle.hose_cert.specs.declared.fault.CertFault.{CertFault}
use Rattle.hose_cert.specs.declared.statement.Statement.{Statement}
use Rattle.hose_words.specs.steps.Cursor.{Position}
use Rattle.hose_cert.specs.steps.Statement.{statement_word}
use Rattle.hose_cert.specs.declared.statement.TheConstants.{MOST_NUMBER}
use Rattle.hose_cert.specs.declared.statement.StatementKind.{StatementKind}
use Rattle.hose_cert.specs.declared.statement.StatementKind.TheVariants as kind
use Rattle.hose_cert.proofs.KindWords.{kinds_apart}
use Rattle.hose_cert.proofs.LineTexts.{said_line}

-- ---- spaces

pub spaced_judged : (r : Bool) (parts : List (List ℕ)) → MatchBool r (AllWithin (λ part. 0 < length part) parts 0 (length parts)) ((k : ℕ) × (k < length parts) × HoldsAt (λ part. length part ≡ 0) parts k)
    → IsTrue r ↔ All (λ part. 0 < length part) parts
spaced_judged true parts all = (λ _ k d below. all k d (omega arith) below, λ _. refl)
spaced_judged false parts (k, below, none) = (λ so. absurd (false≢true so), λ all. absurd (omega (arith, all k [] below, none [])))

-- ---- numbers

-- a number that is out of range is told by no number in it
pub not_from : (words more : List (List ℕ)) (least end n : ℕ) → words ≡ decimal n ∷ more → n < 2 ^ 64 → end < 2 ^ 64 → ((least ≤ n) × (end ≤ n)) ⊎ (n < least)
    → (number : ℕ) (rest : List (List ℕ)) → words ≡ decimal number ∷ rest → IsFrom least end number → ⊥
not_from words more least end n cut small fits out number rest is from =
    let same : number ≡ n = decimal_injective number n (omega (arith, from, fits)) small (ap (λ ws. get_or ws 0 []) (sym is ∙ cut)) in
    at out same
  where
    at : ((least ≤ n) × (end ≤ n)) ⊎ (n < least) → number ≡ n → ⊥
    at (inl above) same = absurd (omega (arith, above, same, from))
    at (inr below) same = absurd (omega (arith, below, same, from))

-- what is left of the words of numbers, after the first ones
pub numbers_left : (front numbers : List ℕ) (left : List (List ℕ)) → map decimal front ++ left ≡ map decimal numbers → AreUpToMost numbers → length front < length numbers
    → (n : ℕ) × (rest : List (List ℕ)) × (left ≡ decimal n ∷ rest) × (n ≤ MOST_NUMBER)
numbers_left front [] left cut all more = absurd (omega (arith, more))
numbers_left [] (n ∷ numbers) left cut all more = (n, map decimal numbers, cut, all 0 n (omega arith))
numbers_left (f ∷ front) (n ∷ numbers) left cut all more =
    numbers_left front numbers left (ap (drop 1) cut) (All-tail (λ number. number ≤ MOST_NUMBER) n numbers all) (omega (arith, more))

pub none_left : (front numbers : List ℕ) (left : List (List ℕ)) → map decimal front ++ left ≡ map decimal numbers → length front ≡ length numbers → left ≡ []
none_left [] [] left cut same = cut
none_left [] (n ∷ numbers) left cut same = absurd (omega (arith, same))
none_left (f ∷ front) [] left cut same = absurd (omega (arith, same))
none_left (f ∷ front) (n ∷ numbers) left cut same = none_left front numbers left (ap (drop 1) cut) (omega (arith, same))

-- ---- kinds of lines

abbrev pub kind_of : CertLine → StatementKind
kind_of (cost_line cost) = kind.Cost
kind_of (hose_line hose) = kind.Hose
kind_of (use_line pair) = kind.Use
kind_of (without_line link) = kind.Without
kind_of (pot_line root from numbers) = kind.Pot
kind_of end_line = kind.End

-- the first word of a line tells its kind
pub begins : (network : Network) (words : List (List ℕ)) (line : CertLine) → AreWordsOf network words line → (more : List (List ℕ)) × (words ≡ statement_word (kind_of line) ∷ more)
begins network words (cost_line cost) is = (_, is.0)
begins network words (hose_line hose) is = (is.0, is.1)
begins network words (use_line pair) is = (_, is.0)
begins network words (without_line link) is = (_, is.0)
begins network words (pot_line root from numbers) is = (_, is.0)
begins network words end_line is = ([], is)

-- so it is of this kind
pub is_of_kind : (network : Network) (words more : List (List ℕ)) (one : StatementKind) (line : CertLine) → words ≡ statement_word one ∷ more → AreWordsOf network words line → kind_of line ≡ one
is_of_kind network words more one line cut is =
    let first = begins network words line is in
    kinds_apart (kind_of line) one (ap (λ ws. get_or ws 0 []) (sym first.1 ∙ cut))

-- ---- a line says one thing

-- what words say, but for the endpoints of a hose
abbrev said_by : List (List ℕ) → StatementKind → CertLine
said_by words kind.Cost = cost_line (number_spelled (get_or words 1 []))
said_by words kind.Hose = hose_line []
said_by words kind.Use = use_line (number_spelled (get_or words 1 []), number_spelled (get_or words 2 []))
said_by words kind.Without = without_line (number_spelled (get_or words 1 []))
said_by words kind.Pot = pot_line (number_spelled (get_or words 1 [])) (number_spelled (get_or words 2 [])) (map number_spelled (drop 3 words))
said_by words kind.End = end_line

abbrev IsSaidBy : Network → List (List ℕ) → CertLine → CertLine → Type 0
IsSaidBy network words (hose_line none) line = (hose : List (ℕ × ℕ)) × (line ≡ hose_line hose) × AreEndsOf network (drop 1 words) hose
IsSaidBy network words one line = line ≡ one

module _ (network : Network) (is : IsNetwork network) where
  said_back : (words : List (List ℕ)) (line : CertLine) → AreWordsOf network words line → IsSaidBy network words (said_by words (kind_of line)) line
  said_back words (cost_line cost) spelled =
      ap cost_line (sym (ap (λ ws. number_spelled (get_or ws 1 [])) spelled.0 ∙ number_back cost (omega (arith, spelled.1))))
  said_back words (hose_line hose) spelled = (hose, refl, subst (λ ws. AreEndsOf network ws hose) (sym (ap (drop 1) spelled.1)) spelled.2)
  said_back words (use_line pair) spelled =
      let link : number_spelled (get_or words 1 []) ≡ pair.0 = ap (λ ws. number_spelled (get_or ws 1 [])) spelled.0 ∙ number_back pair.0 (omega (arith, spelled.1, is.few_links)) in
      let amount : number_spelled (get_or words 2 []) ≡ pair.1 = ap (λ ws. number_spelled (get_or ws 2 [])) spelled.0 ∙ number_back pair.1 (omega (arith, spelled.2)) in
      λ i. use_line (sym link i, sym amount i)
  said_back words (without_line link) spelled =
      ap without_line (sym (ap (λ ws. number_spelled (get_or ws 1 [])) spelled.0 ∙ number_back link (omega (arith, spelled.1, is.few_links))))
  said_back words (pot_line root from numbers) spelled =
      let first : number_spelled (get_or words 1 []) ≡ root = ap (λ ws. number_spelled (get_or ws 1 [])) spelled.0 ∙ number_back root (omega (arith, spelled.1, is.few_nodes)) in
      let second : number_spelled (get_or words 2 []) ≡ from = ap (λ ws. number_spelled (get_or ws 2 [])) spelled.0 ∙ number_back from (omega (arith, spelled.2, is.few_nodes)) in
      let rest : map number_spelled (drop 3 words) ≡ numbers =
      ap (λ ws. map number_spelled (drop 3 ws)) spelled.0 ∙ map_back decimal number_spelled numbers (λ k d below. number_back (get_or numbers k d) (omega (arith, spelled.4 k d below))) in
      λ i. pot_line (sym first i) (sym second i) (sym rest i)
  said_back words end_line spelled = refl

  said_once : (words : List (List ℕ)) (said one other : CertLine) → IsSaidBy network words said one → IsSaidBy network words said other → one ≡ other
  said_once words (hose_line none) one other (hose, same, ends) (hose', same', ends') =
      same ∙ ap hose_line (ends_unique network (drop 1 words) hose hose' is ends ends') ∙ sym same'
  said_once words said one other same same' = same ∙ sym same'

  pub spelled_once : (words : List (List ℕ)) (one other : CertLine) → AreWordsOf network words one → AreWordsOf network words other → one ≡ other
  spelled_once words one other spelled spelled' =
      let first = begins network words one spelled in
      let same : kind_of other ≡ kind_of one = is_of_kind network words first.0 (kind_of one) other first.1 spelled' in
      said_once words (said_by words (kind_of one)) one other (said_back words one spelled) (subst (λ k. IsSaidBy network words (said_by words k) other) same (said_back words other spelled'))

  pub line_once : (bytes : List ℕ) (one other : CertLine) → IsLine network bytes one → IsLine network bytes other → one ≡ other
  line_once bytes one other line line' = spelled_once (words_of bytes) one other (said_line network is bytes one line).spelled (said_line network is bytes other line').spelled

-- ---- what is told of the words after the first one

module _ (network : Network) (more : List (List ℕ)) where
  abbrev Says : StatementKind → CertLine → Type 0
  Says one line = AreWordsOf network (statement_word one ∷ more) line

  same_kind : (one : StatementKind) (line : CertLine) → Says one line → kind_of line ≡ one
  same_kind one line is = is_of_kind network (statement_word one ∷ more) more one line refl is

  pub no_hose : ((hose : List (ℕ × ℕ)) → AreEndsOf network more hose → ⊥) → (line : CertLine) → Says kind.Hose line → ⊥
  no_hose none line spelled = at line (same_kind kind.Hose line spelled) spelled
    where
      at : (line : CertLine) → kind_of line ≡ kind.Hose → Says kind.Hose line → ⊥
      at (hose_line hose) same is = none hose (subst (λ ws. AreEndsOf network ws hose) (sym (ap (drop 1) is.1)) is.2)
      at other same is = absurd (cc same)

  pub no_pot : ((root from : ℕ) (numbers : List ℕ) → more ≡ decimal root ∷ decimal from ∷ map decimal numbers → root < length network.nodes → from < length network.nodes
      → length numbers ≡ numbers_from network from → AreUpToMost numbers → ⊥) → (line : CertLine) → Says kind.Pot line → ⊥
  no_pot none line spelled = at line (same_kind kind.Pot line spelled) spelled
    where
      at : (line : CertLine) → kind_of line ≡ kind.Pot → Says kind.Pot line → ⊥
      at (pot_line root from numbers) same is = none root from numbers (ap (drop 1) is.0) is.1 is.2 is.3 is.4
      at other same is = absurd (cc same)

-- what was told of the words after the first one is told of all
pub told_after : (network : Network) (words more : List (List ℕ)) (one other : StatementKind) → words ≡ statement_word one ∷ more → one ≡ other → (told : Option Statement) → IsToldAfter network other more told → IsLineTold (AreWordsOf network words) told
told_after network words more one other cut same told is =
    subst (λ ws. IsLineTold (AreWordsOf network ws) told) (sym cut) (subst (λ k. IsToldAfter network k more told) (sym same) is)

-- and of the line
pub told_line : (network : Network) (bytes : List ℕ) (start : Position) → start ≡ record { left = words_of bytes; read = 0 } → (told : Result (Option Statement) CertFault) → IsSpaced bytes
    → IfOk told (IsLineTold (AreWordsOf network start.left)) → IfOk told (IsLineTold (SaysLine network bytes))
told_line network bytes start same (Err fault) spaced is = tt
told_line network bytes start same (Ok None) spaced is = λ line there. is line (subst (λ (p : Position). AreWordsOf network p.left line) (sym same) there.spelled)
told_line network bytes start same (Ok (Some told)) spaced is =
    record { spaced = spaced; spelled = subst (λ (p : Position). AreWordsOf network p.left (statement_line told)) same is }

-- the words of a root, a node and the numbers, one after the other
pub pot_cut : (words first second : List (List ℕ)) (other node root from : ℕ) (numbers : List ℕ) → words ≡ decimal other ∷ first → first ≡ decimal node ∷ second → words ≡ decimal root ∷ decimal from ∷ map decimal numbers
    → node < 2 ^ 64 → from < 2 ^ 64 → (second ≡ map decimal numbers) × (from ≡ node)
pot_cut words first second other node root from numbers is is' cut small small' =
    let rest : first ≡ decimal from ∷ map decimal numbers = ap (drop 1) (sym is ∙ cut) in
    (ap (drop 1) (sym is' ∙ rest), decimal_injective from node small' small (ap (λ ws. get_or ws 0 []) (sym rest ∙ is')))
