-- Names that are a letter and a number.
use Rattle.std.proofs.Common.{◌≡◌, ℕ, zero, suc, ◌+◌, ◌<◌, ◌≤◌, ◌^◌, true, List, [], ◌∷◌, ◌++◌, length, decimal, take, drop, Contains, refl, ap, inl, inr, arith}
use Rattle.std.specs.Char.{is_ascii_lowercase}
use Rattle.std.specs.List.{AllPass}
use Rattle.std.specs.Str.Parse.{AllDigits}
use Rattle.std.proofs.lemmas.Bool.Decides.{nat_tests}
use Rattle.std.proofs.lemmas.Fmt.{decimal_injective, decimal_is_IsNumeral, length-decimal-le}
use Rattle.std.proofs.lemmas.List.{length_push, take_at}
use Rattle.std.proofs.lemmas.List.Elements.{All-cons, Contains-push_cases}
use Rattle.std.proofs.lemmas.Str.Parse.{tells_digits}
use Rattle.hose_graph.specs.Name.{IsName, is_name_byte}
use Rattle.hose_gen.specs.Generated.{node_name, node_names}

-- digits may stand in a name
digits_allowed : (bytes : List ℕ) → AllDigits 10 bytes → AllPass is_name_byte bytes
digits_allowed [] digits = λ k d below. absurd (omega (arith, below))
digits_allowed (byte ∷ more) digits =
    let parts = tells_digits.parts byte more digits in
    let first : is_name_byte byte ≡ true = grind (arith, nat_tests) in
    All-cons (λ b. is_name_byte b ≡ true) byte more first (digits_allowed more parts.1)

-- a small letter before a number is a name
pub is_name : (letter number : ℕ) → is_ascii_lowercase letter ≡ true → number < 2 ^ 32 → IsName (letter ∷ decimal number)
is_name letter number small below =
    let short = length-decimal-le 10 number (omega arith) (omega arith) (omega arith) in
    let digits = (decimal_is_IsNumeral number (omega arith)).0.1 in
    let first : is_name_byte letter ≡ true = grind (arith, nat_tests) in record {
      some = omega arith;
      short = omega (arith, short);
      allowed = All-cons (λ b. is_name_byte b ≡ true) letter (decimal number) first (digits_allowed (decimal number) digits);
    }

-- a letter and then digits, in front of what was there
pub front_is_name : (letter number : ℕ) (digits written rest : List ℕ) → digits ≡ decimal number → written ≡ decimal number
    → IsName (letter ∷ decimal number) → IsName (take (1 + length digits) (letter ∷ (written ++ rest)))
front_is_name letter number digits written rest same told name =
    let long : 1 + length digits ≡ suc (length (decimal number)) = omega (arith, ap length same) in
    rw (long, told, take_at (decimal number) rest (length (decimal number)) refl) name

-- there are as many names as nodes
pub length-node_names : (nodes : ℕ) → length (node_names nodes) ≡ nodes
length-node_names zero = refl
length-node_names (suc nodes) = omega (arith, length_push (node_names nodes) (node_name nodes), length-node_names nodes)

-- nodes of one name are one node
same_node : (m n : ℕ) → m < 2 ^ 32 → n < 2 ^ 32 → node_name m ≡ node_name n → m ≡ n
same_node m n p q same = decimal_injective m n (omega arith) (omega arith) (ap (λ w. drop 1 w) same)

-- the name of a node is not that of one before it
pub is_new : (node : ℕ) (before : ℕ) → before ≤ node → node < 2 ^ 32 → ¬ Contains (node_names before) (node_name node)
is_new node zero less small there = absurd (omega (arith, there.1))
is_new node (suc before) less small there =
    elim (Contains-push_cases (node_names before) (node_name before) (node_name node) there) [
      | inl earlier ↦ is_new node before (omega arith) small earlier
      | inr same ↦ absurd (omega (arith, same_node before node (omega arith) small same))
    ]
