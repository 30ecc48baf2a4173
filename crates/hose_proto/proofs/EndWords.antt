-- Endpoints as words by their form alone.
use Rattle.std.proofs.Common.{◌≡◌, ◌∙◌, ℕ, List, [], ◌∷◌, ◌++◌, decimal, length, take, refl, sym, ap, arith, length-append}
use Rattle.std.specs.List.{Contains}
use Rattle.std.proofs.Math.Seq.{take-length}
use Rattle.std.proofs.lemmas.List.Elements.{All-nil, All-push}
use Rattle.std.proofs.lemmas.List.Sums.{position_or_len_is}
use Rattle.hose_words.proofs.Listing.{MakesList}
use Rattle.hose_words.proofs.Passing.{All-front, IsClosed}
use Rattle.hose_graph.specs.Name.{IsName}
use Rattle.hose_graph.specs.Network.{Network, IsNetwork, IsNodeOf, name_of}
use Rattle.hose_proto.specs.EndWords.{AreNewEndWords, IsEndWord, name_in, named_rate}
use Rattle.hose_proto.specs.steps.EndWords.{IsNewEndWord}
use Rattle.hose_proto.specs.Places.{end_word}
use Rattle.hose_proto.proofs.Apart.{own_key_front, own_key_more, own_key_new, All-last}
use Rattle.hose_proto.proofs.Back.{front_is, is_colon, no_colon_passes}
use Rattle.hose_proto.proofs.Colons.{named_cut, no_colon}

-- ---- what stands round the colon

-- a text without a colon stands before the first one that follows it
pub name_front : (name rest : List ℕ) → (¬ Contains name 58) → name_in (name ++ 58 ∷ rest) ≡ name
name_front name rest free = front_is is_colon name 58 rest (no_colon_passes name free) refl

-- and is all of itself
pub name_whole : (word : List ℕ) → (¬ Contains word 58) → name_in word ≡ word
name_whole word free =
    ap (λ n. take n word) (position_or_len_is is_colon word (length word) 0 (omega arith) (λ k below. no_colon_passes word free k 0 below) (λ below. absurd (omega (arith, below))))
    ∙ take-length word

-- the name in the word of an endpoint
pub name_of_end : (word name : List ℕ) (rate : ℕ) → word ≡ named_rate name rate → IsName name → name_in word ≡ name
name_of_end word name rate is is_name = ap name_in (is ∙ named_cut name rate) ∙ name_front name (decimal rate) (no_colon name is_name)

-- ---- lists of them

-- no word yet
pub no_end_words : AreNewEndWords []
no_end_words = record {
  few = omega arith;
  ends = All-nil IsEndWord;
  distinct = λ i j d order below. absurd (omega (arith, below));
}

pub end_words_more : (words : List (List ℕ)) (word : List ℕ) → AreNewEndWords words → IsNewEndWord words word → AreNewEndWords (words ++ word ∷ [])
end_words_more words word are new = record {
  few = omega (arith, new.room, length-append words (word ∷ []));
  ends = All-push IsEndWord words word are.ends new.is_end;
  distinct = own_key_more name_in words word are.distinct new.is_new;
}

end_word_may_come : (words : List (List ℕ)) (word : List ℕ) → AreNewEndWords (words ++ word ∷ []) → IsNewEndWord words word
end_word_may_come words word are = record {
  is_end = All-last IsEndWord words word are.ends;
  is_new = own_key_new name_in words word are.distinct;
  room = omega (arith, are.few, length-append words (word ∷ []));
}

pub makes_end_words : (words : List (List ℕ)) → AreNewEndWords words → MakesList IsEndWord (λ word. word) AreNewEndWords words (IsNewEndWord words)
makes_end_words words are = record {
  apart = record { apart = λ one other is is' same. same };
  each = λ others fine. fine.ends;
  all = are.ends;
  may_come = end_word_may_come words;
}

pub end_words_closed : IsClosed AreNewEndWords
end_words_closed = record {
  front = λ xs ys some are. record {
    few = omega (arith, are.few, length-append xs ys);
    ends = All-front IsEndWord xs ys are.ends;
    distinct = own_key_front name_in xs ys are.distinct;
  };
}

-- ---- nodes

-- what spells an endpoint of a network names its node, and has the form of one
pub names_its_node : (network : Network) (word : List ℕ) (end : ℕ × ℕ) → IsNetwork network → IsNodeOf network end.0 → word ≡ end_word network end → name_of network end.0 ≡ name_in word
names_its_node network word end is below told =
    sym (ap name_in (told ∙ named_cut (name_of network end.0) end.1) ∙ name_front (name_of network end.0) (decimal end.1) (no_colon (name_of network end.0) (is.names end.0 [] below)))
