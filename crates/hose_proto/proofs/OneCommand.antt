-- Words ask for one command at most, and then none of them is wrong.
use Rattle.std.proofs.Common.{◌≡◌, ◌⊎◌, ◌∙◌, ℕ, List, [], ◌∷◌, map, drop, refl, sym, ap, subst, inl, inr, arith, Result, Ok, Err, IfOk}
use Rattle.std.specs.List.Sorted.{IsPermutation}
use Rattle.std.proofs.lemmas.Fmt.{decimal_injective}
use Rattle.std.proofs.lemmas.List.Sorted.{length_permutation}
use Rattle.hose_words.specs.steps.Form.{finish}
use Rattle.hose_words.specs.steps.Grammar.{IsFirstNotAllowed}
use Rattle.hose_words.proofs.Passing.{Passes, pass_branch, pass_finish, pass_list, pass_place}
use Rattle.hose_graph.specs.steps.Naming.{AsksOf}
use Rattle.hose_graph.specs.Network.{Network, IsNetwork}
use Rattle.hose_graph.specs.declared.command.Command.{Command}
use Rattle.hose_proto.specs.Command.{AreEndsOf, verb_word}
use Rattle.hose_proto.specs.steps.CommandForms.{Asked, AskedValues, Asks, AsksByFields, an_id, asked_form, command_form, command_grammar, command_told, ends_form, nothing, one_link, the_hose, verb_asked}
use Rattle.hose_proto.specs.declared.fault.ReadFault.{ReadFault}
use Rattle.hose_proto.specs.declared.fault.ReadFault.TheVariants as fault
use Rattle.hose_proto.specs.declared.verb.Verb.{Verb}
use Rattle.hose_proto.specs.declared.verb.Verb.TheVariants as verb
use Rattle.hose_proto.proofs.Back.{end_spelled, ends_back}
use Rattle.hose_proto.proofs.Hoses.{ends_of_hose, one_hose}
use Rattle.hose_proto.proofs.ListItems.{new_ends_closed}
use Rattle.hose_proto.proofs.Words.{links_apart, verbs_apart}

-- ---- what is read of words

-- the first word of a command came, and its fields after it
pub command_of : {network : Network} {words : List (List ℕ)} {came : Verb} (verb : Verb) (values : AskedValues (verb_asked verb)) → came ≡ verb → Asks network (verb_asked verb) values words
    → AsksByFields network (verb_word came ∷ words) (command_told verb values)
command_of {network} {words} {came} verb values same asks = record { verb = verb; values = values; first = ap verb_word same; asks = asks; is = refl }

module _ (network : Network) (is : IsNetwork network) where
  -- ---- words ask for one thing

  -- endpoints are found again from their words
  ends_found : (words : List (List ℕ)) (hose : List (ℕ × ℕ)) (are : AreEndsOf network words hose) → map (end_spelled network) words ≡ are.ends
  ends_found words hose are =
      let new = ends_of_hose network are.ends hose are.same_ends are.is_hose in
      ap (map (end_spelled network)) are.spelled ∙ ends_back network is are.ends (λ k d below. record { is_end = new.within k d below; is_node = new.nodes k d below })

  one_of_ends : (words : List (List ℕ)) (hose other : List (ℕ × ℕ)) → AreEndsOf network words hose → AreEndsOf network words other → hose ≡ other
  one_of_ends words hose other are are' =
      let same : are.ends ≡ are'.ends = sym (ends_found words hose are) ∙ ends_found words other are' in
      one_hose are.ends hose other are.same_ends (subst (λ (ends : List (ℕ × ℕ)). IsPermutation ends other) (sym same) are'.same_ends) are.is_hose.is_hose are'.is_hose.is_hose

  -- the words of fields tell one thing
  asks_once : (asked : Asked) (words : List (List ℕ)) (one other : AskedValues asked) → Asks network asked one words → Asks network asked other words → one ≡ other
  asks_once nothing words one other asks asks' = refl
  asks_once (an_id asked) [] (id, one) (id', other) (none, _, _) asks' = absurd none
  asks_once (an_id asked) (word ∷ words) (id, one) (id', other) (told, within, asks) (told', within', asks') =
      let same = decimal_injective id id' (omega (arith, within)) (omega (arith, within')) (sym told ∙ told') in
      let more = asks_once asked words one other asks asks' in
      λ i. (same i, more i)
  asks_once (one_link asked) [] (link, one) (link', other) (none, _, _) asks' = absurd none
  asks_once (one_link asked) (word ∷ words) (link, one) (link', other) (told, there, asks) (told', there', asks') =
      let same = (links_apart network is).apart link link' there there' (sym told ∙ told') in
      let more = asks_once asked words one other asks asks' in
      λ i. (same i, more i)
  asks_once the_hose words one other asks asks' = one_of_ends words one other asks asks'

  -- so does a command's first word with them
  same_command : (one other : Verb) (words : List (List ℕ)) (values : AskedValues (verb_asked one)) → one ≡ other → Asks network (verb_asked one) values words
      → (others : AskedValues (verb_asked other)) → Asks network (verb_asked other) others words → command_told one values ≡ command_told other others
  same_command one other words values same asks =
      subst (λ verb. (others : AskedValues (verb_asked verb)) → Asks network (verb_asked verb) others words → command_told one values ≡ command_told verb others) same
      (λ others asks'. ap (command_told one) (asks_once (verb_asked one) words values others asks asks'))

  -- words ask for one command at most
  pub command_unique : (words : List (List ℕ)) (one other : Command) → AsksByFields network words one → AsksByFields network words other → one ≡ other
  command_unique [] one other asks asks' = absurd asks.first
  command_unique (word ∷ words) one other asks asks' =
      let same = verbs_apart.apart asks.verb asks'.verb tt tt (sym asks.first ∙ asks'.first) in
      asks.is ∙ same_command asks.verb asks'.verb words asks.values same asks.asks asks'.values asks'.asks ∙ sym asks'.is

  -- ---- a command is not wrong

  -- where words spell a hose, none of them is wrong
  pub pass_ends : (words : List (List ℕ)) (hose : List (ℕ × ℕ)) → AreEndsOf network words hose → Passes (ends_form network) words
  pass_ends words hose are =
      subst (Passes (ends_form network)) (sym are.spelled)
      (pass_list (new_ends_closed network) (omega (arith, are.is_hose.is_hose.counted.enough, length_permutation are.ends hose are.same_ends)) (ends_of_hose network are.ends hose are.same_ends are.is_hose))

  pass_asked : (asked : Asked) (words : List (List ℕ)) (values : AskedValues asked) → Asks network asked values words → Passes (asked_form network asked) words
  pass_asked nothing words values none = subst (Passes finish) (sym none) pass_finish
  pass_asked (an_id asked) [] (id, values) (none, _, _) = absurd none
  pass_asked (an_id asked) (word ∷ words) (id, values) (told, within, asks) = pass_place (id, told, within) (pass_asked asked words values asks)
  pass_asked (one_link asked) [] (link, values) (none, _, _) = absurd none
  pass_asked (one_link asked) (word ∷ words) (link, values) (told, there, asks) =
      subst (λ w. Passes (asked_form network (one_link asked)) (w ∷ words)) (sym told) (pass_branch link there (links_apart network is) (pass_asked asked words values asks))
  pass_asked the_hose words hose are = pass_ends words hose are

  -- where words ask for a command, none of them is wrong
  pub pass_command : (words : List (List ℕ)) (command : Command) → AsksByFields network words command → Passes (command_form network) words
  pass_command [] command asks = absurd asks.first
  pass_command (word ∷ words) command asks =
      subst (λ w. Passes (command_form network) (w ∷ words)) (sym asks.first) (pass_branch asks.verb tt verbs_apart (pass_asked (verb_asked asks.verb) words asks.values asks.asks))

-- words spell one hose at most
pub ends_unique : (network : Network) (words : List (List ℕ)) (hose other : List (ℕ × ℕ)) → IsNetwork network → AreEndsOf network words hose → AreEndsOf network words other → hose ≡ other
ends_unique network words hose other is are are' = one_of_ends network is words hose other are are'

-- what words ask for is what was read of them, but where memory was short
pub asked_for : (network : Network) (words : List (List ℕ)) (result : Result Command ReadFault) → IsNetwork network → IfOk result (AsksByFields network words)
    → ((n : ℕ) → result ≡ Err (fault.Bad n) → (place : ℕ) × IsFirstNotAllowed (command_grammar network) [] words place) → (command : Command) → AsksByFields network words command
    → (result ≡ Ok command) ⊎ (result ≡ Err fault.Memory)
asked_for network words (Ok read) is ok bad command asks = inl (ap Ok (command_unique network is words read command ok asks))
asked_for network words (Err (fault.Bad n)) is ok bad command asks = let wrong = bad n refl in absurd ((pass_command network is words command asks).none wrong.0 wrong.1)
asked_for network words (Err fault.Memory) is ok bad command asks = inr refl

-- ---- what a command names

-- the nodes and the link that a command names are the network's, and a number to be released is one that there can be
asks_of : (network : Network) (words : List (List ℕ)) (verb : Verb) (values : AskedValues (verb_asked verb)) → Asks network (verb_asked verb) values words → AsksOf network (command_told verb values)
asks_of network words verb.Admit hose are = are.is_hose.nodes
asks_of network words verb.AdmitAfter (known, hose) (_, within, are) = (within.1, are.is_hose.nodes)
asks_of network words verb.Quote hose are = are.is_hose.nodes
asks_of network words verb.Release (id, _) (_, within, _) = within.1
asks_of network words verb.Link (link, _) (_, there, _) = there
asks_of network words verb.Down (link, _) (_, there, _) = there
asks_of network words verb.Up (link, _) (_, there, _) = there
asks_of network words other values asks = tt

pub read_asks_of : {E : Type 0} (network : Network) (words : List (List ℕ)) (read : Result Command E) → IfOk read (AsksByFields network words) → IfOk read (AsksOf network)
read_asks_of network words (Ok command) asks = subst (AsksOf network) (sym asks.is) (asks_of network (drop 1 words) asks.verb asks.values asks.asks)
read_asks_of network words (Err fault) asks = tt
