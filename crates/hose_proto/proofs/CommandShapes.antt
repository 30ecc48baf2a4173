-- Commands by their shape and by the forms of their fields: the same words ask for the same.
use Rattle.std.proofs.Common.{◌≡◌, ℕ, List, [], ◌∷◌, drop, decimal, refl, sym, ap, subst, arith}
use Rattle.std.specs.Prelude.{⊤}
use Rattle.std.specs.List.Sorted.{IsPermutation}
use Rattle.std.proofs.lemmas.List.Elements.{All-nil}
use Rattle.std.proofs.lemmas.List.Sorted.{length_permutation}
use Rattle.hose_words.specs.Words.{IsChoice}
use Rattle.hose_words.specs.Shapes.{IsFirstWrong, Tells, Values, line_end}
use Rattle.hose_words.specs.steps.Cursor.{Position}
use Rattle.hose_words.specs.steps.Form.{TellsNumber, finish, grammar_of}
use Rattle.hose_words.proofs.Shapes.{Agrees, agrees_end, agrees_items, agrees_place, agrees_value, first_word, wrong_of_form}
use Rattle.hose_words.proofs.ToldShapes.{IsFirm, firm_end, firm_of, firm_value, told_not_wrong}
use Rattle.hose_graph.specs.Hose.{Endpoint, IsEnd, node_of}
use Rattle.hose_graph.specs.Network.{IsLinkOf, IsNetwork, IsNodeOf, Network}
use Rattle.hose_graph.specs.declared.command.Command.{Command}
use Rattle.hose_proto.specs.Command.{AreEndsOf, AreNewEnds, IsCommand, IsId, IsTold, command_shape, ends_shape, id_and, link_shape, verb_shape, verb_word}
use Rattle.hose_proto.specs.Places.{IsHoseOf, end_word}
use Rattle.hose_proto.specs.steps.CommandForms.{AskedValues, Asks, AsksByFields, an_id, command_form, command_grammar, command_told, ends_form, nothing, one_link, the_hose, verb_asked, verb_form}
use Rattle.hose_proto.specs.steps.Reading.{IsFaultIn, IsFaultOf}
use Rattle.hose_proto.specs.declared.fault.ReadFault.{ReadFault}
use Rattle.hose_proto.specs.declared.verb.Verb.{Verb}
use Rattle.hose_proto.specs.declared.verb.Verb.TheVariants as verb
use Rattle.hose_graph.specs.Limits.{least_ends}
use Rattle.hose_proto.proofs.Hoses.{ends_of_hose}
use Rattle.hose_proto.proofs.ListItems.{new_ends_closed}
use Rattle.hose_proto.proofs.Words.{links_apart, verbs_apart}

module _ (network : Network) where
  -- ---- endpoints

  -- the words of a hose's endpoints tell them
  pub hose_told : (words : List (List ℕ)) (hose : List Endpoint) (are : AreEndsOf network words hose) → Tells (ends_shape network) words are.ends
  hose_told words hose are = record {
    are = are.spelled;
    may = (
      ends_of_hose network are.ends hose are.same_ends are.is_hose,
      omega (arith, are.is_hose.is_hose.counted.enough, length_permutation are.ends hose are.same_ends),
    );
  }

  -- endpoints that are told are those of a hose that they make
  pub told_hose : (words : List (List ℕ)) (ends hose : List Endpoint) → Tells (ends_shape network) words ends → IsPermutation ends hose → IsHoseOf network hose → AreEndsOf network words hose
  told_hose words ends hose tells moved is = record { ends = ends; spelled = tells.are; same_ends = moved; is_hose = is }

  -- ---- the fields of a command

  id_told : (id : ℕ) (words : List (List ℕ)) → Asks network (an_id nothing) (id, tt) words → Tells (id_and line_end) words (id, tt)
  id_told id [] (none, _, _) = absurd none
  id_told id (word ∷ words) (same, within, rest) = record { are = λ i. same i ∷ rest i; may = (within, tt) }

  told_id : (id : ℕ) (words : List (List ℕ)) → Tells (id_and line_end) words (id, tt) → Asks network (an_id nothing) (id, tt) words
  told_id id [] tells = absurd (cc tells.are)
  told_id id (word ∷ words) tells = (ap first_word tells.are, tells.may.0, ap (drop 1) tells.are)

  link_told : (link : ℕ) (words : List (List ℕ)) → Asks network (one_link nothing) (link, tt) words → Tells (link_shape network) words (link, tt)
  link_told link [] (none, _, _) = absurd none
  link_told link (word ∷ words) (same, there, rest) = record { are = λ i. same i ∷ rest i; may = (there, tt) }

  told_link : (link : ℕ) (words : List (List ℕ)) → Tells (link_shape network) words (link, tt) → Asks network (one_link nothing) (link, tt) words
  told_link link [] tells = absurd (cc tells.are)
  told_link link (word ∷ words) tells = (ap first_word tells.are, tells.may.0, ap (drop 1) tells.are)

  bound_told : (known : ℕ) (hose : List Endpoint) (words : List (List ℕ)) → Asks network (an_id the_hose) (known, hose) words → (ends : List Endpoint) × Tells (id_and (ends_shape network)) words (known, ends) × IsPermutation ends hose × IsHoseOf network hose
  bound_told known hose [] (none, _, _) = absurd none
  bound_told known hose (word ∷ words) (same, within, are) =
      let told = hose_told words hose are in
      (are.ends, record { are = λ i. same i ∷ told.are i; may = (within, told.may) }, are.same_ends, are.is_hose)

  told_bound : (known : ℕ) (ends hose : List Endpoint) (words : List (List ℕ)) → Tells (id_and (ends_shape network)) words (known, ends) → IsPermutation ends hose → IsHoseOf network hose → Asks network (an_id the_hose) (known, hose) words
  told_bound known ends hose [] tells moved is = absurd (cc tells.are)
  told_bound known ends hose (word ∷ words) tells moved is =
      (ap first_word tells.are, tells.may.0, told_hose words ends hose (record { are = ap (drop 1) tells.are; may = tells.may.1 }) moved is)

  -- what the words of a command's fields tell
  abbrev TellFields : (verb : Verb) → AskedValues (verb_asked verb) → List (List ℕ) → Type 0
  TellFields verb values words = (told : Values (verb_shape network verb)) × Tells (verb_shape network verb) words told × IsTold network (verb, told) (command_told verb values)

  fields_told : (verb : Verb) (values : AskedValues (verb_asked verb)) (words : List (List ℕ)) → Asks network (verb_asked verb) values words → TellFields verb values words
  fields_told verb.Admit hose words are = (are.ends, hose_told words hose are, (hose, are.same_ends, are.is_hose, refl))
  fields_told verb.AdmitAfter (known, hose) words asks = let told = bound_told known hose words asks in ((known, told.0), told.1, (hose, told.2, told.3, refl))
  fields_told verb.Quote hose words are = (are.ends, hose_told words hose are, (hose, are.same_ends, are.is_hose, refl))
  fields_told verb.Take (id, _) words asks = ((id, tt), id_told id words asks, refl)
  fields_told verb.Release (id, _) words asks = ((id, tt), id_told id words asks, refl)
  fields_told verb.Show (id, _) words asks = ((id, tt), id_told id words asks, refl)
  fields_told verb.Vpns _ words none = (tt, record { are = none; may = tt }, refl)
  fields_told verb.Link (link, _) words asks = ((link, tt), link_told link words asks, refl)
  fields_told verb.Down (link, _) words asks = ((link, tt), link_told link words asks, refl)
  fields_told verb.Up (link, _) words asks = ((link, tt), link_told link words asks, refl)

  -- and the other way round
  abbrev AskFields : Verb → List (List ℕ) → Command → Type 0
  AskFields verb words command = (values : AskedValues (verb_asked verb)) × Asks network (verb_asked verb) values words × (command ≡ command_told verb values)

  told_fields : (verb : Verb) (told : Values (verb_shape network verb)) (words : List (List ℕ)) (command : Command) → Tells (verb_shape network verb) words told → IsTold network (verb, told) command → AskFields verb words command
  told_fields verb.Admit ends words command tells (hose, moved, is, same) = (hose, told_hose words ends hose tells moved is, same)
  told_fields verb.AdmitAfter (known, ends) words command tells (hose, moved, is, same) = ((known, hose), told_bound known ends hose words tells moved is, same)
  told_fields verb.Quote ends words command tells (hose, moved, is, same) = (hose, told_hose words ends hose tells moved is, same)
  told_fields verb.Take (id, _) words command tells same = ((id, tt), told_id id words tells, same)
  told_fields verb.Release (id, _) words command tells same = ((id, tt), told_id id words tells, same)
  told_fields verb.Show (id, _) words command tells same = ((id, tt), told_id id words tells, same)
  told_fields verb.Vpns _ words command tells same = (tt, tells.are, same)
  told_fields verb.Link (link, _) words command tells same = ((link, tt), told_link link words tells, same)
  told_fields verb.Down (link, _) words command tells same = ((link, tt), told_link link words tells, same)
  told_fields verb.Up (link, _) words command tells same = ((link, tt), told_link link words tells, same)

  -- ---- commands

  pub asks_told : (words : List (List ℕ)) (command : Command) → AsksByFields network words command → IsCommand network words command
  asks_told [] command asks = absurd asks.first
  asks_told (word ∷ words) command asks =
      let told = fields_told asks.verb asks.values words asks.asks in (
        (asks.verb, told.0),
        record { are = λ i. asks.first i ∷ told.1.are i; may = (tt, told.1.may) },
        subst (λ (c : Command). IsTold network (asks.verb, told.0) c) (sym asks.is) told.2,
      )

  pub asks_back : (words : List (List ℕ)) (command : Command) → IsCommand network words command → AsksByFields network words command
  asks_back [] command ((verb, told), tells, is) = absurd (cc tells.are)
  asks_back (word ∷ words) command ((verb, told), tells, is) =
      let fields = told_fields verb told words command (record { are = ap (drop 1) tells.are; may = tells.may.1 }) is in
      record { verb = verb; values = fields.0; first = ap first_word tells.are; asks = fields.1; is = fields.2 }

  -- ---- the first word that is wrong

  no_ends : AreNewEnds network []
  no_ends = record {
    few = omega arith;
    within = All-nil IsEnd;
    distinct = λ i j d order below same. omega (arith, order, below);
    nodes = All-nil (λ (end : Endpoint). IsNodeOf network (node_of end));
  }

  agrees_ends : Agrees (ends_shape network) (grammar_of (ends_form network))
  agrees_ends = agrees_items (AreNewEnds network) (end_word network) least_ends (new_ends_closed network) no_ends

  told_number : (word : List ℕ) → TellsNumber IsId word → IsChoice IsId decimal word
  told_number word told = (told.0, told.2, told.1)

  number_told : (id : ℕ) → IsId id → TellsNumber IsId (decimal id)
  number_told id is = (id, refl, is)

  agrees_id : Agrees (id_and line_end) (grammar_of (verb_form network verb.Take))
  agrees_id = agrees_place (TellsNumber IsId) finish told_number number_told (λ id _. agrees_end)

  agrees_link : IsNetwork network → Agrees (link_shape network) (grammar_of (verb_form network verb.Link))
  agrees_link is = agrees_value (λ _. finish) (links_apart network is) (λ link _. agrees_end)

  agrees_verb : IsNetwork network → (verb : Verb) → Agrees (verb_shape network verb) (grammar_of (verb_form network verb))
  agrees_verb is verb.Admit = agrees_ends
  agrees_verb is verb.AdmitAfter = agrees_place (TellsNumber IsId) (ends_form network) told_number number_told (λ id _. agrees_ends)
  agrees_verb is verb.Quote = agrees_ends
  agrees_verb is verb.Take = agrees_id
  agrees_verb is verb.Release = agrees_id
  agrees_verb is verb.Show = agrees_id
  agrees_verb is verb.Vpns = agrees_end
  agrees_verb is verb.Link = agrees_link is
  agrees_verb is verb.Down = agrees_link is
  agrees_verb is verb.Up = agrees_link is

  pub agrees_command : IsNetwork network → Agrees (command_shape network) (command_grammar network)
  agrees_command is = agrees_value (verb_form network) verbs_apart (λ verb _. agrees_verb is verb)

  -- a fault in a form is one in the shape
  pub command_fault : IsNetwork network → {old : Position} (fault : ReadFault) → IsFaultOf (command_form network) old fault → IsFaultIn (command_shape network) old fault
  command_fault is {old} fault of = record {
    word = λ number told.
        let wrong = of.word number told in
        (wrong.place, wrong.at, wrong_of_form (command_shape network) (command_grammar network) (agrees_command is) old.left wrong.place wrong.wrong);
  }

  pub ends_fault : {old : Position} (fault : ReadFault) → IsFaultOf (ends_form network) old fault → IsFaultIn (ends_shape network) old fault
  ends_fault {old} fault of = record {
    word = λ number told.
        let wrong = of.word number told in
        (wrong.place, wrong.at, wrong_of_form (ends_shape network) (grammar_of (ends_form network)) agrees_ends old.left wrong.place wrong.wrong);
  }

  -- ---- words that ask for something are not wrong

  pub firm_ends : IsFirm (ends_shape network)
  firm_ends = firm_of agrees_ends

  firm_id : IsFirm (id_and line_end)
  firm_id = firm_of agrees_id

  firm_link : IsFirm (link_shape network)
  firm_link = firm_value (IsLinkOf network) decimal (λ link. line_end) (λ link _. firm_end)

  firm_verb : (verb : Verb) → IsFirm (verb_shape network verb)
  firm_verb verb.Admit = firm_ends
  firm_verb verb.AdmitAfter = firm_value IsId decimal (λ id. ends_shape network) (λ id _. firm_ends)
  firm_verb verb.Quote = firm_ends
  firm_verb verb.Take = firm_id
  firm_verb verb.Release = firm_id
  firm_verb verb.Show = firm_id
  firm_verb verb.Vpns = firm_end
  firm_verb verb.Link = firm_link
  firm_verb verb.Down = firm_link
  firm_verb verb.Up = firm_link

  pub firm_command : IsFirm (command_shape network)
  firm_command = firm_value (λ verb. ⊤) verb_word (verb_shape network) (λ verb _. firm_verb verb)

  pub command_not_wrong : (words : List (List ℕ)) (command : Command) (word : ℕ) → IsCommand network words command → IsFirstWrong (command_shape network) words word → ⊥
  command_not_wrong words command word asks wrong = told_not_wrong (command_shape network) firm_command words asks.0 word asks.1 wrong

  pub ends_not_wrong : (words : List (List ℕ)) (hose : List Endpoint) (word : ℕ) → AreEndsOf network words hose → IsFirstWrong (ends_shape network) words word → ⊥
  ends_not_wrong words hose word are wrong = told_not_wrong (ends_shape network) firm_ends words are.ends word (hose_told words hose are) wrong
