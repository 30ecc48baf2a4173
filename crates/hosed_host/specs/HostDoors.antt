-- Which doors a host opens, and who may greet at each.
use Rattle.std.specs.Prelude.{◌≡◌, ℕ, ◌+◌, ◌<◌, Bool, true, List, [], ◌∷◌, ◌++◌, get_or, length, not, Option, None, Some, slice_index_or, suc, zero}
use Rattle.hose_graph.specs.Limits.{operator}
use Rattle.hose_net.specs.declared.doors.Address.{Address}
use Rattle.hose_net.specs.declared.doors.Address.TheVariants as address
use Rattle.hose_clerk.specs.declared.doors.DoorRule.{DoorRule}
use Rattle.hose_clerk.specs.declared.doors.DoorRule.TheVariants as rule
use Rattle.hose_doors.specs.Doors.{OpensAs}

-- the standby that replies wait for: the path of its Unix socket, and whether no reply is told
-- without it
pub record StandbyPlace : Type 0 where
  pub path : List ℕ
  pub or_stop : Bool

-- the doors that words ask for: the path of the operator's socket, if there is one, and the words
-- of the others, each with the number of its word; and the standby, if there is one
pub record DoorsAsked : Type 0 where
  pub operator : Option (List ℕ × ℕ)
  pub doors : List (List ℕ)
  pub first : ℕ
  pub standby : Option StandbyPlace

-- replies are told without a standby, where there is none, or it is gone
abbrev pub may_be_alone : Option StandbyPlace → Bool
may_be_alone None = true
may_be_alone (Some standby) = not standby.or_stop

-- no reply is told without the standby
abbrev pub is_required : Option StandbyPlace → Bool
is_required standby = not (may_be_alone standby)

-- the operator's socket, if there is one, as the word of a door that is bound to the operator
abbrev pub operator_words : Option (List ℕ × ℕ) → List (List ℕ)
operator_words None = []
operator_words (Some path) = (path.0 ++ 61 ∷ operator) ∷ []

-- the words of all doors, the operator's first
abbrev pub door_words : DoorsAsked → List (List ℕ)
door_words asked = operator_words asked.operator ++ asked.doors

-- who may greet at a door: the one name that it is bound to, if it is; else everyone, but not the
-- operator where there is a socket for the operator
abbrev pub rule_for : Option (List ℕ) → Option (List ℕ × ℕ) → DoorRule
rule_for (Some name) operators = rule.Only name
rule_for None None = rule.Any
rule_for None (Some path) = rule.AnyButOperator

-- a door of this word is opened at this address, and this is the rule of who may greet there
pub record OpensAt (operators : Option (List ℕ × ℕ)) (word : List ℕ) (at : Address)
    (who : DoorRule) : Type 0 where
  pub bound : Option (List ℕ)
  pub opens : OpensAs word at bound
  pub guards : who ≡ rule_for bound operators

-- the number of the word that asked for a door, by its place: the path of the operator's socket, or
-- one of the others, of which the first has this number
abbrev pub number_of : Option (List ℕ × ℕ) → ℕ → ℕ → ℕ
number_of None first place = first + place
number_of (Some path) first zero = path.1
number_of (Some path) first (suc rest) = first + rest

-- doors were opened at these addresses, by these rules of who may greet at each: they are those
-- that were asked for, the operator's first
pub record AreOpenedAt (asked : DoorsAsked) (addresses : List Address) (rules : List DoorRule) :
    Type 0 where
  pub many_addresses : length addresses ≡ length (door_words asked)
  pub many_rules : length rules ≡ length (door_words asked)
  pub each : (place : ℕ) → place < length (door_words asked)
      → OpensAt asked.operator (get_or (door_words asked) place [])
      (slice_index_or addresses place (address.Port 0)) (slice_index_or rules place rule.Any)
