-- What serde_json reads from bytes, and what stands in it under a name.
use Rattle.std.specs.Prelude.{◌≡◌, ℕ, List, [], ◌∷◌, Option, Some, option_map, option_and_then}
use Rattle.std.specs.Str.{IsUtf8}
use Rattle.serde_json.specs.Data.{Data, object, Items, no_items, item, Members}
use Rattle.serde_json.specs.Find.{as_array, as_number, as_str, as_u64, get}
use Rattle.serde_json.specs.Read.{read}

-- serde_json reads this value from the bytes, and it is an object
pub record ReadsObject (bytes : List ℕ) (value : Data) : Type 0 where
  pub members : Members
  pub is_object : value ≡ object members
  pub utf8 : IsUtf8 bytes
  pub is_read : read bytes ≡ Some value

-- the elements of an array
abbrev pub elements : Items → List Data
elements no_items = []
elements (item value more) = value ∷ elements more

-- the elements of the array under a name of a value
abbrev pub list_at : List ℕ → Data → Option (List Data)
list_at name value = option_map elements (option_and_then as_array (get name value))

-- the text under a name of a value
abbrev pub text_at : List ℕ → Data → Option (List ℕ)
text_at name value = option_and_then as_str (get name value)

-- The number under a name of a value: digits alone, below 2 ^ 64. One with a sign, a point or an
-- exponent is none.
abbrev pub number_at : List ℕ → Data → Option ℕ
number_at name value = option_and_then as_u64 (option_and_then as_number (get name value))
