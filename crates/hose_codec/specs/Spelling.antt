-- The spelling of an entry: a byte for its kind, and its fields in order. Nothing follows the last
-- of them.
use Rattle.std.specs.Prelude.{◌≡◌, ℕ, ◌<◌, ◌≤◌, List, ◌∷◌, ◌++◌}
use Rattle.hose_graph.specs.Hose.{IsHose}
use Rattle.hose_graph.specs.Name.{IsName}
use Rattle.hose_graph.specs.declared.entry.Entry.{Entry}
use Rattle.hose_graph.specs.declared.entry.Entry.TheVariants.{Admit, Release, Down, Up}
use Rattle.hose_graph.specs.Limits.{most_epoch, most_links}
use Rattle.hose_codec.specs.Fields.{name_field, ends_field, amounts_field, id_field, link_field, AreFormatAmounts}
use Rattle.hose_codec.specs.Limits.{admit_kind, release_kind, down_kind, up_kind}

-- the bytes of an entry
abbrev pub spelling : Entry → List ℕ
spelling (Admit customer hose amounts) =
    admit_kind ∷ (name_field customer ++ (ends_field hose ++ amounts_field amounts))
spelling (Release customer id) = release_kind ∷ (name_field customer ++ id_field id)
spelling (Down link) = down_kind ∷ link_field link
spelling (Up link) = up_kind ∷ link_field link

-- an entry that the format has
abbrev pub IsEntry : Entry → Type 0
IsEntry (Admit customer hose amounts) = IsName customer × IsHose hose × AreFormatAmounts amounts
IsEntry (Release customer id) = IsName customer × (id ≤ most_epoch)
IsEntry (Down link) = link < most_links
IsEntry (Up link) = link < most_links

-- These bytes are the spelling of this entry, which is one that the format has.
pub record IsSpelling (entry : Entry) (bytes : List ℕ) : Type 0 where
  pub is_entry : IsEntry entry
  pub spelled : bytes ≡ spelling entry
