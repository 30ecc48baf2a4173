-- A text of a cabinet that is read as a source.
use Rattle.std.specs.Prelude.{◌≡◌, ℕ, ◌+◌, List, take, drop, Bool, true, false, Option, None, Some}
use Rattle.hose_io.specs.Frame.{Stays}
use Rattle.hose_io.specs.Stream.{Stream}
use Rattle.hose_words.specs.Limits.{input_limit}
use Rattle.hose_disk.specs.Cabinet.{object_of}
use Rattle.hose_disk.specs.declared.cabinet.Cabinet.{Ghosts}

-- as much of a text as a reader of lines may take, from a place on; none where it is not told
abbrev pub stream_at : ℕ → Bool → Option (List ℕ) → Option Stream
stream_at from false found = None
stream_at from true None = None
stream_at from true (Some bytes) = Some (record {
  taken = take from (take (input_limit + 1) bytes);
  left = drop from (take (input_limit + 1) bytes);
})

module _ {C E : Type 0} (cabinet : Ghosts C E) where
  -- ---- what is read

  -- the text of a name from a place on, where the cabinet tells
  abbrev pub text_stream : C → List ℕ → ℕ → Option Stream
  text_stream place name from = stream_at from (cabinet.frame place).tells (cabinet.text place name)

  -- the whole text of a name
  abbrev pub whole_text : C → List ℕ → Option Stream
  whole_text place name = text_stream place name 0

  -- Texts were asked for, and nothing else was done to the cabinet.
  pub record OnlyTextsRead (was now : C) : Type 0 where
    pub texts : cabinet.text now ≡ cabinet.text was
    pub disks : cabinet.held now ≡ cabinet.held was
    pub stays : Stays (object_of (cabinet.frame was)) (object_of (cabinet.frame now))
    pub returned : (cabinet.frame now).returned ≡ (cabinet.frame was).returned
    pub out : (cabinet.frame now).out ≡ (cabinet.frame was).out
    pub tells : (cabinet.frame now).tells ≡ (cabinet.frame was).tells
