-- Building step by step: from a fresh state, each step takes the state handed back by the one before, the buffer untouched between.
use Rattle.std.specs.Prelude.{ℕ, ◌^◌, ◌<◌, List, [], ◌∷◌, ◌++◌, length, take}
use Rattle.units.specs.Units.{bytes_of}
use Rattle.body.specs.Blocks.{Entry, block_bytes}
use Rattle.builder.specs.Build.{form_of, fresh_draft, open_step, open_word, add_step, entry_of, close_step, counter_bytes, buf_after, step_told, entries_after}
use Rattle.builder.specs.declared.Draft.{Draft}

-- the buffer, the state and the blocks added since the last opening, after any number of steps, refused ones too
pub data Built : List ℕ → Draft → List Entry → Type 0 where
  fresh : (buf : List ℕ) → Built buf fresh_draft []
  opened : {buf : List ℕ} {d : Draft} {es : List Entry} (kind rule : ℕ) → Built buf d es
      → Built (buf_after (open_step d kind rule (length buf)) buf 0 (bytes_of 4 (open_word kind rule)))
      (step_told (open_step d kind rule (length buf))).draft
      (entries_after (open_step d kind rule (length buf)) [] es)
  added : {buf : List ℕ} {d : Draft} {es : List Entry} (time upper : ℕ) (bytes : List ℕ) → time < 2 ^ 64 → upper < 2 ^ 16 → Built buf d es
      → Built (buf_after (add_step d (length buf) time (length bytes)) buf d.used (block_bytes (form_of d) (entry_of time upper bytes)))
      (step_told (add_step d (length buf) time (length bytes))).draft
      (entries_after (add_step d (length buf) time (length bytes)) (es ++ (entry_of time upper bytes ∷ [])) es)
  closed : {buf : List ℕ} {d : Draft} {es : List Entry} → Built buf d es
      → Built (buf_after (close_step d (length buf)) buf 0 (counter_bytes d)) (step_told (close_step d (length buf))).draft es

-- the body that closing leaves: the used bytes of the buffer
abbrev pub closed_body : List ℕ → Draft → List ℕ
closed_body buf d = take d.used (buf_after (close_step d (length buf)) buf 0 (counter_bytes d))
