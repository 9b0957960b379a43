-- Laws of blocks and their bytes.
use mathlib.Core.Path.{◌≡◌}
use mathlib.Core.List.{List, [], ◌∷◌, ◌++◌, append_assoc, append-nil}
use Prim.Native.Nat.{ℕ, ◌+◌, ◌^◌, ◌<◌}
use native.Mathlib.Omega.{arith}
use lib.ListN.{length, length-append, length-replicate}
use Rattle.units.proofs.Numbers.{length_bytes_of}
use Rattle.body.specs.Walk.{stamp_length, length_by, block_size, head_at}
use Rattle.units.specs.Units.{field}
use Rattle.body.specs.declared.Form.{Form}
use Rattle.body.specs.declared.Message.{Message}
use Rattle.body.specs.Blocks.{Entry, block_bytes, Fits, AllFit, blocks_bytes}
use Rattle.terms.specs.declared.TimeRule.{TimeRule}

-- n is below 2^16 in every form
by_short : (form : Form) (id : ℕ) → length_by form id < 2 ^ 16
unfolding length_by
by_short form id = omega arith

pub says_short : (form : Form) (bs : List ℕ) (at : ℕ) (m : Message) → m ≡ head_at form bs at → m.length < 2 ^ 16
unfolding head_at
says_short form bs at m is = rw is (by_short form (field bs (at + stamp_length form) 4))

pub length_block_bytes : (form : Form) (e : Entry)
    → length (block_bytes form e) ≡ block_size form (length e.bytes)
unfolding block_bytes
length_block_bytes form e = simp (length-append, length_bytes_of, length-replicate)

pub blocks_snoc : (form : Form) (es : List Entry) (e : Entry) → blocks_bytes form (es ++ (e ∷ [])) ≡ blocks_bytes form es ++ block_bytes form e
unfolding blocks_bytes
blocks_snoc form [] e = append-nil (block_bytes form e)
blocks_snoc form (x ∷ es) e = rw (blocks_snoc form es e, append_assoc)

pub fit_snoc : (form : Form) (rule : TimeRule) (es : List Entry) (e : Entry) → AllFit form rule es → Fits form rule e
    → AllFit form rule (es ++ (e ∷ []))
fit_snoc form rule [] e h f = (f, tt)
fit_snoc form rule (x ∷ es) e h f = (h.0, fit_snoc form rule es e h.1 f)
