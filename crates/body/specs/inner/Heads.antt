-- What the heads of blocks say from a place on. No rule of its own: the law `counted` (proofs/Heads.antt) says that they are a body's messages where the body has any.
use Rattle.std.specs.Prelude.{List, [], ◌∷◌, Bool, true, ◌&&◌, ℕ, zero, suc, ◌+◌, length, ltb, leb}
use Rattle.body.specs.declared.Form.{Form}
use Rattle.body.specs.declared.Message.{Message}
use Rattle.body.specs.Walk.{stamp_length, head_at, block_end}

-- the messages of the next n blocks
unfoldable pub heads : Form → List ℕ → ℕ → ℕ → List Message
heads form bs at zero = []
heads form bs at (suc n) = head_at form bs at ∷ heads form bs (block_end (head_at form bs at)) n

-- whether these blocks lie in the body, and none is empty
unfoldable pub all_whole : Form → List ℕ → ℕ → ℕ → Bool
all_whole form bs at zero = true
all_whole form bs at (suc n) =
    leb (at + stamp_length form + 4) (length bs)
    && (ltb 0 (head_at form bs at).length
    && (leb (block_end (head_at form bs at)) (length bs)
    && all_whole form bs (block_end (head_at form bs at)) n))
