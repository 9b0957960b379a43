-- The bytes of a packet that is written (document 01, "Writer"): header, secondary header, body, filler and sum.
use Rattle.std.specs.Prelude.{List, [], ◌∷◌, ◌++◌, ℕ, length, replicate, eqb}
use Rattle.units.specs.Units.{bytes_of}
use Rattle.frame.specs.Sums.{header_sum, secondary_sum, data_sum}
use Rattle.units.specs.Choice.{pick}
use Rattle.frame.specs.Header.{sync, secondary_bit, sum_code, sum_length, filler_for}
use Rattle.frame.specs.Contents.{Contents, contents_length}
use Rattle.frame.specs.declared.Fields.{Fields}

-- ---- the primary header: eleven words and their sum

unfoldable pub head_words : Fields → ℕ → ℕ → List ℕ
head_words f p d =
    sync
    ++ bytes_of 2 f.channel
    ++ bytes_of 4 p
    ++ bytes_of 4 d
    ++ (f.version ∷ f.sequence ∷ f.flags ∷ f.kind ∷ [])
    ++ bytes_of 6 f.rtc

unfoldable pub head_bytes : Fields → ℕ → ℕ → List ℕ
head_bytes f p d = head_words f p d ++ bytes_of 2 (header_sum (head_words f p d))

-- ---- the secondary header, where bit 7 is set: time, 2 zero bytes, and the sum of the five words

unfoldable pub secondary_words : ℕ → List ℕ
secondary_words time = bytes_of 8 time ++ bytes_of 2 0

unfoldable pub secondary_bytes : ℕ → ℕ → List ℕ
secondary_bytes f time = pick (eqb (secondary_bit f) 1) (secondary_words time ++ bytes_of 2 (secondary_sum (secondary_words time))) []

-- ---- body, filler and data sum

unfoldable pub body_and_filler_bytes : ℕ → List ℕ → List ℕ
body_and_filler_bytes f body = body ++ replicate (filler_for f (length body)) 0

unfoldable pub data_bytes : ℕ → List ℕ → List ℕ
data_bytes f body = body_and_filler_bytes f body ++ bytes_of (sum_length f) (data_sum (sum_code f) (body_and_filler_bytes f body))

-- ---- the packet

unfoldable pub packet_bytes : Contents → List ℕ
packet_bytes c =
    head_bytes c.fields (contents_length c) (length c.body)
    ++ secondary_bytes c.fields.flags c.fields.time
    ++ data_bytes c.fields.flags c.body
