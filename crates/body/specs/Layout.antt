-- The layout of an opened body in document 01's words ("Opened bodies"): the channel word, and how many blocks it asks for. No test of the
-- reader's is cited: that the reader's tests say the same is proved in proofs/ChannelWords.antt.
use Rattle.std.specs.Prelude.{◌≡◌, ◌⊎◌, ℕ, ◌/◌, ◌%◌, ◌^◌, ◌≤◌, ◌<◌}
use Rattle.body.specs.declared.Form.{Form}
use Rattle.body.specs.declared.Form.TheVariants.{Stamped, Plain}

-- bodies of type 0x30 (Message) and 0x50 (UART) are opened; every other defined type is carried
abbrev pub OpenedType : ℕ → Type 0
OpenedType kind = (kind ≡ 0x30) ⊎ (kind ≡ 0x50)

-- how many blocks are to follow: so many, or one or more, to the end of the body
pub data Asked : Type 0 where
  exactly : ℕ → Asked
  to_the_end : Asked

-- a right channel word, by the type: the form of the blocks, and how many it asks for
pub data ChannelWord (kind word : ℕ) : Form → Asked → Type 0 where
  -- 0x30: bits 31-18 are zero, always a time stamp. Type (bits 17-16) 00: the counter (bits 15-0) is the number of blocks, at least 1
  many : kind ≡ 0x30 → word < 2 ^ 18 → word / 2 ^ 16 ≡ 0 → 1 ≤ word % 2 ^ 16 → ChannelWord kind word Stamped (exactly (word % 2 ^ 16))
  -- type 01: one block, counter 1
  single : kind ≡ 0x30 → word < 2 ^ 18 → word / 2 ^ 16 ≡ 1 → word % 2 ^ 16 ≡ 1 → ChannelWord kind word Stamped (exactly 1)
  -- types 10 and 11: one block, counter at least 2
  segment : kind ≡ 0x30 → word < 2 ^ 18 → 2 ≤ word / 2 ^ 16 → 2 ≤ word % 2 ^ 16 → ChannelWord kind word Stamped (exactly 1)
  -- 0x50: bits 30-0 are zero; a time stamp only if bit 31 is set; one or more blocks, to the end of the body
  timed : kind ≡ 0x50 → word % 2 ^ 31 ≡ 0 → 2 ^ 31 ≤ word → ChannelWord kind word Stamped to_the_end
  untimed : kind ≡ 0x50 → word % 2 ^ 31 ≡ 0 → word < 2 ^ 31 → ChannelWord kind word Plain to_the_end
