-- What the builder's steps answer (document 01, "Builder", and 1, 15, 16 and 17 of its table), in its words and its order, and what each leaves in
-- its buffer; proved in proofs/Building.antt (building). No test of the builder's is cited.
use Rattle.std.specs.Prelude.{◌≡◌, List, [], ◌∷◌, ◌++◌, ◌⊎◌, ◌≢◌, ℕ, ◌+◌, ◌/◌, ◌%◌, ◌^◌, ◌≤◌, ◌<◌, ltb, length, take, drop, Result}
use Rattle.units.specs.Units.{bytes_of}
use Rattle.units.specs.Choice.{pick}
use Rattle.builder.specs.Build.{open_step, add_step, close_step, StepTold, step_told}
use Rattle.builder.specs.declared.Draft.{Draft}
use Rattle.promises.specs.Numbers.{bit6, format, InFormat}
use Rattle.promises.specs.Words.{pad}
use Rattle.promises.specs.Calls.{Open, Add, Close}
use Rattle.terms.specs.declared.Refusal.{Refusal}

-- what opening takes: 0x30 with a time rule, 0x50 with one or none. Rules: 1 the counter, 2 Chapter 4, 3 IEEE 1588, 4 extended counter; 0 none, 5 the
-- reserved time format
abbrev pub Opens : ℕ → ℕ → Type 0
Opens kind rule = ((kind ≡ 0x30) × (1 ≤ rule) × (rule ≤ 4)) ⊎ ((kind ≡ 0x50) × (rule ≤ 4))

-- 1 does not apply to a state, with a buffer of len bytes
pub record SoundDraft (d : Draft) (len : ℕ) : Type 0 where
  -- the used count is within its buffer, and at least 4
  pub within : d.used ≤ len
  pub word : 4 ≤ d.used
  -- a type and a time rule that opening takes
  pub opens : Opens d.kind d.rule
  -- at most 65,535 blocks in 0x30
  pub few : d.kind ≡ 0x30 → d.blocks ≤ 65535

-- 17 does not apply to a block of n bytes
pub record Takes (d : Draft) (n : ℕ) : Type 0 where
  -- n is 1 to 65,535
  pub some : 1 ≤ n
  pub most : n ≤ 65535
  -- no 65,536th block in 0x30
  pub few : d.kind ≡ 0x30 → d.blocks < 65535

-- 15 does not apply to a time
pub record InForm (rule time : ℕ) : Type 0 where
  -- the counter: a value below 2^48
  pub counter : rule ≡ 1 → time < 2 ^ 48
  -- the secondary time rule of a format
  pub absolute : (code : ℕ) → rule ≡ 2 + code → InFormat code time

-- an answer: its number, place 0, the room needed, its reason, no place in the recording, and the state that is handed back. Written out: no
-- definition of a refusal is cited
abbrev pub says : ℕ → ℕ → ℕ → Draft → StepTold
says number room reason d = record { refusal = record { number = number; place = 0; room = room; reason = reason; recording_place = 0 }; draft = d }

-- the used count with a block of n bytes more: a time stamp of 8 bytes where there is a rule, an ID word of 4, then n bytes, then one pad
-- byte if n is odd
abbrev pub grown_to : Draft → ℕ → ℕ
grown_to d n = d.used + (pick (ltb 0 d.rule) 8 0 + 4 + n + n % 2)

-- no refusal applies to adding a block of n bytes in a buffer of len bytes
pub record Fitting (d : Draft) (len time n : ℕ) : Type 0 where
  pub sound : SoundDraft d len
  pub takes : Takes d n
  pub in_form : InForm d.rule time
  pub stored : d.rule ≡ 0 → time ≡ 0
  pub room : grown_to d n ≤ len

-- the block: its time where there is a rule, the ID word with n as its lower half, low byte first, the n bytes, and their pad
abbrev pub block_of : Draft → ℕ → ℕ → List ℕ → List ℕ
block_of d time upper bytes =
    pick (ltb 0 d.rule) (bytes_of 8 time) [] ++ (bytes_of 2 (length bytes) ++ (bytes_of 2 upper ++ (bytes ++ pad (length bytes))))

-- the flags under which message times are judged by a time rule: 1, bit 6 clear; 2 to 4, bit 6 set and that format. Any, where no time is stored
pub record FlagsFor (rule flags : ℕ) : Type 0 where
  pub counter : rule ≡ 1 → bit6 flags ≡ 0
  pub absolute : (code : ℕ) → rule ≡ 2 + code → (bit6 flags ≡ 1) × (format flags ≡ code)

pub record Building : Type 0 where
  -- Opening: "17 for another type, a reserved time format or no rule in 0x30"
  pub open_17 : (d : Draft) (kind rule len : ℕ) → ¬ Opens kind rule → step_told (open_step d kind rule len) ≡ says 17 0 0 d
  -- "then 16": the channel word needs 4 bytes
  pub open_16 : (d : Draft) (kind rule len : ℕ) → Opens kind rule → len < 4 → step_told (open_step d kind rule len) ≡ says 16 4 0 d
  -- none otherwise: the channel word is used, with no block, whatever the state given
  pub opens : (d : Draft) (kind rule len : ℕ) → Opens kind rule → 4 ≤ len
      → step_told (open_step d kind rule len) ≡ says 0 0 0 (record { used = 4; blocks = 0; kind = kind; rule = rule })
  -- Adding: "1"
  pub add_1 : (d : Draft) (len time n : ℕ) → ¬ SoundDraft d len → step_told (add_step d len time n) ≡ says 1 0 0 d
  -- "then 17 for n outside 1 to 65,535 or a 65,536th block in 0x30"
  pub add_17 : (d : Draft) (len time n : ℕ) → SoundDraft d len → ¬ Takes d n → step_told (add_step d len time n) ≡ says 17 0 0 d
  -- "then 15 for a time out of form"; 02 §2: "3 time"
  pub add_15 : (d : Draft) (len time n : ℕ) → SoundDraft d len → Takes d n → 0 < d.rule → ¬ InForm d.rule time
      → step_told (add_step d len time n) ≡ says 15 0 3 d
  -- "(and 17 for a time that isn't zero where none is stored)"
  pub add_stray : (d : Draft) (len time n : ℕ) → SoundDraft d len → Takes d n → d.rule ≡ 0 → time ≢ 0
      → step_told (add_step d len time n) ≡ says 17 0 0 d
  -- "then 16", with the whole body as room
  pub add_16 : (d : Draft) (len time n : ℕ) → SoundDraft d len → Takes d n → InForm d.rule time → (d.rule ≡ 0 → time ≡ 0)
      → len < grown_to d n → step_told (add_step d len time n) ≡ says 16 (grown_to d n) 0 d
  -- none otherwise: one block more, of this size; the count goes up modulo 2^64
  pub adds : (d : Draft) (len time n : ℕ) → Fitting d len time n
      → step_told (add_step d len time n) ≡ says 0 0 0 (record { used = grown_to d n; blocks = (d.blocks + 1) % 2 ^ 64; kind = d.kind; rule = d.rule })
  -- Closing: "1"
  pub close_1 : (d : Draft) (len : ℕ) → ¬ SoundDraft d len → step_told (close_step d len) ≡ says 1 0 0 d
  -- "then 15 where the used count is 4 (no block)"; 02 §2: "7 body ends where a block must begin"
  pub close_15 : (d : Draft) (len : ℕ) → SoundDraft d len → d.used ≡ 4 → step_told (close_step d len) ≡ says 15 0 7 d
  -- none otherwise: the state as it was
  pub closes : (d : Draft) (len : ℕ) → SoundDraft d len → d.used ≢ 4 → step_told (close_step d len) ≡ says 0 0 0 d
  -- What each step leaves in its buffer, by what its call promises (specs/Calls.antt); a refused one leaves it as it was (Demand1.buffer_untouched).

  -- opening: "writing the channel word, counter 0", bit 31 set in 0x50 where times are stored; behind it all as it was
  pub open_bytes : (d : Draft) (buf₀ : List ℕ) (kind rule : ℕ) (r : Result Draft (Refusal × Draft)) (buf₁ : List ℕ) → Open d buf₀ kind rule r buf₁ → Opens kind rule → 4 ≤ length buf₀
      → ((kind ≡ 0x50) × (1 ≤ rule) → buf₁ ≡ 0x00 ∷ 0x00 ∷ 0x00 ∷ 0x80 ∷ drop 4 buf₀)
      × ((kind ≡ 0x30) ⊎ (rule ≡ 0) → buf₁ ≡ 0x00 ∷ 0x00 ∷ 0x00 ∷ 0x00 ∷ drop 4 buf₀)
  -- adding: the block behind the used bytes, and all else as it was
  pub add_bytes : (d : Draft) (buf₀ : List ℕ) (time upper : ℕ) (bytes : List ℕ) (r : Result Draft (Refusal × Draft)) (buf₁ : List ℕ) → Add d buf₀ time upper bytes r buf₁
      → Fitting d (length buf₀) time (length bytes)
      → buf₁ ≡ take d.used buf₀ ++ (block_of d time upper bytes ++ drop (grown_to d (length bytes)) buf₀)
  -- closing: "writing the counter in 0x30, nothing in 0x50": the number of blocks in bytes 0 and 1, low byte first, and all else as it was
  pub close_bytes : (d : Draft) (buf₀ : List ℕ) (r : Result Draft (Refusal × Draft)) (buf₁ : List ℕ) → Close d buf₀ r buf₁ → SoundDraft d (length buf₀) → d.used ≢ 4
      → (d.kind ≡ 0x30 → buf₁ ≡ d.blocks % 256 ∷ d.blocks / 256 ∷ drop 2 buf₀)
      × (d.kind ≡ 0x50 → buf₁ ≡ buf₀)
