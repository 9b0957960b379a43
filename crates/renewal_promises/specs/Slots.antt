-- What §13 of document 02 speaks of, in its words: no definition of the crate `renewal` is cited.
use Rattle.std.specs.Prelude.{◌≡◌, List, [], ◌≢◌, ℕ, ◌*◌, ◌≤◌, ◌<◌, get_or}
use Rattle.units.specs.Units.{part}
use Rattle.terms.specs.Refusals.{no_refusal}
use Rattle.packet.specs.Read.{read_packet, packet_told}
use Rattle.packet.specs.declared.Packet.{Packet}
use Rattle.promises.specs.Endings.{read_told}

-- a table is a list of 64 rows of words
abbrev pub Rows : Type 0
Rows = List (List ℕ)

abbrev pub row : Rows → ℕ → List ℕ
row t k = get_or t k []

abbrev pub word : Rows → ℕ → ℕ → ℕ
word t k i = get_or (row t k) i 0

-- a slot whose entry lives, and a free one
abbrev pub LiveAt : Rows → ℕ → Type 0
LiveAt t k = (k < 64) × (word t k 0 ≢ 0)

abbrev pub FreeAt : Rows → ℕ → Type 0
FreeAt t k = (k < 64) × (word t k 0 ≡ 0)

-- "An entry's name is its recording number and place": the name is held in that slot
abbrev pub HeldAt : Rows → ℕ → ℕ → ℕ → Type 0
HeldAt t recording place k = (k < 64) × (word t k 0 ≢ 0) × (word t k 1 ≡ recording) × (word t k 2 ≡ place)

-- the lowest such slot
abbrev pub First : (ℕ → Type 0) → ℕ → Type 0
First Such k = Such k × ((j : ℕ) → j < k → ¬ Such j)

-- the packet at the window's start is accepted, the window starting at this place of the recording
abbrev pub Accepts : List ℕ → ℕ → ℕ → ℕ → Packet → Type 0
Accepts buf start end place p = packet_told (read_packet buf start end place) ≡ read_told no_refusal p

-- and equals the bytes that the entry in slot k holds: P of them, the first of its slot of 1,024 bytes
pub record Equals (t : Rows) (store : List ℕ) (k : ℕ) (buf : List ℕ) (start end place : ℕ) : Type 0 where
  pub packet : Packet
  pub accepted : Accepts buf start end place packet
  pub short : packet.length ≤ 1024
  pub long : word t k 3 ≡ packet.length
  pub bytes : part store (k * 1024) packet.length ≡ part buf start packet.length
