-- Adding and renewing (document 02 §13). The packets' bytes stand in a lent store of slots of 1,024 bytes. A name is a recording number and a place,
-- and the place is the base of the window that is read.
use Rattle.std.specs.Prelude.{List, Bool, not, ◌&&◌, ℕ, ◌*◌, length, take, set, leb, ltb, Result, Ok, Err}
use Rattle.units.specs.Units.{part, splice, same}
use Rattle.units.specs.Choice.{pick}
use Rattle.terms.specs.Refusals.{refused, needing, no_refusal, recorded}
use Rattle.terms.specs.declared.Refusal.{Refusal}
use Rattle.frame.specs.Header.{packet_length}
use Rattle.packet.specs.Read.{inside, window, packet_in, read_packet}
use Rattle.renewal.specs.Table.{Entry, length_of, entry_of, no_entry, entry, slot_of, home_of}
use Rattle.packet.specs.declared.Packet.{Packet}
use Rattle.renewal.specs.declared.Renewed.{Renewed}
use Rattle.renewal.specs.declared.Renewed.TheVariants.{Lives, Dropped}

-- ---- refusals: at the window's start, whose place in the recording is the name's

abbrev pub barred : ℕ → ℕ → ℕ → Refusal
barred number start place = recorded place start (refused number start)

-- 16 for a store under 65,536 bytes, which is the room needed
abbrev pub store_small : ℕ → ℕ → Refusal
store_small start place = recorded place start (needing 65536 (refused 16 start))

-- ---- adding

-- a packet of so many bytes: 21 over 1,024 bytes, 19 where no slot is left for the name; or its slot
unfoldable pub put_answer : List Entry → ℕ → ℕ → ℕ → ℕ → Result ℕ Refusal
put_answer t recording place start n =
    pick (ltb 1024 n) (Err (barred 21 start place))
    (pick (leb 64 (home_of recording place t)) (Err (barred 19 start place)) (Ok (home_of recording place t)))

-- the reader's refusals, then those
unfoldable pub add_read : Result Packet Refusal → List Entry → ℕ → ℕ → ℕ → Result ℕ Refusal
add_read (Err r) t recording place start = Err r
add_read (Ok p) t recording place start = put_answer t recording place start p.length

-- 16 first
unfoldable pub add_entry : List Entry → ℕ → ℕ → ℕ → List ℕ → ℕ → ℕ → Result ℕ Refusal
add_entry t room recording place buf start end =
    pick (ltb room 65536) (Err (store_small start place)) (add_read (read_packet buf start end place) t recording place start)

-- the packet at the start of a window's bytes: its entry, and its own bytes
abbrev pub entry_in : ℕ → ℕ → List ℕ → ℕ → ℕ → Entry
entry_in recording place buf start end = entry_of recording (packet_in (window buf start end) start place)

abbrev pub own_bytes : List ℕ → List ℕ
own_bytes w = take (packet_length w) w

-- the table after it, e being that entry, and the store, which is written with those bytes only; a refusal leaves both as they were
unfoldable pub table_added : Result ℕ Refusal → List Entry → Entry → List Entry
table_added (Ok k) t e = set t k e
table_added (Err r) t e = t

unfoldable pub store_added : Result ℕ Refusal → List ℕ → List ℕ → List ℕ
store_added (Ok k) store bytes = splice store (k * 1024) bytes
store_added (Err r) store bytes = store

-- ---- renewing, which writes nothing into the store

-- an entry of n bytes in slot k, an n past 1,024 being forged, holds just these bytes
unfoldable pub holds : List ℕ → ℕ → ℕ → List ℕ → Bool
holds store k n bytes = leb n 1024 && same (part store (k * 1024) n) bytes

-- it lives on exactly when the packet at the window's start is accepted and equals the held bytes; otherwise it is dropped, and the reader's refusal,
-- if there is one, is named beside it
unfoldable pub judged : Result Packet Refusal → List ℕ → ℕ → ℕ → List ℕ → Result Renewed Refusal
judged (Err r) store k n w = Ok (Dropped r)
judged (Ok p) store k n w = pick (holds store k n (own_bytes w)) (Ok Lives) (Ok (Dropped no_refusal))

-- 16 first, then 20 no such entry, then 1
unfoldable pub renew_entry : List Entry → List ℕ → ℕ → ℕ → List ℕ → ℕ → ℕ → Result Renewed Refusal
renew_entry t store recording place buf start end =
    pick (ltb (length store) 65536) (Err (store_small start place))
    (pick (leb 64 (slot_of recording place t)) (Err (barred 20 start place))
    (pick (not (inside buf start end place)) (Err (barred 1 start place))
    (judged (read_packet buf start end place) store (slot_of recording place t) (length_of (entry t (slot_of recording place t))) (window buf start end))))

-- the table after it, k being the name's slot: a refusal leaves it as it was
unfoldable pub table_renewed : Result Renewed Refusal → List Entry → ℕ → List Entry
table_renewed (Ok (Dropped r)) t k = set t k no_entry
table_renewed (Ok Lives) t k = t
table_renewed (Err r) t k = t

-- ---- the number and values of an answer

pub record AddTold : Type 0 where
  pub refusal : Refusal
  pub slot : ℕ

abbrev pub add_told : Result ℕ Refusal → AddTold
add_told (Ok k) = record { refusal = no_refusal; slot = k }
add_told (Err r) = record { refusal = r; slot = 0 }

-- an entry that is dropped is no refusal of the call: the reader's stands beside it, as the cause
pub record RenewTold : Type 0 where
  pub refusal : Refusal
  pub lives : ℕ
  pub cause : Refusal

abbrev pub renew_told : Result Renewed Refusal → RenewTold
renew_told (Ok Lives) = record { refusal = no_refusal; lives = 1; cause = no_refusal }
renew_told (Ok (Dropped r)) = record { refusal = no_refusal; lives = 0; cause = r }
renew_told (Err r) = record { refusal = r; lives = 0; cause = no_refusal }
