-- What adding says and leaves behind, path by path.
use Rattle.std.specs.Prelude.{Result, Ok, Err}
use mathlib.Core.Path.{◌≡◌, refl, ap, ◌∙◌}
use mathlib.Core.List.{List}
use Prim.Native.Nat.{ℕ, ◌*◌, ◌≤◌, ◌<◌}
use lib.ListN.{take, set}
use borrow.Author.Tests.{lt-ltb, le-ltb, le-leb, lt-leb}
use Rattle.units.specs.Units.{splice}
use Rattle.terms.specs.declared.Refusal.{Refusal}
use Rattle.frame.specs.Header.{packet_length}
use Rattle.packet.specs.Read.{packet_in, read_packet}
use Rattle.renewal.specs.Table.{Entry, entry_of, home_of}
use Rattle.renewal.specs.Renewal.{barred, store_small, put_answer, add_read, add_entry, own_bytes, table_added, store_added}
use Rattle.renewal.proofs.Passing.{Taken}

module _ (t : List Entry) (recording place start n : ℕ) where
  pub put_long : (r : Refusal) → 1024 < n → r ≡ barred 21 start place → Err r ≡ put_answer t recording place start n
  unfolding put_answer
  put_long r h is = rw (lt-ltb 1024 n h, is)

  module _ (short : n ≤ 1024) where
    pub put_full : (r : Refusal) → 64 ≤ home_of recording place t → r ≡ barred 19 start place → Err r ≡ put_answer t recording place start n
    unfolding put_answer
    put_full r h is = rw (le-ltb 1024 n short, le-leb 64 (home_of recording place t) h, is)

    pub put_goes : (k : ℕ) → (k ≡ home_of recording place t) × (k < 64) → Ok k ≡ put_answer t recording place start n
    unfolding put_answer
    put_goes k (is, h) = rw (le-ltb 1024 n short, ← is) (rw (lt-leb 64 k h))

-- ---- what a refusal leaves, and what an entry does

pub table_left : (r : Refusal) (t : List Entry) (e : Entry) → t ≡ table_added (Err r) t e
unfolding table_added
table_left r t e = refl

pub store_left : (r : Refusal) (store bytes : List ℕ) → store ≡ store_added (Err r) store bytes
unfolding store_added
store_left r store bytes = refl

pub table_set : (k : ℕ) (t : List Entry) (e : Entry) → set t k e ≡ table_added (Ok k) t e
unfolding table_added
table_set k t e = refl

pub store_set : (k : ℕ) (store bytes : List ℕ) → splice store (k * 1024) bytes ≡ store_added (Ok k) store bytes
unfolding store_added
store_set k store bytes = refl

-- where a packet's bytes stand in their buffer has no say in its entry
pub table_anywhere : (x : Result ℕ Refusal) (t u : List Entry) (recording place at : ℕ) (w : List ℕ)
    → u ≡ table_added x t (entry_of recording (packet_in w 0 place)) → u ≡ table_added x t (entry_of recording (packet_in w at place))
unfolding packet_in
table_anywhere x t u recording place at w is = is

pub store_own : (x : Result ℕ Refusal) (store after w : List ℕ) (n : ℕ) → n ≡ packet_length w → after ≡ store_added x store (take n w) → after ≡ store_added x store (own_bytes w)
store_own x store after w n long is = rw long at is

-- ---- the call

module _ (t : List Entry) (room recording place : ℕ) (buf : List ℕ) (s e : ℕ) where
  pub add_small : (r : Refusal) → room < 65536 → r ≡ store_small s place → Err r ≡ add_entry t room recording place buf s e
  unfolding add_entry
  add_small r h is = rw (lt-ltb room 65536 h, is)

  module _ (enough : 65536 ≤ room) where
    pub add_refused : (r : Refusal) → read_packet buf s e place ≡ Err r → Err r ≡ add_entry t room recording place buf s e
    unfolding add_entry add_read
    add_refused r read = rw (le-ltb room 65536 enough, read)

    pub add_taken : (n : ℕ) (x : Result ℕ Refusal) → Taken buf s e place n → x ≡ put_answer t recording place s n → x ≡ add_entry t room recording place buf s e
    unfolding add_entry add_read
    add_taken n x p is = rw (le-ltb room 65536 enough, p.read) (is ∙ ap (put_answer t recording place s) p.long)
