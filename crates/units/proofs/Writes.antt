-- Laws of what is written: `splice`, runs of writes, and a loop that writes a byte a turn.
use Rattle.std.proofs.Common.{◌≡◌, ℕ, ◌+◌, ◌-◌, ◌*◌, ◌/◌, ◌%◌, ◌^◌, ◌<◌, ◌≤◌, List, [], ◌++◌, length, get_or, take, drop, set, replicate, sym, refl, ap, ◌∙◌, append_assoc, append-nil, add-zero, add-one, arith, length-append, length-drop, take-append-drop, length-take-le, drop-drop, take_at, drop-set-lt, drop_at}
use lib.ListN.{length-replicate, get_or-replicate, replicate-append-replicate}
use lib.Seq.{paste, paste-zero, paste-suc, length_paste_head, take-length, sets, sets-eq, set-append_left, take-set-lt}
use Rattle.units.specs.Units.{part, bytes_of, splice}
use Rattle.units.proofs.Numbers.{length_bytes_of, bytes_of_add, bytes_of_mod}
use Rattle.units.proofs.Parts.{part_front}

-- what is written, and what stands before and behind it
module _ (bs : List ℕ) (at : ℕ) (vs : List ℕ) (fits : at + length vs ≤ length bs) where
  front : length (take at bs) ≡ at
  front = length-take-le at bs (omega arith)

  head : length (take at bs ++ vs) ≡ at + length vs
  head = simp length-append (omega (arith, front))

  pub length_splice : length (splice bs at vs) ≡ length bs
  length_splice = simp (length-append, length-drop) (omega (arith, front))

  pub take_splice : take (at + length vs) (splice bs at vs) ≡ take at bs ++ vs
  take_splice = take_at (take at bs ++ vs) (drop (at + length vs) bs) (at + length vs) head

  pub drop_splice : drop (at + length vs) (splice bs at vs) ≡ drop (at + length vs) bs
  drop_splice = drop_at (take at bs ++ vs) (drop (at + length vs) bs) (at + length vs) head

  pub part_splice_same : part (splice bs at vs) at (length vs) ≡ vs
  part_splice_same =
      rw (append_assoc (take at bs) vs (drop (at + length vs) bs), drop_at (take at bs) (vs ++ drop (at + length vs) bs) at front)
      (take_at vs (drop (at + length vs) bs) (length vs) refl)

  pub part_splice_before : (b m : ℕ) → b + m ≤ at → part (splice bs at vs) b m ≡ part bs b m
  part_splice_before b m h =
      let k : b + m ≤ length (take at bs) = omega (arith, front) in
      rw append_assoc
      (part_front (take at bs) (vs ++ drop (at + length vs) bs) b m k
      ∙ sym (part_front (take at bs) (drop at bs) b m k)
      ∙ ap (λ (l : List ℕ). part l b m) (take-append-drop at bs))

  pub part_splice_behind : (b m : ℕ) → at + length vs ≤ b → part (splice bs at vs) b m ≡ part bs b m
  part_splice_behind b m h =
      let k : at + length vs + (b - (at + length vs)) ≡ b = omega arith in
      let behind : (l : List ℕ) → part (drop (at + length vs) l) (b - (at + length vs)) m ≡ part l b m
      = λ l. ap (take m) (drop-drop (b - (at + length vs)) (at + length vs) l ∙ ap (λ (n : ℕ). drop n l) k) in
      sym (behind (splice bs at vs)) ∙ ap (λ (l : List ℕ). part l (b - (at + length vs)) m) drop_splice ∙ behind bs

  -- a write right behind another is one write
  pub splice_splice : (next : ℕ) (us : List ℕ) → next ≡ at + length vs → next + length us ≤ length bs
      → splice (splice bs at vs) next us ≡ splice bs at (vs ++ us)
  splice_splice next us e more =
      let f : at + length vs + length us ≡ at + length (vs ++ us) = omega (arith, length-append vs us) in
      rw (e, take_splice, ← drop-drop (length us) (at + length vs) (splice bs at vs), drop_splice, drop-drop, f)
      (simp append_assoc)

pub splice_none : (bs : List ℕ) (at : ℕ) → splice bs at [] ≡ bs
splice_none bs at = rw (append-nil, add-zero) (take-append-drop at bs)

-- two calls that write one behind the other
pub chain : (b₀ b₁ b₂ : List ℕ) (at next : ℕ) (xs ys : List ℕ) → b₁ ≡ splice b₀ at xs → b₂ ≡ splice b₁ next ys → next ≡ at + length xs
    → next + length ys ≤ length b₀ → b₂ ≡ splice b₀ at (xs ++ ys)
chain b₀ b₁ b₂ at next xs ys e f is fits = f ∙ rw e (splice_splice b₀ at xs (omega arith) next ys is fits)

-- a number written in two goes: its low n bytes, then m more
pub put_two : (n m : ℕ) (b₀ b₁ b₂ : List ℕ) (at v : ℕ) → at + (n + m) ≤ length b₀
    → b₁ ≡ splice b₀ at (bytes_of n (v % 256 ^ n)) → b₂ ≡ splice b₁ (at + n) (bytes_of m (v / 256 ^ n % 256 ^ m))
    → b₂ ≡ splice b₀ at (bytes_of (n + m) v)
put_two n m b₀ b₁ b₂ at v fits e f =
    let low = bytes_of n (v % 256 ^ n) in
    let high = bytes_of m (v / 256 ^ n % 256 ^ m) in
    let l : length low ≡ n = length_bytes_of n (v % 256 ^ n) in
    let h : length high ≡ m = length_bytes_of m (v / 256 ^ n % 256 ^ m) in
    chain b₀ b₁ b₂ at (at + n) low high e f (omega arith) (omega arith)
    ∙ rw (bytes_of_mod n v, bytes_of_mod m (v / 256 ^ n), bytes_of_add n m v) refl

-- a run of stores of a number's bytes; on numerals the left side computes to the stores themselves
pub stored : (n v : ℕ) (bs : List ℕ) (at : ℕ) → at + n ≤ length bs → sets bs at (bytes_of n v) ≡ splice bs at (bytes_of n v)
stored n v bs at h = sets-eq (bytes_of n v) bs at (omega (arith, length_bytes_of n v))

-- a loop that writes a list over another, a byte a turn: `paste d at s i` is d with the first i of s written
pub paste_step : (d : List ℕ) (at : ℕ) (s : List ℕ) (i v : ℕ) → at + length s ≤ length d → i < length s → get_or s i 0 ≡ v
    → set (paste d at s i) (at + i) v ≡ paste d at s (i + 1)
paste_step d at s i v h l e = rw (add-one, ← e) (paste-suc d at s i 0 (omega arith) l)

pub paste_whole : (d : List ℕ) (at : ℕ) (s : List ℕ) (i : ℕ) → i ≡ length s → paste d at s i ≡ splice d at s
paste_whole d at s i e = rw e (ap (λ (l : List ℕ). take at d ++ l ++ drop (at + length s) d) (take-length s))

-- a store ahead of what such a loop writes
set_before : (d : List ℕ) (at : ℕ) (s : List ℕ) (i k v : ℕ) → k < at → at ≤ length d → set (paste d at s i) k v ≡ paste (set d k v) at s i
set_before d at s i k v h l =
    let f : length (take at d) ≡ at = length-take-le at d l in
    set-append_left (take at d ++ take i s) (drop (at + i) d) k v (simp length-append (omega (arith, f)))
    ∙ rw (set-append_left (take at d) (take i s) k v (omega (arith, f)), take-set-lt at d k v h, drop-set-lt (at + i) d k v (omega arith)) refl

length_paste : (d : List ℕ) (at : ℕ) (s : List ℕ) (i : ℕ) → at + i ≤ length d → i ≤ length s → length (paste d at s i) ≡ length d
length_paste d at s i h l =
    let f : length (take at d ++ take i s) ≡ at + i = length_paste_head d at s i (omega arith) l in
    simp (length-append (take at d ++ take i s), length-drop) (omega (arith, f))

-- a loop that clears two halves side by side, a byte of each a turn: the first i of each are cleared
abbrev pub cleared : List ℕ → ℕ → ℕ → ℕ → List ℕ
cleared d at half i = paste (paste d at (replicate half 0) i) (at + half) (replicate half 0) i

pub cleared_none : (d : List ℕ) (at half : ℕ) → cleared d at half 0 ≡ d
cleared_none d at half =
    let z = replicate {A = ℕ} half 0 in
    sym (paste-zero d at z ∙ paste-zero (paste d at z 0) (at + half) z)

module _ (d : List ℕ) (at half i : ℕ) (fits : at + 2 * half ≤ length d) where
  z : List ℕ
  z = replicate half 0

  long : length (replicate {A = ℕ} half 0) ≡ half
  long = length-replicate half 0

  pub cleared_step : i < half → set (set (cleared d at half i) (at + i) 0) (at + half + i) 0 ≡ cleared d at half (i + 1)
  unfolding z
  cleared_step l =
      let e : get_or z i 0 ≡ 0 = get_or-replicate half i 0 0 l in
      let f : length (paste d at z i) ≡ length d = length_paste d at z i (omega arith) (omega (arith, long)) in
      let g : length (paste d at z (i + 1)) ≡ length d = length_paste d at z (i + 1) (omega arith) (omega (arith, long)) in
      rw (set_before (paste d at z i) (at + half) z i (at + i) 0 (omega arith) (omega arith), paste_step d at z i 0 (omega (arith, long)) (omega (arith, long)) e)
      (paste_step (paste d at z (i + 1)) (at + half) z i 0 (omega (arith, long)) (omega (arith, long)) e)

  pub cleared_whole : i ≡ half → cleared d at half i ≡ splice d at (replicate (2 * half) 0)
  unfolding z
  cleared_whole e =
      let l : i ≡ length z = omega (arith, long) in
      let both : z ++ z ≡ replicate (2 * half) 0 = let two : half + half ≡ 2 * half = omega arith in rw (replicate-append-replicate, two) refl in
      rw (paste_whole d at z i l, paste_whole (splice d at z) (at + half) z i l, ← both)
      (splice_splice d at z (omega (arith, long)) (at + half) z (omega (arith, long)) (omega (arith, long)))

-- a loop that writes a list at two places, a byte of each a turn
abbrev pub twice : List ℕ → ℕ → ℕ → List ℕ → ℕ → List ℕ
twice d at next s i = paste (paste d at s i) next s i

module _ (d : List ℕ) (at next : ℕ) (s : List ℕ) (is : next ≡ at + length s) (fits : next + length s ≤ length d) (i : ℕ) where
  pub twice_step : (v : ℕ) → i < length s → get_or s i 0 ≡ v → set (set (twice d at next s i) (at + i) v) (next + i) v ≡ twice d at next s (i + 1)
  twice_step v l e =
      let f : length (paste d at s i) ≡ length d = length_paste d at s i (omega arith) (omega arith) in
      let g : length (paste d at s (i + 1)) ≡ length d = length_paste d at s (i + 1) (omega arith) (omega arith) in
      rw (set_before (paste d at s i) next s i (at + i) v (omega arith) (omega arith), paste_step d at s i v (omega arith) l e)
      (paste_step (paste d at s (i + 1)) next s i v (omega arith) l e)

  pub twice_whole : i ≡ length s → twice d at next s i ≡ splice d at (s ++ s)
  twice_whole e = rw (paste_whole d at s i e, paste_whole (splice d at s) next s i e) (splice_splice d at s (omega arith) next s is fits)

-- one more of the same behind a run of them
pub one_more : (d e : List ℕ) (at m n v : ℕ) → e ≡ splice d at (replicate m v) → n ≡ m + 1 → at + n ≤ length d → set e (at + m) v ≡ splice d at (replicate n v)
one_more d e at m n v is k fits =
    let f : length (replicate {A = ℕ} m v) ≡ m = length-replicate m v in
    let g : length e ≡ length d = rw is (length_splice d at (replicate m v) (omega arith)) in
    chain d e (set e (at + m) v) at (at + m) (replicate m v) (replicate 1 v) is (sets-eq (replicate 1 v) e (at + m) (omega arith)) (omega arith) (omega arith)
    ∙ rw (k, replicate-append-replicate) refl
