-- Laws of the bytes that are put down: b₀, b₁, .. is the output before and after each write.
use mathlib.Core.Path.{◌≡◌, refl, sym, ap, ◌∙◌}
use mathlib.Core.List.{List, [], ◌∷◌, ◌++◌, append_assoc}
use mathlib.Core.Bool.{Bool, true, false}
use Prim.Native.Nat.{ℕ, ◌+◌, ◌*◌, ◌-◌, ◌%◌, ◌^◌, ◌≤◌}
use native.Mathlib.Omega.{arith}
use lib.ListN.{length, take, drop, replicate, length-append, length-replicate}
use lib.Seq.{take-append-add, drop_at, length-take-le}
use lib.Dec.{eqb}
use borrow.Author.Tests.{eq-eqb, ne_eqb, eqb-true, eqb-false}
use Rattle.units.specs.Units.{part, splice, bytes_of, checksum}
use Rattle.frame.specs.Sums.{header_sum, secondary_sum, sum_width, data_sum}
use Rattle.units.specs.Choice.{pick}
use Rattle.units.proofs.Numbers.{length_bytes_of}
use Rattle.units.proofs.Sums.{sum_over}
use Rattle.units.proofs.Writes.{chain, splice_none, part_splice_same}
use Rattle.frame.specs.Header.{sync, secondary_bit, secondary_length, body_at, sum_code, sum_length, filler_for, length_for}
use Rattle.packet_bytes.specs.Bytes.{head_words, head_bytes, secondary_words, secondary_bytes, body_and_filler_bytes, data_bytes, packet_bytes}
use Rattle.frame.specs.Contents.{Contents}
use Rattle.frame.specs.declared.Fields.{Fields}

-- ---- a sum over what was written

-- what was written from `at` on is the first of a part that starts there
part_written : (bs : List ℕ) (at : ℕ) (vs : List ℕ) (n : ℕ) → at + length vs ≤ length bs
    → part (splice bs at vs) at (length vs + n) ≡ vs ++ part bs (at + length vs) n
part_written bs at vs n fits =
    rw (append_assoc (take at bs) vs (drop (at + length vs) bs), drop_at (take at bs) (vs ++ drop (at + length vs) bs) at (length-take-le at bs (omega arith)))
    (take-append-add vs (drop (at + length vs) bs) n)

sum_written : (w k : ℕ) (bs : List ℕ) (at : ℕ) (vs : List ℕ) (n : ℕ) → at + length vs ≤ length bs → length vs ≡ w * k
    → checksum w k (part (splice bs at vs) at (length vs + n)) ≡ checksum w k vs
sum_written w k bs at vs n fits l =
    ap (λ (xs : List ℕ). checksum w k xs) (part_written bs at vs n fits)
    ∙ ap (λ (x : ℕ). x % 256 ^ w) (sum_over w k vs (part bs (at + length vs) n) l)

-- ---- the primary header

pub length_words : (f : Fields) (p d : ℕ) → length (head_words f p d) ≡ 22
unfolding head_words bytes_of
length_words f p d = refl

pub length_head : (f : Fields) (p d : ℕ) → length (head_bytes f p d) ≡ 24
unfolding head_bytes
length_head f p d =
    rw (length-append (head_words f p d) (bytes_of 2 (header_sum (head_words f p d))), length_words f p d, length_bytes_of 2 (header_sum (head_words f p d)))

-- six writes one behind the other are the eleven words
pub words_put : (f : Fields) (p d : ℕ) (b₀ b₁ b₂ b₃ b₄ b₅ b₆ : List ℕ) → 24 ≤ length b₀
    → b₁ ≡ splice b₀ 0 sync
    → b₂ ≡ splice b₁ 2 (bytes_of 2 f.channel)
    → b₃ ≡ splice b₂ 4 (bytes_of 4 p)
    → b₄ ≡ splice b₃ 8 (bytes_of 4 d)
    → b₅ ≡ splice b₄ 12 (f.version ∷ f.sequence ∷ f.flags ∷ f.kind ∷ [])
    → b₆ ≡ splice b₅ 16 (bytes_of 6 f.rtc)
    → b₆ ≡ splice b₀ 0 (head_words f p d)
unfolding head_words bytes_of
words_put f p d b₀ b₁ b₂ b₃ b₄ b₅ b₆ fits e₁ e₂ e₃ e₄ e₅ e₆ =
    let x₂ = sync ++ bytes_of 2 f.channel in
    let x₃ = x₂ ++ bytes_of 4 p in
    let x₄ = x₃ ++ bytes_of 4 d in
    let x₅ = x₄ ++ (f.version ∷ f.sequence ∷ f.flags ∷ f.kind ∷ []) in
    let f₂ : b₂ ≡ splice b₀ 0 x₂ = chain b₀ b₁ b₂ 0 2 sync (bytes_of 2 f.channel) e₁ e₂ refl (omega arith) in
    let f₃ : b₃ ≡ splice b₀ 0 x₃ = chain b₀ b₂ b₃ 0 4 x₂ (bytes_of 4 p) f₂ e₃ refl (omega arith) in
    let f₄ : b₄ ≡ splice b₀ 0 x₄ = chain b₀ b₃ b₄ 0 8 x₃ (bytes_of 4 d) f₃ e₄ refl (omega arith) in
    let f₅ : b₅ ≡ splice b₀ 0 x₅ = chain b₀ b₄ b₅ 0 12 x₄ (f.version ∷ f.sequence ∷ f.flags ∷ f.kind ∷ []) f₄ e₅ refl (omega arith) in
    chain b₀ b₅ b₆ 0 16 x₅ (bytes_of 6 f.rtc) f₅ e₆ refl (omega arith)

pub head_put : (f : Fields) (p d sum : ℕ) (b₀ b₁ b₂ : List ℕ) → 24 ≤ length b₀
    → b₁ ≡ splice b₀ 0 (head_words f p d)
    → sum ≡ header_sum b₁
    → b₂ ≡ splice b₁ 22 (bytes_of 2 sum)
    → b₂ ≡ splice b₀ 0 (head_bytes f p d)
unfolding head_bytes
head_put f p d sum b₀ b₁ b₂ fits e₁ s e₂ =
    let ws = head_words f p d in
    let l : length ws ≡ 22 = length_words f p d in
    let own : sum ≡ header_sum ws = s ∙ ap header_sum e₁ ∙ ap (λ (x : ℕ). x % 256 ^ 2) (sum_over 2 11 ws (drop (0 + length ws) b₀) l) in
    let e : b₂ ≡ splice b₁ 22 (bytes_of 2 (header_sum ws)) = e₂ ∙ ap (λ (x : ℕ). splice b₁ 22 (bytes_of 2 x)) own in
    chain b₀ b₁ b₂ 0 22 ws (bytes_of 2 (header_sum ws)) e₁ e (omega arith) (omega (arith, length_bytes_of 2 (header_sum ws)))

-- ---- the secondary header

pub length_secondary : (f time : ℕ) → length (secondary_bytes f time) ≡ secondary_length f
unfolding secondary_bytes secondary_words bytes_of
length_secondary f time = go (eqb (secondary_bit f) 1) refl
  where
    go : (t : Bool) → eqb (secondary_bit f) 1 ≡ t → length (pick t (secondary_words time ++ bytes_of 2 (secondary_sum (secondary_words time))) []) ≡ secondary_length f
    go true e = let i : secondary_bit f ≡ 1 = eqb-true (secondary_bit f) 1 e in rw i refl
    go false e = let i : secondary_bit f ≡ 1 → ⊥ = eqb-false (secondary_bit f) 1 e in omega arith

pub secondary_put : (f time sum : ℕ) (b₀ b₁ b₂ b₃ : List ℕ) → secondary_bit f ≡ 1 → 24 + secondary_length f ≤ length b₀
    → b₁ ≡ splice b₀ 24 (bytes_of 8 time)
    → b₂ ≡ splice b₁ 32 (bytes_of 2 0)
    → sum ≡ secondary_sum (part b₂ 24 12)
    → b₃ ≡ splice b₂ 34 (bytes_of 2 sum)
    → b₃ ≡ splice b₀ 24 (secondary_bytes f time)
unfolding secondary_bytes secondary_words
secondary_put f time sum b₀ b₁ b₂ b₃ is fits e₁ e₂ s e₃ =
    let l₁ : length (bytes_of 8 time) ≡ 8 = length_bytes_of 8 time in
    let l₂ : length (bytes_of 2 0) ≡ 2 = length_bytes_of 2 0 in
    let ws = bytes_of 8 time ++ bytes_of 2 0 in
    let l : length ws ≡ 10 = omega (arith, length-append (bytes_of 8 time) (bytes_of 2 0)) in
    let f₂ : b₂ ≡ splice b₀ 24 ws = chain b₀ b₁ b₂ 24 32 (bytes_of 8 time) (bytes_of 2 0) e₁ e₂ (omega arith) (omega arith) in
    let w : secondary_sum (part (splice b₀ 24 ws) 24 (length ws + 2)) ≡ secondary_sum ws = sum_written 2 5 b₀ 24 ws 2 (omega arith) l in
    let n : length ws + 2 ≡ 12 = omega arith in
    let own : sum ≡ secondary_sum ws =
    s ∙ ap (λ (x : List ℕ). secondary_sum (part x 24 12)) f₂ ∙ ap (λ (m : ℕ). secondary_sum (part (splice b₀ 24 ws) 24 m)) (sym n) ∙ w in
    let l₃ : length (bytes_of 2 (secondary_sum ws)) ≡ 2 = length_bytes_of 2 (secondary_sum ws) in
    let e : b₃ ≡ splice b₂ 34 (bytes_of 2 (secondary_sum ws)) = e₃ ∙ ap (λ (x : ℕ). splice b₂ 34 (bytes_of 2 x)) own in
    rw (eq-eqb (secondary_bit f) 1 is) (chain b₀ b₂ b₃ 24 34 ws (bytes_of 2 (secondary_sum ws)) f₂ e (omega arith) (omega arith))

pub secondary_none : (f time : ℕ) (b : List ℕ) → (secondary_bit f ≡ 1 → ⊥) → b ≡ splice b 24 (secondary_bytes f time)
unfolding secondary_bytes
secondary_none f time b other = rw (ne_eqb (secondary_bit f) 1 other) (sym (splice_none b 24))

-- ---- body, filler and data sum

pub length_filled : (f : ℕ) (body : List ℕ) → length (body_and_filler_bytes f body) ≡ length body + filler_for f (length body)
unfolding body_and_filler_bytes
length_filled f body = rw (length-append, length-replicate)

pub length_data : (f : ℕ) (body : List ℕ) → body_at f + length (data_bytes f body) ≡ length_for f (length body)
unfolding data_bytes
length_data f body =
    let fs = body_and_filler_bytes f body in
    let v = data_sum (sum_code f) fs in
    omega (arith, length-append fs (bytes_of (sum_length f) v), length_filled f body, length_bytes_of (sum_length f) v)

pub filled_put : (body b₀ b₁ b₂ : List ℕ) (at end : ℕ) → at + length body ≤ end → end ≤ length b₀
    → b₁ ≡ splice b₀ at body
    → b₂ ≡ splice b₁ (at + length body) (replicate (end - (at + length body)) 0)
    → b₂ ≡ splice b₀ at (body ++ replicate (end - (at + length body)) 0)
filled_put body b₀ b₁ b₂ at end before fits e₁ e₂ =
    let n = end - (at + length body) in
    chain b₀ b₁ b₂ at (at + length body) body (replicate n 0) e₁ e₂ refl (omega (arith, length-replicate {A = ℕ} n 0))

pub data_put : (f : ℕ) (body b₀ b₁ b₂ : List ℕ) (p at w sum : ℕ) → p ≡ length_for f (length body) → p ≤ length b₀ → at ≡ body_at f → w ≡ sum_length f
    → b₁ ≡ splice b₀ at (body ++ replicate (p - w - (at + length body)) 0)
    → sum ≡ data_sum (sum_code f) (part b₁ at (p - w - at))
    → b₂ ≡ splice b₁ (p - w) (bytes_of (sum_length f) sum)
    → b₂ ≡ splice b₀ (body_at f) (data_bytes f body)
unfolding body_and_filler_bytes data_bytes
data_put f body b₀ b₁ b₂ p at w sum is fits here wide e₁ s e₂ =
    let fs = body_and_filler_bytes f body in
    let l : length fs ≡ length body + filler_for f (length body) = length_filled f body in
    let n : p - w - (at + length body) ≡ filler_for f (length body) = omega arith in
    let m : p - w - at ≡ length fs = omega arith in
    let f₁ : b₁ ≡ splice b₀ (body_at f) fs = rw (n, here) at e₁ in
    let g : part b₁ at (p - w - at) ≡ fs = rw (m, f₁, here) (part_splice_same b₀ (body_at f) fs (omega arith)) in
    let own : sum ≡ data_sum (sum_code f) fs = s ∙ ap (data_sum (sum_code f)) g in
    let v = bytes_of (sum_length f) (data_sum (sum_code f) fs) in
    let lv : length v ≡ sum_length f = length_bytes_of (sum_length f) (data_sum (sum_code f) fs) in
    let f₂ : b₂ ≡ splice b₁ (p - w) v = e₂ ∙ ap (λ (x : ℕ). splice b₁ (p - w) (bytes_of (sum_length f) x)) own in
    chain b₀ b₁ b₂ (body_at f) (p - w) fs v f₁ f₂ (omega arith) (omega arith)

-- code is that of the width by which the code sums and writes
pub width_put : (f code : ℕ) (body b₀ b₁ b₂ : List ℕ) (p at w : ℕ) → code ≡ sum_code f → p ≡ length_for f (length body) → p ≤ length b₀ → at ≡ body_at f → w ≡ sum_width code
    → b₁ ≡ splice b₀ at (body ++ replicate (p - w - (at + length body)) 0)
    → b₂ ≡ splice b₁ (p - w) (bytes_of (sum_width code) (data_sum code (part b₁ at (p - w - at))))
    → b₂ ≡ splice b₀ (body_at f) (data_bytes f body)
width_put f code body b₀ b₁ b₂ p at w coded is fits here wide e₁ e₂ =
    data_put f body b₀ b₁ b₂ p at w _ is fits here (wide ∙ ap sum_width coded) e₁ refl
    (e₂ ∙ ap (λ (n : ℕ). splice b₁ (p - w) (bytes_of (sum_width n) (data_sum n (part b₁ at (p - w - at))))) coded)

-- where there is no sum
pub unsummed_put : (f : ℕ) (body b₀ b₁ : List ℕ) (p at w : ℕ) → sum_code f ≡ 0 → p ≡ length_for f (length body) → p ≤ length b₀ → at ≡ body_at f → w ≡ sum_length f
    → b₁ ≡ splice b₀ at (body ++ replicate (p - w - (at + length body)) 0)
    → b₁ ≡ splice b₀ (body_at f) (data_bytes f body)
unfolding bytes_of
unsummed_put f body b₀ b₁ p at w z is fits here wide e₁ =
    width_put f 0 body b₀ b₁ b₁ p at w (sym z) is fits here (wide ∙ ap sum_width z) e₁ (sym (splice_none b₁ (p - w)))

-- ---- the packet

pub length_packet : (c : Contents) → length (packet_bytes c) ≡ length_for c.fields.flags (length c.body)
unfolding packet_bytes
length_packet c =
    let f = c.fields in
    let body = c.body in
    let h = head_bytes f (length_for f.flags (length body)) (length body) in
    let s = secondary_bytes f.flags f.time in
    let d = data_bytes f.flags body in
    omega (
      arith,
      length-append (h ++ s) d,
      length-append h s,
      length_head f (length_for f.flags (length body)) (length body),
      length_secondary f.flags f.time,
      length_data f.flags body,
    )

pub packet_put : (c : Contents) (b₀ b₁ b₂ b₃ : List ℕ) (p : ℕ) → p ≡ length_for c.fields.flags (length c.body) → p ≤ length b₀
    → b₁ ≡ splice b₀ 0 (head_bytes c.fields p (length c.body))
    → b₂ ≡ splice b₁ 24 (secondary_bytes c.fields.flags c.fields.time)
    → b₃ ≡ splice b₂ (body_at c.fields.flags) (data_bytes c.fields.flags c.body)
    → b₃ ≡ splice b₀ 0 (packet_bytes c)
unfolding packet_bytes
packet_put c b₀ b₁ b₂ b₃ p is fits e₁ e₂ e₃ =
    let f = c.fields in
    let body = c.body in
    let h = head_bytes f (length_for f.flags (length body)) (length body) in
    let s = secondary_bytes f.flags f.time in
    let d = data_bytes f.flags body in
    let lh : length h ≡ 24 = length_head f (length_for f.flags (length body)) (length body) in
    let ls : length s ≡ secondary_length f.flags = length_secondary f.flags f.time in
    let ld : body_at f.flags + length d ≡ length_for f.flags (length body) = length_data f.flags body in
    let f₁ : b₁ ≡ splice b₀ 0 h = rw is at e₁ in
    let f₂ : b₂ ≡ splice b₀ 0 (h ++ s) = chain b₀ b₁ b₂ 0 24 h s f₁ e₂ (omega arith) (omega arith) in
    chain b₀ b₂ b₃ 0 (body_at f.flags) (h ++ s) d f₂ e₃ (omega (arith, length-append h s)) (omega arith)
