-- Laws of sums of units, each over the width, and THE fact: one unit replaced by a different one makes the sum wrong.
use Rattle.std.proofs.Common.{◌≡◌, ℕ, zero, suc, ◌+◌, ◌-◌, ◌*◌, ◌/◌, ◌%◌, ◌^◌, ◌<◌, ◌≤◌, true, false, ◌≢◌, List, [], ◌∷◌, ◌++◌, length, take, drop, sym, ap, ◌∙◌, append_assoc, add-zero, mod-lt, mod-eq_of_lt, suc-add, mul-le-mul_left, mul-zero, zero-add, mul-suc, mul-add, add-one, arith, length-append, length-drop, take-append-drop, length-take-le, drop-drop, take_at, drop_at, eq-eqb, ne_eqb, eqb-true}
use native.Mathlib.Decide.{dec_lt}
use native.Mathlib.Nat.{add_left_comm, zero-mod, mod-add-mod, add-mul-mod_self_left, div-add-mod, le_dest}
use lib.Seq.{take-append-le, drop-append-le, drop-append-add}
use Rattle.units.specs.Units.{Bytes, num, field, sum_units, checksum, summed, Changed}
use Rattle.units.proofs.Numbers.{pow_pos, bytes_left, bytes_right, num_inj, num_lt}

-- ---- modulo

pub mod_cancel : (a b c M : ℕ) → 0 < M → (a + c) % M ≡ (b + c) % M → a % M ≡ b % M
mod_cancel a b c M p e = sym (shift a) ∙ ap (λ (n : ℕ). (n + (M - c % M)) % M) e ∙ shift b
  where
    shift : (x : ℕ) → ((x + c) % M + (M - c % M)) % M ≡ x % M
    shift x =
        let d : x + c + (M - c % M) ≡ x + M * suc (c / M) = omega (arith, div-add-mod c M, mod-lt c p, mul-suc M (c / M)) in
        mod-add-mod (x + c) M (M - c % M) ∙ ap (λ (n : ℕ). n % M) d ∙ add-mul-mod_self_left x M (suc (c / M))

-- ---- sums of units

-- j of n units
pub within : (w j n len : ℕ) → w * n ≤ len → j ≤ n → w * j ≤ len
within w j n len fits few = omega (arith, mul-le-mul_left w few)

-- one unit more, at the end
pub sum_snoc : (w k : ℕ) (bs : List ℕ) → sum_units w (suc k) bs ≡ sum_units w k bs + field bs (w * k) w
unfolding sum_units
sum_snoc w zero bs = rw mul-zero (omega arith)
sum_snoc w (suc k) bs =
    let i : w + w * k ≡ w * suc k = omega (arith, mul-suc w k) in
    let d : drop (w * k) (drop w bs) ≡ drop (w * suc k) bs = drop-drop (w * k) w bs ∙ ap (λ (n : ℕ). drop n bs) i in
    let ih : sum_units w (suc k) (drop w bs) ≡ sum_units w k (drop w bs) + field (drop w bs) (w * k) w = sum_snoc w k (drop w bs) in
    rw (← d) (omega arith)

-- a turn of a loop that adds modulo 256 ^ w
pub sum_step : (w k : ℕ) (bs : List ℕ) (acc x : ℕ) → acc ≡ checksum w k bs → x ≡ field bs (w * k) w
    → (acc + x) % 256 ^ w ≡ checksum w (k + 1) bs
sum_step w k bs acc x e f = rw (add-one, sum_snoc, e, f) (mod-add-mod (sum_units w k bs) (256 ^ w) (field bs (w * k) w))

pub checksum_none : (w : ℕ) (bs : List ℕ) → checksum w 0 bs ≡ 0
unfolding sum_units
checksum_none w bs = zero-mod (256 ^ w)

-- j units and k behind them
sum_parts : (w j k : ℕ) (bs : List ℕ) → sum_units w (j + k) bs ≡ sum_units w j bs + sum_units w k (drop (w * j) bs)
unfolding sum_units
sum_parts w zero k bs = rw (zero-add, mul-zero, drop) (omega arith)
sum_parts w (suc j) k bs =
    let i : w + w * j ≡ w * suc j = omega (arith, mul-suc w j) in
    let d : drop (w * j) (drop w bs) ≡ drop (w * suc j) bs = drop-drop (w * j) w bs ∙ ap (λ (n : ℕ). drop n bs) i in
    let ih : sum_units w (j + k) (drop w bs) ≡ sum_units w j (drop w bs) + sum_units w k (drop (w * j) (drop w bs)) = sum_parts w j k (drop w bs) in
    rw (suc-add, ← d) (omega arith)

-- ---- sums in four lanes of equal length, behind a rest

module _ (w : ℕ) (bs : List ℕ) (rest lane : ℕ) where
  -- a lane's first units up to the k-th of the first lane; that lane stands right behind the rest, so it is added as part of it
  abbrev up_to : ℕ → ℕ → ℕ
  up_to from k = sum_units w (k - rest) (drop (w * from) bs)

  abbrev in_lanes : ℕ → ℕ
  in_lanes k = sum_units w k bs + (up_to (rest + lane) k + (up_to (rest + 2 * lane) k + up_to (rest + 3 * lane) k))

  -- a loop along the lanes of n units: the rest is added, and of each lane what stands before its unit of this turn
  abbrev pub Lanes : ℕ → ℕ → ℕ → Type 0
  Lanes n k acc = (rest + 4 * lane ≡ n) × (rest ≤ k) × (k ≤ rest + lane) × (acc ≡ in_lanes k % 256 ^ w)

  pub lanes_first : (n acc : ℕ) → rest + 4 * lane ≡ n → acc ≡ checksum w rest bs → Lanes n rest acc
  unfolding sum_units
  lanes_first n acc all e =
      let z : rest - rest ≡ 0 = omega arith in
      (all, omega arith, omega arith, rw (z, add-zero) e)

  lane_next : (from k at : ℕ) → rest ≤ k → from + (k - rest) ≡ at → up_to from (k + 1) ≡ up_to from k + field bs (w * at) w
  lane_next from k at h e =
      let i : k + 1 - rest ≡ suc (k - rest) = omega arith in
      let j : w * from + w * (k - rest) ≡ w * at = rw (← e) (sym (mul-add w from (k - rest))) in
      rw (i, sum_snoc, drop-drop, j)

  pub lanes_next : (n k acc x₀ x₁ x₂ x₃ a₀ a₁ a₂ a₃ : ℕ) → Lanes n k acc → k < rest + lane
      → x₀ ≡ field bs (w * k) w → x₁ ≡ field bs (w * (k + lane)) w → x₂ ≡ field bs (w * (k + 2 * lane)) w → x₃ ≡ field bs (w * (k + 3 * lane)) w
      → a₀ ≡ (acc + x₀) % 256 ^ w → a₁ ≡ (a₀ + x₁) % 256 ^ w → a₂ ≡ (a₁ + x₂) % 256 ^ w → a₃ ≡ (a₂ + x₃) % 256 ^ w
      → Lanes n (k + 1) a₃
  lanes_next n k acc x₀ x₁ x₂ x₃ a₀ a₁ a₂ a₃ l more f₀ f₁ f₂ f₃ e₀ e₁ e₂ e₃ =
      let s₀ : sum_units w (k + 1) bs ≡ sum_units w k bs + x₀ = rw (add-one, f₀) (sum_snoc w k bs) in
      let s₁ : up_to (rest + lane) (k + 1) ≡ up_to (rest + lane) k + x₁ = rw f₁ (lane_next (rest + lane) k (k + lane) l.1 (omega arith)) in
      let s₂ : up_to (rest + 2 * lane) (k + 1) ≡ up_to (rest + 2 * lane) k + x₂ = rw f₂ (lane_next (rest + 2 * lane) k (k + 2 * lane) l.1 (omega arith)) in
      let s₃ : up_to (rest + 3 * lane) (k + 1) ≡ up_to (rest + 3 * lane) k + x₃ = rw f₃ (lane_next (rest + 3 * lane) k (k + 3 * lane) l.1 (omega arith)) in
      let t : in_lanes k + x₀ + x₁ + x₂ + x₃ ≡ in_lanes (k + 1) = omega arith in
      let m₀ = added (in_lanes k) acc x₀ a₀ l.3 e₀ in
      let m₁ = added (in_lanes k + x₀) a₀ x₁ a₁ m₀ e₁ in
      let m₂ = added (in_lanes k + x₀ + x₁) a₁ x₂ a₂ m₁ e₂ in
      let m₃ = added (in_lanes k + x₀ + x₁ + x₂) a₂ x₃ a₃ m₂ e₃ in
      (l.0, omega arith, omega arith, m₃ ∙ ap (λ (n : ℕ). n % 256 ^ w) t)
    where
      added : (t a x b : ℕ) → a ≡ t % 256 ^ w → b ≡ (a + x) % 256 ^ w → b ≡ (t + x) % 256 ^ w
      added t a x b e f = f ∙ rw e (mod-add-mod t (256 ^ w) x)

  pub lanes_last : (n k acc : ℕ) → Lanes n k acc → rest + lane ≤ k → acc ≡ checksum w n bs
  lanes_last n k acc l ends =
      let i : k ≡ rest + lane = omega (arith, l.2) in
      let z : rest + lane - rest ≡ lane = omega arith in
      let s₁ = on (rest + lane) (rest + 2 * lane) (omega arith) in
      let s₂ = on (rest + 2 * lane) (rest + 3 * lane) (omega arith) in
      let s₃ = on (rest + 3 * lane) n (omega (arith, l.0)) in
      let t : in_lanes (rest + lane) ≡ sum_units w n bs = rw z (omega arith) in
      rw i at l.3 ∙ ap (λ (n : ℕ). n % 256 ^ w) t
    where
      on : (j m : ℕ) → j + lane ≡ m → sum_units w m bs ≡ sum_units w j bs + sum_units w lane (drop (w * j) bs)
      on j m e = rw (← e) (sum_parts w j lane bs)

pub sum_append : (w j k : ℕ) (xs ys : List ℕ) → length xs ≡ w * j → sum_units w (j + k) (xs ++ ys) ≡ sum_units w j xs + sum_units w k ys
unfolding sum_units
sum_append w zero k [] ys e = rw (zero-add k) (omega arith)
sum_append w zero k (x ∷ xs) ys e = absurd (let z : w * 0 ≡ 0 = mul-zero w in omega arith)
sum_append w (suc j) k xs ys e =
    let l : w ≤ length xs = omega (arith, mul-suc w j) in
    let m : length (drop w xs) ≡ w * j = simp length-drop (omega (arith, mul-suc w j)) in
    let ih : sum_units w (j + k) (drop w xs ++ ys) ≡ sum_units w j (drop w xs) + sum_units w k ys = sum_append w j k (drop w xs) ys m in
    rw (suc-add, sum_units, take-append-le w xs ys, drop-append-le w xs ys) (omega arith)

-- bytes behind the last unit have no say
pub sum_over : (w k : ℕ) (xs ys : List ℕ) → length xs ≡ w * k → sum_units w k (xs ++ ys) ≡ sum_units w k xs
unfolding sum_units
sum_over w k xs ys h =
    let e : sum_units w (k + 0) (xs ++ ys) ≡ sum_units w k xs + 0 = sum_append w k 0 xs ys h in
    simp add-zero at e

-- nor have those behind a list that holds all the units
pub sum_prefix : (w k : ℕ) (xs ys : List ℕ) → w * k ≤ length xs → sum_units w k (xs ++ ys) ≡ sum_units w k xs
sum_prefix w k xs ys h =
    let n = w * k in
    let l : length (take n xs) ≡ n = length-take-le n xs h in
    let e : take n xs ++ drop n xs ≡ xs = take-append-drop n xs in
    ap (λ (l : List ℕ). sum_units w k (l ++ ys)) (sym e)
    ∙ ap (sum_units w k) (append_assoc (take n xs) (drop n xs) ys)
    ∙ sum_over w k (take n xs) (drop n xs ++ ys) l
    ∙ sym (sum_over w k (take n xs) (drop n xs) l)
    ∙ ap (sum_units w k) e

-- one unit and what stands around it
pub sum_around : (w j k : ℕ) (pre u post : List ℕ) → length pre ≡ w * j → length u ≡ w
    → sum_units w (j + suc k) (pre ++ (u ++ post)) ≡ num u + (sum_units w j pre + sum_units w k post)
unfolding sum_units
sum_around w j k pre u post e f =
    rw (sum_append w j (suc k) pre (u ++ post) e, sum_units, take_at u post w f, drop_at u post w f) (add_left_comm (sum_units w j pre) (num u) (sum_units w k post))

-- ---- a sum behind what it adds up

pub summed_says : (w k : ℕ) (xs : List ℕ) → summed w k xs ≡ true → checksum w k xs ≡ field xs (w * k) w
unfolding summed
summed_says w k xs t = eqb-true (checksum w k xs) (field xs (w * k) w) t

pub summed_made : (w k : ℕ) (xs : List ℕ) → checksum w k xs ≡ field xs (w * k) w → summed w k xs ≡ true
unfolding summed
summed_made w k xs e = eq-eqb (checksum w k xs) (field xs (w * k) w) e

pub summed_wrong : (w k : ℕ) (xs : List ℕ) → (checksum w k xs ≡ field xs (w * k) w → ⊥) → summed w k xs ≡ false
unfolding summed
summed_wrong w k xs d = ne_eqb (checksum w k xs) (field xs (w * k) w) d

-- ---- what a sum sees, at every width

num_below : (w : ℕ) (xs : List ℕ) → length xs ≡ w → Bytes xs → num xs < 256 ^ w
num_below w xs h b = rw (← h) (num_lt xs b)

module _ (w : ℕ) (front old new back : List ℕ) (ho : length old ≡ w) (hn : length new ≡ w) (bo : Bytes old) (bn : Bytes new) where
  -- units that stand for each other in a sum are the same
  pub one_unit : (j k : ℕ) → length front ≡ w * j
      → checksum w (j + suc k) (front ++ (old ++ back)) ≡ checksum w (j + suc k) (front ++ (new ++ back)) → old ≡ new
  one_unit j k hf e =
      let rest = sum_units w j front + sum_units w k back in
      let c : (num old + rest) % 256 ^ w ≡ (num new + rest) % 256 ^ w = rw (sum_around w j k front old back hf ho, sum_around w j k front new back hf hn) at e in
      let m : num old % 256 ^ w ≡ num new % 256 ^ w = mod_cancel (num old) (num new) rest (256 ^ w) (pow_pos w) c in
      num_inj old new bo bn (ho ∙ sym hn) (rw (mod-eq_of_lt (num_below w old ho bo), mod-eq_of_lt (num_below w new hn bn)) at m)

  -- the sum that stands behind a unit does not move with it
  behind : (unit : List ℕ) (j m : ℕ) → length front ≡ w * j → length unit ≡ w → field (front ++ (unit ++ back)) (w * (j + suc m)) w ≡ field back (w * m) w
  behind unit j m hf hu =
      let e : w * (j + suc m) ≡ length (front ++ unit) + w * m = rw length-append (omega arith) in
      rw (← append_assoc, e, drop-append-add)

  sum_front : (j m : ℕ) → old ≢ new → length front ≡ w * j → summed w (j + suc m) (front ++ (old ++ back)) ≡ true → summed w (j + suc m) (front ++ (new ++ back)) ≡ false
  sum_front j m d hf t = summed_wrong w (j + suc m) (front ++ (new ++ back)) λ e.
      d (one_unit j m hf (summed_says w (j + suc m) (front ++ (old ++ back)) t ∙ behind old j m hf ho ∙ sym (behind new j m hf hn) ∙ sym e))

  -- and the sum's own unit stands alone
  own : (unit : List ℕ) (k : ℕ) → length front ≡ w * k → length unit ≡ w → field (front ++ (unit ++ back)) (w * k) w ≡ num unit
  own unit k hf hu = rw (drop_at front (unit ++ back) (w * k) hf, take_at unit back w hu)

  sum_last : (k : ℕ) → old ≢ new → length front ≡ w * k → summed w k (front ++ (old ++ back)) ≡ true → summed w k (front ++ (new ++ back)) ≡ false
  sum_last k d hf t = summed_wrong w k (front ++ (new ++ back)) λ e.
      d (num_inj old new bo bn (ho ∙ sym hn)
      (cc (summed_says w k (front ++ (old ++ back)) t, e, own old k hf ho, own new k hf hn, sum_over w k front (old ++ back) hf, sum_over w k front (new ++ back) hf)))

-- THE fact, at every width: k units and their sum, one of them, the sum's own too, replaced by a different one: the sum is wrong
pub sum_sees : (w k j : ℕ) (xs ys : List ℕ) → 0 < w → length xs ≡ w * suc k → Bytes xs → Changed (w * j) w xs ys → summed w k xs ≡ true → summed w k ys ≡ false
sum_sees w k j xs ys hw hl bx c t = rw c.is (go (dec_lt j k) (dec_lt k j))
  where
    t' : summed w k (c.front ++ (c.old ++ c.back)) ≡ true
    t' = rw c.was at t

    bo : Bytes c.old
    bo = bytes_left c.old c.back (bytes_right c.front (c.old ++ c.back) (rw c.was at bx))

    len : w * j + w + length c.back ≡ w * suc k
    len = omega (arith, simp (length-append, c.was, c.place, c.old_width) at hl)

    go : Dec (j < k) → Dec (k < j) → summed w k (c.front ++ (c.new ++ c.back)) ≡ false
    go (yes l) _ =
        let (m, e) = le_dest l in
        let e' : k ≡ j + suc m = omega arith in
        rw e' (sum_front w c.front c.old c.new c.back c.old_width c.new_width bo c.new_bytes j m c.differs c.place (rw e' at t'))
    go (no g) (yes l) = absurd (omega (arith, mul-le-mul_left w l, mul-suc w k, len))
    go (no g) (no h) =
        let e : j ≡ k = omega arith in
        sum_last w c.front c.old c.new c.back c.old_width c.new_width bo c.new_bytes k c.differs (rw (← e) c.place) t'
