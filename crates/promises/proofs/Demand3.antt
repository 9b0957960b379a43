-- Demand 3 holds.
use mathlib.Core.Path.{◌≡◌, refl, sym, ap, ◌∙◌}
use mathlib.Core.List.{List, [], ◌∷◌, ◌++◌, append_assoc, append-nil}
use Prim.Native.Nat.{ℕ, suc, ◌+◌, ◌-◌, ◌<◌}
use native.Mathlib.Omega.{arith}
use native.Mathlib.Nat.{zero-add, suc-add}
use lib.ListN.{length, take, drop, length-append}
use lib.Seq.{take_at, drop_at}
use Rattle.terms.specs.Refusals.{no_refusal}
use Rattle.frame.specs.Header.{body_in, fields_in}
use Rattle.frame.specs.Table.{first, frame_lines}
use Rattle.frame.proofs.Frames.{OfFront, body_front, fields_front}
use Rattle.packet.specs.Read.{window}
use Rattle.frame.specs.Contents.{Contents, contents_in}
use Rattle.packet_bytes.specs.Bytes.{packet_bytes}
use Rattle.promises.specs.Contents.{Accepts, AllAccepted, nil, cons, written}
use Rattle.promises.specs.Endings.{refused_there}
use Rattle.promises.specs.Handed.{Within}
use Rattle.promises.specs.Altered.{Altered, Pieces, none, intact, altered, FirstAltered}
use Rattle.promises.specs.ReadsAs.{ReadsAs}
use Rattle.promises.specs.Demand3.{Demand3}
use Rattle.promises.proofs.Alterations.{altered_refused, change_named, every_byte_named}
use Rattle.promises.proofs.HandedOut.{within_inside}
use Rattle.promises.proofs.Recordings.{reads_to_end, reads_to_altered}
use Rattle.promises.proofs.Writer.{accepts_writable, length_of_lem}
use Rattle.promises.proofs.Written.{written_sound, written_fields, written_body}

-- ---- a list as it was written

handed_out : (cs : List Contents) → AllAccepted cs → (buf : List ℕ) (start end base : ℕ) → Within buf start end base
    → window buf start end ≡ written cs → ReadsAs buf start end base cs end (base + (end - start)) no_refusal
handed_out cs good buf start end base within holds =
    reads_to_end buf start end base (within_inside buf start end base within) cs good [] (holds ∙ sym (append-nil (written cs))) refl

-- ---- different lists

-- bytes that begin with a packet say what its contents are, whatever stands behind it
module _ (c : Contents) (a : Accepts c) (t : List ℕ) where
  front_says : {A : Type 0} (what : List ℕ → A) → OfFront what → what (packet_bytes c ++ t) ≡ what (packet_bytes c)
  front_says what front =
      let s = written_sound c a.typed (accepts_writable c a) in
      front (packet_bytes c) t (omega (arith, s.parts, s.there)) s.there s.parts

  front_contents : contents_in (packet_bytes c ++ t) ≡ c
  front_contents =
      let r = accepts_writable c a in
      λ i. record {
        fields = (front_says fields_in fields_front ∙ written_fields c a.typed r) i;
        body = (front_says body_in body_front ∙ written_body c a.typed r) i;
      }

-- equal bytes, so equal first packets, and equal bytes behind them
one_list : (cs ds : List Contents) → AllAccepted cs → AllAccepted ds → written cs ≡ written ds → cs ≡ ds
unfolding written
one_list [] [] nil nil same = refl
one_list [] (d ∷ ds) nil (cons b gd) same = absurd (omega (arith, ap length same, length-append (packet_bytes d) (written ds), length_of_lem d))
one_list (c ∷ cs) [] (cons a gc) nil same = absurd (omega (arith, ap length same, length-append (packet_bytes c) (written cs), length_of_lem c))
one_list (c ∷ cs) (d ∷ ds) (cons a gc) (cons b gd) same =
    let first : c ≡ d = sym (front_contents c a (written cs)) ∙ ap contents_in same ∙ front_contents d b (written ds) in
    let n = length (packet_bytes c) in
    let rest : written cs ≡ written ds =
    sym (drop_at (packet_bytes c) (written cs) n refl) ∙ ap (drop n) same ∙ drop_at (packet_bytes d) (written ds) n (ap (λ (x : Contents). length (packet_bytes x)) (sym first)) in
    λ i. first i ∷ one_list cs ds gc gd rest i

-- ---- some packets altered

one_is_first : {cs : List Contents} {k : ℕ} {bs : List ℕ} → Pieces cs k bs → 0 < k → FirstAltered cs bs
unfolding written
one_is_first none some = absurd (omega arith)
one_is_first (intact {c} {cs} {k} {bs} a p) some =
    let f = one_is_first p some in
    record {
      before = c ∷ f.before;
      first = f.first;
      behind = f.behind;
      number = f.number;
      found = f.found;
      rest = f.rest;
      list = ap (λ (l : List Contents). c ∷ l) f.list;
      written_before = cons a f.written_before;
      writable = f.writable;
      alteration = f.alteration;
      bytes = ap (λ (l : List ℕ). packet_bytes c ++ l) f.bytes ∙ sym (append_assoc (packet_bytes c) (written f.before) (f.found ++ f.rest));
    }
one_is_first (altered {c} {n} {ys} {cs} {k} {bs} a h p) some =
    record { before = []; first = c; behind = cs; number = n; found = ys; rest = bs; list = refl; written_before = nil; writable = a; alteration = h; bytes = refl }

stops : (before : List Contents) → AllAccepted before → (c : Contents) → Accepts c → (n : ℕ) (ys : List ℕ) → Altered c n ys
    → (rest buf : List ℕ) (start end base : ℕ) → Within buf start end base → window buf start end ≡ written before ++ (ys ++ rest)
    → ReadsAs buf start end base before (start + length (written before)) (base + length (written before))
    (refused_there n (start + length (written before)) (base + length (written before)))
stops before good c a n ys h rest buf start end base within holds =
    reads_to_altered buf start end base (within_inside buf start end base within) before good (ys ++ rest) holds c a n ys rest h refl

untouched : {cs : List Contents} {bs : List ℕ} → Pieces cs 0 bs → AllAccepted cs × (bs ≡ written cs)
unfolding written
untouched none = (nil, refl)
untouched (intact {c} a p) = let (good, same) = untouched p in (cons a good, ap (λ (l : List ℕ). packet_bytes c ++ l) same)

-- ---- the first of them

-- an altered packet does not stand where it stands as it was written
not_there : (c : Contents) (n : ℕ) (ys rest zs : List ℕ) → Altered c n ys → ys ++ rest ≡ packet_bytes c ++ zs → ⊥
not_there c n ys rest zs h same =
    let k = length (packet_bytes c) in
    h.change.differs (sym (take_at ys rest k h.change.long) ∙ ap (take k) same ∙ take_at (packet_bytes c) zs k refl)

-- two ways to name the first altered packet are one
first_same : (before before' : List Contents) (c c' : Contents) (behind behind' : List Contents) (n n' : ℕ) (ys ys' rest rest' : List ℕ)
    → before ++ (c ∷ behind) ≡ before' ++ (c' ∷ behind') → written before ++ (ys ++ rest) ≡ written before' ++ (ys' ++ rest')
    → Accepts c → Accepts c' → Altered c n ys → Altered c' n' ys' → (before ≡ before') × (c ≡ c') × (behind ≡ behind') × (n ≡ n')
unfolding written
first_same [] [] c c' behind behind' n n' ys ys' rest rest' list bytes a a' h h' = (
  refl,
  cc list,
  cc list,
  sym (altered_refused c a rest n ys h) ∙ ap (λ (w : List ℕ). first (frame_lines w)) bytes ∙ altered_refused c' a' rest' n' ys' h',
)
first_same [] (d ∷ before') c c' behind behind' n n' ys ys' rest rest' list bytes a a' h h' =
    let here : c ≡ d = cc list in
    let zs = written before' ++ (ys' ++ rest') in
    absurd (not_there c n ys rest zs h (bytes ∙ append_assoc (packet_bytes d) (written before') (ys' ++ rest') ∙ ap (λ (x : Contents). packet_bytes x ++ zs) (sym here)))
first_same (d ∷ before) [] c c' behind behind' n n' ys ys' rest rest' list bytes a a' h h' =
    let here : c' ≡ d = cc list in
    let zs = written before ++ (ys ++ rest) in
    absurd (not_there c' n' ys' rest' zs h' (sym bytes ∙ append_assoc (packet_bytes d) (written before) (ys ++ rest) ∙ ap (λ (x : Contents). packet_bytes x ++ zs) (sym here)))
first_same (d ∷ before) (d' ∷ before') c c' behind behind' n n' ys ys' rest rest' list bytes a a' h h' =
    let here : d ≡ d' = cc list in
    let k = length (packet_bytes d) in
    let rest-same : written before ++ (ys ++ rest) ≡ written before' ++ (ys' ++ rest') =
    sym (drop_at (packet_bytes d) _ k refl)
    ∙ ap (drop k) (sym (append_assoc (packet_bytes d) (written before) (ys ++ rest)) ∙ bytes ∙ append_assoc (packet_bytes d') (written before') (ys' ++ rest'))
    ∙ drop_at (packet_bytes d') _ k (ap (λ (x : Contents). length (packet_bytes x)) (sym here)) in
    let (b, f, g, m) = first_same before before' c c' behind behind' n n' ys ys' rest rest' (cc list) rest-same a a' h h' in
    (λ i. here i ∷ b i, f, g, m)

first_once : (cs : List Contents) (bs : List ℕ) (f g : FirstAltered cs bs)
    → (f.before ≡ g.before) × (f.first ≡ g.first) × (f.behind ≡ g.behind) × (f.number ≡ g.number)
first_once cs bs f g =
    first_same f.before g.before f.first g.first f.behind g.behind f.number g.number f.found g.found f.rest g.rest
    (sym f.list ∙ g.list) (sym f.bytes ∙ g.bytes) f.writable g.writable f.alteration g.alteration

all_intact : (cs : List Contents) → AllAccepted cs → Pieces cs 0 (written cs)
unfolding written
all_intact [] nil = none
all_intact (c ∷ cs) (cons a good) = intact a (all_intact cs good)

any_altered : (cs ds : List Contents) (j k : ℕ) (xs zs : List ℕ) → Pieces cs j xs → (c : Contents) → Accepts c → (n : ℕ) (ys : List ℕ) → Altered c n ys
    → Pieces ds k zs → Pieces (cs ++ (c ∷ ds)) (j + suc k) (xs ++ (ys ++ zs))
any_altered _ ds _ k _ zs none c a n ys h q = rw (zero-add (suc k)) (altered a h q)
any_altered _ ds _ k _ zs (intact {c = d} {cs = cs} {k = j} {bs = bs} b p) c a n ys h q =
    rw (append_assoc (packet_bytes d) bs (ys ++ zs)) (intact b (any_altered cs ds j k bs zs p c a n ys h q))
any_altered _ ds _ k _ zs (altered {c = d} {n = m} {ys = vs} {cs = cs} {k = j} {bs = bs} b g p) c a n ys h q =
    rw (suc-add j (suc k), append_assoc vs bs (ys ++ zs)) (altered b g (any_altered cs ds j k bs zs p c a n ys h q))

pub demand_3 : Demand3
demand_3 =
    record {
      list_handed_out = handed_out;
      different_lists = λ cs ds gc gd other same. other (one_list cs ds gc gd same);
      altered_list =
          λ cs k bs p some buf start end base within holds.
          let f = one_is_first p some in
          (f, stops f.before f.written_before f.first f.writable f.number f.found f.alteration f.rest buf start end base within (holds ∙ f.bytes));
      stops_at_altered = stops;
      first_once = first_once;
      all_intact = all_intact;
      any_altered = any_altered;
      none_altered = λ cs bs p. untouched p;
      every_change_named = change_named;
      every_byte_named = every_byte_named;
    }
