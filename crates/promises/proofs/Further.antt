-- Reading ahead: what is read of a window that is filled further, and of the same bytes at another place of a buffer.
use Rattle.std.specs.Prelude.{Result, Ok, Err}
use mathlib.Core.Path.{◌≡◌, refl, sym, ap, subst, ◌∙◌}
use mathlib.Core.List.{List, [], ◌∷◌, map, append-nil}
use mathlib.Core.Bool.{Bool, true, false}
use mathlib.Core.Logic.{◌≢◌, ⊎_elim}
use Prim.Native.Nat.{ℕ, zero, suc, ◌+◌, ◌-◌, ◌≤◌, ◌<◌}
use native.Mathlib.Omega.{arith}
use native.Mathlib.Nat.{add-zero}
use lib.ListN.{length, take}
use lib.Dec.{leb}
use borrow.Author.Tests.{leb-true, leb-false}
use Rattle.units.specs.Units.{part}
use Rattle.terms.specs.declared.Refusal.{Refusal}
use Rattle.frame.specs.Header.{flags_in, secondary_length, body_at, filler_at, sum_at, data_length, filler_length, sum_length}
use Rattle.frame.specs.Table.{first, frame_lines}
use Rattle.frame.proofs.Tables.{stage_some}
use Rattle.packet.specs.Read.{window, packet_in, pass_bytes, read_answer, read_packet, packet_told}
use Rattle.packet.specs.declared.Part.{Part}
use Rattle.packet.specs.declared.Packet.{Packet}
use Rattle.packet.proofs.Passes.{Inside, inside_made, inside_on, window_ends, pass_inside}
use Rattle.packet.proofs.Window.{own_part}
use Rattle.packet.proofs.Own.{accepted_at, accepted_fits}
use Rattle.packet.proofs.Longer.{answer_longer, from_to, pass_elsewhere}
use Rattle.recording.specs.Reading.{Reading, ahead, reading, read_recording}
use Rattle.recording.specs.declared.Recording.{Recording}
use Rattle.recording.proofs.Readings.{from, joined, from_end, from_on, from_stops, reading_inside}
use Rattle.promises.specs.Handed.{length_of, Within, HandsOut}
use Rattle.promises.specs.Ahead.{waiting, Waits, in_recording, bytes_in, seen, refused_in}
use Rattle.promises.proofs.HandedOut.{answer, accepted_here, refused_here, inside_within, hands_out, hands_out_once, window_behind, window_longer}
use Rattle.promises.proofs.Members.{among_one}
use Rattle.promises.proofs.Refusing.{bytes_lines, all_lines, number_is}

-- ---- one packet

module _ (buf : List ℕ) (s e base : ℕ) (in_buf : Inside buf s e base) where
  read_bytes : read_packet buf s e base ≡ read_answer (pass_bytes (window buf s e) s) (window buf s e) s base
  unfolding read_packet
  read_bytes = rw (pass_inside buf s e base (inside_made buf s e base in_buf))

  -- the table's number is told
  pub told_first : (packet_told (read_packet buf s e base)).refusal.number ≡ first (bytes_lines (window buf s e))
  unfolding all_lines first
  told_first = number_is buf s e base ∙ rw (inside_made buf s e base in_buf)

  pub told_frame : (n : ℕ) → n ≢ 0 → first (frame_lines (window buf s e)) ≡ n → (packet_told (read_packet buf s e base)).refusal.number ≡ n
  told_frame n some q = told_first ∙ sym (stage_some (frame_lines (window buf s e)) _ n (sym q) some)

-- filled further
module _ (buf : List ℕ) (s e e' base : ℕ) (in_buf : Inside buf s e base) (in-further : Inside buf s e' base) (longer : e ≤ e') where
  -- what is told of the first window, 2 and 10 apart, is told of the second
  pub read_longer : (packet_told (read_packet buf s e base)).refusal.number ≢ 2 → (packet_told (read_packet buf s e base)).refusal.number ≢ 10
      → read_packet buf s e' base ≡ read_packet buf s e base
  read_longer not-2 not-10 =
      read_bytes buf s e' base in-further ∙ rw (window_longer buf s e e' in_buf.ordered longer)
      (answer_longer (window buf s e) (part buf e (e' - e)) s
      (λ q. not-2 (told_frame buf s e base in_buf 2 (λ (z : ◌≡◌ {A = ℕ} 2 0). omega arith) q))
      (λ q. not-10 (told_frame buf s e base in_buf 10 (λ (z : ◌≡◌ {A = ℕ} 10 0). omega arith) q))
      base)
      ∙ sym (read_bytes buf s e base in_buf)

-- ---- a recording, filled further

module _ (buf : List ℕ) (e e' : ℕ) (longer : e ≤ e') where
  -- the second hands out what the first does, and reads on from there
  abbrev ReadsOn : ℕ → ℕ → Type 0
  ReadsOn s base =
      from buf s e' base ≡ joined (from buf s e base).packets (from buf (from buf s e base).reached e' (from buf s e base).recording_reached)

  reads_on_to : (turns s base : ℕ) → e - s ≤ turns → Inside buf s e base → Inside buf s e' base → ReadsOn s base
  reads_on_to zero s base t i i' = rw (from_end buf s e base (omega arith)) refl
  reads_on_to (suc turns) s base t i i' = go (reads_on_to turns) (leb e s) (read_packet buf s e base) refl refl
    where
      go : ((s base : ℕ) → e - s ≤ turns → Inside buf s e base → Inside buf s e' base → ReadsOn s base)
          → (b : Bool) (x : Result Packet Refusal) → leb e s ≡ b → read_packet buf s e base ≡ x → ReadsOn s base
      go f true x l q = rw (from_end buf s e base (leb-true e s l)) refl
      go f false (Ok p) l q =
          let k = accepted_fits buf s e base p q in
          let told : (packet_told (read_packet buf s e base)).refusal.number ≡ 0 = ap (λ (x : Result Packet Refusal). (packet_told x).refusal.number) q in
          let again : read_packet buf s e' base ≡ Ok p = read_longer buf s e e' base i i' longer (λ z. omega (arith, told, z)) (λ z. omega (arith, told, z)) ∙ q in
          let i₂ = inside_on buf s e base p.length i k.within in
          let i₂' = inside_on buf s e' base p.length i' (omega (arith, k.within)) in
          rw (from_on buf s e base p (leb-false e s l) q, from_on buf s e' base p (omega (arith, leb-false e s l)) again)
          (ap (λ (r : Reading). ahead p r) (f (s + p.length) (base + p.length) (omega (arith, k.some)) i₂ i₂'))
      go f false (Err r) l q = rw (from_stops buf s e base r (leb-false e s l) q) refl

  pub reads_on : (s base : ℕ) → Inside buf s e base → Inside buf s e' base → ReadsOn s base
  reads_on s base = reads_on_to (e - s) s base (omega arith)

-- ---- the same bytes elsewhere

-- an answer by its places in the recording
abbrev pub in_read : Result Packet Refusal → Result Packet Refusal
in_read (Ok p) = Ok (in_recording p)
in_read (Err r) = Err (refused_in r)

far : (base at to n : ℕ) → base + (at + n - at) ≡ base + (to + n - to)
far base at to n = omega arith

packet_elsewhere_lem : (w : List ℕ) (at to base : ℕ) → in_recording (packet_in w at base) ≡ in_recording (packet_in w to base)
unfolding packet_in
packet_elsewhere_lem w at to base =
    let there : (n m : ℕ) → ◌≡◌ {A = Part} (record { at = base + (at + n - at); length = m }) (record { at = base + (to + n - to); length = m }) =
    λ n m i. record { at = far base at to n i; length = m } in
    let here : base + (at - at) ≡ base + (to - to) = omega arith in
    λ i.
    record {
      fields = (packet_in w at base).fields;
      length = (packet_in w at base).length;
      data_length = (packet_in w at base).data_length;
      header_sum = (packet_in w at base).header_sum;
      data_sum = (packet_in w at base).data_sum;
      recording_place = base;
      header = record { at = here i; length = 24 };
      secondary = there 24 (secondary_length (flags_in w)) i;
      body = there (body_at (flags_in w)) (data_length w) i;
      filler = there (filler_at w) (filler_length w) i;
      sum = there (sum_at w) (sum_length (flags_in w)) i;
    }

answer_elsewhere : (w : List ℕ) (at to base : ℕ) → in_read (read_answer (pass_bytes w at) w at base) ≡ in_read (read_answer (pass_bytes w to) w to base)
unfolding read_answer
answer_elsewhere w at to base = rw (pass_elsewhere w at to) (go (pass_bytes w at))
  where
    go : (x : Result ℕ Refusal) → in_read (read_answer x w at base) ≡ in_read (read_answer (from_to at to x) w to base)
    go (Ok n) = ap Ok (packet_elsewhere_lem w at to base)
    go (Err r) =
        let place : base + (r.place - at) ≡ base + (to + (r.place - at) - to) = omega arith in
        λ i. Err (record { number = r.number; place = place i; room = r.room; reason = r.reason; recording_place = place i })

pub answers_elsewhere : (a b : List ℕ) (s e s' e' base : ℕ) → Inside a s e base → Inside b s' e' base → window a s e ≡ window b s' e'
    → in_read (read_packet a s e base) ≡ in_read (read_packet b s' e' base)
answers_elsewhere a b s e s' e' base i i' same =
    rw (read_bytes a s e base i, read_bytes b s' e' base i', same) (answer_elsewhere (window b s' e') s s' base)

-- two readings that tell the same of the recording
pub record SameFrom (a b : List ℕ) (r r' : Reading) : Type 0 where
  pub packets : map (seen a) r.packets ≡ map (seen b) r'.packets
  pub reached : r.recording_reached ≡ r'.recording_reached
  pub refusal : refused_in r.refusal ≡ refused_in r'.refusal

-- the bytes of an accepted packet, by its place, are the first ones of its window
bytes_there : (buf : List ℕ) (s e base : ℕ) (p : Packet) → read_packet buf s e base ≡ Ok p → bytes_in buf p ≡ take p.length (window buf s e)
unfolding packet_in
bytes_there buf s e base p q =
    let k = accepted_fits buf s e base p q in
    let at : p.header.at ≡ s = ap (λ (x : Packet). x.header.at) (accepted_at buf s e base p q).packet in
    rw at (own_part buf s e p.length (omega (arith, k.within)))

module _ (a b : List ℕ) (e e' : ℕ) where
  alike_to : (turns s s' base : ℕ) → e - s ≤ turns → Inside a s e base → Inside b s' e' base → window a s e ≡ window b s' e' → SameFrom a b (from a s e base) (from b s' e' base)
  alike_to zero s s' base t i i' same =
      let long : s' + length (window a s e) ≡ e' = rw same (window_ends b s' e' base i') in
      rw (from_end a s e base (omega arith), from_end b s' e' base (omega (arith, long, window_ends a s e base i)))
      (record { packets = refl; reached = refl; refusal = refl })
  alike_to (suc turns) s s' base t i i' same =
      go (alike_to turns) (leb e s) (read_packet a s e base) (read_packet b s' e' base) refl refl refl (answers_elsewhere a b s e s' e' base i i' same)
      (rw same (window_ends b s' e' base i'))
    where
      go : ((s s' base : ℕ) → e - s ≤ turns → Inside a s e base → Inside b s' e' base → window a s e ≡ window b s' e' → SameFrom a b (from a s e base) (from b s' e' base))
          → (t : Bool) (x y : Result Packet Refusal) → leb e s ≡ t → read_packet a s e base ≡ x → read_packet b s' e' base ≡ y
          → in_read (read_packet a s e base) ≡ in_read (read_packet b s' e' base) → s' + length (window a s e) ≡ e' → SameFrom a b (from a s e base) (from b s' e' base)
      go f true x y l q q' is long =
          rw (from_end a s e base (leb-true e s l), from_end b s' e' base (omega (arith, long, window_ends a s e base i, leb-true e s l)))
          (record { packets = refl; reached = refl; refusal = refl })
      go f false (Ok p) (Ok p') l q q' is long =
          let k = accepted_fits a s e base p q in
          let k' = accepted_fits b s' e' base p' q' in
          let alike : in_recording p ≡ in_recording p' = cc (rw (q, q') at is) in
          let n : p.length ≡ p'.length = ap (λ (x : Packet). x.length) alike in
          let bytes : bytes_in a p ≡ bytes_in b p' = bytes_there a s e base p q ∙ rw (same, n) (sym (bytes_there b s' e' base p' q')) in
          let behind : window a (s + p.length) e ≡ window b (s' + p'.length) e' =
          sym (window_behind a s p.length e) ∙ rw (same, n) (window_behind b s' p'.length e') in
          let next : SameFrom a b (from a (s + p.length) e (base + p.length)) (from b (s' + p'.length) e' (base + p.length)) =
          f (s + p.length) (s' + p'.length) (base + p.length) (omega (arith, k.some)) (inside_on a s e base p.length i k.within)
          (rw n (inside_on b s' e' base p'.length i' k'.within)) behind in
          let one : seen a p ≡ seen b p' = λ j. record { packet = alike j; bytes = bytes j } in
          let on : SameFrom a b (from a (s + p.length) e (base + p.length)) (from b (s' + p'.length) e' (base + p'.length)) =
          subst (λ (m : ℕ). SameFrom a b (from a (s + p.length) e (base + p.length)) (from b (s' + p'.length) e' (base + m))) n next in
          rw (from_on a s e base p (leb-false e s l) q, from_on b s' e' base p' (omega (arith, k'.some, k'.within)) q')
          (record { packets = λ j. one j ∷ on.packets j; reached = on.reached; refusal = on.refusal })
      go f false (Err r) (Err r') l q q' is long =
          let alike : refused_in r ≡ refused_in r' = cc (rw (q, q') at is) in
          rw (from_stops a s e base r (leb-false e s l) q, from_stops b s' e' base r' (omega (arith, long, window_ends a s e base i, leb-false e s l)) q')
          (record { packets = refl; reached = refl; refusal = alike })
      go f false (Ok p) (Err r') l q q' is long = let contrary : ◌≡◌ {A = ℕ} 0 1 = cc (rw (q, q') at is) in absurd (omega arith)
      go f false (Err r) (Ok p') l q q' is long = let contrary : ◌≡◌ {A = ℕ} 0 1 = cc (rw (q, q') at is) in absurd (omega arith)

  pub from_elsewhere : (s s' base : ℕ) → Inside a s e base → Inside b s' e' base → window a s e ≡ window b s' e' → SameFrom a b (from a s e base) (from b s' e' base)
  from_elsewhere s s' base = alike_to (e - s) s s' base (omega arith)

-- ---- a reading from a place of its window on, told as a recording

module _ (buf : List ℕ) (s e base : ℕ) (i : Inside buf s e base) where
  pub reading_from : reading buf s e base ≡ from buf s e base
  reading_from = reading_inside buf s e base (inside_made buf s e base i)

  pub recording_from : read_recording buf s e base ≡ answer (from buf s e base)
  unfolding read_recording
  recording_from = ap answer reading_from

  pub handed_from : HandsOut buf s e base (answer (from buf s e base)) (from buf s e base).packets
  unfolding read_recording
  handed_from = rw (← reading_from) (hands_out buf s e base)

  -- no others are handed out
  pub packets_from : (r : Recording) (ps : List Packet) → HandsOut buf s e base r ps → ps ≡ (from buf s e base).packets
  packets_from r ps h = (hands_out_once buf s e base r ps h).1 ∙ ap (λ (x : Reading). x.packets) reading_from

  -- it comes so far, in the buffer and in the recording
  pub come : (n : ℕ) × ((from buf s e base).reached ≡ s + n) × ((from buf s e base).recording_reached ≡ base + n) × (s + n ≤ e)
  come =
      let h = handed_from in
      let n = length_of (from buf s e base).packets in
      let within : Within buf s e base = (i.ordered, i.within, omega (arith, i.fits)) in
      (n, h.covers, h.recorded, ⊎_elim (λ f. omega (arith, h.covers, f.1)) (λ f. omega (arith, h.covers, f.2 within)) h.ends)

module _ (buf : List ℕ) (s e e' base : ℕ) (i : Inside buf s e base) (i' : Inside buf s e' base) (longer : e ≤ e') where
  -- what can't wait stands
  pub from_decided : ¬ Waits (answer (from buf s e base)) → from buf s e' base ≡ from buf s e base
  from_decided stands =
      let r = from buf s e base in
      let h = handed_from buf s e base i in
      let c = come buf s e base i in
      let at : Inside buf r.reached e r.recording_reached = rw (c.1, c.2) (inside_on buf s e base c.0 i c.3) in
      let at' : Inside buf r.reached e' r.recording_reached = rw (c.1, c.2) (inside_on buf s e' base c.0 i' (omega (arith, c.3))) in
      ⊎_elim
      (λ f. absurd (stands (rw f.2 (among_one 0 waiting refl))))
      (λ f.
      let number : (packet_told (read_packet buf r.reached e r.recording_reached)).refusal.number ≡ r.refusal.number = ap (λ (x : Refusal). x.number) f.0 in
      let again : read_packet buf r.reached e' r.recording_reached ≡ Err r.refusal =
      read_longer buf r.reached e e' r.recording_reached at at' longer (λ z. stands (rw (sym number ∙ z) (among_one 2 waiting refl))) (λ z. stands (rw (sym number ∙ z) (among_one 10 waiting refl)))
      ∙ refused_here buf e r.reached r.recording_reached r.refusal f.0 f.1 in
      reads_on buf e e' longer s base i i'
      ∙ ap (joined r.packets) (from_stops buf r.reached e' r.recording_reached r.refusal (omega (arith, c.1, c.3, f.2 (inside_within buf s e base (inside_made buf s e base i)))) again)
      ∙ (λ j. record { packets = append-nil r.packets j; reached = r.reached; recording_reached = r.recording_reached; refusal = r.refusal }))
      h.ends

-- packets that are handed out are longer than nothing
pub some_length : (buf : List ℕ) (s e base : ℕ) (r : Recording) (ps : List Packet) → HandsOut buf s e base r ps → 1 ≤ length ps → 0 < length_of ps
unfolding length_of
some_length buf s e base r [] h some = absurd (omega arith)
some_length buf s e base r (p ∷ ps) h some =
    let q = accepted_here buf e s base p (rw (add-zero s, add-zero base) at (h.each 0 (omega arith))) in
    omega (arith, (accepted_fits buf s e base p q).some)
