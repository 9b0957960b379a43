-- What the writer writes passes every test of the reader, and reads back as given, whatever stands behind it.
use Rattle.std.specs.Prelude.{Ok}
use mathlib.Core.Path.{◌≡◌, refl, sym, ap, ◌∙◌}
use mathlib.Core.List.{List, [], ◌++◌, append_assoc, append-nil}
use Prim.Native.Nat.{ℕ, ◌+◌, ◌-◌, ◌≤◌}
use native.Mathlib.Omega.{arith}
use lib.ListN.{length, drop, replicate, length-append, length-replicate}
use lib.Seq.{take-take, take-length}
use borrow.Author.Tests.{eq-eqb, le-leb}
use Rattle.units.specs.Units.{Bytes, part, num}
use Rattle.frame.specs.Sums.{data_sum}
use Rattle.units.proofs.Numbers.{bytes_append, length_bytes_of, zeros_replicate}
use Rattle.units.proofs.Parts.{part_at, part_part}
use Rattle.frame.specs.Header.{channel_in, packet_length, data_length, version_in, sequence_in, flags_in, kind_in, rtc_in, time_in, sum_code, sum_length, secondary_length, body_at, filler_for, secondary_in, body_in, filler_in, body_and_filler_in, data_sum_in, fields_in}
use Rattle.frame.specs.Table.{first, frame_lines}
use Rattle.frame.specs.inner.Lengths.{Sound}
use Rattle.frame.proofs.Frames.{Framed, framed_passes, frame_sound, Lengths, lengths_say, limit_cap, packet_length_front, body_front, fields_front, frame_front, OfFront, own_bytes_lem}
use Rattle.frame.specs.Contents.{Contents, contents_length}
use Rattle.packet_bytes.specs.Bytes.{head_bytes, secondary_bytes, body_and_filler_bytes, data_bytes, packet_bytes}
use Rattle.packet_bytes.proofs.Puts.{length_head, length_secondary, length_filled}
use Rattle.packet.specs.Read.{window, packet_in, body_checked, read_packet}
use Rattle.packet.specs.declared.Packet.{Packet}
use Rattle.packet.proofs.Passes.{Inside, window_ends}
use Rattle.packet.proofs.Own.{at_accepted, checked_front}
use Rattle.promises.specs.Contents.{Typed, Accepts, contents_of}
use Rattle.promises.specs.Altered.{flags_of}
use Rattle.promises.proofs.Writer.{Writable, length_of_lem, accepts_writable}
use Rattle.promises.proofs.Regions.{HeadIs, head_is, head_summed, head_bytes_lem, secondary_summed_lem, secondary_reserved, secondary_time, secondary_bytes_lem, sum_bytes, data_parts, sum_back, data_bytes_lem}

-- ---- the packet's regions

abbrev time_of : Contents → ℕ
time_of c = c.fields.time

abbrev head_of : Contents → List ℕ
head_of c = head_bytes c.fields (contents_length c) (length c.body)

abbrev secondary_of : Contents → List ℕ
secondary_of c = secondary_bytes (flags_of c) (time_of c)

abbrev data_of : Contents → List ℕ
data_of c = data_bytes (flags_of c) c.body

abbrev filled_of : Contents → List ℕ
filled_of c = body_and_filler_bytes (flags_of c) c.body

abbrev filler_of : Contents → List ℕ
filler_of c = replicate (filler_for (flags_of c) (length c.body)) 0

abbrev sum_of : Contents → List ℕ
sum_of c = sum_bytes (flags_of c) c.body

module _ (c : Contents) where
  -- where each begins
  head_length : length (head_of c) ≡ 24
  head_length = length_head c.fields (contents_length c) (length c.body)

  before_body : length (head_of c ++ secondary_of c) ≡ body_at (flags_of c)
  before_body = omega (arith, length-append (head_of c) (secondary_of c), head_length, length_secondary (flags_of c) (time_of c))

  before_filler : length (head_of c ++ secondary_of c ++ c.body) ≡ body_at (flags_of c) + length c.body
  before_filler = omega (arith, length-append (head_of c ++ secondary_of c) c.body, before_body)

  before_sum : length (head_of c ++ secondary_of c ++ filled_of c) ≡ contents_length c - sum_length (flags_of c)
  before_sum = omega (arith, length-append (head_of c ++ secondary_of c) (filled_of c), before_body, length_filled (flags_of c) c.body)

  -- what stands before and behind it
  around_secondary : packet_bytes c ≡ head_of c ++ (secondary_of c ++ data_of c)
  unfolding packet_bytes
  around_secondary = append_assoc (head_of c) (secondary_of c) (data_of c)

  around_body : packet_bytes c ≡ head_of c ++ secondary_of c ++ (c.body ++ (filler_of c ++ sum_of c))
  unfolding packet_bytes
  around_body = rw (data_parts (flags_of c) c.body)

  around_filler : packet_bytes c ≡ head_of c ++ secondary_of c ++ c.body ++ (filler_of c ++ sum_of c)
  around_filler = around_body ∙ sym (append_assoc (head_of c ++ secondary_of c) c.body (filler_of c ++ sum_of c))

  around_filled : packet_bytes c ≡ head_of c ++ secondary_of c ++ (filled_of c ++ sum_of c)
  unfolding packet_bytes data_bytes
  around_filled = refl

  around_sum : packet_bytes c ≡ head_of c ++ secondary_of c ++ filled_of c ++ (sum_of c ++ [])
  around_sum = rw append-nil (around_filled ∙ sym (append_assoc (head_of c ++ secondary_of c) (filled_of c) (sum_of c)))

  pub written_bytes : Typed c → Bytes (packet_bytes c)
  written_bytes t =
      rw around_secondary
      (bytes_append (head_of c) (secondary_of c ++ data_of c) (head_bytes_lem c.fields (contents_length c) (length c.body) t.version t.sequence t.flags t.kind)
      (bytes_append (secondary_of c) (data_of c) (secondary_bytes_lem (flags_of c) (time_of c)) (data_bytes_lem (flags_of c) c.body t.body)))

module _ (c : Contents) (t : Typed c) (r : Writable c) where
  -- ---- the header's numbers

  lengths : Lengths c.fields.kind (flags_of c) (contents_length c) (length c.body)
  lengths = lengths_say c.fields.kind (flags_of c) (contents_length c) (length c.body) r.values.lengths_ok

  capped : contents_length c ≤ 134217728
  capped = omega (arith, lengths.within, limit_cap c.fields.kind)

  head_back : HeadIs c.fields (contents_length c) (length c.body) (packet_bytes c)
  head_back = rw (around_secondary c) (head_is c.fields (contents_length c) (length c.body) (secondary_of c ++ data_of c))

  channel_back : channel_in (packet_bytes c) ≡ c.fields.channel
  channel_back = head_back.channel t.channel

  pub written_length : packet_length (packet_bytes c) ≡ contents_length c
  written_length = head_back.packet_length_lem (omega (arith, capped))

  pub written_data_length : data_length (packet_bytes c) ≡ length c.body
  written_data_length = head_back.data_length_lem (omega (arith, capped))

  version_back : version_in (packet_bytes c) ≡ c.fields.version
  version_back = head_back.version

  sequence_back : sequence_in (packet_bytes c) ≡ c.fields.sequence
  sequence_back = head_back.sequence

  flags_back : flags_in (packet_bytes c) ≡ flags_of c
  flags_back = head_back.flags

  kind_back : kind_in (packet_bytes c) ≡ c.fields.kind
  kind_back = head_back.kind

  rtc_back : rtc_in (packet_bytes c) ≡ c.fields.rtc
  rtc_back = head_back.rtc r.rtc

  -- ---- the parts behind it

  secondary_back : secondary_in (packet_bytes c) ≡ secondary_of c
  secondary_back =
      rw flags_back
      (part_at (packet_bytes c) (head_of c) (secondary_of c) (data_of c) 24 (secondary_length (flags_of c)) (around_secondary c) (head_length c)
      (length_secondary (flags_of c) (time_of c)))

  time_back : time_in (packet_bytes c) ≡ time_of c
  time_back = rw secondary_back (secondary_time (flags_of c) (time_of c) t.time r.absent)

  pub written_body : body_in (packet_bytes c) ≡ c.body
  written_body =
      rw (flags_back, written_data_length)
      (part_at (packet_bytes c) (head_of c ++ secondary_of c) c.body (filler_of c ++ sum_of c) _ _ (around_body c) (before_body c) refl)

  filler_back : filler_in (packet_bytes c) ≡ filler_of c
  filler_back =
      let g = filler_for (flags_of c) (length c.body) in
      let n : contents_length c - sum_length (flags_of c) - (body_at (flags_of c) + length c.body) ≡ g = omega arith in
      rw (flags_back, written_data_length, written_length, n)
      (part_at (packet_bytes c) (head_of c ++ secondary_of c ++ c.body) (filler_of c) (sum_of c) _ g (around_filler c) (before_filler c) (length-replicate {A = ℕ} g 0))

  filled_back : body_and_filler_in (packet_bytes c) ≡ filled_of c
  filled_back =
      let n : contents_length c - sum_length (flags_of c) - body_at (flags_of c) ≡ length c.body + filler_for (flags_of c) (length c.body) = omega arith in
      rw (flags_back, written_length, n)
      (part_at (packet_bytes c) (head_of c ++ secondary_of c) (filled_of c) (sum_of c) _ _ (around_filled c) (before_body c) (length_filled (flags_of c) c.body))

  data_sum_back : data_sum_in (packet_bytes c) ≡ data_sum (sum_code (flags_of c)) (filled_of c)
  data_sum_back =
      rw (flags_back, written_length)
      (ap num
      (part_at (packet_bytes c) (head_of c ++ secondary_of c ++ filled_of c) (sum_of c) [] _ _ (around_sum c) (before_sum c) (length_bytes_of (sum_length (flags_of c)) _))
      ∙ sum_back (flags_of c) c.body)

  -- ---- what the reader finds

  pub written_fields : fields_in (packet_bytes c) ≡ c.fields
  unfolding fields_in
  written_fields = λ i. record {
    channel = channel_back i;
    version = version_back i;
    sequence = sequence_back i;
    flags = flags_back i;
    kind = kind_back i;
    rtc = rtc_back i;
    time = time_back i;
  }

  -- 2 to 14
  pub written_framed : Framed (packet_bytes c)
  written_framed =
      let behind = secondary_of c ++ data_of c in
      let sum = data_sum (sum_code (flags_of c)) (filled_of c) in
      record {
        enough = le-leb 24 (length (packet_bytes c)) (omega (arith, length_of_lem c, lengths.parts));
        synced = head_back.sync;
        header_summed = rw (around_secondary c) (head_summed c.fields (contents_length c) (length c.body) behind);
        values = rw (channel_back, version_back, flags_back, kind_back, written_length, written_data_length) r.values;
        whole = le-leb (packet_length (packet_bytes c)) (length (packet_bytes c)) (omega (arith, written_length, length_of_lem c));
        secondary_summed = rw secondary_back (secondary_summed_lem (flags_of c) (time_of c));
        secondary_ok = rw (time_back, secondary_back, flags_back, secondary_reserved (flags_of c) (time_of c)) r.time;
        data_summed = rw (filled_back, data_sum_back, flags_back) (eq-eqb sum sum refl);
        filler_ok = rw filler_back (zeros_replicate (filler_for (flags_of c) (length c.body)));
      }

  -- 15
  pub written_checked : body_checked (packet_bytes c) ≡ Ok r.count
  unfolding body_checked
  written_checked = rw (written_body, written_fields) r.body

  pub written_sound : Sound (packet_bytes c)
  written_sound = frame_sound (packet_bytes c) (framed_passes (packet_bytes c) written_framed)

-- ---- read again, in a window that begins with it

module _ (c : Contents) (a : Accepts c) (buf : List ℕ) (s e base : ℕ) (within : Inside buf s e base) (fits : s + length (packet_bytes c) ≤ e)
    (same : part buf s (length (packet_bytes c)) ≡ packet_bytes c) where
  -- what is said of a packet alone is said of the window
  said : {A : Type 0} (what : List ℕ → A) → OfFront what → what (window buf s e) ≡ what (packet_bytes c)
  said what front =
      let r = accepts_writable c a in
      let n : packet_length (packet_bytes c) ≡ length (packet_bytes c) = written_length c a.typed r ∙ sym (length_of_lem c) in
      own_bytes_lem what front (packet_bytes c) (window buf s e) (written_sound c a.typed r)
      (rw n (take-take (length (packet_bytes c)) (e - s) (drop s buf) (omega arith) ∙ same ∙ sym (take-length (packet_bytes c))))

  pub read_written : (p : Packet) × (read_packet buf s e base ≡ Ok p) × (contents_of buf p ≡ c) × (p.length ≡ length (packet_bytes c))
  unfolding packet_in
  read_written =
      let r = accepts_writable c a in
      let w = window buf s e in
      let framed : first (frame_lines w) ≡ 0 = ap first (said frame_lines frame_front) ∙ framed_passes (packet_bytes c) (written_framed c a.typed r) in
      let sound = frame_sound w framed in
      let long = said packet_length packet_length_front ∙ written_length c a.typed r ∙ sym (length_of_lem c) in
      let fields : fields_in w ≡ c.fields = said fields_in fields_front ∙ written_fields c a.typed r in
      let place : body_at (flags_in w) + data_length w ≤ e - s = omega (arith, sound.parts, sound.there, window_ends buf s e base within) in
      let body : part buf (s + body_at (flags_in w)) (data_length w) ≡ c.body =
      sym (part_part buf s (e - s) (body_at (flags_in w)) (data_length w) place) ∙ said body_in body_front ∙ written_body c a.typed r in (
        packet_in w s base,
        at_accepted buf s e base (packet_in w s base) within
            (record { framed = framed; sound = sound; count = r.count; body = said body_checked checked_front ∙ written_checked c a.typed r; long = refl })
            refl,
        (λ i. record { fields = fields i; body = body i }),
        long,
      )
