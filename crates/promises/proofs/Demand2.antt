-- Demand 2 holds.
use Rattle.std.specs.Prelude.{Result, Ok}
use mathlib.Core.Path.{◌≡◌, refl, sym, ap, subst, ◌∙◌}
use mathlib.Core.List.{List, ◌++◌}
use Prim.Native.Nat.{ℕ, ◌+◌, ◌≤◌}
use native.Mathlib.Omega.{arith}
use lib.ListN.{length, take}
use lib.Seq.{take_at}
use Rattle.units.specs.Units.{Bytes, part}
use Rattle.units.proofs.Parts.{length_part, part_add, field_add}
use Rattle.body.specs.declared.Form.{Form}
use Rattle.frame.specs.Header.{flags_in, kind_in, body_in, fields_in}
use Rattle.frame.proofs.Stages.{the_time, no_time}
use Rattle.packet.specs.Read.{window, packet_in, read_packet, Together, packet_told}
use Rattle.terms.specs.Refusals.{no_refusal}
use Rattle.frame.specs.Contents.{Contents, contents_length}
use Rattle.packet_bytes.specs.Bytes.{packet_bytes}
use Rattle.packet.specs.Write.{write_packet, out_after, WriteTold, write_told}
use Rattle.packet.specs.declared.Packet.{Packet}
use Rattle.packet.proofs.Own.{accepted_at, accepted_fits, together}
use Rattle.promises.specs.Contents.{Typed, output_of, contents_of}
use Rattle.promises.specs.Endings.{read_told, written_told}
use Rattle.promises.specs.Handed.{Within}
use Rattle.promises.specs.Reports.{PacketThere, Reports}
use Rattle.promises.specs.Demand2.{bytes_in, Demand2}
use Rattle.promises.proofs.Ends.{accepted_is}
use Rattle.promises.proofs.HandedOut.{within_inside}
use Rattle.promises.proofs.Writer.{Writable, written_says, writable_written, writable_accepts, accepts_writable, length_of_lem}
use Rattle.promises.proofs.Written.{read_written}
use Rattle.promises.proofs.Again.{read_again}
use Rattle.promises.proofs.BodiesKept.{opens_exactly, carries, body_kept, kept_form, blocks_once}
use Rattle.promises.proofs.Keeping.{accepted_exactly}
use Rattle.promises.proofs.Reported.{messages_there, carried_none}
use Rattle.terms.specs.declared.Refusal.{Refusal}

-- ---- what is reported

-- parts that stand one behind the other and make up P hold its bytes
five_parts : (buf : List ℕ) (start : ℕ) (p : Packet) → Together start p
    → part buf start p.length
    ≡ bytes_in buf p.header ++ (bytes_in buf p.secondary ++ (bytes_in buf p.body ++ (bytes_in buf p.filler ++ bytes_in buf p.sum)))
five_parts buf start p t =
    let h = p.header.length in
    let s = p.secondary.length in
    let b = p.body.length in
    let f = p.filler.length in
    let x = p.sum.length in
    let all : p.length ≡ h + (s + (b + (f + x))) = omega (arith, t.all) in
    rw (
      all,
      part_add buf start h (s + (b + (f + x))),
      part_add buf (start + h) s (b + (f + x)),
      part_add buf (start + h + s) b (f + x),
      part_add buf (start + h + s + b) f x,
      t.sum,
      t.filler,
      t.body,
      t.secondary,
      t.header,
    )

packet_there_is : (w : List ℕ) (at base : ℕ) → PacketThere w at base (packet_in w at base)
unfolding packet_in fields_in
packet_there_is w at base =
    record {
      channel = refl;
      long = refl;
      data_length = refl;
      version = refl;
      sequence = refl;
      flags = refl;
      kind = refl;
      rtc = refl;
      header_sum = refl;
      time = λ e. sym (the_time w _ e refl) ∙ field_add w 24 4 4;
      no_time = λ e. sym (no_time w e);
      data_sum = refl;
      recorded = refl;
      header = refl;
      secondary = refl;
      body = refl;
      filler = refl;
      sum = refl;
    }

-- ---- what is written

-- the output after a packet is written begins with its bytes
output_begins : (c : Contents) (out : List ℕ) → take (contents_length c) (out_after (Ok (contents_length c)) out (packet_bytes c)) ≡ packet_bytes c
unfolding out_after
output_begins c out = take_at (packet_bytes c) _ (contents_length c) (length_of_lem c)

-- contents that the rules have nothing against, into an output with room
writes : (c : Contents) (out : List ℕ) → Writable c → contents_length c ≤ length out
    → (write_told (write_packet c (length out)) ≡ written_told no_refusal (contents_length c)) × (take (contents_length c) (output_of c out) ≡ packet_bytes c)
writes c out r room =
    let w = writable_written c (length out) r room in
    (ap write_told w, ap (λ (x : Result ℕ Refusal). take (contents_length c) (out_after x out (packet_bytes c))) w ∙ output_begins c out)

reads_back : (c : Contents) → Typed c → (out : List ℕ) (n : ℕ) → write_told (write_packet c (length out)) ≡ written_told no_refusal n
    → (buf : List ℕ) (start end base : ℕ) → Within buf start end base → start + n ≤ end → part buf start n ≡ take n (output_of c out)
    → (p : Packet) × (packet_told (read_packet buf start end base) ≡ read_told no_refusal p) × (contents_of buf p ≡ c) × (p.length ≡ n)
reads_back c typed out n is buf start end base within fits same =
    let (r, room) = written_says c (length out) (ap (λ (t : WriteTold). t.refusal.number) is) in
    let w = writes c out r room in
    let long : n ≡ length (packet_bytes c) = sym (ap (λ (t : WriteTold). t.length) is) ∙ ap (λ (t : WriteTold). t.length) w.0 ∙ sym (length_of_lem c) in
    let there : part buf start (length (packet_bytes c)) ≡ packet_bytes c =
    rw long at same ∙ ap (λ (k : ℕ). take k (output_of c out)) (length_of_lem c) ∙ w.1 in
    let (p, accepted, contents, length) = read_written c (writable_accepts c typed r) buf start end base (within_inside buf start end base within) (omega arith) there in
    (p, ap packet_told accepted, contents, length ∙ sym long)

again : (buf : List ℕ) → Bytes buf → (start end base : ℕ) (p : Packet) → packet_told (read_packet buf start end base) ≡ read_told no_refusal p
    → (out : List ℕ) → p.length ≤ length out
    → (write_told (write_packet (contents_of buf p) (length out)) ≡ written_told no_refusal p.length)
    × (take p.length (output_of (contents_of buf p) out) ≡ part buf start p.length)
again buf raw start end base p is out room =
    let accepted = accepted_is buf start end base p is in
    let c = contents_of buf p in
    let (a, same) = read_again buf start end base p raw accepted in
    let inside : start + p.length ≤ length buf =
    omega (arith, (accepted_fits buf start end base p accepted).within, (accepted_at buf start end base p accepted).inside.within) in
    let long : contents_length c ≡ p.length = sym (length_of_lem c) ∙ ap length same ∙ length_part buf start p.length inside in
    let w = writes c out (accepts_writable c a) (omega arith) in
    (rw (← long) w.0, rw (← long) w.1 ∙ same)

pub demand_2 : Demand2
demand_2 =
    record {
      accepted_exactly = accepted_exactly;
      packet_there =
          λ buf start end base p is.
          rw (accepted_at buf start end base p (accepted_is buf start end base p is)).packet (packet_there_is (window buf start end) start base);
      parts_there =
          λ buf start end base p is. let t = together buf start end base p (accepted_is buf start end base p is) in (t, five_parts buf start p t);
      messages_there =
          λ buf raw start end base p is kind.
          let w = window buf start end in
          let o = (opens_exactly (kind_in w)).1 kind in
          let (es, b, reports) = messages_there buf start end base p raw (accepted_is buf start end base p is) o in
          let same = sym (kept_form (kind_in w) (flags_in w) (body_in w) es kind b) in
          (es, (body_kept (kind_in w) (flags_in w) (body_in w) es kind).0 b, subst (λ (form : Form). Reports buf start end base es form) same reports);
      messages_once = blocks_once;
      carried_none =
          λ buf start end base p is other. carried_none buf start end base p (accepted_is buf start end base p is) (carries (kind_in (window buf start end)) other);
      written_reads_back = reads_back;
      written_again = again;
    }
