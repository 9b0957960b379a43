-- Demand 1 holds.
use Rattle.std.specs.Prelude.{Result, Ok, Err}
use mathlib.Core.Path.{◌≡◌, refl, sym, ap, ◌∙◌}
use mathlib.Core.List.{List}
use mathlib.Core.Logic.{inl, inr, ⊎_elim, ◌≢◌}
use Prim.Native.Nat.{ℕ, ◌+◌, ◌≤◌}
use native.Mathlib.Omega.{arith}
use lib.ListN.{length}
use Rattle.units.specs.Units.{part}
use Rattle.terms.specs.declared.Refusal.{Refusal}
use Rattle.builder.specs.Build.{buf_after, step_told}
use Rattle.packet.specs.Read.{window, read_packet, packet_told}
use Rattle.terms.specs.Refusals.{no_refusal}
use Rattle.packet.specs.Messages.{list_packet, list_after, starts, lengths, list_told, message_told}
use Rattle.packet.specs.Write.{out_after, write_told}
use Rattle.packet.specs.declared.Packet.{Packet}
use Rattle.packet.proofs.Window.{entries_kept, count_fits, length_after, read_window, list_window, message_window, entries_window}
use Rattle.packet.proofs.Own.{own_read, own_list, own_message, own_entries}
use Rattle.recording.specs.Reading.{Reading, reading, read_recording}
use Rattle.promises.specs.Handed.{Within, HandsOut}
use Rattle.packet.proofs.Passes.{inside_made}
use Rattle.recording.proofs.Readings.{from_end, reading_inside, reading_outside}
use Rattle.promises.proofs.HandedOut.{answer, within_inside, not_inside, hands_out, hands_out_once, reading_window, recording_window}
use Rattle.promises.specs.Refusals.{reader_refusals}
use Rattle.promises.specs.Endings.{FromTable, refused_there, read_told}
use Rattle.promises.specs.Demand1.{Alike, ListKept, Demand1}
use Rattle.promises.proofs.BodiesKept.{fault_kept_exactly, fault_kept_once}
use Rattle.promises.proofs.Refusing.{read_numbered, start_recorded}
use Rattle.promises.proofs.Ends.{accepted_is, read_ends, read_placed, list_ends, message_ends}
use Rattle.builder.specs.declared.Draft.{Draft}

-- ---- the window

module _ (a b : List ℕ) (start end base : ℕ) (in_a : end ≤ length a) (in_b : end ≤ length b) (same : window a start end ≡ window b start end) where
  outside : Alike start base a end b end
  outside =
      record {
        read = ap packet_told (read_window a b start end base in_a in_b same);
        list = λ m n. ap list_told (list_window a b start end base in_a in_b same m n);
        starts_told = λ m n old old'. (entries_window a b start end base in_a in_b same m n old old').0;
        lengths_told = λ m n old old'. (entries_window a b start end base in_a in_b same m n old old').1;
        message = λ k. ap message_told (message_window a b start end base in_a in_b same k);
      }

  handed_alike : (ps : List Packet) → HandsOut a start end base (read_recording a start end base) ps → HandsOut b start end base (read_recording b start end base) ps
  handed_alike ps h =
      let e : ps ≡ (reading b start end base).packets =
      (hands_out_once a start end base _ ps h).1 ∙ ap (λ (r : Reading). r.packets) (reading_window a b start end base in_a in_b same) in
      rw e (hands_out b start end base)

own_behind : (a b : List ℕ) (start end end' base : ℕ) (p : Packet) → packet_told (read_packet a start end base) ≡ read_told no_refusal p
    → start + p.length ≤ end' → Within b start end' base → part a start p.length ≡ part b start p.length → Alike start base a end b end'
own_behind a b start end end' base p is reaches within same =
    let in_b = within_inside b start end' base within in
    let accepted = accepted_is a start end base p is in
    record {
      read = is ∙ ap packet_told (sym (own_read a b start end end' base p accepted reaches in_b same));
      list = λ m n. ap list_told (own_list a b start end end' base p accepted reaches in_b same m n);
      starts_told = λ m n old old'. (own_entries a b start end end' base p accepted reaches in_b same m n old old').0;
      lengths_told = λ m n old old'. (own_entries a b start end end' base p accepted reaches in_b same m n old old').1;
      message = λ k. ap message_told (own_message a b start end end' base p accepted reaches in_b same k);
    }

-- ---- a recording's refusal is the reader's

recording_numbered : (buf : List ℕ) (at end base : ℕ) (r : Refusal) → (packet_told (read_packet buf at end base)).refusal ≡ r → r.number ≢ 0
    → FromTable reader_refusals r
recording_numbered buf at end base r q some = rw q at (read_numbered buf at end base (rw q some))

recording_empty : (buf : List ℕ) (start base : ℕ) → Within buf start start base
    → read_recording buf start start base ≡ record { accepted = 0; reached = start; recording_reached = base; refusal = no_refusal }
unfolding read_recording
recording_empty buf start base within =
    rw (reading_inside buf start start base (inside_made buf start start base (within_inside buf start start base within)), from_end buf start start base (omega arith))

recording_outside : (buf : List ℕ) (start end base : ℕ) → ¬ Within buf start end base
    → read_recording buf start end base ≡ record { accepted = 0; reached = start; recording_reached = base; refusal = refused_there 1 start base }
unfolding read_recording
recording_outside buf start end base other =
    ap answer (reading_outside buf start end base (not_inside buf start end base other))
    ∙ ap (λ (r : Refusal). record { accepted = 0; reached = start; recording_reached = base; refusal = r }) (start_recorded base start 1 0)

-- ---- lent memory

both_kept : (buf : List ℕ) (start end base : ℕ) (starts₀ lengths₀ : List ℕ)
    → ListKept (list_packet buf start end base (length starts₀) (length lengths₀)) (starts (window buf start end)) starts₀
    × ListKept (list_packet buf start end base (length starts₀) (length lengths₀)) (lengths (window buf start end)) lengths₀
both_kept buf start end base starts₀ lengths₀ =
    let r = list_packet buf start end base (length starts₀) (length lengths₀) in
    let w = window buf start end in
    let fits = count_fits buf start end base (length starts₀) (length lengths₀) in (
      record { past = entries_kept r (starts w) starts₀; long = length_after r (starts w) starts₀ (omega (arith, fits)) },
      record { past = entries_kept r (lengths w) lengths₀; long = length_after r (lengths w) lengths₀ (omega (arith, fits)) },
    )

lists_same : (r : Result ℕ Refusal) → (list_told r).refusal.number ≢ 0 → (values : ℕ → ℕ) (old : List ℕ) → list_after r values old ≡ old
unfolding list_after
lists_same (Ok n) h values old = absurd (h refl)
lists_same (Err r) h values old = refl

output_same : (r : Result ℕ Refusal) → (write_told r).refusal.number ≢ 0 → (old bytes : List ℕ) → out_after r old bytes ≡ old
unfolding out_after
output_same (Ok n) h old bytes = absurd (h refl)
output_same (Err r) h old bytes = refl

buffer_same : (r : Result Draft (Refusal × Draft)) → (step_told r).refusal.number ≢ 0 → (old : List ℕ) (at : ℕ) (bytes : List ℕ) → buf_after r old at bytes ≡ old
unfolding buf_after
buffer_same (Ok d) h old at bytes = absurd (h refl)
buffer_same (Err (r, d)) h old at bytes = refl

pub demand_1 : Demand1
demand_1 =
    record {
      read_ends = read_ends;
      read_placed = λ buf raw start end base. read_placed buf start end base raw;
      fault_exactly = fault_kept_exactly;
      placed_once = fault_kept_once;
      list_ends = list_ends;
      message_ends = message_ends;
      recording_ends =
          λ buf start end base within.
          ⊎_elim (λ h. inl (h.1, h.2)) (λ h. inr (h.2 within, h.0, recording_numbered buf _ end _ _ h.0 h.1)) (hands_out buf start end base).ends;
      recording_empty = recording_empty;
      recording_outside = recording_outside;
      nothing_outside = outside;
      nothing_outside_recording = recording_window;
      nothing_outside_handed = handed_alike;
      nothing_behind = own_behind;
      lists_kept = both_kept;
      lists_untouched = lists_same;
      output_untouched = output_same;
      buffer_untouched = buffer_same;
    }
