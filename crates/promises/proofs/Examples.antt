-- The demands are not empty: L is among the contents that the writer accepts; a recording of three different packets is read to its
-- exact end, and with two of them altered up to the first; both sides of a base's line; what waits for a longer fill, and a
-- recording in two pieces; a body is built. All computed by the checker.
use mathlib.Core.Path.{◌≡◌, refl, ap}
use mathlib.Core.List.{List, [], ◌∷◌, ◌++◌}
use mathlib.Core.Logic.{◌≢◌, inl}
use Prim.Native.Nat.{ℕ, zero, suc, ◌+◌, ◌-◌, ◌*◌, ◌^◌, ◌<◌}
use native.Mathlib.Omega.{arith}
use lib.ListN.{get_or, replicate}
use lib.Dec.{lit<, lit≤}
use Rattle.units.specs.Units.{Bytes, splice, num, bytes_of, sum_units, summed, zeros}
use Rattle.builder.specs.Build.{open_step, grown, draft_added, add_step, entry_of, close_step, buf_after, step_told}
use Rattle.builder.specs.Run.{Built, fresh, opened, added, closed_body}
use Rattle.terms.specs.Refusals.{no_refusal}
use Rattle.terms.specs.Times.{time_ok, rule_of}
use Rattle.body.specs.Walk.{message_shape, uart_shape, open_body, stamp_length, length_by, head_at, judge, block_at, spot, stop_at, ending, walk_from, walk}
use Rattle.body.specs.Answers.{check_body, message_of, message_in}
use Rattle.body.specs.Blocks.{block_bytes}
use Rattle.frame.specs.Header.{fields_in}
use Rattle.frame.specs.Rules.{limit, message_rule}
use Rattle.frame.specs.Table.{first, head_lines, value_lines, whole_lines, secondary_lines, trailer_lines, frame_lines}
use Rattle.packet_bytes.specs.Bytes.{head_words, head_bytes, secondary_words, secondary_bytes, body_and_filler_bytes, data_bytes, packet_bytes}
use Rattle.packet.specs.Read.{inside, packet_in, body_checked, pass_body, pass_bytes, pass_window, read_answer, read_packet}
use Rattle.packet.specs.Write.{writer_lines, writer_refusal, fitted, write_packet, write_told}
use Rattle.recording.specs.Reading.{read_from, reading, read_recording}
use Rattle.promises.specs.Contents.{Accepts, AllAccepted, nil, cons, written}
use Rattle.packet.specs.Messages.{message_count, kth_message, message_answer, message_packet, message_told}
use Rattle.promises.specs.Endings.{refused_there, given_told}
use Rattle.promises.specs.Altered.{secondary, trailer, Pieces, none, intact, altered}
use Rattle.promises.specs.Cases.{L, l_contents, terabyte, flags1588, second, carried_byte, three, three_in, two_altered, stamped_contents, block, step_opened, buffer_opened, step_added, buffer_added}
use Rattle.promises.specs.Ahead.{Piece, answer, Last, InTurn}
use Rattle.promises.proofs.Alterations.{change_named}
use Rattle.promises.proofs.HandedOut.{hands_out}

-- ---- L

pub L_written : packet_bytes (l_contents 2 0) ≡ L
unfolding num bytes_of sum_units head_words head_bytes secondary_words secondary_bytes body_and_filler_bytes data_bytes packet_bytes L l_contents
L_written = refl

-- its contents with other flags and time, where the writer takes them
l_accepted : (flags time : ℕ) → flags < 2 ^ 8 → time < 2 ^ 64
    → (write_told (write_packet (l_contents flags time) 48)).refusal.number ≡ 0
    → Accepts (l_contents flags time)
unfolding l_contents Bytes
l_accepted flags time f t w =
    record {
      typed = record { channel = lit< tt; version = lit< tt; sequence = lit< tt; flags = f; kind = lit< tt; rtc = lit< tt; time = t; body = search arith };
      room = 48;
      writes = w;
    }

pub L_accepted : Accepts (l_contents 2 0)
unfolding num bytes_of sum_units summed zeros time_ok rule_of message_shape uart_shape open_body stamp_length length_by head_at inside judge block_at spot stop_at ending walk_from walk check_body fields_in limit message_rule first head_lines value_lines whole_lines secondary_lines trailer_lines frame_lines head_words head_bytes secondary_words secondary_bytes body_and_filler_bytes data_bytes packet_bytes packet_in body_checked pass_body pass_bytes pass_window read_answer read_packet writer_lines writer_refusal fitted write_packet l_contents
L_accepted = l_accepted 2 0 (lit< tt) (lit< tt) refl

-- ---- three packets

pub three_read : read_recording three_in 5 125 terabyte ≡ record { accepted = 3; reached = 125; recording_reached = terabyte + 120; refusal = no_refusal }
unfolding num bytes_of sum_units summed zeros time_ok rule_of message_shape uart_shape open_body stamp_length length_by head_at inside judge block_at spot stop_at ending walk_from walk check_body fields_in limit message_rule first head_lines value_lines whole_lines secondary_lines trailer_lines frame_lines head_words head_bytes secondary_words secondary_bytes body_and_filler_bytes data_bytes packet_bytes packet_in body_checked pass_body pass_bytes pass_window read_answer read_packet writer_lines writer_refusal fitted write_packet L l_contents written carried_byte three three_in read_from reading read_recording
three_read = refl

second_accepted : Accepts (l_contents flags1588 (second 2))
unfolding num bytes_of sum_units summed zeros time_ok rule_of message_shape uart_shape open_body stamp_length length_by head_at inside judge block_at spot stop_at ending walk_from walk check_body fields_in limit message_rule first head_lines value_lines whole_lines secondary_lines trailer_lines frame_lines head_words head_bytes secondary_words secondary_bytes body_and_filler_bytes data_bytes packet_bytes writer_lines writer_refusal fitted write_packet l_contents carried_byte Bytes
second_accepted = l_accepted flags1588 (second 2) (lit< tt) (lit< tt) refl

carried_accepted : Accepts carried_byte
unfolding num bytes_of sum_units summed zeros time_ok rule_of message_shape uart_shape open_body stamp_length length_by head_at inside judge block_at spot stop_at ending walk_from walk check_body fields_in limit message_rule first head_lines value_lines whole_lines secondary_lines trailer_lines frame_lines head_words head_bytes secondary_words secondary_bytes body_and_filler_bytes data_bytes packet_bytes writer_lines writer_refusal fitted write_packet l_contents carried_byte Bytes
carried_accepted =
    record {
      typed =
          record { channel = lit< tt; version = lit< tt; sequence = lit< tt; flags = lit< tt; kind = lit< tt; rtc = lit< tt; time = lit< tt; body = search arith };
      room = 48;
      writes = refl;
    }

pub three_accepted : AllAccepted three
unfolding three
three_accepted =
    cons {c = l_contents 2 0} L_accepted (cons {c = l_contents flags1588 (second 2)} second_accepted (cons {c = carried_byte} carried_accepted nil))

second_differs : splice (packet_bytes (l_contents flags1588 (second 2))) 24 (0x03 ∷ 0x00 ∷ []) ≢ packet_bytes (l_contents flags1588 (second 2))
unfolding bytes_of head_words head_bytes secondary_words secondary_bytes body_and_filler_bytes data_bytes packet_bytes l_contents
second_differs e = let z : ◌≡◌ {A = ℕ} 0x03 0x02 = ap (λ (l : List ℕ). get_or l 24 0) e in omega arith

third_differs : splice (packet_bytes carried_byte) 24 (0xAA ∷ 0x01 ∷ 0x00 ∷ 0x00 ∷ []) ≢ packet_bytes carried_byte
unfolding bytes_of head_words head_bytes secondary_words secondary_bytes body_and_filler_bytes data_bytes packet_bytes carried_byte
third_differs e = let z : ◌≡◌ {A = ℕ} 0x01 0x00 = ap (λ (l : List ℕ). get_or l 25 0) e in omega arith

pub two_altered_lem : Pieces three 2 two_altered
unfolding bytes_of head_words head_bytes secondary_words secondary_bytes body_and_filler_bytes data_bytes packet_bytes l_contents carried_byte three two_altered Bytes
two_altered_lem =
    intact L_accepted
    (altered second_accepted
    (change_named (l_contents flags1588 (second 2)) second_accepted.typed 11 24 2 (secondary 0 (lit≤ tt)) (0x03 ∷ 0x00 ∷ []) refl (search arith) second_differs)
    (altered carried_accepted
    (change_named carried_byte carried_accepted.typed 13 24 4 (trailer 0 (lit< tt) (lit≤ tt)) (0xAA ∷ 0x01 ∷ 0x00 ∷ 0x00 ∷ []) refl (search arith) third_differs)
    none))

-- and it is read up to the first of them
pub two_altered_read : read_recording two_altered 0 120 terabyte
    ≡ record { accepted = 1; reached = 40; recording_reached = terabyte + 40; refusal = refused_there 11 40 (terabyte + 40) }
unfolding num bytes_of sum_units summed zeros time_ok rule_of message_shape uart_shape open_body stamp_length length_by head_at inside judge block_at spot stop_at ending walk_from walk check_body fields_in limit message_rule first head_lines value_lines whole_lines secondary_lines trailer_lines frame_lines head_words head_bytes secondary_words secondary_bytes body_and_filler_bytes data_bytes packet_bytes packet_in body_checked pass_body pass_bytes pass_window read_answer read_packet l_contents carried_byte two_altered read_from reading read_recording
two_altered_read = refl

-- ---- the largest base for a window of 40 bytes, base plus length 2^64 - 1, and the next

pub last_base : read_recording L 0 40 (2 ^ 64 - 41) ≡ record { accepted = 1; reached = 40; recording_reached = 2 ^ 64 - 1; refusal = no_refusal }
unfolding num bytes_of sum_units summed zeros time_ok rule_of message_shape uart_shape open_body stamp_length length_by head_at inside judge block_at spot stop_at ending walk_from walk check_body fields_in limit message_rule first head_lines value_lines whole_lines secondary_lines trailer_lines frame_lines packet_in body_checked pass_body pass_bytes pass_window read_answer read_packet L read_from reading read_recording
last_base = refl

pub past_base : read_recording L 0 40 (2 ^ 64 - 40)
    ≡ record { accepted = 0; reached = 0; recording_reached = 2 ^ 64 - 40; refusal = refused_there 1 0 (2 ^ 64 - 40) }
unfolding num bytes_of sum_units summed zeros time_ok rule_of message_shape uart_shape open_body stamp_length length_by head_at inside judge block_at spot stop_at ending walk_from walk check_body fields_in limit message_rule first head_lines value_lines whole_lines secondary_lines trailer_lines frame_lines packet_in body_checked pass_body pass_bytes pass_window read_answer read_packet L read_from reading read_recording
past_base = refl

-- ---- reading ahead: 2, 10 and the exact end wait, and what comes then may be either

-- L's first 23 bytes, then its last header byte as written or another
pub waits_2 : ((read_recording L 0 23 terabyte).refusal.number ≡ 2) × ((read_recording L 0 40 terabyte).accepted ≡ 1)
    × ((read_recording (splice L 23 (0x00 ∷ [])) 0 40 terabyte).refusal.number ≡ 4)
unfolding num bytes_of sum_units summed zeros time_ok rule_of message_shape uart_shape open_body stamp_length length_by head_at inside judge block_at spot stop_at ending walk_from walk check_body fields_in limit message_rule first head_lines value_lines whole_lines secondary_lines trailer_lines frame_lines packet_in body_checked pass_body pass_bytes pass_window read_answer read_packet L read_from reading read_recording
waits_2 = (refl, refl, refl)

-- its first 39, then its last byte as written or another
pub waits_10 : ((read_recording L 0 39 terabyte).refusal.number ≡ 10) × ((read_recording L 0 40 terabyte).accepted ≡ 1)
    × ((read_recording (splice L 39 (0x00 ∷ [])) 0 40 terabyte).refusal.number ≡ 13)
unfolding num bytes_of sum_units summed zeros time_ok rule_of message_shape uart_shape open_body stamp_length length_by head_at inside judge block_at spot stop_at ending walk_from walk check_body fields_in limit message_rule first head_lines value_lines whole_lines secondary_lines trailer_lines frame_lines packet_in body_checked pass_body pass_bytes pass_window read_answer read_packet L read_from reading read_recording
waits_10 = (refl, refl, refl)

-- all of it, then L again or no packet
pub waits_end : ((read_recording (L ++ L) 0 40 terabyte).refusal ≡ no_refusal) × ((read_recording (L ++ L) 0 80 terabyte).accepted ≡ 2)
    × ((read_recording (L ++ replicate 40 0x00) 0 80 terabyte).refusal.number ≡ 3)
unfolding num bytes_of sum_units summed zeros time_ok rule_of message_shape uart_shape open_body stamp_length length_by head_at inside judge block_at spot stop_at ending walk_from walk check_body fields_in limit message_rule first head_lines value_lines whole_lines secondary_lines trailer_lines frame_lines packet_in body_checked pass_body pass_bytes pass_window read_answer read_packet L read_from reading read_recording
waits_end = (refl, refl, refl)

-- L twice, by a window of its first 50 bytes and one, in a buffer of its own, of the rest
pub piece : ℕ → Piece (L ++ L) 0 80 terabyte
unfolding L
piece zero =
    record {
      distance = 0;
      buf = L ++ L;
      from = 0;
      to = 50;
      within = (lit≤ tt, lit≤ tt, lit≤ tt);
      fits = lit≤ tt;
      same = refl;
      packets = (reading (L ++ L) 0 50 terabyte).packets;
      handed = hands_out (L ++ L) 0 50 terabyte;
    }
piece (suc n) =
    record {
      distance = 40;
      buf = 0xEE ∷ L;
      from = 1;
      to = 41;
      within = (lit≤ tt, lit≤ tt, lit≤ tt);
      fits = lit≤ tt;
      same = refl;
      packets = (reading (0xEE ∷ L) 1 41 (terabyte + 40)).packets;
      handed = hands_out (0xEE ∷ L) 1 41 (terabyte + 40);
    }

pub two_pieces : InTurn piece 1 × Last (piece 1)
unfolding num bytes_of sum_units summed zeros time_ok rule_of message_shape uart_shape open_body stamp_length length_by head_at inside judge block_at spot stop_at ending walk_from walk check_body fields_in limit message_rule first head_lines value_lines whole_lines secondary_lines trailer_lines frame_lines packet_in body_checked pass_body pass_bytes pass_window read_answer read_packet L read_from reading read_recording piece
two_pieces = (record { first = refl; next = go }, inl refl)
  where
    go : (k : ℕ) → k < 1 → terabyte + (piece (suc k)).distance ≡ (answer (piece k)).recording_reached
    go zero l = refl
    go (suc k) l = absurd (omega (arith, l))

-- ---- a message with its time stamp: behind header, secondary header, channel word, stamp and ID word

pub stamped_message : message_told (message_packet (packet_bytes stamped_contents) 0 56 terabyte 0)
    ≡ given_told no_refusal (record { time = 3 * 2 ^ 16; id = 5 * 2 ^ 16 + 3; start = 52; length = 3 })
unfolding num bytes_of sum_units summed zeros time_ok rule_of message_shape uart_shape open_body stamp_length length_by head_at inside judge block_at spot stop_at ending walk_from walk check_body fields_in limit message_rule first head_lines value_lines whole_lines secondary_lines trailer_lines frame_lines head_words head_bytes secondary_words secondary_bytes body_and_filler_bytes data_bytes packet_bytes packet_in body_checked pass_body pass_bytes pass_window read_answer read_packet message_packet message_answer message_count kth_message message_in message_of stamped_contents
stamped_message = refl

-- ---- L's body is built

pub body_built : Built buffer_added (step_told step_added).draft (entry_of 0 0 block ∷ [])
unfolding step_opened buffer_opened step_added buffer_added open_step add_step grown draft_added buf_after bytes_of stamp_length
body_built = added 0 0 block (lit< tt) (lit< tt) (opened 0x50 0 (fresh (replicate 12 0xEE)))

pub body_closed : ((step_told (close_step (step_told step_added).draft 12)).refusal.number ≡ 0)
    × (closed_body buffer_added (step_told step_added).draft ≡ (l_contents 2 0).body)
unfolding step_opened buffer_opened step_added buffer_added open_step add_step close_step grown draft_added buf_after bytes_of stamp_length block_bytes l_contents
body_closed = (refl, refl)
