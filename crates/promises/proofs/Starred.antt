-- The starred cases hold, computed by the checker.
use mathlib.Core.Path.{refl}
use Rattle.units.specs.Units.{num, bytes_of, sum_units, summed, zeros}
use Rattle.terms.specs.Times.{time_ok, rule_of}
use Rattle.body.specs.Walk.{message_shape, uart_shape, open_body, stamp_length, length_by, head_at, judge, block_at, spot, stop_at, ending, walk_from, walk}
use Rattle.body.specs.Answers.{check_body}
use Rattle.frame.specs.Header.{fields_in}
use Rattle.frame.specs.Rules.{limit, message_rule}
use Rattle.frame.specs.Table.{first, head_lines, value_lines, whole_lines, secondary_lines, trailer_lines, frame_lines}
use Rattle.packet_bytes.specs.Bytes.{head_words, head_bytes, secondary_words, secondary_bytes, body_and_filler_bytes, data_bytes, packet_bytes}
use Rattle.packet.specs.Read.{inside, packet_in, body_checked, pass_body, pass_bytes, pass_window, read_answer, read_packet}
use Rattle.packet.specs.Write.{writer_lines, writer_refusal, fitted, write_packet}
use Rattle.promises.specs.Cases.{AllRight, L, l_contents, cases}

pub cases_right : AllRight cases
unfolding num bytes_of sum_units summed zeros time_ok rule_of message_shape uart_shape open_body stamp_length length_by head_at inside judge block_at spot stop_at ending walk_from walk check_body fields_in limit message_rule first head_lines value_lines whole_lines secondary_lines trailer_lines frame_lines head_words head_bytes secondary_words secondary_bytes body_and_filler_bytes data_bytes packet_bytes packet_in body_checked pass_body pass_bytes pass_window read_answer read_packet writer_lines writer_refusal fitted write_packet L l_contents cases
cases_right = (refl, (refl, (refl, (refl, (refl, (refl, (refl, (refl, (refl, (refl, (refl, (refl, (refl, (refl, (refl, (refl, tt))))))))))))))))
