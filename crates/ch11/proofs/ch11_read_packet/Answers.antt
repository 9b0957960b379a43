use mathlib.Core.Path.{sym, ap, ◌∙◌}
use lib.ListN.{get_or}
use Rattle.packet.specs.Read.{packet_told}
use Rattle.ch11_words.specs.Words.{packet_words}
use Rattle.ch11.proofs.ch11_read_packet.Goals as goal

pub returns-in-Ok : goal.returns-in-Ok
unfolding packet_words
returns-in-Ok c =
    let read = sym c.in-Ok.is ∙ c.read_packet.ensures in
    (c.packet_words.ensures ∙ ap (λ a. packet_words (packet_told a)) read, sym (ap (λ ws. get_or ws 0 0) c.packet_words.ensures))

pub returns-in-Err : goal.returns-in-Err
unfolding packet_words
returns-in-Err c =
    let read = sym c.in-Err.is ∙ c.read_packet.ensures in
    (c.refused_words.ensures ∙ ap (λ a. packet_words (packet_told a)) read, sym (ap (λ ws. get_or ws 0 0) c.refused_words.ensures))
