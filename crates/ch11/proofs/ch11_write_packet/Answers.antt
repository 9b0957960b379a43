use mathlib.Core.Path.{refl, ap, ◌∙◌}
use Rattle.frame.specs.Contents.{contents}
use Rattle.packet.specs.Write.{out_after, write_told}
use Rattle.packet_bytes.specs.Bytes.{packet_bytes}
use Rattle.ch11_words.specs.Words.{written_words}
use Rattle.ch11.specs.Given.{fields_of}
use Rattle.ch11.proofs.ch11_write_packet.Goals as goal

pub returns : goal.returns
returns c =
    ((c.count_words.ensures.written ∙ ap (λ x. written_words (write_told x)) c.write_given.ensures.value, refl), c.write_given.ensures.out_after ∙ ap (λ x. out_after x c.args.out.now (packet_bytes (contents (fields_of c.args.fields.now) c.args.body.now))) c.write_given.ensures.value)
