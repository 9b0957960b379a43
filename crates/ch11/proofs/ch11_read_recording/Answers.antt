use mathlib.Core.Path.{refl, ap, ◌∙◌}
use Rattle.ch11_words.specs.Words.{recording_words}
use Rattle.ch11.proofs.ch11_read_recording.Goals as goal

pub returns : goal.returns
returns c = (c.recording_words.ensures ∙ ap (λ a. recording_words a) c.read_recording.ensures, refl)
