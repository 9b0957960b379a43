-- What the writer and the builder are given as 64-bit words, and what they say where a word is wider than what it stands for.
use Rattle.std.specs.Prelude.{List, Bool, not, ◌&&◌, ℕ, ◌+◌, ◌^◌, get_or, ltb, Result, Err}
use Rattle.units.specs.Choice.{pick}
use Rattle.terms.specs.Refusals.{refused}
use Rattle.builder.specs.Build.{denied, bad_draft, add_step}
use Rattle.builder.specs.declared.Draft.{Draft}
use Rattle.frame.specs.Contents.{Contents}
use Rattle.frame.specs.declared.Fields.{Fields}
use Rattle.packet.specs.Write.{write_packet}
use Rattle.ch11_words.specs.Words.{refusal_size}
use Rattle.terms.specs.declared.Refusal.{Refusal}

-- ---- the writer

-- struct ch11_fields
abbrev pub fields_of : List ℕ → Fields
fields_of ws =
    record {
      channel = get_or ws 0 0;
      version = get_or ws 1 0;
      sequence = get_or ws 2 0;
      flags = get_or ws 3 0;
      kind = get_or ws 4 0;
      rtc = get_or ws 5 0;
      time = get_or ws 6 0;
    }

-- the channel fits in 2 bytes; version, sequence, flags and type in one
abbrev pub fields_fit : Fields → Bool
fields_fit f = ltb f.channel (2 ^ 16) && ltb f.version 256 && ltb f.sequence 256 && ltb f.flags 256 && ltb f.kind 256

-- a field that can't hold its value is input out of range, which the writer refuses first
unfoldable pub write_given : Contents → ℕ → Result ℕ Refusal
write_given c room = pick (not (fields_fit c.fields)) (Err (refused 17 0)) (write_packet c room)

-- ---- the builder

-- struct ch11_draft; a type or time rule over 255 is one that opening refuses
abbrev pub draft_of : List ℕ → Draft
draft_of ws =
    record {
      used = get_or ws refusal_size 0;
      blocks = get_or ws (refusal_size + 1) 0;
      kind = get_or ws (refusal_size + 2) 0;
      rule = get_or ws (refusal_size + 3) 0;
    }

-- adding: an upper half that its 16 bits can't hold is input out of range, as a wrong n is
unfoldable pub add_given : Draft → ℕ → ℕ → ℕ → ℕ → Result Draft (Refusal × Draft)
add_given d len time upper n =
    pick (bad_draft d len) (denied (refused 1 0) d)
    (pick (ltb 65535 upper) (denied (refused 17 0) d)
    (add_step d len time n))
