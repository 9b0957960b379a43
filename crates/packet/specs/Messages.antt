-- The lister, and one message by its number (document 01, "Lister"): after the reader's tests.
use Rattle.std.specs.Prelude.{List, ℕ, ◌+◌, min, take, leb, ltb, Result, Ok, Err}
use Rattle.units.specs.Choice.{pick}
use Rattle.terms.specs.Refusals.{refused, no_refusal, needing, recorded}
use Rattle.body.specs.Answers.{no_message, message_in, filled}
use Rattle.body.specs.declared.Message.{Message}
use Rattle.terms.specs.declared.Refusal.{Refusal}
use Rattle.frame.specs.Header.{flags_in, kind_in, body_at, body_in}
use Rattle.frame.specs.Rules.{message_rule}
use Rattle.packet.specs.Read.{window, body_checked, pass_window}

-- ---- the messages of a packet at the start of a window's bytes w

abbrev pub count_of : Result ℕ Refusal → ℕ
count_of (Ok n) = n
count_of (Err f) = 0

-- how many there are, 0 for a type that isn't opened
unfoldable pub message_count : List ℕ → ℕ
message_count w = count_of (body_checked w)

-- the k-th, from 0: time (0 if none is stored), ID word, start and length; the start counted from the packet's first byte
unfoldable pub kth_message : List ℕ → ℕ → Message
kth_message w k =
    record {
      time = (message_in (kind_in w) (message_rule (flags_in w)) (body_in w) k).time;
      id = (message_in (kind_in w) (message_rule (flags_in w)) (body_in w) k).id;
      start = body_at (flags_in w) + (message_in (kind_in w) (message_rule (flags_in w)) (body_in w) k).start;
      length = (message_in (kind_in w) (message_rule (flags_in w)) (body_in w) k).length;
    }

-- ---- all of them

-- 16 exactly when there are more messages than the shorter list holds, with the room needed
unfoldable pub list_answer : Result ℕ Refusal → ℕ → ℕ → ℕ → Result ℕ Refusal
list_answer (Ok p) at n room = pick (ltb room n) (Err (needing n (refused 16 at))) (Ok n)
list_answer (Err r) at n room = Err r

-- with its place in the recording (document 02 §9)
abbrev pub recorded_list : ℕ → ℕ → Result ℕ Refusal → Result ℕ Refusal
recorded_list base start (Ok n) = Ok n
recorded_list base start (Err r) = Err (recorded base start r)

-- the answer, for lists of these lengths
unfoldable pub list_packet : List ℕ → ℕ → ℕ → ℕ → ℕ → ℕ → Result ℕ Refusal
list_packet buf start end base len₁ len₂ =
    recorded_list base start (list_answer (pass_window buf start end base) start (message_count (window buf start end)) (min len₁ len₂))

-- a list after it: an entry for each message, those past the count untouched; all untouched on a refusal
unfoldable pub list_after : Result ℕ Refusal → (ℕ → ℕ) → List ℕ → List ℕ
list_after (Ok n) entries old = filled n entries old
list_after (Err r) entries old = old

abbrev pub starts : List ℕ → ℕ → ℕ
starts w k = (kth_message w k).start

abbrev pub lengths : List ℕ → ℕ → ℕ
lengths w k = (kth_message w k).length

-- ---- one of them

-- 17, at the packet's start, where there is no message of that number
unfoldable pub message_answer : Result ℕ Refusal → ℕ → ℕ → ℕ → Message → Result Message Refusal
message_answer (Ok p) at n k m = pick (leb n k) (Err (refused 17 at)) (Ok m)
message_answer (Err r) at n k m = Err r

-- with its place in the recording
abbrev pub recorded_message : ℕ → ℕ → Result Message Refusal → Result Message Refusal
recorded_message base start (Ok m) = Ok m
recorded_message base start (Err r) = Err (recorded base start r)

unfoldable pub message_packet : List ℕ → ℕ → ℕ → ℕ → ℕ → Result Message Refusal
message_packet buf start end base k =
    recorded_message base start
    (message_answer (pass_window buf start end base) start (message_count (window buf start end)) k (kth_message (window buf start end) k))

-- ---- document 01's number and values of each answer

pub record ListTold : Type 0 where
  pub refusal : Refusal
  pub count : ℕ

-- 16 also gives the room needed, in messages
abbrev pub list_told : Result ℕ Refusal → ListTold
list_told (Ok n) = record { refusal = no_refusal; count = n }
list_told (Err r) = record { refusal = r; count = 0 }

-- the entries told: as many of a list that came back as the answer counts
abbrev pub entries : Result ℕ Refusal → (ℕ → ℕ) → List ℕ → List ℕ
entries r values old = take (list_told r).count (list_after r values old)

pub record MessageTold : Type 0 where
  pub refusal : Refusal
  pub message : Message

abbrev pub message_told : Result Message Refusal → MessageTold
message_told (Ok m) = record { refusal = no_refusal; message = m }
message_told (Err r) = record { refusal = r; message = no_message }
