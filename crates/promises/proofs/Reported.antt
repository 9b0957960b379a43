-- What the calls report of an accepted packet's messages is what is there.
use Rattle.std.specs.Prelude.{Result, Ok, Err}
use mathlib.Core.Path.{◌≡◌, refl, sym, ap, ◌∙◌}
use mathlib.Core.List.{List, [], ◌∷◌, ◌++◌}
use mathlib.Core.Bool.{true, false}
use Prim.Native.Nat.{ℕ, zero, suc, ◌+◌, ◌-◌, ◌≤◌, ◌<◌, min}
use native.Mathlib.Omega.{arith}
use native.Mathlib.Decide.{dec_le}
use lib.ListN.{length, take, drop, get_or, get_or-append}
use lib.Seq.{get_or_at}
use borrow.Author.Tests.{le-leb, lt-leb, le-ltb, lt-ltb}
use Rattle.units.specs.Units.{Bytes, part}
use Rattle.units.proofs.Parts.{length_part, part_part}
use Rattle.body.specs.Walk.{opens, stamp_length}
use Rattle.terms.specs.Refusals.{no_refusal, needing}
use Rattle.body.specs.Answers.{message_in, tab, filled}
use Rattle.body.specs.Blocks.{Entry, no_entry, blocks_bytes, message_on, entry_at, entries_in, BodyOf}
use Rattle.terms.specs.declared.TimeRule.{TimeRule}
use Rattle.body.specs.declared.Form.{Form}
use Rattle.body.specs.declared.Message.{Message}
use Rattle.body.proofs.Reading.{length_tab}
use Rattle.body.proofs.Bounds.{message_fits}
use Rattle.body.proofs.Exactly.{body_of_blocks, body_messages}
use Rattle.frame.specs.Header.{data_length, flags_in, kind_in, body_at, body_in, fields_in}
use Rattle.frame.specs.Rules.{message_rule}
use Rattle.packet.specs.Read.{window, body_checked, pass_window, read_packet, packet_told}
use Rattle.packet.specs.Messages.{message_count, kth_message, list_answer, list_packet, list_after, starts, lengths, message_answer, message_packet, list_told, message_told}
use Rattle.packet.specs.declared.Packet.{Packet}
use Rattle.packet.proofs.Answers.{in_packet}
use Rattle.packet.proofs.Own.{accepted_at, accepted_pass}
use Rattle.promises.specs.Refusals.{reader_refusals}
use Rattle.promises.specs.Endings.{zero_message, refused_there, listed_told, given_told}
use Rattle.promises.specs.Reports.{message_for, Reports}
use Rattle.promises.proofs.Members.{among_one}
use Rattle.promises.proofs.BodiesKept.{opens_exactly, body_kept, carried_counted}
use Rattle.promises.proofs.Keeping.{kept_messages, accepted_exactly}
use Rattle.promises.proofs.Refusing.{start_recorded}
use Rattle.terms.specs.declared.Refusal.{Refusal}

-- ---- what the calls say of an accepted packet with n messages

module _ (buf : List ℕ) (s e base : ℕ) (p : Packet) (n : ℕ) (h : read_packet buf s e base ≡ Ok p) (has : body_checked (window buf s e) ≡ Ok n) where
  count_is : message_count (window buf s e) ≡ n
  unfolding message_count
  count_is = rw has

  passes : pass_window buf s e base ≡ Ok p.length
  passes = accepted_pass buf s e base p h

  lists_all : (len₁ len₂ : ℕ) → n ≤ min len₁ len₂ → list_packet buf s e base len₁ len₂ ≡ Ok n
  unfolding list_packet list_answer
  lists_all len₁ len₂ room = rw (passes, count_is, le-ltb (min len₁ len₂) n room)

  lists_none : (len₁ len₂ : ℕ) → min len₁ len₂ < n → list_packet buf s e base len₁ len₂ ≡ Err (needing n (refused_there 16 s base))
  unfolding list_packet list_answer
  lists_none len₁ len₂ short = rw (passes, count_is, lt-ltb (min len₁ len₂) n short) (ap Err (start_recorded base s 16 n))

  gives_each : (k : ℕ) → k < n → message_packet buf s e base k ≡ Ok (kth_message (window buf s e) k)
  unfolding message_packet message_answer
  gives_each k more = rw (passes, count_is, lt-leb n k more)

  gives_no_other : (k : ℕ) → n ≤ k → message_packet buf s e base k ≡ Err (refused_there 17 s base)
  unfolding message_packet message_answer
  gives_no_other k past = rw (passes, count_is, le-leb n k past) (ap Err (start_recorded base s 17 0))

-- ---- lists filled from the front

tab_at : {A : Type 0} (n : ℕ) (f : ℕ → A) (d : A) (k : ℕ) → k < n → get_or (tab n f) k d ≡ f k
unfolding tab
tab_at zero f d k h = absurd (omega arith)
tab_at (suc n) f d k h = go (dec_le n k) (tab_at n f d k)
  where
    go : Dec (n ≤ k) → (k < n → get_or (tab n f) k d ≡ f k) → get_or (tab n f ++ (f n ∷ [])) k d ≡ f k
    go (yes l) before = let z : n ≡ k = omega arith in get_or_at (tab n f) (f n) [] d k (length_tab n f ∙ z) ∙ ap f z
    go (no l) before = get_or-append (tab n f) (f n ∷ []) d k (omega (arith, length_tab n f)) ∙ before (omega arith)

-- what a lister leaves in a list, entry by entry
listed_at : (n : ℕ) (entries : ℕ → ℕ) (old : List ℕ) (r : Result ℕ Refusal) (k : ℕ) → r ≡ Ok n → k < n → get_or (list_after r entries old) k 0 ≡ entries k
unfolding list_after filled
listed_at n entries old r k q h = rw q (get_or-append (tab n entries) (drop n old) 0 k (omega (arith, length_tab n entries)) ∙ tab_at n entries 0 k h)

-- ---- a body of these blocks: each is where it is reported

module _ (kind : ℕ) (rule : TimeRule) (bs : List ℕ) (es : List Entry) (b : BodyOf kind rule bs es) (k : ℕ) (more : k < length es) where
  -- the k-th as a message of the body
  abbrev in_body : Message
  in_body = message_on b.shape.form (4 + length (blocks_bytes b.shape.form (take k es))) (get_or es k no_entry)

  block_fits : in_body.start + in_body.length ≤ length bs
  block_fits =
      let m = body_messages kind rule bs es b k more in
      let f = message_fits kind rule bs (length es) k (body_of_blocks kind rule bs es b).0 more in
      omega (arith, f, ap (λ (x : Message). x.start) m, ap (λ (x : Message). x.length) m)

  block_bytes_lem : part bs in_body.start in_body.length ≡ (get_or es k no_entry).bytes
  unfolding entries_in
  block_bytes_lem =
      let m = body_messages kind rule bs es b k more in
      let entries = (body_of_blocks kind rule bs es b).1 in
      let entry : entry_at bs (message_in kind rule bs k) ≡ get_or es k no_entry =
      sym (tab_at (length es) (λ j. entry_at bs (message_in kind rule bs j)) no_entry k more) ∙ ap (λ (l : List Entry). get_or l k no_entry) entries in
      ap (λ (x : Message). (entry_at bs x).bytes) (sym m) ∙ ap (λ (x : Entry). x.bytes) entry

-- ---- what the calls report of a packet is what is there

-- where the k-th message stands in a packet, from where it stands in the body
ahead_is : (w : List ℕ) (form : Form) (es : List Entry) (k : ℕ)
    → in_packet (body_at (flags_in w)) (message_on form (4 + length (blocks_bytes form (take k es))) (get_or es k no_entry)) ≡ message_for w form es k
ahead_is w form es k =
    let flags = flags_in w in
    let before = length (blocks_bytes form (take k es)) in
    let start : body_at flags + (4 + before + stamp_length form + 4) ≡ body_at flags + 4 + before + stamp_length form + 4 = omega arith in
    let x = get_or es k no_entry in
    λ i. record { time = x.time; id = x.id; start = start i; length = length x.bytes }

-- of an accepted packet whose body is some blocks, the calls report these
module _ (buf : List ℕ) (s e base : ℕ) (p : Packet) (es : List Entry) (h : read_packet buf s e base ≡ Ok p)
    (b : BodyOf (kind_in (window buf s e)) (message_rule (flags_in (window buf s e))) (body_in (window buf s e)) es) where
  abbrev w : List ℕ
  w = window buf s e

  abbrev reported : ℕ → Message
  reported = message_for w b.shape.form es

  has_count : body_checked w ≡ Ok (length es)
  unfolding fields_in body_checked
  has_count = (body_of_blocks (kind_in w) (message_rule (flags_in w)) (body_in w) es b).0

  kth_is : (k : ℕ) → k < length es → kth_message w k ≡ reported k
  unfolding kth_message
  kth_is k more =
      ap (in_packet (body_at (flags_in w))) (body_messages (kind_in w) (message_rule (flags_in w)) (body_in w) es b k more)
      ∙ ahead_is w b.shape.form es k

  bytes_in_buffer : (k : ℕ) → k < length es → part buf (s + (reported k).start) (length (get_or es k no_entry).bytes) ≡ (get_or es k no_entry).bytes
  bytes_in_buffer k more =
      let a = accepted_at buf s e base p h in
      let sound = a.passes.sound in
      let body = body_at (flags_in w) in
      let d = data_length w in
      let n = length (get_or es k no_entry).bytes in
      let at = 4 + length (blocks_bytes b.shape.form (take k es)) + stamp_length b.shape.form + 4 in
      let long : length (body_in w) ≡ d = length_part w body d (omega (arith, sound.parts, sound.there)) in
      let fits : at + n ≤ d = omega (arith, long, block_fits (kind_in w) (message_rule (flags_in w)) (body_in w) es b k more) in
      let place : s + (body + at) ≡ s + (reported k).start = omega arith in
      let in_window : body + at + n ≤ e - s = omega (arith, fits, sound.parts, sound.there, a.reach) in
      ap (λ (x : ℕ). part buf x n) (sym place)
      ∙ sym (part_part buf s (e - s) (body + at) n in_window)
      ∙ sym (part_part w body d at n fits)
      ∙ block_bytes_lem (kind_in w) (message_rule (flags_in w)) (body_in w) es b k more

  pub blocks_reported : Reports buf s e base es b.shape.form
  blocks_reported =
      record {
        counted = λ len₁ len₂ room. ap list_told (lists_all buf s e base p (length es) h has_count len₁ len₂ room);
        crowded = λ len₁ len₂ short. ap list_told (lists_none buf s e base p (length es) h has_count len₁ len₂ short);
        listed =
            λ starts₀ lengths₀ k more room.
            let all = lists_all buf s e base p (length es) h has_count (length starts₀) (length lengths₀) room in (
              listed_at (length es) (starts w) starts₀ _ k all more ∙ ap (λ (m : Message). m.start) (kth_is k more),
              listed_at (length es) (lengths w) lengths₀ _ k all more ∙ ap (λ (m : Message). m.length) (kth_is k more),
            );
        given = λ k more. ap message_told (gives_each buf s e base p (length es) h has_count k more ∙ ap Ok (kth_is k more));
        missing = λ k past. ap message_told (gives_no_other buf s e base p (length es) h has_count k past);
        bytes = bytes_in_buffer;
      }

-- an accepted packet of a type that we open: the messages there, and what each call says of them
pub messages_there : (buf : List ℕ) (s e base : ℕ) (p : Packet) → Bytes buf → read_packet buf s e base ≡ Ok p → opens (kind_in (window buf s e)) ≡ true
    → (es : List Entry) × (b : BodyOf (kind_in (window buf s e)) (message_rule (flags_in (window buf s e))) (body_in (window buf s e)) es)
    × Reports buf s e base es b.shape.form
messages_there buf s e base p raw h o =
    let keeps = (accepted_exactly buf raw s e base).0 (ap (λ (x : Result Packet Refusal). (packet_told x).refusal.number) h) in
    let w = window buf s e in
    let (es, kept) = kept_messages buf s e base w (keeps 15 (among_one 15 reader_refusals refl)) ((opens_exactly (kind_in w)).0 o) in
    let b = (body_kept (kind_in w) (flags_in w) (body_in w) es ((opens_exactly (kind_in w)).0 o)).1 kept in
    (es, b, blocks_reported buf s e base p es h b)

-- of any other type: none
pub carried_none : (buf : List ℕ) (s e base : ℕ) (p : Packet) → read_packet buf s e base ≡ Ok p → opens (kind_in (window buf s e)) ≡ false
    → ((len₁ len₂ : ℕ) → list_told (list_packet buf s e base len₁ len₂) ≡ listed_told no_refusal 0)
    × ((k : ℕ) → message_told (message_packet buf s e base k) ≡ given_told (refused_there 17 s base) zero_message)
unfolding fields_in body_checked
carried_none buf s e base p h o =
    let w = window buf s e in
    let none = carried_counted (kind_in w) (message_rule (flags_in w)) (body_in w) o in (
      λ len₁ len₂. ap list_told (lists_all buf s e base p 0 h none len₁ len₂ (omega arith)),
      λ k. ap message_told (gives_no_other buf s e base p 0 h none k (omega arith)),
    )
