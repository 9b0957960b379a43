-- What adding says and leaves behind.
use Rattle.std.specs.Prelude.{Result, Ok, Err}
use mathlib.Core.Path.{◌≡◌, refl, sym, ap, ◌∙◌}
use mathlib.Core.List.{List, [], ◌∷◌}
use mathlib.Core.Bool.{Bool, true, false, false≢true}
use mathlib.Core.Logic.{◌⊎◌, inl, inr, ⊎_elim, ◌≢◌}
use Prim.Native.Nat.{ℕ, ◌+◌, ◌-◌, ◌*◌, ◌≤◌, ◌<◌}
use native.Mathlib.Omega.{arith}
use lib.ListN.{length, take, set, get_or, length-set}
use lib.Seq.{get_or-set_same, get_or-set_other, get_or-drop}
use lib.Dec.{ltb, leb}
use borrow.Author.Tests.{ltb-true, ltb-false, leb-true, leb-false}
use Rattle.units.specs.Choice.{pick}
use Rattle.units.specs.Units.{part, splice, num}
use Rattle.units.proofs.Parts.{length_part, field_one}
use Rattle.units.proofs.Writes.{length_splice, drop_splice, part_splice_same, part_splice_before}
use Rattle.terms.specs.Refusals.{no_refusal}
use Rattle.terms.specs.declared.Refusal.{Refusal}
use Rattle.frame.specs.Header.{byte}
use Rattle.packet.specs.Read.{window, packet_in, read_packet, packet_told}
use Rattle.packet.specs.declared.Packet.{Packet}
use Rattle.packet.proofs.Own.{accepted_at, accepted_fits}
use Rattle.packet.proofs.Told.{refusal_numbered}
use Rattle.promises.specs.Refusals.{OneOf, reader_refusals}
use Rattle.promises.specs.Endings.{Ends, refused_there}
use Rattle.promises.proofs.Members.{one_among, one_ahead, one_behind}
use Rattle.promises.proofs.Refusing.{read_numbered, start_recorded}
use Rattle.promises.proofs.Ends.{accepted_is}
use Rattle.renewal.specs.Table.{entry_of, slot_of, home_of}
use Rattle.renewal.specs.Renewal.{barred, store_small, put_answer, add_read, add_entry, entry_in, own_bytes, table_added, store_added, add_told}
use Rattle.packet.proofs.Window.{own_part}
use Rattle.renewal_promises.specs.Slots.{Rows, FreeAt, HeldAt, First, Accepts}
use Rattle.renewal_promises.specs.Adding.{add_refusals, added_told, small_store, OthersLive, Put, Comes, Adding}
use Rattle.renewal_promises.specs.Calls.{Add}
use Rattle.renewal_promises.proofs.Finding.{slot_none, held_slot, none_slot, first_free, all_live, live_all, home_own, home_free}

-- a refusal at the window's start, with its place in the recording
pub barred_there : (number start place : ℕ) → barred number start place ≡ refused_there number start place
barred_there number start place = start_recorded place start number 0

pub small_there : (start place : ℕ) → store_small start place ≡ small_store start place
small_there start place = start_recorded place start 16 65536

-- the packet that is read is its record
pub packet_read : (buf : List ℕ) (start end place : ℕ) (p : Packet) → read_packet buf start end place ≡ Ok p → p ≡ packet_in (window buf start end) start place
packet_read buf start end place p read = (accepted_at buf start end place p read).packet

-- its place in the recording is the base
pub packet_place : (buf : List ℕ) (start end place : ℕ) (p : Packet) → read_packet buf start end place ≡ Ok p → p.recording_place ≡ place
unfolding packet_in
packet_place buf start end place p read = ap (λ (x : Packet). x.recording_place) (packet_read buf start end place p read)

-- its own bytes, as many as P says
pub own_bytes_lem : (buf : List ℕ) (start end place : ℕ) (p : Packet) → read_packet buf start end place ≡ Ok p → own_bytes (window buf start end) ≡ part buf start p.length
own_bytes_lem buf start end place p read =
    let at = accepted_at buf start end place p read in
    let fits = accepted_fits buf start end place p read in
    ap (λ (n : ℕ). take n (window buf start end)) (sym at.passes.long) ∙ sym (own_part buf start end p.length (omega (arith, fits.within, at.inside.ordered)))

pub own_long : (buf : List ℕ) (start end place : ℕ) (p : Packet) → read_packet buf start end place ≡ Ok p → length (part buf start p.length) ≡ p.length
own_long buf start end place p read =
    let at = accepted_at buf start end place p read in
    length_part buf start p.length (omega (arith, (accepted_fits buf start end place p read).within, at.inside.within))

-- ---- bytes that are written over a store

module _ (store : List ℕ) (at : ℕ) (vs : List ℕ) (fits : at + length vs ≤ length store) where
  byte_before : (i : ℕ) → i < at → byte (splice store at vs) i ≡ byte store i
  byte_before i h =
      sym (field_one (splice store at vs) i) ∙ ap num (part_splice_before store at vs fits i 1 (omega arith)) ∙ field_one store i

  byte_behind : (i : ℕ) → at + length vs ≤ i → byte (splice store at vs) i ≡ byte store i
  byte_behind i h =
      let n = at + length vs in
      let k : n + (i - n) ≡ i = omega arith in
      ap (λ (m : ℕ). byte (splice store at vs) m) (sym k)
      ∙ sym (get_or-drop n (splice store at vs) (i - n) 0)
      ∙ ap (λ (l : List ℕ). get_or l (i - n) 0) (drop_splice store at vs fits)
      ∙ get_or-drop n store (i - n) 0
      ∙ ap (byte store) k

-- ---- the five ways that it goes

module _ (t : Rows) (store : List ℕ) (recording place : ℕ) (buf : List ℕ) (start end : ℕ) where
  pub data Way : Result ℕ Refusal → Type 0 where
    small : length store < 65536 → Way (Err (small_store start place))
    reader : 65536 ≤ length store → (f : Refusal) → read_packet buf start end place ≡ Err f → Way (Err f)
    long : 65536 ≤ length store → (p : Packet) → read_packet buf start end place ≡ Ok p → 1024 < p.length → Way (Err (refused_there 21 start place))
    full : 65536 ≤ length store → (p : Packet) → read_packet buf start end place ≡ Ok p → p.length ≤ 1024 → 64 ≤ home_of recording place t
        → Way (Err (refused_there 19 start place))
    goes : 65536 ≤ length store → (p : Packet) → read_packet buf start end place ≡ Ok p → p.length ≤ 1024 → home_of recording place t < 64
        → Way (Ok (home_of recording place t))

  pub way : Way (add_entry t (length store) recording place buf start end)
  unfolding add_entry add_read put_answer
  way = go (ltb (length store) 65536) refl (read_packet buf start end place) refl
    where
      home : 65536 ≤ length store → (p : Packet) → read_packet buf start end place ≡ Ok p → p.length ≤ 1024 → (b : Bool) → leb 64 (home_of recording place t) ≡ b
          → Way (pick b (Err (barred 19 start place)) (Ok (home_of recording place t)))
      home room p read short true h = rw (barred_there 19 start place) (full room p read short (leb-true 64 (home_of recording place t) h))
      home room p read short false h = goes room p read short (leb-false 64 (home_of recording place t) h)

      slot : 65536 ≤ length store → (p : Packet) → read_packet buf start end place ≡ Ok p → (b : Bool) → ltb 1024 p.length ≡ b
          → Way (pick b (Err (barred 21 start place))
          (pick (leb 64 (home_of recording place t)) (Err (barred 19 start place)) (Ok (home_of recording place t))))
      slot room p read true h = rw (barred_there 21 start place) (long room p read (ltb-true 1024 p.length h))
      slot room p read false h = home room p read (ltb-false 1024 p.length h) (leb 64 (home_of recording place t)) refl

      go : (b : Bool) → ltb (length store) 65536 ≡ b → (x : Result Packet Refusal) → read_packet buf start end place ≡ x
          → Way (pick b (Err (store_small start place)) (add_read x t recording place start))
      go true h x read = rw (small_there start place) (small (ltb-true (length store) 65536 h))
      go false h (Err f) read = reader (ltb-false (length store) 65536 h) f read
      go false h (Ok p) read = slot (ltb-false (length store) 65536 h) p read (ltb 1024 p.length) refl

-- ---- it in words

-- where the reader gives no packet
pub not_both : (buf : List ℕ) (start end place : ℕ) (f : Refusal) (p : Packet) → read_packet buf start end place ≡ Err f → read_packet buf start end place ≡ Ok p → ⊥
not_both buf start end place f p refused accepted = let e : Err f ≡ Ok p = sym refused ∙ accepted in let z : ◌≡◌ {A = ℕ} 0 1 = cc in omega arith

pub one_packet : (buf : List ℕ) (start end place : ℕ) (p q : Packet) → read_packet buf start end place ≡ Ok p → read_packet buf start end place ≡ Ok q → p ≡ q
one_packet buf start end place p q a b = let e : Ok p ≡ Ok q = sym a ∙ b in cc

pub told_accepted : (buf : List ℕ) (start end place : ℕ) (p : Packet) → read_packet buf start end place ≡ Ok p → Accepts buf start end place p
told_accepted buf start end place p read = ap packet_told read

module _ (t : Rows) (all : length t ≡ 64) (store : List ℕ) (recording place : ℕ) (buf : List ℕ) (start end : ℕ) where
  pub others : 64 ≤ home_of recording place t → OthersLive t recording place
  others left = go (ltb (slot_of recording place t) 64) refl
    where
      go : (b : Bool) → ltb (slot_of recording place t) 64 ≡ b → OthersLive t recording place
      go true h = let low = ltb-true (slot_of recording place t) 64 h in absurd (omega (arith, home_own t all recording place low))
      go false h =
          let none = ltb-false (slot_of recording place t) 64 h in
          λ k slot. (all_live t all (omega (arith, home_free t all recording place none)) k slot, slot_none t all recording place none k)

  no_home : OthersLive t recording place → home_of recording place t ≡ 64
  no_home live =
      let none : slot_of recording place t ≡ 64 = none_slot t all recording place (λ k held. (live k held.0).1 held) in
      home_free t all recording place (omega (arith, none)) ∙ live_all t all (λ k slot. (live k slot).0)

  -- a packet in its slot
  put_in : (p : Packet) → 65536 ≤ length store → read_packet buf start end place ≡ Ok p → p.length ≤ 1024 → (k : ℕ) → k < 64
      → Put t store recording place buf start p k (set t k (entry_in recording place buf start end)) (splice store (k * 1024) (own_bytes (window buf start end)))
  put_in p room read short k slot =
      let own = own_bytes_lem buf start end place p read in
      let long = own_long buf start end place p read in
      let fits : k * 1024 + length (part buf start p.length) ≤ length store = omega (arith, long) in
      rw own
      (record {
        entry =
            get_or-set_same t k (entry_in recording place buf start end) [] (omega (arith, all))
            ∙ ap (entry_of recording) (sym (packet_read buf start end place p read))
            ∙ ap (λ (at : ℕ). 1 ∷ recording ∷ at ∷ p.length ∷ p.fields.channel ∷ p.fields.sequence ∷ p.fields.rtc ∷ []) (packet_place buf start end place p read);
        others = λ j other. get_or-set_other t k j (entry_in recording place buf start end) [] other;
        slots = length-set t k (entry_in recording place buf start end);
        bytes =
            ap (part (splice store (k * 1024) (part buf start p.length)) (k * 1024)) (sym long) ∙ part_splice_same store (k * 1024) (part buf start p.length) fits;
        own =
            λ i. ⊎_elim
            (byte_before store (k * 1024) (part buf start p.length) fits i)
            (λ h. byte_behind store (k * 1024) (part buf start p.length) fits i (omega (arith, long)));
        size = length_splice store (k * 1024) (part buf start p.length) fits;
      })

  abbrev Goes : Result ℕ Refusal → Type 0
  Goes = Way t store recording place buf start end

  home_held : (k : ℕ) → First (HeldAt t recording place) k → (home_of recording place t ≡ k) × (k < 64)
  home_held k held =
      let is = held_slot t all recording place k held in
      (home_own t all recording place (omega (arith, is, held.0.0)) ∙ is, held.0.0)

  home_new : ((k : ℕ) → ¬ HeldAt t recording place k) → (k : ℕ) → First (FreeAt t) k → (home_of recording place t ≡ k) × (k < 64)
  home_new none k first =
      let slot = none_slot t all recording place none in
      (home_free t all recording place (omega (arith, slot)) ∙ first_free t all k first, first.0.0)

  told_ends : (r : Result ℕ Refusal) → Goes r → Ends add_refusals added_told 0 (add_told r)
  told_ends _ (small h) = inr (small_store start place, refl, inl refl)
  told_ends _ (reader room f read) =
      let numbered : OneOf f.number reader_refusals = rw read at (read_numbered buf start end place (rw read (refusal_numbered buf start end place f read))) in
      inr (f, refl, inr (one_ahead f.number reader_refusals (21 ∷ 19 ∷ []) numbered))
  told_ends _ (long room p read h) = inr (refused_there 21 start place, refl, inr (one_behind 21 reader_refusals (21 ∷ 19 ∷ []) (inl refl)))
  told_ends _ (full room p read short h) = inr (refused_there 19 start place, refl, inr (one_behind 19 reader_refusals (21 ∷ 19 ∷ []) (inr (inl refl))))
  told_ends _ (goes room p read short h) = inl (home_of recording place t, refl)

  told_small : (r : Result ℕ Refusal) → Goes r → length store < 65536 → add_told r ≡ added_told (small_store start place) 0
  told_small _ (small h) l = refl
  told_small _ (reader room f read) l = absurd (omega arith)
  told_small _ (long room p read h) l = absurd (omega arith)
  told_small _ (full room p read short h) l = absurd (omega arith)
  told_small _ (goes room p read short h) l = absurd (omega arith)

  -- where a packet is accepted there is no refusal
  none_read : (p : Packet) → read_packet buf start end place ≡ Ok p → (packet_told (read_packet buf start end place)).refusal.number ≡ 0
  none_read p read = ap (λ (x : Result Packet Refusal). (packet_told x).refusal.number) read

  told_reader : (r : Result ℕ Refusal) → Goes r → 65536 ≤ length store → (packet_told (read_packet buf start end place)).refusal.number ≢ 0
      → add_told r ≡ added_told (packet_told (read_packet buf start end place)).refusal 0
  told_reader _ (small h) room some = absurd (omega arith)
  told_reader _ (reader _ f read) room some = ap (λ (x : Result Packet Refusal). added_told (packet_told x).refusal 0) (sym read)
  told_reader _ (long _ p read h) room some = absurd (some (none_read p read))
  told_reader _ (full _ p read short h) room some = absurd (some (none_read p read))
  told_reader _ (goes _ p read short h) room some = absurd (some (none_read p read))

  told_long : (r : Result ℕ Refusal) → Goes r → 65536 ≤ length store → (p : Packet) → read_packet buf start end place ≡ Ok p → 1024 < p.length
      → add_told r ≡ added_told (refused_there 21 start place) 0
  told_long _ (small h) room p read l = absurd (omega arith)
  told_long _ (reader _ f refused) room p read l = absurd (not_both buf start end place f p refused read)
  told_long _ (long _ q other h) room p read l = refl
  told_long _ (full _ q other short h) room p read l = let same = ap (λ (x : Packet). x.length) (one_packet buf start end place p q read other) in absurd (omega (arith, same))
  told_long _ (goes _ q other short h) room p read l = let same = ap (λ (x : Packet). x.length) (one_packet buf start end place p q read other) in absurd (omega (arith, same))

  told_full : (r : Result ℕ Refusal) → Goes r → (p : Packet) → Comes t store recording place buf start end p → home_of recording place t ≡ 64
      → add_told r ≡ added_told (refused_there 19 start place) 0
  told_full _ (small h) p c none = absurd (omega (arith, c.room))
  told_full _ (reader _ f refused) p c none = absurd (not_both buf start end place f p refused (accepted_is buf start end place p c.accepted))
  told_full _ (long _ q other h) p c none =
      let same = ap (λ (x : Packet). x.length) (one_packet buf start end place p q (accepted_is buf start end place p c.accepted) other) in
      absurd (omega (arith, same, c.short))
  told_full _ (full _ q other short h) p c none = refl
  told_full _ (goes _ q other short h) p c none = absurd (omega (arith, none))

  pub told_slot : (r : Result ℕ Refusal) → Goes r → (p : Packet) → Comes t store recording place buf start end p → (k : ℕ) → (home_of recording place t ≡ k) × (k < 64)
      → add_told r ≡ added_told no_refusal k
  told_slot _ (small h) p c k home = absurd (omega (arith, c.room))
  told_slot _ (reader _ f refused) p c k home = absurd (not_both buf start end place f p refused (accepted_is buf start end place p c.accepted))
  told_slot _ (long _ q other h) p c k home =
      let same = ap (λ (x : Packet). x.length) (one_packet buf start end place p q (accepted_is buf start end place p c.accepted) other) in
      absurd (omega (arith, same, c.short))
  told_slot _ (full _ q other short h) p c k home = absurd (omega (arith, home.0, home.1))
  told_slot _ (goes _ q other short h) p c k home = ap (added_told no_refusal) home.0

  -- ---- back

  told_19 : (r : Result ℕ Refusal) → Goes r → (add_told r).refusal.number ≡ 19 → ((p : Packet) × Comes t store recording place buf start end p) × OthersLive t recording place
  told_19 _ (small h) z = absurd (omega (arith, z))
  told_19 _ (reader _ f read) z =
      let numbered : OneOf f.number reader_refusals = rw read at (read_numbered buf start end place (rw read (refusal_numbered buf start end place f read))) in
      absurd (false≢true (one_among 19 reader_refusals (rw z at numbered)))
  told_19 _ (long _ p read h) z = absurd (omega (arith, z))
  told_19 _ (full room p read short h) z = ((p, record { room = room; accepted = told_accepted buf start end place p read; short = short }), others h)
  told_19 _ (goes _ p read short h) z = absurd (omega (arith, z))

  told_put : (r : Result ℕ Refusal) → Goes r → (t' : Rows) (store' : List ℕ) → t' ≡ table_added r t (entry_in recording place buf start end)
      → store' ≡ store_added r store (own_bytes (window buf start end)) → (add_told r).refusal.number ≡ 0
      → ((add_told r).slot < 64) × ((p : Packet) × Comes t store recording place buf start end p × Put t store recording place buf start p (add_told r).slot t' store')
  unfolding table_added store_added
  told_put _ (small h) t' store' ti si z = absurd (omega (arith, z))
  told_put _ (reader _ f read) t' store' ti si z = absurd (refusal_numbered buf start end place f read z)
  told_put _ (long _ p read h) t' store' ti si z = absurd (omega (arith, z))
  told_put _ (full _ p read short h) t' store' ti si z = absurd (omega (arith, z))
  told_put _ (goes room p read short h) t' store' ti si z = (
    h,
    (
      p,
      record { room = room; accepted = told_accepted buf start end place p read; short = short },
      rw (ti, si) (put_in p room read short (home_of recording place t) h),
    ),
  )

  told_untouched : (r : Result ℕ Refusal) → (t' : Rows) (store' : List ℕ) → t' ≡ table_added r t (entry_in recording place buf start end)
      → store' ≡ store_added r store (own_bytes (window buf start end)) → (add_told r).refusal.number ≢ 0 → (t' ≡ t) × (store' ≡ store)
  unfolding table_added store_added
  told_untouched (Ok k) t' store' ti si some = absurd (some refl)
  told_untouched (Err f) t' store' ti si some = (ti, si)

  told_answers : (r : Result ℕ Refusal) → Goes r → (add_told r).refusal.number ≡ 0 → r ≡ Ok (add_told r).slot
  told_answers _ (small h) z = absurd (omega (arith, z))
  told_answers _ (reader _ f read) z = absurd (refusal_numbered buf start end place f read z)
  told_answers _ (long _ p read h) z = absurd (omega (arith, z))
  told_answers _ (full _ p read short h) z = absurd (omega (arith, z))
  told_answers _ (goes _ p read short h) z = refl

  told_refused : (r : Result ℕ Refusal) → (add_told r).refusal.number ≢ 0 → r ≡ Err (add_told r).refusal
  told_refused (Ok k) some = absurd (some refl)
  told_refused (Err f) some = refl

  -- everything that is promised of it
  pub adds : (r : Result ℕ Refusal) (t' : Rows) (store' : List ℕ) → Add t store recording place buf start end r t' store' → Adding t store recording place buf start end r t' store'
  adds r t' store' (is, ti, si) =
      let said : Goes r = rw is (way t store recording place buf start end) in
      record {
        ends = told_ends r said;
        first = told_small r said;
        reader = told_reader r said;
        long = λ room p a. told_long r said room p (accepted_is buf start end place p a);
        full = λ p c live. told_full r said p c (no_home live);
        full_only = told_19 r said;
        replaced = λ p c k held. told_slot r said p c k (home_held k held);
        taken = λ p c none k first. told_slot r said p c k (home_new none k first);
        put = told_put r said t' store' ti si;
        untouched = told_untouched r t' store' ti si;
        answers = told_answers r said;
        answers_refused = told_refused r;
      }

  -- what becomes of table and store: nothing, or the packet goes where its name is to be held
  pub record PutHome (r : Result ℕ Refusal) (t' : Rows) (store' : List ℕ) : Type 0 where
    pub packet : Packet
    pub read : read_packet buf start end place ≡ Ok packet
    pub short : packet.length ≤ 1024
    pub room : 65536 ≤ length store
    pub slot : home_of recording place t < 64
    pub told : r ≡ Ok (home_of recording place t)
    pub put : Put t store recording place buf start packet (home_of recording place t) t' store'
    pub written : store' ≡ splice store (home_of recording place t * 1024) (part buf start packet.length)

  pub effect : (r : Result ℕ Refusal) (t' : Rows) (store' : List ℕ) → Add t store recording place buf start end r t' store' → ((t' ≡ t) × (store' ≡ store) × ((add_told r).refusal.number ≢ 0)) ⊎ PutHome r t' store'
  unfolding table_added store_added
  effect r t' store' (is, ti, si) = go r (rw is (way t store recording place buf start end)) ti si
    where
      go : (x : Result ℕ Refusal) → Goes x → t' ≡ table_added x t (entry_in recording place buf start end) → store' ≡ store_added x store (own_bytes (window buf start end))
          → ((t' ≡ t) × (store' ≡ store) × ((add_told x).refusal.number ≢ 0)) ⊎ PutHome x t' store'
      go _ (small h) ti si = inl (ti, si, λ z. omega (arith, z))
      go _ (reader _ f read) ti si = inl (ti, si, refusal_numbered buf start end place f read)
      go _ (long _ p read h) ti si = inl (ti, si, λ z. omega (arith, z))
      go _ (full _ p read short h) ti si = inl (ti, si, λ z. omega (arith, z))
      go _ (goes room p read short h) ti si =
          inr (record {
            packet = p;
            read = read;
            short = short;
            room = room;
            slot = h;
            told = refl;
            put = rw (ti, si) (put_in p room read short (home_of recording place t) h);
            written = si ∙ ap (splice store (home_of recording place t * 1024)) (own_bytes_lem buf start end place p read);
          })
