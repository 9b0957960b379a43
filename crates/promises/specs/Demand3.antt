-- Demand 3, sentence by sentence; proved in proofs/Demand3.antt (demand_3).
use Rattle.std.specs.Prelude.{◌≡◌, List, ◌∷◌, ◌++◌, ◌⊎◌, ◌≢◌, ℕ, suc, ◌+◌, ◌-◌, ◌≤◌, ◌<◌, length}
use Rattle.units.specs.Units.{Bytes, splice}
use Rattle.terms.specs.Refusals.{no_refusal}
use Rattle.packet.specs.Read.{window}
use Rattle.promises.specs.Contents.{Typed, Accepts, AllAccepted, written}
use Rattle.frame.specs.Contents.{Contents}
use Rattle.packet_bytes.specs.Bytes.{packet_bytes}
use Rattle.promises.specs.Altered.{body_place, sum_size, UnitOf, Altered, Pieces, FirstAltered}
use Rattle.promises.specs.Endings.{refused_there}
use Rattle.promises.specs.Handed.{Within}
use Rattle.promises.specs.ReadsAs.{ReadsAs}

pub record Demand3 : Type 0 where
  -- "Take any list of contents the writer accepts, written end to end, and a window that holds exactly that." Reading it hands out
  -- exactly the list, to the exact end; its base is any that is not refused.
  pub list_handed_out : (cs : List Contents) → AllAccepted cs → (buf : List ℕ) (start end base : ℕ) → Within buf start end base
      → window buf start end ≡ written cs → ReadsAs buf start end base cs end (base + (end - start)) no_refusal
  -- "Different lists never give equal bytes."
  pub different_lists : (cs ds : List Contents) → AllAccepted cs → AllAccepted ds → cs ≢ ds → written cs ≢ written ds
  -- "Now alter any of its packets, at least one, each in a single unit: one 16-bit word of its primary header or of its secondary
  -- header, or, if it carries a data sum, one aligned unit of that sum's width in body, filler or sum. Reading then hands out all
  -- packets before the first altered one as they were written, and stops at that one's first byte: with refusal 3 for the sync word,
  -- 4 for another primary word, 11 for a secondary word, 13 for the rest." The units and their numbers: UnitOf.
  pub altered_list : (cs : List Contents) (k : ℕ) (bs : List ℕ) → Pieces cs k bs → 0 < k
      → (buf : List ℕ) (start end base : ℕ) → Within buf start end base → window buf start end ≡ bs
      → (f : FirstAltered cs bs)
      × ReadsAs buf start end base f.before (start + length (written f.before)) (base + length (written f.before))
      (refused_there f.number (start + length (written f.before)) (base + length (written f.before)))
  -- The same of packets as they were written, one altered, and anything at all behind it.
  pub stops_at_altered : (before : List Contents) → AllAccepted before → (c : Contents) → Accepts c → (n : ℕ) (ys : List ℕ) → Altered c n ys
      → (rest buf : List ℕ) (start end base : ℕ) → Within buf start end base → window buf start end ≡ written before ++ (ys ++ rest)
      → ReadsAs buf start end base before (start + length (written before)) (base + length (written before))
      (refused_there n (start + length (written before)) (base + length (written before)))
  -- There is one first altered packet.
  pub first_once : (cs : List Contents) (bs : List ℕ) (f g : FirstAltered cs bs)
      → (f.before ≡ g.before) × (f.first ≡ g.first) × (f.behind ≡ g.behind) × (f.number ≡ g.number)
  -- Nothing is left out. Any list may be left as it was written, and any packet of one altered, whatever is done to the others;
  pub all_intact : (cs : List Contents) → AllAccepted cs → Pieces cs 0 (written cs)
  pub any_altered : (cs ds : List Contents) (j k : ℕ) (xs zs : List ℕ) → Pieces cs j xs → (c : Contents) → Accepts c → (n : ℕ) (ys : List ℕ) → Altered c n ys
      → Pieces ds k zs → Pieces (cs ++ (c ∷ ds)) (j + suc k) (xs ++ (ys ++ zs))
  -- where no packet is altered, the bytes are those of the list;
  pub none_altered : (cs : List Contents) (bs : List ℕ) → Pieces cs 0 bs → AllAccepted cs × (bs ≡ written cs)
  -- any other bytes in the place of a unit's are an alteration;
  pub every_change_named : (c : Contents) → Typed c → (n at width : ℕ) → UnitOf c n at width → (new : List ℕ) → length new ≡ width → Bytes new
      → splice (packet_bytes c) at new ≢ packet_bytes c → Altered c n (splice (packet_bytes c) at new)
  -- and each byte of both headers, and of body, filler and sum where a data sum is carried, lies in one of the units.
  pub every_byte_named : (c : Contents) (i : ℕ) → i < length (packet_bytes c) → (i < body_place c) ⊎ (0 < sum_size c)
      → (n : ℕ) × (at : ℕ) × (width : ℕ) × UnitOf c n at width × (at ≤ i) × (i < at + width)
