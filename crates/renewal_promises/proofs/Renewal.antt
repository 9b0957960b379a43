-- 02 §13's promises hold.
use mathlib.Core.Path.{◌∙◌}
use Rattle.renewal_promises.specs.Renewal.{Renewal}
use Rattle.renewal_promises.proofs.Finding as finding
use Rattle.renewal_promises.proofs.Added.{adds}
use Rattle.renewal_promises.proofs.Renewed.{renews}
use Rattle.renewal_promises.proofs.Made as made
use Rattle.renewal_promises.proofs.Windows as windows
use Rattle.renewal_promises.proofs.Kept as kept

pub renewal : Renewal
renewal =
    record {
      adding = λ t store recording place buf start end r t' store' all. adds t all store recording place buf start end r t' store';
      renewing = λ t store recording place buf start end r t' all. renews t all store recording place buf start end r t';
      next_live_lem = λ t from r k all is first. is ∙ finding.next_first t all from k first;
      next_none = λ t from r all is none. is ∙ finding.next_none t all from none;
      empty_is = λ t is. is;
      slots = made.slots;
      once = made.once;
      gone = λ t m store recording place buf start end r t' call room within away. made.gone t m store recording place buf start end r t' call room within away;
      second = λ t store recording place buf start end r t' all. made.second t all store recording place buf start end r t';
      add_inside = λ t store recording place a b start end r q t₁ t₂ store₁ store₂ in_a in_b same.
          windows.add_inside t store recording place a b start end in_a in_b same r q t₁ t₂ store₁ store₂;
      renew_inside = λ t store recording place a b start end r q t₁ t₂ in_a in_b same. windows.renew_inside t store recording place a b start end in_a in_b same r q t₁ t₂;
      add_elsewhere = λ t store recording place a b start end start' end' r q t₁ t₂ store₁ store₂ all in_a in_b same call-a call-b.
          windows.add_elsewhere t all store recording place a b start end start' end' in_a in_b same r q t₁ t₂ store₁ store₂ call-a call-b;
      renew_elsewhere = λ t store recording place a b start end start' end' r q t₁ t₂ all in_a in_b same call-a call-b.
          windows.renew_elsewhere t all store recording place a b start end start' end' in_a in_b same r q t₁ t₂ call-a call-b;
      add_others = λ t store recording place buf start end r t' store' all call recording' place' j other.
          kept.add_others t all store recording place buf start end recording' place' other r t' store' call j;
      renew_others = λ t store recording place buf start end r t' all call recording' place' j other.
          kept.renew_others t all store recording place buf start end recording' place' other r t' call j;
      add_keeps = λ t store recording place buf start end r t' store' p all. kept.add_keeps t all store recording place buf start end r t' store' p;
      add_keeps_others = λ t store recording place buf start end r t' store' all call recording' place' bytes other.
          kept.add_keeps_others t all store recording place buf start end recording' place' other r t' store' call bytes;
      renew_keeps_others = λ t store recording place buf start end r t' all call recording' place' bytes other.
          kept.renew_keeps_others t all store recording place buf start end recording' place' other r t' call bytes;
      renew_keeps = λ t store recording place buf start end r t' bytes all. kept.renew_keeps t all store recording place buf start end r t' bytes;
      keeps_lives = λ t store recording place buf start end r t' bytes all. kept.keeps_lives t all store recording place buf start end r t' bytes;
    }
