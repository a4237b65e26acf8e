-- How the fields of a content stay in order.
use Rattle.std.proofs.Common.{◌≡◌, ℕ, ◌+◌, ◌-◌, ◌≤◌, min, max, Bool, true, false, List, [], ◌∷◌, ◌++◌, length, take, refl, sym, ap, ◌∙◌, subst, arith}
use Rattle.std.proofs.lemmas.List.{append-nil, length-append, take-take, nil_from_length}
use Rattle.disk_base.specs.Images.{Torn, TornBy, Range, overwritten}
use Rattle.disk_base.specs.Replay.{Kept, fresh, wrote, went_back, synced_now, sync_of, after_sync, replay, total}
use Rattle.disk_base.specs.Content.{kept_of, Tells, InOrder}
use Rattle.disk_base.specs.declared.content.Step.{Step}
use Rattle.disk_base.specs.declared.content.Step.TheVariants.{Wrote, Synced}
use Rattle.disk_base.proofs.Tearing.{whole, joined, lost, length-overwritten}
use Rattle.disk_base.proofs.Records.{replay-push, total-push}

-- only capacities grew
pub grown : (c : Bool) (first bytes synced written : List ℕ) (steps : List Step) (below due writes left cb cs cw ct : ℕ) (bytes' synced' written' : List ℕ) (steps' : List Step) (cb' cs' cw' ct' : ℕ)
    → InOrder c first bytes synced written steps below due writes left cb cs cw ct → bytes' ≡ bytes → synced' ≡ synced → written' ≡ written → steps' ≡ steps → cb ≤ cb' → cs ≤ cs' → cw ≤ cw' → ct ≤ ct'
    → InOrder c first bytes' synced' written' steps' below due writes left cb' cs' cw' ct'
grown c first bytes synced written steps below due writes left cb cs cw ct bytes' synced' written' steps' cb' cs' cw' ct' o eb es ew et lb ls lw lt =
    rw (eb, es, ew, et) (record {
      tells = o.tells;
      counted = o.counted;
      room = record {
        for_bytes = omega (arith, o.room.for_bytes);
        for_synced = λ is. omega (arith, o.room.for_synced is);
        shorter = o.room.shorter;
        for_written = omega (arith, o.room.for_written);
        for_steps = omega (arith, o.room.for_steps);
        none = o.room.none;
      };
      is_due = o.is_due;
    })

-- with room for a write or a sync due the copies were made
made : (c : Bool) (n : ℕ) → (c ≡ false → n ≡ 0) → 1 ≤ n → c ≡ true
made true n none some = refl
made false n none some = absurd (omega (arith, none refl))

module _ (c : Bool) (first bytes synced written : List ℕ) (steps : List Step) (below due writes left cb cs cw ct : ℕ) (o : InOrder c first bytes synced written steps below due writes left cb cs cw ct) where
  abbrev kept : Kept
  kept = kept_of c first bytes steps written

  -- the record's start is the same, whatever the bytes are now
  base : c ≡ true → (bytes' : List ℕ) (steps' : List Step) (written' : List ℕ) → kept_of c first bytes' steps' written' ≡ replay (fresh first) steps' written'
  base is bytes' steps' written' = ap (λ (b : Bool). kept_of b first bytes' steps' written') is

  module _ (at n count : ℕ) (w : List ℕ) (counts : count ≡ length w) (fits : length w ≤ n) (enough : n ≤ left) (some : 1 ≤ writes) (place : at ≤ length kept.seen) where
    is_made : c ≡ true
    is_made = made c (writes + left + length steps + length written + due) o.room.none (omega arith)

    within : at ≤ length bytes
    within = subst (λ (l : List ℕ). at ≤ length l) o.tells.seen place

    module _ (written' : List ℕ) (steps' : List Step) (cw' ct' : ℕ) (ew : written' ≡ written ++ w) (lw : cw ≤ cw') (lt : ct ≤ ct') where
      -- a step more
      stepped : (lost_too : Bool) (bytes' : List ℕ) → steps' ≡ steps ++ Wrote at count lost_too ∷ [] → kept_of c first bytes' steps' written' ≡ Rattle.disk_base.specs.Replay.after_step kept (Wrote at count lost_too) w
      stepped lost_too bytes' es =
          base is_made bytes' steps' written'
          ∙ ap (λ (l : List Step). replay (fresh first) l written') es
          ∙ ap (λ (l : List ℕ). replay (fresh first) (steps ++ Wrote at count lost_too ∷ []) l) ew
          ∙ replay-push (fresh first) steps written (Wrote at count lost_too) w o.counted counts
          ∙ ap (λ (k : Kept). Rattle.disk_base.specs.Replay.after_step k (Wrote at count lost_too) w) (sym (base is_made bytes steps written))

      counted' : (lost_too : Bool) → steps' ≡ steps ++ Wrote at count lost_too ∷ [] → total steps' ≡ length written'
      counted' lost_too es =
          ap total es ∙ total-push steps (Wrote at count lost_too)
          ∙ omega (arith, o.counted, length-append written w, ap length ew)

      length_steps : (lost_too : Bool) → steps' ≡ steps ++ Wrote at count lost_too ∷ [] → length steps' ≡ length steps + 1
      length_steps lost_too es = ap length es ∙ length-append steps (Wrote at count lost_too ∷ [])

      -- a write that stays
      pub put_kept : (bytes' : List ℕ) → steps' ≡ steps ++ Wrote at count false ∷ [] → kept_of c first bytes' steps' written' ≡ wrote kept at w
      put_kept bytes' es = stepped false bytes' es

      pub put_order : (bytes' : List ℕ) (below' cb' : ℕ) → steps' ≡ steps ++ Wrote at count false ∷ [] → bytes' ≡ overwritten bytes at w → below' ≡ min below at → cb ≤ cb'
          → InOrder c first bytes' synced written' steps' below' 1 (writes - 1) (left - n) cb' cs cw' ct'
      put_order bytes' below' cb' es eb el lb =
          let size : length bytes' ≡ max (length bytes) (at + length w) = ap length eb ∙ length-overwritten at w bytes within in
          let torn : Torn at (length w) bytes bytes' = subst (λ (l : List ℕ). Torn at (length w) bytes l) (sym eb) (whole at w bytes within) in
          let below_at : below' ≤ at = omega (arith, el) in
          let below_old : below' ≤ below = omega (arith, el) in
          record {
            tells = subst (λ (k : Kept). Tells c bytes' synced below' k) (sym (put_kept bytes' es)) (record {
              seen = ap (λ (l : List ℕ). overwritten l at w) o.tells.seen ∙ sym eb;
              reached = joined kept.since (record { at = at; count = length w } ∷ []) kept.synced bytes bytes' o.tells.reached (bytes', torn, refl);
              copy = o.tells.copy;
              same = λ is. sym (take-take below' at bytes' below_at) ∙ ap (λ (l : List ℕ). take below' l) torn.before ∙ take-take below' at bytes below_at
                  ∙ sym (take-take below' below bytes below_old) ∙ ap (λ (l : List ℕ). take below' l) (o.tells.same is) ∙ take-take below' below synced below_old;
              within = omega (arith, o.tells.within, size);
              within_synced = λ is. omega (arith, o.tells.within_synced is);
            });
            counted = counted' false es;
            room = record {
              for_bytes = omega (arith, o.room.for_bytes, size, within, fits, enough);
              for_synced = λ is. omega (arith, o.room.for_synced is, size, within, fits, enough);
              shorter = λ is. omega (arith, o.room.shorter is, size);
              for_written = omega (arith, o.room.for_written, ap length ew, length-append written w);
              for_steps = omega (arith, o.room.for_steps, length_steps false es);
              none = λ is. absurd (cc (is, is_made));
            };
            is_due = record {
              most = omega arith;
              clean = λ is. absurd (omega (arith, is));
              dirty = λ is. subst (λ (k : Kept). 1 ≤ length k.since) (sym (put_kept bytes' es)) (omega (arith, length-append kept.since (record { at = at; count = length w } ∷ [])));
            };
          }

      -- a write with which all went back
      pub lose_kept : (bytes' : List ℕ) → steps' ≡ steps ++ Wrote at count true ∷ [] → kept_of c first bytes' steps' written' ≡ went_back kept at w
      lose_kept bytes' es = stepped true bytes' es

      pub lose_order : (bytes' : List ℕ) (cb' : ℕ) → steps' ≡ steps ++ Wrote at count true ∷ [] → bytes' ≡ synced → cb ≤ cb'
          → InOrder c first bytes' synced written' steps' below 1 (writes - 1) (left - n) cb' cs cw' ct'
      lose_order bytes' cb' es eb lb =
          let size : length bytes' ≡ length synced = ap length eb in
          let shorter = o.room.shorter is_made in
          record {
            tells = subst (λ (k : Kept). Tells c bytes' synced below k) (sym (lose_kept bytes' es)) (record {
              seen = o.tells.copy is_made ∙ sym eb;
              reached = subst (λ (l : List ℕ). TornBy (kept.since ++ record { at = at; count = length w } ∷ []) kept.synced l) (o.tells.copy is_made ∙ sym eb) (lost (kept.since ++ record { at = at; count = length w } ∷ []) kept.synced);
              copy = o.tells.copy;
              same = λ is. ap (λ (l : List ℕ). take below l) eb;
              within = omega (arith, o.tells.within_synced is_made, size);
              within_synced = o.tells.within_synced;
            });
            counted = counted' true es;
            room = record {
              for_bytes = omega (arith, o.room.for_bytes, size, shorter);
              for_synced = λ is. omega (arith, o.room.for_synced is, size, shorter);
              shorter = λ is. omega (arith, size);
              for_written = omega (arith, o.room.for_written, ap length ew, length-append written w);
              for_steps = omega (arith, o.room.for_steps, length_steps true es);
              none = λ is. absurd (cc (is, is_made));
            };
            is_due = record {
              most = omega arith;
              clean = λ is. absurd (omega (arith, is));
              dirty = λ is. subst (λ (k : Kept). 1 ≤ length k.since) (sym (lose_kept bytes' es)) (omega (arith, length-append kept.since (record { at = at; count = length w } ∷ [])));
            };
          }

  -- a sync where one is due
  module _ (is_due : 1 ≤ due) (steps' : List Step) (cs' ct' : ℕ) (es : steps' ≡ steps ++ Synced ∷ []) (ls : cs ≤ cs') (lt : ct ≤ ct') where
    sync_made : c ≡ true
    sync_made = made c (writes + left + length steps + length written + due) o.room.none (omega arith)

    some_since : (k : Kept) (since : List Range) → 1 ≤ length since → sync_of k since ≡ synced_now k
    some_since k [] some = absurd (omega arith)
    some_since k (range ∷ since) some = refl

    now_kept : kept_of c first bytes steps' written ≡ synced_now kept
    now_kept =
        base sync_made bytes steps' written
        ∙ ap (λ (l : List Step). replay (fresh first) l written) es
        ∙ ap (λ (l : List ℕ). replay (fresh first) (steps ++ Synced ∷ []) l) (sym (append-nil written))
        ∙ replay-push (fresh first) steps written Synced [] o.counted refl
        ∙ ap synced_now (sym (base sync_made bytes steps written))

    pub sync_kept : kept_of c first bytes steps' written ≡ after_sync kept
    sync_kept = now_kept ∙ sym (some_since kept kept.since (o.is_due.dirty is_due))

    pub sync_order : (synced' : List ℕ) (below' : ℕ) → synced' ≡ bytes → below' ≡ length bytes → InOrder c first bytes synced' written steps' below' 0 writes left cb cs' cw ct'
    sync_order synced' below' eq el =
        let size : length synced' ≡ length bytes = ap length eq in
        record {
          tells = subst (λ (k : Kept). Tells c bytes synced' below' k) (sym now_kept) (record {
            seen = o.tells.seen;
            reached = sym o.tells.seen;
            copy = λ is. o.tells.seen ∙ sym eq;
            same = λ is. ap (λ (l : List ℕ). take below' l) (sym eq);
            within = omega arith;
            within_synced = λ is. omega (arith, size);
          });
          counted = ap total es ∙ total-push steps Synced ∙ omega (arith, o.counted);
          room = record {
            for_bytes = o.room.for_bytes;
            for_synced = λ is. omega (arith, o.room.for_synced is);
            shorter = λ is. omega (arith, size);
            for_written = o.room.for_written;
            for_steps = omega (arith, o.room.for_steps, ap length es, length-append steps (Synced ∷ []), o.is_due.most);
            none = λ is. absurd (cc (is, sync_made));
          };
          is_due = record {
            most = omega arith;
            clean = λ is. ap (λ (k : Kept). length k.since) now_kept;
            dirty = λ is. absurd (omega (arith, is));
          };
        }

  -- a sync where none is due
  pub no_sync : due ≡ 0 → kept ≡ after_sync kept
  no_sync is = sym (ap (sync_of kept) (nil_from_length kept.since (o.is_due.clean is)))

-- copies that are not in use may change
pub partly : (c : Bool) (first bytes synced written : List ℕ) (steps : List Step) (below due writes left cb cs cw ct : ℕ) (first' bytes' synced' written' : List ℕ) (steps' : List Step) (cb' cs' cw' ct' : ℕ)
    → InOrder c first bytes synced written steps below due writes left cb cs cw ct → (c ≡ true → first' ≡ first) → (c ≡ true → synced' ≡ synced) → bytes' ≡ bytes → written' ≡ written → steps' ≡ steps
    → cb ≤ cb' → (c ≡ true → cs ≤ cs') → cw ≤ cw' → ct ≤ ct'
    → InOrder c first' bytes' synced' written' steps' below due writes left cb' cs' cw' ct'
partly true first bytes synced written steps below due writes left cb cs cw ct first' bytes' synced' written' steps' cb' cs' cw' ct' o ef es eb ew et lb ls lw lt =
    rw (ef refl) (grown true first bytes synced written steps below due writes left cb cs cw ct bytes' synced' written' steps' cb' cs' cw' ct' o eb (es refl) ew et lb (ls refl) lw lt)
partly false first bytes synced written steps below due writes left cb cs cw ct first' bytes' synced' written' steps' cb' cs' cw' ct' o ef es eb ew et lb ls lw lt =
    rw (eb, ew, et) (record {
      tells = record {
        seen = o.tells.seen;
        reached = o.tells.reached;
        copy = λ is. absurd (cc is);
        same = λ is. absurd (cc is);
        within = o.tells.within;
        within_synced = λ is. absurd (cc is);
      };
      counted = o.counted;
      room = record {
        for_bytes = omega (arith, o.room.for_bytes);
        for_synced = λ is. absurd (cc is);
        shorter = λ is. absurd (cc is);
        for_written = omega (arith, o.room.for_written);
        for_steps = omega (arith, o.room.for_steps);
        none = o.room.none;
      };
      is_due = o.is_due;
    })

-- there is room for eight more writes, with copies that were made now or before
pub ready_order : (c : Bool) (first bytes synced written : List ℕ) (steps : List Step) (below due writes left cb cs cw ct : ℕ) (first' bytes' synced' written' : List ℕ) (steps' : List Step) (cb' cs' cw' ct' extra left' : ℕ)
    → InOrder c first bytes synced written steps below due writes left cb cs cw ct → (c ≡ true → first' ≡ first) → (c ≡ true → synced' ≡ synced) → (c ≡ false → first' ≡ bytes) → (c ≡ false → synced' ≡ bytes)
    → bytes' ≡ bytes → written' ≡ written → steps' ≡ steps → cb ≤ cb' → (c ≡ true → cs ≤ cs') → cw ≤ cw'
    → length bytes + extra ≤ cb' → length bytes + extra ≤ cs' → length written + extra ≤ cw' → length steps + 17 ≤ ct' → left' ≡ max left extra
    → InOrder true first' bytes' synced' written' steps' below due 8 left' cb' cs' cw' ct'
ready_order true first bytes synced written steps below due writes left cb cs cw ct first' bytes' synced' written' steps' cb' cs' cw' ct' extra left' o ef es nf ns eb ew et lb ls lw mb ms mw mt el =
    rw (ef refl, es refl, eb, ew, et) (record {
      tells = o.tells;
      counted = o.counted;
      room = record {
        for_bytes = omega (arith, o.room.for_bytes, mb);
        for_synced = λ is. omega (arith, o.room.for_synced refl, ls refl, ms);
        shorter = o.room.shorter;
        for_written = omega (arith, o.room.for_written, mw);
        for_steps = omega (arith, mt, o.is_due.most);
        none = λ is. absurd (cc is);
      };
      is_due = o.is_due;
    })
ready_order false first bytes synced written steps below due writes left cb cs cw ct first' bytes' synced' written' steps' cb' cs' cw' ct' extra left' o ef es nf ns eb ew et lb ls lw mb ms mw mt el =
    let bare = o.room.none refl in
    let no_steps : steps ≡ [] = nil_from_length steps (omega (arith, bare)) in
    let synced_is : (kept_of false first bytes steps written).synced ≡ bytes = ap (λ (l : List Step). (replay (fresh bytes) l written).synced) no_steps in
    rw (nf refl, ns refl, eb, ew, et) (record {
      tells = record {
        seen = o.tells.seen;
        reached = o.tells.reached;
        copy = λ is. synced_is;
        same = λ is. refl;
        within = o.tells.within;
        within_synced = λ is. o.tells.within;
      };
      counted = o.counted;
      room = record {
        for_bytes = omega (arith, bare, mb);
        for_synced = λ is. omega (arith, bare, ms);
        shorter = λ is. omega arith;
        for_written = omega (arith, bare, mw);
        for_steps = omega (arith, mt, o.is_due.most);
        none = λ is. absurd (cc is);
      };
      is_due = o.is_due;
    })
