-- What a crash may leave of a disk in memory after each call.
use Rattle.std.proofs.Common.{◌≡◌, ◌⊎◌, inl, inr, ⊎_elim, ℕ, zero, suc, ◌≤◌, Bool, true, false, if◌then◌else◌, List, [], ◌∷◌, ◌++◌, length, take, drop, Some, refl, sym, ap, ◌∙◌, subst, arith}
use Rattle.std.proofs.lemmas.List.{length-append, length-take}
use Rattle.disk_base.specs.Images.{Torn, TornBy, Range, Follows, SameImages, AddsNoImage, OnlyWhatIsRead}
use Rattle.disk_base.specs.Moments.{Elapses}
use Rattle.disk_base.specs.Replay.{Interval, Kept, MayLeave, HadLeft, LeftSince, wrote, went_back, synced_now, sync_of, after_sync}
use Rattle.disk_base.specs.InMemory.{kept_by}
use Rattle.disk_base.specs.declared.disk.Plan.{Plan}
use Rattle.disk_base.proofs.Tearing.{torn_lost, torn_wider, whole, joined, split, lost}

-- a call that writes nothing
pub same_images : (images : List ℕ → Type 0) → SameImages images images
same_images images = record { kept = λ c here. here; no_other = λ c here. here }

-- time goes on from the one state to the other
abbrev pub Goes : Kept → Kept → Type 0
Goes old new = Elapses (length old.past) (length new.past) (LeftSince old) (LeftSince new) (MayLeave new)

pub elapses_same : (kept : Kept) → Elapses (length kept.past) (length kept.past) (LeftSince kept) (LeftSince kept) (MayLeave kept)
elapses_same kept = record { later = omega arith; nothing_else = λ t c le left. inl left; keeps = λ t c le left. left }

-- a write, whatever the disk then reads
module _ (old : Kept) (at : ℕ) (w : List ℕ) where
  abbrev range : Range
  range = record { at = at; count = length w }

  last_torn : (c : List ℕ) → TornBy (old.since ++ range ∷ []) old.synced c → (d : List ℕ) × TornBy old.since old.synced d × Torn at (length w) d c
  last_torn c torn =
      let parts = split old.since (range ∷ []) old.synced c torn in
      let last = parts.2 in
      (parts.0, parts.1, subst (λ (l : List ℕ). Torn at (length w) parts.0 l) (sym last.2) last.1)

  module _ (n : ℕ) (fits : length w ≤ n) where
    pub wrote_follows : at ≤ length old.seen → Follows (Torn at n) (MayLeave old) (MayLeave (wrote old at w))
    wrote_follows place c (inl is) = (old.seen, inl refl, torn_wider at (length w) n old.seen c fits (subst (λ (l : List ℕ). Torn at (length w) old.seen l) (sym is) (whole at w old.seen place)))
    wrote_follows place c (inr torn) = let from = last_torn c torn in (from.0, inr from.1, torn_wider at (length w) n from.0 c fits from.2)

    pub went_back_follows : Follows (Torn at n) (MayLeave old) (MayLeave (went_back old at w))
    went_back_follows c (inl is) = (old.synced, inr (lost old.since old.synced), subst (λ (l : List ℕ). Torn at n old.synced l) (sym is) (torn_lost at n old.synced))
    went_back_follows c (inr torn) = let from = last_torn c torn in (from.0, inr from.1, torn_wider at (length w) n from.0 c fits from.2)

  -- what might be left before the write might be left after it
  wider : TornBy old.since old.synced old.seen → (c : List ℕ) → MayLeave old c → TornBy (old.since ++ range ∷ []) old.synced c
  wider reached c (inl is) = joined old.since (range ∷ []) old.synced c c (subst (λ (l : List ℕ). TornBy old.since old.synced l) (sym is) reached) (lost (range ∷ []) c)
  wider reached c (inr torn) = joined old.since (range ∷ []) old.synced c c torn (lost (range ∷ []) c)

  pub wrote_elapses : TornBy old.since old.synced old.seen → Goes old (wrote old at w)
  wrote_elapses reached = record {
    later = omega arith;
    nothing_else = λ t c le left. ⊎_elim (λ now. inr now) (λ had. inl (inr had)) left;
    keeps = λ t c le left. ⊎_elim (λ now. inl (inr (wider reached c now))) (λ had. inr had) left;
  }

  pub went_back_elapses : TornBy old.since old.synced old.seen → Goes old (went_back old at w)
  went_back_elapses reached = record {
    later = omega arith;
    nothing_else = λ t c le left. ⊎_elim (λ now. inr now) (λ had. inl (inr had)) left;
    keeps = λ t c le left. ⊎_elim (λ now. inl (inr (wider reached c now))) (λ had. inr had) left;
  }

-- a planned failure
module _ (plan : Plan) (old : Kept) (at : ℕ) (bytes : List ℕ) where
  fewer : length (take plan.keep bytes) ≤ length bytes
  fewer = omega (arith, length-take plan.keep bytes)

  pub kept_by_follows : at ≤ length old.seen → Follows (Torn at (length bytes)) (MayLeave old) (MayLeave (kept_by plan old at bytes))
  kept_by_follows place =
      let w = take plan.keep bytes in
      elim plan.lose as (λ (b : Bool). Follows (Torn at (length bytes)) (MayLeave old) (MayLeave (if b then went_back old at w else wrote old at w))) [
        | true ↦ went_back_follows old at w (length bytes) fewer
        | false ↦ wrote_follows old at w (length bytes) fewer place
      ]

  pub kept_by_elapses : TornBy old.since old.synced old.seen → Goes old (kept_by plan old at bytes)
  kept_by_elapses reached =
      let w = take plan.keep bytes in
      elim plan.lose as (λ (b : Bool). Goes old (if b then went_back old at w else wrote old at w)) [
        | true ↦ went_back_elapses old at w reached
        | false ↦ wrote_elapses old at w reached
      ]

-- one interval more
had_more : (past : List Interval) (i : Interval) (c : List ℕ) → HadLeft past c → HadLeft (past ++ i ∷ []) c
had_more [] i c had = absurd had
had_more (p ∷ past) i c (inl here) = inl here
had_more (p ∷ past) i c (inr there) = inr (had_more past i c there)

had_last : (past : List Interval) (i : Interval) (c : List ℕ) → TornBy i.since i.synced c → HadLeft (past ++ i ∷ []) c
had_last [] i c torn = inl torn
had_last (p ∷ past) i c torn = inr (had_last past i c torn)

had_either : (past : List Interval) (i : Interval) (c : List ℕ) → HadLeft (past ++ i ∷ []) c → HadLeft past c ⊎ TornBy i.since i.synced c
had_either [] i c (inl here) = inr here
had_either [] i c (inr none) = absurd none
had_either (p ∷ past) i c (inl here) = inl (inl here)
had_either (p ∷ past) i c (inr there) = ⊎_elim (λ had. inl (inr had)) (λ torn. inr torn) (had_either past i c there)

drop_more : (t : ℕ) (past : List Interval) (i : Interval) → t ≤ length past → drop t (past ++ i ∷ []) ≡ drop t past ++ i ∷ []
drop_more zero past i le = refl
drop_more (suc t) [] i le = absurd (omega arith)
drop_more (suc t) (p ∷ past) i le = drop_more t past i (omega arith)

-- a sync that follows a write
module _ (old : Kept) (reached : TornBy old.since old.synced old.seen) where
  abbrev interval : Interval
  interval = record { synced = old.synced; since = old.since }

  torn_now : (c : List ℕ) → MayLeave old c → TornBy old.since old.synced c
  torn_now c (inl is) = subst (λ (l : List ℕ). TornBy old.since old.synced l) (sym is) reached
  torn_now c (inr torn) = torn

  now_elapses : Goes old (synced_now old)
  now_elapses = record {
    later = omega (arith, length-append old.past (interval ∷ []));
    nothing_else = λ t c le left. ⊎_elim (λ now. inr now) (λ had. inl (was t c (had_either (drop t old.past) interval c (subst (λ (l : List Interval). HadLeft l c) (drop_more t old.past interval le) had)))) left;
    keeps = λ t c le left. inr (subst (λ (l : List Interval). HadLeft l c) (sym (drop_more t old.past interval le)) (⊎_elim (λ now. had_last (drop t old.past) interval c (torn_now c now)) (λ had. had_more (drop t old.past) interval c had) left));
  }
    where
      was : (t : ℕ) (c : List ℕ) → HadLeft (drop t old.past) c ⊎ TornBy old.since old.synced c → LeftSince old t c
      was t c (inl had) = inr had
      was t c (inr torn) = inl (inr torn)

  now_only : OnlyWhatIsRead (Some old.seen) (MayLeave (synced_now old))
  now_only c (inl is) = ap Some (sym is)
  now_only c (inr is) = ap Some (sym is)

  now_adds : AddsNoImage (MayLeave old) (MayLeave (synced_now old))
  now_adds c (inl is) = inl is
  now_adds c (inr is) = inl is

-- any sync
sync_case : (old : Kept) (since : List Range) (P : Kept → Type 0) → (old.since ≡ since → since ≡ [] → P old) → P (synced_now old) → old.since ≡ since → P (sync_of old since)
sync_case old [] P none some is = none is refl
sync_case old (first ∷ since) P none some is = some

module _ (old : Kept) (reached : TornBy old.since old.synced old.seen) where
  pub sync_elapses : Goes old (after_sync old)
  sync_elapses = sync_case old old.since (λ (k : Kept). Goes old k) (λ e none. elapses_same old) (now_elapses old reached) refl

  pub sync_only : OnlyWhatIsRead (Some old.seen) (MayLeave (after_sync old))
  sync_only = sync_case old old.since (λ (k : Kept). OnlyWhatIsRead (Some old.seen) (MayLeave k)) (λ e none c left. ap Some (sym (clean none c left))) (now_only old reached) refl
    where
      clean : old.since ≡ [] → (c : List ℕ) → MayLeave old c → c ≡ old.seen
      clean none c (inl is) = is
      clean none c (inr torn) =
          let here : c ≡ old.synced = subst (λ (l : List Range). TornBy l old.synced c) none torn in
          let seen : old.seen ≡ old.synced = subst (λ (l : List Range). TornBy l old.synced old.seen) none reached in
          here ∙ sym seen

  pub sync_adds : AddsNoImage (MayLeave old) (MayLeave (after_sync old))
  sync_adds = sync_case old old.since (λ (k : Kept). AddsNoImage (MayLeave old) (MayLeave k)) (λ e none c left. left) (now_adds old reached) refl

  pub sync_reads : (after_sync old).seen ≡ old.seen
  sync_reads = sync_case old old.since (λ (k : Kept). k.seen ≡ old.seen) (λ e none. refl) refl refl
