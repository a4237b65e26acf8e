-- Kept lists are sound exactly where no payload, taken one after another, breaks soundness.
use Rattle.std.proofs.Common.{◌≡◌, ℕ, zero, suc, Bool, true, false, cond, ◌==◌, List, [], ◌∷◌, length, take, slice_get, Some, refl, sym, ap, subst, eqb-true, eq-eqb}
use Rattle.history_frame.specs.declared.events.Kept.{Kept}
use Rattle.log_base.specs.ClusterShape.{Shape}
use Rattle.node_model.specs.Sound.{IsBefore, IsSound, IsSoundAt, IsSoundOne, payloads_on}

-- a payload stands in its disk's list behind those that were kept before it
pub stands_on : (kept : List Kept) (index : ℕ) (one : Kept) → slice_get kept index ≡ Some one
    → slice_get (payloads_on kept one.disk) (length (payloads_on (take index kept) one.disk)) ≡ Some one.payload
stands_on [] index one e = absurd (cc)
stands_on (first ∷ kept) zero one e =
    let same : first ≡ one = cc in
    let here : (first.disk == one.disk) ≡ true = eq-eqb first.disk one.disk (ap (λ (k : Kept). k.disk) same) in
    subst (λ (b : Bool). slice_get (cond b (first.payload ∷ payloads_on kept one.disk) (payloads_on kept one.disk)) 0 ≡ Some one.payload) (sym here)
    (ap (λ (k : Kept). Some k.payload) same)
stands_on (first ∷ kept) (suc index) one e = at (first.disk == one.disk) (stands_on kept index one e)
  where
    at : (b : Bool) → slice_get (payloads_on kept one.disk) (length (payloads_on (take index kept) one.disk)) ≡ Some one.payload
        → slice_get (cond b (first.payload ∷ payloads_on kept one.disk) (payloads_on kept one.disk))
        (length (cond b (first.payload ∷ payloads_on (take index kept) one.disk) (payloads_on (take index kept) one.disk))) ≡ Some one.payload
    at true h = h
    at false h = h

-- where a payload of a disk's list was kept
pub record KeptAt (kept : List Kept) (disk offset : ℕ) (payload : List ℕ) : Type 0 where
  pub index : ℕ
  pub one : Kept
  pub there : slice_get kept index ≡ Some one
  pub on : one.disk ≡ disk
  pub behind : length (payloads_on (take index kept) disk) ≡ offset
  pub is : one.payload ≡ payload

pub kept_at : (kept : List Kept) (disk offset : ℕ) (payload : List ℕ) → slice_get (payloads_on kept disk) offset ≡ Some payload → KeptAt kept disk offset payload
kept_at [] disk offset payload e = absurd (cc)
kept_at (first ∷ kept) disk offset payload e = at (first.disk == disk) refl offset e (λ o h. kept_at kept disk o payload h)
  where
    at : (b : Bool) → (first.disk == disk) ≡ b → (offset : ℕ) → slice_get (cond b (first.payload ∷ payloads_on kept disk) (payloads_on kept disk)) offset ≡ Some payload
        → ((o : ℕ) → slice_get (payloads_on kept disk) o ≡ Some payload → KeptAt kept disk o payload) → KeptAt (first ∷ kept) disk offset payload
    at true is zero e later = record { index = 0; one = first; there = refl; on = eqb-true first.disk disk is; behind = refl; is = cc }
    at true is (suc offset) e later =
        let found = later offset e in
        record {
          index = suc found.index;
          one = found.one;
          there = found.there;
          on = found.on;
          behind = subst (λ (b : Bool). length (cond b (first.payload ∷ payloads_on (take found.index kept) disk) (payloads_on (take found.index kept) disk)) ≡ suc offset) (sym is) (ap (λ n. suc n) found.behind);
          is = found.is;
        }
    at false is offset e later =
        let found = later offset e in
        record {
          index = suc found.index;
          one = found.one;
          there = found.there;
          on = found.on;
          behind = subst (λ (b : Bool). length (cond b (first.payload ∷ payloads_on (take found.index kept) disk) (payloads_on (take found.index kept) disk)) ≡ offset) (sym is) found.behind;
          is = found.is;
        }

pub sound_each : (config : Shape) (run : ℕ) (kept : List Kept) → IsSound config run (payloads_on kept) → (index : ℕ) → IsSoundOne config run kept index
sound_each config run kept sound index one there =
    sound one.disk (length (payloads_on (take index kept) one.disk)) one.payload (stands_on kept index one there)

pub sound_all : (config : Shape) (run : ℕ) (kept : List Kept) → ((index : ℕ) → IsSoundOne config run kept index) → IsSound config run (payloads_on kept)
sound_all config run kept each disk offset payload e =
    let found = kept_at kept disk offset payload e in
    subst (λ (x : ℕ × ℕ × List ℕ). IsSoundAt config (IsBefore run) (payloads_on kept) x.0 x.1 x.2)
    (λ j. (found.on j, behind found j, found.is j)) (each found.index found.one found.there)
  where
    behind : (found : KeptAt kept disk offset payload) → length (payloads_on (take found.index kept) found.one.disk) ≡ offset
    behind found = subst (λ d. length (payloads_on (take found.index kept) d) ≡ offset) (sym found.on) found.behind
