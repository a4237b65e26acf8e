-- Each answer is given exactly where it is true: at most one is.
use Rattle.std.proofs.Common.{◌≡◌, ℕ, ◌<◌, Bool, true, false, List, length, refl, sym, ap, subst, ◌∙◌}
use Rattle.std.specs.Prelude.{IsTrue, ◌↔◌}
use Rattle.std.proofs.lemmas.Bool.{false≢true}
use Rattle.std.proofs.lemmas.Option.{same_Some, slice_get_within}
use Rattle.history_frame.specs.declared.events.Kept.{Kept}
use Rattle.log_base.specs.ClusterShape.{Shape}
use Rattle.node_model.specs.Sound.{BreaksFirst, IsSound, IsSoundOne, payloads_on}
use Rattle.node_model.proofs.Breaking.{first_is_break}
use Rattle.node_model.proofs.Sounding.{sound_all, sound_each}
use Rattle.kept_lists.specs.declared.sounding.Sounding.{Sounding}
use Rattle.kept_lists.specs.declared.sounding.Sounding.TheVariants.{Breaks, Sound}

-- what a contract says of an answer
abbrev pub IsTold : Shape → ℕ → List Kept → Sounding → Type 0
IsTold config run kept told =
    ((told ≡ Sound) ↔ IsSound config run (payloads_on kept)) × ((index : ℕ) → (told ≡ Breaks index) ↔ BreaksFirst config run kept index)

module _ (config : Shape) (run : ℕ) (kept : List Kept) where
  one_first : (index other : ℕ) → BreaksFirst config run kept index → BreaksFirst config run kept other → index ≡ other
  one_first index other a b = same_Some index other (sym (first_is_break config run kept index a) ∙ first_is_break config run kept other b)

  not_sound : (index : ℕ) → Breaks index ≡ Sound → ⊥
  not_sound index e = cc

  same_index : (index other : ℕ) → Breaks index ≡ Breaks other → index ≡ other
  same_index index other e = cc

  pub breaks_told : (index : ℕ) → BreaksFirst config run kept index → IsTold config run kept (Breaks index)
  breaks_told index first = (
    (λ e. absurd (not_sound index e), λ sound. absurd (first.breaks (sound_each config run kept sound index))),
    λ other. (
      λ e. subst (BreaksFirst config run kept) (same_index index other e) first,
      λ another. ap (λ n. Breaks n) (one_first index other first another),
    ),
  )

  pub first_told : (index : ℕ) → index < length kept → (IsSoundOne config run kept index → ⊥)
      → ((earlier : ℕ) → earlier < index → IsSoundOne config run kept earlier) → IsTold config run kept (Breaks index)
  first_told index within breaks before = breaks_told index (record { within = within; breaks = breaks; before = before })

  pub sound_told : ((index : ℕ) → index < length kept → IsSoundOne config run kept index) → IsTold config run kept Sound
  sound_told each = (
    (λ e. sound, λ s. refl),
    λ index. (λ e. absurd (not_sound index (sym e)), λ first. absurd (first.breaks (each index first.within))),
  )
    where
      sound : IsSound config run (payloads_on kept)
      sound = sound_all config run kept (λ index one there. each index (slice_get_within kept index one there) one there)

-- what the test of one payload tells, of the same lists
module _ (config : Shape) (run : ℕ) (kept held : List Kept) (index : ℕ) (passed : Bool) (same : held ≡ kept)
    (test : IsTrue passed ↔ IsSoundOne config run held index) where
  pub one_is_sound : passed ≡ true → IsSoundOne config run kept index
  one_is_sound is = subst (λ (l : List Kept). IsSoundOne config run l index) same (test.0 is)

  pub one_breaks : passed ≡ false → IsSoundOne config run kept index → ⊥
  one_breaks is sound = false≢true (sym is ∙ test.1 (subst (λ (l : List Kept). IsSoundOne config run l index) (sym same) sound))
