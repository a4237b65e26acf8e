-- Counts of faults: how they rise from one time to the next.
use Rattle.std.proofs.Common.{◌≡◌, ◌⊎◌, ◌<◌, ◌≤◌, ◌+◌, ◌-◌, ◌^◌, ℕ, zero, suc, min, Bool, List, length, refl, sym, ap, subst, inl, inr, ⊎_elim, arith, ◌∙◌}
use Rattle.std.specs.Prelude.{IsTrue}
use Rattle.std.proofs.lemmas.Bool.{cases_eq, cases_lt}
use Rattle.std.proofs.lemmas.List.{get_or_past}
use Rattle.shard_replica.specs.Lists.{Medium, medium_at, no_medium}
use Rattle.storage_node.specs.Counting.{CountsOn}
use Rattle.storage_node.specs.Opening.{RoseIn}
use Rattle.counted_node.specs.Causes.{AllKeep, IsAtLast, IsCounted, NoneRose, OneRose, rise}

-- ---- one count, up to its last value

rose_earlier_to : (last before between now : ℕ) → before ≤ between → min (between + 1) last ≤ now → min (before + 1) last ≤ now
rose_earlier_to last before between now h rose = omega arith

rose_later_to : (last before between now : ℕ) → between ≤ now → min (before + 1) last ≤ between → min (before + 1) last ≤ now
rose_later_to last before between now h rose = omega arith

rose_some_to : (last before now : ℕ) → 0 < last → min (before + 1) last ≤ now → 0 < now
rose_some_to last before now some rose = omega arith

rose_or_last_to : (last before now : ℕ) → min (before + 1) last ≤ now → (before + 1 ≤ now) ⊎ (last ≤ now)
rose_or_last_to last before now rose = elim (cases_lt now last) [ inl below ↦ inl (omega arith) | inr past ↦ inr past ]

pub rose_to : (last before now : ℕ) → before + 1 ≤ now → min (before + 1) last ≤ now
rose_to last before now h = omega arith

pub last_rose_to : (last before now : ℕ) → last ≤ now → min (before + 1) last ≤ now
last_rose_to last before now h = omega arith

-- ---- no count falls

pub counts_same : (media : List Medium) → CountsOn media media
counts_same media = record { later = λ k. omega arith; keeps_synced = λ k. refl }

pub counts_then : (first old new : List Medium) → CountsOn first old → CountsOn old new → CountsOn first new
counts_then first old new a b = record {
  later = λ k. let x = a.later k in let y = b.later k in omega (arith, x, y);
  keeps_synced = λ k. b.keeps_synced k ∙ a.keeps_synced k;
}

-- what keeps synced bytes still does
pub keeps_on : (old new : List Medium) (count : ℕ) → CountsOn old new → AllKeep old count → AllKeep new count
keeps_on old new count c keep = λ k low. subst (λ (b : Bool). IsTrue b) (sym (c.keeps_synced k)) (keep k low)

-- the journals past the last one keep synced bytes too
pub keeps_all : (media : List Medium) (count : ℕ) → length media ≤ count → AllKeep media count → (k : ℕ) → IsTrue (medium_at media k).keeps_synced
keeps_all media count few keep k = elim (cases_lt k count) [
  | inl low ↦ keep k low
  | inr past ↦ subst (λ (m : Medium). IsTrue m.keeps_synced) (sym (get_or_past media k no_medium (omega (arith, few, past)))) refl
]

-- a count that rose is that of a journal
pub rose_below : (old new : List Medium) (count : ℕ) → length new ≤ count → RoseIn old new → OneRose old new count
rose_below old new count few (k, rose) = elim (cases_lt k count) [
  | inl low ↦ (k, low, rose)
  | inr past ↦
      let none : (medium_at new k).faults ≡ 0 = ap (λ (m : Medium). m.faults) (get_or_past new k no_medium (omega (arith, few, past))) in
      let some : 0 < (medium_at new k).faults = rose_some_to (2 ^ 64 - 1) (medium_at old k).faults (medium_at new k).faults (omega arith) rose in
      absurd (omega (arith, none, some))
]

pub one_rose_earlier : (first old new : List Medium) (count : ℕ) → CountsOn first old → OneRose old new count → OneRose first new count
one_rose_earlier first old new count c (k, low, rose) =
    (k, low, rose_earlier_to (2 ^ 64 - 1) (medium_at first k).faults (medium_at old k).faults (medium_at new k).faults (c.later k) rose)

pub rose_in_later : (first old new : List Medium) → CountsOn old new → RoseIn first old → RoseIn first new
rose_in_later first old new c (k, rose) =
    (k, rose_later_to (2 ^ 64 - 1) (medium_at first k).faults (medium_at old k).faults (medium_at new k).faults (c.later k) rose)

-- ---- counts together

module _ (first old new : List Medium) (before : CountsOn first old) (after : CountsOn old new) where
  rise_later : (count : ℕ) → rise first old count ≤ rise first new count
  rise_later zero = omega arith
  rise_later (suc count) =
      let rest = rise_later count in let x = before.later count in let y = after.later count in omega (arith, rest, x, y)

  rise_more : (count k : ℕ) → k < count → (medium_at old k).faults + 1 ≤ (medium_at new k).faults → rise first old count + 1 ≤ rise first new count
  rise_more zero k low more = absurd (omega arith)
  rise_more (suc count) k low more = elim (cases_eq k count) [
    | inl same ↦
        let here : (medium_at old count).faults + 1 ≤ (medium_at new count).faults = subst (λ (n : ℕ). (medium_at old n).faults + 1 ≤ (medium_at new n).faults) same more in
        let rest = rise_later count in let x = before.later count in
        omega (arith, rest, x, here)
    | inr other ↦
        let rest = rise_more count k (omega arith) more in
        let x = before.later count in let y = after.later count in
        omega (arith, rest, x, y)
  ]

  last_later : (count : ℕ) → IsAtLast old count → IsAtLast new count
  last_later count (k, low, last) = (k, low, let y = after.later k in omega (arith, last, y))

  -- so many events stay counted
  pub counted_later : (count events : ℕ) → IsCounted first old count events → IsCounted first new count events
  counted_later count events (inl few) = inl (let more = rise_later count in omega (arith, few, more))
  counted_later count events (inr last) = inr (last_later count last)

  -- where a count rose, one event more is counted
  pub counted_more : (count events : ℕ) → IsCounted first old count events → OneRose old new count → IsCounted first new count (events + 1)
  counted_more count events (inr last) rose = inr (last_later count last)
  counted_more count events (inl few) (k, low, rose) = ⊎_elim
      (λ one. inl (let more = rise_more count k low one in omega (arith, few, more)))
      (λ last. inr (k, low, last))
      (rose_or_last_to (2 ^ 64 - 1) (medium_at old k).faults (medium_at new k).faults rose)

-- ---- where no count rose

none_rises : (old new : List Medium) (count : ℕ) → CountsOn old new → NoneRose old new count → rise old new count ≡ 0
none_rises old new zero c none = refl
none_rises old new (suc count) c none =
    let rest = none_rises old new count c (λ k low. none k (omega arith)) in
    elim (cases_lt (medium_at old count).faults (medium_at new count).faults) [
      | inl more ↦ absurd (none count (omega arith) (rose_to (2 ^ 64 - 1) (medium_at old count).faults (medium_at new count).faults (omega (arith, more))))
      | inr still ↦ omega (arith, rest, still)
    ]

pub none_counted : (old new : List Medium) (count events : ℕ) → CountsOn old new → NoneRose old new count → IsCounted old new count events → events ≡ 0
none_counted old new count events c none (inl few) = let still = none_rises old new count c none in omega (arith, few, still)
none_counted old new count events c none (inr (k, low, last)) =
    absurd (none k low (last_rose_to (2 ^ 64 - 1) (medium_at old k).faults (medium_at new k).faults last))
