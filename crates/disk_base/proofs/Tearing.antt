-- What a crash may leave of several writes.
use Rattle.std.proofs.Common.{◌≡◌, ◌⊎◌, inl, inr, ℕ, ◌+◌, ◌-◌, ◌<◌, ◌≤◌, max, List, [], ◌∷◌, ◌++◌, length, take, drop, get_or, refl, sym, ap, ◌∙◌, subst, arith, append_assoc}
use Rattle.std.proofs.lemmas.List.{length-append, length-take, length-drop, length-take-le, take_at, drop_at, drop-drop, get_or-take, get_or-drop}
use Rattle.disk_base.specs.Images.{Torn, TornBy, Range, IsOutside, end_of, overwritten}

-- a write may be lost whole
pub torn_lost : (at n : ℕ) (old : List ℕ) → Torn at n old old
torn_lost at n old = record { before = refl; after = refl; no_shorter = omega arith; no_longer = omega arith }

pub lost : (ranges : List Range) (old : List ℕ) → TornBy ranges old old
lost [] old = refl
lost (range ∷ ranges) old = (old, torn_lost range.at range.count old, lost ranges old)

-- or come through whole
pub length-overwritten : (at : ℕ) (bytes old : List ℕ) → at ≤ length old → length (overwritten old at bytes) ≡ max (length old) (at + length bytes)
length-overwritten at bytes old within =
    simp (length-append, length-take, length-drop) (omega arith)

pub whole : (at : ℕ) (bytes old : List ℕ) → at ≤ length old → Torn at (length bytes) old (overwritten old at bytes)
whole at bytes old within =
    let size = length-overwritten at bytes old within in
    let front : length (take at old) ≡ at = length-take-le at old within in
    record {
      before = ap (λ (l : List ℕ). take at l) (append_assoc (take at old) bytes (drop (at + length bytes) old)) ∙ take_at (take at old) (bytes ++ drop (at + length bytes) old) at front;
      after = drop_at (take at old ++ bytes) (drop (at + length bytes) old) (at + length bytes) (omega (arith, length-append (take at old) bytes, front));
      no_shorter = omega (arith, size);
      no_longer = omega (arith, size);
    }

pub joined : (some more : List Range) (old between new : List ℕ) → TornBy some old between → TornBy more between new → TornBy (some ++ more) old new
joined [] more old between new first then = subst (λ (l : List ℕ). TornBy more l new) first then
joined (range ∷ some) more old between new first then = (first.0, first.1, joined some more first.0 between new first.2 then)

pub split : (some more : List Range) (old new : List ℕ) → TornBy (some ++ more) old new → (between : List ℕ) × TornBy some old between × TornBy more between new
split [] more old new torn = (old, refl, torn)
split (range ∷ some) more old new torn =
    let rest = split some more torn.0 new torn.2 in (rest.0, (torn.0, torn.1, rest.1), rest.2)

-- a byte outside the range stays
torn_stays : (at n : ℕ) (old new : List ℕ) (k : ℕ) → Torn at n old new → (k < at) ⊎ (at + n ≤ k) → get_or new k 0 ≡ get_or old k 0
torn_stays at n old new k torn (inl below) =
    sym (get_or-take at new k 0 below) ∙ ap (λ (l : List ℕ). get_or l k 0) torn.before ∙ get_or-take at old k 0 below
torn_stays at n old new k torn (inr above) =
    let there : at + n + (k - (at + n)) ≡ k = omega arith in
    ap (λ (i : ℕ). get_or new i 0) (sym there) ∙ sym (get_or-drop (at + n) new (k - (at + n)) 0)
    ∙ ap (λ (l : List ℕ). get_or l (k - (at + n)) 0) torn.after
    ∙ get_or-drop (at + n) old (k - (at + n)) 0 ∙ ap (λ (i : ℕ). get_or old i 0) there

pub no_shorter : (ranges : List Range) (old new : List ℕ) → TornBy ranges old new → length old ≤ length new
no_shorter [] old new torn = let same : length new ≡ length old = ap length torn in omega arith
no_shorter (range ∷ ranges) old new torn =
    let rest = no_shorter ranges torn.0 new torn.2 in omega (arith, rest, torn.1.no_shorter)

pub stays : (ranges : List Range) (old new : List ℕ) (k : ℕ) → TornBy ranges old new → k < length old → IsOutside ranges k → get_or new k 0 ≡ get_or old k 0
stays [] old new k torn within outside = ap (λ (l : List ℕ). get_or l k 0) torn
stays (range ∷ ranges) old new k torn within outside =
    stays ranges torn.0 new k torn.2 (omega (arith, torn.1.no_shorter)) outside.1 ∙ torn_stays range.at range.count old torn.0 k torn.1 outside.0

-- a longer start gives no shorter end
end_of-mono : (ranges : List Range) (m n : ℕ) → m ≤ n → end_of ranges m ≤ end_of ranges n
end_of-mono [] m n le = le
end_of-mono (range ∷ ranges) m n le = end_of-mono ranges (max m (range.at + range.count)) (max n (range.at + range.count)) (omega arith)

pub no_longer : (ranges : List Range) (old new : List ℕ) → TornBy ranges old new → length new ≤ end_of ranges (length old)
no_longer [] old new torn = let same : length new ≡ length old = ap length torn in omega arith
no_longer (range ∷ ranges) old new torn =
    let rest = no_longer ranges torn.0 new torn.2 in
    let more = end_of-mono ranges (length torn.0) (max (length old) (range.at + range.count)) torn.1.no_longer in
    omega (arith, rest, more)

-- what a shorter write may leave a longer one may leave too
pub torn_wider : (at m n : ℕ) (old new : List ℕ) → m ≤ n → Torn at m old new → Torn at n old new
torn_wider at m n old new le torn = record {
  before = torn.before;
  after = further (n - m) (at + m) (at + n) new (omega arith) ∙ ap (λ (l : List ℕ). drop (n - m) l) torn.after ∙ sym (further (n - m) (at + m) (at + n) old (omega arith));
  no_shorter = torn.no_shorter;
  no_longer = omega (arith, torn.no_longer);
}
  where
    further : (more from to : ℕ) (l : List ℕ) → from + more ≡ to → drop to l ≡ drop more (drop from l)
    further more from to l is = ap (λ (k : ℕ). drop k l) (sym is) ∙ sym (drop-drop more from l)
