-- Lengths that are read are spelled so, and what is spelled is read.
use Rattle.std.proofs.Common.{◌≡◌, ℕ, zero, suc, ◌+◌, ◌*◌, ◌-◌, ◌<◌, ◌≤◌, Bool, true, false, cond, eqb, ltb, List, [], ◌∷◌, ◌++◌, length, get_or, take, drop, set, replicate, Result, Ok, Err, refl, sym, ap, subst, ◌∙◌, append_assoc, arith, inl, inr}
use Rattle.std.specs.Prelude.{◌||◌}
use Rattle.std.specs.List.{flat_map}
use Rattle.std.proofs.lemmas.Bool.{cases_lt, eqb-false, ltb-false, le-ltb, lt-ltb}
use Rattle.std.proofs.lemmas.List.{take_at, append-nil, drop-drop, drop-set-lt, drop-replicate, take-append-drop, length-append, length-replicate, length-take, length-take-le, length-drop, get_or-drop, get_or-take, get_or_past, get_or-replicate, get_or-append_right, get_or_append_left, ext_get_or}
use Rattle.std.proofs.lemmas.List.Concat.{flat_map-cons}
use Rattle.std.proofs.Math.Dec.{eqb-suc-zero}
use Rattle.log_base.specs.Wide.{IsBytes, be4}
use Rattle.log_base.proofs.Wide.{length-be4}
use Rattle.record_frame.specs.declared.refusals.Refusal.{Refusal}
use Rattle.record_frame.specs.declared.refusals.Refusal.TheVariants.{BadNumber}
use Rattle.record_frame.specs.declared.values.Lengths.{Lengths}
use Rattle.record_frame.specs.Fields.{◌>>=◌, StandsAt, u8_at, u32_at}
use Rattle.record_frame.specs.Values.{IsLengths, lengths_spelling, meant_at, cells_at, lengths_at}
use Rattle.record_frame.proofs.FieldLaws.{bind_ok, passes, given, ok_is, StandsAt-then, StandsAt-front, StandsAt-back, u8_takes, u32_takes, u8_again, u32_again}

-- each number is a length that a segment may have
abbrev pub AreSmall : List ℕ → Type 0
AreSmall xs = (k : ℕ) → get_or xs k 0 ≤ 16384

-- how many bytes numbers of four bytes have together
pub length-numbers : (xs : List ℕ) → length (flat_map be4 xs) ≡ 4 * length xs
length-numbers [] = refl
length-numbers (x ∷ xs) = rw flat_map-cons (omega (arith, length-append (be4 x) (flat_map be4 xs), length-be4 x, length-numbers xs))

pub length-lengths_spelling : (lengths : Lengths) → lengths.count ≤ length lengths.length → length (lengths_spelling lengths) ≡ 1 + 4 * lengths.count
length-lengths_spelling lengths within = omega (arith, length-numbers (take lengths.count lengths.length), length-take-le lengths.count lengths.length within)

-- ---- the numbers behind the count

AreSmall-cons : (x : ℕ) (xs : List ℕ) → x ≤ 16384 → AreSmall xs → AreSmall (x ∷ xs)
AreSmall-cons x xs first rest zero = first
AreSmall-cons x xs first rest (suc k) = rest k

AreSmall-nil : AreSmall []
AreSmall-nil zero = omega arith
AreSmall-nil (suc k) = omega arith

meant_takes : (n : ℕ) (bytes : List ℕ) (at : ℕ) (x : List ℕ × ℕ) → IsBytes bytes → at ≤ length bytes → meant_at n bytes at ≡ Ok x
    → StandsAt bytes at (flat_map be4 x.0) x.1 × (length x.0 ≡ n) × AreSmall x.0
unfolding meant_at
meant_takes zero bytes at x fits within e =
    let none : StandsAt bytes at [] at = record { parts = refl; end = omega arith; within = within } in
    subst (λ (y : List ℕ × ℕ). StandsAt bytes at (flat_map be4 y.0) y.1 × (length y.0 ≡ 0) × AreSmall y.0) (ok_is ([], at) x e) (none, refl, AreSmall-nil)
meant_takes (suc n) bytes at x fits within e =
    let a = bind_ok (u32_at bytes at) (λ first. cond (ltb 16384 first.0) (Err (BadNumber at)) (meant_at n bytes first.1 >>= λ others. Ok (first.0 ∷ others.0, others.1))) x e in
    let p = passes (ltb 16384 a.0.0) (BadNumber at) (meant_at n bytes a.0.1 >>= λ others. Ok (a.0.0 ∷ others.0, others.1)) x a.2 in
    let b = bind_ok (meant_at n bytes a.0.1) (λ others. Ok (a.0.0 ∷ others.0, others.1)) x p.1 in
    let first = u32_takes bytes at a.0 fits a.1 in
    let others = meant_takes n bytes a.0.1 b.0 fits first.0.within b.1 in
    let both = StandsAt-then bytes at a.0.1 b.0.1 (be4 a.0.0) (flat_map be4 b.0.0) first.0 others.0 in
    let made : List ℕ × ℕ = (a.0.0 ∷ b.0.0, b.0.1) in
    subst (λ (y : List ℕ × ℕ). StandsAt bytes at (flat_map be4 y.0) y.1 × (length y.0 ≡ suc n) × AreSmall y.0) (ok_is made x b.2)
    (rw flat_map-cons both, ap suc others.1, AreSmall-cons a.0.0 b.0.0 (ltb-false _ _ p.0) others.2)

meant_again : (xs bytes : List ℕ) (at next : ℕ) → AreSmall xs → StandsAt bytes at (flat_map be4 xs) next → meant_at (length xs) bytes at ≡ Ok (xs, next)
unfolding meant_at
meant_again [] bytes at next small stands =
    let end : at ≡ next = omega (arith, stands.end) in
    ap (λ (k : ℕ). given ([], k)) end
meant_again (x ∷ xs) bytes at next small stands =
    let both : StandsAt bytes at (be4 x ++ flat_map be4 xs) next = subst (λ (l : List ℕ). StandsAt bytes at l next) (flat_map-cons be4 x xs) stands in
    let first = u32_again bytes at x (at + length (be4 x)) (omega (arith, small 0)) (StandsAt-front bytes at next (be4 x) (flat_map be4 xs) both) in
    let short = le-ltb 16384 x (small 0) in
    let others = meant_again xs bytes (at + length (be4 x)) next (λ k. small (suc k)) (StandsAt-back bytes at next (be4 x) (flat_map be4 xs) both) in
    rw (first, short, others) refl

-- ---- the cells

zeros : (n k : ℕ) → get_or {A = ℕ} (replicate n 0) k 0 ≡ 0
zeros n k =
    elim (cases_lt k n) [
      | inl lt ↦ get_or-replicate n k 0 0 lt
      | inr le ↦ get_or_past (replicate n 0) k 0 (omega (arith, length-replicate {A = ℕ} n 0))
    ]

filled_rest : (xs : List ℕ) (n k : ℕ) → length xs ≤ k → get_or {A = ℕ} (xs ++ replicate n 0) k 0 ≡ 0
filled_rest xs n k le = get_or-append_right xs (replicate n 0) (length xs) k 0 refl le ∙ zeros n (k - length xs)

filled_small : (xs : List ℕ) (n k : ℕ) → AreSmall xs → k < length xs → get_or (xs ++ replicate n 0) k 0 ≤ 16384
filled_small xs n k small lt = rw (get_or_append_left xs (replicate n 0) 0 k lt) (small k)

-- what is 0 everywhere is only zeros
only_zeros : (xs : List ℕ) (n : ℕ) → length xs ≡ n → ((k : ℕ) → get_or xs k 0 ≡ 0) → replicate n 0 ≡ xs
only_zeros xs n size zero_at =
    ext_get_or 0 (replicate n 0) xs (length-replicate n 0 ∙ sym size) (λ k lt. zeros n k ∙ sym (zero_at k))

-- lengths are the ones that are meant, and zeros behind them
filled : (limit : ℕ) (lengths : Lengths) → limit ≤ 32 → IsLengths limit lengths → take lengths.count lengths.length ++ replicate (32 - lengths.count) 0 ≡ lengths.length
filled limit lengths le is =
    let rest : replicate (32 - lengths.count) 0 ≡ drop lengths.count lengths.length =
    only_zeros (drop lengths.count lengths.length) (32 - lengths.count) (length-drop lengths.count lengths.length ∙ ap (λ (n : ℕ). n - lengths.count) is.cells)
    (λ k. get_or-drop lengths.count lengths.length k 0 ∙ is.rest (lengths.count + k) (omega arith)) in
    ap (λ (l : List ℕ). take lengths.count lengths.length ++ l) rest ∙ take-append-drop lengths.count lengths.length

meant_small : (limit : ℕ) (lengths : Lengths) → IsLengths limit lengths → AreSmall (take lengths.count lengths.length)
meant_small limit lengths is k =
    elim (cases_lt k lengths.count) [
      | inl lt ↦ rw (get_or-take lengths.count lengths.length k 0 lt) (is.small k lt)
      | inr le ↦ rw (get_or_past (take lengths.count lengths.length) k 0 (omega (arith, length-take lengths.count lengths.length))) (omega arith)
    ]

-- ---- with the count

neither : (a b : Bool) → (a || b) ≡ false → (a ≡ false) × (b ≡ false)
neither true b e = absurd cc
neither false b e = (refl, e)

positive : (n : ℕ) → 1 ≤ n → eqb n 0 ≡ false
positive zero some = absurd (omega arith)
positive (suc n) some = eqb-suc-zero n

pub lengths_take : (limit : ℕ) (bytes : List ℕ) (at : ℕ) (x : Lengths × ℕ) → limit ≤ 32 → IsBytes bytes → lengths_at limit bytes at ≡ Ok x
    → IsLengths limit x.0 × StandsAt bytes at (lengths_spelling x.0) x.1
unfolding lengths_at cells_at
lengths_take limit bytes at x le fits e =
    let a = bind_ok (u8_at bytes at) (λ count. cond (eqb count.0 0 || ltb limit count.0) (Err (BadNumber at)) (cells_at count.0 bytes count.1 >>= λ cells. Ok (record { count = count.0; length = cells.0 }, cells.1))) x e in
    let p = passes (eqb a.0.0 0 || ltb limit a.0.0) (BadNumber at) (cells_at a.0.0 bytes a.0.1 >>= λ cells. Ok (record { count = a.0.0; length = cells.0 }, cells.1)) x a.2 in
    let b = bind_ok (cells_at a.0.0 bytes a.0.1) (λ cells. Ok (record { count = a.0.0; length = cells.0 }, cells.1)) x p.1 in
    let c = bind_ok (meant_at a.0.0 bytes a.0.1) (λ meant. Ok (meant.0 ++ replicate (32 - a.0.0) 0, meant.1)) b.0 b.1 in
    let first = u8_takes bytes at a.0 fits a.1 in
    let meant = meant_takes a.0.0 bytes a.0.1 c.0 fits first.0.within c.1 in
    let tests = neither (eqb a.0.0 0) (ltb limit a.0.0) p.0 in
    let some : 1 ≤ a.0.0 = omega (arith, eqb-false a.0.0 0 tests.0) in
    let few : a.0.0 ≤ limit = ltb-false _ _ tests.1 in
    let made : Lengths = record { count = a.0.0; length = c.0.0 ++ replicate (32 - a.0.0) 0 } in
    let is : IsLengths limit made = record {
      some = some;
      count = few;
      cells = omega (arith, length-append c.0.0 (replicate (32 - a.0.0) 0), length-replicate {A = ℕ} (32 - a.0.0) 0, meant.1);
      small = λ k lt. filled_small c.0.0 (32 - a.0.0) k meant.2 (omega (arith, meant.1));
      rest = λ k past. filled_rest c.0.0 (32 - a.0.0) k (omega (arith, meant.1));
    } in
    let text : StandsAt bytes at (lengths_spelling made) c.0.1 =
    subst (λ (l : List ℕ). StandsAt bytes at (a.0.0 ∷ flat_map be4 l) c.0.1) (sym (take_at c.0.0 (replicate (32 - a.0.0) 0) a.0.0 meant.1))
    (StandsAt-then bytes at a.0.1 c.0.1 (a.0.0 ∷ []) (flat_map be4 c.0.0) first.0 meant.0) in
    let cells_are : Lengths × ℕ → Type 0 = λ y. IsLengths limit y.0 × StandsAt bytes at (lengths_spelling y.0) y.1 in
    let by_cells : cells_are (record { count = a.0.0; length = b.0.0 }, b.0.1) =
    subst (λ (y : List ℕ × ℕ). cells_are (record { count = a.0.0; length = y.0 }, y.1)) (ok_is (c.0.0 ++ replicate (32 - a.0.0) 0, c.0.1) b.0 c.2) (is, text) in
    subst cells_are (ok_is (record { count = a.0.0; length = b.0.0 }, b.0.1) x b.2) by_cells

pub lengths_again : (limit : ℕ) (bytes : List ℕ) (at next : ℕ) (lengths : Lengths) → limit ≤ 32 → IsLengths limit lengths → StandsAt bytes at (lengths_spelling lengths) next
    → lengths_at limit bytes at ≡ Ok (lengths, next)
unfolding lengths_at cells_at
lengths_again limit bytes at next lengths le is stands =
    let meant = take lengths.count lengths.length in
    let first = u8_again bytes at lengths.count (at + 1) (omega (arith, is.count)) (StandsAt-front bytes at next (lengths.count ∷ []) (flat_map be4 meant) stands) in
    let some : eqb lengths.count 0 ≡ false = positive lengths.count is.some in
    let few : ltb limit lengths.count ≡ false = le-ltb limit lengths.count is.count in
    let size : length meant ≡ lengths.count = length-take-le lengths.count lengths.length (omega (arith, is.cells, is.count)) in
    let read : meant_at lengths.count bytes (at + 1) ≡ Ok (meant, next) =
    subst (λ (n : ℕ). meant_at n bytes (at + 1) ≡ Ok (meant, next)) size
    (meant_again meant bytes (at + 1) next (meant_small limit lengths is) (StandsAt-back bytes at next (lengths.count ∷ []) (flat_map be4 meant) stands)) in
    rw (first, some, few, read, filled limit lengths le is) refl

-- lengths whose parts are read
pub lengths_behind_count : (limit : ℕ) (bytes : List ℕ) (at count place : ℕ) (x : List ℕ × ℕ) → limit ≤ 32 → IsBytes bytes → given (count, place) ≡ u8_at bytes at → 1 ≤ count → count ≤ limit
    → given x ≡ cells_at count bytes place → IsLengths limit (record { count = count; length = x.0 }) × StandsAt bytes at (lengths_spelling (record { count = count; length = x.0 })) x.1
unfolding lengths_at
lengths_behind_count limit bytes at count place x le fits first some few cells =
    let not_none = positive count some in
    let short = le-ltb limit count few in
    let read : lengths_at limit bytes at ≡ Ok (record { count = count; length = x.0 }, x.1) = rw (← first, not_none, short, ← cells) refl in
    lengths_take limit bytes at (record { count = count; length = x.0 }, x.1) le fits read

-- ---- reading in a loop

-- the numbers read before, and what is still read
abbrev pub with_front : List ℕ → Result (List ℕ × ℕ) Refusal → Result (List ℕ × ℕ) Refusal
with_front front read = read >>= λ x. Ok (front ++ x.0, x.1)

-- the numbers read in the first of 32 cells, the others 0
abbrev pub filled_up : ℕ → Result (List ℕ × ℕ) Refusal → Result (List ℕ × ℕ) Refusal
filled_up n read = read >>= λ meant. Ok (meant.0 ++ replicate (32 - n) 0, meant.1)

regroup : (front : List ℕ) (n : ℕ) (read : Result (List ℕ × ℕ) Refusal) → with_front front (read >>= λ x. Ok (n ∷ x.0, x.1)) ≡ with_front (front ++ n ∷ []) read
regroup front n (Ok x) = ap (λ (ns : List ℕ). given (ns, x.1)) (simp append_assoc)
regroup front n (Err refusal) = refl

-- one more number that is no longer than a segment
pub goes_on : (front bytes : List ℕ) (count i at n next : ℕ) (total : Result (List ℕ × ℕ) Refusal) → i < count → u32_at bytes at ≡ Ok (n, next) → n ≤ 16384
    → with_front front (meant_at (count - i) bytes at) ≡ total → with_front (front ++ n ∷ []) (meant_at (count - (i + 1)) bytes next) ≡ total
unfolding meant_at
goes_on front bytes count i at n next total lt read small so_far =
    let k : count - i ≡ suc (count - (i + 1)) = omega arith in
    let short = le-ltb 16384 n small in
    let one : with_front front (meant_at (count - i) bytes at) ≡ with_front (front ++ n ∷ []) (meant_at (count - (i + 1)) bytes next) =
    rw (k, read, short) (regroup front n (meant_at (count - (i + 1)) bytes next)) in
    sym one ∙ so_far

-- a number that is not there
pub stops : (refusal : Refusal) (front bytes : List ℕ) (count i at : ℕ) (total : Result (List ℕ × ℕ) Refusal) → i < count → u32_at bytes at ≡ Err refusal
    → with_front front (meant_at (count - i) bytes at) ≡ total → total ≡ Err refusal
unfolding meant_at
stops refusal front bytes count i at total lt read so_far =
    let k : count - i ≡ suc (count - (i + 1)) = omega arith in
    let one : with_front front (meant_at (count - i) bytes at) ≡ Err refusal = rw (k, read) refl in
    sym so_far ∙ one

-- a number that is longer than a segment
pub too_big : (front bytes : List ℕ) (count i at n next : ℕ) (total : Result (List ℕ × ℕ) Refusal) → i < count → u32_at bytes at ≡ Ok (n, next) → 16384 < n
    → with_front front (meant_at (count - i) bytes at) ≡ total → total ≡ Err (BadNumber at)
unfolding meant_at
too_big front bytes count i at n next total lt read big so_far =
    let k : count - i ≡ suc (count - (i + 1)) = omega arith in
    let long = lt-ltb 16384 n big in
    let one : with_front front (meant_at (count - i) bytes at) ≡ Err (BadNumber at) = rw (k, read, long) refl in
    sym so_far ∙ one

-- all numbers are read
pub is_done : (cells bytes : List ℕ) (count i at : ℕ) (total : Result (List ℕ × ℕ) Refusal) → i ≡ count
    → with_front (take i cells) (meant_at (count - i) bytes at) ≡ total → drop i cells ≡ replicate (32 - i) 0
    → filled_up count total ≡ Ok (cells, at)
unfolding meant_at
is_done cells bytes count i at total all so_far rest =
    let k : count - i ≡ 0 = omega arith in
    let one : with_front (take i cells) (meant_at (count - i) bytes at) ≡ Ok (take i cells, at) = rw k (ap (λ (ns : List ℕ). given (ns, at)) (append-nil (take i cells))) in
    let whole : take i cells ++ replicate (32 - count) 0 ≡ cells =
    ap (λ (n : ℕ). take i cells ++ replicate (32 - n) 0) (sym all) ∙ ap (λ (l : List ℕ). take i cells ++ l) (sym rest) ∙ take-append-drop i cells in
    ap (filled_up count) (sym so_far ∙ one) ∙ ap (λ (l : List ℕ). given (l, at)) whole

-- there is a cell for the next number
pub cell_left : (cells : List ℕ) (i : ℕ) → i < 32 → drop i cells ≡ replicate (32 - i) 0 → i < length cells
cell_left cells i lt rest = omega (arith, ap length rest, length-drop i cells, length-replicate {A = ℕ} (32 - i) 0)

-- the cells behind the one that is written
pub rest_kept : (cells : List ℕ) (i n : ℕ) → i < length cells → drop i cells ≡ replicate (32 - i) 0 → drop (i + 1) (set cells i n) ≡ replicate (32 - (i + 1)) 0
rest_kept cells i n lt rest =
    drop-set-lt (i + 1) cells i n (omega arith) ∙ sym (drop-drop 1 i cells) ∙ ap (drop 1) rest ∙ drop-replicate 1 (32 - i) 0 ∙ ap (λ (k : ℕ). replicate k 0) (let e : 32 - i - 1 ≡ 32 - (i + 1) = omega arith in e)
