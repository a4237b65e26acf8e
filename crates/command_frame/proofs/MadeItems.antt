-- Items that are made, one place after another.
use Rattle.std.proofs.Common.{◌≡◌, ℕ, zero, suc, ◌+◌, List, [], ◌∷◌, ◌++◌, map, sym, ◌∙◌, ap, append_assoc, add-one, length, length-append, arith}
use Rattle.std.specs.List.{flat_map, range_with_len}
use Rattle.std.proofs.lemmas.List.{append-nil}
use Rattle.std.proofs.lemmas.List.FromFn.{map-range_with_len_more}
use Rattle.std.proofs.lemmas.List.Concat.{flat_map-append}
use Rattle.log_base.specs.Wide.{be2, be4}
use Rattle.log_base.proofs.Wide.{length-be2}
use Rattle.reply_frame.specs.Frames.{frame}
use Rattle.command_frame.specs.Making.{next_number, number_after}

range_more_from : (from n : ℕ) → range_with_len from (suc n) ≡ range_with_len from n ++ (from + n) ∷ []
range_more_from from zero = let same : from ≡ from + 0 = omega arith in ap (λ (k : ℕ). k ∷ []) same
range_more_from from (suc n) =
    let same : from + 1 + n ≡ from + suc n = omega arith in
    ap (λ (l : List ℕ). from ∷ l) (range_more_from (from + 1) n ∙ ap (λ (k : ℕ). range_with_len (from + 1) n ++ k ∷ []) same)

range_more : (n : ℕ) → range_with_len 0 (n + 1) ≡ range_with_len 0 n ++ n ∷ []
range_more n =
    let same : 0 + n ≡ n = omega arith in
    ap (range_with_len 0) (add-one n) ∙ range_more_from 0 n ∙ ap (λ (k : ℕ). range_with_len 0 n ++ k ∷ []) same

-- the bytes of one place more
pub one_place_more : (bytes : ℕ → List ℕ) (n : ℕ) → flat_map bytes (range_with_len 0 (n + 1)) ≡ flat_map bytes (range_with_len 0 n) ++ bytes n
one_place_more bytes n =
    ap (flat_map bytes) (range_more n)
    ∙ flat_map-append bytes (range_with_len 0 n) (n ∷ [])
    ∙ ap (λ (l : List ℕ). flat_map bytes (range_with_len 0 n) ++ l) (append-nil (bytes n))

-- with them behind what was there
pub place_put : (before : List ℕ) (bytes : ℕ → List ℕ) (n : ℕ) (out now : List ℕ) → out ≡ before ++ flat_map bytes (range_with_len 0 n)
    → now ≡ out ++ bytes n → now ≡ before ++ flat_map bytes (range_with_len 0 (n + 1))
place_put before bytes n out now is put =
    put ∙ ap (λ (l : List ℕ). l ++ bytes n) is
    ∙ append_assoc before (flat_map bytes (range_with_len 0 n)) (bytes n)
    ∙ ap (λ (l : List ℕ). before ++ l) (sym (one_place_more bytes n))

-- the same for a single byte of each place
pub byte_put : (before : List ℕ) (byte : ℕ → ℕ) (n : ℕ) (out now : List ℕ) → out ≡ before ++ map byte (range_with_len 0 n)
    → now ≡ out ++ byte n ∷ [] → now ≡ before ++ map byte (range_with_len 0 (n + 1))
byte_put before byte n out now is put =
    put ∙ ap (λ (l : List ℕ). l ++ byte n ∷ []) is
    ∙ append_assoc before (map byte (range_with_len 0 n)) (byte n ∷ [])
    ∙ ap (λ (l : List ℕ). before ++ l) (sym (map-range_with_len_more byte 0 n n (omega arith)))

-- the number of the next place
pub number_next : (seed place number next : ℕ) → number ≡ number_after seed place → next ≡ next_number number → next ≡ number_after seed (place + 1)
number_next seed place number next is steps =
    steps ∙ ap (λ (n : ℕ). next_number n) is ∙ ap (number_after seed) (sym (add-one place))

-- the length, a kind and a target, and what follows them
pub target_put : (before : List ℕ) (long kind lane shard replica : ℕ) (rest : List ℕ) → long ≡ length rest + 5
    → (before ++ be4 long) ++ (kind ∷ lane ∷ be2 shard ++ replica ∷ []) ++ rest ≡ before ++ frame kind (lane ∷ be2 shard ++ replica ∷ rest)
target_put before long kind lane shard replica rest is =
    let body : (kind ∷ lane ∷ be2 shard ++ replica ∷ []) ++ rest ≡ kind ∷ lane ∷ be2 shard ++ replica ∷ rest
    = ap (λ (l : List ℕ). kind ∷ lane ∷ l) (append_assoc (be2 shard) (replica ∷ []) rest) in
    let size : long ≡ length (lane ∷ be2 shard ++ replica ∷ rest) + 1 = omega (arith, length-append (be2 shard) (replica ∷ rest), length-be2 shard) in
    append_assoc (before ++ be4 long) (kind ∷ lane ∷ be2 shard ++ replica ∷ []) rest
    ∙ ap (λ (l : List ℕ). (before ++ be4 long) ++ l) body
    ∙ append_assoc before (be4 long) (kind ∷ lane ∷ be2 shard ++ replica ∷ rest)
    ∙ ap (λ (n : ℕ). before ++ (be4 n ++ (kind ∷ lane ∷ be2 shard ++ replica ∷ rest))) size
